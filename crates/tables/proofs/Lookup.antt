-- What a look-up gives, in the library's words for a search of a list. Assumes nothing.
use Rattle.std.proofs.Common.{◌≡◌, ℕ, Bool, true, false, List, [], ◌∷◌, Option, Some, cond, option_map, find, refl, ◌==◌}
use Rattle.tables.specs.Materials.{lookup}
use Rattle.tables.specs.declared.materials.Entry.{Entry}

-- the value of a line that passes a test, or what the rest gives
one_line : (passes : Bool) (line : Entry) (rest : Option ℕ) (found : Option Entry) → rest ≡ option_map (λ l. l.value) found → cond passes (Some line.value) rest ≡ option_map (λ l. l.value) (cond passes (Some line) found)
one_line true line rest found e = refl
one_line false line rest found e = e

-- a look-up gives the value of the first line with the key
pub lookup_finds : (table : List Entry) (key : ℕ) → lookup table key ≡ option_map (λ l. l.value) (find (λ l. l.key == key) table)
lookup_finds [] key = refl
lookup_finds (line ∷ table) key = one_line (line.key == key) line _ _ (lookup_finds table key)
