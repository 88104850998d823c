-- The constant tables and how a number is looked up in one. Assumes nothing.
use Rattle.std.specs.Prelude.{ℕ, ◌+◌, ◌*◌, ◌<◌, ◌≤◌, Bool, true, false, cond, List, [], ◌∷◌, Some, None, Option, ◌==◌}
use Rattle.tables.specs.declared.materials.Entry.{Entry}

-- what the first line with this key gives
abbrev pub lookup : List Entry → ℕ → Option ℕ
lookup [] key = None
lookup (line ∷ table) key = cond (line.key == key) (Some line.value) (lookup table key)

-- whether the number stands in the list
abbrev pub listed : List ℕ → ℕ → Bool
listed [] n = false
listed (m ∷ ms) n = cond (m == n) true (listed ms n)

-- a line of a table
abbrev pub line : ℕ → ℕ → Entry
line k v = record { key = k; value = v }

-- the bar diameters in mm, each with the area of one bar in mm²
abbrev pub bars : List Entry
bars = line 6 28 ∷ line 8 50 ∷ line 10 79 ∷ line 12 113 ∷ line 16 201 ∷ line 20 314 ∷ line 25 491 ∷ []

-- the concrete types, each with 1,000 times its square root, rounded down
abbrev pub roots : List Entry
roots = line 17 4123 ∷ line 21 4582 ∷ line 30 5477 ∷ line 38 6164 ∷ line 47 6855 ∷ []

-- the zone factors in hundredths
abbrev pub zones : List ℕ
zones = 100 ∷ 105 ∷ 115 ∷ 125 ∷ []

-- r is 1,000 times the square root of the concrete type, rounded down
abbrev pub RootRoundedDown : ℕ → ℕ → Type 0
RootRoundedDown concrete r = (r * r ≤ 1000000 * concrete) × (1000000 * concrete < (r + 1) * (r + 1))
