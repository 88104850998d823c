-- What a limit is, and which numbers keep it. Assumes nothing.
use Rattle.std.specs.Prelude.{ℕ, Bool, true, false, ◌&&◌, List, [], ◌∷◌, is_some, nat_le}
use Rattle.tables.specs.Materials.{lookup, listed, bars, roots, zones}
use Rattle.tables.specs.declared.limits.Limit.{Limit}
use Rattle.tables.specs.declared.limits.Limit.TheVariants.{Between, Diameter, Zone, Concrete}

-- whether a number keeps a limit
abbrev pub within : Limit → ℕ → Bool
within (Between low high) n = nat_le low n && nat_le n high
within Diameter n = is_some (lookup bars n)
within Zone n = listed zones n
within Concrete n = is_some (lookup roots n)

-- whether each number keeps the limit at its place, and there are as many numbers as limits
unfoldable pub admitted : List Limit → List ℕ → Bool
admitted [] [] = true
admitted [] (n ∷ ns) = false
admitted (l ∷ ls) [] = false
admitted (l ∷ ls) (n ∷ ns) = within l n && admitted ls ns
