-- The areas of bars and the roots of concrete types, by their tables, and the greatest of each. Assumes nothing.
use Rattle.std.specs.Prelude.{ℕ, ◌*◌, max, List, [], ◌∷◌}
use Rattle.std.specs.Option.{unwrap_or}
use Rattle.tables.specs.Materials.{lookup, bars, roots, zones}
use Rattle.tables.specs.declared.materials.Entry.{Entry}
use Rattle.sheets.specs.declared.sheet.Bars.{Bars}

-- the greatest number that the lines of a table have at one place
abbrev pub greatest : (Entry → ℕ) → List Entry → ℕ
greatest at [] = 0
greatest at (line ∷ table) = max (at line) (greatest at table)

-- the area in mm² of one bar of this diameter; 0 where no bar has it
unfoldable pub area : ℕ → ℕ
area diameter = unwrap_or (lookup bars diameter) 0

-- the area of the thickest bar
abbrev pub greatest_area : ℕ
greatest_area = greatest (λ line. line.value) bars

-- the diameter of the thickest bar
abbrev pub greatest_diameter : ℕ
greatest_diameter = greatest (λ line. line.key) bars

-- the area in mm² of a number of bars of one diameter
abbrev pub area_of_bars : Bars → ℕ
area_of_bars b = b.count * area b.diameter

-- 1,000 times the root of this concrete type, rounded down; 0 where no concrete has it
unfoldable pub root_of : ℕ → ℕ
root_of concrete = unwrap_or (lookup roots concrete) 0

-- the root of the strongest concrete type
abbrev pub greatest_root : ℕ
greatest_root = greatest (λ line. line.value) roots

-- the greatest number of a list
abbrev pub greatest_of : List ℕ → ℕ
greatest_of [] = 0
greatest_of (n ∷ ns) = max n (greatest_of ns)

-- the greatest zone factor, in hundredths
abbrev pub greatest_zone : ℕ
greatest_zone = greatest_of zones
