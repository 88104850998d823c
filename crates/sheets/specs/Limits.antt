-- The limits of every number on a sheet, in the order of the sheet's message. Assumes nothing.
use Rattle.std.specs.Prelude.{List, [], ◌∷◌}
use Rattle.tables.specs.declared.limits.Limit.{Limit}
use Rattle.tables.specs.declared.limits.Limit.TheVariants.{Between, Diameter, Zone, Concrete}

-- the limits that several sheets share
abbrev mark : Limit
mark = Between 1 65535

abbrev strength : Limit
strength = Between 100 300

abbrev side : Limit
side = Between 100 2000

abbrev bar_count : Limit
bar_count = Between 1 100

abbrev spacing : Limit
spacing = Between 1 500

abbrev shear : Limit
shear = Between 0 10000000

abbrev shear_area : Limit
shear_area = Between 1 5000000

abbrev storey : Limit
storey = Between 1 40

-- a beam's numbers in the order of its message
abbrev pub beam_limits : List Limit
beam_limits = mark ∷ Zone ∷ Concrete ∷ strength ∷ side ∷ side ∷ bar_count ∷ Diameter ∷ bar_count ∷ Diameter ∷ Diameter ∷ spacing ∷ shear ∷ shear_area ∷ Between 0 20 ∷ Diameter ∷ []

-- a column's
abbrev pub column_limits : List Limit
column_limits = mark ∷ Zone ∷ Concrete ∷ strength ∷ side ∷ side ∷ bar_count ∷ Diameter ∷ bar_count ∷ spacing ∷ spacing ∷ []

-- a wall's
abbrev pub wall_limits : List Limit
wall_limits = mark ∷ Zone ∷ Concrete ∷ strength ∷ storey ∷ storey ∷ Between 1 2 ∷ Between 50 600 ∷ Between 200 20000 ∷ Between 1000 200000 ∷ Between 500 20000 ∷ shear ∷ Between 0 100000000 ∷ shear_area ∷ Between 1 4 ∷ Diameter ∷ spacing ∷ Between 1 2000 ∷ Diameter ∷ spacing ∷ []
