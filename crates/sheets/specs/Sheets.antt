-- A sheet's numbers in the order of its message, and which sheets are lawful. Assumes nothing.
use Rattle.std.specs.Prelude.{Bool, List, [], ◌∷◌, ℕ, get_or}
use Rattle.tables.specs.Limits.{admitted}
use Rattle.sheets.specs.Limits.{beam_limits, column_limits, wall_limits}
use Rattle.sheets.specs.declared.sheet.Bars.{Bars}
use Rattle.sheets.specs.declared.sheet.Heading.{Heading}
use Rattle.sheets.specs.declared.sheet.Spaced.{Spaced}
use Rattle.sheets.specs.declared.sheet.BeamSheet.{BeamSheet}
use Rattle.sheets.specs.declared.sheet.ColumnSheet.{ColumnSheet}
use Rattle.sheets.specs.declared.sheet.WallSheet.{WallSheet}
use Rattle.sheets.specs.declared.sheet.Sheet.{Sheet}
use Rattle.sheets.specs.declared.sheet.Sheet.TheVariants as sheets
use Rattle.tables.specs.declared.codes.Kind.{Kind}
use Rattle.tables.specs.declared.codes.Kind.TheVariants as kinds

-- the parts that several sheets share, from the place where they stand in the list
abbrev heading_of : List ℕ → Heading
heading_of ns = record { mark = get_or ns 0 0; zone = get_or ns 1 0; concrete = get_or ns 2 0; strength = get_or ns 3 0 }

abbrev bars_at : ℕ → ℕ → List ℕ → Bars
bars_at i j ns = record { count = get_or ns i 0; diameter = get_or ns j 0 }

abbrev spaced_at : ℕ → ℕ → List ℕ → Spaced
spaced_at i j ns = record { diameter = get_or ns i 0; spacing = get_or ns j 0 }

-- the sheet of a list of numbers in the order of the message
abbrev pub beam_of : List ℕ → BeamSheet
beam_of ns = record {
  heading = heading_of ns;
  width = get_or ns 4 0;
  depth = get_or ns 5 0;
  top = bars_at 6 7 ns;
  bottom = bars_at 8 9 ns;
  stirrups = spaced_at 10 11 ns;
  shear = get_or ns 12 0;
  shear_area = get_or ns 13 0;
  face = bars_at 14 15 ns;
}

abbrev pub column_of : List ℕ → ColumnSheet
column_of ns = record {
  heading = heading_of ns;
  width = get_or ns 4 0;
  height = get_or ns 5 0;
  bars = bars_at 6 7 ns;
  tension_count = get_or ns 8 0;
  confined_spacing = get_or ns 9 0;
  normal_spacing = get_or ns 10 0;
}

abbrev pub wall_of : List ℕ → WallSheet
wall_of ns = record {
  heading = heading_of ns;
  storey = get_or ns 4 0;
  storeys = get_or ns 5 0;
  analysis = get_or ns 6 0;
  thickness = get_or ns 7 0;
  length = get_or ns 8 0;
  height = get_or ns 9 0;
  support = get_or ns 10 0;
  shear = get_or ns 11 0;
  compression = get_or ns 12 0;
  shear_area = get_or ns 13 0;
  layers = get_or ns 14 0;
  vertical = spaced_at 15 16 ns;
  vertical_count = get_or ns 17 0;
  horizontal = spaced_at 18 19 ns;
}

-- the numbers of a sheet in the order of the message
abbrev pub beam_numbers : BeamSheet → List ℕ
beam_numbers b = b.heading.mark ∷ b.heading.zone ∷ b.heading.concrete ∷ b.heading.strength ∷ b.width ∷ b.depth ∷ b.top.count ∷ b.top.diameter ∷ b.bottom.count ∷ b.bottom.diameter ∷ b.stirrups.diameter ∷ b.stirrups.spacing ∷ b.shear ∷ b.shear_area ∷ b.face.count ∷ b.face.diameter ∷ []

abbrev pub column_numbers : ColumnSheet → List ℕ
column_numbers c = c.heading.mark ∷ c.heading.zone ∷ c.heading.concrete ∷ c.heading.strength ∷ c.width ∷ c.height ∷ c.bars.count ∷ c.bars.diameter ∷ c.tension_count ∷ c.confined_spacing ∷ c.normal_spacing ∷ []

abbrev pub wall_numbers : WallSheet → List ℕ
wall_numbers w = w.heading.mark ∷ w.heading.zone ∷ w.heading.concrete ∷ w.heading.strength ∷ w.storey ∷ w.storeys ∷ w.analysis ∷ w.thickness ∷ w.length ∷ w.height ∷ w.support ∷ w.shear ∷ w.compression ∷ w.shear_area ∷ w.layers ∷ w.vertical.diameter ∷ w.vertical.spacing ∷ w.vertical_count ∷ w.horizontal.diameter ∷ w.horizontal.spacing ∷ []

-- a sheet is lawful when each of its numbers keeps its limit
abbrev pub lawful_beam : BeamSheet → Bool
lawful_beam b = admitted beam_limits (beam_numbers b)

abbrev pub lawful_column : ColumnSheet → Bool
lawful_column c = admitted column_limits (column_numbers c)

abbrev pub lawful_wall_sheet : WallSheet → Bool
lawful_wall_sheet w = admitted wall_limits (wall_numbers w)

-- the kind of a sheet
abbrev pub kind_on : Sheet → Kind
kind_on (sheets.Beam b) = kinds.Beam
kind_on (sheets.Column c) = kinds.Column
kind_on (sheets.Wall w) = kinds.Wall

-- the mark on a sheet
abbrev pub mark_on : Sheet → ℕ
mark_on (sheets.Beam b) = b.heading.mark
mark_on (sheets.Column c) = c.heading.mark
mark_on (sheets.Wall w) = w.heading.mark
