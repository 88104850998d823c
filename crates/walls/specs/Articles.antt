-- The wall book: what each article compares. Assumes nothing.
use Rattle.std.specs.Prelude.{ℕ, ◌+◌, ◌-◌, ◌*◌, ◌≤◌, min, if◌then◌else◌, List, [], ◌∷◌, Some, None, Option, nat_le, nat_lt}
use Rattle.tables.specs.Codes.{analysis_of}
use Rattle.tables.specs.declared.codes.Analysis.{Analysis}
use Rattle.tables.specs.declared.codes.Analysis.TheVariants.{Static, Dynamic}
use Rattle.sheets.specs.declared.sheet.Bars.{Bars}
use Rattle.sheets.specs.declared.sheet.Spaced.{Spaced}
use Rattle.sheets.specs.declared.sheet.WallSheet.{WallSheet}
use Rattle.members.specs.declared.member.Wall.{Wall}
use Rattle.books.specs.Findings.{at_least, at_most}
use Rattle.books.specs.Meanings.{Meaning}
use Rattle.books.specs.declared.answers.Finding.{Finding}
use Rattle.books.specs.declared.answers.Finding.TheVariants.{NotApplicable}
use Rattle.members.specs.Areas.{area_of_bars, greatest_area}
use Rattle.books.specs.Numbered.{numbered}
use Rattle.walls.specs.declared.articles.Mesh.{Mesh}
use Rattle.walls.specs.declared.articles.WallSizes.{WallSizes}

-- the mesh of these bars in the panel on this sheet
abbrev pub mesh_of : WallSheet → Spaced → Mesh
mesh_of w bars = record { thickness = w.thickness; layers = w.layers; bars = bars }

-- one bar in each layer
abbrev pub one_in_each_layer : Mesh → Bars
one_in_each_layer m = record { count = m.layers; diameter = m.bars.diameter }

-- the area of one bar in each layer
abbrev pub mesh_area : Mesh → ℕ
mesh_area m = area_of_bars (one_in_each_layer m)

-- the area of one horizontal bar in each layer
abbrev pub horizontal_area : WallSheet → ℕ
horizontal_area w = mesh_area (mesh_of w w.horizontal)

-- the bars are at least a four-hundredth of the wall
abbrev pub least_area : Mesh → Finding
least_area m = at_least (400 * mesh_area m) (m.thickness * m.bars.spacing)

-- the bars are at most a twentieth of the wall
abbrev pub most_area : Mesh → Finding
most_area m = at_most (20 * mesh_area m) (m.thickness * m.bars.spacing)

-- the bars are at most a tenth of the thickness
abbrev pub most_diameter : Mesh → Finding
most_diameter m = at_most (10 * m.bars.diameter) m.thickness

-- the bars are at least 8 mm
abbrev pub least_diameter : Mesh → Finding
least_diameter m = at_least m.bars.diameter 8

-- the bars are at most 200 mm apart
abbrev pub most_spacing : Mesh → Finding
most_spacing m = at_most m.bars.spacing 200

-- 6.4.1: the thickness is at least 150 mm, by zone
abbrev pub least_thickness : WallSheet → Finding
least_thickness w = at_least (w.thickness * w.heading.zone) 15000

-- 6.4.1: the thickness is at least a twentieth of the support distance, by zone
abbrev pub thickness_by_support : WallSheet → Finding
thickness_by_support w = at_least (w.thickness * w.heading.zone) (5 * w.support)

-- 6.7.1: the vertical bars are at least a four-hundredth of the wall
abbrev pub least_vertical_area : WallSheet → Finding
least_vertical_area w = least_area (mesh_of w w.vertical)

-- 6.7.1: the vertical bars are at most a twentieth of the wall
abbrev pub most_vertical_area : WallSheet → Finding
most_vertical_area w = most_area (mesh_of w w.vertical)

-- 6.7.2: the vertical bars are at most a tenth of the thickness
abbrev pub most_vertical_diameter : WallSheet → Finding
most_vertical_diameter w = most_diameter (mesh_of w w.vertical)

-- 6.7.2: the vertical bars are at least 8 mm
abbrev pub least_vertical_diameter : WallSheet → Finding
least_vertical_diameter w = least_diameter (mesh_of w w.vertical)

-- 6.7.4: there are at least two layers
abbrev pub least_layers : WallSheet → Finding
least_layers w = at_least w.layers 2

-- 6.7.4: the vertical bars are at most 200 mm apart
abbrev pub most_vertical_spacing : WallSheet → Finding
most_vertical_spacing w = most_spacing (mesh_of w w.vertical)

-- 6.8.1: the horizontal bars are at least a four-hundredth of the wall
abbrev pub least_horizontal_area : WallSheet → Finding
least_horizontal_area w = least_area (mesh_of w w.horizontal)

-- 6.8.2: the horizontal bars are at most a tenth of the thickness
abbrev pub most_horizontal_diameter : WallSheet → Finding
most_horizontal_diameter w = most_diameter (mesh_of w w.horizontal)

-- 6.8.3: the horizontal bars are at most 200 mm apart
abbrev pub most_horizontal_spacing : WallSheet → Finding
most_horizontal_spacing w = most_spacing (mesh_of w w.horizontal)

-- 6.3.4.1: the factor on the shear, in thousandths: it grows with the storeys under static analysis
abbrev pub factor_by : Option Analysis → ℕ → ℕ
factor_by (Some Static) storeys = min (1250 + 50 * (storeys - 1)) 2250
factor_by (Some Dynamic) storeys = 1250
factor_by None storeys = 1250

-- the shear that the wall carries, with its factor
abbrev pub factored_shear : Wall → ℕ
factored_shear w = factor_by (analysis_of w.sheet.analysis) w.sheet.storeys * w.carried

-- all vertical bars
abbrev pub vertical_bars : WallSheet → Bars
vertical_bars w = record { count = w.vertical_count; diameter = w.vertical.diameter }

-- their area
abbrev pub all_vertical_area : WallSheet → ℕ
all_vertical_area w = area_of_bars (vertical_bars w)

-- 6.6.4: the vertical bars and the compression hold the factored shear
abbrev pub least_hold_by_vertical_bars : Wall → Finding
least_hold_by_vertical_bars w = at_least (4200000 * all_vertical_area w.sheet + 7500 * w.sheet.compression) (13 * factored_shear w)

-- 6.6.3.4.1: in a slender wall the horizontal bars hold the factored shear; every storey counts as critical
abbrev pub least_hold_by_horizontal_bars : Wall → Finding
least_hold_by_horizontal_bars w =
    if nat_le (2 * w.sheet.length) w.sheet.height then at_least (420000 * horizontal_area w.sheet * w.sheet.shear_area) (factored_shear w * w.sheet.thickness * w.sheet.horizontal.spacing) else NotApplicable

-- the articles in the order of the book
abbrev pub wall_articles : Wall → List Finding
wall_articles w = least_thickness w.sheet ∷ thickness_by_support w.sheet ∷ least_vertical_area w.sheet ∷ most_vertical_area w.sheet ∷ most_vertical_diameter w.sheet ∷ least_vertical_diameter w.sheet ∷ least_layers w.sheet ∷ most_vertical_spacing w.sheet ∷ least_horizontal_area w.sheet ∷ most_horizontal_diameter w.sheet ∷ most_horizontal_spacing w.sheet ∷ least_hold_by_vertical_bars w ∷ least_hold_by_horizontal_bars w ∷ []

-- how many there are
abbrev pub wall_count : ℕ
wall_count = 13

-- 6.2: the wall book takes a wall that is over four times as long as it is thick
abbrev pub wall_meaning : Meaning Wall
wall_meaning = record {
  takes = λ wall. nat_lt (4 * wall.sheet.thickness) wall.sheet.length;
  count = wall_count;
  finding = λ wall n. numbered (wall_articles wall) n;
}

-- the sizes of the whole wall that the articles compare
abbrev pub wall_sizes : Wall → WallSizes
wall_sizes w = record {
  thickness = w.sheet.thickness;
  length = w.sheet.length;
  height = w.sheet.height;
  storeys = w.sheet.storeys;
  vertical = all_vertical_area w.sheet;
  horizontal = horizontal_area w.sheet;
  spacing = w.sheet.horizontal.spacing;
  compression = w.sheet.compression;
  carried = w.carried;
  shear_area = w.sheet.shear_area;
}

-- the bounds that the sizes of a lawful wall keep
pub record WallBounds (s : WallSizes) : Type 0 where
  pub thickness : s.thickness ≤ 600
  pub length : s.length ≤ 20000
  pub height : s.height ≤ 200000
  pub one_storey : 1 ≤ s.storeys
  pub storeys : s.storeys ≤ 40
  pub vertical : s.vertical ≤ 2000 * greatest_area
  pub horizontal : s.horizontal ≤ 4 * greatest_area
  pub spacing : s.spacing ≤ 500
  pub compression : s.compression ≤ 100000000
  pub carried : s.carried ≤ 10000000
  pub shear_area : s.shear_area ≤ 5000000
