-- The column book: what each article compares. Assumes nothing.
use Rattle.std.specs.Prelude.{true, List, [], ◌∷◌, ℕ, ◌*◌, ◌≤◌, min}
use Rattle.sheets.specs.declared.sheet.Bars.{Bars}
use Rattle.sheets.specs.declared.sheet.ColumnSheet.{ColumnSheet}
use Rattle.books.specs.Findings.{at_least, at_most}
use Rattle.books.specs.Meanings.{Meaning}
use Rattle.books.specs.declared.answers.Finding.{Finding}
use Rattle.members.specs.Areas.{area_of_bars, greatest_area, greatest_diameter, greatest_zone}
use Rattle.books.specs.Numbered.{numbered}
use Rattle.columns.specs.declared.articles.ColumnSizes.{ColumnSizes}
use Rattle.members.specs.declared.member.Column.{Column}

-- the area of all bars
abbrev pub all_bars_area : ColumnSheet → ℕ
all_bars_area c = area_of_bars c.bars

-- the bars of the tension face, of the same diameter as all
abbrev pub tension_bars : ColumnSheet → Bars
tension_bars c = record { count = c.tension_count; diameter = c.bars.diameter }

-- their area
abbrev pub tension_area : ColumnSheet → ℕ
tension_area c = area_of_bars (tension_bars c)

-- the area of the section
abbrev pub section : ColumnSheet → ℕ
section c = c.width * c.height

-- the smaller side of the section
abbrev pub smaller_side : ColumnSheet → ℕ
smaller_side c = min c.width c.height

-- 5.6.2.4.1: the bars are at least a hundredth of the section
abbrev pub least_bar_area : ColumnSheet → Finding
least_bar_area c = at_least (100 * all_bars_area c) (section c)

-- 5.6.2.4.1: the bars are at most six hundredths of the section
abbrev pub most_bar_area : ColumnSheet → Finding
most_bar_area c = at_most (100 * all_bars_area c) (6 * section c)

-- 5.6.2.4.1: the bars of the tension face are at least four thousandths of the section
abbrev pub least_tension_area : ColumnSheet → Finding
least_tension_area c = at_least (1000 * tension_area c) (4 * section c)

-- 5.6.2.5.3: the confined spacing is at most half the smaller side
abbrev pub confined_by_side : ColumnSheet → Finding
confined_by_side c = at_most (2 * c.confined_spacing) (smaller_side c)

-- 5.6.2.5.3: the confined spacing is at most nine bar diameters
abbrev pub confined_by_diameter : ColumnSheet → Finding
confined_by_diameter c = at_most c.confined_spacing (9 * c.bars.diameter)

-- 5.6.2.5.3: the confined spacing is at most 100 mm
abbrev pub most_confined_spacing : ColumnSheet → Finding
most_confined_spacing c = at_most c.confined_spacing 100

-- 5.6.2.6: the normal spacing is at most a share of the smaller side, by zone
abbrev pub normal_by_side : ColumnSheet → Finding
normal_by_side c = at_most (1000 * c.normal_spacing) (6 * c.heading.zone * smaller_side c)

-- 5.6.2.6: the normal spacing is at most 200 mm
abbrev pub most_normal_spacing : ColumnSheet → Finding
most_normal_spacing c = at_most c.normal_spacing 200

-- the articles in the order of the book
abbrev pub column_articles : ColumnSheet → List Finding
column_articles c = least_bar_area c ∷ most_bar_area c ∷ least_tension_area c ∷ confined_by_side c ∷ confined_by_diameter c ∷ most_confined_spacing c ∷ normal_by_side c ∷ most_normal_spacing c ∷ []

-- how many there are
abbrev pub column_count : ℕ
column_count = 8

-- the column book takes every column
abbrev pub column_meaning : Meaning Column
column_meaning = record { takes = λ column. true; count = column_count; finding = λ column n. numbered (column_articles column.sheet) n }

-- the sizes that the articles compare
abbrev pub column_sizes : ColumnSheet → ColumnSizes
column_sizes c = record {
  zone = c.heading.zone;
  width = c.width;
  height = c.height;
  bars = all_bars_area c;
  tension = tension_area c;
  diameter = c.bars.diameter;
  confined = c.confined_spacing;
  normal = c.normal_spacing;
}

-- the bounds that the sizes of a lawful column keep
pub record ColumnBounds (s : ColumnSizes) : Type 0 where
  pub zone : s.zone ≤ greatest_zone
  pub width : s.width ≤ 2000
  pub height : s.height ≤ 2000
  pub bars : s.bars ≤ 100 * greatest_area
  pub tension : s.tension ≤ 100 * greatest_area
  pub diameter : s.diameter ≤ greatest_diameter
  pub confined : s.confined ≤ 500
  pub normal : s.normal ≤ 500
