-- The sizes of a lawful column keep their bounds. Assumes nothing.
use Rattle.std.proofs.Common.{◌≡◌, true, lit<}
use Rattle.sheets.specs.Limits.{column_limits}
use Rattle.sheets.specs.Sheets.{column_numbers, lawful_column}
use Rattle.tables.specs.Materials.{zones}
use Rattle.sheets.specs.declared.sheet.ColumnSheet.{ColumnSheet}
use Rattle.members.proofs.Bounds.{diameter_bounded, bars_bounded, listed_bounded}
use Rattle.members.proofs.Kept.{keeps, most}
use Rattle.columns.specs.Articles.{column_sizes, ColumnBounds, tension_bars}

-- each size of a lawful column keeps its bound
pub column_bounded : (c : ColumnSheet) → lawful_column c ≡ true → ColumnBounds (column_sizes c)
column_bounded c lawful =
    let at = keeps column_limits (column_numbers c) lawful in
    record {
      zone = listed_bounded zones c.heading.zone (at 1 (lit< tt));
      width = most 100 2000 _ (at 4 (lit< tt));
      height = most 100 2000 _ (at 5 (lit< tt));
      bars = bars_bounded c.bars 100 (most 1 100 _ (at 6 (lit< tt)));
      tension = bars_bounded (tension_bars c) 100 (most 1 100 _ (at 8 (lit< tt)));
      diameter = diameter_bounded c.bars.diameter (at 7 (lit< tt));
      confined = most 1 500 _ (at 9 (lit< tt));
      normal = most 1 500 _ (at 10 (lit< tt));
    }
