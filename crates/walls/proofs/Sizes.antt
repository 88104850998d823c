-- The sizes of a lawful wall keep their bounds. Assumes nothing.
use Rattle.std.proofs.Common.{◌≡◌, ◌*◌, ◌≤◌, true, ◌&&◌, nat_le, lit<}
use Rattle.std.proofs.lemmas.Bool.{leb-true, and_parts}
use Rattle.sheets.specs.Limits.{wall_limits}
use Rattle.sheets.specs.Sheets.{wall_numbers, lawful_wall_sheet}
use Rattle.members.specs.Members.{lawful_wall}
use Rattle.members.specs.declared.member.Wall.{Wall}
use Rattle.members.proofs.Bounds.{bars_bounded}
use Rattle.members.proofs.Kept.{Keeps, keeps, least, most}
use Rattle.walls.specs.Articles.{mesh_of, wall_sizes, WallBounds, vertical_bars, one_in_each_layer}

-- a lawful wall keeps the limits of its sheet, and carries no more than any wall may
wall_keeps : (w : Wall) → lawful_wall w ≡ true → Keeps wall_limits (wall_numbers w.sheet) × (w.carried ≤ 10000000)
wall_keeps w lawful =
    let outer = and_parts (lawful_wall_sheet w.sheet && nat_le (7 * w.sheet.shear) (10 * w.carried)) (nat_le w.carried 10000000) lawful in
    let inner = and_parts (lawful_wall_sheet w.sheet) (nat_le (7 * w.sheet.shear) (10 * w.carried)) outer.0 in
    (keeps wall_limits (wall_numbers w.sheet) inner.0, leb-true w.carried 10000000 outer.1)

-- each size of a lawful wall keeps its bound
pub wall_bounded : (w : Wall) → lawful_wall w ≡ true → WallBounds (wall_sizes w)
wall_bounded w lawful =
    let kept = wall_keeps w lawful in
    let at = kept.0 in
    record {
      thickness = most 50 600 _ (at 7 (lit< tt));
      length = most 200 20000 _ (at 8 (lit< tt));
      height = most 1000 200000 _ (at 9 (lit< tt));
      one_storey = least 1 40 _ (at 5 (lit< tt));
      storeys = most 1 40 _ (at 5 (lit< tt));
      vertical = bars_bounded (vertical_bars w.sheet) 2000 (most 1 2000 _ (at 17 (lit< tt)));
      horizontal = bars_bounded (one_in_each_layer (mesh_of w.sheet w.sheet.horizontal)) 4 (most 1 4 _ (at 14 (lit< tt)));
      spacing = most 1 500 _ (at 19 (lit< tt));
      compression = most 0 100000000 _ (at 12 (lit< tt));
      carried = kept.1;
      shear_area = most 1 5000000 _ (at 13 (lit< tt));
    }
