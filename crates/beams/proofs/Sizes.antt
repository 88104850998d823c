-- The sizes of a lawful beam keep their bounds. Assumes nothing.
use Rattle.std.proofs.Common.{◌≡◌, true, lit<}
use Rattle.sheets.specs.Limits.{beam_limits}
use Rattle.sheets.specs.Sheets.{beam_numbers, lawful_beam}
use Rattle.tables.specs.Materials.{zones}
use Rattle.sheets.specs.declared.sheet.BeamSheet.{BeamSheet}
use Rattle.members.proofs.Bounds.{area_bounded, bars_bounded, root_bounded, listed_bounded}
use Rattle.members.proofs.Kept.{keeps, most}
use Rattle.beams.specs.Articles.{beam_sizes, BeamBounds}

-- each size of a lawful beam keeps its bound
pub beam_bounded : (b : BeamSheet) → lawful_beam b ≡ true → BeamBounds (beam_sizes b)
beam_bounded b lawful =
    let at = keeps beam_limits (beam_numbers b) lawful in
    record {
      zone = listed_bounded zones b.heading.zone (at 1 (lit< tt));
      root = root_bounded b.heading.concrete;
      strength = most 100 300 _ (at 3 (lit< tt));
      width = most 100 2000 _ (at 4 (lit< tt));
      depth = most 100 2000 _ (at 5 (lit< tt));
      top = bars_bounded b.top 100 (most 1 100 _ (at 6 (lit< tt)));
      bottom = bars_bounded b.bottom 100 (most 1 100 _ (at 8 (lit< tt)));
      face = bars_bounded b.face 20 (most 0 20 _ (at 14 (lit< tt)));
      stirrup = area_bounded b.stirrups.diameter;
      spacing = most 1 500 _ (at 11 (lit< tt));
      shear = most 0 10000000 _ (at 12 (lit< tt));
      shear_area = most 1 5000000 _ (at 13 (lit< tt));
    }
