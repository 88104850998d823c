-- The worked cases stand: each computes to what it says. Assumes nothing.
use Rattle.std.proofs.Common.{refl}
use Rattle.tables.specs.Limits.{admitted}
use Rattle.members.specs.Areas.{area, root_of}
use Rattle.cases.specs.Worked.{WorkedCases}

-- each case by computation
pub worked_cases_stand : WorkedCases
unfolding admitted area root_of
worked_cases_stand = record {
  bottom_area_too_small = refl;
  beam_refused_by_article_4 = refl;
  beam_certified_at_zone_105 = refl;
  bottom_area_just_enough = refl;
  stronger_beam_certified = refl;
  shear_just_borne = refl;
  beam_refused_by_article_7 = refl;
  shear_too_great = refl;
  stirrups_just_close_enough = refl;
  stirrups_too_far_apart = refl;
  column_bars_just_enough = refl;
  column_bars_too_few = refl;
  factor_at_21_storeys = refl;
  factor_at_22_storeys = refl;
  four_thicknesses_not_taken = refl;
  worked_wall_certified = refl;
  wall_1_entered = refl;
  wall_2_entered = refl;
  lift_of_one_too_many = refl;
  lift_to_seven_tenths = refl;
  seven_tenths_carried = refl;
  job_notes_the_lift = refl;
  hand_notes_the_lift = refl;
  rest_in_hand = refl;
  wall_2_certified = refl;
  wall_2_refused_by_article_12 = refl;
}
