-- The worked cases: their sheets, and what the books find on them and the calls of a job answer. Assumes nothing.
use Rattle.std.specs.Prelude.{◌≡◌, ℕ, Some, Ok, Err, Result}
use Rattle.tables.specs.declared.codes.Analysis.TheVariants.{Static}
use Rattle.faults.specs.declared.fault.JobFault.{JobFault}
use Rattle.faults.specs.declared.fault.JobFault.TheVariants.{UnderSevenTenths, NotTaken}
use Rattle.sheets.specs.declared.sheet.Bars.{Bars}
use Rattle.sheets.specs.declared.sheet.Spaced.{Spaced}
use Rattle.sheets.specs.declared.sheet.Heading.{Heading}
use Rattle.sheets.specs.declared.sheet.BeamSheet.{BeamSheet}
use Rattle.sheets.specs.declared.sheet.ColumnSheet.{ColumnSheet}
use Rattle.sheets.specs.declared.sheet.WallSheet.{WallSheet}
use Rattle.sheets.specs.declared.sheet.Sheet.TheVariants as sheets
use Rattle.messages.specs.Messages.{message}
use Rattle.books.specs.Findings.{sides}
use Rattle.books.specs.Verdicts.{verdict_of}
use Rattle.books.specs.declared.answers.Finding.{Finding}
use Rattle.books.specs.declared.answers.Finding.TheVariants.{Held, Broken}
use Rattle.books.specs.declared.answers.Verdict.{Verdict}
use Rattle.books.specs.declared.answers.Verdict.TheVariants.{Certificate, Breaks}
use Rattle.members.specs.Members.{lawful_beam_member, lawful_wall}
use Rattle.beams.specs.Articles.{beam_meaning}
use Rattle.columns.specs.Articles.{column_meaning}
use Rattle.walls.specs.Articles.{wall_meaning, factor_by}
use Rattle.registers.specs.declared.note.Note.{Note}
use Rattle.law.specs.States.{State, Piles, Outcome, empty}
use Rattle.law.specs.Steps.{opened, wall_found}
use Rattle.law.specs.Histories.{Act, enter, judge, lift, place}
use Rattle.law.specs.Laws.{step}
use Rattle.law.specs.declared.answers.Answer.{Answer}
use Rattle.law.specs.declared.answers.Answer.TheVariants.{Done, Judged, InHand}

-- The sheets.

-- a number of bars of one diameter
abbrev pub bars_of : ℕ → ℕ → Bars
bars_of n d = record { count = n; diameter = d }

-- bars of one diameter at one spacing
abbrev pub bars_every : ℕ → ℕ → Spaced
bars_every d s = record { diameter = d; spacing = s }

-- a heading with this mark and zone factor, on concrete type 17 with a strength of 14 N/mm²
abbrev pub worked_heading : ℕ → ℕ → Heading
worked_heading m z = record { mark = m; zone = z; concrete = 17; strength = 140 }

-- the worked beam with this mark, zone factor, bottom bars, stirrup spacing and shear
abbrev pub beam_with : ℕ → ℕ → Bars → ℕ → ℕ → BeamSheet
beam_with m z bars s q = record {
  heading = worked_heading m z;
  width = 350;
  depth = 470;
  top = bars_of 4 20;
  bottom = bars;
  stirrups = bars_every 6 s;
  shear = q;
  shear_area = 140000;
  face = bars_of 0 6;
}

-- the worked beam: bottom bars 3 of 16, stirrups at 200, no shear
abbrev pub worked_beam : ℕ → BeamSheet
worked_beam m = beam_with m 100 (bars_of 3 16) 200 0

-- the worked beam with bottom bars 2 of 20, at this stirrup spacing and under this shear
abbrev pub stronger_beam : ℕ → ℕ → BeamSheet
stronger_beam s q = beam_with 1 100 (bars_of 2 20) s q

-- the worked column, 400 wide, with this mark and height
abbrev pub worked_column : ℕ → ℕ → ColumnSheet
worked_column m h = record {
  heading = worked_heading m 100;
  width = 400;
  height = h;
  bars = bars_of 8 16;
  tension_count = 3;
  confined_spacing = 100;
  normal_spacing = 200;
}

-- the worked wall with this mark and length
abbrev pub wall_of_length : ℕ → ℕ → WallSheet
wall_of_length m l = record {
  heading = worked_heading m 100;
  storey = 1;
  storeys = 5;
  analysis = 1;
  thickness = 200;
  length = l;
  height = 9000;
  support = 2800;
  shear = 600000;
  compression = 300000;
  shear_area = 480000;
  layers = 2;
  vertical = bars_every 10 200;
  vertical_count = 32;
  horizontal = bars_every 12 200;
}

-- the worked wall, 3,000 long
abbrev pub worked_wall : ℕ → WallSheet
worked_wall m = wall_of_length m 3000

-- What is asked about them.

-- what an article of the beam book finds on the beam of a sheet
abbrev pub beam_finding : BeamSheet → ℕ → Finding
beam_finding s = beam_meaning.finding (record { sheet = s })

-- the verdict of the beam book on it
abbrev pub beam_verdict : BeamSheet → Result Verdict JobFault
beam_verdict s = verdict_of lawful_beam_member beam_meaning (record { sheet = s })

-- what an article of the column book finds on the column of a sheet
abbrev pub column_finding : ColumnSheet → ℕ → Finding
column_finding s = column_meaning.finding (record { sheet = s })

-- the verdict of the wall book on the wall of a sheet, which carries the sheet's shear
abbrev pub wall_verdict : WallSheet → Result Verdict JobFault
wall_verdict s = verdict_of lawful_wall wall_meaning (record { sheet = s; carried = s.shear })

-- The calls.

-- the three books, none behind a specification
abbrev pub bare_books : Piles
bare_books = record { beams = beam_meaning; columns = column_meaning; walls = wall_meaning }

-- a call, with a hand, on a job that judges by them
abbrev pub call : Act → Note → State → Outcome Answer
call = step bare_books

-- the worked wall with this mark is entered by its message
abbrev pub wall_entry : ℕ → Act
wall_entry m = enter (message (sheets.Wall (worked_wall m)))

-- job 1, fresh, with room for one beam, one column and two walls
abbrev pub fresh_job : State
fresh_job = opened 1 1 1 2

-- the job with wall 1
abbrev pub one_wall : State
one_wall = (call (wall_entry 1) empty fresh_job).state

-- the job with walls 1 and 2
abbrev pub two_walls : State
two_walls = (call (wall_entry 2) empty one_wall).state

-- so many newtons are lifted off wall 1 into an empty hand
abbrev pub lifted : ℕ → Outcome Answer
lifted n = call (lift 1 n) empty two_walls

-- 180,000 N are lifted, and so many of them are placed on wall 2
abbrev pub placed : ℕ → Outcome Answer
placed n = call (place 2 n) (lifted 180000).hand (lifted 180000).state

-- then wall 2 is judged
abbrev pub judged : ℕ → Outcome Answer
judged n = call (judge 3 2) (placed n).hand (placed n).state

-- the note of 180,000 N from wall 1 of job 1, which stands on storey 1
abbrev pub noted_lift : Note
noted_lift = record { job = 1; wall = 1; storey = 1; newtons = 180000 }

-- what the books find in the worked cases, and what the calls answer
pub record WorkedCases : Type 0 where
  -- the worked beam breaks article 4
  pub bottom_area_too_small : beam_finding (worked_beam 1) 4 ≡ Broken (sides 60300 62800)
  -- and that is the verdict
  pub beam_refused_by_article_4 : beam_verdict (worked_beam 1) ≡ Ok (Breaks 4 (sides 60300 62800))
  -- at zone factor 105 it earns a certificate
  pub beam_certified_at_zone_105 : beam_verdict (beam_with 1 105 (bars_of 3 16) 200 0) ≡ Ok Certificate
  -- with bottom bars 2 of 20 article 4 holds with equal sides
  pub bottom_area_just_enough : beam_finding (stronger_beam 200 0) 4 ≡ Held (sides 62800 62800)
  -- and the beam earns a certificate
  pub stronger_beam_certified : beam_verdict (stronger_beam 200 0) ≡ Ok Certificate
  -- under 406,191 N that beam holds article 6
  pub shear_just_borne : beam_finding (stronger_beam 200 406191) 6 ≡ Held (sides 5483578500000 5483590000000)
  -- where the verdict names article 7, as it has no face bars
  pub beam_refused_by_article_7 : beam_verdict (stronger_beam 200 406191) ≡ Ok (Breaks 7 (sides 0 18840))
  -- one newton more breaks article 6
  pub shear_too_great : beam_finding (stronger_beam 200 406192) 6 ≡ Broken (sides 5483592000000 5483590000000)
  -- stirrups at 200 hold article 5 with equal sides
  pub stirrups_just_close_enough : beam_finding (stronger_beam 200 0) 5 ≡ Held (sides 11200 11200)
  -- stirrups at 201 break it
  pub stirrups_too_far_apart : beam_finding (stronger_beam 201 0) 5 ≡ Broken (sides 11200 11256)
  -- the column of 400 by 402 holds article 1 with equal sides
  pub column_bars_just_enough : column_finding (worked_column 1 402) 1 ≡ Held (sides 160800 160800)
  -- one millimetre more breaks it
  pub column_bars_too_few : column_finding (worked_column 1 403) 1 ≡ Broken (sides 160800 161200)
  -- the static factor is at its greatest at 21 storeys
  pub factor_at_21_storeys : factor_by (Some Static) 21 ≡ 2250
  -- and grows no more at 22
  pub factor_at_22_storeys : factor_by (Some Static) 22 ≡ 2250
  -- a wall four times as long as it is thick is not taken: S12
  pub four_thicknesses_not_taken : wall_verdict (wall_of_length 1 800) ≡ Err NotTaken
  -- the worked wall earns a certificate
  pub worked_wall_certified : wall_verdict (worked_wall 1) ≡ Ok Certificate
  -- wall 1 is entered
  pub wall_1_entered : (call (wall_entry 1) empty fresh_job).answer ≡ Ok Done
  -- and wall 2
  pub wall_2_entered : (call (wall_entry 2) empty one_wall).answer ≡ Ok Done
  -- 180,001 N off wall 1 would leave it under seven tenths: S7
  pub lift_of_one_too_many : (lifted 180001).answer ≡ Err UnderSevenTenths
  -- 180,000 N can be lifted
  pub lift_to_seven_tenths : (lifted 180000).answer ≡ Ok (InHand 180000)
  -- wall 1 then carries 420,000 N
  pub seven_tenths_carried : (wall_found (lifted 180000).state 1).member.carried ≡ 420000
  -- the job notes the lift
  pub job_notes_the_lift : (lifted 180000).state.note ≡ noted_lift
  -- and so does the hand
  pub hand_notes_the_lift : (lifted 180000).hand ≡ noted_lift
  -- 82,631 N of it on wall 2 leave 97,369 N in hand
  pub rest_in_hand : (placed 82631).answer ≡ Ok (InHand 97369)
  -- and wall 2, judged, earns a certificate
  pub wall_2_certified : (judged 82631).answer ≡ Ok (Judged Certificate)
  -- with one newton more, wall 2 breaks article 12
  pub wall_2_refused_by_article_12 : (judged 82632).answer ≡ Ok (Judged (Breaks 12 (sides 12867600000 12867613200)))
