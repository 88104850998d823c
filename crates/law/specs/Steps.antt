-- What each call of a job does: its grounds of refusal in their order, and then what it answers and leaves. Assumes
-- nothing.
use Rattle.std.specs.Prelude.{ℕ, ◌+◌, ◌-◌, ◌*◌, Bool, false, cond, not, ◌&&◌, ◌||◌, List, [], ◌∷◌, replicate, is_some, Some, None, Ok, Err, Option, Result, ◌==◌, nat_lt}
use Rattle.tables.specs.Codes.{kind_of}
use Rattle.tables.specs.declared.codes.Kind.{Kind}
use Rattle.tables.specs.declared.codes.Kind.TheVariants as kinds
use Rattle.faults.specs.declared.fault.SheetFault.{SheetFault}
use Rattle.faults.specs.declared.fault.JobFault.{JobFault}
use Rattle.faults.specs.declared.fault.JobFault.TheVariants.{Argument, Unknown, Unlawful, InHand, HandDiffers, UnderSevenTenths, OtherStorey, OverHand, OverLoad}
use Rattle.faults.specs.declared.fault.JobFault.TheVariants as faults
use Rattle.sheets.specs.declared.sheet.Sheet.{Sheet}
use Rattle.sheets.specs.declared.sheet.Sheet.TheVariants as sheets
use Rattle.messages.specs.Messages.{decoded}
use Rattle.members.specs.Members.{lawful_beam_member, lawful_column_member, lawful_wall}
use Rattle.books.specs.declared.answers.Verdict.{Verdict}
use Rattle.members.specs.declared.member.Beam.{Beam}
use Rattle.members.specs.declared.member.Column.{Column}
use Rattle.members.specs.declared.member.Wall.{Wall}
use Rattle.registers.specs.Registers.{find, row_at, with_row}
use Rattle.faults.specs.Grounds.{◌when◌, decide}
use Rattle.registers.specs.Filings.{Filing, entered, withdrawn, judged, written, written_length}
use Rattle.registers.specs.Rows.{beam_row, column_row, wall_row, beam_form, column_form, wall_form}
use Rattle.registers.specs.declared.note.Note.{Note}
use Rattle.registers.specs.declared.rows.Filed.{Filed}
use Rattle.law.specs.States.{State, Piles, Outcome, refused, empty, less, same_note, is_mark, is_storey, is_newtons, are_sized, with_beams, with_columns, with_walls, with_note}
use Rattle.law.specs.declared.answers.Sums.{Sums}

-- Calls on the register of one kind.

-- what a register's call leaves of the whole state
abbrev pub on_beams : {A : Type 0} → State → Note → Filing (Filed Beam) A → Outcome A
on_beams s hand filing = record { answer = filing.answer; state = with_beams s filing.rows; hand = hand }

-- the same for columns
abbrev pub on_columns : {A : Type 0} → State → Note → Filing (Filed Column) A → Outcome A
on_columns s hand filing = record { answer = filing.answer; state = with_columns s filing.rows; hand = hand }

-- the same for walls
abbrev pub on_walls : {A : Type 0} → State → Note → Filing (Filed Wall) A → Outcome A
on_walls s hand filing = record { answer = filing.answer; state = with_walls s filing.rows; hand = hand }

-- a sheet is filed in the register of its kind, uncertified, a wall carrying its sheet's shear
abbrev pub file : State → Note → Sheet → Outcome (Unit {0})
file s hand (sheets.Beam b) = on_beams s hand (entered beam_form (beam_row b false) s.beams)
file s hand (sheets.Column c) = on_columns s hand (entered column_form (column_row c false) s.columns)
file s hand (sheets.Wall w) = on_walls s hand (entered wall_form (wall_row w false w.shear) s.walls)

-- a sheet that was read is filed; a fault from below is passed up whole
abbrev pub file_read : State → Note → Result Sheet SheetFault → Outcome (Unit {0})
file_read s hand (Ok sheet) = file s hand sheet
file_read s hand (Err fault) = refused s hand (faults.Sheet fault)

-- enter: I6, then the message, then S1 and S2
abbrev pub enter_step : State → Note → List ℕ → Outcome (Unit {0})
enter_step s hand message =
    decide
    ((Argument when not (are_sized s))
    ∷ [])
    (refused s hand)
    (file_read s hand (decoded message))

-- a row is withdrawn from the register of its kind
abbrev pub withdraw_from : State → Note → ℕ → Kind → Outcome (Unit {0})
withdraw_from s hand mark kinds.Beam = on_beams s hand (withdrawn beam_form s.note mark s.beams)
withdraw_from s hand mark kinds.Column = on_columns s hand (withdrawn column_form s.note mark s.columns)
withdraw_from s hand mark kinds.Wall = on_walls s hand (withdrawn wall_form s.note mark s.walls)

-- the kind that a number stands for decides; a number that stands for none is I6
abbrev pub by_kind : {A : Type 0} → Option Kind → (JobFault → A) → (Kind → A) → A
by_kind None refuse done = refuse Argument
by_kind (Some kind) refuse done = done kind

-- withdraw: I6, then S3 and S11
abbrev pub withdraw_step : State → Note → ℕ → ℕ → Outcome (Unit {0})
withdraw_step s hand kind mark =
    decide
    ((Argument when not (are_sized s && is_mark mark))
    ∷ [])
    (refused s hand)
    (by_kind (kind_of kind) (refused s hand) (withdraw_from s hand mark))

-- the pile of its kind is asked about a row
abbrev pub judge_in : Piles → State → Note → ℕ → Kind → Outcome Verdict
judge_in p s hand mark kinds.Beam = on_beams s hand (judged beam_form lawful_beam_member p.beams mark s.beams)
judge_in p s hand mark kinds.Column = on_columns s hand (judged column_form lawful_column_member p.columns mark s.columns)
judge_in p s hand mark kinds.Wall = on_walls s hand (judged wall_form lawful_wall p.walls mark s.walls)

-- judge: I6, then S3, S4 and S12
abbrev pub judge_step : Piles → State → Note → ℕ → ℕ → Outcome Verdict
judge_step p s hand kind mark =
    decide
    ((Argument when not (are_sized s && is_mark mark))
    ∷ [])
    (refused s hand)
    (by_kind (kind_of kind) (refused s hand) (judge_in p s hand mark))

-- Calls that move shear.

-- the place of a wall
abbrev pub wall_place : State → ℕ → Option ℕ
wall_place s mark = find wall_form mark s.walls

-- the row of a wall; the row of zeros where there is none
abbrev pub wall_found : State → ℕ → Filed Wall
wall_found s mark = row_at wall_form (wall_place s mark) s.walls

-- a wall that carries another shear has no certificate
abbrev pub carrying : Filed Wall → ℕ → Filed Wall
carrying w q = wall_row w.member.sheet false q

-- what a call that moves shear leaves: the wall carries this shear, and the job and the hand note this
abbrev pub moved : State → ℕ → ℕ → Note → Outcome ℕ
moved s mark q note = record {
  answer = Ok note.newtons;
  state = with_note (with_walls s (with_row (wall_place s mark) (carrying (wall_found s mark) q) s.walls)) note;
  hand = note;
}

-- the row of a wall is unlawful
abbrev pub is_unlawful : Filed Wall → Bool
is_unlawful w = not (lawful_wall (wall_form.member w))

-- the hand is empty or differs from the job's note
abbrev pub differs : State → Note → Bool
differs s hand = hand.newtons == 0 || not (same_note hand s.note)

-- lift: shear off a wall into an empty hand
abbrev pub lift_step : State → Note → ℕ → ℕ → Outcome ℕ
lift_step s hand mark n =
    let w = wall_found s mark in
    decide
    ((Argument when not (are_sized s && is_mark mark && is_newtons n))
    ∷ (Unknown when not (is_some (wall_place s mark)))
    ∷ (Unlawful when is_unlawful w)
    ∷ (InHand when not (hand.newtons == 0 && s.note.newtons == 0))
    ∷ (UnderSevenTenths when nat_lt (10 * w.member.carried) (10 * n + 7 * w.member.sheet.shear))
    ∷ [])
    (refused s hand)
    (moved s mark (w.member.carried - n) (record { job = s.number; wall = mark; storey = w.member.sheet.storey; newtons = n }))

-- place: shear from the hand onto a wall of its storey
abbrev pub place_step : State → Note → ℕ → ℕ → Outcome ℕ
place_step s hand mark n =
    let w = wall_found s mark in
    decide
    ((Argument when not (are_sized s && is_mark mark && is_newtons n))
    ∷ (Unknown when not (is_some (wall_place s mark)))
    ∷ (Unlawful when is_unlawful w)
    ∷ (HandDiffers when differs s hand)
    ∷ (OtherStorey when not (w.member.sheet.storey == hand.storey))
    ∷ (OverHand when nat_lt hand.newtons n)
    ∷ (OverLoad when nat_lt 10000000 (w.member.carried + n))
    ∷ [])
    (refused s hand)
    (moved s mark (w.member.carried + n) (less hand n))

-- put back: the rest from the hand onto the wall that it was lifted from
abbrev pub put_back_step : State → Note → Outcome ℕ
put_back_step s hand =
    let w = wall_found s hand.wall in
    decide
    ((Argument when not (are_sized s))
    ∷ (HandDiffers when differs s hand)
    ∷ (Unknown when not (is_some (wall_place s hand.wall)))
    ∷ (Unlawful when is_unlawful w)
    ∷ (OverLoad when nat_lt 10000000 (w.member.carried + hand.newtons))
    ∷ [])
    (refused s hand)
    (moved s hand.wall (w.member.carried + hand.newtons) empty)

-- Calls that only tell.

-- the sum of a number over the wall rows of a storey, up to the register's end
abbrev pub sum_on : (Filed Wall → ℕ) → ℕ → List (Filed Wall) → ℕ
sum_on number storey [] = 0
sum_on number storey (w ∷ ws) = cond (w.member.sheet.heading.mark == 0) 0 (cond (w.member.sheet.storey == storey) (number w) 0 + sum_on number storey ws)

-- the shear in hand by a note, if it names the storey
abbrev pub noted_on : ℕ → Note → ℕ
noted_on storey note = cond (note.storey == storey) note.newtons 0

-- the three sums of a storey
abbrev pub sums : State → ℕ → Sums
sums s storey = record {
  carried = sum_on (λ w. w.member.carried) storey s.walls;
  in_hand = noted_on storey s.note;
  sheets = sum_on (λ w. w.member.sheet.shear) storey s.walls;
}

-- tally: I6
abbrev pub tally_step : State → Note → ℕ → Outcome Sums
tally_step s hand storey =
    decide
    ((Argument when not (are_sized s && is_storey storey))
    ∷ [])
    (refused s hand)
    (record { answer = Ok (sums s storey); state = s; hand = hand })

-- Opening and writing.

-- a fresh job: this number, nothing in hand, every row zeros
abbrev pub opened : ℕ → ℕ → ℕ → ℕ → State
opened number b c w = record {
  number = number;
  note = empty;
  beams = replicate b beam_form.blank;
  columns = replicate c column_form.blank;
  walls = replicate w wall_form.blank;
}

-- whether a job may be opened on these registers under this number; else I6
abbrev pub may_open : ℕ → State → Bool
may_open number s = are_sized s && is_mark number

-- the answer to writing the sheet of a row into a buffer
abbrev pub write_from : State → ℕ → List ℕ → Kind → Result ℕ JobFault
write_from s mark buffer kinds.Beam = written_length beam_form lawful_beam_member mark s.beams buffer
write_from s mark buffer kinds.Column = written_length column_form lawful_column_member mark s.columns buffer
write_from s mark buffer kinds.Wall = written_length wall_form lawful_wall mark s.walls buffer

-- write: I6, then S3 and S4, then the buffer
abbrev pub write_answer : State → ℕ → ℕ → List ℕ → Result ℕ JobFault
write_answer s kind mark buffer =
    decide
    ((Argument when not (are_sized s && is_mark mark))
    ∷ [])
    (λ fault. Err fault)
    (by_kind (kind_of kind) (λ fault. Err fault) (write_from s mark buffer))

-- the buffer after writing the sheet of a row
abbrev pub buffer_from : State → ℕ → List ℕ → Kind → List ℕ
buffer_from s mark buffer kinds.Beam = written beam_form lawful_beam_member mark s.beams buffer
buffer_from s mark buffer kinds.Column = written column_form lawful_column_member mark s.columns buffer
buffer_from s mark buffer kinds.Wall = written wall_form lawful_wall mark s.walls buffer

-- the buffer after writing: as it was on refusal
abbrev pub write_buffer : State → ℕ → ℕ → List ℕ → List ℕ
write_buffer s kind mark buffer =
    decide
    ((Argument when not (are_sized s && is_mark mark))
    ∷ [])
    (λ fault. buffer)
    (by_kind (kind_of kind) (λ fault. buffer) (buffer_from s mark buffer))
