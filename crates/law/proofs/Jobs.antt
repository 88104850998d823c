-- What every reached job has, and how each call keeps it. Assumes nothing.
use Rattle.std.proofs.Common.{◌≡◌, ℕ, ◌≤◌, true, false, cond, not, ◌&&◌, eqb, leb, List, [], ◌∷◌, ◌++◌, length, set, is_some, None, Ok, Err, Result, sym, refl, ap, ◌∙◌, subst, arith}
use Rattle.std.proofs.lemmas.List.{length-set, map_push}
use Rattle.std.proofs.lemmas.Bool.{cond-false, and_left}
use Rattle.tables.specs.declared.codes.Kind.{Kind}
use Rattle.tables.specs.declared.codes.Kind.TheVariants as kinds
use Rattle.faults.specs.declared.fault.SheetFault.{SheetFault}
use Rattle.faults.specs.declared.fault.JobFault.{JobFault}
use Rattle.faults.specs.declared.fault.JobFault.TheVariants.{Argument, Full, Unknown, ShearMoved}
use Rattle.faults.specs.declared.fault.JobFault.TheVariants as faults
use Rattle.sheets.specs.Limits.{wall_limits}
use Rattle.sheets.specs.Sheets.{kind_on, mark_on, wall_numbers}
use Rattle.sheets.specs.declared.sheet.BeamSheet.{BeamSheet}
use Rattle.sheets.specs.declared.sheet.ColumnSheet.{ColumnSheet}
use Rattle.sheets.specs.declared.sheet.WallSheet.{WallSheet}
use Rattle.sheets.specs.declared.sheet.Sheet.{Sheet}
use Rattle.sheets.specs.declared.sheet.Sheet.TheVariants as sheets
use Rattle.messages.specs.Messages.{decoded}
use Rattle.messages.proofs.Lawful.{decoded_lawful}
use Rattle.members.specs.Members.{lawful_beam_member, lawful_column_member, lawful_wall}
use Rattle.members.proofs.Kept.{keeps, most}
use Rattle.members.specs.declared.member.Beam.{Beam}
use Rattle.members.specs.declared.member.Column.{Column}
use Rattle.members.specs.declared.member.Wall.{Wall}
use Rattle.registers.specs.Forms.{Form}
use Rattle.registers.specs.Registers.{ending, find}
use Rattle.faults.specs.Grounds.{Ground, ◌when◌}
use Rattle.registers.specs.Filings.{unfiled, entered}
use Rattle.registers.specs.Rows.{beam_row, column_row, wall_row, beam_form, column_form, wall_form}
use Rattle.registers.specs.declared.note.Note.{Note}
use Rattle.registers.specs.declared.rows.Filed.{Filed}
use Rattle.law.specs.States.{State, Piles, Outcome, refused, is_size, are_sized, with_beams, with_columns, with_walls}
use Rattle.law.specs.Steps.{on_beams, on_columns, on_walls, file_read, enter_step, noted_on}
use Rattle.law.specs.Histories.{Act, enter, Event, History, same_kind, judges, is_entered, changed_by, moves_on, hand_after, sheet_read, joined, standing, in_hand}
use Rattle.law.specs.Laws.{renamed, event}
use Rattle.law.specs.declared.answers.Answer.{Answer}
use Rattle.law.specs.declared.answers.Answer.TheVariants.{Done}
use Rattle.law.proofs.Marks.{Any, any_front}
use Rattle.law.proofs.Decisions.{decide_cases}
use Rattle.law.proofs.Sound.{Sound, Idle, sound_idle}
use Rattle.law.proofs.Filings.{sound_filed}
use Rattle.law.proofs.RowLaws.{beam_laws, column_laws, wall_laws}
use Rattle.law.proofs.Shear.{walls_of, Balanced, balanced_push, Backed, wall_lawful}

-- three sound registers of 1 to 256 rows, the shear in hand as noted, backed by the wall that it came from, and balanced
pub record SoundJob (p : Piles) (h : History) (s : State) : Type 0 where
  pub beams : Sound beam_form lawful_beam_member p.beams kinds.Beam h s.beams
  pub columns : Sound column_form lawful_column_member p.columns kinds.Column h s.columns
  pub walls : Sound wall_form lawful_wall p.walls kinds.Wall h s.walls
  pub sized : are_sized s ≡ true
  pub held : (t : ℕ) → in_hand t h ≡ noted_on t s.note
  pub backed : 1 ≤ s.note.newtons → Any (Backed s.note) (walls_of walls.members)
  pub balanced : Balanced s.note (walls_of walls.members)

-- the sizes of the registers stay
pub sized_beams : (s : State) (rows : List (Filed Beam)) → length rows ≡ length s.beams → are_sized s ≡ true → are_sized (with_beams s rows) ≡ true
sized_beams s rows same h = ap (λ n. is_size n && is_size (length s.columns) && is_size (length s.walls)) same ∙ h

pub sized_columns : (s : State) (rows : List (Filed Column)) → length rows ≡ length s.columns → are_sized s ≡ true → are_sized (with_columns s rows) ≡ true
sized_columns s rows same h = ap (λ n. is_size (length s.beams) && is_size n && is_size (length s.walls)) same ∙ h

pub sized_walls : (s : State) (rows : List (Filed Wall)) → length rows ≡ length s.walls → are_sized s ≡ true → are_sized (with_walls s rows) ≡ true
sized_walls s rows same h = ap (λ n. is_size (length s.beams) && is_size (length s.columns) && is_size n) same ∙ h

-- nothing is moved in hand
pub held_still : (t : ℕ) (e : Event) (h : History) → changed_by e ≡ None → in_hand t (e ∷ h) ≡ in_hand t h
held_still t e h none = ap (λ o. cond (moves_on t (standing kinds.Wall h) o) (hand_after e.act (in_hand t h)) (in_hand t h)) none

-- a call that leaves the state and touches no kind
pub job_idle : {p : Piles} {h : History} {s : State} (e : Event) → Idle kinds.Beam e → Idle kinds.Column e → Idle kinds.Wall e → changed_by e ≡ None → SoundJob p h s → SoundJob p (e ∷ h) s
job_idle {h = h} e b c w none j = record {
  beams = sound_idle b j.beams;
  columns = sound_idle c j.columns;
  walls = sound_idle w j.walls;
  sized = j.sized;
  held = λ t. held_still t e h none ∙ j.held t;
  backed = j.backed;
  balanced = j.balanced;
}

-- a refused call, unless it judges
pub idle_refused : (kind : Kind) (act : Act) (hand : Note) (fault : JobFault) → ((m : ℕ) → judges kind m act ≡ false) → Idle kind (event act hand (Err fault))
idle_refused kind act hand fault quiet = record {
  judging = quiet;
  entering = λ m. refl;
  joining = λ xs. refl;
  withdrawing = λ m. refl;
  changing = λ m. refl;
}

-- a sheet of another kind
idle_entered : (kind : Kind) (hand : Note) (message : List ℕ) (sheet : Sheet) → decoded message ≡ Ok sheet → same_kind (kind_on sheet) kind ≡ false → Idle kind (event (enter message) hand (Ok Done))
idle_entered kind hand message sheet is other = record {
  judging = λ m. refl;
  entering = λ m. ap (λ r. is_entered kind m (sheet_read r)) is ∙ and_left (same_kind (kind_on sheet) kind) (eqb (mark_on sheet) m) other;
  joining = λ xs. ap (λ r. joined kind (sheet_read r) xs) is ∙ cond-false (same_kind (kind_on sheet) kind) (xs ++ sheet ∷ []) xs other;
  withdrawing = λ m. refl;
  changing = λ m. refl;
}

module _ {p : Piles} {h : History} {s : State} (hand : Note) (j : SoundJob p h s) where
  -- the job is sound after a call
  abbrev pub After : {A : Type 0} → Act → (A → Answer) → Outcome A → Type 0
  After act name o = SoundJob p (event act hand (renamed name o.answer) ∷ h) o.state

  pub refused_sound : (act : Act) → ((kind : Kind) (m : ℕ) → judges kind m act ≡ false) → (fault : JobFault) → SoundJob p (event act hand (Err fault) ∷ h) s
  refused_sound act quiet fault =
      job_idle (event act hand (Err fault)) (idle_refused kinds.Beam act hand fault (quiet kinds.Beam)) (idle_refused kinds.Column act hand fault (quiet kinds.Column)) (idle_refused kinds.Wall act hand fault (quiet kinds.Wall)) refl j

  -- Entering.

  abbrev enter_grounds : {R M : Type 0} → Form R M → R → List R → List Ground
  enter_grounds form row rows = (Full when leb (length rows) (ending form rows)) ∷ (faults.Filed when is_some (find form (form.mark row) rows)) ∷ []

  beam_filed : (message : List ℕ) (b : BeamSheet) → decoded message ≡ Ok (sheets.Beam b) → After (enter message) (λ _. Done) (on_beams s hand (entered beam_form (beam_row b false) s.beams))
  beam_filed message b is =
      decide_cases (λ filing. After (enter message) (λ _. Done) (on_beams s hand filing)) (enter_grounds beam_form (beam_row b false) s.beams) (unfiled s.beams) (record { answer = Ok tt; rows = set s.beams (ending beam_form s.beams) (beam_row b false) })
      (λ fault some. refused_sound (enter message) (λ kind m. refl) fault)
      (λ none. record {
        beams = sound_filed beam_laws j.beams (beam_row b false) (decoded_lawful message (sheets.Beam b) is) refl (ap sheet_read is) (λ m. refl) (λ m. refl) (λ m. refl) none.0 none.1.0;
        columns = sound_idle (idle_entered kinds.Column hand message (sheets.Beam b) is refl) j.columns;
        walls = sound_idle (idle_entered kinds.Wall hand message (sheets.Beam b) is refl) j.walls;
        sized = sized_beams s (set s.beams (ending beam_form s.beams) (beam_row b false)) (length-set s.beams (ending beam_form s.beams) (beam_row b false)) j.sized;
        held = j.held;
        backed = j.backed;
        balanced = j.balanced;
      })

  column_filed : (message : List ℕ) (c : ColumnSheet) → decoded message ≡ Ok (sheets.Column c) → After (enter message) (λ _. Done) (on_columns s hand (entered column_form (column_row c false) s.columns))
  column_filed message c is =
      decide_cases (λ filing. After (enter message) (λ _. Done) (on_columns s hand filing)) (enter_grounds column_form (column_row c false) s.columns) (unfiled s.columns) (record { answer = Ok tt; rows = set s.columns (ending column_form s.columns) (column_row c false) })
      (λ fault some. refused_sound (enter message) (λ kind m. refl) fault)
      (λ none. record {
        beams = sound_idle (idle_entered kinds.Beam hand message (sheets.Column c) is refl) j.beams;
        columns = sound_filed column_laws j.columns (column_row c false) (decoded_lawful message (sheets.Column c) is) refl (ap sheet_read is) (λ m. refl) (λ m. refl) (λ m. refl) none.0 none.1.0;
        walls = sound_idle (idle_entered kinds.Wall hand message (sheets.Column c) is refl) j.walls;
        sized = sized_columns s (set s.columns (ending column_form s.columns) (column_row c false)) (length-set s.columns (ending column_form s.columns) (column_row c false)) j.sized;
        held = j.held;
        backed = j.backed;
        balanced = j.balanced;
      })

  wall_filed : (message : List ℕ) (w : WallSheet) → decoded message ≡ Ok (sheets.Wall w) → After (enter message) (λ _. Done) (on_walls s hand (entered wall_form (wall_row w false w.shear) s.walls))
  wall_filed message w is =
      let row : Filed Wall = wall_row w false w.shear in
      let lawful-sheet-is = decoded_lawful message (sheets.Wall w) is in
      let top : w.shear ≤ 10000000 = most 0 10000000 w.shear (keeps wall_limits (wall_numbers w) lawful-sheet-is 11 (omega arith)) in
      let pushed = map_push wall_form.member j.walls.members row in
      decide_cases (λ filing. After (enter message) (λ _. Done) (on_walls s hand filing)) (enter_grounds wall_form (wall_row w false w.shear) s.walls) (unfiled s.walls) (record { answer = Ok tt; rows = set s.walls (ending wall_form s.walls) (wall_row w false w.shear) })
      (λ fault some. refused_sound (enter message) (λ kind m. refl) fault)
      (λ none. record {
        beams = sound_idle (idle_entered kinds.Beam hand message (sheets.Wall w) is refl) j.beams;
        columns = sound_idle (idle_entered kinds.Column hand message (sheets.Wall w) is refl) j.columns;
        walls = sound_filed wall_laws j.walls row (wall_lawful (wall_form.member row) lawful-sheet-is (omega arith) top) refl (ap sheet_read is) (λ m. refl) (λ m. refl) (λ m. refl) none.0 none.1.0;
        sized = sized_walls s (set s.walls (ending wall_form s.walls) row) (length-set s.walls (ending wall_form s.walls) row) j.sized;
        held = j.held;
        backed = λ some. subst (Any (Backed s.note)) (sym pushed) (any_front (Backed s.note) (walls_of j.walls.members) (wall_form.member row ∷ []) (j.backed some));
        balanced = subst (Balanced s.note) (sym pushed) (balanced_push s.note (walls_of j.walls.members) (wall_form.member row) refl j.balanced);
      })

  read_filed : (message : List ℕ) (r : Result Sheet SheetFault) → decoded message ≡ r → After (enter message) (λ _. Done) (file_read s hand r)
  read_filed message (Err fault) is = refused_sound (enter message) (λ kind m. refl) (faults.Sheet fault)
  read_filed message (Ok (sheets.Beam b)) is = beam_filed message b is
  read_filed message (Ok (sheets.Column c)) is = column_filed message c is
  read_filed message (Ok (sheets.Wall w)) is = wall_filed message w is

  pub enter_sound : (message : List ℕ) → After (enter message) (λ _. Done) (enter_step s hand message)
  enter_sound message =
      decide_cases (After (enter message) (λ _. Done)) ((Argument when not (are_sized s)) ∷ []) (refused s hand) (file_read s hand (decoded message))
      (λ fault some. refused_sound (enter message) (λ kind m. refl) fault)
      (λ none. read_filed message (decoded message) refl)
