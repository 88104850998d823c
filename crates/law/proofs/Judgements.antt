-- How judge keeps a job: whatever it answers, the member is judged. Assumes nothing.
use Rattle.std.proofs.Common.{◌≡◌, ℕ, Bool, true, false, not, ◌&&◌, eqb, List, [], ◌∷◌, map, length, is_some, Some, None, Ok, Err, Option, Result, sym, refl, ap, ◌∙◌, subst, ⊎_elim, arith}
use Rattle.std.proofs.ByRecursion.{All-map, All-weaker}
use Rattle.std.proofs.lemmas.List.{length-set}
use Rattle.std.proofs.lemmas.Bool.{and_right, and_from, both_ways, eq-eqb, ne_eqb, not-true}
use Rattle.tables.specs.Codes.{kind_of, kind_number}
use Rattle.tables.specs.declared.codes.Kind.{Kind}
use Rattle.tables.specs.declared.codes.Kind.TheVariants as kinds
use Rattle.faults.specs.declared.fault.JobFault.{JobFault}
use Rattle.faults.specs.declared.fault.JobFault.TheVariants.{Argument, Unknown, Unlawful, NotTaken}
use Rattle.messages.proofs.Canonicals.{kind_numbered}
use Rattle.members.specs.Members.{lawful_beam_member, lawful_column_member, lawful_wall}
use Rattle.books.specs.Meanings.{Meaning}
use Rattle.books.specs.Verdicts.{lowest}
use Rattle.books.specs.declared.answers.Verdict.{Verdict}
use Rattle.books.specs.declared.answers.Verdict.TheVariants.{Certificate, Breaks}
use Rattle.registers.specs.Forms.{Form}
use Rattle.registers.specs.Registers.{find, row_at, with_row}
use Rattle.faults.specs.Grounds.{◌when◌}
use Rattle.registers.specs.Filings.{unfiled, judged, ruled}
use Rattle.registers.specs.Rows.{beam_form, column_form, wall_form}
use Rattle.registers.specs.declared.note.Note.{Note}
use Rattle.law.specs.States.{State, Piles, refused, is_mark, are_sized}
use Rattle.law.specs.Steps.{by_kind, judge_in, judge_step, noted_on}
use Rattle.law.specs.Histories.{judge, History, judges, accepted, unless_refused, is_entered, is_changed, entered_by, changed_by, standing, joined, in_hand}
use Rattle.law.specs.Laws.{renamed, event}
use Rattle.law.specs.declared.answers.Answer.{Answer}
use Rattle.law.specs.declared.answers.Answer.TheVariants.{Judged}
use Rattle.law.proofs.Marks.{Any, Absent}
use Rattle.law.proofs.Decisions.{SomeHolds, decide_cases}
use Rattle.law.proofs.Sound.{FormLaws, Sound, Idle, sound_idle, judged_still, dropped_none}
use Rattle.law.proofs.Filings.{sound_judged, sound_elsewhere, Soundly}
use Rattle.law.proofs.RowLaws.{beam_laws, column_laws, wall_laws}
use Rattle.law.proofs.Shear.{Balanced, Backed}
use Rattle.law.proofs.Withdrawals.{other_kind, no_kind}
use Rattle.law.proofs.Jobs.{SoundJob, sized_beams, sized_columns, sized_walls, held_still, job_idle, After}

-- nothing is nothing, refused or not
none_of : {A B : Type 0} (answer : Result A JobFault) → unless_refused {B = B} answer None ≡ None
none_of (Ok a) = refl
none_of (Err e) = refl

-- judging enters nothing, withdraws nothing and moves nothing
module _ (kind : Kind) (hand : Note) (k m : ℕ) (answer : Result Answer JobFault) where
  no_entry : (i : ℕ) → is_entered kind i (entered_by (event (judge k m) hand answer)) ≡ false
  no_entry i = ap (is_entered kind i) (none_of answer)

  no_change : (i : ℕ) → is_changed kind i (changed_by (event (judge k m) hand answer)) ≡ false
  no_change i = ap (is_changed kind i) (none_of answer)

  no_withdrawal : (i : ℕ) → (accepted answer && false) ≡ false
  no_withdrawal i = and_right (accepted answer) false refl

  same_standing : (h : History) → standing kind (event (judge k m) hand answer ∷ h) ≡ standing kind h
  same_standing h = dropped_none (λ i. accepted answer && false) no_withdrawal (joined kind (unless_refused answer None) (standing kind h)) ∙ ap (λ o. joined kind o (standing kind h)) (none_of answer)

  idle_judged : (k ≡ kind_number kind → ⊥) → Idle kind (event (judge k m) hand answer)
  idle_judged ne = record {
    judging = λ i. other_kind k (kind_number kind) (eqb m i) ne;
    entering = no_entry;
    joining = λ xs. ap (λ o. joined kind o xs) (none_of answer);
    withdrawing = no_withdrawal;
    changing = no_change;
  }

-- a row set keeps the length
length_with_row : {R : Type 0} (o : Option ℕ) (v : R) (rows : List R) → length (with_row o v rows) ≡ length rows
length_with_row None v rows = refl
length_with_row (Some i) v rows = length-set rows i v

length_ruled : {R M : Type 0} (form : Form R M) (o : Option ℕ) (rows : List R) (v : Verdict) → length (ruled form o rows v).rows ≡ length rows
length_ruled form o rows Certificate = length_with_row o (form.certify (row_at form o rows)) rows
length_ruled form o rows (Breaks n s) = refl

length_judged : {R M : Type 0} (form : Form R M) (lawful : M → Bool) (book : Meaning M) (m : ℕ) (rows : List R) → length (judged form lawful book m rows).rows ≡ length rows
length_judged form lawful book m rows =
    let o = find form m rows in
    let x = form.member (row_at form o rows) in
    decide_cases (λ filing. length filing.rows ≡ length rows)
    ((Unknown when not (is_some o)) ∷ (Unlawful when not (lawful x)) ∷ (NotTaken when not (book.takes x)) ∷ [])
    (unfiled rows) (ruled form o rows (lowest (book.finding x) 1 book.count))
    (λ fault some. refl)
    (λ none. length_ruled form o rows (lowest (book.finding x) 1 book.count))

module _ {R M : Type 0} {form : Form R M} {lawful : M → Bool} {book : Meaning M} {kind : Kind} {h : History} {rows : List R} (hand : Note) (k m : ℕ) (answer : Result Answer JobFault) (laws : FormLaws form lawful kind) (s : Sound form lawful book kind h rows) where
  -- judges of other marks
  others : (i : ℕ) → (i ≡ m → ⊥) → judges kind i (judge k m) ≡ false
  others i ne = and_right (eqb k (kind_number kind)) (eqb m i) (ne_eqb m i (λ same. ne (sym same)))

  -- the register of the kind that is judged
  asked_sound : k ≡ kind_number kind → Soundly {form = form} {lawful = lawful} {book = book} {kind = kind} {h = h} {rows = rows} (event (judge k m) hand answer) s (judged form lawful book m rows).rows
  asked_sound number =
      sound_judged laws s m (and_from (eqb k (kind_number kind)) (eqb m m) (eq-eqb k (kind_number kind) number) (eq-eqb m m refl)) others
      (no_entry kind hand k m answer) (no_change kind hand k m answer) (same_standing kind hand k m answer h)

  -- no row has a mark outside its limits
  unmarked : is_mark m ≡ false → Absent m (map form.mark s.members)
  unmarked outside = All-map (λ i. i ≡ m → ⊥) form.mark s.members (All-weaker (λ r. lawful (form.member r) ≡ true) (λ r. form.mark r ≡ m → ⊥) (λ r law same. both_ways (is_mark m) outside (sym (ap is_mark same) ∙ laws.marks r law)) s.members s.lawfuls)

  abbrev unasked_sound : is_mark m ≡ false → Sound form lawful book kind (event (judge k m) hand answer ∷ h) rows
  unasked_sound outside =
      sound_elsewhere s m (unmarked outside)
      (λ i ne. judged_still kind i (event (judge k m) hand answer) h (others i ne) (no_entry kind hand k m answer i) (no_change kind hand k m answer i))
      (same_standing kind hand k m answer h)

module _ {p : Piles} {h : History} {s : State} (hand : Note) (j : SoundJob p h s) where
  -- nothing in hand changes
  still_held : (k m : ℕ) (answer : Result Answer JobFault) (t : ℕ) → in_hand t (event (judge k m) hand answer ∷ h) ≡ noted_on t s.note
  still_held k m answer t = held_still t (event (judge k m) hand answer) h (none_of answer) ∙ j.held t

  beam_judged : (k m : ℕ) → k ≡ 1 → After hand j (judge k m) Judged (judge_in p s hand m kinds.Beam)
  beam_judged k m is =
      let filing = judged beam_form lawful_beam_member p.beams m s.beams in
      let answer : Result Answer JobFault = renamed Judged filing.answer in
      record {
        beams = (asked_sound hand k m answer beam_laws j.beams is).0;
        columns = sound_idle (idle_judged kinds.Column hand k m answer (λ e. absurd (omega arith))) j.columns;
        walls = sound_idle (idle_judged kinds.Wall hand k m answer (λ e. absurd (omega arith))) j.walls;
        sized = sized_beams s filing.rows (length_judged beam_form lawful_beam_member p.beams m s.beams) j.sized;
        held = still_held k m answer;
        backed = j.backed;
        balanced = j.balanced;
      }

  column_judged : (k m : ℕ) → k ≡ 2 → After hand j (judge k m) Judged (judge_in p s hand m kinds.Column)
  column_judged k m is =
      let filing = judged column_form lawful_column_member p.columns m s.columns in
      let answer : Result Answer JobFault = renamed Judged filing.answer in
      record {
        beams = sound_idle (idle_judged kinds.Beam hand k m answer (λ e. absurd (omega arith))) j.beams;
        columns = (asked_sound hand k m answer column_laws j.columns is).0;
        walls = sound_idle (idle_judged kinds.Wall hand k m answer (λ e. absurd (omega arith))) j.walls;
        sized = sized_columns s filing.rows (length_judged column_form lawful_column_member p.columns m s.columns) j.sized;
        held = still_held k m answer;
        backed = j.backed;
        balanced = j.balanced;
      }

  wall_judged : (k m : ℕ) → k ≡ 3 → After hand j (judge k m) Judged (judge_in p s hand m kinds.Wall)
  wall_judged k m is =
      let filing = judged wall_form lawful_wall p.walls m s.walls in
      let answer : Result Answer JobFault = renamed Judged filing.answer in
      let walls-sound = asked_sound hand k m answer wall_laws j.walls is in
      record {
        beams = sound_idle (idle_judged kinds.Beam hand k m answer (λ e. absurd (omega arith))) j.beams;
        columns = sound_idle (idle_judged kinds.Column hand k m answer (λ e. absurd (omega arith))) j.columns;
        walls = walls-sound.0;
        sized = sized_walls s filing.rows (length_judged wall_form lawful_wall p.walls m s.walls) j.sized;
        held = still_held k m answer;
        backed = λ some. subst (Any (Backed s.note)) (sym walls-sound.1) (j.backed some);
        balanced = subst (Balanced s.note) (sym walls-sound.1) j.balanced;
      }

  kind_judged : (k m : ℕ) (o : Option Kind) → kind_of k ≡ o → After hand j (judge k m) Judged (by_kind o (refused s hand) (judge_in p s hand m))
  kind_judged k m None is =
      job_idle (event (judge k m) hand (Err Argument)) (idle_judged kinds.Beam hand k m (Err Argument) (no_kind k kinds.Beam is)) (idle_judged kinds.Column hand k m (Err Argument) (no_kind k kinds.Column is)) (idle_judged kinds.Wall hand k m (Err Argument) (no_kind k kinds.Wall is)) refl j
  kind_judged k m (Some kinds.Beam) is = beam_judged k m (kind_numbered k kinds.Beam is)
  kind_judged k m (Some kinds.Column) is = column_judged k m (kind_numbered k kinds.Column is)
  kind_judged k m (Some kinds.Wall) is = wall_judged k m (kind_numbered k kinds.Wall is)

  -- a mark outside its limits is on no row
  unmarked_judged : (k m : ℕ) (fault : JobFault) → is_mark m ≡ false → SoundJob p (event (judge k m) hand (Err fault) ∷ h) s
  unmarked_judged k m fault outside = record {
    beams = unasked_sound hand k m (Err fault) beam_laws j.beams outside;
    columns = unasked_sound hand k m (Err fault) column_laws j.columns outside;
    walls = unasked_sound hand k m (Err fault) wall_laws j.walls outside;
    sized = j.sized;
    held = still_held k m (Err fault);
    backed = j.backed;
    balanced = j.balanced;
  }

  outside_limits : (m : ℕ) → SomeHolds ((Argument when not (are_sized s && is_mark m)) ∷ []) → is_mark m ≡ false
  outside_limits m some = ⊎_elim (λ e. sym (ap (λ b. b && is_mark m) j.sized) ∙ not-true (are_sized s && is_mark m) e) (λ never. absurd never) some

  pub judge_sound : (k m : ℕ) → After hand j (judge k m) Judged (judge_step p s hand k m)
  judge_sound k m =
      decide_cases (After hand j (judge k m) Judged) ((Argument when not (are_sized s && is_mark m)) ∷ []) (refused s hand) (by_kind (kind_of k) (refused s hand) (judge_in p s hand m))
      (λ fault some. unmarked_judged k m fault (outside_limits m some))
      (λ none. kind_judged k m (kind_of k) refl)
