-- How withdraw, judge and tally keep a job. Assumes nothing.
use Rattle.std.proofs.Common.{◌≡◌, ℕ, ◌≤◌, Bool, false, not, ◌&&◌, eqb, List, [], ◌∷◌, ◌++◌, length, is_some, Some, None, Ok, Option, sym, refl, ap, ◌∙◌, subst, arith}
use Rattle.std.proofs.lemmas.List.{map-append}
use Rattle.std.proofs.lemmas.Bool.{and_left, and_from, or_parts, both_ways, eq-eqb, ne_eqb, eqb-true, not-false}
use Rattle.tables.specs.Codes.{kind_of, kind_number}
use Rattle.tables.specs.declared.codes.Kind.{Kind}
use Rattle.tables.specs.declared.codes.Kind.TheVariants as kinds
use Rattle.faults.specs.declared.fault.JobFault.TheVariants.{Argument, Unknown, ShearMoved}
use Rattle.messages.proofs.Canonicals.{kind_numbered}
use Rattle.books.specs.Meanings.{Meaning}
use Rattle.registers.specs.Forms.{Form}
use Rattle.registers.specs.Registers.{find, row_at, closed_up, without}
use Rattle.faults.specs.Grounds.{Ground, ◌when◌}
use Rattle.registers.specs.Filings.{unfiled, withdrawn}
use Rattle.registers.specs.Rows.{beam_form, column_form, wall_form, in_hand_from}
use Rattle.registers.specs.declared.note.Note.{Note}
use Rattle.law.specs.States.{State, Piles, refused, is_mark, is_storey, are_sized, with_beams, with_columns, with_walls}
use Rattle.law.specs.Steps.{on_beams, on_columns, on_walls, by_kind, withdraw_from, withdraw_step, tally_step, sums}
use Rattle.law.specs.Histories.{withdraw, tally, History}
use Rattle.law.specs.Laws.{event}
use Rattle.law.specs.declared.answers.Answer.TheVariants.{Done, Tallied}
use Rattle.law.proofs.Marks.{Any, any_out}
use Rattle.law.proofs.Filed.{length_closed_up}
use Rattle.law.proofs.Decisions.{decide_cases}
use Rattle.law.proofs.Sound.{FormLaws, Sound, Idle, sound_idle, stand, judged_still}
use Rattle.law.proofs.Filings.{sound_withdrawn, met, Met}
use Rattle.law.proofs.RowLaws.{beam_laws, column_laws, wall_laws}
use Rattle.law.proofs.Shear.{walls_of, Balanced, balanced_out, Backed}
use Rattle.law.proofs.Jobs.{SoundJob, sized_beams, sized_columns, sized_walls, job_idle, After, refused_sound}

-- a number that stands for one kind names no member of another
pub other_kind : (k n : ℕ) (test : Bool) → (k ≡ n → ⊥) → (eqb k n && test) ≡ false
other_kind k n test ne = and_left (eqb k n) test (ne_eqb k n ne)

pub own_kind : (k n : ℕ) (test : Bool) → k ≡ n → (eqb k n && test) ≡ test
own_kind k n test same = ap (λ b. b && test) (eq-eqb k n same)

-- a number that stands for no kind
pub no_kind : (k : ℕ) (kind : Kind) → kind_of k ≡ None → k ≡ kind_number kind → ⊥
no_kind k kind none same = let z : ◌≡◌ {A = ℕ} 0 1 = clash kind (sym (ap kind_of same) ∙ none) in omega arith
  where
    clash : (kind : Kind) → kind_of (kind_number kind) ≡ None → ◌≡◌ {A = ℕ} 0 1
    clash kinds.Beam e = cc
    clash kinds.Column e = cc
    clash kinds.Wall e = cc

-- Withdrawing.

idle_withdrawn : (kind : Kind) (hand : Note) (k m : ℕ) → (k ≡ kind_number kind → ⊥) → Idle kind (event (withdraw k m) hand (Ok Done))
idle_withdrawn kind hand k m ne = record {
  judging = λ i. refl;
  entering = λ i. refl;
  joining = λ xs. refl;
  withdrawing = λ i. other_kind k (kind_number kind) (eqb m i) ne;
  changing = λ i. refl;
}

abbrev withdraw_grounds : {R M : Type 0} → Form R M → Note → ℕ → List R → List Ground
withdraw_grounds form note m rows = (Unknown when not (is_some (find form m rows))) ∷ (ShearMoved when form.moved note (row_at form (find form m rows) rows)) ∷ []

-- a register from which a row was withdrawn
module _ {R M : Type 0} {form : Form R M} {lawful : M → Bool} {book : Meaning M} {kind : Kind} {h : History} {rows : List R} (hand : Note) (k m : ℕ) (number : k ≡ kind_number kind) (laws : FormLaws form lawful kind) (s : Sound form lawful book kind h rows) (meet : Met {form = form} {lawful = lawful} {book = book} {kind = kind} {h = h} {rows = rows} m s) where
  abbrev closed_sound : Sound form lawful book kind (event (withdraw k m) hand (Ok Done) ∷ h) (closed_up form (length meet.at.before) rows)
  closed_sound =
      sound_withdrawn laws s meet.at
      (λ i. judged_still kind i (event (withdraw k m) hand (Ok Done)) h refl refl refl)
      refl
      (λ i. own_kind k (kind_number kind) (eqb m i) number)

  closed_is : without form (find form m rows) rows ≡ closed_up form (length meet.at.before) rows
  closed_is = ap (λ o. without form o rows) meet.place

  closed_length : length (closed_up form (length meet.at.before) rows) ≡ length rows
  closed_length = length_closed_up form (length meet.at.before) rows

module _ {p : Piles} {h : History} {s : State} (hand : Note) (j : SoundJob p h s) where
  beam_withdrawn : (k m : ℕ) → k ≡ 1 → After hand j (withdraw k m) (λ _. Done) (on_beams s hand (withdrawn beam_form s.note m s.beams))
  beam_withdrawn k m is =
      decide_cases (λ filing. After hand j (withdraw k m) (λ _. Done) (on_beams s hand filing)) (withdraw_grounds beam_form s.note m s.beams) (unfiled s.beams) (record { answer = Ok tt; rows = without beam_form (find beam_form m s.beams) s.beams })
      (λ fault some. refused_sound hand j (withdraw k m) (λ kind i. refl) fault)
      (λ none.
      let meet = met (stand beam_laws m j.beams) none.0 in
      subst (λ rows. SoundJob p (event (withdraw k m) hand (Ok Done) ∷ h) (with_beams s rows)) (sym (closed_is hand k m is beam_laws j.beams meet))
      (record {
        beams = closed_sound hand k m is beam_laws j.beams meet;
        columns = sound_idle (idle_withdrawn kinds.Column hand k m (λ e. absurd (omega arith))) j.columns;
        walls = sound_idle (idle_withdrawn kinds.Wall hand k m (λ e. absurd (omega arith))) j.walls;
        sized = sized_beams s (closed_up beam_form (length meet.at.before) s.beams) (closed_length hand k m is beam_laws j.beams meet) j.sized;
        held = j.held;
        backed = j.backed;
        balanced = j.balanced;
      }))

  column_withdrawn : (k m : ℕ) → k ≡ 2 → After hand j (withdraw k m) (λ _. Done) (on_columns s hand (withdrawn column_form s.note m s.columns))
  column_withdrawn k m is =
      decide_cases (λ filing. After hand j (withdraw k m) (λ _. Done) (on_columns s hand filing)) (withdraw_grounds column_form s.note m s.columns) (unfiled s.columns) (record { answer = Ok tt; rows = without column_form (find column_form m s.columns) s.columns })
      (λ fault some. refused_sound hand j (withdraw k m) (λ kind i. refl) fault)
      (λ none.
      let meet = met (stand column_laws m j.columns) none.0 in
      subst (λ rows. SoundJob p (event (withdraw k m) hand (Ok Done) ∷ h) (with_columns s rows)) (sym (closed_is hand k m is column_laws j.columns meet))
      (record {
        beams = sound_idle (idle_withdrawn kinds.Beam hand k m (λ e. absurd (omega arith))) j.beams;
        columns = closed_sound hand k m is column_laws j.columns meet;
        walls = sound_idle (idle_withdrawn kinds.Wall hand k m (λ e. absurd (omega arith))) j.walls;
        sized = sized_columns s (closed_up column_form (length meet.at.before) s.columns) (closed_length hand k m is column_laws j.columns meet) j.sized;
        held = j.held;
        backed = j.backed;
        balanced = j.balanced;
      }))

  wall_withdrawn : (k m : ℕ) → k ≡ 3 → After hand j (withdraw k m) (λ _. Done) (on_walls s hand (withdrawn wall_form s.note m s.walls))
  wall_withdrawn k m is =
      decide_cases (λ filing. After hand j (withdraw k m) (λ _. Done) (on_walls s hand filing)) (withdraw_grounds wall_form s.note m s.walls) (unfiled s.walls) (record { answer = Ok tt; rows = without wall_form (find wall_form m s.walls) s.walls })
      (λ fault some. refused_sound hand j (withdraw k m) (λ kind i. refl) fault)
      (λ none.
      let meet = met (stand wall_laws m j.walls) none.0 in
      let at = meet.at in
      let still : wall_form.moved s.note at.row ≡ false = ap (wall_form.moved s.note) (sym meet.row_is) ∙ none.1.0 in
      let parts = or_parts (not (eqb at.row.member.carried at.row.member.sheet.shear)) (in_hand_from s.note at.row.member.sheet.heading.mark) still in
      let own : at.row.member.carried ≡ at.row.member.sheet.shear = eqb-true at.row.member.carried at.row.member.sheet.shear (not-false (eqb at.row.member.carried at.row.member.sheet.shear) parts.0) in
      let split : walls_of j.walls.members ≡ walls_of at.before ++ wall_form.member at.row ∷ walls_of at.after = ap walls_of at.spelled ∙ map-append wall_form.member at.before (at.row ∷ at.after) in
      let joined_back : walls_of (at.before ++ at.after) ≡ walls_of at.before ++ walls_of at.after = map-append wall_form.member at.before at.after in
      subst (λ rows. SoundJob p (event (withdraw k m) hand (Ok Done) ∷ h) (with_walls s rows)) (sym (closed_is hand k m is wall_laws j.walls meet))
      (record {
        beams = sound_idle (idle_withdrawn kinds.Beam hand k m (λ e. absurd (omega arith))) j.beams;
        columns = sound_idle (idle_withdrawn kinds.Column hand k m (λ e. absurd (omega arith))) j.columns;
        walls = closed_sound hand k m is wall_laws j.walls meet;
        sized = sized_walls s (closed_up wall_form (length at.before) s.walls) (closed_length hand k m is wall_laws j.walls meet) j.sized;
        held = j.held;
        backed = λ some. subst (Any (Backed s.note)) (sym joined_back) (any_out (Backed s.note) (walls_of at.before) (wall_form.member at.row) (walls_of at.after) (λ back. not_from s.note at.row.member.sheet.heading.mark some parts.1 (sym back.is)) (subst (Any (Backed s.note)) split (j.backed some)));
        balanced = subst (Balanced s.note) (sym joined_back) (balanced_out s.note (walls_of at.before) (wall_form.member at.row) (walls_of at.after) own (subst (Balanced s.note) split j.balanced));
      }))
    where
      not_from : (note : Note) (mark : ℕ) → 1 ≤ note.newtons → in_hand_from note mark ≡ false → note.wall ≡ mark → ⊥
      not_from note mark some none same = both_ways (in_hand_from note mark) none (and_from (not (eqb note.newtons 0)) (eqb note.wall mark) (ap not (ne_eqb note.newtons 0 (λ e. absurd (omega arith)))) (eq-eqb note.wall mark same))

  kind_withdrawn : (k m : ℕ) (o : Option Kind) → kind_of k ≡ o → After hand j (withdraw k m) (λ _. Done) (by_kind o (refused s hand) (withdraw_from s hand m))
  kind_withdrawn k m None is = refused_sound hand j (withdraw k m) (λ kind i. refl) Argument
  kind_withdrawn k m (Some kinds.Beam) is = beam_withdrawn k m (kind_numbered k kinds.Beam is)
  kind_withdrawn k m (Some kinds.Column) is = column_withdrawn k m (kind_numbered k kinds.Column is)
  kind_withdrawn k m (Some kinds.Wall) is = wall_withdrawn k m (kind_numbered k kinds.Wall is)

  pub withdraw_sound : (k m : ℕ) → After hand j (withdraw k m) (λ _. Done) (withdraw_step s hand k m)
  withdraw_sound k m =
      decide_cases (After hand j (withdraw k m) (λ _. Done)) ((Argument when not (are_sized s && is_mark m)) ∷ []) (refused s hand) (by_kind (kind_of k) (refused s hand) (withdraw_from s hand m))
      (λ fault some. refused_sound hand j (withdraw k m) (λ kind i. refl) fault)
      (λ none. kind_withdrawn k m (kind_of k) refl)

  -- Tallying.

  pub tally_sound : (t : ℕ) → After hand j (tally t) Tallied (tally_step s hand t)
  tally_sound t =
      decide_cases (After hand j (tally t) Tallied) ((Argument when not (are_sized s && is_storey t)) ∷ []) (refused s hand) (record { answer = Ok (sums s t); state = s; hand = hand })
      (λ fault some. refused_sound hand j (tally t) (λ kind i. refl) fault)
      (λ none. job_idle (event (tally t) hand (Ok (Tallied (sums s t)))) quiet quiet quiet refl j)
    where
      quiet : {kind : Kind} → Idle kind (event (tally t) hand (Ok (Tallied (sums s t))))
      quiet = record { judging = λ i. refl; entering = λ i. refl; joining = λ xs. refl; withdrawing = λ i. refl; changing = λ i. refl }
