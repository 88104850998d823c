-- A program that goes on from an opening can always put back what it has in hand. Assumes nothing.
use Rattle.std.proofs.Common.{◌≡◌, ℕ, ◌+◌, ◌-◌, ◌≤◌, not, ◌&&◌, [], ◌∷◌, Some, None, Ok, Err, Option, Result, sym, refl, ap, ◌∙◌, subst, ⊎_elim, arith}
use Rattle.std.proofs.lemmas.Bool.{cases_eq}
use Rattle.tables.specs.Codes.{kind_of}
use Rattle.tables.specs.declared.codes.Kind.{Kind}
use Rattle.tables.specs.declared.codes.Kind.TheVariants as kinds
use Rattle.faults.specs.declared.fault.SheetFault.{SheetFault}
use Rattle.faults.specs.declared.fault.JobFault.{JobFault}
use Rattle.faults.specs.declared.fault.JobFault.TheVariants.{Argument}
use Rattle.sheets.specs.declared.sheet.Sheet.{Sheet}
use Rattle.sheets.specs.declared.sheet.Sheet.TheVariants as sheets
use Rattle.messages.specs.Messages.{decoded}
use Rattle.faults.specs.Grounds.{◌when◌}
use Rattle.registers.specs.declared.note.Note.{Note}
use Rattle.law.specs.States.{State, Piles, Outcome, refused, empty, less, is_mark, is_storey, are_sized}
use Rattle.law.specs.Steps.{file_read, by_kind, withdraw_from, judge_in, wall_found, moved, sums, put_back_step}
use Rattle.law.specs.Histories.{Act, enter, withdraw, judge, lift, place, put_back, tally, History}
use Rattle.law.specs.Laws.{step, event, call, InStep, StaysInStep, PutBackEmpties, renamed}
use Rattle.law.specs.declared.answers.Answer.{Answer}
use Rattle.law.specs.declared.answers.Answer.TheVariants.{InHand}
use Rattle.law.proofs.Decisions.{decide_cases}
use Rattle.law.proofs.Moves.{lift_grounds, place_grounds, put_back_grounds}
use Rattle.law.proofs.Jobs.{SoundJob}
use Rattle.law.proofs.Runs.{reached_sound, reached_kept}

-- the hand and the job's note agree after a call
abbrev Agree : {A : Type 0} → Outcome A → Type 0
Agree o = o.hand ≡ o.state.note

module _ (p : Piles) (s : State) (hand : Note) (agrees : hand ≡ s.note) where
  read_agrees : (r : Result Sheet SheetFault) → Agree (file_read s hand r)
  read_agrees (Err fault) = agrees
  read_agrees (Ok (sheets.Beam b)) = agrees
  read_agrees (Ok (sheets.Column c)) = agrees
  read_agrees (Ok (sheets.Wall w)) = agrees

  withdraw_agrees : (m : ℕ) (o : Option Kind) → Agree (by_kind o (refused s hand) (withdraw_from s hand m))
  withdraw_agrees m None = agrees
  withdraw_agrees m (Some kinds.Beam) = agrees
  withdraw_agrees m (Some kinds.Column) = agrees
  withdraw_agrees m (Some kinds.Wall) = agrees

  judge_agrees : (m : ℕ) (o : Option Kind) → Agree (by_kind o (refused s hand) (judge_in p s hand m))
  judge_agrees m None = agrees
  judge_agrees m (Some kinds.Beam) = agrees
  judge_agrees m (Some kinds.Column) = agrees
  judge_agrees m (Some kinds.Wall) = agrees

  module _ {h : History} (j : SoundJob p h s) where
    step_agrees : (act : Act) → (step p act hand s).hand ≡ (step p act hand s).state.note
    step_agrees (enter message) = decide_cases Agree ((Argument when not (are_sized s)) ∷ []) (refused s hand) (file_read s hand (decoded message)) (λ f some. agrees) (λ none. read_agrees (decoded message))
    step_agrees (withdraw k m) = decide_cases Agree ((Argument when not (are_sized s && is_mark m)) ∷ []) (refused s hand) (by_kind (kind_of k) (refused s hand) (withdraw_from s hand m)) (λ f some. agrees) (λ none. withdraw_agrees m (kind_of k))
    step_agrees (judge k m) = decide_cases Agree ((Argument when not (are_sized s && is_mark m)) ∷ []) (refused s hand) (by_kind (kind_of k) (refused s hand) (judge_in p s hand m)) (λ f some. agrees) (λ none. judge_agrees m (kind_of k))
    step_agrees (lift m n) = decide_cases Agree (lift_grounds hand j m n) (refused s hand) (moved s m ((wall_found s m).member.carried - n) (record { job = s.number; wall = m; storey = (wall_found s m).member.sheet.storey; newtons = n })) (λ f some. agrees) (λ none. refl)
    step_agrees (place m n) = decide_cases Agree (place_grounds hand j m n) (refused s hand) (moved s m ((wall_found s m).member.carried + n) (less hand n)) (λ f some. agrees) (λ none. refl)
    step_agrees put_back = decide_cases Agree (put_back_grounds hand j) (refused s hand) (moved s hand.wall ((wall_found s hand.wall).member.carried + hand.newtons) empty) (λ f some. agrees) (λ none. refl)
    step_agrees (tally t) = decide_cases Agree ((Argument when not (are_sized s && is_storey t)) ∷ []) (refused s hand) (record { answer = Ok (sums s t); state = s; hand = hand }) (λ f some. agrees) (λ none. agrees)

    -- put back leaves the hand as it was, or empty
    back_leaves : (P : Result ℕ JobFault → Note → Type 0) → ((fault : JobFault) → P (Err fault) hand) → P (Ok 0) empty → P (put_back_step s hand).answer (put_back_step s hand).hand
    back_leaves P refusal doing = decide_cases (λ o. P o.answer o.hand) (put_back_grounds hand j) (refused s hand) (moved s hand.wall ((wall_found s hand.wall).member.carried + hand.newtons) empty) (λ f some. refusal f) (λ none. doing)

pub stays_in_step : (p : Piles) (act : Act) (before : State) (hand : Note) (after : State) (left : Note) → after ≡ (step p act hand before).state → left ≡ (step p act hand before).hand → StaysInStep p before hand after left
stays_in_step p act before hand after left after_is left_is i =
    subst (λ s. InStep p s left) (sym after_is) (subst (InStep p (step p act hand before).state) (sym left_is) (record {
      history = event act hand (step p act hand before).answer ∷ i.history;
      reached = call i.reached act hand;
      agrees = step_agrees p before hand i.agrees (reached_sound i.reached) act;
    }))

-- an answer that is given is no refusal
never_refused : (fault : JobFault) (n : ℕ) → ◌≡◌ {A = Result Answer JobFault} (Err fault) (Ok (InHand n)) → ⊥
never_refused fault n e = cc

empties : (p : Piles) (s : State) (hand : Note) → InStep p s hand → (put_back_step s hand).hand.newtons ≡ 0
empties p s hand i =
    let j = reached_sound i.reached in
    ⊎_elim
    (λ none. back_leaves p s hand i.agrees j (λ answer left. left.newtons ≡ 0) (λ fault. none) refl)
    (λ some.
    let goes : renamed InHand (put_back_step s hand).answer ≡ Ok (InHand 0) =
    subst (λ x. (step p put_back x s).answer ≡ Ok (InHand 0)) (sym i.agrees) ((reached_kept i.reached).goes_back (subst (λ x. 1 ≤ x.newtons) i.agrees (omega (arith, some))))
    in
    back_leaves p s hand i.agrees j (λ answer left. renamed InHand answer ≡ Ok (InHand 0) → left.newtons ≡ 0) (λ fault e. absurd (never_refused fault 0 e)) (λ e. refl) goes)
    (cases_eq hand.newtons 0)

pub put_back_empties : (p : Piles) (act : Act) (before : State) (hand left : Note) → left ≡ (step p act hand before).hand → PutBackEmpties p act before hand left
put_back_empties p act before hand left left_is is i =
    ap (λ x. x.newtons) (left_is ∙ ap (λ a. (step p a hand before).hand) is) ∙ empties p before hand i
