-- What a call answers is renamed as it is mapped, and calls that move no shear leave the hand as it was. Assumes
-- nothing.
use Rattle.std.proofs.Common.{◌≡◌, ℕ, not, ◌&&◌, List, [], ◌∷◌, Some, None, Ok, Err, Option, Result, IsOkAnd, refl, ap}
use Rattle.std.specs.Result.{MatchResult}
use Rattle.tables.specs.Codes.{kind_of}
use Rattle.tables.specs.declared.codes.Kind.{Kind}
use Rattle.tables.specs.declared.codes.Kind.TheVariants as kinds
use Rattle.faults.specs.declared.fault.SheetFault.{SheetFault}
use Rattle.faults.specs.declared.fault.JobFault.{JobFault}
use Rattle.faults.specs.declared.fault.JobFault.TheVariants.{Argument}
use Rattle.sheets.specs.declared.sheet.Sheet.{Sheet}
use Rattle.sheets.specs.declared.sheet.Sheet.TheVariants as sheets
use Rattle.messages.specs.Messages.{decoded}
use Rattle.faults.specs.Grounds.{Ground, ◌when◌, decide}
use Rattle.registers.specs.declared.note.Note.{Note}
use Rattle.law.specs.Histories.{Act, wall_moved}
use Rattle.law.specs.Histories as acts
use Rattle.law.specs.Laws.{renamed, step}
use Rattle.law.specs.States.{State, Piles, Outcome, refused, is_mark, is_storey, are_sized}
use Rattle.law.specs.declared.answers.Sums.{Sums}
use Rattle.law.proofs.Decisions.{decide_cases}
use Rattle.law.specs.Steps.{file_read, enter_step, by_kind, withdraw_from, withdraw_step, judge_in, judge_step, sums, tally_step}

-- something is not nothing
some_none : (m : ℕ) → ◌≡◌ {A = Option ℕ} (Some m) None → ⊥
some_none m e = cc

-- an answer that is mapped is renamed
pub mapped : {A B : Type 0} (name : A → B) (answer : Result A JobFault) (r : Result B JobFault) → MatchResult answer (λ a. IsOkAnd r (λ b. b ≡ name a)) (λ fault. r ≡ Err fault) → r ≡ renamed name answer
mapped name (Ok a) (Ok b) is = ap Ok is
mapped name (Ok a) (Err fault) is = absurd is
mapped name (Err fault) r is = is

module _ (s : State) (hand : Note) where
  -- whichever ground refuses, and where none does
  decided : {A : Type 0} (gs : List Ground) (done : Outcome A) → done.hand ≡ hand → (decide gs (refused s hand) done).hand ≡ hand
  decided gs done same = decide_cases (λ o. o.hand ≡ hand) gs (refused s hand) done (λ fault some. refl) (λ none. same)

  -- filing a sheet that was read
  read_hand : (r : Result Sheet SheetFault) → (file_read s hand r).hand ≡ hand
  read_hand (Ok (sheets.Beam b)) = refl
  read_hand (Ok (sheets.Column c)) = refl
  read_hand (Ok (sheets.Wall w)) = refl
  read_hand (Err fault) = refl

  -- enter
  pub enter_hand : (message : List ℕ) → (enter_step s hand message).hand ≡ hand
  enter_hand message = decided ((Argument when not (are_sized s)) ∷ []) (file_read s hand (decoded message)) (read_hand (decoded message))

  module _ (mark : ℕ) where
    -- the grounds against a call that names a row
    abbrev grounds : List Ground
    grounds = (Argument when not (are_sized s && is_mark mark)) ∷ []

    -- withdrawing from the register of a kind
    from_hand : (k : Option Kind) → (by_kind k (refused s hand) (withdraw_from s hand mark)).hand ≡ hand
    from_hand None = refl
    from_hand (Some kinds.Beam) = refl
    from_hand (Some kinds.Column) = refl
    from_hand (Some kinds.Wall) = refl

    -- withdraw
    withdraw_hand : (kind : ℕ) → (withdraw_step s hand kind mark).hand ≡ hand
    withdraw_hand kind = decided grounds (by_kind (kind_of kind) (refused s hand) (withdraw_from s hand mark)) (from_hand (kind_of kind))

    -- judging in the register of a kind
    in_hand : (p : Piles) (k : Option Kind) → (by_kind k (refused s hand) (judge_in p s hand mark)).hand ≡ hand
    in_hand p None = refl
    in_hand p (Some kinds.Beam) = refl
    in_hand p (Some kinds.Column) = refl
    in_hand p (Some kinds.Wall) = refl

    -- judge
    judge_hand : (p : Piles) (kind : ℕ) → (judge_step p s hand kind mark).hand ≡ hand
    judge_hand p kind = decided grounds (by_kind (kind_of kind) (refused s hand) (judge_in p s hand mark)) (in_hand p (kind_of kind))

  module _ (storey : ℕ) where
    -- what tally does where no ground refuses it
    abbrev told : Outcome Sums
    told = record { answer = Ok (sums s storey); state = s; hand = hand }

    -- the ground against tally
    abbrev against : List Ground
    against = (Argument when not (are_sized s && is_storey storey)) ∷ []

    -- tally
    tally_hand : (tally_step s hand storey).hand ≡ hand
    tally_hand = decided against told refl

    -- tally leaves the state too
    pub tally_state : (tally_step s hand storey).state ≡ s
    tally_state = decide_cases (λ o. o.state ≡ s) against (refused s hand) told (λ fault some. refl) (λ none. refl)

  -- a call that moves no shear leaves the hand as it was
  pub unmoved : (p : Piles) (act : Act) → wall_moved act hand ≡ None → (step p act hand s).hand ≡ hand
  unmoved p (acts.enter message) none = enter_hand message
  unmoved p (acts.withdraw k m) none = withdraw_hand m k
  unmoved p (acts.judge k m) none = judge_hand m p k
  unmoved p (acts.lift m n) none = absurd (some_none m none)
  unmoved p (acts.place m n) none = absurd (some_none m none)
  unmoved p acts.put_back none = absurd (some_none hand.wall none)
  unmoved p (acts.tally t) none = tally_hand t
