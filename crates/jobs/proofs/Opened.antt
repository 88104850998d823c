-- What opening leaves is reached by the empty history, and the law holds there. Assumes nothing.
use Rattle.std.proofs.Common.{◌≡◌, ℕ, Bool, true, false, cond, [], length, Ok, Err, Result, IfOk, sym, refl, ◌∙◌, subst}
use Rattle.std.proofs.lemmas.List.{length-replicate}
use Rattle.faults.specs.declared.fault.JobFault.{JobFault}
use Rattle.faults.specs.declared.fault.JobFault.TheVariants.{Argument}
use Rattle.law.specs.States.{Piles, State}
use Rattle.law.specs.Steps.{may_open, opened}
use Rattle.law.specs.Laws.{Kept, Reached, opening}
use Rattle.law.proofs.Runs.{reached_kept}
use Rattle.jobs.specs.declared.job.Job.{Job}
use Rattle.jobs.specs.declared.lent.Registers.{Registers}
use Rattle.jobs.specs.Views.{fresh, may_open_on, open_answer, open_state, state_of}

-- a job may be opened on registers of rows of zeros where it may be on registers of as many rows
opens_alike : (number : ℕ) (registers : Registers) → may_open number (opened number (length registers.beams.now) (length registers.columns.now) (length registers.walls.now)) ≡ may_open_on number registers
opens_alike number registers = simp (length-replicate) refl

module _ (p : Piles) (number : ℕ) (before after : Registers) where
  -- the law holds in a job that was opened
  abbrev Lawful : Result Job JobFault → Type 0
  Lawful r = IfOk r (λ job. Reached p [] (state_of job after) × Kept p [] (state_of job after))

  -- whichever way the test goes
  by_test : (b : Bool) (new same : State) (r : Result Job JobFault) → (b ≡ true → Reached p [] new) → r ≡ cond b (Ok (fresh number)) (Err Argument) → state_of (fresh number) after ≡ cond b new same → Lawful r
  by_test true new same r reached answered rows =
      let there : Reached p [] (state_of (fresh number) after) = subst (Reached p []) (sym rows) (reached refl) in
      subst Lawful (sym answered) (there, reached_kept there)
  by_test false new same r reached answered rows = subst Lawful (sym answered) tt

  pub opened_lawfully : (r : Result Job JobFault) → r ≡ open_answer number before → state_of (fresh number) after ≡ open_state number before → Lawful r
  opened_lawfully r =
      by_test
      (may_open_on number before)
      (opened number (length before.beams.now) (length before.columns.now) (length before.walls.now))
      (state_of (fresh number) before)
      r
      (λ fit. opening number (length before.beams.now) (length before.columns.now) (length before.walls.now) (opens_alike number before ∙ fit))
