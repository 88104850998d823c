-- a call leaves the task in step; the hand as it was where no shear moves, and empty once put back
use Rattle.std.proofs.Common.{◌∙◌}
use Rattle.std.proofs.Math.Logic.{∥∥₁_elim, ∥∥₁_map}
use Rattle.std.proofs.Math.Nat.{ℕ_set}
use Rattle.jobs.proofs.Performed.{unmoved}
use Rattle.jobs.specs.Views.{act_of, state_of}
use Rattle.law.specs.Laws.{step}
use Rattle.transfer.proofs.Task.make.Goals as goal

pub invariant_of-self : goal.invariant_of-self
invariant_of-self g c = record {
  goes_on_from_an_opening = ∥∥₁_map c.args.self.now.goes_on_from_an_opening c.perform-answer.ensures.hand_stays_in_step;
}

pub returns-clause-same_hand_where_no_shear_moves : goal.returns-clause-same_hand_where_no_shear_moves
returns-clause-same_hand_where_no_shear_moves g c none =
    let s = c.args.self.now in
    let p = g.P.Books.meanings s.piles in
    let before = state_of s.job s.registers in
    let act = act_of c.args.call in
    ◌∙◌ {b = (step p act s.hand.note before).hand} c.perform-answer.ensures.hand_by_its_definition (unmoved before s.hand.note p act none)

pub returns-clause-put_back_leaves_no_shear : goal.returns-clause-put_back_leaves_no_shear
returns-clause-put_back_leaves_no_shear g c is =
    ∥∥₁_elim c.args.self.now.goes_on_from_an_opening (ℕ_set _ _) (c.perform-answer.ensures.put_back_leaves_no_shear is)
