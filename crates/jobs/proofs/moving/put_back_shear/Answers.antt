-- Where put back is refused, its definition leaves the state and the hand as they were.
use Rattle.std.proofs.Common.{ap, ◌∙◌}
use Rattle.jobs.specs.Changes.{done_by}
use Rattle.jobs.specs.Views.{state_of}
use Rattle.jobs.proofs.Moved.{put_back}
use Rattle.jobs.proofs.moving.put_back_shear.Goals as goal

pub returns-in_err-change-clause-state_by_its_definition : goal.returns-in_err-change-clause-state_by_its_definition
returns-in_err-change-clause-state_by_its_definition c =
    let s = state_of c.args.job.now c.args.registers.now in
    let hand = c.args.hand.now.note in
    ap (λ o. o.state) (ap (done_by s hand) c.in_err-change.ensures.change_or_first_ground ∙ put_back s hand)

pub returns-in_err-change-clause-hand_by_its_definition : goal.returns-in_err-change-clause-hand_by_its_definition
returns-in_err-change-clause-hand_by_its_definition c =
    let s = state_of c.args.job.now c.args.registers.now in
    let hand = c.args.hand.now.note in
    ap (λ o. o.hand) (ap (done_by s hand) c.in_err-change.ensures.change_or_first_ground ∙ put_back s hand)
