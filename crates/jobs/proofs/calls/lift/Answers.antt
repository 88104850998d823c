-- Lift does what its definition says, so it keeps the law, and a hand that agrees with the job's note stays so.
use Rattle.law.specs.Histories as acts
use Rattle.std.proofs.Common.{ap}
use Rattle.law.specs.Laws.{renamed}
use Rattle.law.specs.declared.answers.Answer.TheVariants.{InHand}
use Rattle.law.proofs.Runs.{keeps_the_law}
use Rattle.law.proofs.Ends.{stays_in_step}
use Rattle.jobs.proofs.calls.lift.Goals as goal

pub returns-clause-keeps_the_law : goal.returns-clause-keeps_the_law
returns-clause-keeps_the_law c p = keeps_the_law p _ _ _ _ _ (ap (renamed InHand) c.lift_shear.ensures.answers_by_its_grounds) c.lift_shear.ensures.state_by_its_definition

pub returns-clause-hand_stays_in_step : goal.returns-clause-hand_stays_in_step
returns-clause-hand_stays_in_step c p = stays_in_step p (acts.lift c.args.wall c.args.newtons) _ _ _ _ c.lift_shear.ensures.state_by_its_definition c.lift_shear.ensures.hand_by_its_definition
