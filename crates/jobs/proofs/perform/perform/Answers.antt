-- What the definition of the call fixes carries the law.
use Rattle.law.proofs.Runs.{keeps_the_law}
use Rattle.law.proofs.Ends.{stays_in_step, put_back_empties}
use Rattle.jobs.proofs.perform.perform.Goals as goal

pub returns-clause-keeps_the_law : goal.returns-clause-keeps_the_law
returns-clause-keeps_the_law g c = keeps_the_law _ _ _ _ _ _ c.performed.ensures.answers_by_its_grounds c.performed.ensures.state_by_its_definition

pub returns-clause-hand_stays_in_step : goal.returns-clause-hand_stays_in_step
returns-clause-hand_stays_in_step g c = stays_in_step _ _ _ _ _ _ c.performed.ensures.state_by_its_definition c.performed.ensures.hand_by_its_definition

pub returns-clause-put_back_leaves_no_shear : goal.returns-clause-put_back_leaves_no_shear
returns-clause-put_back_leaves_no_shear g c = put_back_empties _ _ _ _ _ c.performed.ensures.hand_by_its_definition
