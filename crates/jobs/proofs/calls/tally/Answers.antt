-- Tally answers what its definition says and leaves the state, so it keeps the law, whatever the hand.
use Rattle.std.proofs.Common.{sym, ap}
use Rattle.law.specs.Laws.{renamed}
use Rattle.law.specs.declared.answers.Answer.TheVariants.{Tallied}
use Rattle.law.specs.Histories as acts
use Rattle.law.proofs.Runs.{keeps_the_law}
use Rattle.jobs.specs.Views.{state_of}
use Rattle.jobs.proofs.Performed.{tally_state}
use Rattle.jobs.proofs.calls.tally.Goals as goal

pub returns-clause-keeps_the_law : goal.returns-clause-keeps_the_law
returns-clause-keeps_the_law c p hand =
    let s = state_of c.args.job.now c.args.registers.now in
    keeps_the_law p (acts.tally c.args.storey) hand s _ s (ap (renamed Tallied) (c.tally_storey.ensures.answers_by_its_grounds hand)) (sym (tally_state s hand c.args.storey))
