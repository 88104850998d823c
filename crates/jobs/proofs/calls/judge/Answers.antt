-- Judge does what its definition says, so it keeps the law, whatever the hand.
use Rattle.std.proofs.Common.{ap}
use Rattle.law.specs.Laws.{renamed}
use Rattle.law.specs.declared.answers.Answer.TheVariants.{Judged}
use Rattle.law.proofs.Runs.{keeps_the_law}
use Rattle.jobs.proofs.calls.judge.Goals as goal

pub returns-clause-keeps_the_law : goal.returns-clause-keeps_the_law
returns-clause-keeps_the_law g c hand = keeps_the_law _ _ hand _ _ _ (ap (renamed Judged) (c.judge_sheet.ensures.answers_by_its_grounds c.args.job.now hand)) (c.judge_sheet.ensures.state_by_its_definition c.args.job.now hand)
