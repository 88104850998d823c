-- Judge answers what its definition says, by whatever books.
use Rattle.std.proofs.Common.{sym, ap, ◌∙◌}
use Rattle.law.specs.Laws.{renamed, step}
use Rattle.law.specs.declared.answers.Answer.TheVariants.{Judged}
use Rattle.jobs.specs.Views.{act_of, state_of}
use Rattle.jobs.proofs.Performed.{mapped}
use Rattle.jobs.proofs.perform.performed.Goals as goal

pub returns-in-Judge-clause-answers_by_its_grounds : goal.returns-in-Judge-clause-answers_by_its_grounds
returns-in-Judge-clause-answers_by_its_grounds g c =
    let s = state_of c.args.job.now c.args.registers.now in
    let hand = c.args.hand.now.note in
    mapped Judged _ _ c.map-in-Judge.ensures.cases ∙ ap (renamed Judged) (c.judge.ensures.answers_by_its_grounds hand) ∙ ap (λ call. (step (g.P.Books.meanings c.args.piles.now) (act_of call) hand s).answer) (sym c.in-Judge.is)

pub returns-in-Judge-clause-state_by_its_definition : goal.returns-in-Judge-clause-state_by_its_definition
returns-in-Judge-clause-state_by_its_definition g c =
    let s = state_of c.args.job.now c.args.registers.now in
    let hand = c.args.hand.now.note in
    c.judge.ensures.state_by_its_definition hand ∙ ap (λ call. (step (g.P.Books.meanings c.args.piles.now) (act_of call) hand s).state) (sym c.in-Judge.is)
