-- The first row with the mark, of those before the first free row, is the one that is meant.
use Rattle.std.proofs.Common.{eqb, not, take, ◌∙◌, rules, tests}
use Rattle.std.specs.List.{prefix_len}
use Rattle.std.proofs.lemmas.Iterator.{YieldsList-from_slice}
use Rattle.std.proofs.lemmas.Iterator.Search.{position_from_yields_List, YieldsList-from_take_while}
use Rattle.std.proofs.lemmas.Iterator.Adapters.{position_from-zero}
use Rattle.registers.proofs.Places.{mark_found}
use Rattle.registers.specs.Registers.{free}
use Rattle.registers.proofs.register.find.Goals as goal

pub returns-clause-place_of_the_first_with_the_mark : goal.returns-clause-place_of_the_first_with_the_mark
returns-clause-place_of_the_first_with_the_mark g c =
    let form = g.R.Row.form in
    let rows = c.args.register.now in
    position_from_yields_List (λ r. eqb (form.mark r) c.args.mark) _ _ _ c.position.ensures.ran (YieldsList-from_take_while _ (λ r. not (free form r)) (YieldsList-from_slice rows cc) c.take_while.ensures.closure c.take_while.ensures.done (λ x b q k. search (rules, tests))) (λ x b q k. search (rules, tests))
    ∙ position_from-zero (λ r. eqb (form.mark r) c.args.mark) (take (prefix_len (λ r. not (free form r)) rows) rows)
    ∙ mark_found form c.args.mark 0 rows
