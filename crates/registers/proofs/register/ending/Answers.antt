-- The first free row, or past the last row, is where the register ends.
use Rattle.std.proofs.Common.{length, ap, ◌∙◌, arith, rules, tests}
use Rattle.std.specs.List.{position_from}
use Rattle.std.specs.Option.{unwrap_or}
use Rattle.std.proofs.lemmas.Iterator.{YieldsList-from_slice}
use Rattle.std.proofs.lemmas.Iterator.Search.{position_from_yields_List}
use Rattle.std.proofs.lemmas.Iterator.Adapters.{position_from-zero}
use Rattle.registers.proofs.Places.{ending_found}
use Rattle.registers.specs.Registers.{free}
use Rattle.registers.proofs.register.ending.Goals as goal

pub returns-clause-place_where_it_ends : goal.returns-clause-place_where_it_ends
returns-clause-place_where_it_ends g c =
    let form = g.R.Row.form in
    let rows = c.args.register.now in
    let at = position_from_yields_List (free form) _ _ _ c.position.ensures.ran (YieldsList-from_slice rows cc) (λ x b q k. search (rules, tests)) in
    c.unwrap_or.ensures ∙ ap (λ o. unwrap_or o (length rows)) (at ∙ position_from-zero (free form) rows) ∙ (ap (unwrap_or (position_from (free form) 0 rows)) (omega arith) ∙ ending_found form 0 rows)
