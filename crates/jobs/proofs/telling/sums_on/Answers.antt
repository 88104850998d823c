-- Each row adds its own to both sums, up to the register's end.
use Rattle.std.proofs.Common.{arith}
use Rattle.std.proofs.lemmas.List.{at_drop_all}
use Rattle.law.specs.Steps.{sum_on}
use Rattle.jobs.proofs.Summing.{sum_ends, sum_goes}
use Rattle.jobs.proofs.telling.sums_on.Goals as goal

pub loop-wall-preserved : goal.loop-wall-preserved
loop-wall-preserved c =
    let within = c.loop-wall-test.true in
    let filed = c.if-wall-eq0.false in
    (sum_goes (λ w. w.member.carried) c.args.storey _ _ within filed _ _ _ c.loop-wall.invariant.0 c.only_on-carried.ensures.newtons_of_the_storey, sum_goes (λ w. w.member.sheet.shear) c.args.storey _ _ within filed _ _ _ c.loop-wall.invariant.1 c.only_on-sheets.ensures.newtons_of_the_storey, omega arith, omega arith)

pub returns-then-wall-eq0 : goal.returns-then-wall-eq0
returns-then-wall-eq0 c =
    let carried = sum_ends (λ w. w.member.carried) c.args.storey _ _ c.loop-wall-test.true c.if-wall-eq0.true in
    let sheets = sum_ends (λ w. w.member.sheet.shear) c.args.storey _ _ c.loop-wall-test.true c.if-wall-eq0.true in
    record { carried_by_the_walls = omega arith; on_their_sheets = omega arith }

pub returns-after-loop-wall : goal.returns-after-loop-wall
returns-after-loop-wall c =
    let carried = at_drop_all (sum_on (λ w. w.member.carried) c.args.storey) _ _ c.loop-wall-test.false in
    let sheets = at_drop_all (sum_on (λ w. w.member.sheet.shear) c.args.storey) _ _ c.loop-wall-test.false in
    record { carried_by_the_walls = omega arith; on_their_sheets = omega arith }
