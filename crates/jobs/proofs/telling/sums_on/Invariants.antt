-- What the loop over the walls keeps: both sums so far, and that neither can overflow.
use Rattle.std.proofs.Common.{◌≡◌, ◌+◌, ◌*◌, ◌≤◌, drop}
use Rattle.law.specs.Steps.{sum_on}
use Rattle.jobs.proofs.telling.sums_on.Given as goal

-- what was summed and what is left give the sum, and no row adds more than it holds
abbrev pub invariant-loop-wall : goal.invariant-loop-wall
invariant-loop-wall l =
    (sum_on (λ w. w.member.carried) l.storey l.walls ≡ l.carried + sum_on (λ w. w.member.carried) l.storey (drop l.wall-index l.walls))
    × (sum_on (λ w. w.member.sheet.shear) l.storey l.walls ≡ l.sheets + sum_on (λ w. w.member.sheet.shear) l.storey (drop l.wall-index l.walls))
    × (l.carried ≤ 4294967295 * l.wall-index)
    × (l.sheets ≤ 4294967295 * l.wall-index)
