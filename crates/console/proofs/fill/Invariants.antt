-- what is left to fill is a part of the buffer, and each read leaves less of it
use Rattle.std.proofs.Common.{◌≤◌, length}
use Rattle.console.proofs.fill.Given as goal

abbrev pub invariant-loop-input : goal.invariant-loop-input
invariant-loop-input g l = length l.rest ≤ l.most

abbrev pub decreases-loop-input : goal.decreases-loop-input
decreases-loop-input g l = length l.rest
