-- The rows before this one are zeros.
use Rattle.std.proofs.Common.{◌≡◌, take, replicate}
use Rattle.registers.proofs.register.clear.Given as goal

abbrev pub invariant-loop-row : goal.invariant-loop-row
invariant-loop-row g l = take l.row-index l.register ≡ replicate l.row-index g.R.Row.form.blank
