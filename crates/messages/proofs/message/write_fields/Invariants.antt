-- The numbers so far are written, and the bytes beyond them are as they were.
use Rattle.std.proofs.Common.{◌≡◌}
use Rattle.messages.proofs.Written.{filled}
use Rattle.messages.proofs.message.write_fields.Given as goal

abbrev pub invariant-loop-i : goal.invariant-loop-i
invariant-loop-i g l = l.buffer ≡ filled l.initial.buffer l.numbers l.i
