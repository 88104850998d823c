-- What is left of the limits and the bytes gives the numbers after those read.
use Rattle.std.proofs.Common.{◌≡◌, ℕ, List, ◌++◌, length, take, drop, Ok, Err, Result}
use Rattle.faults.specs.declared.fault.SheetFault.{SheetFault}
use Rattle.messages.specs.Messages.{numbers_due}
use Rattle.messages.proofs.message.read_numbers.Given as goal

-- numbers before those read after them
abbrev pub behind : List ℕ → Result (List ℕ × List ℕ) SheetFault → Result (List ℕ × List ℕ) SheetFault
behind ns (Ok (ms, rest)) = Ok (ns ++ ms, rest)
behind ns (Err e) = Err e

abbrev pub invariant-loop-i : goal.invariant-loop-i
invariant-loop-i g l = (length l.numbers ≡ length l.limits) × (numbers_due 0 l.limits l.bytes ≡ behind (take l.i l.numbers) (numbers_due l.i (drop l.i l.limits) l.rest))
