-- The rows past the new rule stay blank.
use Rattle.std.proofs.Common.{arith}
use Rattle.specifications.proofs.Rows.{counted_more}
use Rattle.specifications.proofs.rules.Rules.push.Goals as goal

pub invariant_of-self : goal.invariant_of-self
invariant_of-self c = record { counted = counted_more _ _ _ _ c.args.self.now.counted (omega (arith, c.if-self-ge-MOST_RULES.false)) (omega arith) }
