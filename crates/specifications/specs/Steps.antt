-- Adding a rule in two steps, the rule of the numbers and then its place after the last. Assumes nothing.
use Rattle.std.specs.Prelude.{ℕ, List, [], ◌∷◌, ◌++◌, length, Some, None, Err, Option, Result, nat_le, nat_lt}
use Rattle.tables.specs.Codes.{quantity_of, sense_of}
use Rattle.tables.specs.declared.codes.Quantity.{Quantity}
use Rattle.tables.specs.declared.codes.Sense.{Sense}
use Rattle.faults.specs.Grounds.{◌when◌, unless}
use Rattle.faults.specs.declared.fault.JobFault.{JobFault}
use Rattle.faults.specs.declared.fault.JobFault.TheVariants.{Argument, Full}
use Rattle.specifications.specs.declared.rule.Rule.{Rule}

-- the rule of these parts, or a refusal where one is missing or the limit is too great
abbrev pub rule_by : Option Quantity → Option Sense → ℕ → Result Rule JobFault
rule_by None sense limit = Err Argument
rule_by (Some quantity) None limit = Err Argument
rule_by (Some quantity) (Some sense) limit = unless ((Argument when nat_lt 100000 limit) ∷ []) (record { quantity = quantity; sense = sense; limit = limit })

-- the rule of these numbers, or a refusal
abbrev pub rule_of : ℕ → ℕ → ℕ → Result Rule JobFault
rule_of quantity sense limit = rule_by (quantity_of quantity) (sense_of sense) limit

-- the rules with this one after the last, unless eight are there
abbrev pub pushed : List Rule → Rule → Result (List Rule) JobFault
pushed rules rule = unless ((Full when nat_le 8 (length rules)) ∷ []) (rules ++ rule ∷ [])
