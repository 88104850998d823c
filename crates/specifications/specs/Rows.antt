-- The eight rows that hold a specification's rules. Assumes nothing.
use Rattle.std.specs.Prelude.{◌≡◌, ℕ, ◌-◌, ◌≤◌, List, length, drop, replicate}
use Rattle.tables.specs.declared.codes.Quantity.TheVariants.{Thickness}
use Rattle.tables.specs.declared.codes.Sense.TheVariants.{AtLeast}
use Rattle.specifications.specs.declared.rule.Rule.{Rule}

-- a row where no rule stands
abbrev pub blank : Rule
blank = record { quantity = Thickness; sense = AtLeast; limit = 0 }

-- so many of eight rows are counted, and those after them are blank
pub record Counted (table : List Rule) (count : ℕ) : Type 0 where
  pub eight_rows : length table ≡ 8
  pub at_most_eight : count ≤ 8
  pub blank_after : drop count table ≡ replicate (8 - count) blank
