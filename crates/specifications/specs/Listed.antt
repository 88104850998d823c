-- The rules that a specification's table holds. Assumes nothing.
use Rattle.std.specs.Prelude.{List, take}
use Rattle.specifications.specs.declared.rule.Rule.{Rule}
use Rattle.specifications.specs.declared.rules.Rules.{Rules}

-- the rules that were added: the first rows of the table, as many as are counted
abbrev pub rules_of : Rules → List Rule
rules_of rules = take rules.count rules.table
