-- One more row is counted, where a row is written that is not past it. Assumes nothing.
use Rattle.std.proofs.Common.{◌≡◌, ℕ, ◌+◌, ◌-◌, ◌<◌, ◌≤◌, List, drop, set, replicate, sym, ap, ◌∙◌, arith, length-set}
use Rattle.std.proofs.lemmas.List.{drop-set-lt, drop-drop, drop-replicate}
use Rattle.specifications.specs.Rows.{blank, Counted}
use Rattle.specifications.specs.declared.rule.Rule.{Rule}

pub counted_more : (table : List Rule) (count place : ℕ) (rule : Rule) → Counted table count → count < 8 → place ≤ count → Counted (set table place rule) (count + 1)
counted_more table count place rule counted room within = record {
  eight_rows = length-set table place rule ∙ counted.eight_rows;
  at_most_eight = omega arith;
  blank_after =
      let one : 8 - count - 1 ≡ 8 - (count + 1) = omega arith in
      drop-set-lt (count + 1) table place rule (omega arith)
      ∙ sym (drop-drop 1 count table)
      ∙ ap (drop 1) counted.blank_after
      ∙ drop-replicate 1 (8 - count) blank
      ∙ ap (λ n. replicate n blank) one;
}
