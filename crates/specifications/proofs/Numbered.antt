-- The rules by their places are the articles past those of the book behind. Assumes nothing.
use Rattle.std.proofs.Common.{◌≡◌, ℕ, zero, suc, ◌+◌, ◌-◌, ◌<◌, Bool, true, false, cond, leb, List, [], ◌∷◌, slice_get, Some, None, Option, refl, ◌∙◌, inl, inr, arith}
use Rattle.std.proofs.lemmas.Bool.{cond-false, eq-eqb, ne_eqb, lt-leb}
use Rattle.std.proofs.lemmas.Option.{slice_get_past}
use Rattle.tables.specs.declared.codes.Quantity.{Quantity}
use Rattle.books.specs.Meanings.{Meaning, Outside}
use Rattle.books.specs.Numbered.{numbered_from}
use Rattle.books.specs.declared.answers.Finding.{Finding}
use Rattle.books.specs.declared.answers.Finding.TheVariants.{NotApplicable}
use Rattle.specifications.specs.Fronted.{rule_finding, rule_findings, in_all, fronted}
use Rattle.specifications.specs.declared.rule.Rule.{Rule}

module _ (measure : Quantity → Option ℕ) where
  -- a rule that stands at the place
  pub rule_numbered : (rules : List Rule) (first n place : ℕ) (rule : Rule) → n ≡ first + place → slice_get rules place ≡ Some rule → numbered_from first (rule_findings measure rules) n ≡ rule_finding (measure rule.quantity) rule
  rule_numbered [] first n place rule at found = cc
  rule_numbered (r ∷ rules) first n zero rule at found = grind (arith, eq-eqb)
  rule_numbered (r ∷ rules) first n (suc place) rule at found = grind (arith, ne_eqb, rule_numbered rules (first + 1) n place rule (omega arith) found)

  -- none past the last
  pub none_numbered : (rules : List Rule) (first n place : ℕ) → n ≡ first + place → slice_get rules place ≡ None → numbered_from first (rule_findings measure rules) n ≡ NotApplicable
  none_numbered [] first n place at found = refl
  none_numbered (r ∷ rules) first n zero at found = cc
  none_numbered (r ∷ rules) first n (suc place) at found = grind (arith, ne_eqb, none_numbered rules (first + 1) n place (omega arith) found)

-- past the articles in all none is left
past : (fits : Bool) (total n : ℕ) (found : Finding) → (total < n → found ≡ NotApplicable) → cond fits total 0 < n → cond fits found NotApplicable ≡ NotApplicable
past true total n found none high = none high
past false total n found none high = refl

module _ {M : Type 0} (measure : M → Quantity → Option ℕ) (rules : List Rule) (book : Meaning M) (m : M) (n : ℕ) where
  past_rules : in_all rules book < n → cond (leb n book.count) (book.finding m n) (numbered_from (book.count + 1) (rule_findings (measure m) rules) n) ≡ NotApplicable
  past_rules over =
      cond-false _ _ _ (lt-leb n book.count (omega arith))
      ∙ none_numbered (measure m) rules (book.count + 1) n (n - book.count - 1) (omega arith) (slice_get_past rules (n - book.count - 1) (omega arith))

  -- what is no article finds nothing
  pub none_outside : (r : Finding) → r ≡ (fronted measure rules book).finding m n → (n ≡ 0 → r ≡ NotApplicable) → Outside (fronted measure rules book).count n → r ≡ NotApplicable
  none_outside r is at-0 (inl none) = at-0 none
  none_outside r is at-0 (inr high) = is ∙ past (leb (in_all rules book) 64) (in_all rules book) n _ past_rules high
