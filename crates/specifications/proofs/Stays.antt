-- An article that is named stays named behind any specifications that still take the member. Assumes nothing.
use Rattle.std.proofs.Common.{◌≡◌, ℕ, ◌≤◌, Bool, true, false, cond, leb, List, [], ◌∷◌, Ok, Option, sym, refl, ◌∙◌, arith}
use Rattle.std.proofs.lemmas.Bool.{le-leb, cond-true}
use Rattle.tables.specs.declared.codes.Quantity.{Quantity}
use Rattle.books.specs.Meanings.{Meaning}
use Rattle.books.specs.Verdicts.{verdict_of}
use Rattle.books.specs.declared.answers.Sides.{Sides}
use Rattle.books.specs.declared.answers.Verdict.TheVariants.{Breaks}
use Rattle.books.proofs.Said.{said}
use Rattle.specifications.specs.Fronted.{in_all, fronted, hung, StaysNamed}
use Rattle.specifications.specs.declared.rule.Rule.{Rule}

-- the later book keeps the earlier one on this member: it is taken, and the articles find the same under their numbers
pub record Keeps {M : Type 0} (earlier later : Meaning M) (m : M) : Type 0 where
  pub taken : earlier.takes m ≡ true
  pub grows : earlier.count ≤ later.count
  pub alike : (n : ℕ) → 1 ≤ n → n ≤ earlier.count → later.finding m n ≡ earlier.finding m n

-- where the later book takes the member, it keeps the earlier one on it
abbrev pub Extends : {M : Type 0} → Meaning M → Meaning M → M → Type 0
Extends earlier later m = later.takes m ≡ true → Keeps earlier later m

-- every book extends itself
pub extends_itself : {M : Type 0} (book : Meaning M) (m : M) → Extends book book m
extends_itself book m taken = record { taken = taken; grows = omega arith; alike = λ n from within. refl }

-- an extension of an extension is one
pub extends_through : {M : Type 0} (first second third : Meaning M) (m : M) → Extends first second m → Extends second third m → Extends first third m
extends_through first second third m near far taken =
    let outer = far taken in
    let inner = near outer.taken in
    record {
      taken = inner.taken;
      grows = omega (arith, inner.grows, outer.grows);
      alike = λ n from within. outer.alike n from (omega (arith, inner.grows)) ∙ inner.alike n from within;
    }

-- an extension names the article that was named
pub named_still : {M : Type 0} (lawful : M → Bool) (earlier later : Meaning M) (m : M) → Extends earlier later m → (n : ℕ) (s : Sides) → verdict_of lawful earlier m ≡ Ok (Breaks n s) → later.takes m ≡ true → verdict_of lawful later m ≡ Ok (Breaks n s)
named_still lawful earlier later m extends n s named taken =
    let was = (said lawful earlier m).broken n s named in
    let kept = extends taken in
    (said lawful later m).breaks n s was.0 taken
    (was.2.0, omega (arith, was.2.1, kept.grows), kept.alike n was.2.0 was.2.1 ∙ was.2.2)
    (λ k t below at.
    let within : k ≤ earlier.count = omega (arith, was.2.1) in
    was.3 k t below (at.0, within, sym (kept.alike k at.0 within) ∙ at.2))

-- a test that was passed leaves what stands behind it
passed : (fits taken : Bool) → cond fits taken false ≡ true → (fits ≡ true) × (taken ≡ true)
passed true taken e = (refl, e)
passed false taken e = cc

-- a specification extends the book behind it
pub fronted_extends : {M : Type 0} (measure : M → Quantity → Option ℕ) (rules : List Rule) (book : Meaning M) (m : M) → Extends book (fronted measure rules book) m
fronted_extends measure rules book m taken =
    let parts = passed (leb (in_all rules book) 64) (book.takes m) taken in
    record {
      taken = parts.1;
      grows = omega (arith, cond-true (leb (in_all rules book) 64) (in_all rules book) 0 parts.0);
      alike = λ n from within. cond-true _ _ _ parts.0 ∙ cond-true _ _ _ (le-leb n book.count within);
    }

-- so does a stack of them
pub hung_extends : {M : Type 0} (measure : M → Quantity → Option ℕ) (stack : List (List Rule)) (book : Meaning M) (m : M) → Extends book (hung measure stack book) m
hung_extends measure [] book m = extends_itself book m
hung_extends measure (rules ∷ more) book m = extends_through book (hung measure more book) (fronted measure rules (hung measure more book)) m (hung_extends measure more book m) (fronted_extends measure rules (hung measure more book) m)

-- what is named stays named
pub stays_named : {M : Type 0} (lawful : M → Bool) (measure : M → Quantity → Option ℕ) (book : Meaning M) → StaysNamed lawful measure book
stays_named lawful measure book stack m n s named taken = named_still lawful book (hung measure stack book) m (hung_extends measure stack book m) n s named taken
