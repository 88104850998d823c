-- The search for the lowest broken article finds it. Assumes nothing.
use Rattle.std.proofs.Common.{◌≡◌, ℕ, zero, suc, ◌+◌, ◌-◌, ◌<◌, ◌≤◌, ◌⊎◌, sym, refl, ap, ◌∙◌, subst, inl, inr, ⊎_elim, arith}
use Rattle.std.proofs.lemmas.Bool.{cases_order}
use Rattle.books.specs.Verdicts.{named, lowest}
use Rattle.books.specs.declared.answers.Sides.{Sides}
use Rattle.books.specs.declared.answers.Finding.{Finding}
use Rattle.books.specs.declared.answers.Finding.TheVariants.{Held, Broken, NotApplicable}
use Rattle.books.specs.declared.answers.Verdict.{Verdict}
use Rattle.books.specs.declared.answers.Verdict.TheVariants.{Certificate, Breaks}

-- past the last article
pub lowest_end : (f : ℕ → Finding) (n end : ℕ) → end ≤ n → lowest f n (end - n) ≡ Certificate
lowest_end f n end h = let e : end - n ≡ 0 = omega arith in ap (lowest f n) e

abbrev Free : Finding → Type 0
Free x = (s : Sides) → x ≡ Broken s → ⊥

held_free : (s : Sides) → Free (Held s)
held_free s t e = cc

inapplicable_free : Free NotApplicable
inapplicable_free t e = cc

-- an article that is not broken is passed over
pub named_free : (n : ℕ) (x : Finding) (rest : Verdict) → Free x → named n x rest ≡ rest
named_free n (Broken s) rest free = absurd (free s refl)
named_free n (Held s) rest free = refl
named_free n NotApplicable rest free = refl

-- one article further
lowest_more : (f : ℕ → Finding) (n end : ℕ) → n < end → lowest f n (end - n) ≡ named n (f n) (lowest f (n + 1) (end - (n + 1)))
lowest_more f n end h = let e : end - n ≡ suc (end - (n + 1)) = omega arith in ap (lowest f n) e

pub lowest_breaks : (f : ℕ → Finding) (n end : ℕ) (s : Sides) → n < end → f n ≡ Broken s → lowest f n (end - n) ≡ Breaks n s
lowest_breaks f n end s h is = lowest_more f n end h ∙ ap (λ x. named n x (lowest f (n + 1) (end - (n + 1)))) is

pub lowest_goes : (f : ℕ → Finding) (n end : ℕ) → n < end → Free (f n) → lowest f n (end - n) ≡ lowest f (n + 1) (end - (n + 1))
lowest_goes f n end h free = lowest_more f n end h ∙ named_free n (f n) (lowest f (n + 1) (end - (n + 1))) free

named_clear : (n : ℕ) (x : Finding) (rest : Verdict) → named n x rest ≡ Certificate → (rest ≡ Certificate) × Free x
named_clear n (Broken s) rest e = cc
named_clear n (Held s) rest e = (e, held_free s)
named_clear n NotApplicable rest e = (e, inapplicable_free)

named_breaks : (n : ℕ) (x : Finding) (rest : Verdict) (a : ℕ) (s : Sides) → named n x rest ≡ Breaks a s → ((n ≡ a) × (x ≡ Broken s)) ⊎ ((rest ≡ Breaks a s) × Free x)
named_breaks n (Broken t) rest a s e = inl (cc, cc)
named_breaks n (Held t) rest a s e = inr (e, held_free t)
named_breaks n NotApplicable rest a s e = inr (e, inapplicable_free)

-- none of the articles from n up to below end is broken
abbrev pub Clear : (ℕ → Finding) → ℕ → ℕ → Type 0
Clear f n end = (j : ℕ) (s : Sides) → n ≤ j → j < end → f j ≡ Broken s → ⊥

clear_more : (f : ℕ → Finding) (n end : ℕ) → Free (f n) → Clear f (n + 1) end → Clear f n end
clear_more f n end free rest j s low high is =
    ⊎_elim
    (λ same. free s (ap f same ∙ is))
    (λ other. ⊎_elim (λ below. rest j s (omega arith) high is) (λ above. absurd (omega arith)) other)
    (cases_order n j)

pub lowest_clear : (f : ℕ → Finding) (n left : ℕ) → lowest f n left ≡ Certificate → Clear f n (n + left)
lowest_clear f n zero e = λ j s low high is. absurd (omega arith)
lowest_clear f n (suc left) e =
    let parts = named_clear n (f n) (lowest f (n + 1) left) e in
    let far : n + 1 + left ≡ n + suc left = omega arith in
    clear_more f n (n + suc left) parts.1 (subst (Clear f (n + 1)) far (lowest_clear f (n + 1) left parts.0))

pub clear_lowest : (f : ℕ → Finding) (n left : ℕ) → Clear f n (n + left) → lowest f n left ≡ Certificate
clear_lowest f n zero clear = refl
clear_lowest f n (suc left) clear =
    named_free n (f n) (lowest f (n + 1) left) (λ s is. clear n s (omega arith) (omega arith) is)
    ∙ clear_lowest f (n + 1) left (λ j s low high is. clear j s (omega arith) (omega arith) is)

-- a is the lowest broken article from n up to below end
pub record First (f : ℕ → Finding) (n end a : ℕ) (s : Sides) : Type 0 where
  pub from : n ≤ a
  pub below : a < end
  pub broken : f a ≡ Broken s
  pub clear : Clear f n a

pub lowest_first : (f : ℕ → Finding) (n left a : ℕ) (s : Sides) → lowest f n left ≡ Breaks a s → First f n (n + left) a s
lowest_first f n zero a s e = cc
lowest_first f n (suc left) a s e =
    ⊎_elim
    (λ here. record {
      from = omega (arith, here.0);
      below = omega (arith, here.0);
      broken = ap f (sym here.0) ∙ here.1;
      clear = λ j t low high is. absurd (omega (arith, here.0));
    })
    (λ later.
    let rest = lowest_first f (n + 1) left a s later.0 in
    record {
      from = omega (arith, rest.from);
      below = omega (arith, rest.below);
      broken = rest.broken;
      clear = clear_more f n a later.1 rest.clear;
    })
    (named_breaks n (f n) (lowest f (n + 1) left) a s e)

pub first_lowest : (f : ℕ → Finding) (n left a : ℕ) (s : Sides) → First f n (n + left) a s → lowest f n left ≡ Breaks a s
first_lowest f n zero a s first = absurd (omega (arith, first.from, first.below))
first_lowest f n (suc left) a s first =
    ⊎_elim
    (λ same. ap (λ x. named n x (lowest f (n + 1) left)) (ap f same ∙ first.broken) ∙ ap (λ m. Breaks m s) same)
    (λ other.
    ⊎_elim
    (λ below.
    named_free n (f n) (lowest f (n + 1) left) (λ t is. first.clear n t (omega arith) below is)
    ∙ first_lowest f (n + 1) left a s (record {
      from = omega arith;
      below = omega (arith, first.below);
      broken = first.broken;
      clear = λ j t low high is. first.clear j t (omega arith) high is;
    }))
    (λ above. absurd (omega (arith, first.from)))
    other)
    (cases_order n a)
