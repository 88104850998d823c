-- The verdict of a book on a member, and what it says in the subject's words. Assumes nothing.
use Rattle.std.specs.Prelude.{◌≡◌, ℕ, zero, suc, ◌+◌, ◌<◌, ◌≤◌, Bool, true, false, cond, Ok, Err, Result}
use Rattle.faults.specs.declared.fault.JobFault.{JobFault}
use Rattle.faults.specs.declared.fault.JobFault.TheVariants.{Unlawful, NotTaken}
use Rattle.books.specs.Meanings.{Meaning}
use Rattle.books.specs.declared.answers.Sides.{Sides}
use Rattle.books.specs.declared.answers.Finding.{Finding}
use Rattle.books.specs.declared.answers.Finding.TheVariants.{Held, Broken, NotApplicable}
use Rattle.books.specs.declared.answers.Verdict.{Verdict}
use Rattle.books.specs.declared.answers.Verdict.TheVariants.{Certificate, Breaks}

-- the article is named if it is broken; otherwise the rest decides
abbrev pub named : ℕ → Finding → Verdict → Verdict
named n (Broken s) rest = Breaks n s
named n (Held s) rest = rest
named n NotApplicable rest = rest

-- the lowest broken article among those numbered from n on, as many as are left
abbrev pub lowest : (ℕ → Finding) → ℕ → ℕ → Verdict
lowest finding n zero = Certificate
lowest finding n (suc left) = named n (finding n) (lowest finding (n + 1) left)

-- an unlawful member is refused, then one that the book does not take; else the lowest broken article is named
abbrev pub verdict_of : {M : Type 0} → (M → Bool) → Meaning M → M → Result Verdict JobFault
verdict_of lawful book m = cond (lawful m) (cond (book.takes m) (Ok (lowest (book.finding m) 1 book.count)) (Err NotTaken)) (Err Unlawful)

-- article n is broken on the member, with these sides
abbrev pub BrokenAt : {M : Type 0} → Meaning M → M → ℕ → Sides → Type 0
BrokenAt book m n s = (1 ≤ n) × (n ≤ book.count) × (book.finding m n ≡ Broken s)

-- no article with a number below this one is broken
abbrev pub NoneBrokenBelow : {M : Type 0} → Meaning M → M → ℕ → Type 0
NoneBrokenBelow book m n = (k : ℕ) (s : Sides) → k < n → BrokenAt book m k s → ⊥

-- what a verdict says: a certificate exactly when the member is lawful and taken and no article is broken; article n
-- with its sides exactly when it is lawful and taken, n is broken with these sides, and no lower one is broken; a
-- refusal as not taken exactly when it is lawful and not taken, and as unlawful exactly when it is not lawful
pub record Says {M : Type 0} (lawful : M → Bool) (book : Meaning M) (m : M) (r : Result Verdict JobFault) : Type 0 where
  pub certified : r ≡ Ok Certificate → (lawful m ≡ true) × (book.takes m ≡ true) × NoneBrokenBelow book m (book.count + 1)
  pub certifies : lawful m ≡ true → book.takes m ≡ true → NoneBrokenBelow book m (book.count + 1) → r ≡ Ok Certificate
  pub broken : (n : ℕ) (s : Sides) → r ≡ Ok (Breaks n s) → (lawful m ≡ true) × (book.takes m ≡ true) × BrokenAt book m n s × NoneBrokenBelow book m n
  pub breaks : (n : ℕ) (s : Sides) → lawful m ≡ true → book.takes m ≡ true → BrokenAt book m n s → NoneBrokenBelow book m n → r ≡ Ok (Breaks n s)
  pub untaken : r ≡ Err NotTaken → (lawful m ≡ true) × (book.takes m ≡ false)
  pub refuses_untaken : lawful m ≡ true → book.takes m ≡ false → r ≡ Err NotTaken
  pub unlawful : r ≡ Err Unlawful → lawful m ≡ false
  pub refuses_unlawful : lawful m ≡ false → r ≡ Err Unlawful
