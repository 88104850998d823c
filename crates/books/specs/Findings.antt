-- What an article finds, what a book answers, and how that is written. Assumes nothing.
use Rattle.std.specs.Prelude.{ℕ, cond, List, ◌++◌, codes, decimal, nat_le}
use Rattle.books.specs.declared.answers.Sides.{Sides}
use Rattle.books.specs.declared.answers.Finding.{Finding}
use Rattle.books.specs.declared.answers.Finding.TheVariants.{Held, Broken, NotApplicable}
use Rattle.books.specs.declared.answers.Verdict.{Verdict}
use Rattle.books.specs.declared.answers.Verdict.TheVariants.{Certificate, Breaks}

-- both sides of a comparison
abbrev pub sides : ℕ → ℕ → Sides
sides l r = record { left = l; right = r }

-- held where the left side is at least the right
abbrev pub at_least : ℕ → ℕ → Finding
at_least l r = cond (nat_le r l) (Held (sides l r)) (Broken (sides l r))

-- held where the left side is at most the right
abbrev pub at_most : ℕ → ℕ → Finding
at_most l r = cond (nat_le l r) (Held (sides l r)) (Broken (sides l r))

-- the sides compared; 0 and 0 where the article does not apply
abbrev pub sides_of : Finding → Sides
sides_of (Held s) = s
sides_of (Broken s) = s
sides_of NotApplicable = sides 0 0

-- a verdict as it is written: with the number of the article that it names, and both sides
abbrev pub verdict_text : Verdict → List ℕ
verdict_text Certificate = codes "certificate"
verdict_text (Breaks n s) = codes "broken " ++ (decimal n ++ (codes " " ++ (decimal s.left ++ (codes " " ++ decimal s.right))))
