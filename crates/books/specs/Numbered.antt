-- The articles of a book by their numbers. Assumes nothing.
use Rattle.std.specs.Prelude.{ℕ, ◌+◌, cond, List, [], ◌∷◌, ◌==◌}
use Rattle.books.specs.declared.answers.Finding.{Finding}
use Rattle.books.specs.declared.answers.Finding.TheVariants.{NotApplicable}

-- what the article with this number finds, where the articles listed are numbered from the first on
abbrev pub numbered_from : ℕ → List Finding → ℕ → Finding
numbered_from first [] n = NotApplicable
numbered_from first (finding ∷ findings) n = cond (first == n) finding (numbered_from (first + 1) findings n)

-- articles are numbered from 1
abbrev pub numbered : List Finding → ℕ → Finding
numbered = numbered_from 1
