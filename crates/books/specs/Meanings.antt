-- What a book means. Assumes nothing.
use Rattle.std.specs.Prelude.{◌≡◌, ℕ, ◌<◌, Bool, ◌⊎◌}
use Rattle.books.specs.declared.answers.Finding.{Finding}

-- which members it takes, how many articles it has, and what each article finds on a member
pub record Meaning (M : Type 0) : Type 0 where
  pub takes : M → Bool
  pub count : ℕ
  pub finding : M → ℕ → Finding

-- articles are numbered from 1 to the count: 0 and what is past the count is no article
abbrev pub Outside : ℕ → ℕ → Type 0
Outside count article = (article ≡ 0) ⊎ (count < article)
