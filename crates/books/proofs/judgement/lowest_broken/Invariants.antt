-- What the search keeps: the articles from here on give the verdict.
use Rattle.std.proofs.Common.{◌≡◌, ◌+◌, ◌-◌}
use Rattle.books.specs.Verdicts.{lowest}
use Rattle.books.proofs.judgement.lowest_broken.Given as goal

-- the articles from here on give the verdict
abbrev pub invariant-loop-article : goal.invariant-loop-article
invariant-loop-article g l = let book = g.B.Book.meaning l.book in lowest (book.finding l.member) 1 book.count ≡ lowest (book.finding l.member) l.article (book.count + 1 - l.article)
