-- Each step of the search keeps what the articles from here on give.
use Rattle.std.proofs.Common.{◌+◌, ◌<◌, ◌≤◌, sym, ◌∙◌, arith}
use Rattle.books.proofs.Lowest.{lowest_breaks, lowest_goes, lowest_end}
use Rattle.books.proofs.judgement.lowest_broken.Goals as goal

pub returns-in-Broken : goal.returns-in-Broken
returns-in-Broken g c =
    let within : c.loop-article.article < (g.B.Book.meaning c.args.book.now).count + 1 = omega arith in
    record {
      names_the_lowest_broken = sym (c.loop-article.invariant ∙ lowest_breaks _ _ _ _ within (sym c.finding.ensures.finds_by_its_meaning ∙ c.in-Broken.is));
    }

pub loop-article-preserved : goal.loop-article-preserved
loop-article-preserved g c =
    let within : c.loop-article.article < (g.B.Book.meaning c.args.book.now).count + 1 = omega arith in
    c.loop-article.invariant ∙ lowest_goes _ _ _ within (λ s is. c.in_default.not-Broken s (c.finding.ensures.finds_by_its_meaning ∙ is))

pub returns : goal.returns
returns g c =
    let past : (g.B.Book.meaning c.args.book.now).count + 1 ≤ c.loop-article.article = omega arith in
    record { names_the_lowest_broken = sym (c.loop-article.invariant ∙ lowest_end _ _ _ past) }
