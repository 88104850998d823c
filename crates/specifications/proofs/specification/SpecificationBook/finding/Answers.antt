-- What is no article finds nothing.
use Rattle.specifications.specs.Listed.{rules_of}
use Rattle.specifications.proofs.Numbered.{none_outside}
use Rattle.specifications.proofs.specification.SpecificationBook.finding.Goals as goal

pub returns-clause-none_outside_its_count : goal.returns-clause-none_outside_its_count
returns-clause-none_outside_its_count g c =
    let book = g.B.Book.meaning c.args.self.now.behind in
    let found = c.finding_by_place.ensures in
    none_outside g.M.Member.measure (rules_of c.args.self.now.rules) book c.args.member.now c.args.article _ found.finds_by_number found.none_at_0
