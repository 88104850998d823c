-- The verdict is the definition's, so it says what the definition says.
use Rattle.books.proofs.Said.{says_of}
use Rattle.books.proofs.judgement.verdict.Goals as goal

pub returns : goal.returns
returns g c =
    let is = c.lawful_and_taken.ensures.verdict_by_the_meaning in
    record { verdict_by_the_meaning = is; certificate_or_lowest_broken = says_of _ _ _ _ is }
