-- The verdict of the book of its kind is the verdict on the sheet.
use Rattle.std.proofs.Common.{sym, ap, ◌∙◌}
use Rattle.report.specs.Answers.{sheet_verdict}
use Rattle.report.proofs.answer.verdict_on.Goals as goal

pub returns-in-Beam-clause-verdict_of_its_book : goal.returns-in-Beam-clause-verdict_of_its_book
returns-in-Beam-clause-verdict_of_its_book c = c.verdict.ensures.verdict_by_the_meaning ∙ ap sheet_verdict (sym c.in-Beam.is)

pub returns-in-Column-clause-verdict_of_its_book : goal.returns-in-Column-clause-verdict_of_its_book
returns-in-Column-clause-verdict_of_its_book c = c.verdict-in-Column.ensures.verdict_by_the_meaning ∙ ap sheet_verdict (sym c.in-Column.is)

pub returns-in-Wall-clause-verdict_of_its_book : goal.returns-in-Wall-clause-verdict_of_its_book
returns-in-Wall-clause-verdict_of_its_book c = c.wall_verdict.ensures.verdict_of_the_wall_book ∙ ap sheet_verdict (sym c.in-Wall.is)
