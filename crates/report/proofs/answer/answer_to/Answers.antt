-- What reading promises of the bytes and what the verdict promises of the sheet, joined.
use Rattle.std.proofs.Common.{Err, refl, ap, ◌∙◌, subst}
use Rattle.std.proofs.lemmas.Result.{err_from_is_err_and}
use Rattle.faults.specs.declared.fault.JobFault.TheVariants.{Sheet}
use Rattle.report.specs.Answers.{Told, answered}
use Rattle.report.proofs.answer.answer_to.Goals as goal

pub returns : goal.returns
returns c =
    let read = c.in_ok-sheet.ensures in
    let is = read.sheet_or_first_fault in
    record {
      verdict_or_refusal = c.verdict_on.ensures.verdict_of_its_book ∙ ap answered is;
      says_what_the_message_earns = subst (λ r. Told c.args.message.now r c.verdict_on.result) is (read.accepted_bytes_are_the_sheets_message, c.verdict_on.ensures.says_what_the_sheet_earns);
    }

pub returns-in_err-sheet : goal.returns-in_err-sheet
returns-in_err-sheet c =
    let p = err_from_is_err_and c.from_residual.result c.from_residual.ensures.1 in
    let read = c.in_err-sheet.ensures in
    let is = read.sheet_or_first_fault in
    rw (p.1, p.2) (record {
      verdict_or_refusal = ap answered is;
      says_what_the_message_earns = subst (λ r. Told c.args.message.now r (Err (Sheet c.in_err-sheet.field-0.0))) is (read.refused_where_it_is_at_fault, refl);
    })
