-- Write does what its definition says of the job whose registers they are.
use Rattle.jobs.proofs.calls.write.Goals as goal

pub returns : goal.returns
returns c = record {
  answers_by_its_grounds = c.write_sheet.ensures.answers_by_its_grounds c.args.job.now;
  message_then_the_rest_untouched = c.write_sheet.ensures.message_then_the_rest_untouched c.args.job.now;
}
