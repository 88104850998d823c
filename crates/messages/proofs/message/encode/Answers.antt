-- What is written of a lawful sheet reads back.
use Rattle.messages.proofs.ReadBack.{written_back}
use Rattle.messages.proofs.message.encode.Goals as goal

pub returns-clause-what_is_written_reads_back : goal.returns-clause-what_is_written_reads_back
returns-clause-what_is_written_reads_back c = rw (c.write_sheet.ensures.length_or_too_short, c.write_sheet.ensures.message_then_the_rest_untouched) (written_back c.args.sheet.now c.args.buffer.now)
