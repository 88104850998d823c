-- A job that was opened is reached by the empty history, and every run from an opening keeps the law.
use Rattle.law.proofs.Runs.{every_run}
use Rattle.jobs.proofs.Opened.{opened_lawfully}
use Rattle.jobs.proofs.calls.open.Goals as goal

pub returns-clause-the_empty_history_reaches_it : goal.returns-clause-the_empty_history_reaches_it
returns-clause-the_empty_history_reaches_it c p = opened_lawfully p c.args.number c.args.registers.now c.open_job.new.registers c.open_job.result c.open_job.ensures.job_of_this_number_or_refused c.open_job.ensures.rows_of_zeros_or_as_they_were

pub returns-clause-every_run_keeps_the_law : goal.returns-clause-every_run_keeps_the_law
returns-clause-every_run_keeps_the_law c p = every_run p
