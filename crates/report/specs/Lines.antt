-- The exact bytes of each line. Assumes nothing.
use Rattle.std.specs.Prelude.{ℕ, List, ◌++◌, Ok, Err, codes, Result}
use Rattle.faults.specs.Faults.{job_refusal, refusal_text}
use Rattle.faults.specs.declared.fault.JobFault.{JobFault}
use Rattle.books.specs.Findings.{verdict_text}
use Rattle.books.specs.declared.answers.Verdict.{Verdict}

-- the line of an answer: the verdict, or `refused` with the refusal's number, layer and place
abbrev pub line_text : Result Verdict JobFault → List ℕ
line_text (Ok verdict) = verdict_text verdict
line_text (Err fault) = codes "refused " ++ refusal_text (job_refusal fault)
