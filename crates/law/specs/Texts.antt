-- How the answers of calls are written. Assumes nothing.
use Rattle.std.specs.Prelude.{ℕ, List, ◌++◌, codes, decimal}
use Rattle.books.specs.Findings.{verdict_text}
use Rattle.law.specs.declared.answers.Sums.{Sums}
use Rattle.law.specs.declared.answers.Answer.{Answer}
use Rattle.law.specs.declared.answers.Answer.TheVariants.{Done, Judged, InHand, Tallied}

-- the three sums of a storey
abbrev pub sums_text : Sums → List ℕ
sums_text s = codes "carried " ++ (decimal s.carried ++ (codes " in hand " ++ (decimal s.in_hand ++ (codes " sheets " ++ decimal s.sheets))))

-- an answer with its values, case by case
abbrev pub answer_text : Answer → List ℕ
answer_text Done = codes "done"
answer_text (Judged verdict) = verdict_text verdict
answer_text (InHand newtons) = codes "in hand " ++ decimal newtons
answer_text (Tallied s) = sums_text s
