-- What holds of a reading step by step, both of what it answers and of its fault. Assumes nothing.
use Rattle.std.proofs.Common.{ℕ, List, ◌∷◌, Ok, Err, Result, MatchResult}
use Rattle.messages.specs.Messages.{then, raised, before}
use Rattle.faults.specs.declared.fault.MessageFault.{MessageFault}
use Rattle.faults.specs.declared.fault.SheetFault.{SheetFault}
use Rattle.faults.specs.declared.fault.SheetFault.TheVariants.{Message}

-- a step, and the next from where it ended
pub then_reads : {A B E : Type 0} (P : A → Type 0) (Q : B → Type 0) (F G : E → Type 0) (r : Result A E) (next : A → Result B E) → MatchResult r P F → ((e : E) → F e → G e) → ((x : A) → P x → MatchResult (next x) Q G) → MatchResult (then r next) Q G
then_reads P Q F G (Ok x) next here fault more = more x here
then_reads P Q F G (Err e) next here fault more = fault e here

-- a step whose fault is one of the message
pub raised_reads : {A : Type 0} (P : A → Type 0) (F : SheetFault → Type 0) (r : Result A MessageFault) → MatchResult r P (λ e. F (Message e)) → MatchResult (raised r) P F
raised_reads P F (Ok x) here = here
raised_reads P F (Err e) here = here

-- the numbers after the first
pub before_reads : (P Q : List ℕ × List ℕ → Type 0) (F G : SheetFault → Type 0) (n : ℕ) (r : Result (List ℕ × List ℕ) SheetFault) → MatchResult r P F → ((e : SheetFault) → F e → G e) → ((ns rest : List ℕ) → P (ns, rest) → Q (n ∷ ns, rest)) → MatchResult (before n r) Q G
before_reads P Q F G n (Ok (ns, rest)) here fault more = more ns rest here
before_reads P Q F G n (Err e) here fault more = fault e here
