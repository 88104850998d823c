-- What each refusal answers: its number, its layer and its place, case by case. Assumes nothing.
use Rattle.std.specs.Prelude.{ℕ, List, ◌++◌, codes, decimal}
use Rattle.faults.specs.declared.fault.Origin.{Origin}
use Rattle.faults.specs.declared.fault.Origin.TheVariants.{Input, State}
use Rattle.faults.specs.declared.fault.Refusal.{Refusal}
use Rattle.faults.specs.declared.fault.MessageFault.{MessageFault}
use Rattle.faults.specs.declared.fault.MessageFault.TheVariants.{Size, CutShort, NotDue, Length}
use Rattle.faults.specs.declared.fault.SheetFault.{SheetFault}
use Rattle.faults.specs.declared.fault.SheetFault.TheVariants.{Message, Value}
use Rattle.faults.specs.declared.fault.JobFault.{JobFault}
use Rattle.faults.specs.declared.fault.JobFault.TheVariants.{Sheet, Argument, Full, Filed, Unknown, Unlawful, InHand, HandDiffers, UnderSevenTenths, OtherStorey, OverHand, OverLoad, ShearMoved, NotTaken}

-- a ground from the input: I number, in a layer, at a place
abbrev pub from_input : ℕ → ℕ → ℕ → Refusal
from_input n l p = record { origin = Input; number = n; layer = l; place = p }

-- a ground from the state: S number, always layer 3 and place 0
abbrev pub from_state : ℕ → Refusal
from_state n = record { origin = State; number = n; layer = 3; place = 0 }

-- layer 1
abbrev pub message_refusal : MessageFault → Refusal
message_refusal Size = from_input 1 1 0
message_refusal (CutShort at) = from_input 2 1 at
message_refusal (NotDue at) = from_input 3 1 at
message_refusal (Length at) = from_input 4 1 at

-- layer 2, with a fault from below passed up whole
abbrev pub sheet_refusal : SheetFault → Refusal
sheet_refusal (Message fault) = message_refusal fault
sheet_refusal (Value at) = from_input 5 2 at

-- layer 3, with a fault from below passed up whole
abbrev pub job_refusal : JobFault → Refusal
job_refusal (Sheet fault) = sheet_refusal fault
job_refusal Argument = from_input 6 3 0
job_refusal Full = from_state 1
job_refusal Filed = from_state 2
job_refusal Unknown = from_state 3
job_refusal Unlawful = from_state 4
job_refusal InHand = from_state 5
job_refusal HandDiffers = from_state 6
job_refusal UnderSevenTenths = from_state 7
job_refusal OtherStorey = from_state 8
job_refusal OverHand = from_state 9
job_refusal OverLoad = from_state 10
job_refusal ShearMoved = from_state 11
job_refusal NotTaken = from_state 12

-- the letter before a refusal's number
abbrev pub letter : Origin → List ℕ
letter Input = codes "I"
letter State = codes "S"

-- a refusal as it is written: its number, its layer and its place
abbrev pub refusal_text : Refusal → List ℕ
refusal_text r = letter r.origin ++ (decimal r.number ++ (codes " " ++ (decimal r.layer ++ (codes " " ++ decimal r.place))))

-- a job fault as it is written: `refused` and what it answers
abbrev pub fault_text : JobFault → List ℕ
fault_text fault = codes "refused " ++ refusal_text (job_refusal fault)
