-- The state of a job, and what a call leaves of it. Assumes nothing.
use Rattle.std.specs.Prelude.{ℕ, ◌-◌, Bool, cond, ◌&&◌, List, length, Err, Result, ◌==◌, nat_le}
use Rattle.faults.specs.declared.fault.JobFault.{JobFault}
use Rattle.books.specs.Meanings.{Meaning}
use Rattle.members.specs.declared.member.Beam.{Beam}
use Rattle.members.specs.declared.member.Column.{Column}
use Rattle.members.specs.declared.member.Wall.{Wall}
use Rattle.registers.specs.declared.note.Note.{Note}
use Rattle.registers.specs.declared.rows.Filed.{Filed}

-- a job's number, its note of shear in hand, and the rows of its three registers
pub record State : Type 0 where
  pub number : ℕ
  pub note : Note
  pub beams : List (Filed Beam)
  pub columns : List (Filed Column)
  pub walls : List (Filed Wall)

-- what each kind's pile means; a pile is a book bare or behind specifications
pub record Piles : Type 0 where
  pub beams : Meaning Beam
  pub columns : Meaning Column
  pub walls : Meaning Wall

-- what a call answers, and the state and the hand's note after it
pub record Outcome (A : Type 0) : Type 0 where
  pub answer : Result A JobFault
  pub state : State
  pub hand : Note

-- a refusal alters neither the state nor the hand
abbrev pub refused : {A : Type 0} → State → Note → JobFault → Outcome A
refused s hand fault = record { answer = Err fault; state = s; hand = hand }

-- the note of no shear
abbrev pub empty : Note
empty = record { job = 0; wall = 0; storey = 0; newtons = 0 }

-- the note with so much less shear; at 0 N it is empty
abbrev pub less : Note → ℕ → Note
less note n = cond (note.newtons - n == 0) empty (record { job = note.job; wall = note.wall; storey = note.storey; newtons = note.newtons - n })

-- two notes agree in all four numbers
abbrev pub same_note : Note → Note → Bool
same_note a b = a.job == b.job && a.wall == b.wall && a.storey == b.storey && a.newtons == b.newtons

-- Limits of arguments.

-- job numbers and marks
abbrev pub is_mark : ℕ → Bool
is_mark n = nat_le 1 n && nat_le n 65535

-- storeys of a building
abbrev pub is_storey : ℕ → Bool
is_storey n = nat_le 1 n && nat_le n 40

-- what one call may move
abbrev pub is_newtons : ℕ → Bool
is_newtons n = nat_le 1 n && nat_le n 10000000

-- a register has 1 to 256 rows
abbrev pub is_size : ℕ → Bool
is_size n = nat_le 1 n && nat_le n 256

-- every register of the job does
abbrev pub are_sized : State → Bool
are_sized s = is_size (length s.beams) && is_size (length s.columns) && is_size (length s.walls)

-- the state with another register of one kind
abbrev pub with_beams : State → List (Filed Beam) → State
with_beams s rows = record { number = s.number; note = s.note; beams = rows; columns = s.columns; walls = s.walls }

-- the same for columns
abbrev pub with_columns : State → List (Filed Column) → State
with_columns s rows = record { number = s.number; note = s.note; beams = s.beams; columns = rows; walls = s.walls }

-- the same for walls
abbrev pub with_walls : State → List (Filed Wall) → State
with_walls s rows = record { number = s.number; note = s.note; beams = s.beams; columns = s.columns; walls = rows }

-- the state with another note
abbrev pub with_note : State → Note → State
with_note s note = record { number = s.number; note = note; beams = s.beams; columns = s.columns; walls = s.walls }
