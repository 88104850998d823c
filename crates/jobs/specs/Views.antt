-- A job, what is lent to it and its calls, as the definitions of the calls take them. Assumes nothing.
use Rattle.std.specs.Prelude.{◌≡◌, ℕ, Bool, cond, not, ◌&&◌, [], ◌∷◌, length, Ok, Err, Result}
use Rattle.tables.specs.Codes.{kind_of}
use Rattle.tables.specs.declared.codes.Kind.{Kind}
use Rattle.faults.specs.declared.fault.JobFault.{JobFault}
use Rattle.faults.specs.declared.fault.JobFault.TheVariants.{Argument}
use Rattle.books.specs.Meanings.{Meaning}
use Rattle.members.specs.declared.member.Beam.{Beam}
use Rattle.members.specs.declared.member.Column.{Column}
use Rattle.members.specs.declared.member.Wall.{Wall}
use Rattle.faults.specs.Grounds.{◌when◌, decide}
use Rattle.law.specs.States.{State, empty, is_mark, is_size}
use Rattle.law.specs.States as states
use Rattle.law.specs.Steps.{by_kind, may_open, opened}
use Rattle.law.specs.Histories.{Act, enter, withdraw, judge, lift, place, put_back, tally}
use Rattle.jobs.specs.declared.job.Job.{Job}
use Rattle.jobs.specs.declared.lent.Registers.{Registers}
use Rattle.jobs.specs.declared.lent.Piles.{Piles}
use Rattle.jobs.specs.declared.call.Call.{Call}
use Rattle.jobs.specs.declared.call.Call.TheVariants as calls

-- the job's state: its number and note, and the rows of the registers
abbrev pub state_of : Job → Registers → State
state_of job registers = record {
  number = job.number;
  note = job.note;
  beams = registers.beams.now;
  columns = registers.columns.now;
  walls = registers.walls.now;
}

-- every register is within its limits
abbrev pub sized : Registers → Bool
sized registers = is_size (length registers.beams.now) && is_size (length registers.columns.now) && is_size (length registers.walls.now)

-- each register is lent still as it was
pub record StayLent (old new : Registers) : Type 0 where
  pub beams : new.beams.ghost_name ≡ old.beams.ghost_name
  pub columns : new.columns.ghost_name ≡ old.columns.ghost_name
  pub walls : new.walls.ghost_name ≡ old.walls.ghost_name

-- a call with its arguments
abbrev pub act_of : Call → Act
act_of (calls.Enter message) = enter message.now
act_of (calls.Withdraw kind mark) = withdraw kind mark
act_of (calls.Judge kind mark) = judge kind mark
act_of (calls.Lift wall newtons) = lift wall newtons
act_of (calls.Place wall newtons) = place wall newtons
act_of calls.PutBack = put_back
act_of (calls.Tally storey) = tally storey

-- the kind of a row that a call names: I6 where its numbers or a register are outside their limits
abbrev pub kind_named : Bool → ℕ → ℕ → Result Kind JobFault
kind_named sized kind mark =
    decide
    ((Argument when not (sized && is_mark mark))
    ∷ [])
    (λ fault. Err fault)
    (by_kind (kind_of kind) (λ fault. Err fault) (λ k. Ok k))

-- what the books of the piles mean
abbrev pub piles_of : {B C W : Type 0} → (B → Meaning Beam) → (C → Meaning Column) → (W → Meaning Wall) → Piles B C W → states.Piles
piles_of beams columns walls piles = record {
  beams = beams piles.beams.now;
  columns = columns piles.columns.now;
  walls = walls piles.walls.now;
}

-- a job that was just opened
abbrev pub fresh : ℕ → Job
fresh number = record { number = number; note = empty }

-- whether a job may be opened on these registers
abbrev pub may_open_on : ℕ → Registers → Bool
may_open_on number registers = may_open number (state_of (fresh number) registers)

-- what opening answers: I6 where the number or a register is outside its limits
abbrev pub open_answer : ℕ → Registers → Result Job JobFault
open_answer number registers = cond (may_open_on number registers) (Ok (fresh number)) (Err Argument)

-- the state of the job after opening; on refusal every row is as it was
abbrev pub open_state : ℕ → Registers → State
open_state number registers =
    cond
    (may_open_on number registers)
    (opened number (length registers.beams.now) (length registers.columns.now) (length registers.walls.now))
    (state_of (fresh number) registers)
