-- What entering, withdrawing, judging and writing do to one register, whatever its kind: the grounds of refusal in
-- their order, and then what is done. Assumes nothing.
use Rattle.std.specs.Prelude.{ℕ, Bool, cond, not, List, [], ◌∷◌, length, is_some, Ok, Err, Option, Result, nat_le, slice_set}
use Rattle.faults.specs.declared.fault.JobFault.{JobFault}
use Rattle.faults.specs.declared.fault.JobFault.TheVariants.{Full, Filed, Unknown, Unlawful, ShearMoved, NotTaken}
use Rattle.faults.specs.Grounds.{◌when◌, decide}
use Rattle.messages.specs.Messages.{message, put, put_length}
use Rattle.books.specs.Meanings.{Meaning}
use Rattle.books.specs.Verdicts.{lowest}
use Rattle.books.specs.declared.answers.Verdict.{Verdict}
use Rattle.books.specs.declared.answers.Verdict.TheVariants.{Certificate, Breaks}
use Rattle.registers.specs.Forms.{Form}
use Rattle.registers.specs.Registers.{ending, find, row_at, with_row, without}
use Rattle.registers.specs.declared.note.Note.{Note}

-- what a register's call answers, and the rows after it
pub record Filing (R A : Type 0) : Type 0 where
  pub answer : Result A JobFault
  pub rows : List R

-- a refusal leaves every row as it was
abbrev pub unfiled : {R A : Type 0} → List R → JobFault → Filing R A
unfiled rows fault = record { answer = Err fault; rows = rows }

-- a row is filed in the first free row: S1 where none is free, S2 where its mark is filed already
abbrev pub entered : {R M : Type 0} → Form R M → R → List R → Filing R (Unit {0})
entered form row rows =
    decide
    ((Full when nat_le (length rows) (ending form rows))
    ∷ (Filed when is_some (find form (form.mark row) rows))
    ∷ [])
    (unfiled rows)
    (record { answer = Ok tt; rows = slice_set rows (ending form rows) row })

-- the row with this mark is taken out: S3 where there is none, S11 where its shear moved
abbrev pub withdrawn : {R M : Type 0} → Form R M → Note → ℕ → List R → Filing R (Unit {0})
withdrawn form note mark rows =
    let at = find form mark rows in
    decide
    ((Unknown when not (is_some at))
    ∷ (ShearMoved when form.moved note (row_at form at rows))
    ∷ [])
    (unfiled rows)
    (record { answer = Ok tt; rows = without form at rows })

-- a certificate marks the row; a broken article leaves it
abbrev pub ruled : {R M : Type 0} → Form R M → Option ℕ → List R → Verdict → Filing R Verdict
ruled form at rows Certificate = record { answer = Ok Certificate; rows = with_row at (form.certify (row_at form at rows)) rows }
ruled form at rows (Breaks n s) = record { answer = Ok (Breaks n s); rows = rows }

-- the book is asked about the row with this mark: S3 where there is none, S4 where it is unlawful, S12 where the book
-- does not take it
abbrev pub judged : {R M : Type 0} → Form R M → (M → Bool) → Meaning M → ℕ → List R → Filing R Verdict
judged form lawful book mark rows =
    let at = find form mark rows in
    let m = form.member (row_at form at rows) in
    decide
    ((Unknown when not (is_some at))
    ∷ (Unlawful when not (lawful m))
    ∷ (NotTaken when not (book.takes m))
    ∷ [])
    (unfiled rows)
    (ruled form at rows (lowest (book.finding m) 1 book.count))

-- what is answered where a sheet's message is put into a buffer: S3, S4, then I6 where the buffer is too short
abbrev pub written_length : {R M : Type 0} → Form R M → (M → Bool) → ℕ → List R → List ℕ → Result ℕ JobFault
written_length form lawful mark rows buffer =
    let at = find form mark rows in
    let row = row_at form at rows in
    decide
    ((Unknown when not (is_some at))
    ∷ (Unlawful when not (lawful (form.member row)))
    ∷ [])
    (λ fault. Err fault)
    (put_length (message (form.sheet row)) buffer)

-- the buffer afterwards: as it was on refusal, bytes beyond the message untouched
abbrev pub written : {R M : Type 0} → Form R M → (M → Bool) → ℕ → List R → List ℕ → List ℕ
written form lawful mark rows buffer =
    let at = find form mark rows in
    let row = row_at form at rows in
    decide
    ((Unknown when not (is_some at))
    ∷ (Unlawful when not (lawful (form.member row)))
    ∷ [])
    (λ fault. buffer)
    (put (message (form.sheet row)) buffer)
