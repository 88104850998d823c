-- A message is a run of fields, each a one-byte tag, a two-byte length and that many bytes, high byte first.
-- The first field has tag 1 and one byte, the kind; the sheet's numbers follow in order, four bytes each, with tags
-- 16, 17 and so on. Here stand the message of each sheet, and what every byte string reads as. Assumes nothing.
use Rattle.std.specs.Prelude.{◌≡◌, ℕ, ◌+◌, ◌*◌, ◌/◌, ◌%◌, Bool, true, cond, ◌&&◌, List, [], ◌∷◌, ◌++◌, length, take, drop, Some, None, Ok, Err, Option, Result, ◌==◌, nat_le}
use Rattle.tables.specs.Codes.{kind_number, kind_of}
use Rattle.tables.specs.Limits.{within}
use Rattle.sheets.specs.Limits.{beam_limits, column_limits, wall_limits}
use Rattle.sheets.specs.Sheets.{beam_of, column_of, wall_of, beam_numbers, column_numbers, wall_numbers, lawful_beam, lawful_column, lawful_wall_sheet}
use Rattle.tables.specs.declared.codes.Kind.{Kind}
use Rattle.tables.specs.declared.codes.Kind.TheVariants as kinds
use Rattle.faults.specs.declared.fault.MessageFault.{MessageFault}
use Rattle.faults.specs.declared.fault.MessageFault.TheVariants.{Size, CutShort, NotDue, Length}
use Rattle.faults.specs.declared.fault.SheetFault.{SheetFault}
use Rattle.faults.specs.declared.fault.SheetFault.TheVariants.{Message, Value}
use Rattle.faults.specs.declared.fault.JobFault.{JobFault}
use Rattle.faults.specs.declared.fault.JobFault.TheVariants.{Argument}
use Rattle.tables.specs.declared.limits.Limit.{Limit}
use Rattle.sheets.specs.declared.sheet.Sheet.{Sheet}
use Rattle.sheets.specs.declared.sheet.Sheet.TheVariants.{Beam, Column, Wall}

-- The message of a sheet.

-- the four bytes of a number
abbrev pub four_bytes : ℕ → List ℕ
four_bytes n = n / 16777216 % 256 ∷ n / 65536 % 256 ∷ n / 256 % 256 ∷ n % 256 ∷ []

-- a field
abbrev pub field : ℕ → List ℕ → List ℕ
field tag body = tag ∷ length body / 256 ∷ length body % 256 ∷ body

-- the fields of a sheet's numbers, the first of which has number i
abbrev pub number_fields : ℕ → List ℕ → List ℕ
number_fields i [] = []
number_fields i (n ∷ ns) = field (16 + i) (four_bytes n) ++ number_fields (i + 1) ns

-- the message of a kind and its numbers
abbrev pub message_of : Kind → List ℕ → List ℕ
message_of kind numbers = field 1 (kind_number kind ∷ []) ++ number_fields 0 numbers

-- the message of a sheet
abbrev pub message : Sheet → List ℕ
message (Beam b) = message_of kinds.Beam (beam_numbers b)
message (Column c) = message_of kinds.Column (column_numbers c)
message (Wall w) = message_of kinds.Wall (wall_numbers w)

-- What bytes read as.

-- a field cut off the front: its tag, its body and the bytes after it
pub record Cut : Type 0 where
  pub tag : ℕ
  pub body : List ℕ
  pub rest : List ℕ

-- the length that two bytes give, the high byte first
abbrev pub two_byte : ℕ → ℕ → ℕ
two_byte hi lo = hi * 256 + lo

-- the first field of the bytes that stand at this offset: none left is I3; fewer than three bytes, or a body shorter
-- than its length, is I2
abbrev pub cut : ℕ → List ℕ → Result Cut MessageFault
cut at [] = Err (NotDue at)
cut at (t ∷ []) = Err (CutShort at)
cut at (t ∷ hi ∷ []) = Err (CutShort at)
cut at (t ∷ hi ∷ lo ∷ after) = cond (nat_le (two_byte hi lo) (length after)) (Ok (record { tag = t; body = take (two_byte hi lo) after; rest = drop (two_byte hi lo) after })) (Err (CutShort at))

-- what one step answers, handed to the next; a fault ends the reading
abbrev pub then : {A B E : Type 0} → Result A E → (A → Result B E) → Result B E
then (Ok x) next = next x
then (Err e) next = Err e

-- a fault of the message, passed up whole
abbrev pub raised : {A : Type 0} → Result A MessageFault → Result A SheetFault
raised (Ok x) = Ok x
raised (Err e) = Err (Message e)

-- the body of the field that is due, and the bytes after it; another tag is I3
abbrev pub body_due : ℕ → ℕ → List ℕ → Result (List ℕ × List ℕ) MessageFault
body_due tag at bytes = then (cut at bytes) (λ f. cond (f.tag == tag) (Ok (f.body, f.rest)) (Err (NotDue at)))

-- a number of one byte; another length is I4
abbrev pub one_byte : ℕ → List ℕ → Result ℕ MessageFault
one_byte at [] = Err (Length at)
one_byte at (a ∷ []) = Ok a
one_byte at (a ∷ b ∷ more) = Err (Length at)

-- a number of four bytes, the high byte first; another length is I4
abbrev pub four_byte : ℕ → List ℕ → Result ℕ MessageFault
four_byte at [] = Err (Length at)
four_byte at (a ∷ []) = Err (Length at)
four_byte at (a ∷ b ∷ []) = Err (Length at)
four_byte at (a ∷ b ∷ c ∷ []) = Err (Length at)
four_byte at (a ∷ b ∷ c ∷ d ∷ []) = Ok (a * 16777216 + b * 65536 + c * 256 + d)
four_byte at (a ∷ b ∷ c ∷ d ∷ e ∷ more) = Err (Length at)

-- the kind that a number stands for; a number that stands for none is I5
abbrev pub kind_read : ℕ → Option Kind → Result Kind SheetFault
kind_read at None = Err (Value at)
kind_read at (Some kind) = Ok kind

-- the kind, which tag 1 holds at the message's beginning, and the bytes after it
abbrev pub kind_due : List ℕ → Result (Kind × List ℕ) SheetFault
kind_due bytes = then (raised (body_due 1 0 bytes)) (λ due. then (raised (one_byte 0 due.0)) (λ n. then (kind_read 0 (kind_of n)) (λ kind. Ok (kind, due.1))))

-- the number that is due, and the bytes after it; one outside its limit is I5
abbrev pub number_due : Limit → ℕ → ℕ → List ℕ → Result (ℕ × List ℕ) SheetFault
number_due limit tag at bytes = then (raised (body_due tag at bytes)) (λ due. then (raised (four_byte at due.0)) (λ n. cond (within limit n) (Ok (n, due.1)) (Err (Value at))))

-- a number before those read after it
abbrev pub before : ℕ → Result (List ℕ × List ℕ) SheetFault → Result (List ℕ × List ℕ) SheetFault
before n (Ok (ns, rest)) = Ok (n ∷ ns, rest)
before n (Err e) = Err e

-- a sheet's numbers from number i on, each due with tag 16 + i at offset 4 + 7 i, and the bytes after them
abbrev pub numbers_due : ℕ → List Limit → List ℕ → Result (List ℕ × List ℕ) SheetFault
numbers_due i [] bytes = Ok ([], bytes)
numbers_due i (limit ∷ limits) bytes = then (number_due limit (16 + i) (4 + 7 * i) bytes) (λ due. before due.0 (numbers_due (i + 1) limits due.1))

-- bytes left over are I3 at the first of them
abbrev pub ended : ℕ → List ℕ → Result (Unit {0}) MessageFault
ended at [] = Ok tt
ended at (b ∷ more) = Err (NotDue at)

-- all numbers of a sheet, and nothing after them
abbrev pub all_due : List Limit → List ℕ → Result (List ℕ) SheetFault
all_due limits bytes = then (numbers_due 0 limits bytes) (λ due. then (raised (ended (4 + 7 * length limits) due.1)) (λ _. Ok due.0))

-- the sheet of a kind, after the kind's field
abbrev pub sheet_due : Kind → List ℕ → Result Sheet SheetFault
sheet_due kinds.Beam bytes = then (all_due beam_limits bytes) (λ ns. Ok (Beam (beam_of ns)))
sheet_due kinds.Column bytes = then (all_due column_limits bytes) (λ ns. Ok (Column (column_of ns)))
sheet_due kinds.Wall bytes = then (all_due wall_limits bytes) (λ ns. Ok (Wall (wall_of ns)))

-- an empty message, or one over 256 bytes, is I1
abbrev pub size_due : ℕ → Result (Unit {0}) MessageFault
size_due n = cond (nat_le 1 n && nat_le n 256) (Ok tt) (Err Size)

-- what a message reads as
abbrev pub decoded : List ℕ → Result Sheet SheetFault
decoded bytes = then (raised (size_due (length bytes))) (λ _. then (kind_due bytes) (λ due. sheet_due due.0 due.1))

-- Each sheet has one message.

-- a sheet of any kind is lawful
abbrev pub lawful_sheet : Sheet → Bool
lawful_sheet (Beam b) = lawful_beam b
lawful_sheet (Column c) = lawful_column c
lawful_sheet (Wall w) = lawful_wall_sheet w

-- a lawful sheet's message reads back as that sheet
abbrev pub ReadsBack : Sheet → Type 0
ReadsBack sheet = lawful_sheet sheet ≡ true → decoded (message sheet) ≡ Ok sheet

-- bytes that read as a sheet are its message, and the sheet is lawful
abbrev pub Canonical : List ℕ → Sheet → Type 0
Canonical bytes sheet = (message sheet ≡ bytes) × (lawful_sheet sheet ≡ true)

-- What writing leaves.

-- bytes put at the front of a buffer, the bytes beyond untouched; a buffer that is too short stays as it was
abbrev pub put : List ℕ → List ℕ → List ℕ
put bytes buffer = cond (nat_le (length bytes) (length buffer)) (bytes ++ drop (length bytes) buffer) buffer

-- how many bytes were put; a buffer that is too short is I6
abbrev pub put_length : List ℕ → List ℕ → Result ℕ JobFault
put_length bytes buffer = cond (nat_le (length bytes) (length buffer)) (Ok (length bytes)) (Err Argument)
