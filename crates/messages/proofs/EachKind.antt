-- The sheet of a kind and its numbers, one text for the three kinds. Assumes nothing.
use Rattle.std.proofs.Common.{◌≡◌, ℕ, List, length, Ok, refl}
use Rattle.tables.specs.Limits.{admitted}
use Rattle.tables.specs.declared.codes.Kind.{Kind}
use Rattle.tables.specs.declared.codes.Kind.TheVariants as kinds
use Rattle.sheets.specs.Listed.{listed_out}
use Rattle.sheets.specs.Sheets.{beam_of, column_of, wall_of, beam_numbers, column_numbers, wall_numbers, kind_on}
use Rattle.sheets.specs.declared.sheet.Sheet.{Sheet}
use Rattle.sheets.specs.declared.sheet.Sheet.TheVariants.{Beam, Column, Wall}
use Rattle.messages.specs.Faulty.{limits_of}
use Rattle.messages.specs.Messages.{message_of, message, then, all_due, sheet_due, lawful_sheet}

-- the sheet of a kind that a list of numbers gives
abbrev pub sheet_of : Kind → List ℕ → Sheet
sheet_of kinds.Beam ns = Beam (beam_of ns)
sheet_of kinds.Column ns = Column (column_of ns)
sheet_of kinds.Wall ns = Wall (wall_of ns)

-- the numbers of a sheet of any kind
abbrev pub numbers_of : Sheet → List ℕ
numbers_of (Beam b) = beam_numbers b
numbers_of (Column c) = column_numbers c
numbers_of (Wall w) = wall_numbers w

-- a sheet is read by the limits of its kind
pub sheet_due_of : (kind : Kind) (bs : List ℕ) → sheet_due kind bs ≡ then (all_due (limits_of kind) bs) (λ ns. Ok (sheet_of kind ns))
sheet_due_of kinds.Beam bs = refl
sheet_due_of kinds.Column bs = refl
sheet_due_of kinds.Wall bs = refl

-- what the numbers of a sheet of this kind say of it
pub record Numbered (kind : Kind) (ns : List ℕ) (sheet : Sheet) : Type 0 where
  pub back : sheet_of kind ns ≡ sheet
  pub spelled : message sheet ≡ message_of kind ns
  pub judged : lawful_sheet sheet ≡ admitted (limits_of kind) ns

pub sheet_numbered : (sheet : Sheet) → Numbered (kind_on sheet) (numbers_of sheet) sheet
sheet_numbered (Beam b) = record { back = refl; spelled = refl; judged = refl }
sheet_numbered (Column c) = record { back = refl; spelled = refl; judged = refl }
sheet_numbered (Wall w) = record { back = refl; spelled = refl; judged = refl }

kind_of_sheet : (kind : Kind) (ns : List ℕ) → kind_on (sheet_of kind ns) ≡ kind
kind_of_sheet kinds.Beam ns = refl
kind_of_sheet kinds.Column ns = refl
kind_of_sheet kinds.Wall ns = refl

numbers_of_sheet : (kind : Kind) (ns : List ℕ) → length ns ≡ length (limits_of kind) → numbers_of (sheet_of kind ns) ≡ ns
numbers_of_sheet kinds.Beam = listed_out 16
numbers_of_sheet kinds.Column = listed_out 11
numbers_of_sheet kinds.Wall = listed_out 20

-- as many numbers as the kind has limits are the numbers of the sheet that they give
pub numbers_numbered : (kind : Kind) (ns : List ℕ) → length ns ≡ length (limits_of kind) → Numbered kind ns (sheet_of kind ns)
numbers_numbered kind ns long =
    let same = kind_of_sheet kind ns in
    let listed = numbers_of_sheet kind ns long in
    let is = sheet_numbered (sheet_of kind ns) in
    record { back = refl; spelled = cc; judged = cc }
