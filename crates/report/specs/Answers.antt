-- What a message is answered, and what that says in the subject's words. Assumes nothing.
use Rattle.std.specs.Prelude.{◌≡◌, ℕ, List, Ok, Err, Result}
use Rattle.faults.specs.declared.fault.SheetFault.{SheetFault}
use Rattle.faults.specs.declared.fault.JobFault.{JobFault}
use Rattle.faults.specs.declared.fault.JobFault.TheVariants as faults
use Rattle.sheets.specs.declared.sheet.Sheet.{Sheet}
use Rattle.sheets.specs.declared.sheet.Sheet.TheVariants as sheets
use Rattle.messages.specs.Faulty.{FaultAt}
use Rattle.messages.specs.Messages.{Canonical}
use Rattle.books.specs.Verdicts.{verdict_of, Says}
use Rattle.books.specs.declared.answers.Verdict.{Verdict}
use Rattle.members.specs.Members.{lawful_beam_member, lawful_column_member, lawful_wall}
use Rattle.beams.specs.Articles.{beam_meaning}
use Rattle.columns.specs.Articles.{column_meaning}
use Rattle.walls.specs.Articles.{wall_meaning}

-- the verdict of the book of its kind on the member of a sheet; a wall carries its sheet's shear
abbrev pub sheet_verdict : Sheet → Result Verdict JobFault
sheet_verdict (sheets.Beam s) = verdict_of lawful_beam_member beam_meaning (record { sheet = s })
sheet_verdict (sheets.Column s) = verdict_of lawful_column_member column_meaning (record { sheet = s })
sheet_verdict (sheets.Wall s) = verdict_of lawful_wall wall_meaning (record { sheet = s; carried = s.shear })

-- what the verdict on a sheet says: a certificate exactly when the book takes the member and no article is broken, or
-- the lowest broken article with its sides
abbrev pub SheetTold : Sheet → Result Verdict JobFault → Type 0
SheetTold (sheets.Beam s) r = Says lawful_beam_member beam_meaning (record { sheet = s }) r
SheetTold (sheets.Column s) r = Says lawful_column_member column_meaning (record { sheet = s }) r
SheetTold (sheets.Wall s) r = Says lawful_wall wall_meaning (record { sheet = s; carried = s.shear }) r

-- what is answered to a message that reads so: a fault passed up whole, or the verdict on its sheet
abbrev pub answered : Result Sheet SheetFault → Result Verdict JobFault
answered (Err fault) = Err (faults.Sheet fault)
answered (Ok sheet) = sheet_verdict sheet

-- what the answer to these bytes says, where they read so: a refused message is at fault where the refusal says, and the
-- fault is passed up whole; an accepted one is its sheet's message, and the verdict says what the sheet earns
abbrev pub Told : List ℕ → Result Sheet SheetFault → Result Verdict JobFault → Type 0
Told bytes (Err fault) r = FaultAt bytes fault × (r ≡ Err (faults.Sheet fault))
Told bytes (Ok sheet) r = Canonical bytes sheet × SheetTold sheet r
