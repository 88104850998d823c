-- The rows of the three kinds. Assumes nothing.
use Rattle.std.specs.Prelude.{ℕ, Bool, true, false, not, ◌&&◌, ◌||◌, [], ◌==◌}
use Rattle.sheets.specs.Sheets.{beam_of, column_of, wall_of, mark_on}
use Rattle.sheets.specs.declared.sheet.BeamSheet.{BeamSheet}
use Rattle.sheets.specs.declared.sheet.ColumnSheet.{ColumnSheet}
use Rattle.sheets.specs.declared.sheet.WallSheet.{WallSheet}
use Rattle.sheets.specs.declared.sheet.Sheet.{Sheet}
use Rattle.sheets.specs.declared.sheet.Sheet.TheVariants as sheets
use Rattle.members.specs.declared.member.Beam.{Beam}
use Rattle.members.specs.declared.member.Column.{Column}
use Rattle.members.specs.declared.member.Wall.{Wall}
use Rattle.registers.specs.Forms.{Form}
use Rattle.registers.specs.declared.note.Note.{Note}
use Rattle.registers.specs.declared.rows.Filed.{Filed}

-- a row of a beam
abbrev pub beam_row : BeamSheet → Bool → Filed Beam
beam_row s c = record { member = record { sheet = s }; certified = c }

-- a row of a column
abbrev pub column_row : ColumnSheet → Bool → Filed Column
column_row s c = record { member = record { sheet = s }; certified = c }

-- a row of a wall that carries this shear
abbrev pub wall_row : WallSheet → Bool → ℕ → Filed Wall
wall_row s c q = record { member = record { sheet = s; carried = q }; certified = c }

-- what a row tells, by what its member does: its sheet, the member on a free row, whether its shear is moved
abbrev pub filed_form : {M : Type 0} → (M → Sheet) → M → (Note → M → Bool) → Form (Filed M) M
filed_form sheet zeros moved = record {
  mark = λ r. mark_on (sheet r.member);
  blank = record { member = zeros; certified = false };
  sheet = λ r. sheet r.member;
  member = λ r. r.member;
  certified = λ r. r.certified;
  certify = λ r. record { member = r.member; certified = true };
  moved = λ note r. moved note r.member;
}

-- shear in hand by this note came from the wall with this mark
abbrev pub in_hand_from : Note → ℕ → Bool
in_hand_from note mark = not (note.newtons == 0) && note.wall == mark

-- the sheet of a beam
abbrev pub beam_sheet : Beam → Sheet
beam_sheet m = sheets.Beam m.sheet

-- the sheet of a column
abbrev pub column_sheet : Column → Sheet
column_sheet m = sheets.Column m.sheet

-- the sheet of a wall
abbrev pub wall_sheet : Wall → Sheet
wall_sheet m = sheets.Wall m.sheet

-- the beam of zeros
abbrev pub no_beam : Beam
no_beam = record { sheet = beam_of [] }

-- the column of zeros
abbrev pub no_column : Column
no_column = record { sheet = column_of [] }

-- the wall of zeros
abbrev pub no_wall : Wall
no_wall = record { sheet = wall_of []; carried = 0 }

-- no shear is moved
abbrev pub unmoved : {M : Type 0} → Note → M → Bool
unmoved note m = false

-- a wall's shear is moved where it carries another than its sheet's, or shear in hand came from it
abbrev pub wall_shear_moved : Note → Wall → Bool
wall_shear_moved note m = not (m.carried == m.sheet.shear) || in_hand_from note m.sheet.heading.mark

-- beams: no shear is moved
abbrev pub beam_form : Form (Filed Beam) Beam
beam_form = filed_form beam_sheet no_beam unmoved

-- columns: no shear is moved
abbrev pub column_form : Form (Filed Column) Column
column_form = filed_form column_sheet no_column unmoved

-- walls
abbrev pub wall_form : Form (Filed Wall) Wall
wall_form = filed_form wall_sheet no_wall wall_shear_moved
