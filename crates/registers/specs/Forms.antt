-- What a kind of row tells of itself. Assumes nothing.
use Rattle.std.specs.Prelude.{ℕ, Bool}
use Rattle.sheets.specs.declared.sheet.Sheet.{Sheet}
use Rattle.registers.specs.declared.note.Note.{Note}

-- a row holds a sheet and a certificate mark, and stands for a member that a book judges
pub record Form (R M : Type 0) : Type 0 where
  -- the mark on its sheet; 0 on a free row
  pub mark : R → ℕ
  -- the row of zeros
  pub blank : R
  -- its sheet
  pub sheet : R → Sheet
  -- the member that it stands for
  pub member : R → M
  -- whether a certificate stands on it
  pub certified : R → Bool
  -- the same row with its certificate
  pub certify : R → R
  -- whether its shear is not its sheet's own, or shear in hand by this note came from it
  pub moved : Note → R → Bool
