-- Which members are lawful, and what each kind of member measures. Assumes nothing.
use Rattle.std.specs.Prelude.{ℕ, ◌*◌, min, Bool, ◌&&◌, Some, None, Option, nat_le}
use Rattle.tables.specs.declared.codes.Quantity.{Quantity}
use Rattle.tables.specs.declared.codes.Quantity.TheVariants.{Thickness, TieSpacing, Storey}
use Rattle.sheets.specs.Sheets.{lawful_beam, lawful_column, lawful_wall_sheet}
use Rattle.sheets.specs.declared.sheet.BeamSheet.{BeamSheet}
use Rattle.sheets.specs.declared.sheet.ColumnSheet.{ColumnSheet}
use Rattle.members.specs.declared.member.Beam.{Beam}
use Rattle.members.specs.declared.member.Column.{Column}
use Rattle.members.specs.declared.member.Wall.{Wall}

-- a beam and a column are lawful when their sheets are
abbrev pub lawful_beam_member : Beam → Bool
lawful_beam_member b = lawful_beam b.sheet

abbrev pub lawful_column_member : Column → Bool
lawful_column_member c = lawful_column c.sheet

-- a wall is lawful when its sheet is, and it carries at least seven tenths of its sheet's shear and at most 10,000,000 N
abbrev pub lawful_wall : Wall → Bool
lawful_wall w = lawful_wall_sheet w.sheet && nat_le (7 * w.sheet.shear) (10 * w.carried) && nat_le w.carried 10000000

-- a beam is as thick as it is wide, and is tied by its stirrups
abbrev pub beam_measure : BeamSheet → Quantity → Option ℕ
beam_measure b Thickness = Some b.width
beam_measure b TieSpacing = Some b.stirrups.spacing
beam_measure b Storey = None

-- a column is as thick as its smaller side, and is tied by its confined spacing
abbrev pub column_measure : ColumnSheet → Quantity → Option ℕ
column_measure c Thickness = Some (min c.width c.height)
column_measure c TieSpacing = Some c.confined_spacing
column_measure c Storey = None

-- a wall is tied by its horizontal bars, and stands on a storey
abbrev pub wall_measure : Wall → Quantity → Option ℕ
wall_measure w Thickness = Some w.sheet.thickness
wall_measure w TieSpacing = Some w.sheet.horizontal.spacing
wall_measure w Storey = Some w.sheet.storey
