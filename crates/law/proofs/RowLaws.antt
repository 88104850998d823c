-- The rows of the three kinds keep the laws of rows. Assumes nothing.
use Rattle.std.proofs.Common.{◌≡◌, Bool, true, eqb, refl, arith}
use Rattle.tables.specs.declared.codes.Kind.{Kind}
use Rattle.tables.specs.declared.codes.Kind.TheVariants as kinds
use Rattle.sheets.specs.Limits.{beam_limits, column_limits, wall_limits}
use Rattle.sheets.specs.Sheets.{beam_numbers, column_numbers, wall_numbers, kind_on, mark_on}
use Rattle.sheets.specs.declared.sheet.Sheet.{Sheet}
use Rattle.members.specs.Members.{lawful_beam_member, lawful_column_member, lawful_wall}
use Rattle.members.proofs.Kept.{keeps}
use Rattle.registers.specs.Rows.{filed_form, beam_sheet, column_sheet, wall_sheet, no_beam, no_column, no_wall, unmoved, wall_shear_moved, beam_form, column_form, wall_form}
use Rattle.registers.specs.declared.note.Note.{Note}
use Rattle.law.specs.States.{is_mark}
use Rattle.law.proofs.Sound.{FormLaws}
use Rattle.law.proofs.Shear.{wall_sheet_lawful}

-- by what a kind of member tells: its zeros have mark 0, a lawful one's mark is a mark, its sheet is of its kind
filed_laws : {M : Type 0} (sheet : M → Sheet) (zeros : M) (moved : Note → M → Bool) (lawful : M → Bool) (kind : Kind) → eqb (mark_on (sheet zeros)) 0 ≡ true → ((m : M) → lawful m ≡ true → is_mark (mark_on (sheet m)) ≡ true) → ((m : M) → kind_on (sheet m) ≡ kind) → FormLaws (filed_form sheet zeros moved) lawful kind
filed_laws sheet zeros moved lawful kind free marked of_kind = record {
  zeros = free;
  marks = λ r h. marked r.member h;
  certify_mark = λ r. refl;
  certify_member = λ r. refl;
  certify_sheet = λ r. refl;
  certify_certified = λ r. refl;
  sheet_mark = λ r. refl;
  sheet_kind = λ r. of_kind r.member;
}

pub beam_laws : FormLaws beam_form lawful_beam_member kinds.Beam
beam_laws = filed_laws beam_sheet no_beam unmoved lawful_beam_member kinds.Beam refl (λ m h. keeps beam_limits (beam_numbers m.sheet) h 0 (omega arith)) (λ m. refl)

pub column_laws : FormLaws column_form lawful_column_member kinds.Column
column_laws = filed_laws column_sheet no_column unmoved lawful_column_member kinds.Column refl (λ m h. keeps column_limits (column_numbers m.sheet) h 0 (omega arith)) (λ m. refl)

pub wall_laws : FormLaws wall_form lawful_wall kinds.Wall
wall_laws = filed_laws wall_sheet no_wall wall_shear_moved lawful_wall kinds.Wall refl (λ m h. keeps wall_limits (wall_numbers m.sheet) (wall_sheet_lawful m h) 0 (omega arith)) (λ m. refl)
