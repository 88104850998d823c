-- The history of a job: every call since its opening, with the hand passed in and the answer given. Here stand the
-- things that a history tells by itself: which sheets were entered and not withdrawn, which members were judged since
-- their entry and since any change of their shear, and the shear in hand on a storey. Assumes nothing.
use Rattle.std.specs.Prelude.{ℕ, ◌+◌, ◌-◌, Bool, true, false, cond, ◌&&◌, ◌||◌, List, [], ◌∷◌, ◌++◌, Some, None, Ok, Err, Option, Result, ◌==◌}
use Rattle.tables.specs.Codes.{kind_number}
use Rattle.tables.specs.declared.codes.Kind.{Kind}
use Rattle.tables.specs.declared.codes.Kind.TheVariants as kinds
use Rattle.faults.specs.declared.fault.SheetFault.{SheetFault}
use Rattle.faults.specs.declared.fault.JobFault.{JobFault}
use Rattle.sheets.specs.Sheets.{kind_on, mark_on}
use Rattle.sheets.specs.declared.sheet.Sheet.{Sheet}
use Rattle.sheets.specs.declared.sheet.Sheet.TheVariants as sheets
use Rattle.messages.specs.Messages.{decoded}
use Rattle.registers.specs.declared.note.Note.{Note}
use Rattle.law.specs.declared.answers.Answer.{Answer}

-- a call, with its arguments: a message; kind and mark; wall and newtons; a storey
pub data Act : Type 0 where
  enter : List ℕ → Act
  withdraw : ℕ → ℕ → Act
  judge : ℕ → ℕ → Act
  lift : ℕ → ℕ → Act
  place : ℕ → ℕ → Act
  put_back : Act
  tally : ℕ → Act

-- a call that was made, the hand that was passed in, and what was answered
pub record Event : Type 0 where
  pub act : Act
  pub hand : Note
  pub answer : Result Answer JobFault

-- the calls since the opening, the newest first
abbrev pub History : Type 0
History = List Event

-- the same kind
abbrev pub same_kind : Kind → Kind → Bool
same_kind a b = kind_number a == kind_number b

-- a kind's number and a mark name the member of this kind and mark
abbrev pub names : Kind → ℕ → ℕ → ℕ → Bool
names kind mark k m = k == kind_number kind && m == mark

-- What one call did.

-- something, unless the call was refused
abbrev pub unless_refused : {A B : Type 0} → Result A JobFault → Option B → Option B
unless_refused (Ok a) x = x
unless_refused (Err e) x = None

-- the sheet that a message reads as
abbrev pub sheet_read : Result Sheet SheetFault → Option Sheet
sheet_read (Ok sheet) = Some sheet
sheet_read (Err fault) = None

-- the sheet that a call carries to be entered
abbrev pub sheet_in : Act → Option Sheet
sheet_in (enter message) = sheet_read (decoded message)
sheet_in (withdraw k m) = None
sheet_in (judge k m) = None
sheet_in (lift m n) = None
sheet_in (place m n) = None
sheet_in put_back = None
sheet_in (tally t) = None

-- whether a call asks to withdraw this member
abbrev pub withdraws : Kind → ℕ → Act → Bool
withdraws kind mark (enter message) = false
withdraws kind mark (withdraw k m) = names kind mark k m
withdraws kind mark (judge k m) = false
withdraws kind mark (lift m n) = false
withdraws kind mark (place m n) = false
withdraws kind mark put_back = false
withdraws kind mark (tally t) = false

-- whether a call judges this member
abbrev pub judges : Kind → ℕ → Act → Bool
judges kind mark (enter message) = false
judges kind mark (withdraw k m) = false
judges kind mark (judge k m) = names kind mark k m
judges kind mark (lift m n) = false
judges kind mark (place m n) = false
judges kind mark put_back = false
judges kind mark (tally t) = false

-- the wall that a call takes shear from or gives shear to
abbrev pub wall_moved : Act → Note → Option ℕ
wall_moved (enter message) hand = None
wall_moved (withdraw k m) hand = None
wall_moved (judge k m) hand = None
wall_moved (lift m n) hand = Some m
wall_moved (place m n) hand = Some m
wall_moved put_back hand = Some hand.wall
wall_moved (tally t) hand = None

-- the sheet that a call entered, if it was not refused
abbrev pub entered_by : Event → Option Sheet
entered_by e = unless_refused e.answer (sheet_in e.act)

-- the wall whose shear a call changed, if it was not refused
abbrev pub changed_by : Event → Option ℕ
changed_by e = unless_refused e.answer (wall_moved e.act e.hand)

-- whether a call was not refused
abbrev pub accepted : {A : Type 0} → Result A JobFault → Bool
accepted (Ok a) = true
accepted (Err e) = false

-- What a whole history tells.

-- a sheet of this kind and mark
abbrev pub is_of : Kind → ℕ → Sheet → Bool
is_of kind mark sheet = same_kind (kind_on sheet) kind && mark_on sheet == mark

-- whether it is that sheet, where there is one
abbrev pub is_entered : Kind → ℕ → Option Sheet → Bool
is_entered kind mark None = false
is_entered kind mark (Some sheet) = is_of kind mark sheet

-- whether it is that wall, where there is one
abbrev pub is_changed : Kind → ℕ → Option ℕ → Bool
is_changed kind mark None = false
is_changed kind mark (Some wall) = same_kind kinds.Wall kind && wall == mark

-- a member is judged since its entry and since any change of its shear: a call judges it, whatever the answer, and no
-- later call enters it or changes its shear
abbrev pub judged_since : Kind → ℕ → History → Bool
judged_since kind mark [] = false
judged_since kind mark (e ∷ h) = cond (judges kind mark e.act) true (cond (is_entered kind mark (entered_by e) || is_changed kind mark (changed_by e)) false (judged_since kind mark h))

-- a sheet more at the end, if it has this kind
abbrev pub joined : Kind → Option Sheet → List Sheet → List Sheet
joined kind None sheets = sheets
joined kind (Some sheet) sheets = cond (same_kind (kind_on sheet) kind) (sheets ++ sheet ∷ []) sheets

-- the sheets without the first that is withdrawn
abbrev pub dropped : (ℕ → Bool) → List Sheet → List Sheet
dropped withdrawn [] = []
dropped withdrawn (sheet ∷ sheets) = cond (withdrawn (mark_on sheet)) sheets (sheet ∷ dropped withdrawn sheets)

-- the sheets of a kind that were entered and not withdrawn, in the order of entry
abbrev pub standing : Kind → History → List Sheet
standing kind [] = []
standing kind (e ∷ h) = dropped (λ mark. accepted e.answer && withdraws kind mark e.act) (joined kind (entered_by e) (standing kind h))

-- the storey on a wall's sheet
abbrev pub storey_on : Sheet → ℕ
storey_on (sheets.Beam b) = 0
storey_on (sheets.Column c) = 0
storey_on (sheets.Wall w) = w.storey

-- the shear on a wall's sheet
abbrev pub shear_on : Sheet → ℕ
shear_on (sheets.Beam b) = 0
shear_on (sheets.Column c) = 0
shear_on (sheets.Wall w) = w.shear

-- the storey of the wall with this mark, among these sheets
abbrev pub storey_of : ℕ → List Sheet → ℕ
storey_of mark [] = 0
storey_of mark (sheet ∷ sheets) = cond (mark_on sheet == mark) (storey_on sheet) (storey_of mark sheets)

-- the sum of the shear on the sheets of a storey
abbrev pub sheets_shear : ℕ → List Sheet → ℕ
sheets_shear storey [] = 0
sheets_shear storey (sheet ∷ sheets) = cond (storey_on sheet == storey) (shear_on sheet) 0 + sheets_shear storey sheets

-- what a call that was not refused leaves in hand of what was there, on the storey of its wall: lift adds its newtons,
-- place takes its own off, put back takes the rest
abbrev pub hand_after : Act → ℕ → ℕ
hand_after (enter message) held = held
hand_after (withdraw k m) held = held
hand_after (judge k m) held = held
hand_after (lift m n) held = held + n
hand_after (place m n) held = held - n
hand_after put_back held = 0
hand_after (tally t) held = held

-- whether the wall that a call moved shear of stands on this storey
abbrev pub moves_on : ℕ → List Sheet → Option ℕ → Bool
moves_on storey walls None = false
moves_on storey walls (Some wall) = storey_of wall walls == storey

-- the shear in hand on a storey
abbrev pub in_hand : ℕ → History → ℕ
in_hand storey [] = 0
in_hand storey (e ∷ h) = cond (moves_on storey (standing kinds.Wall h) (changed_by e)) (hand_after e.act (in_hand storey h)) (in_hand storey h)
