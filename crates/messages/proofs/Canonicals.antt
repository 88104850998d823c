-- What a message reads as: bytes that read as a sheet are that sheet's message and the sheet is lawful, and bytes that
-- are refused are at fault where the refusal says. Assumes nothing.
use Rattle.std.proofs.Common.{◌≡◌, ℕ, ◌<◌, ◌≤◌, Bool, true, false, ◌&&◌, leb, ◌⊎◌, List, [], ◌∷◌, ◌++◌, length, is_some, IfOk, IfErr, Some, None, Ok, MatchResult, Option, Result, sym, refl, ap, ◌∙◌, subst, inl, inr, ⊎_elim, arith, lit<}
use Rattle.std.proofs.lemmas.Bool.{cond_both, leb-true, leb-false, and_parts, and_cases}
use Rattle.std.proofs.lemmas.Bool.Decides.{nat_tests}
use Rattle.std.proofs.lemmas.Result.{MatchResult-weaker}
use Rattle.tables.specs.Codes.{kind_number, kind_of}
use Rattle.tables.specs.declared.codes.Kind.{Kind}
use Rattle.tables.specs.declared.codes.Kind.TheVariants as kinds
use Rattle.faults.specs.declared.fault.MessageFault.TheVariants.{Size}
use Rattle.faults.specs.declared.fault.SheetFault.{SheetFault}
use Rattle.faults.specs.declared.fault.SheetFault.TheVariants.{Message, Value}
use Rattle.sheets.specs.declared.sheet.Sheet.{Sheet}
use Rattle.messages.specs.Messages.{field, message, then, raised, one_byte, kind_read, all_due, kind_due, size_due, sheet_due, decoded, lawful_sheet, Canonical}
use Rattle.messages.specs.Faulty.{Wrong, limits_of, FaultAt}
use Rattle.messages.proofs.Steps.{then_reads}
use Rattle.messages.proofs.Fields.{Bytes, back_bytes, Gives, field_reads}
use Rattle.messages.proofs.Numbers.{AllRead, LateFault, all_reads, admitted_length}
use Rattle.messages.proofs.EachKind.{sheet_due_of, numbers_numbered}

-- The kind.

one_gives : (at : ℕ) → Gives 1 (λ n. n ∷ []) at (one_byte at)
one_gives at [] = (refl, λ long. omega arith)
one_gives at (a ∷ []) = (refl, omega arith, λ bytes. refl)
one_gives at (a ∷ b ∷ more) = (refl, λ long. omega arith)

pub kind_numbered : (n : ℕ) (kind : Kind) → kind_of n ≡ Some kind → n ≡ kind_number kind
kind_numbered n kinds.Beam e = grind (arith, nat_tests)
kind_numbered n kinds.Column e = grind (arith, nat_tests)
kind_numbered n kinds.Wall e = grind (arith, nat_tests)

-- a number that stands for a kind
abbrev known : ℕ → Bool
known n = is_some (kind_of n)

-- the field of a kind stands at the front
abbrev KindRead : List ℕ → Kind × List ℕ → Type 0
KindRead bs due = Bytes bs → bs ≡ field 1 (kind_number due.0 ∷ []) ++ due.1

kind_read_reads : (bs rest : List ℕ) (n : ℕ) (o : Option Kind) → kind_of n ≡ o → (Bytes bs → bs ≡ field 1 (n ∷ []) ++ rest) → (known n ≡ false → Wrong 1 1 known 0 bs (Value 0)) → MatchResult (then (kind_read 0 o) (λ kind. Ok (kind, rest))) (KindRead bs) (Wrong 1 1 known 0 bs)
kind_read_reads bs rest n None e spelled denied = denied (ap is_some e)
kind_read_reads bs rest n (Some kind) e spelled denied = λ bytes. spelled bytes ∙ ap (λ k. field 1 (k ∷ []) ++ rest) (kind_numbered n kind e)

kind_reads : (bs : List ℕ) → MatchResult (kind_due bs) (KindRead bs) (Wrong 1 1 known 0 bs)
kind_reads bs = field_reads 1 1 known 0 (λ n. n ∷ []) (KindRead bs) (one_byte 0) _ bs (lit< tt) (one_gives 0) (λ n rest. kind_read_reads bs rest n (kind_of n) refl)

-- The sheet.

-- after the kind's field there is the rest of the sheet's message, and the sheet is lawful
abbrev SheetRead : Kind → List ℕ → Sheet → Type 0
SheetRead kind bs sheet = (Bytes bs → message sheet ≡ field 1 (kind_number kind ∷ []) ++ bs) × (lawful_sheet sheet ≡ true)

sheet_reads : (kind : Kind) (bs : List ℕ) → MatchResult (sheet_due kind bs) (SheetRead kind bs) (LateFault kind bs)
sheet_reads kind bs =
    rw (sheet_due_of kind bs)
    (then_reads (AllRead kind bs) (SheetRead kind bs) (LateFault kind bs) (LateFault kind bs) (all_due (limits_of kind) bs) _ (all_reads kind bs) (λ e late. late)
    (λ ns all.
    let is = numbers_numbered kind ns (admitted_length (limits_of kind) ns all.1) in
    (λ bytes. is.spelled ∙ ap (λ xs. field 1 (kind_number kind ∷ []) ++ xs) (sym (all.0 bytes)), is.judged ∙ all.1)))

-- The message.

abbrev Sized : ℕ → Result (Unit {0}) SheetFault → Type 0
Sized n r = MatchResult r (λ _. (1 ≤ n) × (n ≤ 256)) (λ e. ((n ≡ 0) ⊎ (256 < n)) × (e ≡ Message Size))

size_reads : (n : ℕ) → Sized n (raised (size_due n))
size_reads n =
    cond_both (leb 1 n && leb n 256) _ _ (λ r. Sized n (raised r))
    (λ fits. let both = and_parts (leb 1 n) (leb n 256) fits in (leb-true 1 n both.0, leb-true n 256 both.1))
    (λ other. (⊎_elim (λ none. inl (let low = leb-false 1 n none in omega arith)) (λ many. inr (leb-false n 256 many)) (and_cases (leb 1 n) (leb n 256) other), refl))

-- where each number of the list is a byte, the list is the message of the sheet read; the sheet is lawful in any case
abbrev pub MessageRead : List ℕ → Sheet → Type 0
MessageRead bs sheet = (Bytes bs → message sheet ≡ bs) × (lawful_sheet sheet ≡ true)

-- where each number of the list is a byte, the list is at fault where the refusal says
abbrev pub Refused : List ℕ → SheetFault → Type 0
Refused bs e = Bytes bs → FaultAt bs e

pub decoded_reads : (bs : List ℕ) → MatchResult (decoded bs) (MessageRead bs) (Refused bs)
decoded_reads bs =
    let n = length bs in
    then_reads (λ _. (1 ≤ n) × (n ≤ 256)) (MessageRead bs) (λ e. ((n ≡ 0) ⊎ (256 < n)) × (e ≡ Message Size)) (Refused bs) (raised (size_due n)) _ (size_reads n) (λ e wrong bytes. inl wrong)
    (λ _ fit.
    then_reads (KindRead bs) (MessageRead bs) (Wrong 1 1 known 0 bs) (Refused bs) (kind_due bs) _ (kind_reads bs) (λ e wrong bytes. inr (fit.0, fit.1, inl wrong))
    (λ due head.
    let kind = due.0 in
    let rest = due.1 in
    let tail : Bytes bs → Bytes rest = λ bytes. back_bytes (field 1 (kind_number kind ∷ [])) rest (subst Bytes (head bytes) bytes) in
    MatchResult-weaker (sheet_due kind rest) (sheet_reads kind rest)
    (λ sheet read. (λ bytes. read.0 (tail bytes) ∙ sym (head bytes), read.1))
    (λ e late bytes. inr (fit.0, fit.1, inr (rw (head bytes) (late (tail bytes)))))))

-- accepted bytes are their sheet's message, and the sheet is lawful
pub accepted : (bs : List ℕ) → Bytes bs → IfOk (decoded bs) (λ sheet. Canonical bs sheet)
accepted bs bytes = MatchResult-weaker (decoded bs) (decoded_reads bs) (λ sheet read. (read.0 bytes, read.1)) (λ e wrong. tt)

-- refused bytes are at fault where the refusal says
pub refused : (bs : List ℕ) → Bytes bs → IfErr (decoded bs) (λ fault. FaultAt bs fault)
refused bs bytes = MatchResult-weaker (decoded bs) (decoded_reads bs) (λ sheet read. tt) (λ e wrong. wrong bytes)
