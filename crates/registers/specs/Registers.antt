-- A register is a list of rows. It ends before its first row of mark 0, and the first row with a mark is meant; rows
-- past the end are not seen and stay as they are. Assumes nothing.
use Rattle.std.specs.Prelude.{ℕ, zero, suc, ◌+◌, Bool, cond, List, [], ◌∷◌, Some, None, Option, ◌==◌, slice_index_or, slice_set}
use Rattle.registers.specs.Forms.{Form}

-- the row is free: it has mark 0
abbrev pub free : {R M : Type 0} → Form R M → R → Bool
free form r = form.mark r == 0

-- the rows before the register's end
abbrev pub filed : {R M : Type 0} → Form R M → List R → List R
filed form [] = []
filed form (r ∷ rs) = cond (free form r) [] (r ∷ filed form rs)

-- the place where the register ends, where the first of these rows has place i
abbrev pub ending_from : {R M : Type 0} → Form R M → ℕ → List R → ℕ
ending_from form i [] = i
ending_from form i (r ∷ rs) = cond (free form r) i (ending_from form (i + 1) rs)

-- the place where the register ends
abbrev pub ending : {R M : Type 0} → Form R M → List R → ℕ
ending form rows = ending_from form 0 rows

-- the place of the first row with this mark, where the first of these rows has place i
abbrev pub find_from : {R M : Type 0} → Form R M → ℕ → ℕ → List R → Option ℕ
find_from form mark i [] = None
find_from form mark i (r ∷ rs) = cond (free form r) None (cond (form.mark r == mark) (Some i) (find_from form mark (i + 1) rs))

-- the place of the first row with this mark, before the register's end
abbrev pub find : {R M : Type 0} → Form R M → ℕ → List R → Option ℕ
find form mark rows = find_from form mark 0 rows

-- the row at a place that was found; the row of zeros where none was
abbrev pub row_at : {R M : Type 0} → Form R M → Option ℕ → List R → R
row_at form None rows = form.blank
row_at form (Some i) rows = slice_index_or rows i form.blank

-- the register with another row at a place that was found
abbrev pub with_row : {R : Type 0} → Option ℕ → R → List R → List R
with_row None r rows = rows
with_row (Some i) r rows = slice_set rows i r

-- rows moved up by one to the register's end, and the freed row
abbrev pub moved_up : {R M : Type 0} → Form R M → List R → List R
moved_up form [] = form.blank ∷ []
moved_up form (r ∷ rs) = cond (free form r) (form.blank ∷ r ∷ rs) (r ∷ moved_up form rs)

-- the register without the row at place i: later rows move up, and the freed row becomes zeros
abbrev pub closed_up : {R M : Type 0} → Form R M → ℕ → List R → List R
closed_up form i [] = []
closed_up form zero (r ∷ rs) = moved_up form rs
closed_up form (suc i) (r ∷ rs) = r ∷ closed_up form i rs

-- the register without the row at a place that was found
abbrev pub without : {R M : Type 0} → Form R M → Option ℕ → List R → List R
without form None rows = rows
without form (Some i) rows = closed_up form i rows
