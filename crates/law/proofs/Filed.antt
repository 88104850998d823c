-- A register whose rows past the end are zeros: what finding, filing, replacing and closing up make of the rows filed.
-- Assumes nothing.
use Rattle.std.proofs.Common.{◌≡◌, ℕ, zero, suc, ◌+◌, true, false, cond, eqb, List, [], ◌∷◌, ◌++◌, map, length, replicate, Some, None, Option, sym, refl, ap, ◌∙◌, subst, arith}
use Rattle.std.specs.List.{AllByRecursion as Each}
use Rattle.std.proofs.lemmas.Bool.{cond_both, cond-true, cond-false, eqb-true, eqb-false}
use Rattle.registers.specs.Forms.{Form}
use Rattle.registers.specs.Registers.{free, filed, ending_from, find_from, moved_up, closed_up}
use Rattle.law.proofs.Marks.{Absent}

-- no row is free
abbrev pub Marked : {R M : Type 0} → Form R M → List R → Type 0
Marked form rows = Each (λ r. free form r ≡ false) rows

module _ {R M : Type 0} (form : Form R M) (zeros : free form form.blank ≡ true) where
  -- the rows filed are those before the zeros
  pub filed_spare : (rows : List R) (spare : ℕ) → Marked form rows → filed form (rows ++ replicate spare form.blank) ≡ rows
  filed_spare [] zero marked = refl
  filed_spare [] (suc spare) marked = cond-true (free form form.blank) [] (form.blank ∷ filed form (replicate spare form.blank)) zeros
  filed_spare (r ∷ rows) spare marked =
      cond-false (free form r) [] (r ∷ filed form (rows ++ replicate spare form.blank)) marked.0
      ∙ ap (λ rs. r ∷ rs) (filed_spare rows spare marked.1)

  -- the register ends after them
  pub ending_spare : (i : ℕ) (rows : List R) (spare : ℕ) → Marked form rows → ending_from form i (rows ++ replicate spare form.blank) ≡ i + length rows
  ending_spare i [] zero marked = omega arith
  ending_spare i [] (suc spare) marked = cond-true (free form form.blank) i (ending_from form (i + 1) (replicate spare form.blank)) zeros ∙ omega arith
  ending_spare i (r ∷ rows) spare marked =
      cond-false (free form r) i (ending_from form (i + 1) (rows ++ replicate spare form.blank)) marked.0
      ∙ (ending_spare (i + 1) rows spare marked.1 ∙ omega arith)

  -- a mark is found among them
  pub find_spare : (m i : ℕ) (rows : List R) (spare : ℕ) → find_from form m i (rows ++ replicate spare form.blank) ≡ find_from form m i rows
  find_spare m i [] zero = refl
  find_spare m i [] (suc spare) = cond-true (free form form.blank) None (cond (eqb (form.mark form.blank) m) (Some i) (find_from form m (i + 1) (replicate spare form.blank))) zeros
  find_spare m i (r ∷ rows) spare = ap (λ rest. cond (free form r) None (cond (eqb (form.mark r) m) (Some i) rest)) (find_spare m (i + 1) rows spare)

  -- closing up leaves one row of zeros more
  pub moved_up_spare : (rows : List R) (spare : ℕ) → Marked form rows → moved_up form (rows ++ replicate spare form.blank) ≡ rows ++ replicate (suc spare) form.blank
  moved_up_spare [] zero marked = refl
  moved_up_spare [] (suc spare) marked = cond-true (free form form.blank) (form.blank ∷ form.blank ∷ replicate spare form.blank) (form.blank ∷ moved_up form (replicate spare form.blank)) zeros
  moved_up_spare (r ∷ rows) spare marked =
      cond-false (free form r) (form.blank ∷ r ∷ (rows ++ replicate spare form.blank)) (r ∷ moved_up form (rows ++ replicate spare form.blank)) marked.0
      ∙ ap (λ rs. r ∷ rs) (moved_up_spare rows spare marked.1)

module _ {R M : Type 0} (form : Form R M) where
  -- the row at a place is taken out
  pub closed_at : (before : List R) (r : R) (after : List R) → closed_up form (length before) (before ++ r ∷ after) ≡ before ++ moved_up form after
  closed_at [] r after = refl
  closed_at (b ∷ before) r after = ap (λ rs. b ∷ rs) (closed_at before r after)

  -- closing up keeps the length
  length_moved_up : (rows : List R) → length (moved_up form rows) ≡ suc (length rows)
  length_moved_up [] = refl
  length_moved_up (r ∷ rows) = cond_both (free form r) (form.blank ∷ r ∷ rows) (r ∷ moved_up form rows) (λ rs. length rs ≡ suc (suc (length rows))) (λ e. refl) (λ e. ap suc (length_moved_up rows))

  pub length_closed_up : (i : ℕ) (rows : List R) → length (closed_up form i rows) ≡ length rows
  length_closed_up i [] = refl
  length_closed_up zero (r ∷ rows) = length_moved_up rows
  length_closed_up (suc i) (r ∷ rows) = ap suc (length_closed_up i rows)

  -- the row with a mark, between the rows before and after it
  pub record At (m : ℕ) (rows : List R) : Type 0 where
    pub before : List R
    pub row : R
    pub after : List R
    pub spelled : rows ≡ before ++ row ∷ after
    pub is : form.mark row ≡ m
    pub first : Absent m (map form.mark before)

  -- one row further
  abbrev at_later : (m : ℕ) (r : R) (rows : List R) → (form.mark r ≡ m → ⊥) → At m rows → At m (r ∷ rows)
  at_later m r rows other at = record {
    before = r ∷ at.before;
    row = at.row;
    after = at.after;
    spelled = ap (λ rs. r ∷ rs) at.spelled;
    is = at.is;
    first = (other, at.first);
  }

  -- where a mark is found or not
  pub data Sought (m i : ℕ) (rows : List R) (o : Option ℕ) : Type 0 where
    found : (at : At m rows) → o ≡ Some (i + length at.before) → Sought m i rows o
    missing : Absent m (map form.mark rows) → o ≡ None → Sought m i rows o

  pub sought : (m i : ℕ) (rows : List R) → Marked form rows → Sought m i rows (find_from form m i rows)
  sought m i [] marked = missing tt refl
  sought m i (r ∷ rows) marked =
      let here : Option ℕ = cond (eqb (form.mark r) m) (Some i) (find_from form m (i + 1) rows) in
      subst (Sought m i (r ∷ rows)) (sym (cond-false (free form r) None here marked.0))
      (cond_both (eqb (form.mark r) m) (Some i) (find_from form m (i + 1) rows) (Sought m i (r ∷ rows))
      (λ e. found (record { before = []; row = r; after = rows; spelled = refl; is = eqb-true (form.mark r) m e; first = tt }) (ap Some (omega arith)))
      (λ e. further e (sought m (i + 1) rows marked.1)))
    where
      further : eqb (form.mark r) m ≡ false → Sought m (i + 1) rows (find_from form m (i + 1) rows) → Sought m i (r ∷ rows) (find_from form m (i + 1) rows)
      further e (found at is) = found (at_later m r rows (eqb-false (form.mark r) m e) at) (is ∙ ap Some (omega arith))
      further e (missing none is) = missing (eqb-false (form.mark r) m e, none) is
