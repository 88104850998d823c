-- Later rows moved up, as the library's copy within a list says it. Assumes nothing.
use Rattle.std.proofs.Common.{◌≡◌, ℕ, zero, suc, ◌+◌, ◌-◌, ◌<◌, ◌≤◌, Bool, true, false, cond, List, [], ◌∷◌, ◌++◌, length, take, drop, get_or, set, sym, refl, ap, add-one, append_assoc, length-append, length-drop, ◌∙◌, arith}
use Rattle.std.specs.List.{copy_within}
use Rattle.std.proofs.lemmas.List.{take_all, drop_more, drop-drop, length-take-le, set_at}
use Rattle.registers.specs.Forms.{Form}
use Rattle.registers.specs.Registers.{free, ending, ending_from, moved_up, closed_up}

module _ {R M : Type 0} (form : Form R M) where
  -- a row before them puts the end one further
  ending_shifted : (i : ℕ) (rows : List R) → ending_from form (i + 1) rows ≡ ending_from form i rows + 1
  ending_shifted i [] = refl
  ending_shifted i (r ∷ rs) = by (free form r) (ending_shifted (i + 1) rs)
    where
      by : (b : Bool) → ending_from form (i + 1 + 1) rs ≡ ending_from form (i + 1) rs + 1 → cond b (i + 1) (ending_from form (i + 1 + 1) rs) ≡ cond b i (ending_from form (i + 1) rs) + 1
      by true later = refl
      by false later = later

  -- rows moved up: those before the end, the freed row, and what lies past it
  moved_up_is : (rows : List R) → moved_up form rows ≡ take (ending form rows) rows ++ form.blank ∷ drop (ending form rows) rows
  moved_up_is [] = refl
  moved_up_is (r ∷ rs) = by (free form r) (moved_up_is rs)
    where
      by : (b : Bool) → moved_up form rs ≡ take (ending form rs) rs ++ form.blank ∷ drop (ending form rs) rs
          → cond b (form.blank ∷ r ∷ rs) (r ∷ moved_up form rs) ≡ take (cond b 0 (ending_from form 1 rs)) (r ∷ rs) ++ form.blank ∷ drop (cond b 0 (ending_from form 1 rs)) (r ∷ rs)
      by true rest = refl
      by false rest = ap (λ xs. r ∷ xs) rest ∙ ap (λ n. take n (r ∷ rs) ++ form.blank ∷ drop n (r ∷ rs)) (sym (ending_shifted 0 rs ∙ add-one (ending form rs)))

  -- without its row, a register has those before it, and the later ones moved up
  closed_up_is : (at : ℕ) (rows : List R) → at < length rows → closed_up form at rows ≡ take at rows ++ moved_up form (drop (at + 1) rows)
  closed_up_is at [] within = absurd (omega arith)
  closed_up_is zero (r ∷ rs) within = refl
  closed_up_is (suc at) (r ∷ rs) within =
      let next : suc (at + 1) ≡ suc at + 1 = omega arith in
      ap (λ xs. r ∷ xs) (closed_up_is at rs (omega arith)) ∙ ap (λ n. r ∷ (take at rs ++ moved_up form (drop n (r ∷ rs)))) next

  -- the rows after place `at`, copied down by one as far as they end, with the freed row after them
  pub copied_down : (at e : ℕ) (rows later copied : List R) (last : R) → at < length rows → later ≡ take (length rows - (at + 1)) (drop (at + 1) rows) → e ≡ ending form later → e ≤ length later → copied ≡ copy_within rows (at + 1) (at + e + 1) at → last ≡ form.blank → set copied (at + e) last ≡ closed_up form at rows
  copied_down at e rows later copied last within are end few copy blank =
      let all : later ≡ drop (at + 1) rows = are ∙ take_all (length rows - (at + 1)) (drop (at + 1) rows) (omega (arith, length-drop (at + 1) rows)) in
      let long : length later ≡ length rows - (at + 1) = ap length all ∙ length-drop (at + 1) rows in
      let before : length (take at rows) ≡ at = length-take-le at rows (omega arith) in
      let moved : length (take e later) ≡ e = length-take-le e later few in
      let first : length (take at rows ++ take e later) ≡ at + e = length-append (take at rows) (take e later) ∙ omega arith in
      let some : at + e + 1 - (at + 1) ≡ e = omega arith in
      let past : at + e + 1 ≡ at + 1 + e = omega arith in
      let rest : drop (at + e + 1) rows ≡ drop e later = ap (λ n. drop n rows) past ∙ (sym (drop-drop e (at + 1) rows) ∙ ap (drop e) (sym all)) in
      ap (λ xs. set xs (at + e) last) copy
      ∙ ap (set (copy_within rows (at + 1) (at + e + 1) at) (at + e)) blank
      ∙ ap (λ n. set ((take at rows ++ take n (drop (at + 1) rows)) ++ drop (at + n) rows) (at + e) form.blank) some
      ∙ ap (λ xs. set ((take at rows ++ take e xs) ++ drop (at + e) rows) (at + e) form.blank) (sym all)
      ∙ ap (λ xs. set ((take at rows ++ take e later) ++ xs) (at + e) form.blank) (drop_more rows (at + e) form.blank (omega arith))
      ∙ set_at (take at rows ++ take e later) (get_or rows (at + e) form.blank) (drop (at + e + 1) rows) form.blank (at + e) first
      ∙ append_assoc (take at rows) (take e later) (form.blank ∷ drop (at + e + 1) rows)
      ∙ ap (λ xs. take at rows ++ (take e later ++ form.blank ∷ xs)) rest
      ∙ ap (λ n. take at rows ++ (take n later ++ form.blank ∷ drop n later)) end
      ∙ ap (λ xs. take at rows ++ xs) (sym (moved_up_is later))
      ∙ ap (λ xs. take at rows ++ moved_up form xs) all
      ∙ sym (closed_up_is at rows within)

  -- nothing is taken out past the last row
  pub closed_past : (i : ℕ) (rows : List R) → length rows ≤ i → closed_up form i rows ≡ rows
  closed_past i [] past = refl
  closed_past zero (r ∷ rs) past = absurd (omega arith)
  closed_past (suc i) (r ∷ rs) past = ap (λ xs. r ∷ xs) (closed_past i rs (omega arith))
