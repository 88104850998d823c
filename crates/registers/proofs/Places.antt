-- Where a register ends, and where a mark is found, as the library's searches say it. Assumes nothing.
use Rattle.std.proofs.Common.{◌≡◌, ℕ, suc, ◌+◌, Bool, true, false, cond, not, eqb, List, [], ◌∷◌, length, take, Some, None, refl, ap, ◌∙◌, arith}
use Rattle.std.specs.List.{position_from, prefix_len}
use Rattle.std.specs.Option.{unwrap_or}
use Rattle.registers.specs.Forms.{Form}
use Rattle.registers.specs.Registers.{free, ending_from, find_from}

module _ {R M : Type 0} (form : Form R M) where
  -- the register ends at the first free row, or past its last
  pub ending_found : (i : ℕ) (rows : List R) → unwrap_or (position_from (free form) i rows) (i + length rows) ≡ ending_from form i rows
  ending_found i [] = omega arith
  ending_found i (r ∷ rs) = by (free form r) (ending_found (i + 1) rs)
    where
      by : (b : Bool) → unwrap_or (position_from (free form) (i + 1) rs) (i + 1 + length rs) ≡ ending_from form (i + 1) rs
          → unwrap_or (cond b (Some i) (position_from (free form) (i + 1) rs)) (i + suc (length rs)) ≡ cond b i (ending_from form (i + 1) rs)
      by true later = refl
      by false later = ap (unwrap_or (position_from (free form) (i + 1) rs)) (omega arith) ∙ later

  -- a mark is found among the rows before the first free one
  pub mark_found : (mark i : ℕ) (rows : List R) → position_from (λ r. eqb (form.mark r) mark) i (take (prefix_len (λ r. not (free form r)) rows) rows) ≡ find_from form mark i rows
  mark_found mark i [] = refl
  mark_found mark i (r ∷ rs) = by (free form r) (prefix_len (λ r. not (free form r)) rs) (mark_found mark (i + 1) rs)
    where
      by : (b : Bool) (n : ℕ) → position_from (λ r. eqb (form.mark r) mark) (i + 1) (take n rs) ≡ find_from form mark (i + 1) rs
          → position_from (λ r. eqb (form.mark r) mark) i (take (cond (not b) (1 + n) 0) (r ∷ rs)) ≡ cond b None (cond (eqb (form.mark r) mark) (Some i) (find_from form mark (i + 1) rs))
      by true n later = refl
      by false n later =
          let next : 1 + n ≡ suc n = omega arith in
          ap (λ k. position_from (λ r. eqb (form.mark r) mark) i (take k (r ∷ rs))) next ∙ ap (cond (eqb (form.mark r) mark) (Some i)) later
