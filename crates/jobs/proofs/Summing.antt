-- The sums of a storey, row by row. Assumes nothing.
use Rattle.std.proofs.Common.{◌≡◌, ℕ, ◌+◌, ◌<◌, cond, eqb, List, length, get_or, drop, sym, ap, ◌∙◌, add_assoc}
use Rattle.std.proofs.lemmas.List.{at_drop_more}
use Rattle.std.proofs.lemmas.Bool.{cond-true, cond-false, eq-eqb, ne_eqb}
use Rattle.registers.specs.Rows.{wall_form}
use Rattle.members.specs.declared.member.Wall.{Wall}
use Rattle.registers.specs.declared.rows.Filed.{Filed}
use Rattle.law.specs.Steps.{sum_on}

module _ (number : Filed Wall → ℕ) (storey : ℕ) (rows : List (Filed Wall)) (i : ℕ) (within : i < length rows) where
  -- the row at this place
  abbrev here : Filed Wall
  here = get_or rows i wall_form.blank

  -- a free row ends the sum
  pub sum_ends : here.member.sheet.heading.mark ≡ 0 → sum_on number storey (drop i rows) ≡ 0
  sum_ends none = at_drop_more (sum_on number storey) rows i wall_form.blank within ∙ cond-true _ _ _ (eq-eqb here.member.sheet.heading.mark 0 none)

  -- another adds its own
  pub sum_goes : (here.member.sheet.heading.mark ≡ 0 → ⊥) → (total sum more : ℕ) → total ≡ sum + sum_on number storey (drop i rows) → more ≡ cond (eqb here.member.sheet.storey storey) (number here) 0 → total ≡ sum + more + sum_on number storey (drop (i + 1) rows)
  sum_goes some total sum more was is =
      let own = cond (eqb here.member.sheet.storey storey) (number here) 0 in
      let rest = sum_on number storey (drop (i + 1) rows) in
      was
      ∙ ap (λ n. sum + n) (at_drop_more (sum_on number storey) rows i wall_form.blank within ∙ cond-false _ _ _ (ne_eqb here.member.sheet.heading.mark 0 some))
      ∙ sym (add_assoc sum own rest)
      ∙ ap (λ n. sum + n + rest) (sym is)
