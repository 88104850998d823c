-- Bounds of what stands in a table or a list. Assumes nothing.
use Rattle.std.proofs.Common.{◌≡◌, ℕ, ◌*◌, ◌≤◌, max, true, eqb, List, [], ◌∷◌, is_some, Some, unwrap_or, mul-le-mul, arith}
use Rattle.std.proofs.lemmas.Bool.{cond_both, eqb-true}
use Rattle.tables.specs.Materials.{lookup, listed, bars, roots}
use Rattle.tables.specs.declared.materials.Entry.{Entry}
use Rattle.sheets.specs.declared.sheet.Bars.{Bars}
use Rattle.members.specs.Areas.{greatest, area, greatest_area, greatest_diameter, area_of_bars, root_of, greatest_root, greatest_of}

-- what a table gives is at most the greatest number that it gives
value_bounded : (table : List Entry) (key : ℕ) → unwrap_or (lookup table key) 0 ≤ greatest (λ line. line.value) table
value_bounded [] key = omega arith
value_bounded (line ∷ table) key =
    cond_both (eqb line.key key) (Some line.value) (lookup table key) (λ x. unwrap_or x 0 ≤ max line.value (greatest (λ line. line.value) table))
    (λ e. omega arith)
    (λ e. omega (arith, value_bounded table key))

-- a number that is found in a table is at most the greatest that it is looked up by
key_bounded : (table : List Entry) (key : ℕ) → is_some (lookup table key) ≡ true → key ≤ greatest (λ line. line.key) table
key_bounded [] key h = cc
key_bounded (line ∷ table) key h =
    cond_both (eqb line.key key) (Some line.value) (lookup table key) (λ x. is_some x ≡ true → key ≤ max line.key (greatest (λ line. line.key) table))
    (λ e s. omega (arith, eqb-true line.key key e))
    (λ e s. omega (arith, key_bounded table key s))
    h

pub area_bounded : (d : ℕ) → area d ≤ greatest_area
unfolding area
area_bounded d = value_bounded bars d

pub diameter_bounded : (d : ℕ) → is_some (lookup bars d) ≡ true → d ≤ greatest_diameter
diameter_bounded d h = key_bounded bars d h

pub root_bounded : (c : ℕ) → root_of c ≤ greatest_root
unfolding root_of
root_bounded c = value_bounded roots c

-- so many bars at most have so much area at most
pub bars_bounded : (b : Bars) (most : ℕ) → b.count ≤ most → area_of_bars b ≤ most * greatest_area
bars_bounded b most few = mul-le-mul few (area_bounded b.diameter)

-- a number of a list is at most its greatest
pub listed_bounded : (ms : List ℕ) (n : ℕ) → listed ms n ≡ true → n ≤ greatest_of ms
listed_bounded [] n h = cc
listed_bounded (m ∷ ms) n h =
    cond_both (eqb m n) true (listed ms n) (λ t. t ≡ true → n ≤ max m (greatest_of ms))
    (λ e s. omega (arith, eqb-true m n e))
    (λ e s. omega (arith, listed_bounded ms n s))
    h
