-- The shear of walls: sums on a storey, the balance with what is in hand, and the wall behind what is in hand. Assumes
-- nothing.
use Rattle.std.proofs.Common.{◌≡◌, ℕ, zero, suc, ◌+◌, ◌-◌, ◌*◌, ◌≤◌, Bool, true, false, cond, ◌&&◌, eqb, leb, List, [], ◌∷◌, ◌++◌, map, replicate, sym, refl, ap, ◌∙◌, arith}
use Rattle.std.proofs.lemmas.Bool.{cond_both, cond-true, cond-false, eqb-true, eq-eqb, ne_eqb, leb-true, le-leb, and_parts, and_from}
use Rattle.sheets.specs.Sheets.{lawful_wall_sheet}
use Rattle.members.specs.Members.{lawful_wall}
use Rattle.members.specs.declared.member.Wall.{Wall}
use Rattle.registers.specs.Registers.{free}
use Rattle.registers.specs.Rows.{wall_form}
use Rattle.registers.specs.declared.note.Note.{Note}
use Rattle.registers.specs.declared.rows.Filed.{Filed}
use Rattle.law.specs.States.{empty, less}
use Rattle.law.specs.Steps.{sum_on, noted_on}
use Rattle.law.specs.Histories.{storey_of, sheets_shear}
use Rattle.law.proofs.Marks.{Absent}
use Rattle.law.proofs.Filed.{Marked}

-- what a wall adds to a sum on a storey
abbrev pub share : (Wall → ℕ) → ℕ → Wall → ℕ
share number t w = cond (eqb w.sheet.storey t) (number w) 0

-- the sum over walls
abbrev pub total : (Wall → ℕ) → ℕ → List Wall → ℕ
total number t [] = 0
total number t (w ∷ ws) = share number t w + total number t ws

abbrev pub carried : Wall → ℕ
carried w = w.carried

abbrev pub shear : Wall → ℕ
shear w = w.sheet.shear

pub total_append : (number : Wall → ℕ) (t : ℕ) (xs ys : List Wall) → total number t (xs ++ ys) ≡ total number t xs + total number t ys
total_append number t [] ys = omega arith
total_append number t (w ∷ ws) ys = ap (λ n. share number t w + n) (total_append number t ws ys) ∙ omega arith

-- the members of rows
abbrev pub walls_of : List (Filed Wall) → List Wall
walls_of rows = map wall_form.member rows

pub sum_spare : (number : Wall → ℕ) (t : ℕ) (rows : List (Filed Wall)) (spare : ℕ) → Marked wall_form rows → sum_on (λ w. number (wall_form.member w)) t (rows ++ replicate spare wall_form.blank) ≡ total number t (walls_of rows)
sum_spare number t [] zero marked = refl
sum_spare number t [] (suc spare) marked = refl
sum_spare number t (w ∷ rows) spare marked =
    cond-false (free wall_form w) 0 (share number t (wall_form.member w) + sum_on (λ w. number (wall_form.member w)) t (rows ++ replicate spare wall_form.blank)) marked.0
    ∙ ap (λ n. share number t (wall_form.member w) + n) (sum_spare number t rows spare marked.1)

pub sheets_total : (t : ℕ) (rows : List (Filed Wall)) → sheets_shear t (map wall_form.sheet rows) ≡ total shear t (walls_of rows)
sheets_total t [] = refl
sheets_total t (w ∷ rows) = ap (λ n. share shear t (wall_form.member w) + n) (sheets_total t rows)

-- the storey of the wall at a mark
pub storey_at : (m : ℕ) (before : List (Filed Wall)) (row : Filed Wall) (after : List (Filed Wall)) → wall_form.mark row ≡ m → Absent m (map wall_form.mark before) → storey_of m (map wall_form.sheet (before ++ row ∷ after)) ≡ row.member.sheet.storey
storey_at m [] row after is absent = cond-true (eqb (wall_form.mark row) m) row.member.sheet.storey (storey_of m (map wall_form.sheet after)) (eq-eqb (wall_form.mark row) m is)
storey_at m (b ∷ before) row after is absent =
    cond-false (eqb (wall_form.mark b) m) b.member.sheet.storey (storey_of m (map wall_form.sheet (before ++ row ∷ after))) (ne_eqb (wall_form.mark b) m absent.0)
    ∙ storey_at m before row after is absent.1

-- Balance.

-- on each storey, carried and noted together are the shear on the sheets
abbrev pub Balanced : Note → List Wall → Type 0
Balanced note ws = (t : ℕ) → total carried t ws + noted_on t note ≡ total shear t ws

same_share : (t : ℕ) (w : Wall) → w.carried ≡ w.sheet.shear → share carried t w ≡ share shear t w
same_share t w same = ap (λ n. cond (eqb w.sheet.storey t) n 0) same

pub balanced_push : (note : Note) (ws : List Wall) (w : Wall) → w.carried ≡ w.sheet.shear → Balanced note ws → Balanced note (ws ++ w ∷ [])
balanced_push note ws w same b t =
    let c = total_append carried t ws (w ∷ []) in
    let q = total_append shear t ws (w ∷ []) in
    let e = same_share t w same in
    omega (arith, c, q, e, b t)

pub balanced_out : (note : Note) (before : List Wall) (w : Wall) (after : List Wall) → w.carried ≡ w.sheet.shear → Balanced note (before ++ w ∷ after) → Balanced note (before ++ after)
balanced_out note before w after same b t =
    let c = total_append carried t before (w ∷ after) in
    let q = total_append shear t before (w ∷ after) in
    let d = total_append carried t before after in
    let r = total_append shear t before after in
    let e = same_share t w same in
    omega (arith, c, q, d, r, e, b t)

pub balanced_swap : (note other : Note) (before : List Wall) (w v : Wall) (after : List Wall) → v.sheet ≡ w.sheet → ((t : ℕ) → share carried t v + noted_on t other ≡ share carried t w + noted_on t note) → Balanced note (before ++ w ∷ after) → Balanced other (before ++ v ∷ after)
balanced_swap note other before w v after same change b t =
    let c = total_append carried t before (w ∷ after) in
    let q = total_append shear t before (w ∷ after) in
    let d = total_append carried t before (v ∷ after) in
    let r = total_append shear t before (v ∷ after) in
    let e : share shear t v ≡ share shear t w = ap (λ s. cond (eqb s.storey t) s.shear 0) same in
    omega (arith, c, q, d, r, e, change t, b t)

-- Notes.

-- a note of no shear adds nothing
pub noted_none : (t : ℕ) (note : Note) → note.newtons ≡ 0 → noted_on t note ≡ 0
noted_none t note none = cond_both (eqb note.storey t) note.newtons 0 (λ n. n ≡ 0) (λ e. none) (λ e. refl)

-- what is left of a note
pub noted_less : (t : ℕ) (note : Note) (n : ℕ) → noted_on t (less note n) ≡ cond (eqb note.storey t) (note.newtons - n) 0
noted_less t note n =
    cond_both (eqb (note.newtons - n) 0) empty (record { job = note.job; wall = note.wall; storey = note.storey; newtons = note.newtons - n }) (λ x. noted_on t x ≡ cond (eqb note.storey t) (note.newtons - n) 0)
    (λ e. noted_none t empty refl ∙ sym (cond_both (eqb note.storey t) (note.newtons - n) 0 (λ m. m ≡ 0) (λ _. eqb-true (note.newtons - n) 0 e) (λ _. refl)))
    (λ e. refl)

-- shear off a wall of the storey into a note
pub lifted_share : (here : Bool) (q n : ℕ) → n ≤ q → cond here (q - n) 0 + cond here n 0 ≡ cond here q 0
lifted_share true q n low = omega arith
lifted_share false q n low = refl

-- shear from a note onto a wall of the storey
pub placed_share : (here : Bool) (q n held : ℕ) → n ≤ held → cond here (q + n) 0 + cond here (held - n) 0 ≡ cond here q 0 + cond here held 0
placed_share true q n held low = omega arith
placed_share false q n held low = refl

-- The wall behind what is in hand.

-- the wall that the noted shear came from, which can take it back
pub record Backed (note : Note) (w : Wall) : Type 0 where
  pub is : w.sheet.heading.mark ≡ note.wall
  pub level : w.sheet.storey ≡ note.storey
  pub room : w.carried + note.newtons ≤ 10000000

-- Lawful walls.

pub wall_lawful : (w : Wall) → lawful_wall_sheet w.sheet ≡ true → 7 * w.sheet.shear ≤ 10 * w.carried → w.carried ≤ 10000000 → lawful_wall w ≡ true
wall_lawful w sheet floor top =
    and_from (lawful_wall_sheet w.sheet && leb (7 * w.sheet.shear) (10 * w.carried)) (leb w.carried 10000000)
    (and_from (lawful_wall_sheet w.sheet) (leb (7 * w.sheet.shear) (10 * w.carried)) sheet (le-leb (7 * w.sheet.shear) (10 * w.carried) floor))
    (le-leb w.carried 10000000 top)

lawful_parts : (w : Wall) → lawful_wall w ≡ true → ((lawful_wall_sheet w.sheet && leb (7 * w.sheet.shear) (10 * w.carried)) ≡ true) × (leb w.carried 10000000 ≡ true)
lawful_parts w h = and_parts (lawful_wall_sheet w.sheet && leb (7 * w.sheet.shear) (10 * w.carried)) (leb w.carried 10000000) h

pub wall_sheet_lawful : (w : Wall) → lawful_wall w ≡ true → lawful_wall_sheet w.sheet ≡ true
wall_sheet_lawful w h = (and_parts (lawful_wall_sheet w.sheet) (leb (7 * w.sheet.shear) (10 * w.carried)) (lawful_parts w h).0).0

pub wall_floor : (w : Wall) → lawful_wall w ≡ true → 7 * w.sheet.shear ≤ 10 * w.carried
wall_floor w h = leb-true (7 * w.sheet.shear) (10 * w.carried) (and_parts (lawful_wall_sheet w.sheet) (leb (7 * w.sheet.shear) (10 * w.carried)) (lawful_parts w h).0).1

pub wall_top : (w : Wall) → lawful_wall w ≡ true → w.carried ≤ 10000000
wall_top w h = leb-true w.carried 10000000 (lawful_parts w h).1
