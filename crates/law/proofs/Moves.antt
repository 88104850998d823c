-- How lift, place and put back keep a job. Assumes nothing.
use Rattle.std.proofs.Common.{◌≡◌, ℕ, ◌+◌, ◌-◌, ◌*◌, ◌≤◌, Bool, true, false, cond, not, ◌&&◌, eqb, ltb, List, [], ◌∷◌, ◌++◌, map, length, set, is_some, Some, None, Ok, sym, refl, ap, ◌∙◌, subst, ⊎_elim, zero-add, arith}
use Rattle.std.specs.List.{AllByRecursion as Each}
use Rattle.std.proofs.lemmas.List.{length-set, map-append}
use Rattle.std.proofs.lemmas.Bool.{cond_both, and_parts, or_parts, or_right, eq-eqb, ne_eqb, eqb-true, eqb-false, ltb-false, le-ltb, not-false}
use Rattle.tables.specs.declared.codes.Kind.{Kind}
use Rattle.tables.specs.declared.codes.Kind.TheVariants as kinds
use Rattle.faults.specs.declared.fault.JobFault.TheVariants.{Argument, Unknown, Unlawful, HandDiffers, UnderSevenTenths, OtherStorey, OverHand, OverLoad}
use Rattle.faults.specs.declared.fault.JobFault.TheVariants as faults
use Rattle.members.specs.Members.{lawful_wall}
use Rattle.members.specs.declared.member.Wall.{Wall}
use Rattle.registers.specs.Registers.{with_row}
use Rattle.faults.specs.Grounds.{Ground, ◌when◌}
use Rattle.registers.specs.Rows.{wall_form}
use Rattle.registers.specs.declared.note.Note.{Note}
use Rattle.registers.specs.declared.rows.Filed.{Filed}
use Rattle.law.specs.States.{State, Piles, refused, empty, less, same_note, is_mark, is_newtons, are_sized, with_walls, with_note}
use Rattle.law.specs.Steps.{wall_place, wall_found, carrying, moved, is_unlawful, differs, lift_step, place_step, put_back_step, noted_on}
use Rattle.law.specs.Histories.{Act, lift, place, put_back, Event, History, judges, withdraws, sheet_in, wall_moved, is_entered, is_changed, moves_on, hand_after, judged_since, standing, storey_of, joined, in_hand}
use Rattle.law.specs.Laws.{event}
use Rattle.law.specs.declared.answers.Answer.TheVariants.{InHand}
use Rattle.law.proofs.Marks.{Any, Absent, any_at, any_swap}
use Rattle.law.proofs.Filed.{At}
use Rattle.law.proofs.Decisions.{decide_cases}
use Rattle.law.proofs.Sound.{Idle, sound_idle, Stand, there, nowhere, stand, later_absent, judged_still, judged_no_more, stands_not, dropped_none}
use Rattle.law.proofs.Filings.{sound_replaced, set_spelled, row_lawful, met, Met}
use Rattle.law.proofs.RowLaws.{wall_laws}
use Rattle.law.proofs.Shear.{walls_of, storey_at, Balanced, balanced_swap, noted_none, noted_less, lifted_share, placed_share, Backed, wall_lawful, wall_sheet_lawful, wall_floor, wall_top}
use Rattle.law.proofs.Jobs.{SoundJob, sized_walls, After, refused_sound}

-- what holds of none does not hold of some
any_none : {X : Type 0} (P : X → Type 0) (xs : List X) → Each (λ x. P x → ⊥) xs → Any P xs → ⊥
any_none P [] all any = any
any_none P (x ∷ xs) all any = ⊎_elim (λ p. all.0 p) (λ later. any_none P xs all.1 later) any

-- what holds of some element, and of none of the others, holds of this one
any_only : {X : Type 0} (P : X → Type 0) (xs : List X) (y : X) (ys : List X) → Each (λ x. P x → ⊥) xs → Each (λ x. P x → ⊥) ys → Any P (xs ++ y ∷ ys) → P y
any_only P [] y ys no-before no-after h = ⊎_elim (λ p. p) (λ later. absurd (any_none P ys no-after later)) h
any_only P (x ∷ xs) y ys no-before no-after h = ⊎_elim (λ p. absurd (no-before.0 p)) (λ later. any_only P xs y ys no-before.1 no-after later) h

-- rows without the noted mark do not back the note
unbacked : (note : Note) (m : ℕ) → m ≡ note.wall → (rows : List (Filed Wall)) → Absent m (map wall_form.mark rows) → Each (λ w. Backed note w → ⊥) (walls_of rows)
unbacked note m same [] absent = tt
unbacked note m same (r ∷ rows) absent = (λ back. absent.0 (back.is ∙ sym same), unbacked note m same rows absent.1)

-- notes that agree in all four numbers are the same
same_notes : (a b : Note) → same_note a b ≡ true → a ≡ b
same_notes a b h =
    let third = and_parts (eqb a.job b.job && eqb a.wall b.wall && eqb a.storey b.storey) (eqb a.newtons b.newtons) h in
    let second = and_parts (eqb a.job b.job && eqb a.wall b.wall) (eqb a.storey b.storey) third.0 in
    let first = and_parts (eqb a.job b.job) (eqb a.wall b.wall) second.0 in
    let j : a.job ≡ b.job = eqb-true a.job b.job first.0 in
    let w : a.wall ≡ b.wall = eqb-true a.wall b.wall first.1 in
    let s : a.storey ≡ b.storey = eqb-true a.storey b.storey second.1 in
    let n : a.newtons ≡ b.newtons = eqb-true a.newtons b.newtons third.1 in
    ◌∙◌ {A = Note} (ap {B = Note} (λ x. record { job = x; wall = a.wall; storey = a.storey; newtons = a.newtons }) j)
    (ap {B = Note} (λ x. record { job = b.job; wall = x; storey = a.storey; newtons = a.newtons }) w
    ∙ (ap {B = Note} (λ x. record { job = b.job; wall = b.wall; storey = x; newtons = a.newtons }) s
    ∙ ap {B = Note} (λ x. record { job = b.job; wall = b.wall; storey = b.storey; newtons = x }) n))

-- a note with shear left names what it named
less_open : (note : Note) (n : ℕ) → 1 ≤ (less note n).newtons → less note n ≡ record { job = note.job; wall = note.wall; storey = note.storey; newtons = note.newtons - n }
less_open note n =
    let left : Note = record { job = note.job; wall = note.wall; storey = note.storey; newtons = note.newtons - n } in
    cond_both (eqb (note.newtons - n) 0) empty left (λ x. 1 ≤ x.newtons → x ≡ left)
    (λ e some. absurd (omega arith))
    (λ e some. refl)

module _ {p : Piles} {h : History} {s : State} (hand : Note) (j : SoundJob p h s) where
  -- a call that moves shear of a wall
  module _ (act : Act) (m q : ℕ) (note : Note) (quiet : (kind : Kind) (i : ℕ) → judges kind i act ≡ false) (no-sheet : sheet_in act ≡ None) (no-withdraw : (kind : Kind) (i : ℕ) → withdraws kind i act ≡ false) (moves : wall_moved act hand ≡ Some m) (at : At wall_form m j.walls.members) (place_is : wall_place s m ≡ Some (length at.before)) (row_is : wall_found s m ≡ at.row) where
    no_entry : (kind : Kind) (i : ℕ) → is_entered kind i (sheet_in act) ≡ false
    no_entry kind i = ap (is_entered kind i) no-sheet

    idle_moved : (kind : Kind) → ((i : ℕ) → is_changed kind i (Some m) ≡ false) → Idle kind (event act hand (Ok (InHand note.newtons)))
    idle_moved kind other = record {
      judging = quiet kind;
      entering = no_entry kind;
      joining = λ xs. ap (λ o. joined kind o xs) no-sheet;
      withdrawing = no-withdraw kind;
      changing = λ i. ap (is_changed kind i) moves ∙ other i;
    }

    same_standing : standing kinds.Wall (event act hand (Ok (InHand note.newtons)) ∷ h) ≡ standing kinds.Wall h
    same_standing = dropped_none (λ i. withdraws kinds.Wall i act) (no-withdraw kinds.Wall) (joined kinds.Wall (sheet_in act) (standing kinds.Wall h)) ∙ ap (λ o. joined kinds.Wall o (standing kinds.Wall h)) no-sheet

    rows_after : with_row (wall_place s m) (carrying (wall_found s m) q) s.walls ≡ set s.walls (length at.before) (carrying at.row q)
    rows_after = ap (λ o. with_row o (carrying (wall_found s m) q) s.walls) place_is ∙ ap (λ w. set s.walls (length at.before) (carrying w q)) row_is

    storey_is : storey_of m (standing kinds.Wall h) ≡ at.row.member.sheet.storey
    storey_is = ap (storey_of m) (sym j.walls.sheets ∙ ap (map wall_form.sheet) at.spelled) ∙ storey_at m at.before at.row at.after at.is at.first

    split : walls_of j.walls.members ≡ walls_of at.before ++ wall_form.member at.row ∷ walls_of at.after
    split = ap walls_of at.spelled ∙ map-append wall_form.member at.before (at.row ∷ at.after)

    moved_sound : lawful_wall (record { sheet = at.row.member.sheet; carried = q }) ≡ true
        → ((t : ℕ) → cond (eqb at.row.member.sheet.storey t) q 0 + noted_on t note ≡ cond (eqb at.row.member.sheet.storey t) at.row.member.carried 0 + noted_on t s.note)
        → (1 ≤ note.newtons → Any (Backed note) (walls_of at.before ++ wall_form.member (carrying at.row q) ∷ walls_of at.after))
        → ((t : ℕ) → cond (eqb at.row.member.sheet.storey t) (hand_after act (noted_on t s.note)) (noted_on t s.note) ≡ noted_on t note)
        → After hand j act InHand (moved s m q note)
    moved_sound law balance backing holding =
        let e : Event = event act hand (Ok (InHand note.newtons)) in
        let v : Filed Wall = carrying at.row q in
        let rows = set s.walls (length at.before) v in
        let joined_back : walls_of (at.before ++ v ∷ at.after) ≡ walls_of at.before ++ wall_form.member v ∷ walls_of at.after = map-append wall_form.member at.before (v ∷ at.after) in
        subst (λ rs. SoundJob p (e ∷ h) (with_note (with_walls s rs) note)) (sym rows_after)
        (record {
          beams = sound_idle (idle_moved kinds.Beam (λ i. refl)) j.beams;
          columns = sound_idle (idle_moved kinds.Column (λ i. refl)) j.columns;
          walls = sound_replaced j.walls at v at.is law refl
              (λ i ne. judged_still kinds.Wall i e h (quiet kinds.Wall i) (no_entry kinds.Wall i) (ap (is_changed kinds.Wall i) moves ∙ ne_eqb m i (λ same. ne (sym same))))
              (stands_not refl (ap (λ i. judged_since kinds.Wall i (e ∷ h)) at.is ∙ judged_no_more kinds.Wall m e h (quiet kinds.Wall m) (or_right (is_entered kinds.Wall m (sheet_in act)) (is_changed kinds.Wall m (wall_moved act hand)) (ap (is_changed kinds.Wall m) moves ∙ eq-eqb m m refl))))
              same_standing rows (set_spelled j.walls at v);
          sized = sized_walls s rows (length-set s.walls (length at.before) v) j.sized;
          held = λ t.
              ap (λ o. cond (moves_on t (standing kinds.Wall h) o) (hand_after act (in_hand t h)) (in_hand t h)) moves
              ∙ (ap (λ n. cond (eqb n t) (hand_after act (in_hand t h)) (in_hand t h)) storey_is
              ∙ (ap (λ n. cond (eqb at.row.member.sheet.storey t) (hand_after act n) n) (j.held t)
              ∙ holding t));
          backed = λ some. subst (Any (Backed note)) (sym joined_back) (backing some);
          balanced = subst (Balanced note) (sym joined_back) (balanced_swap s.note note (walls_of at.before) (wall_form.member at.row) (wall_form.member v) (walls_of at.after) refl balance (subst (Balanced s.note) split j.balanced));
        })

  abbrev pub lift_grounds : ℕ → ℕ → List Ground
  lift_grounds m n =
      (Argument when not (are_sized s && is_mark m && is_newtons n))
      ∷ (Unknown when not (is_some (wall_place s m)))
      ∷ (Unlawful when is_unlawful (wall_found s m))
      ∷ (faults.InHand when not (eqb hand.newtons 0 && eqb s.note.newtons 0))
      ∷ (UnderSevenTenths when ltb (10 * (wall_found s m).member.carried) (10 * n + 7 * (wall_found s m).member.sheet.shear))
      ∷ []

  -- the wall that is found is lawful
  found_lawful : (m : ℕ) → is_unlawful (wall_found s m) ≡ false → lawful_wall (wall_form.member (wall_found s m)) ≡ true
  found_lawful m e = not-false (lawful_wall (wall_form.member (wall_found s m))) e

  -- the wall that is found, as the row at its mark
  abbrev found_at : {m : ℕ} → Met {form = wall_form} {lawful = lawful_wall} {book = p.walls} {kind = kinds.Wall} {h = h} {rows = s.walls} m j.walls → At wall_form m j.walls.members
  found_at {m} meet = record {
    before = meet.at.before;
    row = wall_found s m;
    after = meet.at.after;
    spelled = meet.at.spelled ∙ ap (λ r. meet.at.before ++ r ∷ meet.at.after) (sym meet.row_is);
    is = ap wall_form.mark meet.row_is ∙ meet.at.is;
    first = meet.at.first;
  }

  pub lift_sound : (m n : ℕ) → After hand j (lift m n) InHand (lift_step s hand m n)
  lift_sound m n =
      let w : Filed Wall = wall_found s m in
      let note : Note = record { job = s.number; wall = m; storey = w.member.sheet.storey; newtons = n } in
      decide_cases (After hand j (lift m n) InHand) (lift_grounds m n) (refused s hand) (moved s m (w.member.carried - n) note)
      (λ fault some. refused_sound hand j (lift m n) (λ kind i. refl) fault)
      (λ none.
      let meet = met (stand wall_laws m j.walls) none.1.0 in
      let law : lawful_wall (wall_form.member w) ≡ true = found_lawful m none.1.1.0 in
      let hands = and_parts (eqb hand.newtons 0) (eqb s.note.newtons 0) (not-false (eqb hand.newtons 0 && eqb s.note.newtons 0) none.1.1.1.0) in
      let idle : s.note.newtons ≡ 0 = eqb-true s.note.newtons 0 hands.1 in
      let keeps : 10 * n + 7 * w.member.sheet.shear ≤ 10 * w.member.carried = ltb-false (10 * w.member.carried) (10 * n + 7 * w.member.sheet.shear) none.1.1.1.1.0 in
      let top = wall_top (wall_form.member w) law in
      moved_sound (lift m n) m (w.member.carried - n) note (λ kind i. refl) refl (λ kind i. refl) refl (found_at meet) meet.place refl
      (wall_lawful (record { sheet = w.member.sheet; carried = w.member.carried - n }) (wall_sheet_lawful (wall_form.member w) law) (omega arith) (omega arith))
      (λ t. omega (arith, lifted_share (eqb w.member.sheet.storey t) w.member.carried n (omega arith), noted_none t s.note idle))
      (λ some. any_at (Backed note) (walls_of meet.at.before) (wall_form.member (carrying w (w.member.carried - n))) (walls_of meet.at.after) (record { is = (found_at meet).is; level = refl; room = omega arith }))
      (λ t.
      ap (λ x. cond (eqb w.member.sheet.storey t) (x + n) x) (noted_none t s.note idle)
      ∙ ap (λ x. cond (eqb w.member.sheet.storey t) x 0) (zero-add n)))

  -- the hand agrees with the job's note, and is not empty
  agrees : differs s hand ≡ false → (hand ≡ s.note) × (1 ≤ hand.newtons)
  agrees e =
      let parts = or_parts (eqb hand.newtons 0) (not (same_note hand s.note)) e in
      let some : hand.newtons ≡ 0 → ⊥ = eqb-false hand.newtons 0 parts.0 in
      (same_notes hand s.note (not-false (same_note hand s.note) parts.1), omega (arith, some))

  abbrev pub place_grounds : ℕ → ℕ → List Ground
  place_grounds m n =
      (Argument when not (are_sized s && is_mark m && is_newtons n))
      ∷ (Unknown when not (is_some (wall_place s m)))
      ∷ (Unlawful when is_unlawful (wall_found s m))
      ∷ (HandDiffers when differs s hand)
      ∷ (OtherStorey when not (eqb (wall_found s m).member.sheet.storey hand.storey))
      ∷ (OverHand when ltb hand.newtons n)
      ∷ (OverLoad when ltb 10000000 ((wall_found s m).member.carried + n))
      ∷ []

  pub place_sound : (m n : ℕ) → After hand j (place m n) InHand (place_step s hand m n)
  place_sound m n =
      let w : Filed Wall = wall_found s m in
      let note : Note = less hand n in
      decide_cases (After hand j (place m n) InHand) (place_grounds m n) (refused s hand) (moved s m (w.member.carried + n) note)
      (λ fault some. refused_sound hand j (place m n) (λ kind i. refl) fault)
      (λ none.
      let meet = met (stand wall_laws m j.walls) none.1.0 in
      let law : lawful_wall (wall_form.member w) ≡ true = found_lawful m none.1.1.0 in
      let agree = agrees none.1.1.1.0 in
      let level : w.member.sheet.storey ≡ hand.storey = eqb-true w.member.sheet.storey hand.storey (not-false (eqb w.member.sheet.storey hand.storey) none.1.1.1.1.0) in
      let enough : n ≤ hand.newtons = ltb-false hand.newtons n none.1.1.1.1.1.0 in
      let room : w.member.carried + n ≤ 10000000 = ltb-false 10000000 (w.member.carried + n) none.1.1.1.1.1.1.0 in
      let floor = wall_floor (wall_form.member w) law in
      moved_sound (place m n) m (w.member.carried + n) note (λ kind i. refl) refl (λ kind i. refl) refl (found_at meet) meet.place refl
      (wall_lawful (record { sheet = w.member.sheet; carried = w.member.carried + n }) (wall_sheet_lawful (wall_form.member w) law) (omega arith) room)
      (λ t.
      let at_hand : eqb w.member.sheet.storey t ≡ eqb hand.storey t = ap (λ x. eqb x t) level in
      ap (λ b. cond b (w.member.carried + n) 0 + noted_on t (less hand n)) at_hand
      ∙ (ap (λ x. cond (eqb hand.storey t) (w.member.carried + n) 0 + x) (noted_less t hand n)
      ∙ (placed_share (eqb hand.storey t) w.member.carried n hand.newtons enough
      ∙ (ap (λ b. cond b w.member.carried 0 + noted_on t hand) (sym at_hand)
      ∙ ap (λ x. cond (eqb w.member.sheet.storey t) w.member.carried 0 + noted_on t x) agree.0))))
      (λ some.
      let open-note = less_open hand n some in
      subst (λ x. Any (Backed x) (walls_of meet.at.before ++ wall_form.member (carrying w (w.member.carried + n)) ∷ walls_of meet.at.after)) (sym open-note)
      (any_swap (Backed hand) (Backed (record { job = hand.job; wall = hand.wall; storey = hand.storey; newtons = hand.newtons - n }))
      (λ x back. record { is = back.is; level = back.level; room = omega (arith, back.room) })
      (walls_of meet.at.before) (wall_form.member w) (wall_form.member (carrying w (w.member.carried + n))) (walls_of meet.at.after)
      (λ back. record { is = back.is; level = back.level; room = omega (arith, back.room, enough) })
      (subst (λ x. Any (Backed x) (walls_of meet.at.before ++ wall_form.member w ∷ walls_of meet.at.after)) (sym agree.0)
      (subst (Any (Backed s.note)) (ap walls_of (found_at meet).spelled ∙ map-append wall_form.member meet.at.before (w ∷ meet.at.after)) (j.backed (subst (λ x. 1 ≤ x.newtons) agree.0 agree.1))))))
      (λ t.
      ap (λ x. cond (eqb w.member.sheet.storey t) (noted_on t x - n) (noted_on t x)) (sym agree.0)
      ∙ (ap (λ x. cond (eqb x t) (noted_on t hand - n) (noted_on t hand)) level
      ∙ (taken_off (eqb hand.storey t) hand.newtons n ∙ sym (noted_less t hand n)))))
    where
      taken_off : (b : Bool) (held n : ℕ) → cond b (cond b held 0 - n) (cond b held 0) ≡ cond b (held - n) 0
      taken_off true held n = refl
      taken_off false held n = refl

  abbrev pub put_back_grounds : List Ground
  put_back_grounds =
      (Argument when not (are_sized s))
      ∷ (HandDiffers when differs s hand)
      ∷ (Unknown when not (is_some (wall_place s hand.wall)))
      ∷ (Unlawful when is_unlawful (wall_found s hand.wall))
      ∷ (OverLoad when ltb 10000000 ((wall_found s hand.wall).member.carried + hand.newtons))
      ∷ []

  -- the wall at the noted mark backs the note
  backed_at : {m : ℕ} (at : At wall_form m j.walls.members) → m ≡ s.note.wall → 1 ≤ s.note.newtons → Backed s.note (wall_form.member at.row)
  backed_at {m} at same some =
      any_only (Backed s.note) (walls_of at.before) (wall_form.member at.row) (walls_of at.after)
      (unbacked s.note m same at.before at.first)
      (unbacked s.note m same at.after (later_absent j.walls at))
      (subst (Any (Backed s.note)) (ap walls_of at.spelled ∙ map-append wall_form.member at.before (at.row ∷ at.after)) (j.backed some))

  pub put_back_sound : After hand j put_back InHand (put_back_step s hand)
  put_back_sound =
      let m : ℕ = hand.wall in
      let w : Filed Wall = wall_found s m in
      decide_cases (After hand j put_back InHand) put_back_grounds (refused s hand) (moved s m (w.member.carried + hand.newtons) empty)
      (λ fault some. refused_sound hand j put_back (λ kind i. refl) fault)
      (λ none.
      let agree = agrees none.1.0 in
      let meet = met (stand wall_laws m j.walls) none.1.1.0 in
      let law : lawful_wall (wall_form.member w) ≡ true = found_lawful m none.1.1.1.0 in
      let room : w.member.carried + hand.newtons ≤ 10000000 = ltb-false 10000000 (w.member.carried + hand.newtons) none.1.1.1.1.0 in
      let floor = wall_floor (wall_form.member w) law in
      let back = backed_at (found_at meet) (ap (λ x. x.wall) agree.0) (subst (λ x. 1 ≤ x.newtons) agree.0 agree.1) in
      let level : w.member.sheet.storey ≡ hand.storey = back.level ∙ ap (λ x. x.storey) (sym agree.0) in
      moved_sound put_back m (w.member.carried + hand.newtons) empty (λ kind i. refl) refl (λ kind i. refl) refl (found_at meet) meet.place refl
      (wall_lawful (record { sheet = w.member.sheet; carried = w.member.carried + hand.newtons }) (wall_sheet_lawful (wall_form.member w) law) (omega arith) room)
      (λ t.
      let at_hand : eqb w.member.sheet.storey t ≡ eqb hand.storey t = ap (λ x. eqb x t) level in
      ap (λ b. cond b (w.member.carried + hand.newtons) 0 + noted_on t empty) at_hand
      ∙ (ap (λ x. cond (eqb hand.storey t) (w.member.carried + hand.newtons) 0 + x) (noted_none t empty refl)
      ∙ (given_back (eqb hand.storey t) w.member.carried hand.newtons
      ∙ (ap (λ b. cond b w.member.carried 0 + noted_on t hand) (sym at_hand)
      ∙ ap (λ x. cond (eqb w.member.sheet.storey t) w.member.carried 0 + noted_on t x) agree.0))))
      (λ some. absurd (omega arith))
      (λ t.
      ap (λ x. cond (eqb w.member.sheet.storey t) 0 (noted_on t x)) (sym agree.0)
      ∙ (ap (λ x. cond (eqb x t) 0 (noted_on t hand)) level
      ∙ (all_gone (eqb hand.storey t) hand.newtons ∙ sym (noted_none t empty refl)))))
    where
      given_back : (b : Bool) (q n : ℕ) → cond b (q + n) 0 + 0 ≡ cond b q 0 + cond b n 0
      given_back true q n = omega arith
      given_back false q n = refl

      all_gone : (b : Bool) (n : ℕ) → cond b 0 (cond b n 0) ≡ 0
      all_gone true n = refl
      all_gone false n = refl

-- the wall that a job's note names stands there, is lawful, and has room for what is noted
pub wall_of_note : {p : Piles} {h : History} {s : State} (hand : Note) (j : SoundJob p h s) → 1 ≤ s.note.newtons → (not (is_some (wall_place s s.note.wall)) ≡ false) × (is_unlawful (wall_found s s.note.wall) ≡ false) × (ltb 10000000 ((wall_found s s.note.wall).member.carried + s.note.newtons) ≡ false)
wall_of_note {p} {h} {s} hand j some = by (stand wall_laws s.note.wall j.walls)
  where
    by : Stand s.note.wall j.walls → (not (is_some (wall_place s s.note.wall)) ≡ false) × (is_unlawful (wall_found s s.note.wall) ≡ false) × (ltb 10000000 ((wall_found s s.note.wall).member.carried + s.note.newtons) ≡ false)
    by (there at place_is row_is later) = (
      ap (λ o. not (is_some o)) place_is,
      ap (λ r. not (lawful_wall (wall_form.member r))) row_is ∙ ap not (row_lawful j.walls at),
      ap (λ r. ltb 10000000 (r.member.carried + s.note.newtons)) row_is ∙ le-ltb 10000000 (at.row.member.carried + s.note.newtons) (backed_at hand j at refl some).room,
    )
    by (nowhere absent none) = absurd (any_none (Backed s.note) (walls_of j.walls.members) (unbacked s.note s.note.wall refl j.walls.members absent) (j.backed some))
