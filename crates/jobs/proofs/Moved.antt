-- The calls that move shear, as the code takes them, do what their definitions say. Assumes nothing.
use Rattle.std.proofs.Common.{◌≡◌, ℕ, ◌+◌, ◌-◌, Bool, true, false, cond, List, [], ◌∷◌, ◌++◌, length, set, Some, None, Ok, Err, Option, Result, refl, ap, ◌∙◌, arith}
use Rattle.std.proofs.lemmas.List.{set_past}
use Rattle.faults.specs.declared.fault.JobFault.{JobFault}
use Rattle.messages.specs.Messages.{then}
use Rattle.registers.specs.Registers.{with_row}
use Rattle.faults.specs.Grounds.{Ground, decide}
use Rattle.registers.specs.declared.note.Note.{Note}
use Rattle.members.specs.declared.member.Wall.{Wall}
use Rattle.registers.specs.declared.rows.Filed.{Filed}
use Rattle.law.specs.States.{State, refused, empty, less, are_sized, with_walls, with_note}
use Rattle.law.specs.Steps.{wall_place, wall_found, carrying, moved, lift_step, place_step, put_back_step}
use Rattle.jobs.specs.declared.moving.Change.{Change}
use Rattle.jobs.specs.Changes.{place_at, change, done_by, number_grounds, wall_grounds, lift_grounds, lift_off, lift_change, place_grounds, place_onto, place_change, hand_grounds, load_grounds, put_onto, put_back_change}

-- what a test decides is handed on
handed : {A B : Type 0} (f : A → B) (b : Bool) (x y : A) (z : B) → f y ≡ z → f (cond b x y) ≡ cond b (f x) z
handed f true x y z e = refl
handed f false x y z e = e

-- what grounds decide is handed on
after : {A B : Type 0} (f : A → B) (gs : List Ground) (refuse : JobFault → A) (done : A) → f (decide gs refuse done) ≡ decide gs (λ fault. f (refuse fault)) (f done)
after f [] refuse done = refl
after f (g ∷ gs) refuse done = handed f g.holds (refuse g.fault) (decide gs refuse done) (decide gs (λ fault. f (refuse fault)) (f done)) (after f gs refuse done)

-- a row put at a place that was found
set_place : {R : Type 0} (o : Option ℕ) (rows : List R) (r : R) → set rows (place_at o rows) r ≡ with_row o r rows
set_place None rows r = set_past rows (length rows) r (omega arith)
set_place (Some i) rows r = refl

module _ (s : State) (hand : Note) where
  -- what is refused is refused by what follows too
  decided : (gs : List Ground) (r : Result Change JobFault) → done_by s hand (decide gs (λ fault. Err fault) r) ≡ decide gs (refused s hand) (done_by s hand r)
  decided gs = after (done_by s hand) gs (λ fault. Err fault)

  module _ (mark : ℕ) where
    -- the change is made to the wall with this mark
    changed : (gs : List Ground) (q : ℕ) (note : Note) → done_by s hand (decide gs (λ fault. Err fault) (Ok (change (place_at (wall_place s mark) s.walls) (wall_found s mark) q note))) ≡ decide gs (refused s hand) (moved s mark q note)
    changed gs q note =
        decided gs (Ok (change (place_at (wall_place s mark) s.walls) (wall_found s mark) q note))
        ∙ ap (λ rows. decide gs (refused s hand) (record { answer = Ok note.newtons; state = with_note (with_walls s rows) note; hand = note })) (set_place (wall_place s mark) s.walls (carrying (wall_found s mark) q))

    -- the wall first, then what is done to it
    at_wall : (gs : List Ground) (k : ℕ × Filed Wall → Result Change JobFault) → done_by s hand (then (decide gs (λ fault. Err fault) (Ok (place_at (wall_place s mark) s.walls, wall_found s mark))) k) ≡ decide gs (refused s hand) (done_by s hand (k (place_at (wall_place s mark) s.walls, wall_found s mark)))
    at_wall gs k = after (λ r. done_by s hand (then r k)) gs (λ fault. Err fault) (Ok (place_at (wall_place s mark) s.walls, wall_found s mark))

    module _ (n : ℕ) where
      -- the grounds against the numbers, the registers and the wall
      abbrev grounds : List Ground
      grounds = number_grounds (are_sized s) mark n ++ wall_grounds s.walls mark

      -- lift does what it should
      pub lifted : done_by s hand (lift_change s hand mark n) ≡ lift_step s hand mark n
      lifted =
          let w = wall_found s mark in
          at_wall grounds (λ found. lift_off s hand mark n found.0 found.1)
          ∙ ap (decide grounds (refused s hand)) (changed (lift_grounds s.note hand n w) (w.member.carried - n) (record { job = s.number; wall = mark; storey = w.member.sheet.storey; newtons = n }))

      -- place does what it should
      pub placed : done_by s hand (place_change s hand mark n) ≡ place_step s hand mark n
      placed =
          let w = wall_found s mark in
          at_wall grounds (λ found. place_onto s hand n found.0 found.1)
          ∙ ap (decide grounds (refused s hand)) (changed (place_grounds s.note hand n w) (w.member.carried + n) (less hand n))

  -- put back does what it should
  pub put_back : done_by s hand (put_back_change s hand) ≡ put_back_step s hand
  put_back =
      let w = wall_found s hand.wall in
      decided (hand_grounds s hand) (then (decide (wall_grounds s.walls hand.wall) (λ fault. Err fault) (Ok (place_at (wall_place s hand.wall) s.walls, w))) (λ found. put_onto hand found.0 found.1))
      ∙ ap
      (decide (hand_grounds s hand) (refused s hand))
      (at_wall hand.wall (wall_grounds s.walls hand.wall) (λ found. put_onto hand found.0 found.1) ∙ ap (decide (wall_grounds s.walls hand.wall) (refused s hand)) (changed hand.wall (load_grounds hand w) (w.member.carried + hand.newtons) empty))
