-- The calls that move shear, as the code takes them: first the change that a call would make, or the first of its
-- grounds that refuses, and then the change made. Assumes nothing.
use Rattle.std.specs.Prelude.{ℕ, ◌+◌, ◌-◌, ◌*◌, Bool, not, ◌&&◌, ◌||◌, List, [], ◌∷◌, length, is_some, Some, None, Ok, Err, Option, Result, ◌==◌, nat_lt, slice_set}
use Rattle.faults.specs.declared.fault.JobFault.{JobFault}
use Rattle.faults.specs.declared.fault.JobFault.TheVariants.{Argument, Unknown, Unlawful, InHand, HandDiffers, UnderSevenTenths, OtherStorey, OverHand, OverLoad}
use Rattle.messages.specs.Messages.{then}
use Rattle.registers.specs.Registers.{find, row_at}
use Rattle.faults.specs.Grounds.{Ground, ◌when◌, decide}
use Rattle.registers.specs.Rows.{wall_form}
use Rattle.registers.specs.declared.note.Note.{Note}
use Rattle.members.specs.declared.member.Wall.{Wall}
use Rattle.registers.specs.declared.rows.Filed.{Filed}
use Rattle.law.specs.States.{State, Outcome, refused, empty, less, same_note, is_mark, is_newtons, are_sized, with_walls, with_note}
use Rattle.law.specs.Steps.{carrying, is_unlawful}
use Rattle.jobs.specs.declared.moving.Change.{Change}

-- a place that was found; past the last row where none was
abbrev pub place_at : {R : Type 0} → Option ℕ → List R → ℕ
place_at None rows = length rows
place_at (Some i) rows = i

-- the wall with this mark, or the row of zeros
abbrev pub wall_with : ℕ → List (Filed Wall) → Filed Wall
wall_with mark walls = row_at wall_form (find wall_form mark walls) walls

-- the wall at this place carries this shear then, and the job and the hand note this
abbrev pub change : ℕ → Filed Wall → ℕ → Note → Change
change at w q note = record { at = at; row = carrying w q; note = note }

-- this, where no ground refuses
abbrev pub if_none_refuses : {A : Type 0} → List Ground → Result A JobFault → Result A JobFault
if_none_refuses grounds r = decide grounds (λ fault. Err fault) r

-- what a call does that makes this change, or that is refused
abbrev pub done_by : State → Note → Result Change JobFault → Outcome ℕ
done_by s hand (Ok c) = record {
  answer = Ok c.note.newtons;
  state = with_note (with_walls s (slice_set s.walls c.at c.row)) c.note;
  hand = c.note;
}
done_by s hand (Err fault) = refused s hand fault

-- the grounds against a wall that is named
abbrev pub wall_grounds : List (Filed Wall) → ℕ → List Ground
wall_grounds walls mark =
    (Unknown when not (is_some (find wall_form mark walls)))
    ∷ (Unlawful when is_unlawful (wall_with mark walls))
    ∷ []

-- the place and the row of a lawful wall
abbrev pub lawful_wall_at : List (Filed Wall) → ℕ → Result (ℕ × Filed Wall) JobFault
lawful_wall_at walls mark = if_none_refuses (wall_grounds walls mark) (Ok (place_at (find wall_form mark walls) walls, wall_with mark walls))

-- Lift and place: first the wall, where the numbers and the registers are within their limits, then the change.

-- the grounds against the numbers and the registers
abbrev pub number_grounds : Bool → ℕ → ℕ → List Ground
number_grounds sized mark n =
    (Argument when not (sized && is_mark mark && is_newtons n))
    ∷ []

-- the wall's place and row
abbrev pub wall_to_move : Bool → List (Filed Wall) → ℕ → ℕ → Result (ℕ × Filed Wall) JobFault
wall_to_move sized walls mark n = if_none_refuses (number_grounds sized mark n) (lawful_wall_at walls mark)

-- the grounds of lift against a wall that was found
abbrev pub lift_grounds : Note → Note → ℕ → Filed Wall → List Ground
lift_grounds noted hand n w =
    (InHand when not (hand.newtons == 0 && noted.newtons == 0))
    ∷ (UnderSevenTenths when nat_lt (10 * w.member.carried) (10 * n + 7 * w.member.sheet.shear))
    ∷ []

-- the change that lift makes to a wall that was found
abbrev pub lift_off : State → Note → ℕ → ℕ → ℕ → Filed Wall → Result Change JobFault
lift_off s hand mark n at w = if_none_refuses (lift_grounds s.note hand n w) (Ok (change at w (w.member.carried - n) (record { job = s.number; wall = mark; storey = w.member.sheet.storey; newtons = n })))

-- the change that lift makes
abbrev pub lift_change : State → Note → ℕ → ℕ → Result Change JobFault
lift_change s hand mark n = then (wall_to_move (are_sized s) s.walls mark n) (λ found. lift_off s hand mark n found.0 found.1)

-- the hand is empty or differs from the job's note
abbrev pub differs_from : Note → Note → Bool
differs_from hand noted = hand.newtons == 0 || not (same_note hand noted)

-- the grounds of place against a wall that was found
abbrev pub place_grounds : Note → Note → ℕ → Filed Wall → List Ground
place_grounds noted hand n w =
    (HandDiffers when differs_from hand noted)
    ∷ (OtherStorey when not (w.member.sheet.storey == hand.storey))
    ∷ (OverHand when nat_lt hand.newtons n)
    ∷ (OverLoad when nat_lt 10000000 (w.member.carried + n))
    ∷ []

-- the change that place makes to a wall that was found
abbrev pub place_onto : State → Note → ℕ → ℕ → Filed Wall → Result Change JobFault
place_onto s hand n at w = if_none_refuses (place_grounds s.note hand n w) (Ok (change at w (w.member.carried + n) (less hand n)))

-- the change that place makes
abbrev pub place_change : State → Note → ℕ → ℕ → Result Change JobFault
place_change s hand mark n = then (wall_to_move (are_sized s) s.walls mark n) (λ found. place_onto s hand n found.0 found.1)

-- Put back: first the hand, where the registers are within their limits, then the wall, then the change.

-- the grounds against the registers and the hand
abbrev pub hand_grounds : State → Note → List Ground
hand_grounds s hand =
    (Argument when not (are_sized s))
    ∷ (HandDiffers when differs_from hand s.note)
    ∷ []

-- the ground of put back against a wall that was found
abbrev pub load_grounds : Note → Filed Wall → List Ground
load_grounds hand w =
    (OverLoad when nat_lt 10000000 (w.member.carried + hand.newtons))
    ∷ []

-- the change that put back makes to a wall that was found
abbrev pub put_onto : Note → ℕ → Filed Wall → Result Change JobFault
put_onto hand at w = if_none_refuses (load_grounds hand w) (Ok (change at w (w.member.carried + hand.newtons) empty))

-- the change that put back makes
abbrev pub put_back_change : State → Note → Result Change JobFault
put_back_change s hand = if_none_refuses (hand_grounds s hand) (then (lawful_wall_at s.walls hand.wall) (λ found. put_onto hand found.0 found.1))
