-- The law holds after every run. Assumes nothing.
use Rattle.std.proofs.Common.{◌≡◌, ℕ, ◌+◌, ◌*◌, ◌≤◌, true, not, ◌&&◌, eqb, List, [], ◌∷◌, Ok, Result, sym, refl, ap, ◌∙◌, subst, arith}
use Rattle.std.specs.List.{AllByRecursion as Each}
use Rattle.std.proofs.ByRecursion.{All-weaker}
use Rattle.std.proofs.lemmas.Bool.{cond-false, and_parts, and_from, or_from, eq-eqb, ne_eqb}
use Rattle.tables.specs.declared.codes.Kind.TheVariants as kinds
use Rattle.faults.specs.declared.fault.JobFault.{JobFault}
use Rattle.members.specs.Members.{lawful_beam_member, lawful_column_member, lawful_wall, beam_measure, column_measure, wall_measure}
use Rattle.specifications.proofs.Stays.{stays_named}
use Rattle.registers.specs.Registers.{filed}
use Rattle.faults.specs.Grounds.{Ground, decide}
use Rattle.registers.specs.Rows.{wall_form}
use Rattle.registers.specs.declared.note.Note.{Note}
use Rattle.law.specs.States.{State, Piles, refused, empty, same_note, is_mark, is_storey, are_sized}
use Rattle.law.specs.Steps.{wall_found, moved, sum_on, sums, opened, may_open}
use Rattle.law.specs.Histories.{Act, enter, withdraw, judge, lift, place, put_back, tally, History, standing, sheets_shear, in_hand}
use Rattle.law.specs.Laws.{renamed, step, event, Reached, opening, call, Made, run, Kept, EveryRun, KeepsTheLaw}
use Rattle.law.specs.declared.answers.Answer.{Answer}
use Rattle.law.specs.declared.answers.Answer.TheVariants.{InHand, Tallied}
use Rattle.law.proofs.Filed.{filed_spare}
use Rattle.law.proofs.Decisions.{NoneHolds}
use Rattle.law.proofs.Sound.{marked, kept_register}
use Rattle.law.proofs.RowLaws.{beam_laws, column_laws, wall_laws}
use Rattle.law.proofs.Shear.{carried, shear, total, walls_of, sum_spare, sheets_total, noted_none, wall_floor}
use Rattle.law.proofs.Jobs.{SoundJob, enter_sound}
use Rattle.law.proofs.Withdrawals.{withdraw_sound, tally_sound}
use Rattle.law.proofs.Judgements.{judge_sound}
use Rattle.law.proofs.Moves.{lift_sound, place_sound, put_back_sound, put_back_grounds, wall_of_note}

-- where no ground holds, it is done
decide_done : {A : Type 0} (gs : List Ground) (refuse : JobFault → A) (done : A) → NoneHolds gs → decide gs refuse done ≡ done
decide_done [] refuse done none = refl
decide_done (g ∷ gs) refuse done none = cond-false g.holds (refuse g.fault) (decide gs refuse done) none.0 ∙ decide_done gs refuse done none.1

-- every call keeps a job sound
step_sound : (p : Piles) (h : History) (s : State) (act : Act) (hand : Note) → SoundJob p h s → SoundJob p (event act hand (step p act hand s).answer ∷ h) (step p act hand s).state
step_sound p h s (enter message) hand j = enter_sound hand j message
step_sound p h s (withdraw k m) hand j = withdraw_sound hand j k m
step_sound p h s (judge k m) hand j = judge_sound hand j k m
step_sound p h s (lift m n) hand j = lift_sound hand j m n
step_sound p h s (place m n) hand j = place_sound hand j m n
step_sound p h s put_back hand j = put_back_sound hand j
step_sound p h s (tally t) hand j = tally_sound hand j t

-- a fresh job is sound
open_sound : (p : Piles) (number b c w : ℕ) → may_open number (opened number b c w) ≡ true → SoundJob p [] (opened number b c w)
open_sound p number b c w fit = record {
  beams = record { members = []; spare = b; spelled = refl; lawfuls = tt; distinct = tt; certificates = tt; sheets = refl };
  columns = record { members = []; spare = c; spelled = refl; lawfuls = tt; distinct = tt; certificates = tt; sheets = refl };
  walls = record { members = []; spare = w; spelled = refl; lawfuls = tt; distinct = tt; certificates = tt; sheets = refl };
  sized = (and_parts (are_sized (opened number b c w)) (is_mark number) fit).0;
  held = λ t. sym (noted_none t empty refl);
  backed = λ some. absurd (omega arith);
  balanced = λ t. ap (λ n. 0 + n) (noted_none t empty refl);
}

pub reached_sound : {p : Piles} {h : History} {s : State} → Reached p h s → SoundJob p h s
reached_sound {p} (opening number b c w fit) = open_sound p number b c w fit
reached_sound {p} (call {h} {s} before act hand) = step_sound p h s act hand (reached_sound before)

module _ {p : Piles} {h : History} {s : State} (j : SoundJob p h s) where
  carried_sum : (t : ℕ) → sum_on (λ w. w.member.carried) t s.walls ≡ total carried t (walls_of j.walls.members)
  carried_sum t = ap (sum_on (λ w. w.member.carried) t) j.walls.spelled ∙ sum_spare carried t j.walls.members j.walls.spare (marked wall_laws j.walls.members j.walls.lawfuls)

  sheet_sum : (t : ℕ) → sum_on (λ w. w.member.sheet.shear) t s.walls ≡ sheets_shear t (standing kinds.Wall h)
  sheet_sum t =
      ap (sum_on (λ w. w.member.sheet.shear) t) j.walls.spelled
      ∙ (sum_spare shear t j.walls.members j.walls.spare (marked wall_laws j.walls.members j.walls.lawfuls)
      ∙ (sym (sheets_total t j.walls.members) ∙ ap (sheets_shear t) j.walls.sheets))

  balance_kept : (t : ℕ) → sum_on (λ w. w.member.carried) t s.walls + in_hand t h ≡ sheets_shear t (standing kinds.Wall h)
  balance_kept t =
      let c = carried_sum t in
      let e = j.held t in
      let b = j.balanced t in
      let q : sheets_shear t (standing kinds.Wall h) ≡ total shear t (walls_of j.walls.members) = ap (sheets_shear t) (sym j.walls.sheets) ∙ sheets_total t j.walls.members in
      omega (arith, c, e, b, q)

  tally_kept : (t : ℕ) (hand : Note) → is_storey t ≡ true → (step p (tally t) hand s).answer ≡ Ok (Tallied (record { carried = sum_on (λ w. w.member.carried) t s.walls; in_hand = in_hand t h; sheets = sheets_shear t (standing kinds.Wall h) }))
  tally_kept t hand fit =
      ap (λ o. renamed Tallied o.answer) (cond-false (not (are_sized s && is_storey t)) (refused s hand _) (record { answer = Ok (sums s t); state = s; hand = hand }) (ap not (and_from (are_sized s) (is_storey t) j.sized fit)))
      ∙ (ap (λ x. Ok (Tallied (record { carried = sum_on (λ w. w.member.carried) t s.walls; in_hand = x; sheets = sum_on (λ w. w.member.sheet.shear) t s.walls }))) (sym (j.held t))
      ∙ ap (λ x. Ok (Tallied (record { carried = sum_on (λ w. w.member.carried) t s.walls; in_hand = in_hand t h; sheets = x }))) (sheet_sum t))

  floor_kept : Each (λ w. 7 * w.member.sheet.shear ≤ 10 * w.member.carried) (filed wall_form s.walls)
  floor_kept =
      subst (Each (λ w. 7 * w.member.sheet.shear ≤ 10 * w.member.carried)) (sym (ap (filed wall_form) j.walls.spelled ∙ filed_spare wall_form refl j.walls.members j.walls.spare (marked wall_laws j.walls.members j.walls.lawfuls)))
      (All-weaker (λ r. lawful_wall (wall_form.member r) ≡ true) (λ w. 7 * w.member.sheet.shear ≤ 10 * w.member.carried) (λ r law. wall_floor (wall_form.member r) law) j.walls.members j.walls.lawfuls)

  back_kept : 1 ≤ s.note.newtons → (step p put_back s.note s).answer ≡ Ok (InHand 0)
  back_kept some =
      let w = wall_found s s.note.wall in
      let found = wall_of_note s.note j some in
      ap (λ o. renamed InHand o.answer) (decide_done (put_back_grounds s.note j) (refused s s.note) (moved s s.note.wall (w.member.carried + s.note.newtons) empty)
      (ap not j.sized, (or_from (eqb s.note.newtons 0) (not (same_note s.note s.note)) (ne_eqb s.note.newtons 0 (λ e. absurd (omega arith))) (ap not (itself s.note)), (found.0, (found.1, (found.2, tt))))))
    where
      itself : (n : Note) → same_note n n ≡ true
      itself n = and_from (eqb n.job n.job && eqb n.wall n.wall && eqb n.storey n.storey) (eqb n.newtons n.newtons) (and_from (eqb n.job n.job && eqb n.wall n.wall) (eqb n.storey n.storey) (and_from (eqb n.job n.job) (eqb n.wall n.wall) (eq-eqb n.job n.job refl) (eq-eqb n.wall n.wall refl)) (eq-eqb n.storey n.storey refl)) (eq-eqb n.newtons n.newtons refl)

  kept : Kept p h s
  kept = record {
    beams = kept_register (λ m. beam_measure m.sheet) beam_laws (stays_named lawful_beam_member (λ m. beam_measure m.sheet) p.beams) j.beams;
    columns = kept_register (λ m. column_measure m.sheet) column_laws (stays_named lawful_column_member (λ m. column_measure m.sheet) p.columns) j.columns;
    walls = kept_register wall_measure wall_laws (stays_named lawful_wall wall_measure p.walls) j.walls;
    balance = balance_kept;
    tallies = tally_kept;
    seven_tenths = floor_kept;
    goes_back = back_kept;
  }

-- whatever is reached is kept
pub reached_kept : {p : Piles} {h : History} {s : State} → Reached p h s → Kept p h s
reached_kept r = kept (reached_sound r)

-- every list of calls from an opening reaches its state
run_reached : (p : Piles) (number b c w : ℕ) → may_open number (opened number b c w) ≡ true → (calls : List Made) → Reached p (run p (opened number b c w) calls).history (run p (opened number b c w) calls).state
run_reached p number b c w fit [] = opening number b c w fit
run_reached p number b c w fit (made ∷ calls) = call (run_reached p number b c w fit calls) made.act made.hand

pub every_run : (p : Piles) → EveryRun p
every_run p number b c w fit calls = reached_kept (run_reached p number b c w fit calls)

-- a call that does exactly its step keeps the law
pub keeps_the_law : (p : Piles) (act : Act) (hand : Note) (before : State) (answer : Result Answer JobFault) (after : State) → answer ≡ (step p act hand before).answer → after ≡ (step p act hand before).state → KeepsTheLaw p act hand before answer after
keeps_the_law p act hand before answer after answer-is after_is h r =
    let further_on : Reached p (event act hand answer ∷ h) after = subst (λ a. Reached p (event act hand a ∷ h) after) (sym answer-is) (subst (Reached p (event act hand (step p act hand before).answer ∷ h)) (sym after_is) (call r act hand)) in
    (further_on, reached_kept further_on)
