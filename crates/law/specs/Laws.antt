-- The law over every run of a job, in the words of its subject. Assumes nothing.
use Rattle.std.specs.Prelude.{◌≡◌, ℕ, ◌+◌, ◌*◌, ◌≤◌, Bool, true, List, [], ◌∷◌, map, Ok, Err, Option, Result}
use Rattle.std.specs.List.{AllByRecursion as Each}
use Rattle.tables.specs.declared.codes.Kind.{Kind}
use Rattle.tables.specs.declared.codes.Kind.TheVariants as kinds
use Rattle.tables.specs.declared.codes.Quantity.{Quantity}
use Rattle.faults.specs.declared.fault.JobFault.{JobFault}
use Rattle.members.specs.Members.{lawful_beam_member, lawful_column_member, lawful_wall, beam_measure, column_measure, wall_measure}
use Rattle.books.specs.Meanings.{Meaning}
use Rattle.books.specs.Verdicts.{NoneBrokenBelow}
use Rattle.specifications.specs.Fronted.{StaysNamed}
use Rattle.registers.specs.Forms.{Form}
use Rattle.registers.specs.Registers.{filed}
use Rattle.registers.specs.Rows.{beam_form, column_form, wall_form}
use Rattle.registers.specs.declared.note.Note.{Note}
use Rattle.law.specs.States.{State, Piles, Outcome, is_storey}
use Rattle.law.specs.Steps.{enter_step, withdraw_step, judge_step, lift_step, place_step, put_back_step, tally_step, sum_on, opened, may_open}
use Rattle.law.specs.Histories.{Act, enter, withdraw, judge, lift, place, put_back, tally, Event, History, judged_since, standing, sheets_shear, in_hand}
use Rattle.law.specs.declared.answers.Answer.{Answer}
use Rattle.law.specs.declared.answers.Answer.TheVariants.{Done, Judged, InHand, Tallied}

-- Runs.

-- the answer of one call as the answer of any
abbrev pub renamed : {A B : Type 0} → (A → B) → Result A JobFault → Result B JobFault
renamed name (Ok a) = Ok (name a)
renamed name (Err e) = Err e

-- what one call does as what any does
abbrev pub answering : {A : Type 0} → (A → Answer) → Outcome A → Outcome Answer
answering name o = record { answer = renamed name o.answer; state = o.state; hand = o.hand }

-- what a call does, with this hand, in this state
abbrev pub step : Piles → Act → Note → State → Outcome Answer
step p (enter message) hand s = answering (λ _. Done) (enter_step s hand message)
step p (withdraw kind mark) hand s = answering (λ _. Done) (withdraw_step s hand kind mark)
step p (judge kind mark) hand s = answering Judged (judge_step p s hand kind mark)
step p (lift mark n) hand s = answering InHand (lift_step s hand mark n)
step p (place mark n) hand s = answering InHand (place_step s hand mark n)
step p put_back hand s = answering InHand (put_back_step s hand)
step p (tally storey) hand s = answering Tallied (tally_step s hand storey)

-- the call as it stands in the history
abbrev pub event : Act → Note → Result Answer JobFault → Event
event act hand answer = record { act = act; hand = hand; answer = answer }

-- a history and the state that it leads to, from an opening, whatever calls were made and whatever hands passed in
pub data Reached (p : Piles) : History → State → Type 0 where
  opening : (number b c w : ℕ) → may_open number (opened number b c w) ≡ true → Reached p [] (opened number b c w)
  call : {h : History} {s : State} → Reached p h s → (act : Act) (hand : Note) → Reached p (event act hand (step p act hand s).answer ∷ h) (step p act hand s).state

-- a call with the hand that is passed in
pub record Made : Type 0 where
  pub act : Act
  pub hand : Note

-- a history beside its state
pub record Run : Type 0 where
  pub history : History
  pub state : State

-- one call more
abbrev pub further : Piles → Made → Run → Run
further p c r = record { history = event c.act c.hand (step p c.act c.hand r.state).answer ∷ r.history; state = (step p c.act c.hand r.state).state }

-- what a list of calls, the newest first, leads to from a state
abbrev pub run : Piles → State → List Made → Run
run p s [] = record { history = []; state = s }
run p s (c ∷ cs) = further p c (run p s cs)

-- What is kept.

-- a certificate stands on a row exactly when its member was judged since its entry and since any change of its shear,
-- its book takes it, and no article is broken
pub record StandsWhereEarned {R M : Type 0} (form : Form R M) (book : Meaning M) (judged : ℕ → Bool) (row : R) : Type 0 where
  pub earned : form.certified row ≡ true → (judged (form.mark row) ≡ true) × (book.takes (form.member row) ≡ true) × NoneBrokenBelow book (form.member row) (book.count + 1)
  pub stands : judged (form.mark row) ≡ true → book.takes (form.member row) ≡ true → NoneBrokenBelow book (form.member row) (book.count + 1) → form.certified row ≡ true

-- what is kept of the register of one kind
pub record KeptRegister {R M : Type 0} (form : Form R M) (lawful : M → Bool) (measure : M → Quantity → Option ℕ) (book : Meaning M) (kind : Kind) (h : History) (rows : List R) : Type 0 where
  -- certificates stand exactly where they are earned
  pub certificates : Each (StandsWhereEarned form book (λ mark. judged_since kind mark h)) (filed form rows)
  -- the sheets filed are those entered and not withdrawn, in order
  pub sheets : map form.sheet (filed form rows) ≡ standing kind h
  -- an article named is named still, both sides alike, behind any specifications that still take the member
  pub named : StaysNamed lawful measure book

-- what holds in a job after every list of calls
pub record Kept (p : Piles) (h : History) (s : State) : Type 0 where
  pub beams : KeptRegister beam_form lawful_beam_member (λ m. beam_measure m.sheet) p.beams kinds.Beam h s.beams
  pub columns : KeptRegister column_form lawful_column_member (λ m. column_measure m.sheet) p.columns kinds.Column h s.columns
  pub walls : KeptRegister wall_form lawful_wall wall_measure p.walls kinds.Wall h s.walls
  -- on each storey, carried and in hand together are the shear on the sheets entered and not withdrawn
  pub balance : (storey : ℕ) → sum_on (λ w. w.member.carried) storey s.walls + in_hand storey h ≡ sheets_shear storey (standing kinds.Wall h)
  -- tally answers these three sums
  pub tallies : (storey : ℕ) (hand : Note) → is_storey storey ≡ true → (step p (tally storey) hand s).answer ≡ Ok (Tallied (record { carried = sum_on (λ w. w.member.carried) storey s.walls; in_hand = in_hand storey h; sheets = sheets_shear storey (standing kinds.Wall h) }))
  -- each wall carries at least seven tenths of its sheet's shear
  pub seven_tenths : Each (λ w. 7 * w.member.sheet.shear ≤ 10 * w.member.carried) (filed wall_form s.walls)
  -- shear in hand by the job's note can be put back
  pub goes_back : 1 ≤ s.note.newtons → (step p put_back s.note s).answer ≡ Ok (InHand 0)

-- after every list of calls from an opening, the law holds
abbrev pub EveryRun : Piles → Type 0
EveryRun p = (number b c w : ℕ) → may_open number (opened number b c w) ≡ true → (calls : List Made) → Kept p (run p (opened number b c w) calls).history (run p (opened number b c w) calls).state

-- a call that did exactly its step, from a state that a history leads to, adds itself to that history, and the law holds
abbrev pub KeepsTheLaw : Piles → Act → Note → State → Result Answer JobFault → State → Type 0
KeepsTheLaw p act hand before answer after = (h : History) → Reached p h before → Reached p (event act hand answer ∷ h) after × Kept p (event act hand answer ∷ h) after

-- a program that goes on from an opening: some history leads to the state, and the hand agrees with the job's note
pub record InStep (p : Piles) (s : State) (hand : Note) : Type 0 where
  pub history : History
  pub reached : Reached p history s
  pub agrees : hand ≡ s.note

-- a call made with that hand leaves it so
abbrev pub StaysInStep : Piles → State → Note → State → Note → Type 0
StaysInStep p before hand after left = InStep p before hand → InStep p after left

-- and put back then leaves no shear in hand, so that a program can always end
abbrev pub PutBackEmpties : Piles → Act → State → Note → Note → Type 0
PutBackEmpties p act before hand left = act ≡ put_back → InStep p before hand → left.newtons ≡ 0
