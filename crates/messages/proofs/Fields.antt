-- One field: what stands at the front of the bytes where it is read, and what is wrong where it is refused. Assumes nothing.
use Rattle.std.proofs.Common.{◌≡◌, ℕ, zero, suc, ◌/◌, ◌%◌, ◌<◌, Bool, true, false, eqb, leb, List, [], ◌∷◌, ◌++◌, length, get_or, Ok, Err, Result, MatchResult, sym, refl, ap, ◌∙◌, subst, inl, inr, arith, lit<, take-append-drop, length-take-le, ◌≢◌}
use Rattle.std.proofs.lemmas.Bool.{cond_both, leb-true, leb-false, eqb-true, eqb-false}
use Rattle.std.proofs.lemmas.Nat.{be_bytes_4}
use Rattle.std.proofs.lemmas.Result.{MatchResult-weaker}
use Rattle.tables.specs.Limits.{within}
use Rattle.tables.specs.declared.limits.Limit.{Limit}
use Rattle.faults.specs.declared.fault.MessageFault.{MessageFault}
use Rattle.faults.specs.declared.fault.MessageFault.TheVariants.{Length}
use Rattle.faults.specs.declared.fault.SheetFault.{SheetFault}
use Rattle.faults.specs.declared.fault.SheetFault.TheVariants.{Message, Value}
use Rattle.messages.specs.Messages.{four_bytes, field, two_byte, Cut, then, raised, cut, body_due, four_byte, number_due}
use Rattle.messages.specs.Faulty.{big_endian, Whole, Wrong}
use Rattle.messages.proofs.Steps.{then_reads, raised_reads}

-- each is a byte
abbrev pub Bytes : List ℕ → Type 0
Bytes bs = (i : ℕ) → get_or bs i 0 < 256

-- the bytes of a part are bytes
front_bytes : (xs ys : List ℕ) → Bytes (xs ++ ys) → Bytes xs
front_bytes [] ys bytes i = lit< tt
front_bytes (x ∷ xs) ys bytes zero = bytes 0
front_bytes (x ∷ xs) ys bytes (suc i) = front_bytes xs ys (λ j. bytes (suc j)) i

pub back_bytes : (xs ys : List ℕ) → Bytes (xs ++ ys) → Bytes ys
back_bytes [] ys bytes = bytes
back_bytes (x ∷ xs) ys bytes = back_bytes xs ys (λ j. bytes (suc j))

-- a field of this tag, with some two bytes of length before its body
record Due (tag : ℕ) (bs body rest : List ℕ) : Type 0 where
  pub hi : ℕ
  pub lo : ℕ
  pub spelled : bs ≡ tag ∷ hi ∷ lo ∷ (body ++ rest)
  pub long : length body ≡ two_byte hi lo

-- a field of a short body is spelled in one way
due_spelled : (tag : ℕ) (bs body rest : List ℕ) → Bytes bs → length body < 256 → Due tag bs body rest → bs ≡ field tag body ++ rest
due_spelled tag bs body rest bytes short due =
    let low : due.lo < 256 = subst (λ xs. get_or xs 2 0 < 256) due.spelled (bytes 2) in
    let long = due.long in
    let high : due.hi ≡ length body / 256 = omega arith in
    let rest_of_it : due.lo ≡ length body % 256 = omega arith in
    cc

body_bytes : (tag : ℕ) (bs body rest : List ℕ) → Bytes bs → Due tag bs body rest → Bytes body
body_bytes tag bs body rest bytes due = front_bytes body rest (λ i. subst (λ xs. get_or xs (suc (suc (suc i))) 0 < 256) due.spelled (bytes (suc (suc (suc i)))))

whole : (tag : ℕ) (bs body rest : List ℕ) → Due tag bs body rest → Whole bs tag body
whole tag bs body rest due = record { hi = due.hi; lo = due.lo; after = rest; spelled = due.spelled; size = let long = due.long in omega arith }

module _ (tag size : ℕ) (admits : ℕ → Bool) (at : ℕ) where
  abbrev CutReads : List ℕ → Result Cut MessageFault → Type 0
  CutReads bs r = MatchResult r (λ f. Due f.tag bs f.body f.rest) (λ e. Wrong tag size admits at bs (Message e))

  -- a field cut off the front stands there
  cut_reads : (bs : List ℕ) → CutReads bs (cut at bs)
  cut_reads [] = (refl, inl refl)
  cut_reads (t ∷ []) = (refl, inl (omega arith, omega arith))
  cut_reads (t ∷ hi ∷ []) = (refl, inl (omega arith, omega arith))
  cut_reads (t ∷ hi ∷ lo ∷ after) =
      let n = two_byte hi lo in
      cond_both (leb n (length after)) _ _ (CutReads (t ∷ hi ∷ lo ∷ after))
      (λ fits. record { hi = hi; lo = lo; spelled = ap (λ xs. t ∷ hi ∷ lo ∷ xs) (sym (take-append-drop n after)); long = length-take-le n after (leb-true n (length after) fits) })
      (λ short. (refl, inr (record { tag = t; hi = hi; lo = lo; after = after; spelled = refl; cut = let less = leb-false n (length after) short in omega arith })))

  abbrev BodyReads : List ℕ → Result (List ℕ × List ℕ) MessageFault → Type 0
  BodyReads bs r = MatchResult r (λ due. Due tag bs due.0 due.1) (λ e. Wrong tag size admits at bs (Message e))

  -- the field that is due stands there
  body_reads : (bs : List ℕ) → BodyReads bs (body_due tag at bs)
  body_reads bs =
      let wrong = λ (e : MessageFault). Wrong tag size admits at bs (Message e) in
      then_reads (λ f. Due f.tag bs f.body f.rest) (λ due. Due tag bs due.0 due.1) wrong wrong (cut at bs) _ (cut_reads bs) (λ e is. is)
      (λ f found.
      cond_both (eqb f.tag tag) _ _ (BodyReads bs)
      (λ same. subst (λ t. Due t bs f.body f.rest) (eqb-true f.tag tag same) found)
      (λ other. (refl, inr (f.tag, f.body, whole f.tag bs f.body f.rest found, eqb-false f.tag tag other))))

-- a body of so many bytes gives the number that they stand for, which is spelled by these bytes alone; another is refused
abbrev pub Gives : ℕ → (ℕ → List ℕ) → ℕ → (List ℕ → Result ℕ MessageFault) → Type 0
Gives size spell at number = (body : List ℕ) → MatchResult (number body) (λ n. (length body ≡ size) × (n ≡ big_endian 0 body) × (Bytes body → spell n ≡ body)) (λ e. (e ≡ Length at) × (length body ≢ size))

-- the field that is due, its number, and what follows from that number
pub field_reads : {B : Type 0} (tag size : ℕ) (admits : ℕ → Bool) (at : ℕ) (spell : ℕ → List ℕ) (P : B → Type 0) (number : List ℕ → Result ℕ MessageFault) (next : ℕ → List ℕ → Result B SheetFault) (bs : List ℕ)
    → size < 256
    → Gives size spell at number
    → ((n : ℕ) (rest : List ℕ) → (Bytes bs → bs ≡ field tag (spell n) ++ rest) → (admits n ≡ false → Wrong tag size admits at bs (Value at)) → MatchResult (next n rest) P (Wrong tag size admits at bs))
    → MatchResult (then (raised (body_due tag at bs)) (λ due. then (raised (number due.0)) (λ n. next n due.1))) P (Wrong tag size admits at bs)
field_reads tag size admits at spell P number next bs small gives goes =
    let wrong = Wrong tag size admits at bs in
    let found = λ (due : List ℕ × List ℕ). Due tag bs due.0 due.1 in
    then_reads found P wrong wrong (raised (body_due tag at bs)) _ (raised_reads found wrong (body_due tag at bs) (body_reads tag size admits at bs)) (λ e is. is)
    (λ due is.
    let body = due.0 in
    let rest = due.1 in
    let here = whole tag bs body rest is in
    let given = λ (n : ℕ). (length body ≡ size) × (n ≡ big_endian 0 body) × (Bytes body → spell n ≡ body) in
    let other = λ (e : MessageFault). (e ≡ Length at) × (length body ≢ size) in
    then_reads given P wrong wrong (raised (number body)) _
    (raised_reads given wrong (number body) (MatchResult-weaker (number body) (gives body) (λ n same. same) (λ e not. subst (λ f. wrong (Message f)) (sym not.0) (refl, (body, here, not.1)))))
    (λ e not. not)
    (λ n same.
    goes n rest
    (λ bytes. due_spelled tag bs body rest bytes (let long = same.0 in omega arith) is ∙ ap (λ xs. field tag xs ++ rest) (sym (same.2 (body_bytes tag bs body rest bytes is))))
    (λ denied. (refl, (body, here, same.0, ap admits (sym same.1) ∙ denied)))))

-- One number.

four_gives : (at : ℕ) → Gives 4 four_bytes at (four_byte at)
four_gives at [] = (refl, λ long. omega arith)
four_gives at (a ∷ []) = (refl, λ long. omega arith)
four_gives at (a ∷ b ∷ []) = (refl, λ long. omega arith)
four_gives at (a ∷ b ∷ c ∷ []) = (refl, λ long. omega arith)
four_gives at (a ∷ b ∷ c ∷ d ∷ []) = (refl, omega arith, λ bytes. be_bytes_4 (a ∷ b ∷ c ∷ d ∷ []) _ refl bytes refl)
four_gives at (a ∷ b ∷ c ∷ d ∷ x ∷ more) = (refl, λ long. omega arith)

-- a number stands at the front and keeps its limit
abbrev pub NumberRead : Limit → ℕ → List ℕ → ℕ × List ℕ → Type 0
NumberRead l tag bs due = (Bytes bs → bs ≡ field tag (four_bytes due.0) ++ due.1) × (within l due.0 ≡ true)

pub number_reads : (l : Limit) (tag at : ℕ) (bs : List ℕ) → MatchResult (number_due l tag at bs) (NumberRead l tag bs) (Wrong tag 4 (within l) at bs)
number_reads l tag at bs =
    field_reads tag 4 (within l) at four_bytes (NumberRead l tag bs) (four_byte at) _ bs (lit< tt) (four_gives at)
    (λ n rest spelled denied.
    cond_both (within l n) (Ok (n, rest)) (Err (Value at)) (λ r. MatchResult r (NumberRead l tag bs) (Wrong tag 4 (within l) at bs))
    (λ law. (spelled, law))
    denied)
