-- The numbers of a sheet: where they are read they stand there and keep their limits, and where they are refused one of
-- them is wrong or something is left over. Assumes nothing.
use Rattle.std.proofs.Common.{◌≡◌, ℕ, suc, ◌+◌, ◌*◌, true, ◌⊎◌, List, [], ◌∷◌, ◌++◌, length, MatchResult, sym, refl, ap, ◌∙◌, subst, inl, inr, append-nil, arith}
use Rattle.std.proofs.lemmas.Bool.{and_parts, and_from, false≢true}
use Rattle.tables.specs.Codes.{kind_number}
use Rattle.tables.specs.Limits.{within, admitted}
use Rattle.tables.specs.declared.codes.Kind.{Kind}
use Rattle.tables.specs.declared.limits.Limit.{Limit}
use Rattle.faults.specs.declared.fault.MessageFault.TheVariants.{NotDue}
use Rattle.faults.specs.declared.fault.SheetFault.{SheetFault}
use Rattle.faults.specs.declared.fault.SheetFault.TheVariants.{Message}
use Rattle.messages.specs.Messages.{four_bytes, field, number_fields, message_of, raised, number_due, numbers_due, ended, all_due}
use Rattle.messages.specs.Faulty.{Wrong, limits_of, WrongNumber, LeftOver}
use Rattle.messages.proofs.Steps.{then_reads, before_reads}
use Rattle.messages.proofs.Fields.{Bytes, back_bytes, NumberRead, number_reads}
use Rattle.messages.proofs.Written.{length_message}

-- as many numbers as limits
pub admitted_length : (ls : List Limit) (ns : List ℕ) → admitted ls ns ≡ true → length ns ≡ length ls
unfolding admitted
admitted_length [] [] e = refl
admitted_length [] (n ∷ ns) e = absurd (false≢true e)
admitted_length (l ∷ ls) [] e = absurd (false≢true e)
admitted_length (l ∷ ls) (n ∷ ns) e = ap suc (admitted_length ls ns (and_parts (within l n) (admitted ls ns) e).1)

-- the first number that is wrong, where those from number i on are due
record FirstWrong (i : ℕ) (ls : List Limit) (bs : List ℕ) (e : SheetFault) : Type 0 where
  pub read : List ℕ
  pub passed : List Limit
  pub limit : Limit
  pub later : List Limit
  pub rest : List ℕ
  pub k : ℕ
  pub place : k ≡ i + length read
  pub limits : ls ≡ passed ++ limit ∷ later
  pub lawful : admitted passed read ≡ true
  pub spelled : bs ≡ number_fields i read ++ rest
  pub wrong : Wrong (16 + k) 4 (within limit) (4 + 7 * k) rest e

first_now : (i : ℕ) (l : Limit) (ls : List Limit) (bs : List ℕ) (e : SheetFault) → Wrong (16 + i) 4 (within l) (4 + 7 * i) bs e → FirstWrong i (l ∷ ls) bs e
unfolding admitted
first_now i l ls bs e wrong = record { read = []; passed = []; limit = l; later = ls; rest = bs; k = i; place = omega arith; limits = refl; lawful = refl; spelled = refl; wrong = wrong }

first_later : (i : ℕ) (l : Limit) (ls : List Limit) (bs after : List ℕ) (n : ℕ) (e : SheetFault) → bs ≡ field (16 + i) (four_bytes n) ++ after → within l n ≡ true → FirstWrong (i + 1) ls after e → FirstWrong i (l ∷ ls) bs e
unfolding admitted
first_later i l ls bs after n e spelled law more = record {
  read = n ∷ more.read;
  passed = l ∷ more.passed;
  limit = more.limit;
  later = more.later;
  rest = more.rest;
  k = more.k;
  place = let at = more.place in omega arith;
  limits = ap (λ xs. l ∷ xs) more.limits;
  lawful = and_from (within l n) (admitted more.passed more.read) law more.lawful;
  spelled = spelled ∙ ap (λ xs. field (16 + i) (four_bytes n) ++ xs) more.spelled;
  wrong = more.wrong;
}

-- the fields of these numbers stand at the front, and each number keeps its limit
abbrev NumbersRead : ℕ → List Limit → List ℕ → List ℕ × List ℕ → Type 0
NumbersRead i ls bs due = (Bytes bs → bs ≡ number_fields i due.0 ++ due.1) × (admitted ls due.0 ≡ true)

numbers_reads : (i : ℕ) (ls : List Limit) (bs : List ℕ) → MatchResult (numbers_due i ls bs) (NumbersRead i ls bs) (λ e. Bytes bs → FirstWrong i ls bs e)
unfolding admitted
numbers_reads i [] bs = (λ bytes. refl, refl)
numbers_reads i (l ∷ ls) bs =
    let here = Wrong (16 + i) 4 (within l) (4 + 7 * i) bs in
    let fault = λ (e : SheetFault). Bytes bs → FirstWrong i (l ∷ ls) bs e in
    then_reads (NumberRead l (16 + i) bs) (NumbersRead i (l ∷ ls) bs) here fault (number_due l (16 + i) (4 + 7 * i) bs) _ (number_reads l (16 + i) (4 + 7 * i) bs) (λ e wrong bytes. first_now i l ls bs e wrong)
    (λ due one.
    let n = due.0 in
    let after = due.1 in
    let later : Bytes bs → Bytes after = λ bytes. back_bytes (field (16 + i) (four_bytes n)) after (subst Bytes (one.0 bytes) bytes) in
    before_reads (NumbersRead (i + 1) ls after) (NumbersRead i (l ∷ ls) bs) (λ e. Bytes after → FirstWrong (i + 1) ls after e) fault n (numbers_due (i + 1) ls after) (numbers_reads (i + 1) ls after)
    (λ e more bytes. first_later i l ls bs after n e (one.0 bytes) one.1 (more (later bytes)))
    (λ ns rest more. (λ bytes. one.0 bytes ∙ ap (λ xs. field (16 + i) (four_bytes n) ++ xs) (more.0 (later bytes)), and_from (within l n) (admitted ls ns) one.1 more.1)))

-- bytes left over are refused at the first of them
abbrev Left : ℕ → List ℕ → SheetFault → Type 0
Left at bs e = (b : ℕ) × (more : List ℕ) × (bs ≡ b ∷ more) × (e ≡ Message (NotDue at))

ended_reads : (at : ℕ) (bs : List ℕ) → MatchResult (raised (ended at bs)) (λ _. bs ≡ []) (Left at bs)
ended_reads at [] = refl
ended_reads at (b ∷ more) = (b, more, refl, refl)

module _ (kind : Kind) (bs : List ℕ) where
  abbrev headed : List ℕ → List ℕ
  headed rest = field 1 (kind_number kind ∷ []) ++ rest

  -- the fields of these numbers are all that stands there, and each number keeps its limit
  abbrev pub AllRead : List ℕ → Type 0
  AllRead ns = (Bytes bs → bs ≡ number_fields 0 ns) × (admitted (limits_of kind) ns ≡ true)

  -- after the kind's field a number is wrong or something is left over
  abbrev pub LateFault : SheetFault → Type 0
  LateFault e = Bytes bs → WrongNumber (headed bs) e ⊎ LeftOver (headed bs) e

  number_wrong : (e : SheetFault) → FirstWrong 0 (limits_of kind) bs e → WrongNumber (headed bs) e
  number_wrong e first =
      let count : first.k ≡ length first.read = let at = first.place in omega arith in
      let place : 4 + 7 * first.k ≡ length (message_of kind first.read) = ap (λ n. 4 + 7 * n) count ∙ sym (length_message kind first.read) in
      record {
        kind = kind;
        read = first.read;
        passed = first.passed;
        limit = first.limit;
        later = first.later;
        rest = first.rest;
        limits = first.limits;
        lawful = first.lawful;
        spelled = ap headed first.spelled;
        wrong = subst (λ at. Wrong (16 + length first.read) 4 (within first.limit) at first.rest e) place (subst (λ n. Wrong (16 + n) 4 (within first.limit) (4 + 7 * first.k) first.rest e) count first.wrong);
      }

  left_over : (ns rest : List ℕ) (e : SheetFault) → bs ≡ number_fields 0 ns ++ rest → admitted (limits_of kind) ns ≡ true → Left (4 + 7 * length (limits_of kind)) rest e → LeftOver (headed bs) e
  left_over ns rest e spelled lawful left =
      let size : 4 + 7 * length (limits_of kind) ≡ length (message_of kind ns) = ap (λ n. 4 + 7 * n) (sym (admitted_length (limits_of kind) ns lawful)) ∙ sym (length_message kind ns) in
      record {
        kind = kind;
        read = ns;
        first = left.0;
        more = left.1;
        lawful = lawful;
        spelled = ap headed (spelled ∙ ap (λ xs. number_fields 0 ns ++ xs) left.2);
        place = left.3 ∙ ap (λ at. Message (NotDue at)) size;
      }

  pub all_reads : MatchResult (all_due (limits_of kind) bs) AllRead LateFault
  all_reads =
      let ls = limits_of kind in
      then_reads (NumbersRead 0 ls bs) AllRead (λ e. Bytes bs → FirstWrong 0 ls bs e) LateFault (numbers_due 0 ls bs) _ (numbers_reads 0 ls bs) (λ e first bytes. inl (number_wrong e (first bytes)))
      (λ due all.
      let ns = due.0 in
      let rest = due.1 in
      then_reads (λ _. rest ≡ []) AllRead (Left (4 + 7 * length ls) rest) LateFault (raised (ended (4 + 7 * length ls) rest)) _ (ended_reads _ rest)
      (λ e left bytes. inr (left_over ns rest e (all.0 bytes) all.1 left))
      (λ _ none. (λ bytes. all.0 bytes ∙ ap (λ xs. number_fields 0 ns ++ xs) none ∙ append-nil (number_fields 0 ns), all.1)))
