-- How entering, withdrawing, judging and a change of shear keep a register sound. Assumes nothing.
use Rattle.std.proofs.Common.{◌≡◌, ℕ, suc, ◌+◌, ◌-◌, ◌<◌, Bool, true, false, not, ◌&&◌, eqb, leb, List, [], ◌∷◌, ◌++◌, map, length, set, replicate, is_some, Some, Option, sym, refl, ap, ◌∙◌, subst, ⊎_elim, arith}
use Rattle.std.specs.List.{AllByRecursion as Each}
use Rattle.std.proofs.ByRecursion.{All-weaker, All-append, All-push}
use Rattle.std.proofs.lemmas.List.{append_assoc, set_at, map-append, map_push, length-append, length-replicate}
use Rattle.std.proofs.lemmas.Bool.{cond-true, cond-false, eq-eqb, ne_eqb, leb-false, and_from, and_right, or_left, not-true, not-false, both_ways}
use Rattle.tables.specs.Codes.{kind_number}
use Rattle.tables.specs.declared.codes.Kind.{Kind}
use Rattle.faults.specs.declared.fault.JobFault.TheVariants.{Unknown, Unlawful, NotTaken}
use Rattle.sheets.specs.Sheets.{kind_on, mark_on}
use Rattle.books.specs.Meanings.{Meaning}
use Rattle.books.specs.Verdicts.{lowest, NoneBrokenBelow}
use Rattle.books.specs.declared.answers.Sides.{Sides}
use Rattle.books.specs.declared.answers.Verdict.{Verdict}
use Rattle.books.specs.declared.answers.Verdict.TheVariants.{Certificate, Breaks}
use Rattle.books.proofs.Lowest.{lowest_clear, clear_lowest}
use Rattle.registers.specs.Forms.{Form}
use Rattle.registers.specs.Registers.{ending, find, row_at, with_row, closed_up}
use Rattle.faults.specs.Grounds.{Ground, ◌when◌}
use Rattle.registers.specs.Filings.{Filing, unfiled, ruled, judged}
use Rattle.law.specs.Histories.{Event, History, same_kind, judges, withdraws, entered_by, changed_by, accepted, is_entered, is_changed, judged_since, joined, dropped, standing}
use Rattle.law.specs.Laws.{StandsWhereEarned}
use Rattle.law.proofs.Marks.{Absent, Distinct, all_front, all_back, distinct_out, distinct_push}
use Rattle.law.proofs.Filed.{ending_spare, moved_up_spare, closed_at, At}
use Rattle.law.proofs.Decisions.{decide_cases}
use Rattle.law.proofs.Sound.{FormLaws, Sound, Stand, there, nowhere, marked, stand, spelled_at, marks_at, later_absent, dropped_none, judged_still, judged_now, judged_no_more, stands_same, stands_not}

-- what holds of each row holds, changed, of each that has another mark
pub all_others : {R : Type 0} (mark : R → ℕ) (m : ℕ) (P Q : R → Type 0) → ((r : R) → (mark r ≡ m → ⊥) → P r → Q r) → (rows : List R) → Absent m (map mark rows) → Each P rows → Each Q rows
all_others mark m P Q change [] absent h = tt
all_others mark m P Q change (r ∷ rows) absent h = (change r absent.0 h.0, all_others mark m P Q change rows absent.1 h.1)

-- the first sheet that is withdrawn
pub dropped_at : {R M : Type 0} (form : Form R M) (test : ℕ → Bool) → ((r : R) → mark_on (form.sheet r) ≡ form.mark r) → (before : List R) (r : R) (after : List R) → Each (λ b. test (form.mark b) ≡ false) before → test (form.mark r) ≡ true → dropped test (map form.sheet (before ++ r ∷ after)) ≡ map form.sheet (before ++ after)
dropped_at form test marks [] r after none this = cond-true (test (mark_on (form.sheet r))) (map form.sheet after) (form.sheet r ∷ dropped test (map form.sheet after)) (ap test (marks r) ∙ this)
dropped_at form test marks (b ∷ before) r after none this =
    cond-false (test (mark_on (form.sheet b))) (map form.sheet (before ++ r ∷ after)) (form.sheet b ∷ dropped test (map form.sheet (before ++ r ∷ after))) (ap test (marks b) ∙ none.0)
    ∙ ap (λ rest. form.sheet b ∷ rest) (dropped_at form test marks before r after none.1 this)

-- rows without the mark are not withdrawn
pub none_withdrawn : {R : Type 0} (kind : Kind) (e : Event) (m : ℕ) (mark : R → ℕ) → ((j : ℕ) → (accepted e.answer && withdraws kind j e.act) ≡ eqb m j) → (before : List R) → Absent m (map mark before) → Each (λ b. (accepted e.answer && withdraws kind (mark b) e.act) ≡ false) before
none_withdrawn kind e m mark withdrawing [] absent = tt
none_withdrawn kind e m mark withdrawing (b ∷ before) absent = (withdrawing (mark b) ∙ ne_eqb m (mark b) (λ same. absent.0 (sym same)), none_withdrawn kind e m mark withdrawing before absent.1)

pub same_kind_itself : (kind : Kind) (other : Kind) → other ≡ kind → same_kind other kind ≡ true
same_kind_itself kind other same = eq-eqb (kind_number other) (kind_number kind) (ap kind_number same)

-- a search that ends with a verdict
ruled_cases : {R M : Type 0} (form : Form R M) (at : Option ℕ) (rows : List R) (P : Filing R Verdict → Type 0) (v : Verdict) → (v ≡ Certificate → P (ruled form at rows Certificate)) → ((n : ℕ) (s : Sides) → v ≡ Breaks n s → P (ruled form at rows (Breaks n s))) → P (ruled form at rows v)
ruled_cases form at rows P Certificate certified broken = certified refl
ruled_cases form at rows P (Breaks n s) certified broken = broken n s refl

-- a certificate is found exactly where nothing is broken
certificate_clear : {M : Type 0} (book : Meaning M) (m : M) → lowest (book.finding m) 1 book.count ≡ Certificate → NoneBrokenBelow book m (book.count + 1)
certificate_clear book m e k s below at = lowest_clear (book.finding m) 1 book.count e k s at.0 (omega arith) at.2

clear_certificate : {M : Type 0} (book : Meaning M) (m : M) → NoneBrokenBelow book m (book.count + 1) → lowest (book.finding m) 1 book.count ≡ Certificate
clear_certificate book m none = clear_lowest (book.finding m) 1 book.count (λ j s low high is. none j s (omega arith) (low, omega arith, is))

module _ {R M : Type 0} {form : Form R M} {lawful : M → Bool} {book : Meaning M} {kind : Kind} {h : History} {rows : List R} where
  -- a row is filed after the others
  abbrev pub sound_entered : {e : Event} → FormLaws form lawful kind → (s : Sound form lawful book kind h rows) (row : R) (k : ℕ) → s.spare ≡ suc k → lawful (form.member row) ≡ true → form.certified row ≡ false → Absent (form.mark row) (map form.mark s.members) → entered_by e ≡ Some (form.sheet row) → ((m : ℕ) → judges kind m e.act ≡ false) → ((m : ℕ) → (accepted e.answer && withdraws kind m e.act) ≡ false) → ((m : ℕ) → is_changed kind m (changed_by e) ≡ false) → Sound form lawful book kind (e ∷ h) (set rows (ending form rows) row)
  sound_entered {e} laws s row k room lawful-row uncertified absent enters judging withdrawing changing =
      let m : ℕ = form.mark row in
      let kinds : same_kind (kind_on (form.sheet row)) kind ≡ true = same_kind_itself kind (kind_on (form.sheet row)) (laws.sheet_kind row) in
      let here : ending form rows ≡ length s.members = ap (ending form) s.spelled ∙ (ending_spare form laws.zeros 0 s.members s.spare (marked laws s.members s.lawfuls) ∙ omega arith) in
      let other : (j : ℕ) → (j ≡ m → ⊥) → judged_since kind j (e ∷ h) ≡ judged_since kind j h = λ j ne. judged_still kind j e h (judging j) (ap (is_entered kind j) enters ∙ and_right (same_kind (kind_on (form.sheet row)) kind) (eqb (mark_on (form.sheet row)) j) (ne_eqb (mark_on (form.sheet row)) j (λ same. ne (sym same ∙ laws.sheet_mark row)))) (changing j) in
      let this : judged_since kind m (e ∷ h) ≡ false = judged_no_more kind m e h (judging m) (or_left (is_entered kind m (entered_by e)) (is_changed kind m (changed_by e)) (ap (is_entered kind m) enters ∙ and_from (same_kind (kind_on (form.sheet row)) kind) (eqb (mark_on (form.sheet row)) m) kinds (eq-eqb (mark_on (form.sheet row)) m (laws.sheet_mark row)))) in
      record {
        members = s.members ++ row ∷ [];
        spare = k;
        spelled =
            ap (λ rs. set rs (ending form rows) row) (s.spelled ∙ ap (λ n. s.members ++ replicate n form.blank) room)
            ∙ (set_at s.members form.blank (replicate k form.blank) row (ending form rows) (sym here)
            ∙ sym (append_assoc s.members (row ∷ []) (replicate k form.blank)));
        lawfuls = All-push (λ r. lawful (form.member r) ≡ true) s.members row s.lawfuls lawful-row;
        distinct = subst Distinct (sym (map_push form.mark s.members row)) (distinct_push (map form.mark s.members) m s.distinct absent);
        certificates = All-push (StandsWhereEarned form book (λ mark. judged_since kind mark (e ∷ h))) s.members row
            (all_others form.mark m (StandsWhereEarned form book (λ mark. judged_since kind mark h)) (StandsWhereEarned form book (λ mark. judged_since kind mark (e ∷ h))) (λ r ne p. stands_same (other (form.mark r) ne) p) s.members absent s.certificates)
            (stands_not uncertified this);
        sheets =
            map_push form.sheet s.members row
            ∙ (ap (λ xs. xs ++ form.sheet row ∷ []) s.sheets
            ∙ sym (dropped_none (λ j. accepted e.answer && withdraws kind j e.act) withdrawing (joined kind (entered_by e) (standing kind h))
            ∙ (ap (λ o. joined kind o (standing kind h)) enters ∙ cond-true (same_kind (kind_on (form.sheet row)) kind) (standing kind h ++ form.sheet row ∷ []) (standing kind h) kinds)));
      }

  -- a register that does not end with its length has a row of zeros
  pub room : FormLaws form lawful kind → (s : Sound form lawful book kind h rows) → leb (length rows) (ending form rows) ≡ false → s.spare ≡ suc (s.spare - 1)
  room laws s short =
      let below : ending form rows < length rows = leb-false (length rows) (ending form rows) short in
      let here : ending form rows ≡ length s.members = ap (ending form) s.spelled ∙ (ending_spare form laws.zeros 0 s.members s.spare (marked laws s.members s.lawfuls) ∙ omega arith) in
      let long : length rows ≡ length s.members + s.spare = ap length s.spelled ∙ (length-append s.members (replicate s.spare form.blank) ∙ ap (λ n. length s.members + n) (length-replicate s.spare form.blank)) in
      omega arith

  -- a mark that is not found is on no row
  pub absent_from : {m : ℕ} {s : Sound form lawful book kind h rows} → Stand m s → is_some (find form m rows) ≡ false → Absent m (map form.mark s.members)
  absent_from (nowhere absent none) not_found = absent
  absent_from (there at place row_is later) not_found = absurd (both_ways true (sym (ap is_some place) ∙ not_found) refl)

  -- one that is found is on the row at its place
  pub record Met (m : ℕ) (s : Sound form lawful book kind h rows) : Type 0 where
    pub at : At form m s.members
    pub place : find form m rows ≡ Some (length at.before)
    pub row_is : row_at form (find form m rows) rows ≡ at.row

  pub met : {m : ℕ} {s : Sound form lawful book kind h rows} → Stand m s → not (is_some (find form m rows)) ≡ false → Met m s
  met (nowhere absent none) is_found = absurd (both_ways (not (is_some (find form _ rows))) is_found (ap (λ o. not (is_some o)) none))
  met (there at place row_is later) is_found = record { at = at; place = place; row_is = row_is }

  -- a row is filed where one is free and its mark is not filed
  abbrev pub sound_filed : {e : Event} → FormLaws form lawful kind → (s : Sound form lawful book kind h rows) (row : R) → lawful (form.member row) ≡ true → form.certified row ≡ false → entered_by e ≡ Some (form.sheet row) → ((m : ℕ) → judges kind m e.act ≡ false) → ((m : ℕ) → (accepted e.answer && withdraws kind m e.act) ≡ false) → ((m : ℕ) → is_changed kind m (changed_by e) ≡ false) → leb (length rows) (ending form rows) ≡ false → is_some (find form (form.mark row) rows) ≡ false → Sound form lawful book kind (e ∷ h) (set rows (ending form rows) row)
  sound_filed laws s row lawful-row uncertified enters judging withdrawing changing short not_found =
      sound_entered laws s row (s.spare - 1) (room laws s short) lawful-row uncertified (absent_from (stand laws (form.mark row) s) not_found) enters judging withdrawing changing

  -- a row is replaced by one with the same sheet
  abbrev pub sound_replaced : {e : Event} {m : ℕ} → (s : Sound form lawful book kind h rows) (at : At form m s.members) (v : R) → form.mark v ≡ m → lawful (form.member v) ≡ true → form.sheet v ≡ form.sheet at.row → ((j : ℕ) → (j ≡ m → ⊥) → judged_since kind j (e ∷ h) ≡ judged_since kind j h) → StandsWhereEarned form book (λ mark. judged_since kind mark (e ∷ h)) v → standing kind (e ∷ h) ≡ standing kind h → (after : List R) → after ≡ (at.before ++ v ∷ at.after) ++ replicate s.spare form.blank → Sound form lawful book kind (e ∷ h) after
  sound_replaced {e} {m} s at v mark-is lawful-v sheet-is other this standing-is after is =
      let P : R → Type 0 = StandsWhereEarned form book (λ mark. judged_since kind mark h) in
      let Q : R → Type 0 = StandsWhereEarned form book (λ mark. judged_since kind mark (e ∷ h)) in
      let L : R → Type 0 = λ r. lawful (form.member r) ≡ true in
      let laws_at : Each L (at.before ++ at.row ∷ at.after) = subst (Each L) at.spelled s.lawfuls in
      let certs_at : Each P (at.before ++ at.row ∷ at.after) = subst (Each P) at.spelled s.certificates in
      let change : (r : R) → (form.mark r ≡ m → ⊥) → P r → Q r = λ r ne p. stands_same (other (form.mark r) ne) p in
      record {
        members = at.before ++ v ∷ at.after;
        spare = s.spare;
        spelled = is;
        lawfuls = All-append L at.before (v ∷ at.after) (all_front L at.before (at.row ∷ at.after) laws_at) (lawful-v, (all_back L at.before (at.row ∷ at.after) laws_at).1);
        distinct = subst Distinct (marks_at s at ∙ (ap (λ k. map form.mark at.before ++ k ∷ map form.mark at.after) (at.is ∙ sym mark-is) ∙ sym (map-append form.mark at.before (v ∷ at.after)))) s.distinct;
        certificates = All-append Q at.before (v ∷ at.after)
            (all_others form.mark m P Q change at.before at.first (all_front P at.before (at.row ∷ at.after) certs_at))
            (this, all_others form.mark m P Q change at.after (later_absent s at) (all_back P at.before (at.row ∷ at.after) certs_at).1);
        sheets =
            map-append form.sheet at.before (v ∷ at.after)
            ∙ (ap (λ x. map form.sheet at.before ++ x ∷ map form.sheet at.after) sheet-is
            ∙ (sym (map-append form.sheet at.before (at.row ∷ at.after))
            ∙ (ap (map form.sheet) (sym at.spelled) ∙ (s.sheets ∙ sym standing-is))));
      }

  -- what a register has after a row is set
  pub set_spelled : {m : ℕ} (s : Sound form lawful book kind h rows) (at : At form m s.members) (v : R) → set rows (length at.before) v ≡ (at.before ++ v ∷ at.after) ++ replicate s.spare form.blank
  set_spelled s at v =
      ap (λ rs. set rs (length at.before) v) (spelled_at s at)
      ∙ (set_at at.before at.row (at.after ++ replicate s.spare form.blank) v (length at.before) refl
      ∙ sym (append_assoc at.before (v ∷ at.after) (replicate s.spare form.blank)))

  -- what it has as it was
  pub same_spelled : {m : ℕ} (s : Sound form lawful book kind h rows) (at : At form m s.members) → rows ≡ (at.before ++ at.row ∷ at.after) ++ replicate s.spare form.blank
  same_spelled s at = s.spelled ∙ ap (λ rs. rs ++ replicate s.spare form.blank) at.spelled

  -- the facts of the row at a mark
  pub row_lawful : {m : ℕ} (s : Sound form lawful book kind h rows) (at : At form m s.members) → lawful (form.member at.row) ≡ true
  row_lawful s at = (all_back (λ r. lawful (form.member r) ≡ true) at.before (at.row ∷ at.after) (subst (Each (λ r. lawful (form.member r) ≡ true)) at.spelled s.lawfuls)).0

  pub row_stands : {m : ℕ} (s : Sound form lawful book kind h rows) (at : At form m s.members) → StandsWhereEarned form book (λ mark. judged_since kind mark h) at.row
  row_stands s at = (all_back (StandsWhereEarned form book (λ mark. judged_since kind mark h)) at.before (at.row ∷ at.after) (subst (Each (StandsWhereEarned form book (λ mark. judged_since kind mark h))) at.spelled s.certificates)).0

  -- a row is taken out
  abbrev pub sound_withdrawn : {e : Event} {m : ℕ} → FormLaws form lawful kind → (s : Sound form lawful book kind h rows) (at : At form m s.members) → ((j : ℕ) → judged_since kind j (e ∷ h) ≡ judged_since kind j h) → joined kind (entered_by e) (standing kind h) ≡ standing kind h → ((j : ℕ) → (accepted e.answer && withdraws kind j e.act) ≡ eqb m j) → Sound form lawful book kind (e ∷ h) (closed_up form (length at.before) rows)
  sound_withdrawn {e} {m} laws s at same joining withdrawing =
      let P : R → Type 0 = StandsWhereEarned form book (λ mark. judged_since kind mark h) in
      let Q : R → Type 0 = StandsWhereEarned form book (λ mark. judged_since kind mark (e ∷ h)) in
      let L : R → Type 0 = λ r. lawful (form.member r) ≡ true in
      let laws_at : Each L (at.before ++ at.row ∷ at.after) = subst (Each L) at.spelled s.lawfuls in
      let laws_after : Each L at.after = (all_back L at.before (at.row ∷ at.after) laws_at).1 in
      let certs_at : Each P (at.before ++ at.row ∷ at.after) = subst (Each P) at.spelled s.certificates in
      let change : (r : R) → P r → Q r = λ r p. stands_same (same (form.mark r)) p in
      let test : ℕ → Bool = λ j. accepted e.answer && withdraws kind j e.act in
      record {
        members = at.before ++ at.after;
        spare = suc s.spare;
        spelled =
            ap (closed_up form (length at.before)) (spelled_at s at)
            ∙ (closed_at form at.before at.row (at.after ++ replicate s.spare form.blank)
            ∙ (ap (λ rs. at.before ++ rs) (moved_up_spare form laws.zeros at.after s.spare (marked laws at.after laws_after))
            ∙ sym (append_assoc at.before at.after (replicate (suc s.spare) form.blank))));
        lawfuls = All-append L at.before at.after (all_front L at.before (at.row ∷ at.after) laws_at) laws_after;
        distinct = subst Distinct (sym (map-append form.mark at.before at.after)) (distinct_out (map form.mark at.before) (form.mark at.row) (map form.mark at.after) (subst Distinct (marks_at s at) s.distinct));
        certificates = All-weaker P Q change (at.before ++ at.after) (All-append P at.before at.after (all_front P at.before (at.row ∷ at.after) certs_at) (all_back P at.before (at.row ∷ at.after) certs_at).1);
        sheets = sym (
            ap (dropped test) (joining ∙ (sym s.sheets ∙ ap (map form.sheet) at.spelled))
            ∙ dropped_at form test laws.sheet_mark at.before at.row at.after
            (none_withdrawn kind e m form.mark withdrawing at.before at.first)
            (withdrawing (form.mark at.row) ∙ eq-eqb m (form.mark at.row) (sym at.is)));
      }

  -- a mark that no row has may be judged
  abbrev pub sound_elsewhere : {e : Event} → (s : Sound form lawful book kind h rows) (m : ℕ) → Absent m (map form.mark s.members) → ((j : ℕ) → (j ≡ m → ⊥) → judged_since kind j (e ∷ h) ≡ judged_since kind j h) → standing kind (e ∷ h) ≡ standing kind h → Sound form lawful book kind (e ∷ h) rows
  sound_elsewhere {e} s m absent other standing-is = record {
    members = s.members;
    spare = s.spare;
    spelled = s.spelled;
    lawfuls = s.lawfuls;
    distinct = s.distinct;
    certificates = all_others form.mark m (StandsWhereEarned form book (λ mark. judged_since kind mark h)) (StandsWhereEarned form book (λ mark. judged_since kind mark (e ∷ h))) (λ r ne p. stands_same (other (form.mark r) ne) p) s.members absent s.certificates;
    sheets = s.sheets ∙ sym standing-is;
  }

  -- a register is sound after an event, and its members are the same
  abbrev pub Soundly : Event → Sound form lawful book kind h rows → List R → Type 0
  Soundly e s after = (t : Sound form lawful book kind (e ∷ h) after) × (map form.member t.members ≡ map form.member s.members)

  -- a member that is judged
  pub sound_judged : {e : Event} → FormLaws form lawful kind → (s : Sound form lawful book kind h rows) (m : ℕ) → judges kind m e.act ≡ true → ((j : ℕ) → (j ≡ m → ⊥) → judges kind j e.act ≡ false) → ((j : ℕ) → is_entered kind j (entered_by e) ≡ false) → ((j : ℕ) → is_changed kind j (changed_by e) ≡ false) → standing kind (e ∷ h) ≡ standing kind h → Soundly e s (judged form lawful book m rows).rows
  sound_judged {e} laws s m judging not-others entering changing standing-is = by (stand laws m s)
    where
      other : (j : ℕ) → (j ≡ m → ⊥) → judged_since kind j (e ∷ h) ≡ judged_since kind j h
      other j ne = judged_still kind j e h (not-others j ne) (entering j) (changing j)

      this : judged_since kind m (e ∷ h) ≡ true
      this = judged_now kind m e h judging

      asked : M
      asked = form.member (row_at form (find form m rows) rows)

      grounds : List Ground
      grounds = (Unknown when not (is_some (find form m rows))) ∷ (Unlawful when not (lawful (form.member (row_at form (find form m rows) rows)))) ∷ (NotTaken when not (book.takes (form.member (row_at form (find form m rows) rows)))) ∷ []

      P : Filing R Verdict → Type 0
      P filing = Soundly e s filing.rows

      -- the row as it was, where the book does not take it or does not certify it
      unchanged : (at : At form m s.members) → (book.takes (form.member at.row) ≡ true → NoneBrokenBelow book (form.member at.row) (book.count + 1) → ⊥) → Soundly e s rows
      unchanged at never = (
        sound_replaced s at at.row at.is (row_lawful s at) refl other
            (record {
              earned = λ c. (ap (λ k. judged_since kind k (e ∷ h)) at.is ∙ this, ((row_stands s at).earned c).1, ((row_stands s at).earned c).2);
              stands = λ judged-it takes none. absurd (never takes none);
            })
            standing-is rows (same_spelled s at),
        ap (map form.member) (sym at.spelled),
      )

      same_members : (at : At form m s.members) → map form.member (at.before ++ form.certify at.row ∷ at.after) ≡ map form.member s.members
      same_members at =
          map-append form.member at.before (form.certify at.row ∷ at.after)
          ∙ (ap (λ x. map form.member at.before ++ x ∷ map form.member at.after) (laws.certify_member at.row)
          ∙ (sym (map-append form.member at.before (at.row ∷ at.after)) ∙ ap (map form.member) (sym at.spelled)))

      certified : (at : At form m s.members) → book.takes (form.member at.row) ≡ true → NoneBrokenBelow book (form.member at.row) (book.count + 1) → Soundly e s (set rows (length at.before) (form.certify at.row))
      certified at takes none =
          let v : R = form.certify at.row in (
            sound_replaced s at v (laws.certify_mark at.row ∙ at.is) (ap lawful (laws.certify_member at.row) ∙ row_lawful s at) (laws.certify_sheet at.row) other
                (record {
                  earned = λ c. (ap (λ k. judged_since kind k (e ∷ h)) (laws.certify_mark at.row ∙ at.is) ∙ this, ap book.takes (laws.certify_member at.row) ∙ takes, subst (λ x. NoneBrokenBelow book x (book.count + 1)) (sym (laws.certify_member at.row)) none);
                  stands = λ judged-it takes-it none-broken. laws.certify_certified at.row;
                })
                standing-is (set rows (length at.before) v) (set_spelled s at v),
            same_members at,
          )

      by : Stand m s → Soundly e s (judged form lawful book m rows).rows
      by (nowhere absent none) =
          decide_cases P grounds (unfiled rows) (ruled form (find form m rows) rows (lowest (book.finding asked) 1 book.count))
          (λ fault some. (sound_elsewhere s m absent other standing-is, refl))
          (λ nothing. absurd (both_ways (not (is_some (find form m rows))) nothing.0 (ap (λ o. not (is_some o)) none)))
      by (there at place row_is later) =
          decide_cases P grounds (unfiled rows) (ruled form (find form m rows) rows (lowest (book.finding asked) 1 book.count))
          (λ fault some.
          let untaken : book.takes (form.member at.row) ≡ false =
          ⊎_elim
          (λ unknown. absurd (both_ways (not (is_some (find form m rows))) (ap (λ o. not (is_some o)) place) unknown))
          (λ more. ⊎_elim
          (λ unlawful. absurd (both_ways (lawful (form.member (row_at form (find form m rows) rows))) (not-true (lawful (form.member (row_at form (find form m rows) rows))) unlawful) (ap (λ r. lawful (form.member r)) row_is ∙ row_lawful s at)))
          (λ last. ⊎_elim
          (λ not_taken. ap (λ r. book.takes (form.member r)) (sym row_is) ∙ not-true (book.takes (form.member (row_at form (find form m rows) rows))) not_taken)
          (λ never. absurd never)
          last)
          more)
          some
          in
          unchanged at (λ takes none. both_ways (book.takes (form.member at.row)) untaken takes))
          (λ nothing.
          let takes : book.takes (form.member at.row) ≡ true = ap (λ r. book.takes (form.member r)) (sym row_is) ∙ not-false (book.takes (form.member (row_at form (find form m rows) rows))) nothing.1.1.0 in
          let asked_is : asked ≡ form.member at.row = ap form.member row_is in
          ruled_cases form (find form m rows) rows P (lowest (book.finding asked) 1 book.count)
          (λ certificate.
          subst (Soundly e s)
          (sym (ap (λ o. with_row o (form.certify (row_at form (find form m rows) rows)) rows) place ∙ ap (λ r. set rows (length at.before) (form.certify r)) row_is))
          (certified at takes (subst (λ x. NoneBrokenBelow book x (book.count + 1)) asked_is (certificate_clear book asked certificate))))
          (λ n sides broken.
          unchanged at (λ takes-it none.
          let clear : lowest (book.finding asked) 1 book.count ≡ Certificate = clear_certificate book asked (subst (λ x. NoneBrokenBelow book x (book.count + 1)) (sym asked_is) none) in
          cc)))
