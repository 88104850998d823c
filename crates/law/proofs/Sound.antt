-- What the register of one kind has in every reached job, and how a call keeps it. Assumes nothing.
use Rattle.std.proofs.Common.{◌≡◌, ℕ, Bool, true, false, cond, ◌&&◌, ◌||◌, eqb, leb, List, [], ◌∷◌, ◌++◌, map, length, get_or, replicate, Some, None, Option, sym, refl, ap, ◌∙◌, subst, arith}
use Rattle.std.specs.List.{AllByRecursion as Each}
use Rattle.std.proofs.ByRecursion.{All-weaker}
use Rattle.std.proofs.lemmas.List.{append_assoc, get_or_at, map-append}
use Rattle.std.proofs.lemmas.Bool.{cond-true, cond-false, ne_eqb, leb-true, and_parts, or_from}
use Rattle.tables.specs.declared.codes.Kind.{Kind}
use Rattle.tables.specs.declared.codes.Quantity.{Quantity}
use Rattle.sheets.specs.Sheets.{kind_on, mark_on}
use Rattle.sheets.specs.declared.sheet.Sheet.{Sheet}
use Rattle.books.specs.Meanings.{Meaning}
use Rattle.specifications.specs.Fronted.{StaysNamed}
use Rattle.registers.specs.Forms.{Form}
use Rattle.registers.specs.Registers.{free, filed, find, row_at}
use Rattle.law.specs.States.{is_mark}
use Rattle.law.specs.Histories.{Event, History, judges, withdraws, entered_by, changed_by, accepted, is_entered, is_changed, judged_since, joined, dropped, standing}
use Rattle.law.specs.Laws.{StandsWhereEarned, KeptRegister}
use Rattle.law.proofs.Marks.{Absent, Distinct, distinct_after}
use Rattle.law.proofs.Filed.{Marked, filed_spare, find_spare, At, Sought, found, missing, sought}

-- what a kind's rows keep among themselves
pub record FormLaws {R M : Type 0} (form : Form R M) (lawful : M → Bool) (kind : Kind) : Type 0 where
  pub zeros : free form form.blank ≡ true
  pub marks : (r : R) → lawful (form.member r) ≡ true → is_mark (form.mark r) ≡ true
  pub certify_mark : (r : R) → form.mark (form.certify r) ≡ form.mark r
  pub certify_member : (r : R) → form.member (form.certify r) ≡ form.member r
  pub certify_sheet : (r : R) → form.sheet (form.certify r) ≡ form.sheet r
  pub certify_certified : (r : R) → form.certified (form.certify r) ≡ true
  pub sheet_mark : (r : R) → mark_on (form.sheet r) ≡ form.mark r
  pub sheet_kind : (r : R) → kind_on (form.sheet r) ≡ kind

-- the rows filed, then zeros; each lawful, no mark twice, certificates where earned, the sheets that stand
pub record Sound {R M : Type 0} (form : Form R M) (lawful : M → Bool) (book : Meaning M) (kind : Kind) (h : History) (rows : List R) : Type 0 where
  pub members : List R
  pub spare : ℕ
  pub spelled : rows ≡ members ++ replicate spare form.blank
  pub lawfuls : Each (λ r. lawful (form.member r) ≡ true) members
  pub distinct : Distinct (map form.mark members)
  pub certificates : Each (StandsWhereEarned form book (λ mark. judged_since kind mark h)) members
  pub sheets : map form.sheet members ≡ standing kind h

pub marked_one : (n : ℕ) → is_mark n ≡ true → eqb n 0 ≡ false
marked_one n h = ne_eqb n 0 (λ e. absurd (omega (arith, leb-true 1 n (and_parts (leb 1 n) (leb n 65535) h).0)))

pub marked : {R M : Type 0} {form : Form R M} {lawful : M → Bool} {kind : Kind} → FormLaws form lawful kind → (rows : List R) → Each (λ r. lawful (form.member r) ≡ true) rows → Marked form rows
marked {form = form} {lawful} laws rows h = All-weaker (λ r. lawful (form.member r) ≡ true) (λ r. free form r ≡ false) (λ r e. marked_one (form.mark r) (laws.marks r e)) rows h

-- What an event does not do to a kind.

pub record Idle (kind : Kind) (e : Event) : Type 0 where
  pub judging : (m : ℕ) → judges kind m e.act ≡ false
  pub entering : (m : ℕ) → is_entered kind m (entered_by e) ≡ false
  pub joining : (xs : List Sheet) → joined kind (entered_by e) xs ≡ xs
  pub withdrawing : (m : ℕ) → (accepted e.answer && withdraws kind m e.act) ≡ false
  pub changing : (m : ℕ) → is_changed kind m (changed_by e) ≡ false

pub dropped_none : (test : ℕ → Bool) → ((m : ℕ) → test m ≡ false) → (sheets : List Sheet) → dropped test sheets ≡ sheets
dropped_none test none [] = refl
dropped_none test none (sheet ∷ sheets) =
    cond-false (test (mark_on sheet)) sheets (sheet ∷ dropped test sheets) (none (mark_on sheet))
    ∙ ap (λ rest. sheet ∷ rest) (dropped_none test none sheets)

-- a member that no call of the event's kind touches stays as judged as it was
pub judged_still : (kind : Kind) (m : ℕ) (e : Event) (h : History) → judges kind m e.act ≡ false → is_entered kind m (entered_by e) ≡ false → is_changed kind m (changed_by e) ≡ false → judged_since kind m (e ∷ h) ≡ judged_since kind m h
judged_still kind m e h a b c =
    cond-false (judges kind m e.act) true (cond (is_entered kind m (entered_by e) || is_changed kind m (changed_by e)) false (judged_since kind m h)) a
    ∙ cond-false (is_entered kind m (entered_by e) || is_changed kind m (changed_by e)) false (judged_since kind m h) (or_from (is_entered kind m (entered_by e)) (is_changed kind m (changed_by e)) b c)

-- one that the event judges is judged
pub judged_now : (kind : Kind) (m : ℕ) (e : Event) (h : History) → judges kind m e.act ≡ true → judged_since kind m (e ∷ h) ≡ true
judged_now kind m e h a = cond-true (judges kind m e.act) true (cond (is_entered kind m (entered_by e) || is_changed kind m (changed_by e)) false (judged_since kind m h)) a

-- one that the event enters or whose shear it changes is not
pub judged_no_more : (kind : Kind) (m : ℕ) (e : Event) (h : History) → judges kind m e.act ≡ false → (is_entered kind m (entered_by e) || is_changed kind m (changed_by e)) ≡ true → judged_since kind m (e ∷ h) ≡ false
judged_no_more kind m e h a b =
    cond-false (judges kind m e.act) true (cond (is_entered kind m (entered_by e) || is_changed kind m (changed_by e)) false (judged_since kind m h)) a
    ∙ cond-true (is_entered kind m (entered_by e) || is_changed kind m (changed_by e)) false (judged_since kind m h) b

pub stands_same : {R M : Type 0} {form : Form R M} {book : Meaning M} {j k : ℕ → Bool} {r : R} → k (form.mark r) ≡ j (form.mark r) → StandsWhereEarned form book j r → StandsWhereEarned form book k r
stands_same same s = record {
  earned = λ c. (same ∙ (s.earned c).0, (s.earned c).1, (s.earned c).2);
  stands = λ judged takes none. s.stands (sym same ∙ judged) takes none;
}

-- an uncertified row that is not judged
pub stands_not : {R M : Type 0} {form : Form R M} {book : Meaning M} {j : ℕ → Bool} {r : R} → form.certified r ≡ false → j (form.mark r) ≡ false → StandsWhereEarned form book j r
stands_not uncertified unjudged = record {
  earned = λ c. cc;
  stands = λ judged takes none. cc;
}

module _ {R M : Type 0} {form : Form R M} {lawful : M → Bool} {book : Meaning M} {kind : Kind} {h : History} {rows : List R} where
  abbrev pub sound_idle : {e : Event} → Idle kind e → Sound form lawful book kind h rows → Sound form lawful book kind (e ∷ h) rows
  sound_idle {e} idle s = record {
    members = s.members;
    spare = s.spare;
    spelled = s.spelled;
    lawfuls = s.lawfuls;
    distinct = s.distinct;
    certificates = All-weaker (StandsWhereEarned form book (λ mark. judged_since kind mark h)) (StandsWhereEarned form book (λ mark. judged_since kind mark (e ∷ h))) (λ r p. stands_same (judged_still kind (form.mark r) e h (idle.judging (form.mark r)) (idle.entering (form.mark r)) (idle.changing (form.mark r))) p) s.members s.certificates;
    sheets = s.sheets ∙ sym (dropped_none (λ m. accepted e.answer && withdraws kind m e.act) idle.withdrawing (joined kind (entered_by e) (standing kind h)) ∙ idle.joining (standing kind h));
  }

  -- what the definitions of the law read off a sound register
  pub kept_register : (measure : M → Quantity → Option ℕ) → FormLaws form lawful kind → StaysNamed lawful measure book → Sound form lawful book kind h rows → KeptRegister form lawful measure book kind h rows
  kept_register measure laws named s =
      let filed_is : filed form rows ≡ s.members = ap (filed form) s.spelled ∙ filed_spare form laws.zeros s.members s.spare (marked laws s.members s.lawfuls) in
      record {
        certificates = subst (Each (StandsWhereEarned form book (λ mark. judged_since kind mark h))) (sym filed_is) s.certificates;
        sheets = ap (map form.sheet) filed_is ∙ s.sheets;
        named = named;
      }

  -- where a mark stands in a sound register
  pub data Stand (m : ℕ) (s : Sound form lawful book kind h rows) : Type 0 where
    there : (at : At form m s.members) → find form m rows ≡ Some (length at.before) → row_at form (find form m rows) rows ≡ at.row → Absent m (map form.mark at.after) → Stand m s
    nowhere : Absent m (map form.mark s.members) → find form m rows ≡ None → Stand m s

  -- the register with the row at a mark between the others and the zeros
  pub spelled_at : {m : ℕ} (s : Sound form lawful book kind h rows) (at : At form m s.members) → rows ≡ at.before ++ at.row ∷ (at.after ++ replicate s.spare form.blank)
  spelled_at s at = s.spelled ∙ (ap (λ rs. rs ++ replicate s.spare form.blank) at.spelled ∙ append_assoc at.before (at.row ∷ at.after) (replicate s.spare form.blank))

  pub marks_at : {m : ℕ} (s : Sound form lawful book kind h rows) (at : At form m s.members) → map form.mark s.members ≡ map form.mark at.before ++ form.mark at.row ∷ map form.mark at.after
  marks_at s at = ap (map form.mark) at.spelled ∙ map-append form.mark at.before (at.row ∷ at.after)

  pub later_absent : {m : ℕ} (s : Sound form lawful book kind h rows) (at : At form m s.members) → Absent m (map form.mark at.after)
  later_absent s at = subst (λ k. Absent k (map form.mark at.after)) at.is (distinct_after (map form.mark at.before) (form.mark at.row) (map form.mark at.after) (subst Distinct (marks_at s at) s.distinct))

  -- the row at a mark is the one that is found
  pub found_at : {m : ℕ} → (s : Sound form lawful book kind h rows) (at : At form m s.members) → find form m rows ≡ Some (length at.before) → row_at form (find form m rows) rows ≡ at.row
  found_at s at is =
      ap (λ o. row_at form o rows) is
      ∙ (ap (λ rs. get_or rs (length at.before) form.blank) (spelled_at s at) ∙ get_or_at at.before at.row (at.after ++ replicate s.spare form.blank) form.blank (length at.before) refl)

  pub stand : FormLaws form lawful kind → (m : ℕ) → (s : Sound form lawful book kind h rows) → Stand m s
  stand laws m s = go (sought form m 0 s.members (marked laws s.members s.lawfuls))
    where
      same : find form m rows ≡ find form m s.members
      same = ap (find form m) s.spelled ∙ find_spare form laws.zeros m 0 s.members s.spare

      go : Sought form m 0 s.members (find form m s.members) → Stand m s
      go (found at is) =
          let place : find form m rows ≡ Some (length at.before) = same ∙ (is ∙ ap Some (omega arith)) in
          there at place (found_at s at place) (later_absent s at)
      go (missing none is) = nowhere none (same ∙ is)
