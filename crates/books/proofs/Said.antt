-- The verdict says what it should. Assumes nothing.
use Rattle.std.proofs.Common.{◌≡◌, ◌+◌, Bool, true, false, cond, Ok, Err, Result, sym, refl, ap, ◌∙◌, subst, arith}
use Rattle.faults.specs.declared.fault.JobFault.{JobFault}
use Rattle.faults.specs.declared.fault.JobFault.TheVariants.{Unlawful, NotTaken}
use Rattle.books.specs.Meanings.{Meaning}
use Rattle.books.specs.Verdicts.{lowest, verdict_of, Says, NoneBrokenBelow}
use Rattle.books.specs.declared.answers.Verdict.{Verdict}
use Rattle.books.specs.declared.answers.Verdict.TheVariants.{Certificate, Breaks}
use Rattle.books.proofs.Lowest.{Clear, lowest_clear, clear_lowest, lowest_first, first_lowest}

-- a verdict that was answered came after both tests
answered : (l t : Bool) (v w : Verdict) → ◌≡◌ {A = Result Verdict JobFault} (cond l (cond t (Ok v) (Err NotTaken)) (Err Unlawful)) (Ok w) → (l ≡ true) × (t ≡ true) × (v ≡ w)
answered true true v w e = (refl, refl, cc)
answered true false v w e = cc
answered false t v w e = cc

untaken_only : (l t : Bool) (v : Verdict) → ◌≡◌ {A = Result Verdict JobFault} (cond l (cond t (Ok v) (Err NotTaken)) (Err Unlawful)) (Err NotTaken) → (l ≡ true) × (t ≡ false)
untaken_only true true v e = cc
untaken_only true false v e = (refl, refl)
untaken_only false t v e = cc

unlawful_only : (l t : Bool) (v : Verdict) → ◌≡◌ {A = Result Verdict JobFault} (cond l (cond t (Ok v) (Err NotTaken)) (Err Unlawful)) (Err Unlawful) → l ≡ false
unlawful_only true true v e = cc
unlawful_only true false v e = cc
unlawful_only false t v e = refl

asked : (l t : Bool) (v : Verdict) → l ≡ true → t ≡ true → ◌≡◌ {A = Result Verdict JobFault} (cond l (cond t (Ok v) (Err NotTaken)) (Err Unlawful)) (Ok v)
asked l t v el et = ap (λ x. cond x (cond t (Ok v) (Err NotTaken)) (Err Unlawful)) el ∙ ap (λ x. cond x (Ok v) (Err NotTaken)) et

module _ {M : Type 0} (lawful : M → Bool) (book : Meaning M) (m : M) where
  found : Verdict
  found = lowest (book.finding m) 1 book.count

  clear : NoneBrokenBelow book m (book.count + 1) → Clear (book.finding m) 1 (1 + book.count)
  clear none j s low high is = none j s (omega arith) (low, omega arith, is)

  pub said : Says lawful book m (verdict_of lawful book m)
  unfolding found
  said = record {
    certified = λ e.
        let parts = answered (lawful m) (book.takes m) found Certificate e in
        (parts.0, parts.1, λ k s high at. lowest_clear (book.finding m) 1 book.count parts.2 k s at.0 (omega arith) at.2);
    certifies = λ law take none.
        asked (lawful m) (book.takes m) found law take ∙ ap Ok (clear_lowest (book.finding m) 1 book.count (clear none));
    broken = λ n s e.
        let parts = answered (lawful m) (book.takes m) found (Breaks n s) e in
        let first = lowest_first (book.finding m) 1 book.count n s parts.2 in
        (parts.0, parts.1, (first.from, omega (arith, first.below), first.broken), λ k t high at. first.clear k t at.0 high at.2);
    breaks = λ n s law take at none.
        asked (lawful m) (book.takes m) found law take
        ∙ ap Ok (first_lowest (book.finding m) 1 book.count n s (record {
          from = at.0;
          below = omega (arith, at.1);
          broken = at.2;
          clear = λ j t low high is. none j t high (low, omega (arith, at.1), is);
        }));
    untaken = λ e. untaken_only (lawful m) (book.takes m) found e;
    refuses_untaken = λ law take.
        ap (λ x. cond x (cond (book.takes m) (Ok found) (Err NotTaken)) (Err Unlawful)) law ∙ ap (λ x. cond x (Ok found) (Err NotTaken)) take;
    unlawful = λ e. unlawful_only (lawful m) (book.takes m) found e;
    refuses_unlawful = λ law. ap (λ x. cond x (cond (book.takes m) (Ok found) (Err NotTaken)) (Err Unlawful)) law;
  }

  pub says_of : (r : Result Verdict JobFault) → r ≡ verdict_of lawful book m → Says lawful book m r
  says_of r is = subst (Says lawful book m) (sym is) said
