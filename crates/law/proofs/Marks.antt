-- Lists of distinct marks, and what holds of some element of a list. Assumes nothing.
use Rattle.std.proofs.Common.{◌≡◌, ℕ, ◌⊎◌, List, [], ◌∷◌, ◌++◌, sym, inl, inr, ⊎_elim}
use Rattle.std.specs.List.{AllByRecursion as Each}
use Rattle.std.proofs.ByRecursion.{All-append, All-push}

-- what holds of each of two lists joined holds of each
pub all_front : {X : Type 0} (P : X → Type 0) (xs ys : List X) → Each P (xs ++ ys) → Each P xs
all_front P [] ys h = tt
all_front P (x ∷ xs) ys h = (h.0, all_front P xs ys h.1)

pub all_back : {X : Type 0} (P : X → Type 0) (xs ys : List X) → Each P (xs ++ ys) → Each P ys
all_back P [] ys h = h
all_back P (x ∷ xs) ys h = all_back P xs ys h.1

-- something holds of some element
abbrev pub Any : {X : Type 0} → (X → Type 0) → List X → Type 0
Any P [] = ⊥
Any P (x ∷ xs) = P x ⊎ Any P xs

pub any_front : {X : Type 0} (P : X → Type 0) (xs ys : List X) → Any P xs → Any P (xs ++ ys)
any_front P [] ys h = absurd h
any_front P (x ∷ xs) ys h = ⊎_elim inl (λ later. inr (any_front P xs ys later)) h

pub any_at : {X : Type 0} (P : X → Type 0) (xs : List X) (y : X) (ys : List X) → P y → Any P (xs ++ y ∷ ys)
any_at P [] y ys h = inl h
any_at P (x ∷ xs) y ys h = inr (any_at P xs y ys h)

pub any_weaker : {X : Type 0} (P Q : X → Type 0) → ((x : X) → P x → Q x) → (xs : List X) → Any P xs → Any Q xs
any_weaker P Q weaker [] h = h
any_weaker P Q weaker (x ∷ xs) h = ⊎_elim (λ p. inl (weaker x p)) (λ later. inr (any_weaker P Q weaker xs later)) h

-- what held of some element holds of some still, where one is replaced
pub any_swap : {X : Type 0} (P Q : X → Type 0) → ((x : X) → P x → Q x) → (xs : List X) (y z : X) (ys : List X) → (P y → Q z) → Any P (xs ++ y ∷ ys) → Any Q (xs ++ z ∷ ys)
any_swap P Q weaker [] y z ys here h = ⊎_elim (λ p. inl (here p)) (λ later. inr (any_weaker P Q weaker ys later)) h
any_swap P Q weaker (x ∷ xs) y z ys here h = ⊎_elim (λ p. inl (weaker x p)) (λ later. inr (any_swap P Q weaker xs y z ys here later)) h

-- or where one of which it does not hold is taken out
pub any_out : {X : Type 0} (P : X → Type 0) (xs : List X) (y : X) (ys : List X) → (P y → ⊥) → Any P (xs ++ y ∷ ys) → Any P (xs ++ ys)
any_out P [] y ys none h = ⊎_elim (λ p. absurd (none p)) (λ later. later) h
any_out P (x ∷ xs) y ys none h = ⊎_elim inl (λ later. inr (any_out P xs y ys none later)) h

-- the mark is on none of these
abbrev pub Absent : ℕ → List ℕ → Type 0
Absent m ms = Each (λ k. k ≡ m → ⊥) ms

-- no mark is there twice
abbrev pub Distinct : List ℕ → Type 0
Distinct [] = Unit {0}
Distinct (m ∷ ms) = Absent m ms × Distinct ms

pub distinct_after : (ms : List ℕ) (m : ℕ) (ns : List ℕ) → Distinct (ms ++ m ∷ ns) → Absent m ns
distinct_after [] m ns d = d.0
distinct_after (k ∷ ms) m ns d = distinct_after ms m ns d.1

pub distinct_before : (ms : List ℕ) (m : ℕ) (ns : List ℕ) → Distinct (ms ++ m ∷ ns) → Absent m ms
distinct_before [] m ns d = tt
distinct_before (k ∷ ms) m ns d = (λ same. (all_back (λ x. x ≡ k → ⊥) ms (m ∷ ns) d.0).0 (sym same), distinct_before ms m ns d.1)

pub distinct_out : (ms : List ℕ) (m : ℕ) (ns : List ℕ) → Distinct (ms ++ m ∷ ns) → Distinct (ms ++ ns)
distinct_out [] m ns d = d.1
distinct_out (k ∷ ms) m ns d = (All-append (λ x. x ≡ k → ⊥) ms ns (all_front (λ x. x ≡ k → ⊥) ms (m ∷ ns) d.0) (all_back (λ x. x ≡ k → ⊥) ms (m ∷ ns) d.0).1, distinct_out ms m ns d.1)

pub distinct_push : (ms : List ℕ) (m : ℕ) → Distinct ms → Absent m ms → Distinct (ms ++ m ∷ [])
distinct_push [] m d a = (tt, tt)
distinct_push (k ∷ ms) m d a = (All-push (λ x. x ≡ k → ⊥) ms m d.0 (λ same. a.0 (sym same)), distinct_push ms m d.1 a.1)
