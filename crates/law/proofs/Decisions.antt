-- A call is refused on a ground that holds, or done where none does. Assumes nothing.
use Rattle.std.proofs.Common.{◌≡◌, true, false, ◌⊎◌, List, [], ◌∷◌, inl, inr}
use Rattle.std.proofs.lemmas.Bool.{cond_both}
use Rattle.faults.specs.declared.fault.JobFault.{JobFault}
use Rattle.faults.specs.Grounds.{Ground, decide}

-- some ground holds
abbrev pub SomeHolds : List Ground → Type 0
SomeHolds [] = ⊥
SomeHolds (g ∷ gs) = (g.holds ≡ true) ⊎ SomeHolds gs

-- no ground holds
abbrev pub NoneHolds : List Ground → Type 0
NoneHolds [] = Unit {0}
NoneHolds (g ∷ gs) = (g.holds ≡ false) × NoneHolds gs

pub decide_cases : {A : Type 0} (P : A → Type 0) (gs : List Ground) (refuse : JobFault → A) (done : A) → ((fault : JobFault) → SomeHolds gs → P (refuse fault)) → (NoneHolds gs → P done) → P (decide gs refuse done)
decide_cases P [] refuse done refusal doing = doing tt
decide_cases P (g ∷ gs) refuse done refusal doing =
    cond_both g.holds (refuse g.fault) (decide gs refuse done) P
    (λ e. refusal g.fault (inl e))
    (λ e. decide_cases P gs refuse done (λ fault some. refusal fault (inr some)) (λ none. doing (e, none)))
