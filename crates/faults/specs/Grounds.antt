-- Grounds of refusal in their order: the first that holds refuses. Assumes nothing.
use Rattle.std.specs.Prelude.{Bool, cond, List, [], ◌∷◌, Ok, Err, Result}
use Rattle.faults.specs.declared.fault.JobFault.{JobFault}

-- a ground of refusal, and whether it holds
pub record Ground : Type 0 where
  pub fault : JobFault
  pub holds : Bool

-- the fault, if the test holds
infix 20 ◌when◌
abbrev pub ◌when◌ : JobFault → Bool → Ground
fault when test = record { fault = fault; holds = test }

-- the first ground that holds refuses; where none holds, it is done
abbrev pub decide : {A : Type 0} → List Ground → (JobFault → A) → A → A
decide [] refuse done = done
decide (g ∷ gs) refuse done = cond g.holds (refuse g.fault) (decide gs refuse done)

-- this, unless a ground refuses
abbrev pub unless : {A : Type 0} → List Ground → A → Result A JobFault
unless grounds done = decide grounds (λ fault. Err fault) (Ok done)
