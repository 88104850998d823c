-- The limits that the numbers of a lawful sheet keep, place by place. Assumes nothing.
use Rattle.std.proofs.Common.{◌≡◌, ℕ, zero, suc, ◌<◌, ◌≤◌, true, leb, List, [], ◌∷◌, length, get_or, arith}
use Rattle.std.proofs.lemmas.Bool.{leb-true, and_parts}
use Rattle.tables.specs.Limits.{within, admitted}
use Rattle.tables.specs.declared.limits.Limit.{Limit}
use Rattle.tables.specs.declared.limits.Limit.TheVariants.{Between, Zone}

-- each number keeps the limit at its place
abbrev pub Keeps : List Limit → List ℕ → Type 0
Keeps ls ns = (i : ℕ) → i < length ls → within (get_or ls i Zone) (get_or ns i 0) ≡ true

pub keeps : (ls : List Limit) (ns : List ℕ) → admitted ls ns ≡ true → Keeps ls ns
unfolding admitted
keeps [] ns h i low = absurd (omega arith)
keeps (l ∷ ls) [] h i low = cc
keeps (l ∷ ls) (n ∷ ns) h zero low = (and_parts (within l n) (admitted ls ns) h).0
keeps (l ∷ ls) (n ∷ ns) h (suc i) low = keeps ls ns (and_parts (within l n) (admitted ls ns) h).1 i (omega arith)

-- a number between two bounds is at least the lower and at most the higher
pub least : (low high n : ℕ) → within (Between low high) n ≡ true → low ≤ n
least low high n h = leb-true low n (and_parts (leb low n) (leb n high) h).0

pub most : (low high n : ℕ) → within (Between low high) n ≡ true → n ≤ high
most low high n h = leb-true n high (and_parts (leb low n) (leb n high) h).1
