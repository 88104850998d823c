-- What a list of limits admits, in the library's words for a test of two lists. Assumes nothing.
use Rattle.std.proofs.Common.{◌≡◌, ℕ, ◌&&◌, List, [], ◌∷◌, length, refl, ap, arith}
use Rattle.std.proofs.Math.Nat.{suc_inj}
use Rattle.std.specs.List.{list_all, zip}
use Rattle.tables.specs.Limits.{within, admitted}
use Rattle.tables.specs.declared.limits.Limit.{Limit}

-- as many numbers as limits are admitted where each keeps the limit beside it
pub admitted_zips : (ls : List Limit) (ns : List ℕ) → length ls ≡ length ns → admitted ls ns ≡ list_all (λ p. within p.0 p.1) (zip ls ns)
unfolding admitted
admitted_zips [] [] n = refl
admitted_zips [] (x ∷ ns) n = absurd (omega (arith, n))
admitted_zips (l ∷ ls) [] n = absurd (omega (arith, n))
admitted_zips (l ∷ ls) (x ∷ ns) n = ap (λ t. within l x && t) (admitted_zips ls ns (suc_inj n))
