-- A list is what stands at its places, one after the other. Assumes nothing.
use Rattle.std.proofs.Common.{◌≡◌, ℕ, List, map, length, get_or, sym, refl}
use Rattle.std.specs.List.{range_with_len}
use Rattle.std.proofs.lemmas.List.FromFn.{fill_by_all}

-- a list of n numbers is what stands at its places from 0 to n, one after the other
pub listed_out : (n : ℕ) (ns : List ℕ) → length ns ≡ n → map (λ i. get_or ns i 0) (range_with_len 0 n) ≡ ns
listed_out n ns long = sym (fill_by_all (λ i. get_or ns i 0) ns n 0 long (λ k h. refl))
