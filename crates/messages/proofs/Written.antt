-- A message written field by field. Assumes nothing.
use Rattle.std.proofs.Common.{◌≡◌, ℕ, ◌+◌, ◌*◌, ◌<◌, ◌≤◌, List, [], ◌∷◌, ◌++◌, length, get_or, take, drop, sym, refl, ap, ◌∙◌, append_assoc, append-nil, arith, length-append, take-append-drop, length-take-le}
use Rattle.std.proofs.lemmas.List.{take_more, take_at, drop_at, drop-drop, take_all}
use Rattle.messages.specs.Messages.{four_bytes, field, number_fields, message_of}
use Rattle.tables.specs.declared.codes.Kind.{Kind}

-- a field of a number has seven bytes
pub length_fields : (i : ℕ) (ns : List ℕ) → length (number_fields i ns) ≡ 7 * length ns
length_fields i [] = refl
length_fields i (n ∷ ns) = let more = length_fields (i + 1) ns in omega arith

-- a message is four bytes and seven for each number
pub length_message : (kind : Kind) (ns : List ℕ) → length (message_of kind ns) ≡ 4 + 7 * length ns
length_message kind ns = let more = length_fields 0 ns in omega arith

fields_push : (i : ℕ) (ns : List ℕ) (n : ℕ) (k : ℕ) → k ≡ i + length ns → number_fields i (ns ++ n ∷ []) ≡ number_fields i ns ++ field (16 + k) (four_bytes n)
fields_push i [] n k at = let here : 16 + i ≡ 16 + k = omega arith in ap (λ tag. field tag (four_bytes n)) here
fields_push i (m ∷ ns) n k at = ap (λ more. field (16 + i) (four_bytes m) ++ more) (fields_push (i + 1) ns n k (omega arith))

-- the numbers before i written after the first four bytes of what was there
unfoldable pub filled : List ℕ → List ℕ → ℕ → List ℕ
filled entry ns i = (take 4 entry ++ number_fields 0 (take i ns)) ++ drop (4 + 7 * i) entry

-- no number yet
pub filled_none : (entry ns : List ℕ) → filled entry ns 0 ≡ entry
unfolding filled
filled_none entry ns = ap (λ xs. xs ++ drop 4 entry) (append-nil (take 4 entry)) ∙ take-append-drop 4 entry

-- all numbers
pub filled_all : (entry ns : List ℕ) (i : ℕ) → i ≡ length ns → filled entry ns i ≡ (take 4 entry ++ number_fields 0 ns) ++ drop (4 + 7 * length ns) entry
unfolding filled
filled_all entry ns i is =
    ap (λ k. (take 4 entry ++ number_fields 0 (take i ns)) ++ drop (4 + 7 * k) entry) is
    ∙ ap (λ xs. (take 4 entry ++ number_fields 0 xs) ++ drop (4 + 7 * length ns) entry) (take_all i ns (omega arith))

-- number i put after those before it
pub filled_more : (entry ns : List ℕ) (i : ℕ) → i < length ns → 4 ≤ length entry → filled entry ns (i + 1) ≡ take (4 + 7 * i) (filled entry ns i) ++ (field (16 + i) (four_bytes (get_or ns i 0)) ++ drop (4 + 7 * i + 7) (filled entry ns i))
unfolding filled
filled_more entry ns i within room =
    let at : ℕ = 4 + 7 * i in
    let before = number_fields 0 (take i ns) in
    let front = take 4 entry ++ before in
    let new = field (16 + i) (four_bytes (get_or ns i 0)) in
    let count = length-take-le i ns (omega arith) in
    let fields : number_fields 0 (take (i + 1) ns) ≡ before ++ new = ap (number_fields 0) (take_more ns i 0 within) ∙ fields_push 0 (take i ns) (get_or ns i 0) i (omega arith) in
    let long : length front ≡ at = omega (arith, length-append (take 4 entry) before, length-take-le 4 entry room, length_fields 0 (take i ns)) in
    let kept = take_at front (drop at entry) at long in
    let far : drop (4 + 7 * (i + 1)) entry ≡ drop (at + 7) entry = ap (λ k. drop k entry) (omega arith) in
    let beyond = sym (drop-drop 7 at (front ++ drop at entry)) ∙ ap (drop 7) (drop_at front (drop at entry) at long) ∙ drop-drop 7 at entry in
    cc (append_assoc front new (drop (at + 7) entry), append_assoc (take 4 entry) before new)
