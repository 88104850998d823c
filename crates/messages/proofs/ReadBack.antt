-- A lawful sheet's message reads back as that sheet. Assumes nothing.
use Rattle.std.proofs.Common.{◌≡◌, ℕ, ◌+◌, ◌*◌, ◌<◌, ◌≤◌, Bool, true, cond, ◌&&◌, eqb, leb, List, [], ◌∷◌, ◌++◌, length, take, drop, IfOk, Ok, Err, sym, refl, ap, ◌∙◌, arith, lit≤}
use Rattle.std.proofs.lemmas.List.{take_at}
use Rattle.std.proofs.lemmas.Bool.{cond-true, cond_both, and_parts, and_from, le-leb, leb-true, eq-eqb, false≢true}
use Rattle.std.proofs.lemmas.Bool.Decides.{nat_tests}
use Rattle.std.proofs.lemmas.Nat.{from_be_bytes-to_be_bytes_4}
use Rattle.tables.specs.Codes.{kind_number}
use Rattle.tables.specs.Limits.{within, admitted}
use Rattle.sheets.specs.Sheets.{kind_on}
use Rattle.messages.specs.Messages.{four_bytes, field, number_fields, message_of, message, then, raised, number_due, numbers_due, all_due, kind_due, sheet_due, decoded, before, lawful_sheet, ReadsBack, put, put_length}
use Rattle.tables.specs.declared.codes.Kind.{Kind}
use Rattle.tables.specs.declared.codes.Kind.TheVariants as kinds
use Rattle.tables.specs.declared.limits.Limit.{Limit}
use Rattle.tables.specs.declared.limits.Limit.TheVariants.{Between, Diameter, Zone, Concrete}
use Rattle.sheets.specs.declared.sheet.Sheet.{Sheet}
use Rattle.faults.specs.declared.fault.MessageFault.TheVariants.{Size}
use Rattle.faults.specs.declared.fault.JobFault.TheVariants.{Argument}
use Rattle.messages.specs.Faulty.{limits_of}
use Rattle.messages.proofs.EachKind.{sheet_of, numbers_of, sheet_due_of, sheet_numbered}
use Rattle.messages.proofs.Numbers.{admitted_length}
use Rattle.messages.proofs.Written.{length_message}

-- what a limit admits fits four bytes
small : Limit → Bool
small (Between low high) = leb high 4294967295
small Diameter = true
small Zone = true
small Concrete = true

abbrev smalls : List Limit → Bool
smalls [] = true
smalls (l ∷ ls) = small l && smalls ls

fits : (l : Limit) (n : ℕ) → small l ≡ true → within l n ≡ true → n < 4294967296
unfolding small
fits (Between low high) n s w = omega (arith, leb-true high 4294967295 s, leb-true n high (and_parts _ _ w).1)
fits Diameter n s w = grind (arith, nat_tests)
fits Zone n s w = grind (arith, nat_tests)
fits Concrete n s w = grind (arith, nat_tests)

-- one number reads back
number_back : (l : Limit) (tag at n : ℕ) (rest : List ℕ) → n < 4294967296 → within l n ≡ true → number_due l tag at (field tag (four_bytes n) ++ rest) ≡ Ok (n, rest)
number_back l tag at n rest small law =
    let whole : leb 4 (length (four_bytes n ++ rest)) ≡ true = le-leb 4 (length (four_bytes n ++ rest)) (omega arith) in
    let same : eqb tag tag ≡ true = eq-eqb tag tag refl in
    let number = from_be_bytes-to_be_bytes_4 n small in
    simp (whole, same, number, law)

-- all numbers read back
numbers_back : (i : ℕ) (ls : List Limit) (ns : List ℕ) → smalls ls ≡ true → admitted ls ns ≡ true → numbers_due i ls (number_fields i ns) ≡ Ok (ns, [])
unfolding admitted
numbers_back i [] [] s w = refl
numbers_back i [] (n ∷ ns) s w = absurd (false≢true w)
numbers_back i (l ∷ ls) [] s w = absurd (false≢true w)
numbers_back i (l ∷ ls) (n ∷ ns) s w =
    let limits = and_parts (small l) (smalls ls) s in
    let laws = and_parts (within l n) (admitted ls ns) w in
    ap (λ r. then r (λ due. before due.0 (numbers_due (i + 1) ls due.1))) (number_back l (16 + i) (4 + 7 * i) n (number_fields (i + 1) ns) (fits l n limits.0 laws.0) laws.0)
    ∙ ap (before n) (numbers_back (i + 1) ls ns limits.1 laws.1)

all_back : (ls : List Limit) (ns : List ℕ) → smalls ls ≡ true → admitted ls ns ≡ true → all_due ls (number_fields 0 ns) ≡ Ok ns
all_back ls ns s w = simp (numbers_back 0 ls ns s w)

kind_back : (kind : Kind) (rest : List ℕ) → kind_due (field 1 (kind_number kind ∷ []) ++ rest) ≡ Ok (kind, rest)
kind_back kind rest =
    let whole : (k : ℕ) → leb 1 (length (k ∷ rest)) ≡ true = λ k. le-leb 1 (length (k ∷ rest)) (omega arith) in
    elim kind as (λ k. kind_due (field 1 (kind_number k ∷ []) ++ rest) ≡ Ok (k, rest)) [ kinds.Beam ↦ simp (whole 1) | kinds.Column ↦ simp (whole 2) | kinds.Wall ↦ simp (whole 3) ]

-- the kind reads back, and the sheet of that kind decides
decoded_back : (kind : Kind) (ns : List ℕ) → length ns ≤ 36 → decoded (message_of kind ns) ≡ sheet_due kind (number_fields 0 ns)
decoded_back kind ns few =
    let size = length_message kind ns in
    let least : 1 ≤ length (message_of kind ns) = omega arith in
    let most : length (message_of kind ns) ≤ 256 = omega arith in
    ap (λ t. then (raised (cond t (Ok tt) (Err Size))) (λ _. then (kind_due (message_of kind ns)) (λ due. sheet_due due.0 due.1))) (and_from _ _ (le-leb _ _ least) (le-leb _ _ most))
    ∙ ap (λ r. then r (λ due. sheet_due due.0 due.1)) (kind_back kind (number_fields 0 ns))

-- what the limits of each kind admit fits four bytes
small_limits : (kind : Kind) → smalls (limits_of kind) ≡ true
unfolding small
small_limits kinds.Beam = refl
small_limits kinds.Column = refl
small_limits kinds.Wall = refl

-- a kind has so few numbers that their message fits 256 bytes
few_limits : (kind : Kind) → length (limits_of kind) ≤ 36
few_limits kinds.Beam = lit≤ tt
few_limits kinds.Column = lit≤ tt
few_limits kinds.Wall = lit≤ tt

pub reads_back : (sheet : Sheet) → ReadsBack sheet
reads_back sheet law =
    let kind = kind_on sheet in
    let ns = numbers_of sheet in
    let is = sheet_numbered sheet in
    let fit : admitted (limits_of kind) ns ≡ true = sym is.judged ∙ law in
    let few = few_limits kind in
    let long = admitted_length (limits_of kind) ns fit in
    ap decoded is.spelled
    ∙ decoded_back kind ns (omega arith)
    ∙ sheet_due_of kind (number_fields 0 ns)
    ∙ ap (λ r. then r (λ ns. Ok (sheet_of kind ns))) (all_back (limits_of kind) ns (small_limits kind) fit)
    ∙ ap Ok is.back

-- where the buffer has room, what is written reads back
pub written_back : (sheet : Sheet) (buffer : List ℕ) → IfOk (put_length (message sheet) buffer) (λ size. (lawful_sheet sheet ≡ true → decoded (take size (put (message sheet) buffer)) ≡ Ok sheet))
written_back sheet buffer =
    let bytes = message sheet in
    cond_both (leb (length bytes) (length buffer)) (Ok (length bytes)) (Err Argument) (λ r. IfOk r (λ size. (lawful_sheet sheet ≡ true → decoded (take size (put bytes buffer)) ≡ Ok sheet)))
    (λ fits law. ap (λ xs. decoded (take (length bytes) xs)) (cond-true _ _ _ fits) ∙ ap decoded (take_at bytes (drop (length bytes) buffer) (length bytes) refl) ∙ reads_back sheet law)
    (λ short. tt)
