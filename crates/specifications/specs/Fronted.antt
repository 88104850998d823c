-- A specification before a book: what its rules find, what it means as a book, and what adding a rule does. Assumes nothing.
use Rattle.std.specs.Prelude.{◌≡◌, ℕ, ◌+◌, Bool, true, false, cond, List, [], ◌∷◌, ◌++◌, map, length, is_none, Some, None, Ok, Err, Option, Result, nat_le, nat_lt}
use Rattle.tables.specs.Codes.{quantity_of, sense_of}
use Rattle.tables.specs.declared.codes.Quantity.{Quantity}
use Rattle.tables.specs.declared.codes.Sense.{Sense}
use Rattle.tables.specs.declared.codes.Sense.TheVariants.{AtLeast, AtMost}
use Rattle.faults.specs.declared.fault.JobFault.{JobFault}
use Rattle.faults.specs.declared.fault.JobFault.TheVariants.{Argument, Full}
use Rattle.faults.specs.Grounds.{◌when◌, unless}
use Rattle.books.specs.Findings.{at_least, at_most}
use Rattle.books.specs.Meanings.{Meaning}
use Rattle.books.specs.Numbered.{numbered_from}
use Rattle.books.specs.Verdicts.{verdict_of}
use Rattle.books.specs.declared.answers.Sides.{Sides}
use Rattle.books.specs.declared.answers.Finding.{Finding}
use Rattle.books.specs.declared.answers.Finding.TheVariants.{NotApplicable}
use Rattle.books.specs.declared.answers.Verdict.TheVariants.{Breaks}
use Rattle.specifications.specs.declared.rule.Rule.{Rule}

-- the quantity against the limit, by the sense
abbrev pub compared : Sense → ℕ → ℕ → Finding
compared AtLeast = at_least
compared AtMost = at_most

-- what a rule finds where its quantity measures this much; on a member without the quantity it does not apply
abbrev pub rule_finding : Option ℕ → Rule → Finding
rule_finding None rule = NotApplicable
rule_finding (Some n) rule = compared rule.sense n rule.limit

-- what the rules find on a member, in their order
abbrev pub rule_findings : (Quantity → Option ℕ) → List Rule → List Finding
rule_findings measure rules = map (λ rule. rule_finding (measure rule.quantity) rule) rules

-- how many articles there are in all: those of the book behind, then the rules
abbrev pub in_all : {M : Type 0} → List Rule → Meaning M → ℕ
in_all rules book = book.count + length rules

-- the articles of the book behind under their numbers, then the rules; past 64 in all no member is taken and no article is left
abbrev pub fronted : {M : Type 0} → (M → Quantity → Option ℕ) → List Rule → Meaning M → Meaning M
fronted measure rules book = record {
  takes = λ m. cond (nat_le (in_all rules book) 64) (book.takes m) false;
  count = cond (nat_le (in_all rules book) 64) (in_all rules book) 0;
  finding = λ m n. cond (nat_le (in_all rules book) 64) (cond (nat_le n book.count) (book.finding m n) (numbered_from (book.count + 1) (rule_findings (measure m) rules) n)) NotApplicable;
}

-- a stack of specifications, the first of the list in front of the others
abbrev pub hung : {M : Type 0} → (M → Quantity → Option ℕ) → List (List Rule) → Meaning M → Meaning M
hung measure [] book = book
hung measure (rules ∷ more) book = fronted measure rules (hung measure more book)

-- an article named against a member is named still, both sides alike, behind any specifications that still take the member
abbrev pub StaysNamed : {M : Type 0} → (M → Bool) → (M → Quantity → Option ℕ) → Meaning M → Type 0
StaysNamed {M} lawful measure book =
    (stack : List (List Rule)) (m : M) (n : ℕ) (s : Sides)
    → verdict_of lawful book m ≡ Ok (Breaks n s)
    → (hung measure stack book).takes m ≡ true
    → verdict_of lawful (hung measure stack book) m ≡ Ok (Breaks n s)

-- a rule of these parts, where the numbers have given them
abbrev pub rule_made : Option Quantity → Option Sense → ℕ → List Rule
rule_made None sense limit = []
rule_made (Some quantity) None limit = []
rule_made (Some quantity) (Some sense) limit = record { quantity = quantity; sense = sense; limit = limit } ∷ []

-- adding a rule: the grounds of refusal in their order, then the rules with the new one after the last
abbrev pub adding : ℕ → ℕ → ℕ → List Rule → Result (List Rule) JobFault
adding quantity sense limit rules =
    unless
    ((Argument when is_none (quantity_of quantity))
    ∷ (Argument when is_none (sense_of sense))
    ∷ (Argument when nat_lt 100000 limit)
    ∷ (Full when nat_le 8 (length rules))
    ∷ [])
    (rules ++ rule_made (quantity_of quantity) (sense_of sense) limit)

-- what a call answers, where it is refused or gives the rules as they are then
abbrev pub answer_of : Result (List Rule) JobFault → Result (Unit {0}) JobFault
answer_of (Ok after) = Ok tt
answer_of (Err fault) = Err fault

-- the rules after a call: as they were, where it is refused
abbrev pub left_by : List Rule → Result (List Rule) JobFault → List Rule
left_by rules (Ok after) = after
left_by rules (Err fault) = rules

-- what adding a rule answers
abbrev pub added : ℕ → ℕ → ℕ → List Rule → Result (Unit {0}) JobFault
added quantity sense limit rules = answer_of (adding quantity sense limit rules)

-- the rules after adding one, also where it is refused
abbrev pub rules_after : ℕ → ℕ → ℕ → List Rule → List Rule
rules_after quantity sense limit rules = left_by rules (adding quantity sense limit rules)
