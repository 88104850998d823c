-- Where a message is at fault, and which fault that is, in the subject's words. Assumes nothing.
use Rattle.std.specs.Prelude.{◌≡◌, ℕ, ◌+◌, ◌*◌, ◌<◌, ◌≤◌, Bool, true, false, ◌⊎◌, List, [], ◌∷◌, ◌++◌, length, is_some, ◌≢◌}
use Rattle.tables.specs.Codes.{kind_of}
use Rattle.tables.specs.Limits.{within, admitted}
use Rattle.tables.specs.declared.codes.Kind.{Kind}
use Rattle.tables.specs.declared.codes.Kind.TheVariants.{Beam, Column, Wall}
use Rattle.tables.specs.declared.limits.Limit.{Limit}
use Rattle.sheets.specs.Limits.{beam_limits, column_limits, wall_limits}
use Rattle.faults.specs.declared.fault.MessageFault.TheVariants.{Size, CutShort, NotDue, Length}
use Rattle.faults.specs.declared.fault.SheetFault.{SheetFault}
use Rattle.faults.specs.declared.fault.SheetFault.TheVariants.{Message, Value}
use Rattle.messages.specs.Messages.{message_of}

-- the number that bytes give, the high byte first, after those that gave n
abbrev pub big_endian : ℕ → List ℕ → ℕ
big_endian n [] = n
big_endian n (b ∷ bs) = big_endian (n * 256 + b) bs

-- a whole field stands at the front of the bytes, with this tag and this body
pub record Whole (bytes : List ℕ) (tag : ℕ) (body : List ℕ) : Type 0 where
  pub hi : ℕ
  pub lo : ℕ
  pub after : List ℕ
  pub spelled : bytes ≡ tag ∷ hi ∷ lo ∷ (body ++ after)
  pub size : length body ≡ big_endian 0 (hi ∷ lo ∷ [])

-- a field begins at the front of the bytes and its body is shorter than its length
pub record Short (bytes : List ℕ) : Type 0 where
  pub tag : ℕ
  pub hi : ℕ
  pub lo : ℕ
  pub after : List ℕ
  pub spelled : bytes ≡ tag ∷ hi ∷ lo ∷ after
  pub cut : length after < big_endian 0 (hi ∷ lo ∷ [])

-- what is wrong with the bytes at an offset where a field is due, of this tag and this many bytes, whose number is to
-- be admitted: cut short in its header or its body; missing or of another tag; of another length; not admitted
abbrev pub Wrong : ℕ → ℕ → (ℕ → Bool) → ℕ → List ℕ → SheetFault → Type 0
Wrong tag size admits at bytes (Message Size) = ⊥
Wrong tag size admits at bytes (Message (CutShort place)) = (place ≡ at) × (((1 ≤ length bytes) × (length bytes ≤ 2)) ⊎ Short bytes)
Wrong tag size admits at bytes (Message (NotDue place)) = (place ≡ at) × ((bytes ≡ []) ⊎ ((other : ℕ) × (body : List ℕ) × Whole bytes other body × (other ≢ tag)))
Wrong tag size admits at bytes (Message (Length place)) = (place ≡ at) × ((body : List ℕ) × Whole bytes tag body × (length body ≢ size))
Wrong tag size admits at bytes (Value place) = (place ≡ at) × ((body : List ℕ) × Whole bytes tag body × (length body ≡ size) × (admits (big_endian 0 body) ≡ false))

-- the limits of a kind's numbers
abbrev pub limits_of : Kind → List Limit
limits_of Beam = beam_limits
limits_of Column = column_limits
limits_of Wall = wall_limits

-- the kind and the numbers before one stand as they should, and that one is wrong
pub record WrongNumber (bytes : List ℕ) (fault : SheetFault) : Type 0 where
  pub kind : Kind
  pub read : List ℕ
  pub passed : List Limit
  pub limit : Limit
  pub later : List Limit
  pub rest : List ℕ
  pub limits : limits_of kind ≡ passed ++ limit ∷ later
  pub lawful : admitted passed read ≡ true
  pub spelled : bytes ≡ message_of kind read ++ rest
  pub wrong : Wrong (16 + length read) 4 (within limit) (length (message_of kind read)) rest fault

-- a whole message stands at the front, and bytes are left over: the fault is at the first of them
pub record LeftOver (bytes : List ℕ) (fault : SheetFault) : Type 0 where
  pub kind : Kind
  pub read : List ℕ
  pub first : ℕ
  pub more : List ℕ
  pub lawful : admitted (limits_of kind) read ≡ true
  pub spelled : bytes ≡ message_of kind read ++ (first ∷ more)
  pub place : fault ≡ Message (NotDue (length (message_of kind read)))

-- where a message is at fault: its size; else its kind, the first wrong number, or what is left over
abbrev pub FaultAt : List ℕ → SheetFault → Type 0
FaultAt bytes fault = (((length bytes ≡ 0) ⊎ (256 < length bytes)) × (fault ≡ Message Size)) ⊎ ((1 ≤ length bytes) × (length bytes ≤ 256) × (Wrong 1 1 (λ n. is_some (kind_of n)) 0 bytes fault ⊎ (WrongNumber bytes fault ⊎ LeftOver bytes fault)))
