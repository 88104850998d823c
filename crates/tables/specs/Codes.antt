-- The number of each case of the closed lists, and the case of each number. Assumes nothing.
use Rattle.std.specs.Prelude.{ℕ, cond, List, [], ◌∷◌, Some, None, Option, Ok, Err, Result, ◌==◌}
use Rattle.tables.specs.declared.codes.Unlisted.{Unlisted}
use Rattle.tables.specs.declared.codes.Kind.{Kind}
use Rattle.tables.specs.declared.codes.Kind.TheVariants.{Beam, Column, Wall}
use Rattle.tables.specs.declared.codes.Analysis.{Analysis}
use Rattle.tables.specs.declared.codes.Analysis.TheVariants.{Static, Dynamic}
use Rattle.tables.specs.declared.codes.Quantity.{Quantity}
use Rattle.tables.specs.declared.codes.Quantity.TheVariants.{Thickness, TieSpacing, Storey}
use Rattle.tables.specs.declared.codes.Sense.{Sense}
use Rattle.tables.specs.declared.codes.Sense.TheVariants.{AtLeast, AtMost}

-- the case with this number, among the cases listed
abbrev pub numbered : {A : Type 0} → (A → ℕ) → List A → ℕ → Option A
numbered number [] n = None
numbered number (case ∷ cases) n = cond (number case == n) (Some case) (numbered number cases n)

-- the kinds of member
abbrev pub kind_number : Kind → ℕ
kind_number Beam = 1
kind_number Column = 2
kind_number Wall = 3

-- the kind of a number, or none
abbrev pub kind_of : ℕ → Option Kind
kind_of = numbered kind_number (Beam ∷ Column ∷ Wall ∷ [])

-- how a wall's shear was found
abbrev pub analysis_number : Analysis → ℕ
analysis_number Static = 1
analysis_number Dynamic = 2

-- the analysis of a number, or none
abbrev pub analysis_of : ℕ → Option Analysis
analysis_of = numbered analysis_number (Static ∷ Dynamic ∷ [])

-- what a rule of a specification measures
abbrev pub quantity_number : Quantity → ℕ
quantity_number Thickness = 1
quantity_number TieSpacing = 2
quantity_number Storey = 3

-- the quantity of a number, or none
abbrev pub quantity_of : ℕ → Option Quantity
quantity_of = numbered quantity_number (Thickness ∷ TieSpacing ∷ Storey ∷ [])

-- which way a rule of a specification bounds
abbrev pub sense_number : Sense → ℕ
sense_number AtLeast = 1
sense_number AtMost = 2

-- the sense of a number, or none
abbrev pub sense_of : ℕ → Option Sense
sense_of = numbered sense_number (AtLeast ∷ AtMost ∷ [])

-- the case found, or the error that the number is not listed
abbrev pub or_unlisted : {A : Type 0} → Option A → Result A Unlisted
or_unlisted (Some case) = Ok case
or_unlisted None = Err (record {})
