-- The truth of literals.
use Rattle.std.specs.Prelude.{◌≡◌, ℕ, ◌+◌, ◌*◌, Bool, true, false, List, None, length, slice_index_or, slice_set}
use Rattle.sat_base.specs.declared.literals.Lit.{Lit}
use Rattle.sat_solve.specs.declared.trail.Entry.{Entry}
use Rattle.sat_solve.specs.declared.trail.Truth.{Truth}
use Rattle.sat_solve.specs.declared.trail.Truth.TheVariants.{True, False, Open}
use Rattle.sat_base.specs.Codes.{code_of}
use Rattle.sat_solve.specs.Trail.{sign_at, IsTrueIn, IsFalseIn}

abbrev pub IsTruth : List Entry → Lit → Truth → Type 0
IsTruth trail x True = IsTrueIn trail x
IsTruth trail x False = IsFalseIn trail x
IsTruth trail x Open = sign_at trail x.var ≡ None

abbrev pub truth_by : Bool → Truth
truth_by true = True
truth_by false = False

-- for each literal its truth, at its code
pub record AreTruths (trail : List Entry) (vars : ℕ) (truths : List Truth) : Type 0 where
  pub sized : length truths ≡ 2 * vars
  pub right : (x : Lit) → IsTruth trail x (slice_index_or truths (code_of x) Open)

-- the truths with those of both literals of a variable written
abbrev pub with_pair : List Truth → ℕ → Truth → Truth → List Truth
with_pair truths v positive negative = slice_set (slice_set truths (2 * v) positive) (2 * v + 1) negative
