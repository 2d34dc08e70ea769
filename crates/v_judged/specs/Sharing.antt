-- Places that share what rests on their module and on the values of its parameters alone.
use Rattle.std.specs.Prelude.{◌≡◌, ◌<◌, ◌≤◌, ◌⊎◌, ◌++◌, ℕ, List, [], ◌∷◌, length, slice_get, Some}
use Rattle.v_places.specs.Below.{Spot}

-- Their modules have the same name, and the parameters the same values.
abbrev pub IsLike : Spot → Spot → Type 0
IsLike y x = (y.of_module.module_name ≡ x.of_module.module_name) × (y.constants ≡ x.constants)

-- They have the same module, with the same values of its parameters.
abbrev pub IsSame : Spot → Spot → Type 0
IsSame y x = (y.of_module ≡ x.of_module) × (y.constants ≡ x.constants)

-- With this number stands one that is like the place.
pub record HasLike (chosen : List Spot) (w : ℕ) (x : Spot) : Type 0 where
  pub other : Spot
  pub is_other : slice_get chosen w ≡ Some other
  pub alike : IsLike other x

-- There is a number, and one that has it.
pub record HasOne (chosen : List Spot) (numbers : List ℕ) (k : ℕ) : Type 0 where
  pub number : ℕ
  pub other : Spot
  pub is_number : slice_get numbers k ≡ Some number
  pub is_other : slice_get chosen number ≡ Some other

-- The number there is that of one which stands for the place.
pub record HasOther (StandsFor : Spot → Spot → Type 0) (chosen : List Spot) (numbers : List ℕ) (k : ℕ) (x : Spot) : Type 0 where
  pub one : HasOne chosen numbers k
  pub stands : StandsFor one.other x

-- nothing, or this one, came behind
abbrev pub IsGrown : List Spot → Spot → List Spot → Type 0
IsGrown old x new = (new ≡ old) ⊎ (new ≡ old ++ x ∷ [])

-- The first so many places have the numbers of chosen ones that stand for them, and these are places themselves.
pub record IsSharingFirst (StandsFor : Spot → Spot → Type 0) (chosen : List Spot) (numbers : List ℕ) (spots : List Spot) (n : ℕ) : Type 0 where
  pub as_many : length numbers ≡ n
  pub within : n ≤ length spots
  pub each : (k : ℕ) (x : Spot) → k < n → slice_get spots k ≡ Some x → HasOther StandsFor chosen numbers k x
  pub among : (w : ℕ) (y : Spot) → slice_get chosen w ≡ Some y → (k : ℕ) × (slice_get spots k ≡ Some y)

-- All places have.
pub record IsSharing (StandsFor : Spot → Spot → Type 0) (chosen : List Spot) (numbers : List ℕ) (spots : List Spot) : Type 0 where
  pub as_many : length numbers ≡ length spots
  pub each : (k : ℕ) (x : Spot) → slice_get spots k ≡ Some x → HasOther StandsFor chosen numbers k x
  pub among : (w : ℕ) (y : Spot) → slice_get chosen w ≡ Some y → (k : ℕ) × (slice_get spots k ≡ Some y)
