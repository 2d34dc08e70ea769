-- Where two lists of values differ, and where values are other than stated ones.
use Rattle.std.specs.Prelude.{◌≡◌, ◌≢◌, ℕ, ◌<◌, List, slice_get, Option, Some, None}
use Rattle.wb_values.specs.Value.{Value}
use Rattle.model_meaning.specs.Model.{StateDeclaration}

-- The two have different values at a place.
pub record DifferAt (xs ys : List Value) (k : ℕ) : Type 0 where
  pub one : Value
  pub two : Value
  pub is_one : slice_get xs k ≡ Some one
  pub is_two : slice_get ys k ≡ Some two
  pub differs : one ≢ two

-- The first place at which two lists differ: none where they are one list.
abbrev pub IsFirstDifference : (xs ys : List Value) → Option ℕ → Type 0
IsFirstDifference xs ys None = xs ≡ ys
IsFirstDifference xs ys (Some k) = DifferAt xs ys k × ((l : ℕ) → l < k → slice_get xs l ≡ slice_get ys l)

-- a state at a place has another value than the one that is stated for it
pub record IsOtherStated (ds : List StateDeclaration) (xs : List Value) (k : ℕ) : Type 0 where
  pub state : StateDeclaration
  pub stated : Value
  pub value : Value
  pub is_state : slice_get ds k ≡ Some state
  pub is_stated : state.init ≡ Some stated
  pub is_value : slice_get xs k ≡ Some value
  pub differs : value ≢ stated

-- The first state with another value than the one that is stated for it, if there is one.
abbrev pub IsFirstOtherStated : List StateDeclaration → List Value → Option ℕ → Type 0
IsFirstOtherStated ds xs None = (k : ℕ) → ¬ IsOtherStated ds xs k
IsFirstOtherStated ds xs (Some k) = IsOtherStated ds xs k × ((l : ℕ) → l < k → ¬ IsOtherStated ds xs l)
