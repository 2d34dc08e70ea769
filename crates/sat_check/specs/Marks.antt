-- What a set of numbers keeps of its members.
use Rattle.std.specs.Prelude.{◌≡◌, ℕ, ◌<◌, Bool, true, false, if◌then◌else◌, List, length, take, slice_index, slice_index_or, sum_by, Contains}

-- how many numbers are members
abbrev pub member_count : List Bool → ℕ
member_count marked = sum_by (λ b. if b then 1 else 0) marked

-- the first `count` places of the list hold the members and no others
pub record ListsMembers (marked : List Bool) (members : List ℕ) (count : ℕ) : Type 0 where
  pub room : length members ≡ length marked
  pub all : count ≡ member_count marked
  pub in_range : (k : ℕ) → k < count → slice_index members k < length marked
  pub listed : (x : ℕ) → slice_index_or marked x false ≡ true → Contains (take count members) x
