-- One step of a walk along hints, on literals by number and the set of those that are falsified.
use Rattle.std.specs.Prelude.{◌≡◌, ◌≢◌, ℕ, ◌%◌, ◌<◌, ◌≤◌, ◌^◌, ◌⊎◌, Bool, true, false, List, [], length, slice_index, slice_index_or, All, Contains}
use Rattle.sat_base.specs.declared.literals.Lit.{Lit}
use Rattle.sat_check.specs.Numbering.{opposite}
use Rattle.sat_check.specs.declared.walk.Left.{Left}
use Rattle.sat_check.specs.declared.walk.Left.TheVariants.{Nothing, One, Several}

abbrev pub IsMarked : List Bool → ℕ → Type 0
IsMarked marks x = slice_index_or marks x false ≡ true

-- each of the first n literals of the clause is marked
abbrev pub AreMarked : List Bool → List ℕ → ℕ → Type 0
AreMarked marks clause n = (k : ℕ) → k < n → IsMarked marks (slice_index clause k)

-- x is the one literal among the first n of the clause that is not marked
pub record IsOnlyLeft (marks : List Bool) (clause : List ℕ) (n x : ℕ) : Type 0 where
  pub own : (k : ℕ) × (k < n) × (slice_index clause k ≡ x)
  pub unmarked : slice_index_or marks x false ≡ false
  pub others : (k : ℕ) → k < n → (slice_index clause k ≡ x) ⊎ IsMarked marks (slice_index clause k)

-- two different literals of the clause are not marked
abbrev pub AreTwoLeft : List Bool → List ℕ → Type 0
AreTwoLeft marks clause =
    (i : ℕ) × (j : ℕ) × (i < length clause) × (j < length clause) × (slice_index clause i ≢ slice_index clause j)
    × (slice_index_or marks (slice_index clause i) false ≡ false) × (slice_index_or marks (slice_index clause j) false ≡ false)

-- what is left of a clause
abbrev pub IsLeft : List Bool → List ℕ → Left → Type 0
IsLeft marks clause Nothing = AreMarked marks clause (length clause)
IsLeft marks clause (One x) = IsOnlyLeft marks clause (length clause) x
IsLeft marks clause Several = AreTwoLeft marks clause

-- the numbers of the clauses are below n, which counts both literals of each variable
pub record ArePlaces (n : ℕ) (clauses : List (List ℕ)) : Type 0 where
  pub range : All (All (λ x. x < n)) clauses
  pub even : n % 2 ≡ 0
  pub fits : n ≤ 2 ^ 32

-- the clause of this number is an earlier one, and leaves x alone; and neither x nor its opposite is marked
pub record IsForced (marks : List Bool) (clauses : List (List ℕ)) (earlier hint x : ℕ) : Type 0 where
  pub within : hint < earlier
  pub only : IsOnlyLeft marks (slice_index_or clauses hint []) (length (slice_index_or clauses hint [])) x
  pub unmarked : slice_index_or marks (opposite x) false ≡ false

-- the clause of this number is an earlier one, and each of its literals is marked
abbrev pub IsFalsified : List Bool → List (List ℕ) → (earlier hint : ℕ) → Type 0
IsFalsified marks clauses earlier hint =
    (hint < earlier) × AreMarked marks (slice_index_or clauses hint []) (length (slice_index_or clauses hint []))

-- the marked numbers stand for the members of a set of literals
pub record Represents (at : ℕ → Lit) (marks : List Bool) (falsified : List Lit) : Type 0 where
  pub members : (x : ℕ) → IsMarked marks x → Contains falsified (at x)
  pub marked : (x : ℕ) → x < length marks → Contains falsified (at x) → IsMarked marks x
