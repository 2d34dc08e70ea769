-- What a checker keeps between two calls.
use Rattle.std.specs.Prelude.{◌≡◌, ℕ, ◌*◌, ◌^◌, ◌<◌, ◌≤◌, Bool, false, List, length, All, replicate}
use Rattle.std.specs.List.Sorted.{IsStrictlyIncreasing}

-- the variables ascend, the literals of the clauses are numbers of theirs, and none is marked
pub record IsReady (variables : List ℕ) (clauses : List (List ℕ)) (marks : List Bool) : Type 0 where
  pub increasing : IsStrictlyIncreasing variables
  pub fits : 2 * length variables ≤ 2 ^ 32
  pub range : All (All (λ x. x < 2 * length variables)) clauses
  pub clean : marks ≡ replicate (2 * length variables) false
