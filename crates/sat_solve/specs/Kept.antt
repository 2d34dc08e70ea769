-- What the trail keeps of its variables: what contracts see of it, and what is true of its fields.
use Rattle.std.specs.Prelude.{◌≡◌, ℕ, ◌+◌, Bool, List, [], ◌∷◌, length, slice_index_or, Option, None, is_none, count_by}
use Rattle.sat_solve.specs.declared.trail.Entry.{Entry}
use Rattle.sat_solve.specs.Trail.{sign_at}

-- the number of variables, and the entries, newest first
pub record TrailView : Type 0 where
  pub vars : ℕ
  pub entries : List Entry

-- no entry is over a variable that has a value by the older ones
abbrev pub HasFreshVariables : List Entry → Type 0
HasFreshVariables [] = Unit {0}
HasFreshVariables (e ∷ older) = (sign_at older e.lit.var ≡ None) × HasFreshVariables older

-- the signs of the variables from 0 on are those of the entries, and each entry takes one variable
pub record IsKept (entries : List Entry) (signs : List (Option Bool)) : Type 0 where
  pub same : (v : ℕ) → slice_index_or signs v None ≡ sign_at entries v
  pub fresh : HasFreshVariables entries
  pub counted : length entries + count_by is_none signs ≡ length signs
