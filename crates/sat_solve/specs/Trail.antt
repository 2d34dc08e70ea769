-- What a trail of true literals says of clauses. A trail is written newest entry first, so what is
-- older than an entry is a tail.
use Rattle.std.specs.Prelude.{◌≡◌, ℕ, ◌==◌, if◌then◌else◌, Bool, not, List, [], ◌∷◌, ◌⊎◌, slice_get, Contains, Option, Some, None, MatchOption}
use Rattle.sat_base.specs.declared.literals.Lit.{Lit}
use Rattle.sat_solve.specs.declared.trail.Entry.{Entry}

-- the sign of the literal of a variable that the trail makes true
abbrev pub sign_at : List Entry → ℕ → Option Bool
sign_at [] v = None
sign_at (e ∷ older) v = if e.lit.var == v then Some e.lit.negative else sign_at older v

abbrev pub IsTrueIn : List Entry → Lit → Type 0
IsTrueIn trail x = sign_at trail x.var ≡ Some x.negative

abbrev pub IsFalseIn : List Entry → Lit → Type 0
IsFalseIn trail x = sign_at trail x.var ≡ Some (not x.negative)

-- each literal of the clause is false
abbrev pub IsConflict : List Entry → List Lit → Type 0
IsConflict trail clause = (x : Lit) → Contains clause x → IsFalseIn trail x

-- the literal is in the clause, and the others are false
pub record IsUnit (trail : List Entry) (clause : List Lit) (l : Lit) : Type 0 where
  pub own : Contains clause l
  pub others : (x : Lit) → Contains clause x → (x ≡ l) ⊎ IsFalseIn trail x

-- two different literals of the clause are not false
pub record HasTwoOpen (trail : List Entry) (clause : List Lit) : Type 0 where
  pub one : Lit
  pub two : Lit
  pub one_in : Contains clause one
  pub two_in : Contains clause two
  pub differ : ¬ (one ≡ two)
  pub one_open : ¬ IsFalseIn trail one
  pub two_open : ¬ IsFalseIn trail two

-- unit propagation gets nothing from the clause: a literal is true, or two are not false
abbrev pub IsSettled : List Entry → List Lit → Type 0
IsSettled trail clause =
    ((x : Lit) × Contains clause x × IsTrueIn trail x) ⊎ HasTwoOpen trail clause

-- unit propagation has come to its end without a conflict
abbrev pub IsClosed : List (List Lit) → List Entry → Type 0
IsClosed clauses trail = (c : List Lit) → Contains clauses c → IsSettled trail c

-- the clause of number r is unit, and its open literal is l
abbrev pub IsReason : List (List Lit) → List Entry → Lit → ℕ → Type 0
IsReason clauses older l r = (c : List Lit) × (slice_get clauses r ≡ Some c) × IsUnit older c l

-- An entry stands rightly on the older ones: its variable had no value. A decision comes only where
-- unit propagation has come to its end, and any other literal was the open one of its reason.
pub record IsStep (clauses : List (List Lit)) (older : List Entry) (e : Entry) : Type 0 where
  pub fresh : sign_at older e.lit.var ≡ None
  pub cause : MatchOption e.reason (IsClosed clauses older) (IsReason clauses older e.lit)

abbrev pub IsSound : List (List Lit) → List Entry → Type 0
IsSound clauses [] = Unit {0}
IsSound clauses (e ∷ older) = IsStep clauses older e × IsSound clauses older
