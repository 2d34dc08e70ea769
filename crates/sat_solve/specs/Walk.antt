-- A walk back over the trail from a conflict, which gathers a lemma and the hints by which it follows.
use Rattle.std.specs.Prelude.{◌≡◌, ℕ, ◌<◌, ◌≤◌, Bool, true, false, List, length, drop, reverse, ◌⊎◌, Some, None, slice_get, slice_index_or, Contains}
use Rattle.sat_base.specs.declared.literals.Lit.{Lit}
use Rattle.sat_base.specs.Formula.{IsClauseOver}
use Rattle.sat_base.specs.Log.{HasEachVariableOnce}
use Rattle.sat_base.specs.Propagation.{IsConflictBy}
use Rattle.sat_solve.specs.declared.trail.Entry.{Entry}
use Rattle.sat_solve.specs.Trail.{sign_at, IsFalseIn}

-- which variables are marked, by the list of the marks
abbrev pub is_marked : List Bool → ℕ → Bool
is_marked marks v = slice_index_or marks v false

-- A set of false literals at which the walk along the hints may stand before an entry: it has the lemma's literals so far. Its
-- other literals are false by the older entries, and of those it has at least each over a marked variable.
pub record IsReached (older : List Entry) (lits : List Lit) (marks : List Bool) (falsified : List Lit) : Type 0 where
  pub lits_in : (x : Lit) → Contains lits x → Contains falsified x
  pub no_more : (x : Lit) → Contains falsified x → Contains lits x ⊎ IsFalseIn older x
  pub marked_in : (x : Lit) → IsFalseIn older x → is_marked marks x.var ≡ true → Contains falsified x

-- from each such set the hints gathered so far lead to a conflict
abbrev pub Completes : List (List Lit) → List Entry → List Lit → List Bool → List ℕ → Type 0
Completes clauses older lits marks hints =
    (falsified : List Lit) → IsReached older lits marks falsified → IsConflictBy clauses falsified hints

-- The walk before the entry at place k: what is marked is still looked at; the literals are the opposites of entries passed,
-- each once; and the numbers, the last one first, complete it.
pub record IsWalked (clauses : List (List Lit)) (trail : List Entry) (vars k : ℕ) (marks : List Bool) (lits : List Lit) (numbers : List ℕ) : Type 0 where
  pub sized : length marks ≡ vars
  pub some : 0 < length numbers
  pub known : IsClauseOver vars lits
  pub once : HasEachVariableOnce lits
  pub passed : (x : Lit) → Contains lits x → sign_at (drop k trail) x.var ≡ None
  pub falsified : (x : Lit) → Contains lits x → IsFalseIn trail x
  pub completes : Completes clauses (drop k trail) lits marks (reverse numbers)

-- no entry from one place on, up to another that is not meant, is looked at
abbrev pub AreUnmarked : List Entry → List Bool → (from to : ℕ) → Type 0
AreUnmarked trail marks from to =
    (k : ℕ) (e : Entry) → from ≤ k → k < to → slice_get trail k ≡ Some e → is_marked marks e.lit.var ≡ false
