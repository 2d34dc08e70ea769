-- The state of a search with its watches.
use Rattle.std.specs.Prelude.{◌≡◌, ℕ, ◌-◌, ◌<◌, ◌≤◌, ◌^◌, List, [], length, Some, slice_get}
use Rattle.sat_base.specs.declared.logs.Lemma.{Lemma}
use Rattle.sat_base.specs.Literal.{negation}
use Rattle.sat_base.specs.Formula.{Formula}
use Rattle.sat_solve.specs.declared.trail.Entry.{Entry}
use Rattle.sat_solve.specs.declared.lists.Watch.{Watch}
use Rattle.sat_solve.specs.declared.pairs.Pair.{Pair}
use Rattle.sat_solve.specs.Kept.{TrailView}
use Rattle.sat_solve.specs.State.{known_clauses, IsState}
use Rattle.sat_solve.specs.Decisions.{IsUndecided}
use Rattle.sat_base.specs.Codes.{code_of}
use Rattle.sat_solve.specs.Held.{Held, held_by}
use Rattle.sat_solve.specs.Watches.{IsWatched}

-- the known clauses that have a pair, as they are held
abbrev pub held_of : Formula → List Lemma → List Pair → List Held
held_of f log pairs = held_by pairs (known_clauses f log)

-- All known clauses have a pair, and are watched.
pub record IsSearch (f : Formula) (log : List Lemma) (trail : TrailView) (pairs : List Pair) (lists : List (List Watch)) (head : ℕ) : Type 0 where
  pub state : IsState f log trail
  pub small : trail.vars < 2 ^ 31
  pub paired : length pairs ≡ length (known_clauses f log)
  pub watched : IsWatched trail.vars trail.entries head (held_of f log pairs) lists

-- the code is that of the literal that the oldest entry that has not been gone over makes false
pub record IsNext (trail : List Entry) (head code : ℕ) : Type 0 where
  pub entry : Entry
  pub within : head < length trail
  pub at : slice_get trail (length trail - 1 - head) ≡ Some entry
  pub is : code ≡ code_of (negation entry.lit)

-- the first clauses of the formula have been loaded, as many as this number says, and nothing is decided
pub record IsLoaded (f : Formula) (trail : TrailView) (pairs : List Pair) (lists : List (List Watch)) (head number : ℕ) : Type 0 where
  pub state : IsState f [] trail
  pub small : trail.vars < 2 ^ 31
  pub undecided : IsUndecided trail.entries 0 (length trail.entries)
  pub within : number ≤ length f.clauses
  pub paired : length pairs ≡ number
  pub start : head ≡ 0
  pub watched : IsWatched trail.vars trail.entries head (held_of f [] pairs) lists
