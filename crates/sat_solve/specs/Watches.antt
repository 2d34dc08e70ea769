-- Watched literals: each clause is watched at two of its literals, and is looked at when one of them becomes false.
use Rattle.std.specs.Prelude.{◌≡◌, ◌≢◌, ℕ, ◌+◌, ◌-◌, ◌*◌, ◌≤◌, ◌⊎◌, List, [], ◌∷◌, ◌++◌, length, drop, Some, slice_get, slice_set, slice_index_or, Contains}
use Rattle.sat_base.specs.declared.literals.Lit.{Lit}
use Rattle.sat_solve.specs.declared.trail.Entry.{Entry}
use Rattle.sat_solve.specs.declared.lists.Watch.{Watch}
use Rattle.sat_solve.specs.declared.pairs.Pair.{Pair}
use Rattle.sat_solve.specs.declared.watches.Outcome.{Outcome}
use Rattle.sat_solve.specs.declared.watches.Outcome.TheVariants.{Stays, Moved, Falsified}
use Rattle.sat_solve.specs.Trail.{IsTrueIn, IsFalseIn, IsConflict}
use Rattle.sat_solve.specs.Decisions.{IsDecisionAt}
use Rattle.sat_base.specs.Codes.{literal_of, code_of}
use Rattle.sat_solve.specs.Held.{Held}

-- a literal of the clause is true
abbrev pub HasTrue : List Entry → List Lit → Type 0
HasTrue trail lits = (x : Lit) × Contains lits x × IsTrueIn trail x

-- Where a watched literal is false by those entries that have been gone over, some literal of the clause is true.
pub record IsKept (trail done : List Entry) (h : Held) : Type 0 where
  pub one : IsFalseIn done (literal_of h.first) → HasTrue trail h.lits
  pub two : IsFalseIn done (literal_of h.second) → HasTrue trail h.lits
  pub single : h.first ≡ h.second → HasTrue trail h.lits

-- The watched literals are the clause's. A clause that is watched at one literal has no other.
pub record IsPaired (h : Held) : Type 0 where
  pub first_in : Contains h.lits (literal_of h.first)
  pub second_in : Contains h.lits (literal_of h.second)
  pub alone : h.first ≡ h.second → (x : Lit) → Contains h.lits x → x ≡ literal_of h.first

abbrev pub IsPairedAt : List Held → ℕ → Type 0
IsPairedAt held k = (h : Held) → slice_get held k ≡ Some h → IsPaired h

-- clause k is in the list of the literal of this code
abbrev pub HasWatch : List (List Watch) → (code k : ℕ) → Type 0
HasWatch lists code k = (w : Watch) × Contains (slice_index_or lists code []) w × (w.clause ≡ k)

-- the watch is one of a clause, and its blocker is a literal of that clause
abbrev pub IsFitting : List Held → Watch → Type 0
IsFitting held w = (h : Held) × (slice_get held w.clause ≡ Some h) × Contains h.lits (literal_of w.blocker)

-- the n oldest entries
abbrev pub oldest : ℕ → List Entry → List Entry
oldest n trail = drop (length trail - n) trail

pub record IsWatchedClause (trail : List Entry) (head : ℕ) (lists : List (List Watch)) (k : ℕ) (h : Held) : Type 0 where
  pub paired : IsPaired h
  pub first_listed : HasWatch lists h.first k
  pub second_listed : HasWatch lists h.second k
  pub kept : IsKept trail (oldest head trail) h
  pub below : (m : ℕ) → IsDecisionAt trail m → IsKept (drop (m + 1) trail) (drop (m + 1) trail) h

-- All clauses are watched; the `head` oldest entries have been gone over. Below each decision all had been.
pub record IsWatched (vars : ℕ) (trail : List Entry) (head : ℕ) (held : List Held) (lists : List (List Watch)) : Type 0 where
  pub sized : length lists ≡ 2 * vars
  pub within : head ≤ length trail
  pub each : (k : ℕ) (h : Held) → slice_get held k ≡ Some h → IsWatchedClause trail head lists k h
  pub fitting : (code : ℕ) (w : Watch) → Contains (slice_index_or lists code []) w → IsFitting held w

-- clause k has a true literal
abbrev pub HasTrueAt : List Held → List Entry → ℕ → Type 0
HasTrueAt held trail k = (h : Held) → slice_get held k ≡ Some h → HasTrue trail h.lits

-- the trail is the same, or has one more literal, with its reason
abbrev pub IsAtMostOneMore : List Entry → List Entry → Type 0
IsAtMostOneMore before after = (after ≡ before) ⊎ ((l : Lit) × (r : ℕ) × (after ≡ record { lit = l; reason = Some r } ∷ before))

-- a watch of clause k leaves the literal of a code for another that is not false
pub record IsMove (trail : List Entry) (held held' : List Held) (lists lists' : List (List Watch)) (code k : ℕ) : Type 0 where
  pub clause : Held
  pub at : slice_get held k ≡ Some clause
  pub other : ℕ
  pub next : ℕ
  pub other_is : (other ≡ clause.first) ⊎ (other ≡ clause.second)
  pub other_apart : other ≢ code
  pub next_in : Contains clause.lits (literal_of next)
  pub next_apart : next ≢ other
  pub next_known : ¬ IsFalseIn trail (literal_of next)
  pub held_is : held' ≡ slice_set held k record { lits = clause.lits; first = other; second = next }
  pub lists_are : lists' ≡ slice_set lists next (slice_index_or lists next [] ++ record { clause = k; blocker = other } ∷ [])

-- what a look at clause k does, on account of a watched literal that has become false
abbrev pub IsLooked : (trail trail' : List Entry) (held held' : List Held) (lists lists' : List (List Watch)) (code k : ℕ) → Outcome → Type 0
IsLooked trail trail' held held' lists lists' code k (Stays w) =
    (held' ≡ held) × (lists' ≡ lists) × (w.clause ≡ k) × IsFitting held w × HasTrueAt held trail' k × IsAtMostOneMore trail trail'
IsLooked trail trail' held held' lists lists' code k Moved = (trail' ≡ trail) × IsMove trail held held' lists lists' code k
IsLooked trail trail' held held' lists lists' code k Falsified =
    (held' ≡ held) × (lists' ≡ lists) × (trail' ≡ trail) × ((h : Held) → slice_get held k ≡ Some h → IsConflict trail h.lits)

-- a clause gets the next number and is watched at two literals, each in the other's list
pub record IsAdded (pairs pairs' : List Pair) (lists lists' : List (List Watch)) (first second : Lit) : Type 0 where
  pub middle : List (List Watch)
  pub pairs_are : pairs' ≡ pairs ++ record { first = code_of first; second = code_of second } ∷ []
  pub middle_is : middle ≡ slice_set lists (code_of first) (slice_index_or lists (code_of first) [] ++ record { clause = length pairs; blocker = code_of second } ∷ [])
  pub lists_are : lists' ≡ slice_set middle (code_of second) (slice_index_or middle (code_of second) [] ++ record { clause = length pairs; blocker = code_of first } ∷ [])
