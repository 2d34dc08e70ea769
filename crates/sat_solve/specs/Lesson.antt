-- What a conflict teaches: a lemma that is new, and how far it leads back.
use Rattle.std.specs.Prelude.{◌≡◌, ◌≢◌, ℕ, ◌+◌, ◌≤◌, Bool, true, false, List, [], ◌∷◌, ◌++◌, length, drop, ◌⊎◌, Some, None, slice_get, Contains}
use Rattle.sat_base.specs.declared.literals.Lit.{Lit}
use Rattle.sat_base.specs.Literal.{negation}
use Rattle.sat_base.specs.Propagation.{IsNew}
use Rattle.sat_solve.specs.declared.trail.Entry.{Entry}
use Rattle.sat_solve.specs.Trail.{sign_at, IsFalseIn}
use Rattle.sat_solve.specs.Decisions.{IsDecisionAt, IsUndecided}

-- The literals of a set (a test) are false, and unit propagation in the clauses gives no more and no conflict.
pub record IsStable (clauses : List (List Lit)) (inside : Lit → Bool) : Type 0 where
  pub no_conflict : (clause : List Lit) → Contains clauses clause → ¬ ((m : Lit) → Contains clause m → inside m ≡ true)
  pub closed : (clause : List Lit) (m : Lit) → Contains clauses clause → Contains clause m → inside m ≡ false
      → ((n : Lit) → Contains clause n → n ≢ m → inside n ≡ true) → inside (negation m) ≡ true

-- Unit propagation over the clauses, from nothing, does not fail: some set of false literals is closed under it, and no clause
-- lies wholly in it.
abbrev pub PropagatesWithoutConflict : List (List Lit) → Type 0
PropagatesWithoutConflict clauses = (inside : Lit → Bool) × IsStable clauses inside

-- The place `back` is not above the level of the literals besides the first: there is no decision from there on if there is no
-- other literal, and the first of the others has no value below any decision.
abbrev pub IsBound : List Entry → (back end : ℕ) → List Lit → Type 0
IsBound trail back end [] = IsUndecided trail back end
IsBound trail back end (y ∷ more) =
    (k : ℕ) → back ≤ k → IsDecisionAt trail k → sign_at (drop (k + 1) trail) y.var ≡ None

-- Below some decision, from place `back` on, the lemma's first literal, the point, has no value, and the rest are false. The
-- point has none from place `start` on, which is not older.
pub record IsForcedFrom (trail : List Entry) (start back end : ℕ) (lits : List Lit) : Type 0 where
  pub point : Lit
  pub rest : List Lit
  pub lits_are : lits ≡ point ∷ rest
  pub ordered : start ≤ back
  pub decision : (k : ℕ) × (back ≡ k + 1) × IsDecisionAt trail k
  pub point_open : sign_at (drop start trail) point.var ≡ None
  pub rest_false : (x : Lit) → Contains rest x → IsFalseIn (drop back trail) x
  pub bound : IsBound trail back end rest

-- the same before the entry at place k, but that the lemma may have got its opposite already
abbrev pub IsDescended : List Entry → (start back k : ℕ) → List Lit → Type 0
IsDescended trail start back k lits =
    (before : List Lit) × IsForcedFrom trail start back k before × (back ≤ k)
    × ((e : Entry) → slice_get trail k ≡ Some e → (lits ≡ before) ⊎ (lits ≡ before ++ negation e.lit ∷ []))

-- what a lemma with a literal is known by: it is new, propagation over the clauses before it does not fail, and it forces its
-- first literal from place `back` on
pub record IsLesson (clauses : List (List Lit)) (trail : List Entry) (lits : List Lit) (back : ℕ) : Type 0 where
  pub new : IsNew clauses lits
  pub quiet : PropagatesWithoutConflict clauses
  pub start : ℕ
  pub forced : IsForcedFrom trail start back (length trail) lits

-- the empty lemma comes where nothing is decided
abbrev pub IsTaught : List (List Lit) → List Entry → List Lit → ℕ → Type 0
IsTaught clauses trail lits back = (lits ≡ []) ⊎ IsLesson clauses trail lits back
