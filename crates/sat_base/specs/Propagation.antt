-- Unit propagation along hints: when a clause follows from earlier clauses (RUP, as LRAT writes it, without RAT).
use Rattle.std.specs.Prelude.{◌≡◌, ◌≢◌, ℕ, ◌⊎◌, Bool, true, false, List, [], ◌∷◌, slice_get, Some, Contains}
use Rattle.sat_base.specs.declared.literals.Lit.{Lit}
use Rattle.sat_base.specs.Literal.{negation}

-- Below, `falsified` is a set of literals, kept as a list: those that are taken to be false.

-- l is the one literal of the clause that is not falsified
pub record IsUnitUnder (falsified clause : List Lit) (l : Lit) : Type 0 where
  pub own : Contains clause l
  pub unfalsified : ¬ Contains falsified l
  pub others : (m : Lit) → Contains clause m → (m ≡ l) ⊎ Contains falsified m

-- each literal of the clause is falsified
abbrev pub IsFalsifiedUnder : (falsified clause : List Lit) → Type 0
IsFalsifiedUnder falsified clause = (m : Lit) → Contains clause m → Contains falsified m

-- The walk along the hints. Each but the last is the number of an earlier clause with one literal left.
-- The negation of this literal is not falsified yet, and from now on it is: the literal must be true.
-- The last hint is the number of an earlier clause with no literal left.
abbrev pub IsConflictBy : (earlier : List (List Lit)) (falsified : List Lit) (hints : List ℕ) → Type 0
IsConflictBy earlier falsified [] = ⊥
IsConflictBy earlier falsified (hint ∷ []) =
    (clause : List Lit) × (slice_get earlier hint ≡ Some clause) × IsFalsifiedUnder falsified clause
IsConflictBy earlier falsified (hint ∷ next ∷ hints) =
    (clause : List Lit) × (slice_get earlier hint ≡ Some clause)
    × (l : Lit) × IsUnitUnder falsified clause l × (¬ Contains falsified (negation l))
    × IsConflictBy earlier (negation l ∷ falsified) (next ∷ hints)

-- A clause follows by its hints where to take its literals for false leads to a conflict along them.
abbrev pub Follows : (earlier : List (List Lit)) (lits : List Lit) (hints : List ℕ) → Type 0
Follows earlier lits hints = IsConflictBy earlier lits hints

-- The literals of a set (a test) are false, and unit propagation in the earlier clauses gives no more
-- and no conflict. The set shows that the clause is new by its literal l: the others are in the set,
-- and l does not come out true.
pub record IsNewBy (earlier : List (List Lit)) (lits : List Lit) (l : Lit) (inside : Lit → Bool) : Type 0 where
  pub others : (m : Lit) → Contains lits m → m ≢ l → inside m ≡ true
  pub not_implied : inside (negation l) ≡ false
  pub no_conflict : (clause : List Lit) → Contains earlier clause → ¬ ((m : Lit) → Contains clause m → inside m ≡ true)
  pub closed : (clause : List Lit) (m : Lit) → Contains earlier clause → Contains clause m → inside m ≡ false
      → ((n : Lit) → Contains clause n → n ≢ m → inside n ≡ true) → inside (negation m) ≡ true

-- The clause is new to unit propagation: for one of its literals l, propagation from the negations of
-- the others neither fails nor gives l.
abbrev pub IsNew : (earlier : List (List Lit)) (lits : List Lit) → Type 0
IsNew earlier lits = (l : Lit) × Contains lits l × (inside : Lit → Bool) × IsNewBy earlier lits l inside
