-- What follows by propagation is implied: lemmas on the definitions of specs/.
use Rattle.std.proofs.Common.{◌≡◌, ℕ, zero, suc, ◌<◌, ◌≤◌, Bool, true, false, not, cond, ◌⊎◌, inl, inr, List, [], ◌∷◌, ◌++◌, length, take, map, slice_get, Some, All, Contains, arith, refl, sym, ap, ◌∙◌, subst, get_or, append_assoc}
use Rattle.std.proofs.lemmas.Option.{slice_get_within, get_or_from_slice_get}
use Rattle.std.proofs.lemmas.List.{map-append}
use Rattle.std.proofs.lemmas.List.Elements.{All-push}
use Rattle.std.proofs.Math.Seq.{take-suc}
use Rattle.sat_base.specs.declared.literals.Lit.{Lit}
use Rattle.sat_base.specs.declared.logs.Lemma.{Lemma}
use Rattle.sat_base.specs.Literal.{negation}
use Rattle.sat_base.specs.Formula.{Formula, value, SatisfiesClause, Satisfies}
use Rattle.sat_base.specs.Propagation.{IsUnitUnder, IsConflictBy, Follows}
use Rattle.sat_base.specs.Log.{earlier_clauses, FollowsAt, Refutes}

-- a member of a longer list is its head or a member of its tail
pub Contains-cons_cases : {X : Type 0} (x : X) (xs : List X) (y : X) → Contains (x ∷ xs) y → (x ≡ y) ⊎ Contains xs y
Contains-cons_cases x xs y (zero, below, same) = inl same
Contains-cons_cases x xs y (suc k, below, same) = inr (k, omega arith, same)

-- the clause at a place holds what all clauses hold
pub All-slice_get : {X : Type 0} (P : X → Type 0) (xs : List X) (k : ℕ) (x : X) → slice_get xs k ≡ Some x → All P xs → P x
All-slice_get P xs k x found all =
    subst P (get_or_from_slice_get xs k x x found) (all k x (slice_get_within xs k x found))

-- the negation of a true literal is false
pub value-negation : (a : List Bool) (l : Lit) → value a (negation l) ≡ true → value a l ≡ false
value-negation a l h = negation_cases l.negative (get_or a l.var false) h
  where
    negation_cases : (negative positive : Bool) → cond (not negative) (not positive) positive ≡ true → cond negative (not positive) positive ≡ false
    negation_cases true true h = refl
    negation_cases true false h = cc
    negation_cases false true h = cc
    negation_cases false false h = refl

-- a set of literals with a true one among them
abbrev pub HasTrue : List Bool → List Lit → Type 0
HasTrue a lits = (l : Lit) × Contains lits l × (value a l ≡ true)

pub HasTrue-from : (a : List Bool) (lits : List Lit) → SatisfiesClause a lits → HasTrue a lits
HasTrue-from a lits (k, l, below, same, holds) = (l, (k, below, same), holds)

pub SatisfiesClause-from : (a : List Bool) (lits : List Lit) → HasTrue a lits → SatisfiesClause a lits
SatisfiesClause-from a lits (l, (k, below, same), holds) = (k, l, below, same, holds)

-- a unit's negation is false where its clause is true and all falsified literals are false: so one of these is true
unit_step : (a : List Bool) (falsified clause : List Lit) (l : Lit) → IsUnitUnder falsified clause l → SatisfiesClause a clause
    → HasTrue a (negation l ∷ falsified) → HasTrue a falsified
unit_step a falsified clause l unit holds (m, member, true_m) =
    elim (Contains-cons_cases (negation l) falsified m member) [
      | inr below ↦ (m, below, true_m)
      | inl same ↦ from_clause (HasTrue-from a clause holds) (value-negation a l (subst (λ (x : Lit). value a x ≡ true) (sym same) true_m))
    ]
  where
    from_clause : HasTrue a clause → value a l ≡ false → HasTrue a falsified
    from_clause (n, own, true_n) false_l =
        elim (unit.others n own) [
          | inr below ↦ (n, below, true_n)
          | inl same ↦ absurd (distinct (subst (λ (x : Lit). value a x ≡ true) same true_n) false_l)
        ]
      where
        distinct : value a l ≡ true → value a l ≡ false → ⊥
        distinct p q = cc

-- where a walk ends in a conflict, and the earlier clauses are true, a literal that was taken to be false is true
pub conflict_true : (a : List Bool) (earlier : List (List Lit)) → All (SatisfiesClause a) earlier
    → (falsified : List Lit) (hints : List ℕ) → IsConflictBy earlier falsified hints → HasTrue a falsified
conflict_true a earlier all falsified [] walk = absurd walk
conflict_true a earlier all falsified (hint ∷ []) (clause, found, inside) =
    let holds = HasTrue-from a clause (All-slice_get (SatisfiesClause a) earlier hint clause found all) in
    (holds.0, inside holds.0 holds.1, holds.2)
conflict_true a earlier all falsified (hint ∷ next ∷ hints) (clause, found, l, unit, apart, walk) =
    unit_step a falsified clause l unit (All-slice_get (SatisfiesClause a) earlier hint clause found all)
    (conflict_true a earlier all (negation l ∷ falsified) (next ∷ hints) walk)

pub follows_implied : (earlier : List (List Lit)) (lits : List Lit) (hints : List ℕ) → Follows earlier lits hints
    → (a : List Bool) → All (SatisfiesClause a) earlier → SatisfiesClause a lits
follows_implied earlier lits hints walk a all = SatisfiesClause-from a lits (conflict_true a earlier all lits hints walk)

-- the clauses before step k + 1 are those before step k, and step k
pub earlier_clauses-suc : (f : Formula) (log : List Lemma) (k : ℕ) (s : Lemma) → slice_get log k ≡ Some s
    → earlier_clauses f log (suc k) ≡ earlier_clauses f log k ++ (s.lits ∷ [])
earlier_clauses-suc f log k s found =
    let within : k < length log = slice_get_within log k s found in
    let taken : take (suc k) log ≡ take k log ++ (s ∷ []) =
    take-suc log k s within ∙ ap (λ (x : Lemma). take k log ++ (x ∷ [])) (get_or_from_slice_get log k s s found) in
    ap (λ (xs : List Lemma). f.clauses ++ map (λ (x : Lemma). x.lits) xs) taken
    ∙ ap (λ (xs : List (List Lit)). f.clauses ++ xs) (map-append (λ (x : Lemma). x.lits) (take k log) (s ∷ []))
    ∙ sym (append_assoc f.clauses (map (λ (x : Lemma). x.lits) (take k log)) (s.lits ∷ []))

-- where the first n steps follow, they are true wherever the formula is
pub earlier_true : (f : Formula) (log : List Lemma) (a : List Bool) → Satisfies a f
    → (n : ℕ) → ((j : ℕ) → j < n → FollowsAt f log j) → All (SatisfiesClause a) (earlier_clauses f log n)
earlier_true f log a holds zero follow = subst (All (SatisfiesClause a)) (sym (no_steps f.clauses)) holds
  where
    no_steps : (xs : List (List Lit)) → xs ++ [] ≡ xs
    no_steps [] = refl
    no_steps (x ∷ xs) = ap (λ (ys : List (List Lit)). x ∷ ys) (no_steps xs)
earlier_true f log a holds (suc n) follow =
    let before = earlier_true f log a holds n (λ j h. follow j (omega arith)) in
    let step = follow n (omega arith) in
    subst (All (SatisfiesClause a)) (sym (earlier_clauses-suc f log n step.0 step.1))
    (All-push (SatisfiesClause a) (earlier_clauses f log n) step.0.lits before (follows_implied _ _ _ step.2 a before))

-- a step that follows after steps that follow is true wherever the formula is
pub step_true : (f : Formula) (log : List Lemma) (a : List Bool) → Satisfies a f
    → (n : ℕ) → ((j : ℕ) → j ≤ n → FollowsAt f log j) → (s : Lemma) → slice_get log n ≡ Some s → SatisfiesClause a s.lits
step_true f log a holds n follow s found =
    let step = follow n (omega arith) in
    let same : step.0 ≡ s = cc in
    let before = earlier_true f log a holds n (λ j h. follow j (omega arith)) in
    subst (λ (x : Lemma). SatisfiesClause a x.lits) same (follows_implied _ _ _ step.2 a before)

pub refuted_unsatisfiable : (f : Formula) (log : List Lemma) → Refutes f log → (a : List Bool) → Satisfies a f → ⊥
refuted_unsatisfiable f log (k, (s, found, empty), follow) a holds =
    none (subst (SatisfiesClause a) empty (step_true f log a holds k follow s found))
  where
    none : SatisfiesClause a [] → ⊥
    none (i, l, below, same, true_l) = omega arith
