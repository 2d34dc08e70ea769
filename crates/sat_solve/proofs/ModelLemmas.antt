-- That a trail with a value for each variable, where unit propagation has ended, satisfies the formula.
use Rattle.std.proofs.Common.{◌≡◌, ℕ, ◌<◌, Bool, true, false, not, List, map, get_or, ⊎_elim, Option, Some, None, IsSome, refl, sym, ap, subst}
use Rattle.std.specs.List.{Contains}
use Rattle.std.proofs.lemmas.List.Elements.{All-contains, Contains-get_or, Contains-append_left}
use Rattle.sat_base.specs.declared.literals.Lit.{Lit}
use Rattle.sat_base.specs.declared.logs.Lemma.{Lemma}
use Rattle.sat_base.specs.Formula.{Formula, value, SatisfiesClause, Satisfies}
use Rattle.sat_solve.specs.declared.trail.Entry.{Entry}
use Rattle.sat_solve.specs.Trail.{sign_at, IsTrueIn, IsSettled, IsClosed}
use Rattle.sat_solve.specs.Kept.{TrailView}
use Rattle.sat_solve.specs.State.{known_clauses, IsState}

-- a variable with a value makes a literal true that it does not make false
true_if_not_false : (o : Option Bool) (n : Bool) → IsSome o → ¬ (o ≡ Some (not n)) → o ≡ Some n
true_if_not_false None n some kept = cc
true_if_not_false (Some true) true some kept = refl
true_if_not_false (Some false) false some kept = refl
true_if_not_false (Some true) false some kept = absurd (kept refl)
true_if_not_false (Some false) true some kept = absurd (kept refl)

value_true : (a : List Bool) (v : ℕ) (n : Bool) → get_or a v false ≡ not n → value a record { var = v; negative = n } ≡ true
value_true a v true h = ap not h
value_true a v false h = h

module _ (entries : List Entry) (a : List Bool) (agrees : (v : ℕ) (b : Bool) → sign_at entries v ≡ Some b → get_or a v false ≡ not b) where
  satisfied_by : (c : List Lit) (x : Lit) → Contains c x → IsTrueIn entries x → SatisfiesClause a c
  satisfied_by c x h t = (h.0, x, h.1, h.2, value_true a x.var x.negative (agrees x.var x.negative t))

  clause_satisfied : (c : List Lit) → IsSettled entries c → ((x : Lit) → Contains c x → IsSome (sign_at entries x.var)) → SatisfiesClause a c
  clause_satisfied c settled all = ⊎_elim
      (λ t. satisfied_by c t.0 t.1 t.2)
      (λ two. satisfied_by c two.one two.one_in (true_if_not_false (sign_at entries two.one.var) two.one.negative (all two.one two.one_in) two.one_open))
      settled

pub model_satisfies : (f : Formula) (log : List Lemma) (trail : TrailView) (a : List Bool) → IsState f log trail → IsClosed (known_clauses f log) trail.entries → ((v : ℕ) → v < trail.vars → IsSome (sign_at trail.entries v)) → ((v : ℕ) (b : Bool) → sign_at trail.entries v ≡ Some b → get_or a v false ≡ not b) → Satisfies a f
model_satisfies f log trail a state closed all agrees k d l =
    let c = get_or f.clauses k d in
    let among = Contains-append_left f.clauses (map (λ (s : Lemma). s.lits) log) c (Contains-get_or f.clauses k d l) in
    clause_satisfied trail.entries a agrees c (closed c among) (λ x h. all x.var (subst (λ n. x.var < n) (sym state.vars) (All-contains (λ (y : Lit). y.var < f.vars) c x (state.known k d l) h)))
