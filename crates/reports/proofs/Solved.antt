-- A question about a circuit that each run determines has as many solutions as there are runs of which it is so.
use Rattle.std.proofs.Common.{ℕ, Bool, List, [], ◌∷◌, ◌++◌, All, sym, subst}
use Rattle.std.proofs.lemmas.List.Elements.{All-nil, All-cons, All-head, All-tail, All-append}
use Rattle.sat_base.specs.declared.literals.Lit.{Lit}
use Rattle.sat_base.specs.Formula.{Formula, SatisfiesClause, Satisfies}
use Rattle.refinement.specs.Map.{Setting}
use Rattle.refinement.specs.Run.{Run, IsRun}
use Rattle.reports.specs.Question.{IsQuestion, IsYes}
use Rattle.reports.specs.Encoding.{BitMap, RestrictsTo, IsSatisfyingAssignment, GoesOn, EncodesRuns}
use Rattle.reports.specs.Solutions.{HasSolutions}

front : (P : List Lit → Type 0) (xs ys : List (List Lit)) → All P (xs ++ ys) → All P xs
front P [] ys h = All-nil P
front P (x ∷ xs) ys h = All-cons P x xs (All-head P x (xs ++ ys) h) (front P xs ys (All-tail P x (xs ++ ys) h))

back : (P : List Lit → Type 0) (xs ys : List (List Lit)) → All P (xs ++ ys) → All P ys
back P [] ys h = h
back P (x ∷ xs) ys h = back P xs ys (All-tail P x (xs ++ ys) h)

-- an assignment satisfies the formula where it follows the circuit and what is asked is so
follows : (f : Formula) (q : IsQuestion f) (a : List Bool) → Satisfies a f → All (SatisfiesClause a) q.circuit
follows f q a h = front (SatisfiesClause a) q.circuit q.asked (subst (λ cs. All (SatisfiesClause a) cs) q.clauses h)

yes_under : (f : Formula) (q : IsQuestion f) (a : List Bool) → Satisfies a f → IsYes f q a
yes_under f q a h = back (SatisfiesClause a) q.circuit q.asked (subst (λ cs. All (SatisfiesClause a) cs) q.clauses h)

satisfied : (f : Formula) (q : IsQuestion f) (a : List Bool) → All (SatisfiesClause a) q.circuit → IsYes f q a → Satisfies a f
satisfied f q a h y = subst (λ cs. All (SatisfiesClause a) cs) (sym q.clauses) (All-append (SatisfiesClause a) q.circuit q.asked h y)

goes_on : (f : Formula) (q : IsQuestion f) (m : BitMap) (run : Run) (a : List Bool) → IsSatisfyingAssignment f a → RestrictsTo m a run → GoesOn f q m run a
goes_on f q m run a sa r = record { follows = record { whole = sa.whole; gates = follows f q a sa.satisfies }; restricts = r }

pub has_solutions : (s : Setting) (cycles : ℕ) (HasProperty : Run → Type 0) (f : Formula) (m : BitMap) → EncodesRuns s cycles HasProperty f m
    → HasSolutions s cycles HasProperty f m
has_solutions s cycles HasProperty f m e = record {
  some = λ run is_run. (
    λ has.
        let h = e.some run is_run in (
          h.0,
          record {
            whole = h.1.follows.whole;
            satisfies = satisfied f e.question h.0 h.1.follows.gates ((e.asks run h.0 is_run h.1).1 has);
          },
          h.1.restricts,
        ),
    λ x. (e.asks run x.0 is_run (goes_on f e.question m run x.0 x.1 x.2)).0 (yes_under f e.question x.0 x.1.satisfies),
  );
  one = λ run a b sa ra sb rb. e.one run a b (goes_on f e.question m run a sa ra) (goes_on f e.question m run b sb rb);
}
