-- An assignment satisfies a question about a circuit where it follows the circuit and what is asked is so.
use Rattle.std.proofs.Common.{Bool, List, [], ◌∷◌, ◌++◌, All, sym, subst}
use Rattle.std.proofs.lemmas.List.Elements.{All-nil, All-cons, All-head, All-tail, All-append}
use Rattle.sat_base.specs.declared.literals.Lit.{Lit}
use Rattle.sat_base.specs.Formula.{Formula, SatisfiesClause, Satisfies}
use Rattle.gate_base.specs.Question.{IsQuestion, IsYes}

pub front : (P : List Lit → Type 0) (xs ys : List (List Lit)) → All P (xs ++ ys) → All P xs
front P [] ys h = All-nil P
front P (x ∷ xs) ys h = All-cons P x xs (All-head P x (xs ++ ys) h) (front P xs ys (All-tail P x (xs ++ ys) h))

pub back : (P : List Lit → Type 0) (xs ys : List (List Lit)) → All P (xs ++ ys) → All P ys
back P [] ys h = h
back P (x ∷ xs) ys h = back P xs ys (All-tail P x (xs ++ ys) h)

pub follows_where_satisfied : (f : Formula) (q : IsQuestion f) (a : List Bool) → Satisfies a f → All (SatisfiesClause a) q.circuit
follows_where_satisfied f q a h = front (SatisfiesClause a) q.circuit q.asked (subst (λ cs. All (SatisfiesClause a) cs) q.clauses h)

pub yes_where_satisfied : (f : Formula) (q : IsQuestion f) (a : List Bool) → Satisfies a f → IsYes f q a
yes_where_satisfied f q a h = back (SatisfiesClause a) q.circuit q.asked (subst (λ cs. All (SatisfiesClause a) cs) q.clauses h)

pub satisfied_where_yes : (f : Formula) (q : IsQuestion f) (a : List Bool) → All (SatisfiesClause a) q.circuit → IsYes f q a → Satisfies a f
satisfied_where_yes f q a h so = subst (λ cs. All (SatisfiesClause a) cs) (sym q.clauses) (All-append (SatisfiesClause a) q.circuit q.asked h so)
