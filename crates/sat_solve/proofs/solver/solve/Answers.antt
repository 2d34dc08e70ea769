use Rattle.std.proofs.Common.{◌≡◌, [], List, length, sym, ap, subst, arith}
use Rattle.std.proofs.lemmas.Option.{MatchOption-at_some}
use Rattle.sat_base.specs.declared.logs.Lemma.{Lemma}
use Rattle.sat_base.specs.Log.{Refutes, IsSpent}
use Rattle.sat_solve.specs.State.{known_clauses, IsState}
use Rattle.sat_solve.specs.Found.{IsConflictAt}
use Rattle.sat_solve.specs.Search.{IsSearch}
use Rattle.sat_solve.proofs.LogLemmas.{Refutes-push}
use Rattle.sat_solve.proofs.solver.solve.Goals as goal

pub returns-in_ok-push-in-Some : goal.returns-in_ok-push-in-Some
returns-in_ok-push-in-Some c =
    let f = c.args.cnf.now in
    let log = c.new-log.result in
    let lemma = c.in_ok-lesson-in-Some.lesson.lemma in
    let pushed = c.in_ok-push-in-Some.ensures.ok in
    let found = MatchOption-at_some (IsSearch f [] c.load.new.trail c.in_ok-watches.watches.pairs c.in_ok-watches.watches.lists c.in_ok-watches.watches.head) (λ n. IsState f [] c.load.new.trail × IsConflictAt (known_clauses f []) c.load.new.trail.entries n) c.in-Some.conflict c.in-Some.is c.in_ok-watches.ensures.found in
    let logged : IsSpent (length log) f log = subst (λ (l : List Lemma). IsSpent (length l) f l) (sym c.new-log.ensures) found.0.logged in
    let empty : lemma.lits ≡ [] = c.in_ok-lesson-in-Some.ensures.undecided c.in_ok-watches.ensures.undecided in
    let none : length log ≡ 0 = ap length c.new-log.ensures in (
      subst (λ g. Refutes f g) (sym pushed) (Refutes-push f log lemma logged empty c.in_ok-lesson-in-Some.ensures.follows),
      (log, lemma, pushed, empty, omega (arith, none)),
    )
