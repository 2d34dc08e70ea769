use Rattle.std.proofs.Common.{◌≡◌, ◌≤◌, ◌<◌, ◌+◌, ◌-◌, ◌*◌, ◌∷◌, [], false, length, refl, sym, ◌∙◌, subst, arith, None}
use Rattle.std.proofs.lemmas.Bool.{false≢true}
use Rattle.std.proofs.lemmas.Option.{MatchOption-at_none}
use Rattle.sat_base.specs.Log.{Refutes, IsSpent}
use Rattle.sat_solve.specs.Trail.{IsClosed}
use Rattle.sat_solve.specs.Kept.{TrailView}
use Rattle.sat_solve.specs.State.{known_clauses}
use Rattle.sat_solve.specs.Found.{IsConflictAt}
use Rattle.sat_solve.specs.Lesson.{IsLesson}
use Rattle.sat_solve.specs.Search.{IsSearch}
use Rattle.sat_solve.proofs.LogLemmas.{Refutes-push}
use Rattle.sat_solve.proofs.ModelLemmas.{model_satisfies}
use Rattle.sat_solve.proofs.SearchLemmas.{lesson_some, measure_learnt, IsSearch-decided}
use Rattle.sat_solve.proofs.solver.search.Goals as goal
use Rattle.sat_solve.proofs.solver.search.Goals.{After-is_empty, In-None}

-- what the lemma is known by, if it has a literal
lesson_is : (c : After-is_empty) → c.is_empty.result ≡ false → IsLesson (known_clauses c.args.cnf.now c.loop-log.log) c.propagate.new.trail.entries c.in_ok-lesson-in-Some.lesson.lemma.lits c.in_ok-lesson-in-Some.lesson.back
lesson_is c some = lesson_some (known_clauses c.args.cnf.now c.loop-log.log) c.propagate.new.trail.entries c.in_ok-lesson-in-Some.lesson.lemma.lits c.in_ok-lesson-in-Some.lesson.back c.in_ok-lesson-in-Some.ensures.taught (λ none. false≢true (sym some ∙ c.is_empty.ensures.1 none))

-- where propagation ended without a conflict
closed_here : (c : In-None) → IsClosed (known_clauses c.args.cnf.now c.loop-log.log) c.propagate.new.trail.entries × (c.propagate.new.watches.head ≡ length c.propagate.new.trail.entries)
closed_here c = MatchOption-at_none (IsClosed (known_clauses c.args.cnf.now c.loop-log.log) c.propagate.new.trail.entries × (c.propagate.new.watches.head ≡ length c.propagate.new.trail.entries)) (IsConflictAt (known_clauses c.args.cnf.now c.loop-log.log) c.propagate.new.trail.entries) c.in-None.is c.in_ok-conflict.ensures.found

pub returns-then-is_empty : goal.returns-then-is_empty
returns-then-is_empty c =
    let log = c.loop-log.log in
    let lemma = c.in_ok-lesson-in-Some.lesson.lemma in
    let pushed = c.in_ok-push-in-Some.ensures.ok in
    let empty : lemma.lits ≡ [] = c.if-is_empty.ensures.0 refl in (
      subst (λ g. Refutes c.args.cnf.now g) (sym pushed) (Refutes-push c.args.cnf.now log lemma c.in_ok-conflict.ensures.search.state.logged empty c.in_ok-lesson-in-Some.ensures.follows),
      (log, lemma, pushed, empty, c.loop-log.invariant.within),
    )

pub returns-then-len-budget : goal.returns-then-len-budget
returns-then-len-budget c =
    let here = (goal.at.returns-then-len-budget c).After-is_empty in
    let all : length c.loop-log.log ≡ c.args.budget = omega (arith, c.len.ensures, c.if-len-budget.true) in
    (subst (λ n. IsSpent n c.args.cnf.now c.loop-log.log) all c.in_ok-conflict.ensures.search.state.logged, (lesson_is here c.if-is_empty.false).quiet)

pub learn-requires-clause-taught : goal.learn-requires-clause-taught
learn-requires-clause-taught c = lesson_is (goal.at.learn-requires-clause-taught c).After-is_empty c.if-is_empty.false

pub loop-log-smaller-in_ok-learn-in-Some : goal.loop-log-smaller-in_ok-learn-in-Some
loop-log-smaller-in_ok-learn-in-Some c =
    let low : length c.loop-log.log < c.args.budget = omega (arith, c.loop-log.invariant.within, c.len.ensures, c.if-len-budget.false) in
    let short : length c.learn.new.trail.entries ≤ c.args.cnf.now.vars = omega (arith, c.in_ok-learn-in-Some.ensures.search.state.short, c.in_ok-learn-in-Some.ensures.search.state.vars) in
    subst (λ n. ((c.args.budget - n) + (c.args.budget - c.loop-log.pace.restarts)) * (c.args.cnf.now.vars + 1) + (c.args.cnf.now.vars - length c.learn.new.trail.entries) < ((c.args.budget - length c.loop-log.log) + (c.args.budget - c.loop-log.pace.restarts)) * (c.args.cnf.now.vars + 1) + (c.args.cnf.now.vars - length c.loop-log.trail.entries)) (sym c.in_ok-learn-in-Some.ensures.longer)
    (measure_learnt c.args.budget (length c.loop-log.log) c.loop-log.pace.restarts c.args.cnf.now.vars (length c.loop-log.trail.entries) (length c.learn.new.trail.entries) low c.loop-log.invariant.restarts short)

pub returns-in-None-decide : goal.returns-in-None-decide
returns-in-None-decide c =
    let f = c.args.cnf.now in
    let log = c.loop-log.log in
    let trail = c.propagate.new.trail in
    let values = c.in_ok-assignment-in-None-decide.ensures in
    let state = c.in_ok-conflict.ensures.search.state in
    let closed = (closed_here (goal.at.returns-in-None-decide c).In-None).0 in (
      subst (λ n. length c.in_ok-assignment-in-None-decide.field-0 ≡ n) state.vars values.length,
      model_satisfies f log trail c.in_ok-assignment-in-None-decide.field-0 state closed c.in-None-decide.ensures values.values,
    )

pub loop-log-preserved : goal.loop-log-preserved
loop-log-preserved c =
    let f = c.args.cnf.now in
    let log = c.loop-log.log in
    let trail = c.propagate.new.trail in
    let ended = closed_here (goal.at.loop-log-preserved c).In-None in
    let after : c.push-in-Some-decide.new.self ≡ record { vars = trail.vars; entries = record { lit = c.in-Some-decide.lit; reason = None } ∷ trail.entries } = c.in_ok-push-in-Some-decide.ensures.after in
    let short : length trail.entries < trail.vars = subst (λ (t : TrailView). length t.entries ≤ t.vars) after c.in_ok-push-in-Some-decide.ensures.small in
    let next = IsSearch-decided f log trail c.propagate.new.watches.pairs c.propagate.new.watches.lists c.propagate.new.watches.head c.in-Some-decide.lit c.in_ok-conflict.ensures.search ended.0 ended.1 (c.in-Some-decide.ensures).1 short in
    record {
      search = subst (λ (t : TrailView). IsSearch f log t c.propagate.new.watches.pairs c.propagate.new.watches.lists c.propagate.new.watches.head) (sym after) next;
      within = c.loop-log.invariant.within;
      restarts = omega (arith, c.is_due.ensures.kept c.if-is_due.false, c.loop-log.invariant.restarts);
    }
