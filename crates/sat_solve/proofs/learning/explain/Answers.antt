use Rattle.std.proofs.Common.{inr, List, ℕ, sym, subst}
use Rattle.sat_base.specs.declared.literals.Lit.{Lit}
use Rattle.sat_solve.specs.State.{known_clauses}
use Rattle.sat_solve.specs.Lesson.{IsLesson}
use Rattle.sat_solve.proofs.Forced.{lesson_at, undecided_level}
use Rattle.sat_solve.proofs.learning.explain.Goals as goal

pub returns-in_ok-back-in-Some-clause-taught : goal.returns-in_ok-back-in-Some-clause-taught
returns-in_ok-back-in-Some-clause-taught c =
    let clauses = known_clauses c.args.cnf.now c.args.log.now in
    let trail = c.args.trail.now.entries in
    inr (subst (λ (ls : List Lit). IsLesson clauses trail ls c.finish-in-Some.result.back) (sym c.finish-in-Some.ensures.lits)
    (subst (λ (n : ℕ). IsLesson clauses trail c.walk_below.new.walk.lits.items n) (sym c.finish-in-Some.ensures.back)
    (lesson_at clauses trail c.requires.state.sound c.in-Some.start c.in_ok-back-in-Some.back c.walk_below.new.walk.lits.items c.in-Some.ensures c.in_ok-back-in-Some.ensures.point)))

pub returns-in_ok-back-in-Some-clause-undecided : goal.returns-in_ok-back-in-Some-clause-undecided
returns-in_ok-back-in-Some-clause-undecided c = λ none. absurd (undecided_level c.args.trail.now.entries c.in-Some.start c.in-Some.ensures none)
