use Rattle.sat_solve.specs.State.{known_clauses}
use Rattle.sat_solve.proofs.Places.{reason_within}
use Rattle.sat_solve.proofs.learning.bump_reasons.Goals as goal

pub clause-code-items-requires-clause-number : goal.clause-code-items-requires-clause-number
clause-code-items-requires-clause-number c = reason_within (known_clauses c.args.cnf.now c.args.log.now) c.args.trail.now.entries c.in-Some.ensures.0 c.in-Some.ensures.1 c.in-Some.reason c.requires.state.sound c.in-Some.ensures.2 c.in-Some.ensures.3
