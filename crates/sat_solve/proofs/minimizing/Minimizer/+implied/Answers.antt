use Rattle.std.proofs.Common.{arith}
use Rattle.sat_solve.specs.State.{known_clauses}
use Rattle.sat_solve.proofs.Places.{reason_within}
use Rattle.sat_solve.proofs.StateLemmas.{code_over}
use Rattle.sat_solve.proofs.minimizing.Minimizer.+implied.Goals as goal

pub are_implied-clause-codes-requires-clause-number : goal.are_implied-clause-codes-requires-clause-number
are_implied-clause-codes-requires-clause-number t c = reason_within (known_clauses c.args.cnf.now c.args.log.now) c.args.trail.now.entries c.in-Some.ensures.0 c.in-Some.ensures.1 c.in-Some.reason c.requires.state.sound c.in-Some.ensures.2 c.in-Some.ensures.3

pub are_implied-contains-requires : goal.are_implied-contains-requires
are_implied-contains-requires t c = omega (arith, code_over c.args.cnf.now c.args.log.now c.args.trail.now c.in-Some.reason c.clause-codes.result.now c.requires.state c.clause-codes.ensures c.loop-code.code-index c.loop-code-test.true, c.requires.sized)
