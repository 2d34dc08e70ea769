use Rattle.std.proofs.Common.{arith}
use Rattle.sat_solve.specs.State.{known_clauses}
use Rattle.sat_solve.proofs.Walks.{Follows-end}
use Rattle.sat_solve.proofs.learning.walk_below.Goals as goal

pub lowered-back-requires-clause-point : goal.lowered-back-requires-clause-point
lowered-back-requires-clause-point c = (c.loop-k.walk.lits.items, c.loop-k.invariant.point, c.loop-k.invariant.within, c.in_ok-step.ensures.lits)

pub returns-clause-follows : goal.returns-clause-follows
returns-clause-follows c = Follows-end (known_clauses c.args.cnf.now c.args.log.now) c.args.trail.now.entries c.args.trail.now.vars c.loop-k.k c.loop-k.walk.marks c.loop-k.walk.lits.items c.loop-k.walk.numbers.items (omega (arith, c.len-k-end.ensures.value, c.loop-k-test.false)) c.loop-k.invariant.walked
