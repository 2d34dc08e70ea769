use Rattle.std.proofs.Common.{◌≡◌, length, arith}
use Rattle.sat_solve.specs.State.{known_clauses}
use Rattle.sat_solve.specs.Search.{held_of}
use Rattle.sat_solve.proofs.HeldLemmas.{held_lits}
use Rattle.sat_solve.proofs.Watching.{IsClosed-watched}
use Rattle.sat_solve.proofs.watches.propagate.Goals as goal

pub returns-clause-found : goal.returns-clause-found
returns-clause-found c =
    let s = c.loop-watches.invariant.search in
    let all : c.loop-watches.watches.head ≡ length c.loop-watches.trail.entries = omega (arith, c.len.ensures.value, c.loop-watches-test.false, s.watched.within) in
    (IsClosed-watched c.loop-watches.trail.vars c.loop-watches.trail.entries c.loop-watches.watches.head (held_of c.args.cnf.now c.args.log.now c.loop-watches.watches.pairs) c.loop-watches.watches.lists (known_clauses c.args.cnf.now c.args.log.now) (held_lits c.loop-watches.watches.pairs (known_clauses c.args.cnf.now c.args.log.now) s.paired) all s.watched, all)
