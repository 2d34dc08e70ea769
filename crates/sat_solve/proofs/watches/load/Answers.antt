use Rattle.std.proofs.Common.{◌≡◌, length, ap, arith}
use Rattle.sat_solve.proofs.SearchLemmas.{IsSearch-loaded}
use Rattle.sat_solve.proofs.watches.load.Goals as goal

pub returns-clause-found : goal.returns-clause-found
returns-clause-found c =
    let all : c.loop-number.number ≡ length c.args.cnf.now.clauses = omega (arith, c.loop-number-test.false, c.loop-number.invariant.within, ap length c.clauses-count.ensures.clauses) in
    IsSearch-loaded c.args.cnf.now c.loop-number.trail c.loop-number.watches.pairs c.loop-number.watches.lists c.loop-number.watches.head c.loop-number.number c.loop-number.invariant all
