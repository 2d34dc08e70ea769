use Rattle.std.proofs.Common.{◌≡◌, false, sym}
use Rattle.sat_solve.specs.State.{known_clauses}
use Rattle.sat_solve.specs.Walk.{is_marked}
use Rattle.sat_solve.proofs.Walks.{IsWalked-passed}
use Rattle.sat_solve.proofs.walk.step.Goals as goal

pub returns-then-not-contains-clause-walked : goal.returns-then-not-contains-clause-walked
returns-then-not-contains-clause-walked c =
    let off : is_marked c.args.walk.now.marks c.newest-entry.result.lit.var ≡ false = sym c.if-not-contains.ensures in
    IsWalked-passed (known_clauses c.args.cnf.now c.args.log.now) c.args.trail.now.entries c.args.trail.now.vars c.args.k c.newest-entry.result c.requires.state.sound c.newest-entry.ensures.value c.args.walk.now.marks c.args.walk.now.lits.items c.args.walk.now.numbers.items off c.requires.walked
