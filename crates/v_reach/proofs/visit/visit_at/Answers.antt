use Rattle.v_value.specs.Scope.{scope_at}
use Rattle.v_masks.specs.Masks.{masked}
use Rattle.v_order.specs.Lists.{statement_in, statements_in}
use Rattle.v_loops.proofs.Steps.{fit-among}
use Rattle.v_loops.proofs.Sharing.{among-got}
use Rattle.v_reach.proofs.Spreading.{none-spread, visited-spread}
use Rattle.v_reach.proofs.visit.visit_at.Goals as goal

pub visit-requires-clause-fit : goal.visit-requires-clause-fit
visit-requires-clause-fit c =
    let ds = c.args.drivers.now in
    fit-among (scope_at c.args.scope.now) (statements_in ds) (statement_in c.in-Some.driver.now) c.requires.fit
    (among-got ds c.args.index c.get.result c.in-Some.driver c.in-Some.is c.get.ensures.lookup.3)

pub visit-requires-clause-variables : goal.visit-requires-clause-variables
visit-requires-clause-variables c = c.requires.variables

pub returns-in_ok-visit-in-Some : goal.returns-in_ok-visit-in-Some
returns-in_ok-visit-in-Some c =
    let ds = c.args.drivers.now in
    visited-spread c.rests_where_it_depends.ensures (scope_at c.args.scope.now) (statements_in ds) (statement_in c.in-Some.driver.now)
    (among-got ds c.args.index c.get.result c.in-Some.driver c.in-Some.is c.get.ensures.lookup.3) _ (masked c.args.marked.now) (masked c.visit.new.marked) c.in_ok-visit-in-Some.ensures

pub returns-in-None : goal.returns-in-None
returns-in-None c = none-spread (scope_at c.args.scope.now) (statements_in c.args.drivers.now) (masked c.args.marked.now)
