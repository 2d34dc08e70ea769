use Rattle.v_operators.proofs.Growing.{Grows-refl}
use Rattle.v_value.specs.Scope.{scope_at}
use Rattle.v_lower.specs.Table.{images_at}
use Rattle.v_masks.specs.Masks.{masked}
use Rattle.v_order.specs.Lists.{statement_in, statements_in}
use Rattle.v_loops.proofs.Steps.{fit-among}
use Rattle.v_loops.proofs.Sharing.{among-got}
use Rattle.v_settle.specs.Turns.{state_of}
use Rattle.v_settle.proofs.Walks.{none-visits, one-visit, sound-got}
use Rattle.v_settle.proofs.turn.visit_at.Goals as goal

pub visit-requires-clause-sound : goal.visit-requires-clause-sound
visit-requires-clause-sound c =
    sound-got (scope_at c.args.scope.now) c.args.drivers.now c.args.index c.get.result c.in-Some.driver c.in-Some.is c.get.ensures.lookup.3 c.requires.sound

pub visit-requires-clause-fit : goal.visit-requires-clause-fit
visit-requires-clause-fit c =
    let ds = c.args.drivers.now in
    fit-among (scope_at c.args.scope.now) (statements_in ds) (statement_in c.in-Some.driver.now) c.requires.fit
    (among-got ds c.args.index c.get.result c.in-Some.driver c.in-Some.is c.get.ensures.lookup.3)

pub returns-in_ok-visit-in-Some-clause-grows : goal.returns-in_ok-visit-in-Some-clause-grows
returns-in_ok-visit-in-Some-clause-grows c = c.in_ok-visit-in-Some.ensures.grows

pub returns-in_ok-visit-in-Some-clause-visits : goal.returns-in_ok-visit-in-Some-clause-visits
returns-in_ok-visit-in-Some-clause-visits c =
    let ds = c.args.drivers.now in
    one-visit (scope_at c.args.scope.now) (statements_in ds) (statement_in c.in-Some.driver.now)
    (state_of (images_at c.args.table.now) (images_at c.args.spare.now) c.args.terms.now (masked c.args.unsettled.now))
    (state_of (images_at c.visit.new.table) (images_at c.visit.new.spare) c.visit.new.terms (masked c.visit.new.unsettled))
    (among-got ds c.args.index c.get.result c.in-Some.driver c.in-Some.is c.get.ensures.lookup.3) c.in_ok-visit-in-Some.ensures.visited

pub returns-in-None-clause-grows : goal.returns-in-None-clause-grows
returns-in-None-clause-grows c = Grows-refl c.args.terms.now

pub returns-in-None-clause-visits : goal.returns-in-None-clause-visits
returns-in-None-clause-visits c =
    none-visits (scope_at c.args.scope.now) (statements_in c.args.drivers.now)
    (state_of (images_at c.args.table.now) (images_at c.args.spare.now) c.args.terms.now (masked c.args.unsettled.now))
