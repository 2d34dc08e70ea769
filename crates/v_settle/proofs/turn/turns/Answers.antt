use Rattle.std.proofs.Common.{sym, subst, arith}
use Rattle.std.specs.Prelude.{map}
use Rattle.v_syntax.specs.Source.{item_of}
use Rattle.v_operators.proofs.Growing.{Grows-refl, Grows-trans}
use Rattle.v_value.specs.Scope.{scope_at}
use Rattle.v_lower.specs.Table.{images_at}
use Rattle.v_flow.specs.Spans.{bits_in}
use Rattle.v_masks.specs.Masks.{masked}
use Rattle.v_order.specs.Drivers.{drivers}
use Rattle.v_order.specs.Lists.{statements_in}
use Rattle.v_loops.specs.Turns.{AreFitToRun}
use Rattle.v_loops.proofs.Listed.{fit-drivers}
use Rattle.v_settle.specs.Drivers.{AreSoundDrivings}
use Rattle.v_settle.specs.Turns.{state_of}
use Rattle.v_settle.proofs.Rounds.{are-open}
use Rattle.v_settle.proofs.Visits.{has-for}
use Rattle.v_settle.proofs.Walks.{visits-open, visits-same, sound-drivings}
use Rattle.v_settle.proofs.Ending.{none-onward, ended-onward, pass-onward, nothing-onward, turn-onward, last-onward}
use Rattle.v_settle.proofs.turn.turns.Goals as goal

pub loop-init : goal.loop-init
loop-init c =
    record { grows = Grows-refl c.args.terms.now; opens = c.requires.opens; way = none-onward (scope_at c.args.scope.now) (map item_of c.args._items.now) (state_of (images_at c.args.table.now) (images_at c.args.spare.now) c.args.terms.now (masked c.args.unsettled.now)) }

pub pass-requires-clause-parameters : goal.pass-requires-clause-parameters
pass-requires-clause-parameters c =
    c.requires.ready.parameters

pub pass-requires-clause-opens : goal.pass-requires-clause-opens
pass-requires-clause-opens c =
    c.loop.invariant.opens

pub pass-requires-clause-sound : goal.pass-requires-clause-sound
pass-requires-clause-sound c =
    subst (AreSoundDrivings (scope_at c.args.scope.now)) (sym c.requires.drivings) (sound-drivings (scope_at c.args.scope.now) (map item_of c.args._items.now) c.requires.ready.links c.requires.ready.blocks)

pub pass-requires-clause-fit : goal.pass-requires-clause-fit
pass-requires-clause-fit c =
    subst (AreFitToRun (scope_at c.args.scope.now)) (sym c.requires.statements) (fit-drivers (scope_at c.args.scope.now) (map item_of c.args._items.now) c.requires.ready.runnable)

pub turn-requires-clause-parameters : goal.turn-requires-clause-parameters
turn-requires-clause-parameters c =
    c.requires.ready.parameters

pub turn-requires-clause-opens : goal.turn-requires-clause-opens
turn-requires-clause-opens c =
    visits-open (scope_at c.args.scope.now) (statements_in c.args.drivers.now) (state_of (images_at c.loop.table) (images_at c.loop.spare) c.loop.terms (masked c.loop.unsettled)) (state_of (images_at c.pass.new.table) (images_at c.pass.new.spare) c.pass.new.terms (masked c.pass.new.unsettled)) c.loop.invariant.opens c.in_ok-pass.ensures.visits

pub turn-requires-clause-sound : goal.turn-requires-clause-sound
turn-requires-clause-sound c =
    subst (AreSoundDrivings (scope_at c.args.scope.now)) (sym c.requires.drivings) (sound-drivings (scope_at c.args.scope.now) (map item_of c.args._items.now) c.requires.ready.links c.requires.ready.blocks)

pub turn-requires-clause-fit : goal.turn-requires-clause-fit
turn-requires-clause-fit c =
    subst (AreFitToRun (scope_at c.args.scope.now)) (sym c.requires.statements) (fit-drivers (scope_at c.args.scope.now) (map item_of c.args._items.now) c.requires.ready.runnable)

pub loop-preserved : goal.loop-preserved
loop-preserved c =
    record {
      grows = Grows-trans (Grows-trans c.loop.invariant.grows c.in_ok-pass.ensures.grows) c.in_ok-turn.ensures.grows;
      opens = are-open (scope_at c.args.scope.now) (statements_in c.args.drivers.now) (state_of (images_at c.pass.new.table) (images_at c.pass.new.spare) c.pass.new.terms (masked c.pass.new.unsettled)) (state_of (images_at c.turn.new.table) (images_at c.turn.new.spare) c.turn.new.terms (masked c.turn.new.unsettled)) (visits-open (scope_at c.args.scope.now) (statements_in c.args.drivers.now) (state_of (images_at c.loop.table) (images_at c.loop.spare) c.loop.terms (masked c.loop.unsettled)) (state_of (images_at c.pass.new.table) (images_at c.pass.new.spare) c.pass.new.terms (masked c.pass.new.unsettled)) c.loop.invariant.opens c.in_ok-pass.ensures.visits) c.in_ok-turn.ensures.visited;
      way = turn-onward (scope_at c.args.scope.now) (map item_of c.args._items.now) (state_of (images_at c.args.table.now) (images_at c.args.spare.now) c.args.terms.now (masked c.args.unsettled.now)) c.requires.objects c.requires.ready c.rests_where_it_depends.ensures (bits_in c.args.driven.now) c.requires.driven c.loop.counter (state_of (images_at c.pass.new.table) (images_at c.pass.new.spare) c.pass.new.terms (masked c.pass.new.unsettled)) (state_of (images_at c.turn.new.table) (images_at c.turn.new.spare) c.turn.new.terms (masked c.turn.new.unsettled))
          (pass-onward (scope_at c.args.scope.now) (map item_of c.args._items.now) (state_of (images_at c.args.table.now) (images_at c.args.spare.now) c.args.terms.now (masked c.args.unsettled.now)) c.requires.objects c.requires.ready c.rests_where_it_depends.ensures (bits_in c.args.driven.now) c.requires.driven (statements_in c.args.drivers.now) c.loop.counter (state_of (images_at c.loop.table) (images_at c.loop.spare) c.loop.terms (masked c.loop.unsettled)) (state_of (images_at c.pass.new.table) (images_at c.pass.new.spare) c.pass.new.terms (masked c.pass.new.unsettled)) c.requires.statements c.loop.invariant.way c.in_ok-pass.ensures.visits)
          (visits-same (scope_at c.args.scope.now) (statements_in c.args.drivers.now) (drivers (map item_of c.args._items.now)) (state_of (images_at c.pass.new.table) (images_at c.pass.new.spare) c.pass.new.terms (masked c.pass.new.unsettled)) (state_of (images_at c.turn.new.table) (images_at c.turn.new.spare) c.turn.new.terms (masked c.turn.new.unsettled)) c.requires.statements c.in_ok-turn.ensures.visited);
    }

pub returns-then-not-some-clause-grows : goal.returns-then-not-some-clause-grows
returns-then-not-some-clause-grows c =
    c.loop.invariant.grows

pub returns-then-not-some-clause-opens : goal.returns-then-not-some-clause-opens
returns-then-not-some-clause-opens c =
    c.loop.invariant.opens

pub returns-then-not-some-clause-made : goal.returns-then-not-some-clause-made
returns-then-not-some-clause-made c =
    nothing-onward (scope_at c.args.scope.now) (map item_of c.args._items.now) (state_of (images_at c.args.table.now) (images_at c.args.spare.now) c.args.terms.now (masked c.args.unsettled.now)) c.requires.objects c.requires.ready c.rests_where_it_depends.ensures (bits_in c.args.driven.now) c.requires.driven c.loop.counter (state_of (images_at c.loop.table) (images_at c.loop.spare) c.loop.terms (masked c.loop.unsettled)) c.meets-some.result c.loop.invariant.way c.meets-some.ensures c.if-not-some.true

pub returns-then-not-more-clause-grows : goal.returns-then-not-more-clause-grows
returns-then-not-more-clause-grows c =
    Grows-trans (Grows-trans c.loop.invariant.grows c.in_ok-pass.ensures.grows) c.in_ok-turn.ensures.grows

pub returns-then-not-more-clause-opens : goal.returns-then-not-more-clause-opens
returns-then-not-more-clause-opens c =
    are-open (scope_at c.args.scope.now) (statements_in c.args.drivers.now) (state_of (images_at c.pass.new.table) (images_at c.pass.new.spare) c.pass.new.terms (masked c.pass.new.unsettled)) (state_of (images_at c.turn.new.table) (images_at c.turn.new.spare) c.turn.new.terms (masked c.turn.new.unsettled)) (visits-open (scope_at c.args.scope.now) (statements_in c.args.drivers.now) (state_of (images_at c.loop.table) (images_at c.loop.spare) c.loop.terms (masked c.loop.unsettled)) (state_of (images_at c.pass.new.table) (images_at c.pass.new.spare) c.pass.new.terms (masked c.pass.new.unsettled)) c.loop.invariant.opens c.in_ok-pass.ensures.visits) c.in_ok-turn.ensures.visited

pub returns-then-not-more-clause-made : goal.returns-then-not-more-clause-made
returns-then-not-more-clause-made c =
    last-onward (scope_at c.args.scope.now) (map item_of c.args._items.now) (state_of (images_at c.args.table.now) (images_at c.args.spare.now) c.args.terms.now (masked c.args.unsettled.now)) c.requires.objects c.requires.ready c.rests_where_it_depends.ensures (bits_in c.args.driven.now) c.requires.driven c.loop.counter (state_of (images_at c.pass.new.table) (images_at c.pass.new.spare) c.pass.new.terms (masked c.pass.new.unsettled)) (state_of (images_at c.turn.new.table) (images_at c.turn.new.spare) c.turn.new.terms (masked c.turn.new.unsettled))
    (pass-onward (scope_at c.args.scope.now) (map item_of c.args._items.now) (state_of (images_at c.args.table.now) (images_at c.args.spare.now) c.args.terms.now (masked c.args.unsettled.now)) c.requires.objects c.requires.ready c.rests_where_it_depends.ensures (bits_in c.args.driven.now) c.requires.driven (statements_in c.args.drivers.now) c.loop.counter (state_of (images_at c.loop.table) (images_at c.loop.spare) c.loop.terms (masked c.loop.unsettled)) (state_of (images_at c.pass.new.table) (images_at c.pass.new.spare) c.pass.new.terms (masked c.pass.new.unsettled)) c.requires.statements c.loop.invariant.way c.in_ok-pass.ensures.visits)
    (visits-same (scope_at c.args.scope.now) (statements_in c.args.drivers.now) (drivers (map item_of c.args._items.now)) (state_of (images_at c.pass.new.table) (images_at c.pass.new.spare) c.pass.new.terms (masked c.pass.new.unsettled)) (state_of (images_at c.turn.new.table) (images_at c.turn.new.spare) c.turn.new.terms (masked c.turn.new.unsettled)) c.requires.statements c.in_ok-turn.ensures.visited)
    (bits_in c.in_ok-before.before.items) c.has_more-more.result c.in_ok-before.ensures
    (has-for c.deref.result.now c.in_ok-before.before.items (masked c.turn.new.unsettled) c.has_more-more.result c.deref.ensures.value c.has_more-more.ensures)
    c.if-not-more.true

pub returns-in_err-pass-clause-grows : goal.returns-in_err-pass-clause-grows
returns-in_err-pass-clause-grows c =
    Grows-trans c.loop.invariant.grows c.pass.ensures.grows

pub returns-in_err-before-clause-grows : goal.returns-in_err-before-clause-grows
returns-in_err-before-clause-grows c =
    Grows-trans c.loop.invariant.grows c.in_ok-pass.ensures.grows

pub returns-in_err-turn-clause-grows : goal.returns-in_err-turn-clause-grows
returns-in_err-turn-clause-grows c =
    Grows-trans (Grows-trans c.loop.invariant.grows c.in_ok-pass.ensures.grows) c.turn.ensures.grows

pub returns-clause-grows : goal.returns-clause-grows
returns-clause-grows c =
    c.loop.invariant.grows

pub returns-clause-opens : goal.returns-clause-opens
returns-clause-opens c =
    c.loop.invariant.opens

pub returns-clause-made : goal.returns-clause-made
returns-clause-made c =
    ended-onward (scope_at c.args.scope.now) (map item_of c.args._items.now) (state_of (images_at c.args.table.now) (images_at c.args.spare.now) c.args.terms.now (masked c.args.unsettled.now)) c.loop.counter (state_of (images_at c.loop.table) (images_at c.loop.spare) c.loop.terms (masked c.loop.unsettled)) (omega arith) c.loop.invariant.way
