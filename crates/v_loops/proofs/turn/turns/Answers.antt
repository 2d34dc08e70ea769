use Rattle.std.proofs.Common.{arith, false, sym, subst}
use Rattle.v_value.specs.Scope.{scope_at}
use Rattle.v_flow.specs.Spans.{bits_in}
use Rattle.v_paths.specs.Premises.{HasNoMemory}
use Rattle.v_order.specs.Lists.{statements_in}
use Rattle.v_loops.proofs.Steps.{turn-free}
use Rattle.v_loops.proofs.Adding.{all-of, rests-of}
use Rattle.v_loops.proofs.Turning.{none-onward, turn-onward, last-onward, ended-onward}
use Rattle.v_loops.proofs.turn.turns.Goals as goal

pub loop-init : goal.loop-init
loop-init c =
    record { onward = none-onward (scope_at c.args.scope.now) (statements_in c.args.drivers.now) (bits_in c.args.unsettled.now.items); variables = c.requires.variables }

pub turn-requires-clause-variables : goal.turn-requires-clause-variables
turn-requires-clause-variables c =
    subst (λ xs. HasNoMemory (scope_at c.args.scope.now) (bits_in xs)) (sym c.deref.ensures.value) c.loop.invariant.variables

pub loop-preserved : goal.loop-preserved
loop-preserved c =
    let s = scope_at c.args.scope.now in
    let xs = statements_in c.args.drivers.now in
    let g = rests-of s xs c.deref.result.now c.loop.unsettled.items (bits_in c.in_ok-rests.rests.items) c.deref.ensures.value c.in_ok-rests.ensures in
    record {
      onward = turn-onward s xs (bits_in c.args.unsettled.now.items) c.rests_where_it_depends.ensures c.loop.counter (bits_in c.loop.unsettled.items) (bits_in c.in_ok-rests.rests.items)
          c.loop.invariant.variables c.loop.invariant.onward g;
      variables = turn-free false (bits_in c.loop.unsettled.items) (bits_in c.in_ok-rests.rests.items) s xs c.requires.fit g;
    }

pub returns-then-lasts-clause-left : goal.returns-then-lasts-clause-left
returns-then-lasts-clause-left c =
    let s = scope_at c.args.scope.now in
    let xs = statements_in c.args.drivers.now in
    let g = rests-of s xs c.deref.result.now c.loop.unsettled.items (bits_in c.in_ok-rests.rests.items) c.deref.ensures.value c.in_ok-rests.ensures in
    last-onward s xs (bits_in c.args.unsettled.now.items) c.rests_where_it_depends.ensures c.loop.counter (bits_in c.loop.unsettled.items) (bits_in c.in_ok-rests.rests.items)
    c.loop.invariant.variables c.loop.invariant.onward g
    (all-of c.deref-in-loop.result.now c.in_ok-rests.rests.items c.deref-in-loop-2.result.now c.loop.unsettled.items c.deref-in-loop.ensures.value c.deref-in-loop-2.ensures.value (c.in_ok-lasts.ensures c.if-lasts.true))

pub returns-then-lasts-clause-variables : goal.returns-then-lasts-clause-variables
returns-then-lasts-clause-variables c =
    let s = scope_at c.args.scope.now in
    let xs = statements_in c.args.drivers.now in
    turn-free false (bits_in c.loop.unsettled.items) (bits_in c.in_ok-rests.rests.items) s xs c.requires.fit
    (rests-of s xs c.deref.result.now c.loop.unsettled.items (bits_in c.in_ok-rests.rests.items) c.deref.ensures.value c.in_ok-rests.ensures)

pub returns-clause-left : goal.returns-clause-left
returns-clause-left c =
    ended-onward (scope_at c.args.scope.now) (statements_in c.args.drivers.now) (bits_in c.args.unsettled.now.items) c.loop.counter (bits_in c.loop.unsettled.items) (omega arith) c.loop.invariant.onward

pub returns-clause-variables : goal.returns-clause-variables
returns-clause-variables c = c.loop.invariant.variables
