use Rattle.std.proofs.Common.{◌∙◌, ◌+◌, ap, subst, arith, drop}
use Rattle.std.proofs.lemmas.List.{at_drop_all}
use Rattle.verilog_designs.specs.Reads.{or_in}
use Rattle.v_value.specs.Scope.{scope_at}
use Rattle.v_statement.proofs.Runs.{rest_is}
use Rattle.v_flow.specs.Spans.{bits_in}
use Rattle.v_flow.proofs.Sets.{turn, end}
use Rattle.v_drivers.specs.Lists.{wire_links}
use Rattle.v_undriven.specs.Reads.{links_read}
use Rattle.v_undriven.specs.Premises.{AreNarrowValues}
use Rattle.v_undriven.proofs.Reading.{wires-read, wires-narrow}
use Rattle.v_undriven.proofs.read.add_wires.Goals as goal

pub add_wire-requires-clause-narrow : goal.add_wire-requires-clause-narrow
add_wire-requires-clause-narrow c =
    let s = scope_at c.args.scope.now in
    let r = c.wire-item.result in
    let rest = rest_is c.args.wires.now c.loop-wire.wire-index r (omega arith) c.wire-item.is in
    (wires-narrow s r (drop (c.loop-wire.wire-index + 1) c.args.wires.now) (subst (λ ys. AreNarrowValues s (wire_links ys)) rest c.loop-wire.invariant.narrow)).0

pub loop-wire-preserved : goal.loop-wire-preserved
loop-wire-preserved c =
    let s = scope_at c.args.scope.now in
    let r = c.wire-item.result in
    let rest = rest_is c.args.wires.now c.loop-wire.wire-index r (omega arith) c.wire-item.is in
    let more = drop (c.loop-wire.wire-index + 1) c.args.wires.now in
    record {
      same = turn _ _ _ _ _
          (c.loop-wire.invariant.same ∙ ap (λ ys. or_in (bits_in c.loop-wire.found.items) (links_read s (wire_links ys))) rest
          ∙ ap (or_in (bits_in c.loop-wire.found.items)) (wires-read s r more))
          c.in_ok-add_wire.ensures;
      narrow = (wires-narrow s r more (subst (λ ys. AreNarrowValues s (wire_links ys)) rest c.loop-wire.invariant.narrow)).1;
    }

pub returns : goal.returns
returns c =
    let s = scope_at c.args.scope.now in
    end _ _ _ c.loop-wire.invariant.same
    (at_drop_all (λ ys. links_read s (wire_links ys)) c.args.wires.now c.loop-wire.wire-index c.loop-wire-test.false)
