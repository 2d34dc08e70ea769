use Rattle.std.proofs.Common.{◌∙◌, ◌+◌, ◌++◌, drop, ap, subst, arith}
use Rattle.std.proofs.lemmas.List.{at_drop_all}
use Rattle.verilog_meaning.specs.Settled.{wire_assignment}
use Rattle.v_value.specs.Scope.{scope_at}
use Rattle.v_syntax.specs.Source.{boxed_tree_of}
use Rattle.v_statement.proofs.Runs.{rest_is}
use Rattle.v_drivers.specs.Sets.{assignments_drivers}
use Rattle.v_drivers.specs.Premises.{HaveNarrowTargets}
use Rattle.v_drivers.specs.Lists.{sets_in, wire_links}
use Rattle.v_drivers.proofs.Driving.{turn, end}
use Rattle.v_drivers.proofs.Taking.{split-drivers, split-narrow}
use Rattle.v_drivers.proofs.link.add_wires.Goals as goal

pub add_wire-requires-clause-narrow : goal.add_wire-requires-clause-narrow
add_wire-requires-clause-narrow c =
    let s = (scope_at c.args.scope.now) in
    let xs = c.args.wires.now in
    let i = c.loop-wire.wire-index in
    let r = c.wire-item.result in
    let rest = rest_is xs i r (omega arith) c.wire-item.is in
    (split-narrow s (wire_assignment r.name.now (boxed_tree_of r.value)) (wire_links (drop (i + 1) xs)) (subst (λ ys. HaveNarrowTargets s (wire_links ys)) rest c.loop-wire.invariant.narrow)).0

pub loop-wire-preserved : goal.loop-wire-preserved
loop-wire-preserved c =
    let s = (scope_at c.args.scope.now) in
    let xs = c.args.wires.now in
    let i = c.loop-wire.wire-index in
    let r = c.wire-item.result in
    let rest = rest_is xs i r (omega arith) c.wire-item.is in
    let first = wire_assignment r.name.now (boxed_tree_of r.value) in
    let more = wire_links (drop (i + 1) xs) in
    record {
      same = turn _ _ _ _ _
          (c.loop-wire.invariant.same ∙ ap (λ ys. sets_in c.loop-wire.drivers.items ++ assignments_drivers s (wire_links ys)) rest
          ∙ ap (λ z. sets_in c.loop-wire.drivers.items ++ z) (split-drivers s first more))
          c.in_ok-add_wire.ensures;
      narrow = (split-narrow s first more (subst (λ ys. HaveNarrowTargets s (wire_links ys)) rest c.loop-wire.invariant.narrow)).1;
    }

pub returns : goal.returns
returns c =
    let s = (scope_at c.args.scope.now) in
    end _ _ _ c.loop-wire.invariant.same (at_drop_all (λ ys. assignments_drivers s (wire_links ys)) c.args.wires.now c.loop-wire.wire-index c.loop-wire-test.false)
