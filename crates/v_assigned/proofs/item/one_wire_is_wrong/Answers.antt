use Rattle.std.proofs.Common.{◌∙◌, ◌+◌, false, drop, ap, sym, arith}
use Rattle.std.specs.Prelude.{map}
use Rattle.std.proofs.lemmas.List.{at_drop_all}
use Rattle.v_statement.proofs.Runs.{rest_is}
use Rattle.v_syntax.specs.Source.{boxed_tree_of}
use Rattle.verilog_meaning.specs.Settled.{wire_assignment, wire_assignments}
use Rattle.v_value.specs.Scope.{scope_at}
use Rattle.v_assigned.specs.Names.{is_wrong}
use Rattle.v_assigned.specs.Assigned.{one_link_assigns}
use Rattle.v_assigned.proofs.Parts.{past, hit, links-first}
use Rattle.v_assigned.proofs.item.one_wire_is_wrong.Goals as goal

pub loop-wire-preserved : goal.loop-wire-preserved
loop-wire-preserved c =
    let xs = c.args.wires.now in
    let i = c.loop-wire.wire-index in
    let r = c.wire-item.result in
    past _ _ _ _
    (c.loop-wire.invariant ∙ ap (λ ys. one_link_assigns (is_wrong c.args.names.now (scope_at c.args.scope.now) false) (wire_assignments (map (λ w. (w.name.now, boxed_tree_of w.value)) ys))) (rest_is xs i r (omega arith) c.wire-item.is) ∙ links-first (is_wrong c.args.names.now (scope_at c.args.scope.now) false) (wire_assignment r.name.now (boxed_tree_of r.value)) (wire_assignments (map (λ w. (w.name.now, boxed_tree_of w.value)) (drop (i + 1) xs))))
    c.wire_is_wrong.ensures c.if-wire_is_wrong.false

pub returns-then-wire_is_wrong : goal.returns-then-wire_is_wrong
returns-then-wire_is_wrong c =
    let xs = c.args.wires.now in
    let i = c.loop-wire.wire-index in
    let r = c.wire-item.result in
    hit _ _ _ _
    (c.loop-wire.invariant ∙ ap (λ ys. one_link_assigns (is_wrong c.args.names.now (scope_at c.args.scope.now) false) (wire_assignments (map (λ w. (w.name.now, boxed_tree_of w.value)) ys))) (rest_is xs i r (omega arith) c.wire-item.is) ∙ links-first (is_wrong c.args.names.now (scope_at c.args.scope.now) false) (wire_assignment r.name.now (boxed_tree_of r.value)) (wire_assignments (map (λ w. (w.name.now, boxed_tree_of w.value)) (drop (i + 1) xs))))
    c.wire_is_wrong.ensures c.if-wire_is_wrong.true

pub returns : goal.returns
returns c =
    sym (c.loop-wire.invariant ∙ at_drop_all (λ ys. one_link_assigns (is_wrong c.args.names.now (scope_at c.args.scope.now) false) (wire_assignments (map (λ w. (w.name.now, boxed_tree_of w.value)) ys))) c.args.wires.now c.loop-wire.wire-index c.loop-wire-test.false)
