use Rattle.std.proofs.Common.{◌≡◌, false, drop}
use Rattle.std.specs.Prelude.{map}
use Rattle.v_syntax.specs.Source.{boxed_tree_of}
use Rattle.verilog_meaning.specs.Settled.{wire_assignments}
use Rattle.v_value.specs.Scope.{scope_at}
use Rattle.v_assigned.specs.Names.{is_wrong}
use Rattle.v_assigned.specs.Assigned.{one_link_assigns}
use Rattle.v_assigned.proofs.item.one_wire_is_wrong.Given as goal

abbrev pub invariant-loop-wire : goal.invariant-loop-wire
invariant-loop-wire l =
    one_link_assigns (is_wrong l.names (scope_at l.scope) false) (wire_assignments (map (λ w. (w.name.now, boxed_tree_of w.value)) l.wires))
    ≡ one_link_assigns (is_wrong l.names (scope_at l.scope) false) (wire_assignments (map (λ w. (w.name.now, boxed_tree_of w.value)) (drop l.wire-index l.wires)))
