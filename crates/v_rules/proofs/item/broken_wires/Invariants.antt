use Rattle.std.proofs.Common.{◌≡◌, drop, map}
use Rattle.v_value.specs.Scope.{scope_at}
use Rattle.v_rules.specs.Judging.{none}
use Rattle.v_syntax.specs.Source.{boxed_tree_of}
use Rattle.v_rules.specs.Items.{wires_from}
use Rattle.v_rules.proofs.item.broken_wires.Given as goal

abbrev pub invariant-loop-wire : goal.invariant-loop-wire
invariant-loop-wire l = wires_from (scope_at l.names.scope.now) none (map (λ w. (w.name.now, boxed_tree_of w.value)) l.wires) ≡ wires_from (scope_at l.names.scope.now) l.all (map (λ w. (w.name.now, boxed_tree_of w.value)) (drop l.wire-index l.wires))
