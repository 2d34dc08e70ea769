use Rattle.std.proofs.Common.{◌≡◌, drop, map}
use Rattle.v_syntax.specs.Source.{boxed_tree_of}
use Rattle.v_hier.specs.Reading.{knows}
use Rattle.v_hier.specs.Clock.{wires_known}
use Rattle.v_hier.proofs.clock.are_wires_known.Given as goal

abbrev pub invariant-loop-wire : goal.invariant-loop-wire
invariant-loop-wire l = wires_known (knows l.names) (map (λ w. (w.name.now, boxed_tree_of w.value)) l.wires) ≡ wires_known (knows l.names) (map (λ w. (w.name.now, boxed_tree_of w.value)) (drop l.wire-index l.wires))
