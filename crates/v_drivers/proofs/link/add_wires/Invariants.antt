use Rattle.std.proofs.Common.{◌≡◌, ◌++◌, drop}
use Rattle.v_value.specs.Scope.{scope_at}
use Rattle.v_drivers.specs.Sets.{assignments_drivers}
use Rattle.v_drivers.specs.Premises.{HaveNarrowTargets}
use Rattle.v_drivers.specs.Lists.{sets_in, wire_links}
use Rattle.v_drivers.proofs.link.add_wires.Given as goal

abbrev pub invariant-loop-wire : goal.invariant-loop-wire
invariant-loop-wire l = record {
  same : sets_in l.initial.drivers.items ++ assignments_drivers (scope_at l.scope) (wire_links l.wires)
      ≡ sets_in l.drivers.items ++ assignments_drivers (scope_at l.scope) (wire_links (drop l.wire-index l.wires));
  narrow : HaveNarrowTargets (scope_at l.scope) (wire_links (drop l.wire-index l.wires));
}
