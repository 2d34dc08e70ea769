use Rattle.std.proofs.Common.{◌≡◌, ◌++◌, drop}
use Rattle.v_value.specs.Scope.{scope_at}
use Rattle.v_drivers.specs.Sets.{assignments_drivers}
use Rattle.v_drivers.specs.Premises.{HaveNarrowTargets}
use Rattle.v_drivers.specs.Lists.{sets_in, links_of}
use Rattle.v_drivers.proofs.link.add_assignments.Given as goal

abbrev pub invariant-loop-assignment : goal.invariant-loop-assignment
invariant-loop-assignment l = record {
  same : sets_in l.initial.drivers.items ++ assignments_drivers (scope_at l.scope) (links_of l.assignments)
      ≡ sets_in l.drivers.items ++ assignments_drivers (scope_at l.scope) (links_of (drop l.assignment-index l.assignments));
  narrow : HaveNarrowTargets (scope_at l.scope) (links_of (drop l.assignment-index l.assignments));
}
