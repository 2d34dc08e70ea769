use Rattle.std.proofs.Common.{◌≡◌, ◌++◌, drop}
use Rattle.std.specs.Prelude.{map}
use Rattle.verilog_meaning.specs.Settled.{assignments}
use Rattle.v_value.specs.Scope.{scope_at}
use Rattle.v_syntax.specs.Source.{item_of}
use Rattle.v_drivers.specs.Sets.{assignments_drivers}
use Rattle.v_drivers.specs.Premises.{HaveNarrowTargets}
use Rattle.v_drivers.specs.Lists.{sets_in}
use Rattle.v_drivers.proofs.link.add_links.Given as goal

abbrev pub invariant-loop-item : goal.invariant-loop-item
invariant-loop-item l = record {
  same : sets_in l.initial.drivers.items ++ assignments_drivers (scope_at l.scope) (assignments (map item_of l.items))
      ≡ sets_in l.drivers.items ++ assignments_drivers (scope_at l.scope) (assignments (map item_of (drop l.item-index l.items)));
  narrow : HaveNarrowTargets (scope_at l.scope) (assignments (map item_of (drop l.item-index l.items)));
}
