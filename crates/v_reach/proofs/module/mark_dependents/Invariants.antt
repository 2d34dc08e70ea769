use Rattle.std.proofs.Common.{◌*◌}
use Rattle.std.specs.Prelude.{map}
use Rattle.v_syntax.specs.Source.{item_of}
use Rattle.v_value.specs.Scope.{scope_at}
use Rattle.v_masks.specs.Masks.{masked}
use Rattle.v_order.specs.Drivers.{drivers}
use Rattle.v_reach.specs.Marking.{IsSpread, AreMoreBy}
use Rattle.v_reach.proofs.module.mark_dependents.Given as goal

abbrev pub invariant-loop : goal.invariant-loop
invariant-loop l = record {
  spread : IsSpread (scope_at l.scope) (drivers (map item_of l.items)) (masked l.initial.marked) (masked l.marked);
  more : AreMoreBy (l.counter * 128) (scope_at l.scope) (drivers (map item_of l.items)) (masked l.initial.marked) (masked l.marked);
}
