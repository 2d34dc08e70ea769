use Rattle.verilog_meaning.specs.Settled.{Design}
use Rattle.v_value.specs.Scope.{scope_at}
use Rattle.v_masks.specs.Masks.{masked}
use Rattle.map_uses.specs.Table.{new_name_in, TellsInputs, AreKnownIn}
use Rattle.map_uses.proofs.Told.{NoneBefore}
use Rattle.map_uses.proofs.asking.first_using.Given as goal

abbrev pub invariant-loop-number : goal.invariant-loop-number
invariant-loop-number l =
    (d : Design) → TellsInputs d (new_name_in l.table) (masked l.table.marked) → AreKnownIn d (scope_at l.scope) l.expressions → NoneBefore d l.expressions l.asked l.number
