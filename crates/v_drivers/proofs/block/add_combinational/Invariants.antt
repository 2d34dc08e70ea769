use Rattle.std.proofs.Common.{◌≡◌, ◌++◌, drop}
use Rattle.std.specs.Prelude.{map}
use Rattle.verilog_meaning.specs.Register.{combinational_blocks}
use Rattle.v_value.specs.Scope.{scope_at}
use Rattle.v_syntax.specs.Source.{item_of}
use Rattle.v_drivers.specs.Sets.{blocks_drivers}
use Rattle.v_drivers.specs.Premises.{AreNarrowBlocks}
use Rattle.v_drivers.specs.Lists.{sets_in}
use Rattle.v_drivers.proofs.block.add_combinational.Given as goal

abbrev pub invariant-loop-item : goal.invariant-loop-item
invariant-loop-item l = record {
  same : sets_in l.initial.drivers.items ++ blocks_drivers (scope_at l.scope) (combinational_blocks (map item_of l.items))
      ≡ sets_in l.drivers.items ++ blocks_drivers (scope_at l.scope) (combinational_blocks (map item_of (drop l.item-index l.items)));
  narrow : AreNarrowBlocks (scope_at l.scope) (combinational_blocks (map item_of (drop l.item-index l.items)));
}
