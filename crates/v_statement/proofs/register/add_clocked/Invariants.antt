use Rattle.std.proofs.Common.{◌≡◌, ◌++◌, drop, map}
use Rattle.verilog_meaning.specs.Register.{clocked_blocks, updates_of_blocks}
use Rattle.v_value.specs.Scope.{scope_at, valuation_at}
use Rattle.v_syntax.specs.Source.{item_of}
use Rattle.v_statement.specs.Places.{updates_of}
use Rattle.v_statement.specs.Registers.{AreNarrowBlocks}
use Rattle.v_statement.proofs.register.add_clocked.Given as goal

abbrev pub invariant-loop-item : goal.invariant-loop-item
invariant-loop-item l = record {
  same : updates_of l.initial.updates.items ++ updates_of_blocks (scope_at l.scope) (valuation_at l.values) (clocked_blocks (map item_of l.items))
      ≡ updates_of l.updates.items ++ updates_of_blocks (scope_at l.scope) (valuation_at l.values) (clocked_blocks (map item_of (drop l.item-index l.items)));
  narrow : AreNarrowBlocks (scope_at l.scope) (clocked_blocks (map item_of (drop l.item-index l.items)));
}
