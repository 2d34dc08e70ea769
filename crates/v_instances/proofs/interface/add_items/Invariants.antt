use Rattle.std.proofs.Common.{◌≡◌, ℕ, List, drop, map}
use Rattle.wb_values.specs.Value.{entry_of}
use Rattle.wb_values.specs.Choice.{first_of}
use Rattle.verilog_meaning.specs.Settled.{item_ports}
use Rattle.v_syntax.specs.Source.{item_of}
use Rattle.v_instances.specs.Interface.{direction_in}
use Rattle.v_instances.proofs.interface.add_items.Given as goal

abbrev pub invariant-loop-item : goal.invariant-loop-item
invariant-loop-item l = (q : List ℕ) → first_of (direction_in l.directions q) (entry_of (item_ports (map item_of (drop l.item-index l.items))) q) ≡ first_of (direction_in l.initial.directions q) (entry_of (item_ports (map item_of l.items)) q)
