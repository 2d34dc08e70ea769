use Rattle.std.proofs.Common.{◌≡◌, ◌+◌, ℕ, Option, List, map, length, drop}
use Rattle.std.specs.BTreeMap.{btree_map_len}
use Rattle.wb_values.specs.Value.{Name}
use Rattle.verilog_trees.specs.Syntax.{Module, Source}
use Rattle.v_syntax.specs.Source.{item_of}
use Rattle.v_standing.specs.Standing.{left_in, numbered, IsBelowOne, AreAdded, AreWithin}
use Rattle.v_standing.proofs.below.add_items.Given as goal

abbrev pub invariant-loop-item : goal.invariant-loop-item
invariant-loop-item l = record {
  added : (source : Source) (r : Name → Option Module) (os : List Module)
      → AreAdded source (IsBelowOne source (map item_of (drop l.item-index l.items))) (left_in source l.left) (numbered source l.found.items) r os
      → AreAdded source (IsBelowOne source (map item_of l.items)) (left_in source l.initial.left) (numbered source l.initial.found.items) r os;
  within : (n : ℕ) → AreWithin n l.initial.left l.initial.found.items → AreWithin n l.left l.found.items;
  size : btree_map_len l.left + length l.found.items ≡ btree_map_len l.initial.left + length l.initial.found.items;
}
