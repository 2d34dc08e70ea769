use Rattle.std.proofs.Common.{◌≡◌, ◌++◌, drop, map}
use Rattle.verilog_designs.specs.Names.{all_instance_names}
use Rattle.v_syntax.specs.Source.{item_of}
use Rattle.v_hier.specs.declared.entry.Tag.TheVariants.{Other}
use Rattle.v_hier.specs.Entries.{entries_of, tagged}
use Rattle.v_hier.proofs.entry.add_instances.Given as goal

abbrev pub invariant-loop-item : goal.invariant-loop-item
invariant-loop-item l =
    entries_of l.entries.items ++ tagged Other (all_instance_names (map item_of (drop l.item-index l.items))) ≡ entries_of l.initial.entries.items ++ tagged Other (all_instance_names (map item_of l.items))
