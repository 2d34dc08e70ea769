use Rattle.std.proofs.Common.{◌≡◌, ◌++◌, drop, map}
use Rattle.verilog_meaning.specs.Hierarchy.{item_declarations}
use Rattle.v_syntax.specs.Source.{item_of}
use Rattle.v_hier.specs.Entries.{entries_of, declaration_entries}
use Rattle.v_hier.proofs.entry.add_all_declared.Given as goal

abbrev pub invariant-loop-item : goal.invariant-loop-item
invariant-loop-item l =
    entries_of l.entries.items ++ declaration_entries (item_declarations (map item_of (drop l.item-index l.items))) ≡ entries_of l.initial.entries.items ++ declaration_entries (item_declarations (map item_of l.items))
