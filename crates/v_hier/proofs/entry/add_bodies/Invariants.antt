use Rattle.std.proofs.Common.{◌≡◌, ◌++◌, drop, map}
use Rattle.verilog_meaning.specs.Hierarchy.{body_parameters}
use Rattle.verilog_designs.specs.Names.{parameter_names}
use Rattle.v_syntax.specs.Source.{item_of}
use Rattle.v_hier.specs.declared.entry.Tag.TheVariants.{Other}
use Rattle.v_hier.specs.Entries.{entries_of, tagged}
use Rattle.v_hier.proofs.entry.add_bodies.Given as goal

abbrev pub invariant-loop-item : goal.invariant-loop-item
invariant-loop-item l =
    entries_of l.entries.items ++ tagged Other (parameter_names (body_parameters (map item_of (drop l.item-index l.items)))) ≡ entries_of l.initial.entries.items ++ tagged Other (parameter_names (body_parameters (map item_of l.items)))
