use Rattle.std.proofs.Common.{◌≡◌, ◌++◌, drop, map}
use Rattle.verilog_designs.specs.Names.{module_names}
use Rattle.v_syntax.specs.Source.{module_of}
use Rattle.v_hier.specs.declared.entry.Tag.TheVariants.{Other}
use Rattle.v_hier.specs.Entries.{entries_of, tagged}
use Rattle.v_hier.proofs.entry.module_entries.Given as goal

abbrev pub invariant-loop-each : goal.invariant-loop-each
invariant-loop-each l = entries_of l.entries.items ++ tagged Other (module_names (map module_of (drop l.each-index l.modules))) ≡ tagged Other (module_names (map module_of l.modules))
