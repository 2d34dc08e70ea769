use Rattle.std.proofs.Common.{◌≡◌, ◌++◌, drop, map}
use Rattle.verilog_designs.specs.Names.{parameter_names}
use Rattle.v_syntax.specs.Source.{parameter_of}
use Rattle.v_hier.specs.declared.entry.Tag.TheVariants.{Other}
use Rattle.v_hier.specs.Entries.{entries_of, tagged}
use Rattle.v_hier.proofs.entry.add_declarations.Given as goal

abbrev pub invariant-loop-declaration : goal.invariant-loop-declaration
invariant-loop-declaration l =
    entries_of l.entries.items ++ tagged Other (parameter_names (map parameter_of (drop l.declaration-index l.declarations))) ≡ entries_of l.initial.entries.items ++ tagged Other (parameter_names (map parameter_of l.declarations))
