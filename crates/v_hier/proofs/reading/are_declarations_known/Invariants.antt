use Rattle.std.proofs.Common.{◌≡◌, ◌++◌, List, drop, map}
use Rattle.verilog_designs.specs.Names.{all_parameter_mentions}
use Rattle.v_syntax.specs.Source.{parameter_of}
use Rattle.verilog_designs.specs.Names.{Mention}
use Rattle.v_hier.specs.Reading.{unknown_with}
use Rattle.v_hier.proofs.reading.are_declarations_known.Given as goal

abbrev pub invariant-loop-declaration : goal.invariant-loop-declaration
invariant-loop-declaration l =
    (later : List Mention) → unknown_with l.initial.names (all_parameter_mentions (map parameter_of l.declarations) ++ later) ≡ unknown_with l.names (all_parameter_mentions (map parameter_of (drop l.declaration-index l.declarations)) ++ later)
