use Rattle.std.proofs.Common.{◌≡◌, ◌++◌, List, drop, map}
use Rattle.verilog_designs.specs.Names.{value_mentions}
use Rattle.v_syntax.specs.declared.module.ParameterValue.{ParameterValue}
use Rattle.v_syntax.specs.Tree.{tree_of}
use Rattle.verilog_designs.specs.Names.{Mention}
use Rattle.v_hier.specs.Reading.{unknown_with}
use Rattle.v_hier.proofs.reading.are_values_known.Given as goal

abbrev pub invariant-loop-value : goal.invariant-loop-value
invariant-loop-value l =
    (later : List Mention) → unknown_with l.initial.names (value_mentions (map (λ (v : ParameterValue). (v.name.now, tree_of v.value)) l.values) ++ later) ≡ unknown_with l.names (value_mentions (map (λ (v : ParameterValue). (v.name.now, tree_of v.value)) (drop l.value-index l.values)) ++ later)
