use Rattle.std.proofs.Common.{◌≡◌, ◌++◌, drop, map}
use Rattle.verilog_meaning.specs.Hierarchy.{value_names}
use Rattle.v_syntax.specs.declared.module.ParameterValue.{ParameterValue}
use Rattle.v_syntax.specs.Tree.{tree_of}
use Rattle.v_hier.specs.declared.entry.Tag.TheVariants.{Other}
use Rattle.v_hier.specs.Entries.{entries_of, tagged}
use Rattle.v_hier.proofs.entry.add_values.Given as goal

abbrev pub invariant-loop-value : goal.invariant-loop-value
invariant-loop-value l =
    entries_of l.entries.items ++ tagged Other (value_names (map (λ (v : ParameterValue). (v.name.now, tree_of v.value)) (drop l.value-index l.values))) ≡ entries_of l.initial.entries.items ++ tagged Other (value_names (map (λ (v : ParameterValue). (v.name.now, tree_of v.value)) l.values))
