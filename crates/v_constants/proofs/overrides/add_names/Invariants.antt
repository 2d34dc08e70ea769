use Rattle.std.proofs.Common.{◌≡◌, ◌++◌, drop, map, Bor, List, ℕ}
use Rattle.verilog_meaning.specs.Hierarchy.{value_names}
use Rattle.v_syntax.specs.declared.module.ParameterValue.{ParameterValue}
use Rattle.v_syntax.specs.Tree.{tree_of}
use Rattle.v_constants.proofs.overrides.add_names.Given as goal

abbrev pub invariant-loop-value : goal.invariant-loop-value
invariant-loop-value l =
    map (λ (n : Bor (List ℕ)). n.now) l.list.items ++ value_names (map (λ (v : ParameterValue). (v.name.now, tree_of v.value)) (drop l.value-index l.values))
    ≡ map (λ (n : Bor (List ℕ)). n.now) l.initial.list.items ++ value_names (map (λ (v : ParameterValue). (v.name.now, tree_of v.value)) l.values)
