use Rattle.std.proofs.Common.{◌≡◌, ◌++◌, drop, map}
use Rattle.verilog_meaning.specs.Hierarchy.{value_names}
use Rattle.v_syntax.specs.Tree.{tree_of}
use Rattle.v_instances.specs.Texts.{texts}
use Rattle.v_instances.proofs.interface.add_values.Given as goal

abbrev pub invariant-loop-value : goal.invariant-loop-value
invariant-loop-value l = texts l.initial.order.items ++ value_names (map (λ v. (v.name.now, tree_of v.value)) l.values) ≡ texts l.order.items ++ value_names (map (λ v. (v.name.now, tree_of v.value)) (drop l.value-index l.values))
