use Rattle.std.proofs.Common.{◌≡◌, ◌||◌, ℕ, List, drop, map}
use Rattle.verilog_meaning.specs.Hierarchy.{value_names}
use Rattle.verilog_designs.specs.Names.{is_among}
use Rattle.v_syntax.specs.Tree.{tree_of}
use Rattle.v_hier.specs.Tables.{has_name}
use Rattle.v_modules.proofs.parameter.add_values.Given as goal

abbrev pub invariant-loop-value : goal.invariant-loop-value
invariant-loop-value l = (q : List ℕ) → (has_name l.names q || is_among (value_names (map (λ v. (v.name.now, tree_of v.value)) (drop l.value-index l.values))) q) ≡ (has_name l.initial.names q || is_among (value_names (map (λ v. (v.name.now, tree_of v.value)) l.values)) q)
