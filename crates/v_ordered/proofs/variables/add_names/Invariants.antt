use Rattle.std.proofs.Common.{◌≡◌, ◌||◌, ℕ, Bool, Option, List, map, drop}
use Rattle.verilog_trees.specs.Syntax.{Range}
use Rattle.verilog_meaning.specs.Hierarchy.{variable_declarations}
use Rattle.verilog_registers.specs.Order.{is_variable_among}
use Rattle.v_hier.specs.Tables.{has_name}
use Rattle.v_syntax.specs.Source.{optional_range_of}
use Rattle.v_ordered.proofs.variables.add_names.Given as goal

abbrev pub invariant-loop-variable : goal.invariant-loop-variable
invariant-loop-variable l =
    (signed : Bool) (r : Option Range) (q : List ℕ)
    → (has_name l.initial.names q || is_variable_among (variable_declarations signed r (map (λ v. (v.name.now, optional_range_of v.addresses)) l.variables)) q)
    ≡ (has_name l.names q || is_variable_among (variable_declarations signed r (map (λ v. (v.name.now, optional_range_of v.addresses)) (drop l.variable-index l.variables))) q)
