-- What the instances among a module's items break: the values that override parameters, and what is connected to ports.
use Rattle.std.specs.Prelude.{List, [], ◌∷◌}
use Rattle.verilog_trees.specs.Syntax.{Item, port, parameter, wires, variables, assign, always, instances, Source}
use Rattle.verilog_meaning.specs.Expression.{Scope}
use Rattle.verilog_meaning.specs.Hierarchy.{module_named}
use Rattle.verilog_rules.specs.Expression.{Broken, nothing, also}
use Rattle.verilog_designs.specs.Expressions.{broken_overrides, broken_instances}

-- Other items say nothing here.
abbrev pub broken_instance_item : Source → Scope → Item → Broken
broken_instance_item source s (port d) = nothing
broken_instance_item source s (parameter d) = nothing
broken_instance_item source s (wires signed r ws) = nothing
broken_instance_item source s (variables signed r vs) = nothing
broken_instance_item source s (assign ts) = nothing
broken_instance_item source s (always es x) = nothing
broken_instance_item source s (instances m given is) = also (broken_overrides s given) (broken_instances s (module_named source m) is)

abbrev pub broken_instance_items : Source → Scope → List Item → Broken
broken_instance_items source s [] = nothing
broken_instance_items source s (i ∷ items) = also (broken_instance_item source s i) (broken_instance_items source s items)
