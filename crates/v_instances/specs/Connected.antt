-- What the rules say of overrides and connections, by the interfaces of the modules below, one after the other.
use Rattle.std.specs.Prelude.{ℕ, ◌+◌, Bool, false, cond, List, [], ◌∷◌, Option, Some, None}
use Rattle.wb_values.specs.Value.{Name}
use Rattle.verilog_trees.specs.Syntax.{Expression, Connections, by_name, by_order, Item, port, parameter, wires, variables, assign, always, instances}
use Rattle.verilog_meaning.specs.Expression.{Scope}
use Rattle.verilog_meaning.specs.Settled.{PortPlace, port_named, port_numbered}
use Rattle.v_size.specs.declared.rule.Broken.{Broken}
use Rattle.v_size.specs.Rule.{both}
use Rattle.v_instances.specs.declared.interface.Interface.{Interface}
use Rattle.v_instances.specs.Connections.{is_output_of}
use Rattle.v_instances.specs.Outputs.{none, expression_at, output_at, constant_at}

-- an output of the module below, if there is one
abbrev pub is_output_to : Option Interface → PortPlace → Bool
is_output_to None q = false
is_output_to (Some i) q = is_output_of i q

abbrev pub connected_at : Scope → (is_an_output : Bool) → Expression → Broken
connected_at s b e = cond b (output_at s e) (expression_at s e)

abbrev pub connection_at : Scope → Option Interface → PortPlace → Option Expression → Broken
connection_at s o q None = none
connection_at s o q (Some e) = connected_at s (is_output_to o q) e

-- connections after others
abbrev pub named_from : Scope → Option Interface → Broken → List (Name × Option Expression) → Broken
named_from s o a [] = a
named_from s o a (c ∷ cs) = named_from s o (both a (connection_at s o (port_named c.0) c.1)) cs

abbrev pub ordered_from : Scope → Option Interface → ℕ → Broken → List (Option Expression) → Broken
ordered_from s o k a [] = a
ordered_from s o k a (e ∷ es) = ordered_from s o (k + 1) (both a (connection_at s o (port_numbered k) e)) es

abbrev pub connections_at : Scope → Option Interface → Connections → Broken
connections_at s o (by_name cs) = named_from s o none cs
connections_at s o (by_order es) = ordered_from s o 0 none es

-- instances after others
abbrev pub instances_from : Scope → Option Interface → Broken → List (Name × Connections) → Broken
instances_from s o a [] = a
instances_from s o a (u ∷ us) = instances_from s o (both a (connections_at s o u.1)) us

-- overrides after others
abbrev pub override_at : Scope → Option Expression → Broken
override_at s None = none
override_at s (Some e) = constant_at s e

abbrev pub named_values_from : Scope → Broken → List (Name × Option Expression) → Broken
named_values_from s a [] = a
named_values_from s a (c ∷ cs) = named_values_from s (both a (override_at s c.1)) cs

abbrev pub ordered_values_from : Scope → Broken → List (Option Expression) → Broken
ordered_values_from s a [] = a
ordered_values_from s a (e ∷ es) = ordered_values_from s (both a (override_at s e)) es

abbrev pub overrides_at : Scope → Connections → Broken
overrides_at s (by_name cs) = named_values_from s none cs
overrides_at s (by_order es) = ordered_values_from s none es

abbrev pub instance_item_at : Scope → (Name → Option Interface) → Item → Broken
instance_item_at s find (port d) = none
instance_item_at s find (parameter d) = none
instance_item_at s find (wires signed r ws) = none
instance_item_at s find (variables signed r vs) = none
instance_item_at s find (assign ts) = none
instance_item_at s find (always es x) = none
instance_item_at s find (instances m given us) = both (overrides_at s given) (instances_from s (find m) none us)

-- items after others
abbrev pub instance_items_from : Scope → (Name → Option Interface) → Broken → List Item → Broken
instance_items_from s find a [] = a
instance_items_from s find a (i ∷ items) = instance_items_from s find (both a (instance_item_at s find i)) items
