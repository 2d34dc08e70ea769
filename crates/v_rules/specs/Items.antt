-- What the rules say of the items of a module and of what stands in them.
use Rattle.std.specs.Prelude.{List, [], ◌∷◌, Option, Some, None}
use Rattle.wb_values.specs.Value.{Name}
use Rattle.verilog_trees.specs.Syntax.{Expression, Target, Range, PortDeclaration, Event, Events, any_change, on_events, Item, port, parameter, wires, variables, assign, always, instances}
use Rattle.verilog_meaning.specs.Expression.{Scope, is_memory}
use Rattle.verilog_meaning.specs.Register.{is_clocked}
use Rattle.verilog_designs.specs.Expressions as designs
use Rattle.v_size.specs.declared.rule.Broken.{Broken}
use Rattle.v_size.specs.Rule.{coded, both}
use Rattle.v_rules.specs.Judging.{none, broken_at, range_at}
use Rattle.v_rules.specs.Targets.{net_target_at}
use Rattle.v_rules.specs.Statements.{statement_at}

-- declarations of ports after others
abbrev pub ports_from : Scope → Broken → List PortDeclaration → Broken
ports_from s a [] = a
ports_from s a (d ∷ ds) = ports_from s (both a (range_at s d.range)) ds

-- an expression, if there is one
abbrev pub optional_at : Scope → Option Expression → Broken
optional_at s None = none
optional_at s (Some e) = broken_at s e

-- nets after others
abbrev pub wires_from : Scope → Broken → List (Name × Option Expression) → Broken
wires_from s a [] = a
wires_from s a (w ∷ ws) = wires_from s (both a (optional_at s w.1)) ws

-- variables after others
abbrev pub variables_from : Scope → Broken → List (Name × Option Range) → Broken
variables_from s a [] = a
variables_from s a (v ∷ vs) = variables_from s (both a (range_at s v.1)) vs

-- continuous assignments after others
abbrev pub assignments_from : Scope → Broken → List (Target × Expression) → Broken
assignments_from s a [] = a
assignments_from s a (x ∷ xs) = assignments_from s (both a (both (net_target_at s designs.by_constants x.0) (broken_at s x.1))) xs

abbrev pub event_at : Scope → Name → Broken
event_at s n = coded (designs.memory_if (is_memory (s n)))

-- events after others
abbrev pub event_list_from : Scope → Broken → List Event → Broken
event_list_from s a [] = a
event_list_from s a (e ∷ es) = event_list_from s (both a (event_at s e.signal)) es

abbrev pub events_at : Scope → Events → Broken
events_at s any_change = none
events_at s (on_events es) = event_list_from s none es

-- An item. Of parameters and instances, which a module that stands by itself has not, nothing is said.
abbrev pub module_item_at : Scope → Item → Broken
module_item_at s (port d) = range_at s d.range
module_item_at s (parameter d) = none
module_item_at s (wires signed r ws) = both (range_at s r) (wires_from s none ws)
module_item_at s (variables signed r vs) = both (range_at s r) (variables_from s none vs)
module_item_at s (assign ts) = assignments_from s none ts
module_item_at s (always es x) = both (events_at s es) (statement_at s (is_clocked es) x)
module_item_at s (instances m given is) = none

-- items after others
abbrev pub module_items_from : Scope → Broken → List Item → Broken
module_items_from s a [] = a
module_items_from s a (i ∷ items) = module_items_from s (both a (module_item_at s i)) items
