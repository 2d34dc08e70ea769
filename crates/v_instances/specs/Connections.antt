-- Connections that do not fit, by the interfaces of the modules below.
use Rattle.std.specs.Prelude.{ℕ, ◌+◌, Bool, true, false, not, ◌&&◌, ◌||◌, List, [], ◌∷◌, Option, Some, None, is_some, slice_get}
use Rattle.std.specs.List.{list_any}
use Rattle.wb_values.specs.Value.{Name}
use Rattle.verilog_trees.specs.Syntax as pure
use Rattle.verilog_trees.specs.Syntax.{Expression, Connections, by_name, by_order, Item, port, parameter, wires, variables, assign, always, instances}
use Rattle.verilog_meaning.specs.Settled.{as_target, PortPlace, port_named, port_numbered}
use Rattle.verilog_designs.specs.Names.{is_among}
use Rattle.verilog_designs.specs.Ports.{is_output, are_bad_connections}
use Rattle.v_syntax.specs.declared.tree.Expression.{Expression as CodeExpression}
use Rattle.v_syntax.specs.Tree.{tree_of}
use Rattle.v_instances.specs.declared.interface.Interface.{Interface}
use Rattle.v_instances.specs.Interface.{direction_in}
use Rattle.v_instances.specs.Texts.{texts}

-- the direction of a port, if one is meant
abbrev pub direction_at : Interface → Option Name → Option pure.Direction
direction_at i None = None
direction_at i (Some n) = direction_in i.directions n

-- the port that is meant
abbrev pub meant_by : Interface → PortPlace → Option Name
meant_by i (port_named n) = Some n
meant_by i (port_numbered k) = slice_get (texts i.ports.order.items) k

-- the port that is meant is an output
abbrev pub is_output_of : Interface → PortPlace → Bool
is_output_of i q = is_output (direction_at i (meant_by i q))

-- an expression that is a target as well, under a name that does not unfold by itself
unfoldable pub is_target : Expression → Bool
is_target e = is_some (as_target e)

abbrev pub are_targets : List CodeExpression → Bool
are_targets [] = true
are_targets (e ∷ es) = is_target (tree_of e) && are_targets es

abbrev pub are_none : {X : Type 0} → List X → Bool
are_none [] = true
are_none (x ∷ xs) = false

-- an output is connected to what is no target
abbrev pub is_bad_at : Interface → PortPlace → Option Expression → Bool
is_bad_at i q None = false
is_bad_at i q (Some e) = is_output_of i q && not (is_target e)

abbrev pub one_bad_named : Interface → List (Name × Option Expression) → Bool
one_bad_named i [] = false
one_bad_named i (c ∷ cs) = is_bad_at i (port_named c.0) c.1 || one_bad_named i cs

-- the connections from place k on
abbrev pub one_bad_ordered : Interface → ℕ → List (Option Expression) → Bool
one_bad_ordered i k [] = false
one_bad_ordered i k (e ∷ es) = is_bad_at i (port_numbered k) e || one_bad_ordered i (k + 1) es

abbrev pub one_bad : Interface → Connections → Bool
one_bad i (by_name cs) = one_bad_named i cs
one_bad i (by_order es) = one_bad_ordered i 0 es

-- some name stands twice
abbrev pub repeats : List Name → Bool
repeats [] = false
repeats (n ∷ ns) = is_among ns n || repeats ns

-- a name that is none of these, or a name twice
abbrev pub are_bad_names : (these names : List Name) → Bool
are_bad_names these names = list_any (λ n. not (is_among these n)) names || repeats names

abbrev pub is_bad_to : Interface → (Name × Connections) → Bool
is_bad_to i u = are_bad_connections (texts i.ports.order.items) u.1 || one_bad i u.1

abbrev pub one_bad_to : Interface → List (Name × Connections) → Bool
one_bad_to i [] = false
one_bad_to i (u ∷ us) = is_bad_to i u || one_bad_to i us

abbrev pub are_bad_to : Option Interface → Connections → List (Name × Connections) → Bool
are_bad_to None given us = false
are_bad_to (Some i) given us = are_bad_connections (texts i.parameters.order.items) given || one_bad_to i us

abbrev pub is_bad_item : (Name → Option Interface) → Item → Bool
is_bad_item find (port d) = false
is_bad_item find (parameter d) = false
is_bad_item find (wires signed r ws) = false
is_bad_item find (variables signed r vs) = false
is_bad_item find (assign ts) = false
is_bad_item find (always es x) = false
is_bad_item find (instances m given us) = are_bad_to (find m) given us

abbrev pub one_bad_item : (Name → Option Interface) → List Item → Bool
one_bad_item find [] = false
one_bad_item find (i ∷ items) = is_bad_item find i || one_bad_item find items
