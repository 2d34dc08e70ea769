-- Ports and their connections: what of them does not fit together (1364-2005, 12.3).
use Rattle.std.specs.Prelude.{ℕ, Bool, true, false, cond, not, ◌&&◌, ◌||◌, ◌==◌, nat_lt, List, [], ◌∷◌, ◌++◌, length, Option, Some, None, is_none}
use Rattle.std.specs.List.{list_any}
use Rattle.wb_values.specs.Value.{Name, same_name, entry_of}
use Rattle.verilog_trees.specs.Syntax.{Expression, Direction, input, output, NetKind, reg, Range, Connections, by_name, by_order, Item, port, parameter, wires, variables, assign, always, instances, Module, Source}
use Rattle.verilog_meaning.specs.Expression.{Scope}
use Rattle.verilog_meaning.specs.Hierarchy.{all_parameters, Declaration, declarations, declaration_of, module_named, overridable, Placed}
use Rattle.verilog_meaning.specs.Settled.{names_of, port_directions, port_order, as_target, Connection, instance_connections, port_meant}
use Rattle.verilog_designs.specs.Known.{known_range, known_scope}
use Rattle.verilog_designs.specs.Names.{is_among, has_repeated}

abbrev pub is_input : Option Direction → Bool
is_input (Some input) = true
is_input _ = false

abbrev pub is_output : Option Direction → Bool
is_output (Some output) = true
is_output _ = false

abbrev pub is_reg : Option NetKind → Bool
is_reg (Some reg) = true
is_reg _ = false

-- a port of the list has no direction; a direction has no port in the list
abbrev pub lacks_direction : Module → Bool
lacks_direction m = list_any (λ n. is_none (entry_of (port_directions m) n)) (port_order m)

abbrev pub lacks_port : Module → Bool
lacks_port m = list_any (λ n. not (is_among (port_order m) n)) (names_of (port_directions m))

abbrev pub is_reg_input : Option Declaration → Bool
is_reg_input None = false
is_reg_input (Some d) = is_input d.direction && is_reg d.kind

-- an input is declared reg
abbrev pub has_reg_input : Module → Bool
has_reg_input m = list_any (λ n. is_reg_input (declaration_of (declarations m) n)) (port_order m)

-- the ranges with values that are declared of a name
abbrev pub one_range : Scope → Option Range → List (ℕ × ℕ)
one_range s None = []
one_range s (Some r) = range_or_none (known_range s r)
  where
    range_or_none : Option (ℕ × ℕ) → List (ℕ × ℕ)
    range_or_none None = []
    range_or_none (Some b) = b ∷ []

abbrev pub ranges_of : Scope → List Declaration → Name → List (ℕ × ℕ)
ranges_of s [] n = []
ranges_of s (d ∷ ds) n = cond (same_name d.of_name n) (one_range s d.range) [] ++ ranges_of s ds n

abbrev pub is_other_range : ℕ × ℕ → ℕ × ℕ → Bool
is_other_range a b = not ((a.0 == b.0) && (a.1 == b.1))

abbrev pub differ : List (ℕ × ℕ) → Bool
differ [] = false
differ (a ∷ rest) = list_any (is_other_range a) rest

-- A port's direction and its wire or reg declaration have ranges with unequal bounds.
abbrev pub has_unequal_ranges : Scope → Module → Bool
has_unequal_ranges s m = list_any (λ n. differ (ranges_of s (declarations m) n)) (names_of (port_directions m))

-- ---- instances

abbrev pub connected_names : List (Name × Option Expression) → List Name
connected_names [] = []
connected_names (c ∷ cs) = c.0 ∷ connected_names cs

-- A single empty entry, as in `u()`, connects nothing.
abbrev pub entry_count : List (Option Expression) → ℕ
entry_count [] = 0
entry_count (None ∷ []) = 0
entry_count (e ∷ es) = length (e ∷ es)

-- Connections to these ports, or overrides of these parameters: a name that is none of them, a name twice, or too many.
abbrev pub are_bad_connections : List Name → Connections → Bool
are_bad_connections names (by_name cs) =
    list_any (λ n. not (is_among names n)) (connected_names cs) || has_repeated (connected_names cs)
are_bad_connections names (by_order es) = nat_lt (length names) (entry_count es)

abbrev pub port_direction : Module → Option Name → Option Direction
port_direction m None = None
port_direction m (Some n) = entry_of (port_directions m) n

-- an output is connected to what is not a target
abbrev pub is_bad_output : Module → Connection → Bool
is_bad_output below c = is_output (port_direction below (port_meant below c.to_port)) && is_none (as_target c.expression)

abbrev pub is_badly_connected : Module → (Name × Connections) → Bool
is_badly_connected below i =
    are_bad_connections (port_order below) i.1 || list_any (is_bad_output below) (instance_connections i.0 i.1)

-- instances of a module, if there is one of the name
abbrev pub are_badly_connected : Option Module → Connections → List (Name × Connections) → Bool
are_badly_connected None given is = false
are_badly_connected (Some below) given is =
    are_bad_connections (overridable (all_parameters below)) given || list_any (is_badly_connected below) is

abbrev pub has_bad_instance : Source → List Item → Bool
has_bad_instance source [] = false
has_bad_instance source (port d ∷ items) = has_bad_instance source items
has_bad_instance source (parameter d ∷ items) = has_bad_instance source items
has_bad_instance source (wires signed r ws ∷ items) = has_bad_instance source items
has_bad_instance source (variables signed r vs ∷ items) = has_bad_instance source items
has_bad_instance source (assign ts ∷ items) = has_bad_instance source items
has_bad_instance source (always es x ∷ items) = has_bad_instance source items
has_bad_instance source (instances m given is ∷ items) =
    are_badly_connected (module_named source m) given is || has_bad_instance source items

-- BadPort: in a module with those of its parameters that have values.
abbrev pub has_bad_port : Source → Placed → Bool
has_bad_port source p =
    (lacks_direction p.of_module || lacks_port p.of_module)
    || ((has_reg_input p.of_module || has_unequal_ranges (known_scope p) p.of_module) || has_bad_instance source p.of_module.items)
