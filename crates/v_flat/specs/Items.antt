-- The items of all modules of a list under other names, with their connections as assignments: continuous assignments and blocks alone.
use Rattle.std.specs.Prelude.{ℕ, ◌+◌, List, [], ◌∷◌, ◌++◌, map, get_or}
use Rattle.wb_values.specs.Value.{Name}
use Rattle.verilog_trees.specs.Syntax.{Expression, Target, Direction, input, output, Event, Events, any_change, on_events, Item, port, parameter, wires, variables, assign, always, instances}
use Rattle.verilog_meaning.specs.Settled.{wire_assignments, instance_connections}
use Rattle.verilog_renamed.specs.Renamed.{renamed_assignments, renamed_statement}
use Rattle.v_places.specs.Below.{Spot}
use Rattle.v_flat.specs.Links.{connection_links}

abbrev pub renamed_event : (Name → Name) → Event → Event
renamed_event f e = record { edge = e.edge; signal = f e.signal }

abbrev pub renamed_events : (Name → Name) → Events → Events
renamed_events f any_change = any_change
renamed_events f (on_events es) = on_events (map (renamed_event f) es)

-- what an item drives, instances aside, where its names are replaced by f
abbrev pub own_item : (Name → Name) → Item → List Item
own_item f (port d) = []
own_item f (parameter d) = []
own_item f (wires signed r ws) = assign (renamed_assignments f (wire_assignments ws)) ∷ []
own_item f (variables signed r vs) = []
own_item f (assign ts) = assign (renamed_assignments f ts) ∷ []
own_item f (always es x) = always (renamed_events f es) (renamed_statement f x) ∷ []
own_item f (instances m given is) = []

abbrev pub own_items : (Name → Name) → List Item → List Item
own_items f [] = []
own_items f (i ∷ items) = own_item f i ++ own_items f items

-- the new names in the module with a number; past the end a name stays as it is
abbrev pub naming_at : List (Name → Name) → ℕ → Name → Name
naming_at fs k = get_or fs k (λ n. n)

-- the connections of an instance to ports of one direction, where the names around it are replaced by f, and its own by g
abbrev pub spot_links : Direction → (f g : Name → Name) → Spot → List (Target × Expression)
spot_links way f g x = connection_links way f g x.of_module (instance_connections x.instance x.connections)

-- what a module of the list drives, and what its outputs drive around it
abbrev pub spot_items : (f g : Name → Name) → Spot → List Item
spot_items f g x = own_items g x.of_module.items ++ assign (spot_links output f g x) ∷ []

-- those of the modules from number k on
abbrev pub items_from : List (Name → Name) → ℕ → List Spot → List Item
items_from fs k [] = []
items_from fs k (x ∷ xs) = spot_items (naming_at fs x.parent) (naming_at fs k) x ++ items_from fs (k + 1) xs

-- and what drives their inputs
abbrev pub inputs_from : List (Name → Name) → ℕ → List Spot → List (Target × Expression)
inputs_from fs k [] = []
inputs_from fs k (x ∷ xs) = spot_links input (naming_at fs x.parent) (naming_at fs k) x ++ inputs_from fs (k + 1) xs

-- all of them, those that drive inputs last
abbrev pub all_items : List (Name → Name) → List Spot → List Item
all_items fs spots = items_from fs 0 spots ++ assign (inputs_from fs 0 spots) ∷ []
