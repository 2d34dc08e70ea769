-- What the code's names, tables and items stand for.
use Rattle.std.specs.Prelude.{List, map, Vec}
use Rattle.std.specs.Global.{Global}
use Rattle.std.specs.String.{string_bytes}
use Rattle.wb_values.specs.Value.{Name}
use Rattle.verilog_trees.specs.Syntax as pure
use Rattle.v_syntax.specs.declared.module.Assignment.{Assignment}
use Rattle.v_syntax.specs.declared.module.Event.{Event}
use Rattle.v_syntax.specs.declared.module.Item.{Item}
use Rattle.v_syntax.specs.Tree.{tree_of, target_of}
use Rattle.v_syntax.specs.Source.{edge_of, item_of}
use Rattle.v_value.specs.Scope.{object_of}
use Rattle.v_renamed.specs.declared.names.Names.{Names}
use Rattle.v_renamed.specs.NewNames.{new_name}
use Rattle.v_flat.specs.declared.names.Dotted.{Dotted}
use Rattle.v_flat.specs.declared.names.PlaceNames.{PlaceNames}
use Rattle.v_flat.specs.Entries.{DottedEntry, SpotNames}

abbrev pub entry_in : Dotted → DottedEntry
entry_in x = record { of_name = x.name.now; text = string_bytes x.text; object = object_of x.object }

abbrev pub names_in : PlaceNames → SpotNames
names_in p = record { front = string_bytes p.front; entries = map entry_in p.names.items }

-- the new names in each module
abbrev pub namings : List Names → List (Name → Name)
namings ts = map new_name ts

-- assignments and events
abbrev pub assignments_of : List Assignment → List (pure.Target × pure.Expression)
assignments_of xs = map (λ a. (target_of a.target, tree_of a.value)) xs

-- items, list by list
abbrev pub items_of : Vec Item Global → List pure.Item
items_of v = map item_of v.items

abbrev pub lists_of : List (Vec Item Global) → List (List pure.Item)
lists_of vs = map items_of vs

abbrev pub event_of : Event → pure.Event
event_of e = record { edge = edge_of e.edge; signal = e.signal.now }
