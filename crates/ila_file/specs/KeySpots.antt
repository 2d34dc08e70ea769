-- Where in an object of a model file the first unknown key stands, by what stands under the keys.
use Rattle.std.specs.Prelude.{ℕ, ◌+◌, Bool, cond, List, Option, Some, None, option_map, codes}
use Rattle.wb_values.specs.Value.{Name}
use Rattle.wb_values.specs.Choice.{first_of}
use Rattle.model_files.specs.Keys.{model_keys, child_keys, input_keys}
use Rattle.model_places.specs.Sites.{Way, Spot, Site, key_spot, part_spot}
use Rattle.model_places.specs.KeyPlaces.{first_other_key, first_key_site, child_objects, instruction_objects_under}
use Rattle.model_places.specs.ShapePlaces.{under, named_spot}
use Rattle.serde_json.specs.Data.{Data, object, Items, no_items, item, Members}
use Rattle.serde_json.specs.Find.{get, as_array, as_object}
use Rattle.ila_file.specs.KeyParts.{is_list_found, memory_keys, valued_keys}

-- the first key that is none of these; data that is no object has no keys
abbrev pub other_key_of : List Name → Option Members → Option Name
other_key_of ks None = None
other_key_of ks (Some ms) = first_other_key ks ms

abbrev pub state_key_of : Data → Option Name
state_key_of d = other_key_of (cond (is_list_found (get (codes "sort") d)) memory_keys valued_keys) (as_object d)

abbrev pub state_spots : ℕ → Items → Option Spot
state_spots k no_items = None
state_spots k (item d ds) = first_of (option_map (part_spot (named_spot (codes "states") k d)) (state_key_of d)) (state_spots (k + 1) ds)

abbrev pub input_spots : ℕ → Items → Option Spot
input_spots k no_items = None
input_spots k (item d ds) =
    first_of (option_map (part_spot (named_spot (codes "inputs") k d)) (other_key_of input_keys (as_object d))) (input_spots (k + 1) ds)

-- in a list that is there
abbrev pub listed : {A : Type 0} → (Items → Option A) → Option Items → Option A
listed f None = None
listed f (Some ds) = f ds

abbrev pub own_keys : (is_private : Bool) → List Name
own_keys is_private = cond is_private child_keys model_keys

-- a child has no inputs
abbrev pub inputs_spot : (is_private : Bool) → Data → Option Spot
inputs_spot is_private d = cond is_private None (listed (input_spots 0) (under as_array (codes "inputs") d))

-- of a machine's object, its inputs and states
abbrev pub own_spot : (is_private : Bool) → Data → Option Spot
own_spot is_private d =
    first_of (option_map key_spot (other_key_of (own_keys is_private) (as_object d)))
    (first_of (inputs_spot is_private d) (listed (state_spots 0) (under as_array (codes "states") d)))

-- the first item of which the test is true, with its place, where the first of the list has the place k
abbrev pub first_item : (Data → Bool) → ℕ → Items → Option (ℕ × Data)
first_item p k no_items = None
first_item p k (item d ds) = cond (p d) (Some (k, d)) (first_item p (k + 1) ds)

-- the first unknown key in the instructions of a machine
abbrev pub below : Way → Data → Option Site
below way (object ms) = first_key_site (instruction_objects_under way ms)
below way _ = None

abbrev pub child_below : Way → Option Data → Option Site
child_below way None = None
child_below way (Some d) = first_key_site (child_objects way d)
