-- Keys that a model file's objects do not have, by what stands under the others.
use Rattle.std.specs.Prelude.{Bool, false, cond, ◌||◌, List, [], ◌∷◌, Option, Some, None, is_some, codes}
use Rattle.wb_values.specs.Value.{Name}
use Rattle.model_files.specs.Keys.{has_other_key, some_item, instruction_keys, child_keys, state_has_other_key, instruction_has_unknown_key}
use Rattle.serde_json.specs.Data.{Data, Items, Members}
use Rattle.serde_json.specs.Find.{get, as_array, as_object}
use Rattle.model_places.specs.ShapePlaces.{under}

-- data that is no object has no keys
abbrev pub other_key_in : List Name → Option Members → Bool
other_key_in ks None = false
other_key_in ks (Some ms) = has_other_key ks ms

abbrev pub is_list_found : Option Data → Bool
is_list_found None = false
is_list_found (Some d) = is_some (as_array d)

abbrev pub memory_keys : List Name
memory_keys = codes "name" ∷ codes "sort" ∷ []

abbrev pub valued_keys : List Name
valued_keys = codes "name" ∷ codes "sort" ∷ codes "init" ∷ []

abbrev pub state_key_parts : Data → Bool
state_key_parts d = other_key_in (cond (is_list_found (get (codes "sort") d)) memory_keys valued_keys) (as_object d)

-- some item of a list that is there
abbrev pub some_listed : (Data → Bool) → Option Items → Bool
some_listed p None = false
some_listed p (Some ds) = some_item p ds

abbrev pub child_key_parts : Data → Bool
child_key_parts d =
    other_key_in child_keys (as_object d)
    || (some_listed state_has_other_key (under as_array (codes "states") d) || some_listed instruction_has_unknown_key (under as_array (codes "instructions") d))

abbrev pub child_key_found : Option Data → Bool
child_key_found None = false
child_key_found (Some d) = child_key_parts d

abbrev pub instruction_key_parts : Data → Bool
instruction_key_parts d = other_key_in instruction_keys (as_object d) || child_key_found (get (codes "child") d)
