-- Keys that a map file's objects do not have. What stands under such a key is not looked at. The keys of states and inputs are names
-- of the model, so any may stand there.
use Rattle.std.specs.Prelude.{Bool, false, ◌||◌, List, [], ◌∷◌, Option, Some, None, codes}
use Rattle.wb_values.specs.Value.{Name}
use Rattle.serde_json.specs.Data.{Data, object}
use Rattle.serde_json.specs.Find.{get, as_array}
use Rattle.model_files.specs.Keys.{has_other_key, some_item}
use Rattle.map_files.specs.Shape.{read_under}

abbrev pub map_keys : List Name
map_keys =
    codes "version" ∷ codes "top" ∷ codes "clock" ∷ codes "reset" ∷ codes "assume" ∷ codes "invariants" ∷ codes "start"
    ∷ codes "states" ∷ codes "inputs" ∷ codes "instructions" ∷ []

abbrev pub reset_keys : List Name
reset_keys = codes "signal" ∷ codes "active" ∷ codes "cycles" ∷ []

abbrev pub entry_keys : List Name
entry_keys = codes "name" ∷ codes "commit" ∷ codes "bound" ∷ []

-- an object that has a key besides these
abbrev pub has_key_besides : List Name → Data → Bool
has_key_besides ks (object ms) = has_other_key ks ms
has_key_besides ks _ = false

abbrev pub is_there_and : {A : Type 0} → (A → Bool) → Option A → Bool
is_there_and p None = false
is_there_and p (Some x) = p x

-- Some object of a map file has a key that objects of its kind do not have.
abbrev pub map_has_unknown_key : Data → Bool
map_has_unknown_key d =
    has_key_besides map_keys d
    || (is_there_and (has_key_besides reset_keys) (get (codes "reset") d)
    || is_there_and (some_item (has_key_besides entry_keys)) (read_under as_array (codes "instructions") d))
