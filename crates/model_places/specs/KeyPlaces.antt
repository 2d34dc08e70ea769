-- The first key of a model file that objects of its kind do not have, in the order in which a model is gone through. What stands
-- under such a key is not looked at.
use Rattle.std.specs.Prelude.{ℕ, ◌+◌, cond, List, [], ◌∷◌, ◌++◌, Option, Some, None, option_map, codes}
use Rattle.wb_values.specs.Value.{Name, same_name}
use Rattle.wb_values.specs.Choice.{first_of}
use Rattle.model_meaning.specs.Among.{is_name_in}
use Rattle.serde_json.specs.Data.{Data, array, object, Items, no_items, item, Members, no_members, member}
use Rattle.serde_json.specs.Find.{as_str}
use Rattle.model_files.specs.Shape.{required}
use Rattle.model_files.specs.Keys.{model_keys, instruction_keys, child_keys, input_keys, state_keys}
use Rattle.model_places.specs.Sites.{Way, into, Spot, Site, site_at, key_spot, item_spot, part_spot}
use Rattle.model_places.specs.Notes.{site_note}

-- An object of a file: the way to its machine, the spot of each of its keys, the keys that objects of its kind have, and what
-- stands in it.
pub record Keyed : Type 0 where
  pub way : Way
  pub spot : (key : Name) → Spot
  pub keys : List Name
  pub members : Members

abbrev pub keyed : Way → ((key : Name) → Spot) → List Name → Members → Keyed
keyed w s ks ms = record { way = w; spot = s; keys = ks; members = ms }

-- the spot of a key of an item, with the item's name where it has one
abbrev pub key_of_item : (list : Name) → (index : ℕ) → Members → (key : Name) → Spot
key_of_item list k ms key = part_spot (item_spot list k (required as_str (codes "name") ms)) key

abbrev pub state_objects : Way → ℕ → Items → List Keyed
state_objects way k no_items = []
state_objects way k (item (object ms) ds) = keyed way (key_of_item (codes "states") k ms) (state_keys ms) ms ∷ state_objects way (k + 1) ds
state_objects way k (item _ ds) = state_objects way (k + 1) ds

abbrev pub input_objects : ℕ → Items → List Keyed
input_objects k no_items = []
input_objects k (item (object ms) ds) = keyed [] (key_of_item (codes "inputs") k ms) input_keys ms ∷ input_objects (k + 1) ds
input_objects k (item _ ds) = input_objects (k + 1) ds

-- the objects of the list that stands under a key, if a list stands there
abbrev pub objects_of : (Items → List Keyed) → Data → List Keyed
objects_of f (array ds) = f ds
objects_of f _ = []

abbrev pub objects_under : (Items → List Keyed) → Name → Members → List Keyed
objects_under f n no_members = []
objects_under f n (member k d ms) = cond (same_name k n) (objects_of f d) (objects_under f n ms)

abbrev mutual
  -- the object of an instruction, by its number, and those of its child
  pub instruction_objects : Way → ℕ → Data → List Keyed
  instruction_objects way k (object ms) =
      keyed way (key_of_item (codes "instructions") k ms) instruction_keys ms ∷ child_objects_under (into way k) ms
  instruction_objects way k _ = []

  pub child_objects_under : Way → Members → List Keyed
  child_objects_under way no_members = []
  child_objects_under way (member k d ms) = cond (same_name k (codes "child")) (child_objects way d) (child_objects_under way ms)

  -- the object of a child, its states and its instructions
  pub child_objects : Way → Data → List Keyed
  child_objects way (object ms) =
      keyed way key_spot child_keys ms ∷ (objects_under (state_objects way 0) (codes "states") ms ++ instruction_objects_under way ms)
  child_objects way _ = []

  pub instruction_objects_under : Way → Members → List Keyed
  instruction_objects_under way no_members = []
  instruction_objects_under way (member k d ms) =
      cond (same_name k (codes "instructions")) (instruction_list_objects way d) (instruction_objects_under way ms)

  pub instruction_list_objects : Way → Data → List Keyed
  instruction_list_objects way (array ds) = all_instruction_objects way 0 ds
  instruction_list_objects way _ = []

  pub all_instruction_objects : Way → ℕ → Items → List Keyed
  all_instruction_objects way k no_items = []
  all_instruction_objects way k (item d ds) = instruction_objects way k d ++ all_instruction_objects way (k + 1) ds

-- The objects of a model file, in the order in which a model is gone through: the model, its inputs, its states, and each
-- instruction with those in it; of a child the child, its states, and its instructions.
abbrev pub objects_in : Data → List Keyed
objects_in (object ms) =
    keyed [] key_spot model_keys ms
    ∷ (objects_under (input_objects 0) (codes "inputs") ms ++ (objects_under (state_objects [] 0) (codes "states") ms ++ instruction_objects_under [] ms))
objects_in _ = []

-- the first key of an object, by the bytes of the keys, that is none of these
abbrev pub first_other_key : List Name → Members → Option Name
first_other_key ks no_members = None
first_other_key ks (member k d ms) = cond (is_name_in k ks) (first_other_key ks ms) (Some k)

abbrev pub other_key_site : Keyed → Option Site
other_key_site o = option_map (λ key. site_at o.way (o.spot key)) (first_other_key o.keys o.members)

-- the first of the objects that has such a key, and the first of these keys
abbrev pub first_key_site : List Keyed → Option Site
first_key_site [] = None
first_key_site (o ∷ os) = first_of (other_key_site o) (first_key_site os)

-- The note of the first unknown key of a model file: an object's own keys come before those of the objects in it.
abbrev pub unknown_key_note : Data → Option (List ℕ)
unknown_key_note d = option_map site_note (first_key_site (objects_in d))
