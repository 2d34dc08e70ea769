-- Keys that a model file's objects do not have. What stands under such a key is not looked at.
use Rattle.std.specs.Prelude.{Bool, true, false, cond, not, ◌||◌, List, [], ◌∷◌, codes}
use Rattle.wb_values.specs.Value.{Name, same_name}
use Rattle.model_meaning.specs.Among.{is_name_in}
use Rattle.serde_json.specs.Data.{Data, array, object, Items, no_items, item, Members, no_members, member}

-- some key of the object is none of these
abbrev pub has_other_key : List Name → Members → Bool
has_other_key ks no_members = false
has_other_key ks (member k d ms) = not (is_name_in k ks) || has_other_key ks ms

-- some item of the list that stands under the key is so
abbrev pub some_item : (Data → Bool) → Items → Bool
some_item p no_items = false
some_item p (item d ds) = p d || some_item p ds

abbrev pub some_item_of : (Data → Bool) → Data → Bool
some_item_of p (array ds) = some_item p ds
some_item_of p _ = false

abbrev pub some_item_under : (Data → Bool) → Name → Members → Bool
some_item_under p n no_members = false
some_item_under p n (member k d ms) = cond (same_name k n) (some_item_of p d) (some_item_under p n ms)

abbrev pub model_keys : List Name
model_keys = codes "name" ∷ codes "states" ∷ codes "inputs" ∷ codes "define" ∷ codes "fetch" ∷ codes "valid" ∷ codes "instructions" ∷ []

abbrev pub instruction_keys : List Name
instruction_keys = codes "name" ∷ codes "decode" ∷ codes "update" ∷ codes "child" ∷ []

abbrev pub child_keys : List Name
child_keys = codes "states" ∷ codes "define" ∷ codes "fetch" ∷ codes "valid" ∷ codes "steps" ∷ codes "instructions" ∷ []

abbrev pub input_keys : List Name
input_keys = codes "name" ∷ codes "sort" ∷ []

abbrev pub is_list : Data → Bool
is_list (array ds) = true
is_list _ = false

-- the object's sort is written as a memory's, as a list
abbrev pub is_written_memory : Members → Bool
is_written_memory no_members = false
is_written_memory (member k d ms) = cond (same_name k (codes "sort")) (is_list d) (is_written_memory ms)

-- A memory states no initial value.
abbrev pub state_keys : Members → List Name
state_keys ms = cond (is_written_memory ms) (codes "name" ∷ codes "sort" ∷ []) (codes "name" ∷ codes "sort" ∷ codes "init" ∷ [])

abbrev pub state_has_other_key : Data → Bool
state_has_other_key (object ms) = has_other_key (state_keys ms) ms
state_has_other_key _ = false

abbrev pub input_has_other_key : Data → Bool
input_has_other_key (object ms) = has_other_key input_keys ms
input_has_other_key _ = false

abbrev mutual
  -- An instruction's object, or one of those in it, has an unknown key.
  pub instruction_has_unknown_key : Data → Bool
  instruction_has_unknown_key (object ms) = has_other_key instruction_keys ms || child_under_has_unknown_key ms
  instruction_has_unknown_key _ = false

  pub child_under_has_unknown_key : Members → Bool
  child_under_has_unknown_key no_members = false
  child_under_has_unknown_key (member k d ms) = cond (same_name k (codes "child")) (child_has_unknown_key d) (child_under_has_unknown_key ms)

  pub child_has_unknown_key : Data → Bool
  child_has_unknown_key (object ms) =
      has_other_key child_keys ms || (some_item_under state_has_other_key (codes "states") ms || instructions_under_have_unknown_key ms)
  child_has_unknown_key _ = false

  pub instructions_under_have_unknown_key : Members → Bool
  instructions_under_have_unknown_key no_members = false
  instructions_under_have_unknown_key (member k d ms) =
      cond (same_name k (codes "instructions")) (instructions_have_unknown_key d) (instructions_under_have_unknown_key ms)

  pub instructions_have_unknown_key : Data → Bool
  instructions_have_unknown_key (array ds) = some_instruction_has_unknown_key ds
  instructions_have_unknown_key _ = false

  pub some_instruction_has_unknown_key : Items → Bool
  some_instruction_has_unknown_key no_items = false
  some_instruction_has_unknown_key (item d ds) = instruction_has_unknown_key d || some_instruction_has_unknown_key ds

-- Some object of a model file has a key that objects of its kind do not have.
abbrev pub model_has_unknown_key : Data → Bool
model_has_unknown_key (object ms) =
    has_other_key model_keys ms
    || (some_item_under state_has_other_key (codes "states") ms
    || (some_item_under input_has_other_key (codes "inputs") ms || instructions_under_have_unknown_key ms))
model_has_unknown_key _ = false
