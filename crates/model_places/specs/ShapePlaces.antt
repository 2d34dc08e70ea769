-- The first place of a model file at which something of another kind stands than the place wants, or a key is missing, in the order
-- in which a model is gone through: the lists and objects first, and then what stands in them.
use Rattle.std.specs.Prelude.{ℕ, ◌+◌, Bool, true, false, cond, List, [], ◌∷◌, ◌++◌, Option, Some, None, is_some, option_map, option_and_then, codes}
use Rattle.wb_values.specs.Value.{Name, same_name, Sort, truth, word, memory}
use Rattle.model_meaning.specs.Model.{StateDeclaration}
use Rattle.serde_json.specs.Data.{Data, array, object, Items, no_items, item, Members, no_members, member}
use Rattle.serde_json.specs.Find.{get, at, as_str, as_array, as_object}
use Rattle.model_files.specs.Shape.{unsigned_in, sort_in, term_in, state_declared_in, private_state_in, input_in, definition_in}
use Rattle.model_places.specs.Sites.{Way, into, Spot, Site, site_at, key_spot, item_spot, part_spot, member_spot}
use Rattle.model_places.specs.Notes.{site_note}

-- A place of a file, and whether what stands there is of the kind that the place wants.
pub record Judged : Type 0 where
  pub site : Site
  pub fits : Bool

abbrev pub fitted : Way → Spot → Bool → Judged
fitted way spot b = record { site = site_at way spot; fits = b }

-- ---- what stands under a key

-- What stands under a key, by its reading. Data that is no object has no keys.
abbrev pub under : {A : Type 0} → (Data → Option A) → Name → Data → Option A
under f k d = option_and_then f (get k d)

-- under a key that must be there stands what the reading takes
abbrev pub has : {A : Type 0} → (Data → Option A) → Name → Data → Bool
has f k d = is_some (under f k d)

abbrev pub fits_if_there : {A : Type 0} → (Data → Option A) → Option Data → Bool
fits_if_there f None = true
fits_if_there f (Some d) = is_some (f d)

-- the same of a key that may be absent
abbrev pub may_have : {A : Type 0} → (Data → Option A) → Name → Data → Bool
may_have f k d = fits_if_there f (get k d)

-- ---- lists

-- an item of the list under a key, with its name where it has one
abbrev pub named_spot : (key : Name) → (index : ℕ) → Data → Spot
named_spot key k d = item_spot key k (under as_str (codes "name") d)

-- the places of the items of a list that is there
abbrev pub in_list : (Items → List Judged) → Option Items → List Judged
in_list f None = []
in_list f (Some ds) = f ds

-- a list that must be there, and its items
abbrev pub list_places : (Items → List Judged) → Way → Name → Data → List Judged
list_places f way k d = fitted way (key_spot k) (has as_array k d) ∷ in_list f (under as_array k d)

-- a list that may be absent, and its items
abbrev pub optional_list_places : (Items → List Judged) → Way → Name → Data → List Judged
optional_list_places f way k d = fitted way (key_spot k) (may_have as_array k d) ∷ in_list f (under as_array k d)

-- the sort of a private state, which is no memory
abbrev pub no_memory : Option Sort → Option Sort
no_memory None = None
no_memory (Some truth) = Some truth
no_memory (Some (word w)) = Some (word w)
no_memory (Some (memory a w)) = None

abbrev pub private_sort_in : Data → Option Sort
private_sort_in d = no_memory (sort_in d)

-- Of each state the name, the sort and the initial value, by how its sort and the whole of it are read. What has a name and a sort
-- is a state where its initial value is of the kind that the sort wants.
abbrev pub state_places : (sort : Data → Option Sort) → (state : Data → Option StateDeclaration) → Way → ℕ → Items → List Judged
state_places sort state way k no_items = []
state_places sort state way k (item d ds) =
    fitted way (part_spot (named_spot (codes "states") k d) (codes "name")) (has as_str (codes "name") d)
    ∷ fitted way (part_spot (named_spot (codes "states") k d) (codes "sort")) (has sort (codes "sort") d)
    ∷ fitted way (part_spot (named_spot (codes "states") k d) (codes "init")) (is_some (state d))
    ∷ state_places sort state way (k + 1) ds

abbrev pub input_places : ℕ → Items → List Judged
input_places k no_items = []
input_places k (item d ds) = fitted [] (named_spot (codes "inputs") k d) (is_some (input_in d)) ∷ input_places (k + 1) ds

-- the name of a definition, which stands first in its list
abbrev pub definition_spot : (index : ℕ) → Data → Spot
definition_spot k d = item_spot (codes "define") k (option_and_then as_str (at 0 d))

abbrev pub definition_places : Way → ℕ → Items → List Judged
definition_places way k no_items = []
definition_places way k (item d ds) = fitted way (definition_spot k d) (is_some (definition_in d)) ∷ definition_places way (k + 1) ds

-- ---- instructions and machines

-- the updates of an instruction, each by its state
abbrev pub update_places : Way → (update : Spot) → Members → List Judged
update_places way update no_members = []
update_places way update (member n d ms) = fitted way (member_spot update n) (is_some (term_in d)) ∷ update_places way update ms

abbrev pub in_object : (Members → List Judged) → Option Members → List Judged
in_object f None = []
in_object f (Some ms) = f ms

-- an instruction at a spot, its child aside
abbrev pub own_places : Way → Spot → Data → List Judged
own_places way spot d =
    fitted way (part_spot spot (codes "name")) (has as_str (codes "name") d)
    ∷ fitted way (part_spot spot (codes "decode")) (has term_in (codes "decode") d)
    ∷ fitted way (part_spot spot (codes "update")) (has as_object (codes "update") d)
    ∷ in_object (update_places way (part_spot spot (codes "update"))) (under as_object (codes "update") d)

-- a machine, by how its states are read and by the places of its instructions
abbrev pub machine_places : (sort : Data → Option Sort) → (state : Data → Option StateDeclaration) → Way → Data → (instructions : List Judged) → List Judged
machine_places sort state way d is =
    list_places (state_places sort state way 0) way (codes "states") d
    ++ (optional_list_places (definition_places way 0) way (codes "define") d
    ++ (fitted way (key_spot (codes "fetch")) (may_have term_in (codes "fetch") d)
    ∷ fitted way (key_spot (codes "valid")) (has term_in (codes "valid") d) ∷ is))

abbrev mutual
  -- an instruction by its number, with its child
  pub instruction_places : Way → ℕ → Data → List Judged
  instruction_places way k (object ms) =
      own_places way (named_spot (codes "instructions") k (object ms)) (object ms)
      ++ child_places_under way k (part_spot (named_spot (codes "instructions") k (object ms)) (codes "child")) ms
  instruction_places way k _ = fitted way (part_spot (item_spot (codes "instructions") k None) (codes "name")) false ∷ []

  -- what stands under the key child of instruction k, which may be absent; the spot is that of the key
  pub child_places_under : Way → ℕ → Spot → Members → List Judged
  child_places_under way k spot no_members = []
  child_places_under way k spot (member n d ms) = cond (same_name n (codes "child")) (child_places way k spot d) (child_places_under way k spot ms)

  pub child_places : Way → ℕ → Spot → Data → List Judged
  child_places way k spot (object ms) =
      fitted way spot true
      ∷ fitted (into way k) (key_spot (codes "steps")) (has unsigned_in (codes "steps") (object ms))
      ∷ machine_places private_sort_in private_state_in (into way k) (object ms) (instruction_places_under (into way k) ms)
  child_places way k spot _ = fitted way spot false ∷ []

  -- what stands under the key instructions, which must be there
  pub instruction_places_under : Way → Members → List Judged
  instruction_places_under way no_members = fitted way (key_spot (codes "instructions")) false ∷ []
  instruction_places_under way (member n d ms) =
      cond (same_name n (codes "instructions")) (instruction_list_places way d) (instruction_places_under way ms)

  pub instruction_list_places : Way → Data → List Judged
  instruction_list_places way (array ds) = fitted way (key_spot (codes "instructions")) true ∷ all_instruction_places way 0 ds
  instruction_list_places way _ = fitted way (key_spot (codes "instructions")) false ∷ []

  pub all_instruction_places : Way → ℕ → Items → List Judged
  all_instruction_places way k no_items = []
  all_instruction_places way k (item d ds) = instruction_places way k d ++ all_instruction_places way (k + 1) ds

-- The places of a model file's data. Data that is no object has one place, the model.
abbrev pub shape_places : Data → List Judged
shape_places (object ms) =
    fitted [] (key_spot (codes "name")) (has as_str (codes "name") (object ms))
    ∷ (list_places (input_places 0) [] (codes "inputs") (object ms)
    ++ machine_places sort_in state_declared_in [] (object ms) (instruction_places_under [] ms))
shape_places _ = fitted [] (key_spot (codes "model")) false ∷ []

-- ---- notes

-- the first of the places at which something else stands
abbrev pub first_misfit : List Judged → Option Site
first_misfit [] = None
first_misfit (p ∷ ps) = cond p.fits (first_misfit ps) (Some p.site)

-- The note of the first place of a model file at which something of another kind stands.
abbrev pub shape_note : Data → Option (List ℕ)
shape_note d = option_map site_note (first_misfit (shape_places d))
