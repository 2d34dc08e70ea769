-- The first place of a map file's data, in the order in which a map is gone through, at which something of another kind stands or a
-- key is missing, and the first at which an unknown key stands; and the notes that lead there.
use Rattle.std.specs.Prelude.{ℕ, ◌+◌, Bool, cond, List, [], Option, Some, None, is_some, option_map, codes}
use Rattle.wb_values.specs.Value.{Name}
use Rattle.wb_values.specs.Choice.{first_of}
use Rattle.serde_json.specs.Data.{Data, Items, no_items, item, Members, no_members, member}
use Rattle.serde_json.specs.Find.{get, as_str, as_array, as_object}
use Rattle.model_files.specs.Shape.{unsigned_in}
use Rattle.model_places.specs.Sites.{Spot, key_spot, item_spot, part_spot}
use Rattle.model_places.specs.Notes.{note_at}
use Rattle.model_places.specs.KeyPlaces.{first_other_key}
use Rattle.map_files.specs.Shape.{read_under, version_in, active_in}
use Rattle.map_files.specs.Keys.{map_keys, reset_keys, entry_keys}

-- the spot, where what stands there is not of the kind
abbrev pub unless : (fits : Bool) → Spot → Option Spot
unless fits s = cond fits None (Some s)

abbrev pub has : {A : Type 0} → (Data → Option A) → Name → Data → Bool
has f k d = is_some (read_under f k d)

-- a key under which something stands that the reading takes
abbrev pub key_misfit : {A : Type 0} → (Data → Option A) → Name → Data → Option Spot
key_misfit f k d = unless (has f k d) (key_spot k)

-- the same of the part of an object, at a spot
abbrev pub part_misfit : {A : Type 0} → (Data → Option A) → Spot → Name → Data → Option Spot
part_misfit f s k d = unless (has f k d) (part_spot s k)

-- what is there by the reading, and what is found in it; else the spot
abbrev pub misfit_in : {A : Type 0} → (A → Option Spot) → Spot → Option A → Option Spot
misfit_in f s None = Some s
misfit_in f s (Some x) = f x

-- the texts of a list under a key, where the first has the place i
abbrev pub text_misfits : (key : Name) → (i : ℕ) → Items → Option Spot
text_misfits k i no_items = None
text_misfits k i (item d ds) = first_of (unless (is_some (as_str d)) (item_spot k i None)) (text_misfits k (i + 1) ds)

abbrev pub list_misfit : (key : Name) → Data → Option Spot
list_misfit k d = misfit_in (text_misfits k 0) (key_spot k) (read_under as_array k d)

-- the texts of an object under a key, each by its own key
abbrev pub entry_misfits : (key : Name) → Members → Option Spot
entry_misfits k no_members = None
entry_misfits k (member n d ms) = first_of (unless (is_some (as_str d)) (part_spot (key_spot k) n)) (entry_misfits k ms)

abbrev pub mapped_misfit : (key : Name) → Data → Option Spot
mapped_misfit k d = misfit_in (entry_misfits k) (key_spot k) (read_under as_object k d)

-- the reset's object
abbrev pub reset_misfit_in : Data → Option Spot
reset_misfit_in d =
    first_of (unless (is_some (as_object d)) (key_spot (codes "reset")))
    (first_of (part_misfit as_str (key_spot (codes "reset")) (codes "signal") d)
    (first_of (part_misfit active_in (key_spot (codes "reset")) (codes "active") d)
    (part_misfit unsigned_in (key_spot (codes "reset")) (codes "cycles") d)))

abbrev pub reset_misfit : Data → Option Spot
reset_misfit d = misfit_in reset_misfit_in (key_spot (codes "reset")) (get (codes "reset") d)

-- an instruction's entry by its place, with its name where it has one
abbrev pub entry_spot : (i : ℕ) → Data → Spot
entry_spot i d = item_spot (codes "instructions") i (read_under as_str (codes "name") d)

-- an instruction's entry at a spot
abbrev pub instruction_misfit : Spot → Data → Option Spot
instruction_misfit s d =
    first_of (unless (is_some (as_object d)) s)
    (first_of (part_misfit as_str s (codes "name") d)
    (first_of (part_misfit as_str s (codes "commit") d) (part_misfit unsigned_in s (codes "bound") d)))

abbrev pub instruction_misfits : (i : ℕ) → Items → Option Spot
instruction_misfits i no_items = None
instruction_misfits i (item d ds) = first_of (instruction_misfit (entry_spot i d) d) (instruction_misfits (i + 1) ds)

abbrev pub instructions_misfit : Data → Option Spot
instructions_misfit d = misfit_in (instruction_misfits 0) (key_spot (codes "instructions")) (read_under as_array (codes "instructions") d)

-- the keys up to the reset
abbrev pub head_misfit : Data → Option Spot
head_misfit d =
    first_of (unless (is_some (as_object d)) (key_spot (codes "map")))
    (first_of (key_misfit version_in (codes "version") d)
    (first_of (key_misfit as_str (codes "top") d) (first_of (key_misfit as_str (codes "clock") d) (reset_misfit d))))

-- the conditions
abbrev pub condition_misfit : Data → Option Spot
condition_misfit d =
    first_of (list_misfit (codes "assume") d) (first_of (list_misfit (codes "invariants") d) (key_misfit as_str (codes "start") d))

-- the states, the inputs and the instructions
abbrev pub entries_misfit : Data → Option Spot
entries_misfit d = first_of (mapped_misfit (codes "states") d) (first_of (mapped_misfit (codes "inputs") d) (instructions_misfit d))

-- The first place at which something of another kind stands: the version, the top, the clock, the reset, assumptions, invariants, the
-- start, states and inputs by the bytes of their names, and the instructions. Data that is no object has one place, the map.
abbrev pub shape_misfit : Data → Option Spot
shape_misfit d = first_of (head_misfit d) (first_of (condition_misfit d) (entries_misfit d))

-- ---- unknown keys

-- the first key, by its bytes, that is none of these; data that is no object has no keys
abbrev pub other_key_of : List Name → Option Members → Option Name
other_key_of ks None = None
other_key_of ks (Some ms) = first_other_key ks ms

abbrev pub there : {A B : Type 0} → (A → Option B) → Option A → Option B
there f None = None
there f (Some x) = f x

abbrev pub reset_key_in : Data → Option Spot
reset_key_in d = option_map (part_spot (key_spot (codes "reset"))) (other_key_of reset_keys (as_object d))

abbrev pub instruction_key : (i : ℕ) → Data → Option Spot
instruction_key i d = option_map (part_spot (entry_spot i d)) (other_key_of entry_keys (as_object d))

abbrev pub instruction_keys_in : (i : ℕ) → Items → Option Spot
instruction_keys_in i no_items = None
instruction_keys_in i (item d ds) = first_of (instruction_key i d) (instruction_keys_in (i + 1) ds)

-- The first unknown key: of the map's own object, of its reset, of its instructions.
abbrev pub unknown_key_spot : Data → Option Spot
unknown_key_spot d =
    first_of (option_map key_spot (other_key_of map_keys (as_object d)))
    (first_of (there reset_key_in (get (codes "reset") d)) (there (instruction_keys_in 0) (read_under as_array (codes "instructions") d)))

-- ---- notes

-- The note of a spot of a map.
abbrev pub spot_note : Spot → List ℕ
spot_note s = note_at [] s

abbrev pub shape_note : Data → Option (List ℕ)
shape_note d = option_map spot_note (shape_misfit d)

abbrev pub unknown_key_note : Data → Option (List ℕ)
unknown_key_note d = option_map spot_note (unknown_key_spot d)
