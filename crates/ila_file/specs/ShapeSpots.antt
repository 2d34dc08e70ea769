-- Where in an object of a model file something of another kind stands first, by what stands under the keys.
use Rattle.std.specs.Prelude.{ℕ, ◌+◌, Bool, true, cond, Option, Some, None, is_some, is_none, option_map, codes}
use Rattle.wb_values.specs.Value.{Name}
use Rattle.wb_values.specs.Choice.{first_of}
use Rattle.serde_json.specs.Data.{Data, Items, no_items, item, Members, no_members, member}
use Rattle.serde_json.specs.Find.{get, as_str, as_array, as_object}
use Rattle.model_files.specs.Shape.{unsigned_in, term_in, input_in, definition_in, instruction_in}
use Rattle.model_places.specs.Sites.{Way, Spot, Site, site_at, key_spot, part_spot, member_spot}
use Rattle.model_places.specs.ShapePlaces.{under, has, may_have, named_spot, in_list, definition_spot, all_instruction_places, first_misfit}
use Rattle.ila_file.specs.Parts.{sort_of, state_of}

-- the spot, where what stands there does not fit
abbrev pub unless : (fits : Bool) → Spot → Option Spot
unless fits s = cond fits None (Some s)

-- ---- lists

-- a list that must be there, under a key
abbrev pub in_required : Name → (Items → Option Spot) → Option Items → Option Spot
in_required k f None = Some (key_spot k)
in_required k f (Some ds) = f ds

-- a list that may be absent
abbrev pub in_optional : Name → (Items → Option Spot) → Option Data → Option Spot
in_optional k f None = None
in_optional k f (Some d) = in_required k f (as_array d)

-- the key of a state under which something else stands, where it has a name and a sort
abbrev pub initial_fault : (is_private : Bool) → Data → Option Name
initial_fault p d = cond (is_some (state_of p d)) None (Some (codes "init"))

-- where it has a name
abbrev pub value_fault : (is_private : Bool) → Data → Option Name
value_fault p d = cond (has (sort_of p) (codes "sort") d) (initial_fault p d) (Some (codes "sort"))

abbrev pub state_fault : (is_private : Bool) → Data → Option Name
state_fault p d = cond (has as_str (codes "name") d) (value_fault p d) (Some (codes "name"))

abbrev pub state_misfits : (is_private : Bool) → ℕ → Items → Option Spot
state_misfits p k no_items = None
state_misfits p k (item d ds) = first_of (option_map (part_spot (named_spot (codes "states") k d)) (state_fault p d)) (state_misfits p (k + 1) ds)

abbrev pub input_misfits : ℕ → Items → Option Spot
input_misfits k no_items = None
input_misfits k (item d ds) = first_of (unless (is_some (input_in d)) (named_spot (codes "inputs") k d)) (input_misfits (k + 1) ds)

abbrev pub definition_misfits : ℕ → Items → Option Spot
definition_misfits k no_items = None
definition_misfits k (item d ds) = first_of (unless (is_some (definition_in d)) (definition_spot k d)) (definition_misfits (k + 1) ds)

-- ---- machines

-- what a model alone or a child alone has
abbrev pub head_misfit : (is_private : Bool) → Data → Option Spot
head_misfit p d =
    cond p (unless (has unsigned_in (codes "steps") d) (key_spot (codes "steps")))
    (first_of (unless (is_some (as_object d)) (key_spot (codes "model")))
    (first_of (unless (has as_str (codes "name") d) (key_spot (codes "name"))) (in_required (codes "inputs") (input_misfits 0) (under as_array (codes "inputs") d))))

-- what stands behind the states, the items of the instructions aside
abbrev pub term_misfit : Data → Option Spot
term_misfit d =
    first_of (in_optional (codes "define") (definition_misfits 0) (get (codes "define") d))
    (first_of (unless (may_have term_in (codes "fetch") d) (key_spot (codes "fetch")))
    (first_of (unless (has term_in (codes "valid") d) (key_spot (codes "valid"))) (unless (has as_array (codes "instructions") d) (key_spot (codes "instructions")))))

-- a machine, the items of its instructions aside
abbrev pub machine_misfit : (is_private : Bool) → Data → Option Spot
machine_misfit p d =
    first_of (head_misfit p d) (first_of (in_required (codes "states") (state_misfits p 0) (under as_array (codes "states") d)) (term_misfit d))

-- ---- instructions

-- the first state whose update is no term
abbrev pub bad_update : Members → Option Name
bad_update no_members = None
bad_update (member n d ms) = cond (is_some (term_in d)) (bad_update ms) (Some n)

abbrev pub update_misfit : Spot → Option Members → Option Spot
update_misfit update None = Some update
update_misfit update (Some ms) = option_map (member_spot update) (bad_update ms)

-- a child that is there is an object
abbrev pub child_misfit : Spot → Option Data → Option Spot
child_misfit spot None = None
child_misfit spot (Some d) = unless (is_some (as_object d)) spot

-- an instruction at a spot, what stands in its child aside
abbrev pub instruction_misfit_at : Spot → Data → Option Spot
instruction_misfit_at s d =
    first_of (unless (has as_str (codes "name") d) (part_spot s (codes "name")))
    (first_of (unless (has term_in (codes "decode") d) (part_spot s (codes "decode")))
    (first_of (update_misfit (part_spot s (codes "update")) (under as_object (codes "update") d)) (child_misfit (part_spot s (codes "child")) (get (codes "child") d))))

abbrev pub instruction_misfit : (index : ℕ) → Data → Option Spot
instruction_misfit k d = instruction_misfit_at (named_spot (codes "instructions") k d) d

abbrev pub is_no_instruction : Data → Bool
is_no_instruction d = is_none (instruction_in d)

-- in the instructions of a machine
abbrev pub misfit_below : Way → Data → Option Site
misfit_below way d = first_misfit (in_list (all_instruction_places way 0) (under as_array (codes "instructions") d))

-- in a child that is there
abbrev pub misfit_in_child : Way → Option Data → Option Site
misfit_in_child way None = None
misfit_in_child way (Some d) = first_of (option_map (site_at way) (machine_misfit true d)) (misfit_below way d)
