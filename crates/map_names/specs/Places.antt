-- The first place of a map, in the order in which it is gone through, at which a rule on names or on bounds is broken.
use Rattle.std.specs.Prelude.{ℕ, ◌+◌, Bool, cond, not, ◌&&◌, List, [], ◌∷◌, Option, Some, None, option_map, codes}
use Rattle.wb_values.specs.Value.{Name}
use Rattle.wb_values.specs.Choice.{first_of}
use Rattle.model_meaning.specs.Among.{is_name_in}
use Rattle.model_meaning.specs.Model.{Model}
use Rattle.model_meaning.specs.Invariant.{state_names, own_instruction_names}
use Rattle.model_places.specs.Sites.{Spot, key_spot, item_spot, part_spot}
use Rattle.map_files.specs.Written.{InstructionEntry, WrittenMap}
use Rattle.map_file.specs.Places.{unless}
use Rattle.map_rules.specs.Case.{input_names, entry_names, called_names}
use Rattle.map_rules.specs.Names.{is_from_1_to}

-- the first of these names that is none of those
abbrev pub first_outside : (those these : List Name) → Option Name
first_outside those [] = None
first_outside those (n ∷ ns) = cond (is_name_in n those) (first_outside those ns) (Some n)

-- what stands, or is missing, under a key of the map and a name, as `states: cnt`
abbrev pub first_under : (key : Name) → Option Name → Option Spot
first_under key o = option_map (part_spot (key_spot key)) o

-- ---- states and inputs

-- an entry for what is no state of the model
abbrev pub unknown_state_spot : WrittenMap → Model → Option Spot
unknown_state_spot w m = first_under (codes "states") (first_outside (state_names m.top) (entry_names w.states))

-- a state of the model without entry, in the model's order
abbrev pub unmapped_state_spot : WrittenMap → Model → Option Spot
unmapped_state_spot w m = first_under (codes "states") (first_outside (entry_names w.states) (state_names m.top))

abbrev pub unknown_input_spot : WrittenMap → Model → Option Spot
unknown_input_spot w m = first_under (codes "inputs") (first_outside (input_names m) (entry_names w.inputs))

abbrev pub unmapped_input_spot : WrittenMap → Model → Option Spot
unmapped_input_spot w m = first_under (codes "inputs") (first_outside (entry_names w.inputs) (input_names m))

-- ---- instructions

-- an instruction's entry by its place and its name, as `instructions[1] ADD`
abbrev pub entry_spot : ℕ → Name → Spot
entry_spot i n = item_spot (codes "instructions") i (Some n)

-- Of the names of entries, where the first has the place i and others stand before it: the first that is unknown or stands before.
abbrev pub first_unknown : (known before : List Name) → (i : ℕ) → List Name → Option Spot
first_unknown known before i [] = None
first_unknown known before i (n ∷ ns) =
    cond (is_name_in n known && not (is_name_in n before)) (first_unknown known (n ∷ before) (i + 1) ns) (Some (entry_spot i n))

-- an entry that names no instruction of the model's top machine, or one that was named before
abbrev pub unknown_instruction_spot : WrittenMap → Model → Option Spot
unknown_instruction_spot w m = first_unknown (own_instruction_names m.top) [] 0 (called_names w)

-- an instruction of the model's top machine without entry, in the model's order
abbrev pub missing_bound_spot : WrittenMap → Model → Option Spot
missing_bound_spot w m = first_under (codes "instructions") (first_outside (called_names w) (own_instruction_names m.top))

-- ---- bounds

abbrev pub first_bad_bound : (i : ℕ) → List InstructionEntry → Option Spot
first_bad_bound i [] = None
first_bad_bound i (e ∷ es) =
    cond (is_from_1_to 256 e.bound) (first_bad_bound (i + 1) es) (Some (part_spot (entry_spot i e.called) (codes "bound")))

-- the reset's cycles, or a bound, out of range
abbrev pub bad_bound_spot : WrittenMap → Option Spot
bad_bound_spot w =
    first_of (unless (is_from_1_to 16 w.reset.cycles) (part_spot (key_spot (codes "reset")) (codes "cycles"))) (first_bad_bound 0 w.instructions)
