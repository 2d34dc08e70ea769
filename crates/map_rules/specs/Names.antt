-- The rules on names and bounds, each by itself over the whole map.
use Rattle.std.specs.Prelude.{ℕ, Bool, not, ◌&&◌, ◌||◌, nat_le, List}
use Rattle.std.specs.List.{list_all}
use Rattle.wb_values.specs.Value.{Name}
use Rattle.model_meaning.specs.Among.{is_name_in, has_twice}
use Rattle.model_meaning.specs.Invariant.{state_names, own_instruction_names}
use Rattle.map_rules.specs.Case.{MapCase, input_names, entry_names, called_names}

-- each of these names is one of those
abbrev pub are_among : List Name → List Name → Bool
are_among these those = list_all (λ n. is_name_in n those) these

-- UnknownState: the map has an entry for what is no state of the model. (States of children are private.)
abbrev pub has_unknown_state : MapCase → Bool
has_unknown_state c = not (are_among (entry_names c.written.states) (state_names c.model.top))

-- StateUnmapped: a state of the model has no entry.
abbrev pub has_unmapped_state : MapCase → Bool
has_unmapped_state c = not (are_among (state_names c.model.top) (entry_names c.written.states))

-- UnknownInput, InputUnmapped: the same of inputs.
abbrev pub has_unknown_input : MapCase → Bool
has_unknown_input c = not (are_among (entry_names c.written.inputs) (input_names c.model))

abbrev pub has_unmapped_input : MapCase → Bool
has_unmapped_input c = not (are_among (input_names c.model) (entry_names c.written.inputs))

-- UnknownInstruction: an entry names no instruction of the model's top machine, or one that was named before.
abbrev pub has_unknown_instruction : MapCase → Bool
has_unknown_instruction c = not (are_among (called_names c.written) (own_instruction_names c.model.top)) || has_twice (called_names c.written)

-- BoundMissing: an instruction of the model's top machine has no entry.
abbrev pub has_missing_bound : MapCase → Bool
has_missing_bound c = not (are_among (own_instruction_names c.model.top) (called_names c.written))

abbrev pub is_from_1_to : (most : ℕ) → ℕ → Bool
is_from_1_to most n = nat_le 1 n && nat_le n most

-- BadBound: a bound is not 1 to 256, or the reset is not active for 1 to 16 cycles.
abbrev pub has_bad_bound : MapCase → Bool
has_bad_bound c = not (is_from_1_to 16 c.written.reset.cycles && list_all (λ i. is_from_1_to 256 i.bound) c.written.instructions)
