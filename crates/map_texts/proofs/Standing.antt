-- The written map of an emitted design stands for the design's map.
use Rattle.std.proofs.Common.{◌≡◌, Bool, true, false, cond, List, [], ◌∷◌, ◌++◌, map, refl, subst}
use Rattle.std.specs.Prelude.{codes}
use Rattle.std.specs.List.{list_all}
use Rattle.std.proofs.lemmas.Bool.{and_parts}
use Rattle.wb_values.specs.Value.{Name}
use Rattle.wb_values.specs.Names.{is_model_name}
use Rattle.model_meaning.specs.Model.{Model, Instruction, instruction_name, instructions_in}
use Rattle.model_meaning.specs.Invariant.{inner_machines, gathered, state_names}
use Rattle.verilog_meaning.specs.Settled.{whole_name}
use Rattle.map_rules.specs.Case.{is_memory_named}
use Rattle.map_rules.specs.Accepted.{AreRead, IsStateRead, AreStatesRead, AreInputsRead, AreInstructionsRead}
use Rattle.emitted_designs.specs.Names.{commit_name}
use Rattle.emitted_designs.specs.Bounds.{instruction_bound, has_children}
use Rattle.emitted_designs.specs.Map.{in_byte_order, rest_expression, by_their_names, entry_for, written_by_their_names, written_entry_for}
use Rattle.map_texts.specs.Standing.{EmittedMapsStand}
use Rattle.map_texts.proofs.Words.{name_reads, start_reads, commit_reads, rest_reads}
use Rattle.map_texts.proofs.Emitted.{all_left, all_right, top_first, all_in_order}

state_read : (m : Model) (n : Name) → is_model_name n ≡ true → IsStateRead m n n (whole_name n)
state_read m n h = by (is_memory_named m n) refl
  where
    by : (t : Bool) → is_memory_named m n ≡ t → IsStateRead m n n (whole_name n)
    by true e = IsStateRead.a_memory e
    by false e = IsStateRead.a_value (whole_name n) e (name_reads n h)

states_read : (m : Model) (ns : List Name) → list_all is_model_name ns ≡ true → AreStatesRead m (written_by_their_names ns) (by_their_names ns)
states_read m [] h = AreStatesRead.none
states_read m (n ∷ ns) h =
    let c = and_parts (is_model_name n) (list_all is_model_name ns) h in
    AreStatesRead.state n n (whole_name n) _ _ (state_read m n c.0) (states_read m ns c.1)

inputs_read : (ns : List Name) → list_all is_model_name ns ≡ true → AreInputsRead (written_by_their_names ns) (by_their_names ns)
inputs_read [] h = AreInputsRead.none
inputs_read (n ∷ ns) h =
    let c = and_parts (is_model_name n) (list_all is_model_name ns) h in
    AreInputsRead.an_input n n (whole_name n) _ _ (name_reads n c.0) (inputs_read ns c.1)

instructions_read : (is : List Instruction) → AreInstructionsRead (map written_entry_for is) (map entry_for is)
instructions_read [] = AreInstructionsRead.none
instructions_read (i ∷ is) =
    AreInstructionsRead.instruction (instruction_name i) commit_name (instruction_bound i) (whole_name commit_name) _ _ commit_reads (instructions_read is)

invariants_read : (t : Bool) → AreRead (cond t (codes "wb_busy == 0" ∷ []) []) (cond t (rest_expression ∷ []) [])
invariants_read true = AreRead.read (codes "wb_busy == 0") rest_expression [] [] rest_reads AreRead.none
invariants_read false = AreRead.none

pub emitted_maps_stand : EmittedMapsStand
emitted_maps_stand m h =
    let inputs = map (λ i. i.input_name) m.inputs in
    let inner = gathered state_names (inner_machines m.top) in
    let legal = subst (λ ns. list_all is_model_name (inputs ++ ns) ≡ true) (top_first state_names m.top) h.legal_names in
    let legal_inputs = all_left is_model_name inputs (state_names m.top ++ inner) legal in
    let legal_states = all_left is_model_name (state_names m.top) inner (all_right is_model_name inputs (state_names m.top ++ inner) legal) in
    record {
      top = refl;
      clock = refl;
      reset_signal = refl;
      reset_active = refl;
      reset_cycles = refl;
      assume = AreRead.none;
      invariants = invariants_read (has_children m);
      start = start_reads;
      states = states_read m (in_byte_order (state_names m.top)) (all_in_order is_model_name (state_names m.top) legal_states);
      inputs = inputs_read (in_byte_order inputs) (all_in_order is_model_name inputs legal_inputs);
      instructions = instructions_read (instructions_in m.top);
    }
