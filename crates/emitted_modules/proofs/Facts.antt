-- What is known of the emitted module of a model without child programs and memories.
use Rattle.std.proofs.Common.{◌≡◌, ℕ, ◌<◌, ◌^◌, Bool, true, false, List, ◌++◌, length, None, sym, ◌∙◌, ap, subst, arith}
use Rattle.std.specs.List.{list_all}
use Rattle.std.proofs.lemmas.Bool.{and_parts}
use Rattle.std.proofs.lemmas.List.{length-map}
use Rattle.wb_values.specs.Value.{Name}
use Rattle.wb_values.specs.Names.{begins_with_wb, is_name_byte, is_model_name}
use Rattle.model_meaning.specs.Term.{is_memory_sort}
use Rattle.model_meaning.specs.Model.{Model, StateDeclaration, InputDeclaration}
use Rattle.model_meaning.specs.Invariant.{valued_names}
use Rattle.ila_model.specs.declared.parts.Parts.{Parts}
use Rattle.ila_model.specs.Sorted.{is_condition, are_instructions}
use Rattle.ila_model.specs.Meaning.{model_from}
use Rattle.ila_model.proofs.Declarations.{AreSorted, sorted}
use Rattle.emitted_modules.specs.Rtl.{Rtl}
use Rattle.emitted_modules.specs.Stores.{MemoryUpdate}
use Rattle.emitted_modules.specs.Module.{decodes_of, memories_from, rtl_of}
use Rattle.emitted_modules.specs.Laws.{IsFlatModel}
use Rattle.emitted_modules.proofs.Names.{Among, among_left, among_right, among_map, AreDistinct, distinct_from, distinct_parts, distinct_joined, apart_in, first_not}
use Rattle.emitted_modules.proofs.Declared.{HasOwnNames}
use Rattle.emitted_modules.proofs.NetWidths.{IsBitsSort}
use Rattle.emitted_modules.proofs.Assigned.{AreSorts}
use Rattle.emitted_modules.proofs.WireNames.{wire_names, AreAllOther, AreLow}
use Rattle.emitted_modules.proofs.Memories.{all_memories_other, memories_low}
use Rattle.emitted_modules.proofs.OwnNames.{input_names, names_of_states, valued_by, each_legal, not_own, name_bytes, has_own_names, distinct_wires, wires_own, wires_no_controls}
use Rattle.emitted_modules.proofs.Model.{AllInRange, bits_by, state_sort, inputs_are_bits}

module _ (name : Name) (p : Parts) (keep : ℕ → Bool) (h : IsFlatModel name p) where
  abbrev pub model : Model
  model = model_from name p

  abbrev pub rtl : Rtl
  rtl = rtl_of name p keep

  pub sorted_parts : AreSorted p
  sorted_parts = sorted p h.sorted

  pub range : AllInRange p.terms.names
  range = h.stored.in_range

  pub state_sorts : AreSorts rtl.registers
  state_sorts d at = state_sort p.terms.names p.initial_values.items d range at

  -- a state that is no memory
  pub state_bits : (d : StateDeclaration) → Among d rtl.registers → is_memory_sort d.sort ≡ false → IsBitsSort d.sort
  state_bits d at other = bits_by d.sort (state_sorts d at) other

  pub input_bits : (i : InputDeclaration) → Among i rtl.inputs → IsBitsSort i.sort
  input_bits = inputs_are_bits p.inputs (length p.initial_values.items) p.terms.names range sorted_parts.declared.inputs

  -- ---- names

  abbrev others : List Name
  others = (valued_by model).0

  all_distinct : AreDistinct (input_names rtl.inputs ++ (names_of_states rtl.registers ++ others))
  all_distinct = subst AreDistinct (valued_by model).1 (distinct_from (valued_names model) h.is_model.distinct_names)

  pub inputs_distinct : AreDistinct (input_names rtl.inputs)
  inputs_distinct = (distinct_parts (input_names rtl.inputs) (names_of_states rtl.registers ++ others) all_distinct).0

  pub states_distinct : AreDistinct (names_of_states rtl.registers)
  states_distinct =
      (distinct_parts (names_of_states rtl.registers) others
      (distinct_parts (input_names rtl.inputs) (names_of_states rtl.registers ++ others) all_distinct).1).0

  legal : (n : Name) → Among n (input_names rtl.inputs ++ (names_of_states rtl.registers ++ others)) → is_model_name n ≡ true
  legal n at =
      each_legal (input_names rtl.inputs ++ (names_of_states rtl.registers ++ others)) n
      (ap (list_all is_model_name) (sym (valued_by model).1) ∙ h.is_model.legal_names) at

  legal_input : (n : Name) → Among n (input_names rtl.inputs) → is_model_name n ≡ true
  legal_input n at = legal n (among_left n (input_names rtl.inputs) (names_of_states rtl.registers ++ others) at)

  legal_state : (n : Name) → Among n (names_of_states rtl.registers) → is_model_name n ≡ true
  legal_state n at =
      legal n
      (among_right n (input_names rtl.inputs) (names_of_states rtl.registers ++ others)
      (among_left n (names_of_states rtl.registers) others at))

  pub state_bytes : (d : StateDeclaration) → Among d rtl.registers → list_all is_name_byte d.state_name ≡ true
  state_bytes d at = name_bytes d.state_name (legal_state d.state_name (among_map (λ (x : StateDeclaration). x.state_name) d rtl.registers at))

  pub input_bytes : (i : InputDeclaration) → Among i rtl.inputs → list_all is_name_byte i.input_name ≡ true
  input_bytes i at = name_bytes i.input_name (legal_input i.input_name (among_map (λ (x : InputDeclaration). x.input_name) i rtl.inputs at))

  few_decodes : length (decodes_of p.terms p.instructions.items) < 2 ^ 64
  few_decodes = subst (λ n. n < 2 ^ 64) (sym (length-map p.instructions.items _)) h.few

  abbrev memories : List MemoryUpdate
  memories = memories_from p.terms 0 p.instructions.items

  are_sorted : are_instructions p None 0 p.instructions.items ≡ true
  are_sorted = (and_parts (is_condition p None p.valid.0) _ sorted_parts.top).1

  others_named : AreAllOther memories
  others_named = all_memories_other p 0 0 p.instructions.items sorted_parts.distinct are_sorted

  low_memories : AreLow memories
  low_memories u at =
      let x = memories_low p 0 0 p.instructions.items are_sorted u at in (omega (arith, x.0, h.few), omega (arith, x.1, h.stored.few))

  pub wires_begin : (n : Name) → Among n (wire_names rtl.wires) → begins_with_wb n ≡ true
  wires_begin = wires_own p.terms keep (decodes_of p.terms p.instructions.items) memories h.stored.few few_decodes others_named low_memories

  pub own : HasOwnNames rtl
  own =
      has_own_names rtl
      (record {
        valued =
            distinct_joined (input_names rtl.inputs) (names_of_states rtl.registers) inputs_distinct states_distinct
            (λ n at. (first_not n (names_of_states rtl.registers) others
            (apart_in (input_names rtl.inputs) (names_of_states rtl.registers ++ others) n all_distinct at)).0);
        own_inputs = λ n at. not_own n (legal_input n at);
        own_states = λ n at. not_own n (legal_state n at);
        wires = distinct_wires p.terms keep (decodes_of p.terms p.instructions.items) memories h.stored.few few_decodes others_named low_memories;
        own_wires = wires_begin;
        no_controls = wires_no_controls p.terms keep (decodes_of p.terms p.instructions.items) memories h.stored.few few_decodes others_named low_memories;
      })
