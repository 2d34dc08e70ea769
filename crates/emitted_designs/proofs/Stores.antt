-- Of two stores at one address the last one stands.
use Rattle.std.proofs.Common.{◌≡◌, ℕ, zero, suc, ◌^◌, ◌<◌, ◌≤◌, arith, cond, not, List, [], ◌∷◌, length, Some, None, refl, sym, ◌∙◌, ap, subst}
use Rattle.std.specs.Prelude.{slice_get, slice_index, slice_set, is_some, option_map, codes}
use Rattle.std.proofs.lemmas.Bool.{false≢true}
use Rattle.std.proofs.lemmas.List.{get_or-set_same, length-set}
use Rattle.wb_values.specs.Value.{memory, Value, truth_value, number, words, as_number, as_words}
use Rattle.model_meaning.specs.Model.{Instruction}
use Rattle.verilog_trees.specs.Syntax.{Module}
use Rattle.verilog_meaning.specs.Expression.{Object}
use Rattle.verilog_meaning.specs.Register.{words_between, word_count}
use Rattle.verilog_meaning.specs.Hierarchy.{constants_of, no_overrides}
use Rattle.verilog_meaning.specs.Settled.{IsPlacedIn, IsValueOf}
use Rattle.refinement.specs.Map.{Setting, design_of}
use Rattle.refinement.specs.Run.{Run, IsRun, IsResetAt}
use Rattle.refinement.specs.Refinement.{state_at, inputs_at, StartsAt, IsCommandOf}
use Rattle.emitted_designs.specs.Map.{setting_of}
use Rattle.emitted_designs.specs.Module.{top_of, object_of, IsRegisterOf}
use Rattle.emitted_designs.specs.MicroStep.{begun}
use Rattle.emitted_designs.specs.Cycles.{IsAtRest, start_point, HoldPoint, IsStartOf, EdgeLeads, AreRunning, FollowsModel}
use Rattle.emitted_designs.specs.Emits.{IsEmittedModule}
use Rattle.emitted_designs.specs.Worked.{memory_name, address_name, write_twice, writer, LastStoreStands}
use Rattle.emitted_designs.proofs.Named.{same_of}

only_one : (k : ℕ) (o : Instruction) → slice_get (write_twice ∷ []) k ≡ Some o → write_twice ≡ o
only_one zero o e = cc
only_one (suc k) o e = cc

last_of_two : (xs : List ℕ) (i : ℕ) → i < length xs → slice_index (slice_set (slice_set xs i 1) i 2) i ≡ 2
last_of_two xs i low = get_or-set_same (slice_set xs i 1) i 2 0 (subst (λ n. i < n) (sym (length-set xs i 1)) low)

-- A memory of four words has four.
four_words : (o : Object) (y : Value) → o.addresses ≡ Some (0, 3) → IsValueOf o y → length (as_words y) ≡ 4
four_words o (number z) e h = absurd (false≢true (sym (ap (λ a. not (is_some a)) e) ∙ h.0))
four_words o (truth_value b) e h = absurd h
four_words o (words xs) e h =
    let enough : 4 ≤ 2 ^ h.1.address_width = subst (λ n. n ≤ 2 ^ h.1.address_width) count h.1.is_address_width.enough in
    let least : h.1.address_width ≤ 2 = h.1.is_address_width.least 2 (omega arith) (subst (λ n. n ≤ 4) (sym count) (omega arith)) in
    h.1.all ∙ ap (λ w. 2 ^ w) (width_is_two h.1.address_width enough least)
  where
    count : word_count o ≡ 4
    count = ap words_between e

    width_is_two : (a : ℕ) → 4 ≤ 2 ^ a → a ≤ 2 → a ≡ 2
    width_is_two zero enough low = absurd (omega (arith, enough))
    width_is_two (suc zero) enough low = absurd (omega (arith, enough))
    width_is_two (suc (suc zero)) enough low = refl
    width_is_two (suc (suc (suc a))) enough low = absurd (omega (arith, low))

is_placed : (x : Module) → x.module_name ≡ codes "writer" → IsPlacedIn (design_of (setting_of writer x)) (top_of x)
is_placed x e =
    ap (λ b. option_map (λ m. record { path = []; of_module = m; constants = constants_of m no_overrides }) (cond b (Some x) None))
    (same_of x.module_name (codes "writer") e)

length_four : (x : Module) (run : Run) (cycles t : ℕ) → IsEmittedModule writer x → IsRun (setting_of writer x) run cycles → t < cycles
    → length (as_words (state_at (setting_of writer x) run t memory_name)) ≡ 4
length_four x run cycles t emitted is_run low =
    let register : IsRegisterOf x memory_name (memory 2 4) =
    emitted.registers.states (record { state_name = memory_name; sort = memory 2 4; init = None }) (0, omega arith, refl) in
    four_words (object_of x memory_name) (run.valuations t memory_name) register.object.1
    (((is_run.settled t (omega (arith, low))).modules (top_of x) (is_placed x emitted.ports.named)).fits memory_name register.is_declared)

module _ (x : Module) (run : Run) (cycles t : ℕ) (follows : FollowsModel (setting_of writer x) run cycles) (low : t < cycles) where
  abbrev setting : Setting
  setting = setting_of writer x

  rests : IsAtRest setting run t
  rests h = absurd (false≢true h)

  command : StartsAt setting run t → (j : ℕ) × IsCommandOf setting run t j
  command starts = ((follows.start t low).0 starts).2

  start_of : (starts : StartsAt setting run t) → IsStartOf setting run t write_twice
  start_of starts =
      let c : (j : ℕ) × IsCommandOf setting run t j = command starts in
      subst (IsStartOf setting run t) (sym (only_one c.0 c.1.alone.i c.1.alone.is_j))
      (record { number = c.0; starts = starts; is_command = c.1; is_instruction = c.1.alone.is_j })

  held : ¬ IsResetAt setting run t → StartsAt setting run t → HoldPoint setting run (suc t) [] (begun write_twice (start_point setting run t))
  held quiet starts =
      follows.edge t [] [] (begun write_twice (start_point setting run t)) low quiet (AreRunning.at_rest t rests)
      (EdgeLeads.starts write_twice (start_of starts))

  pub word_is_two : ¬ IsResetAt setting run t → StartsAt setting run t
      → as_number (inputs_at setting run t address_name) < length (as_words (state_at setting run t memory_name))
      → slice_index (as_words (state_at setting run (suc t) memory_name)) (as_number (inputs_at setting run t address_name)) ≡ 2
  word_is_two quiet starts within =
      ap (λ y. slice_index (as_words y) (as_number (inputs_at setting run t address_name))) (held quiet starts memory_name refl)
      ∙ last_of_two (as_words (state_at setting run t memory_name)) (as_number (inputs_at setting run t address_name)) within

pub last_store_stands : LastStoreStands
last_store_stands x run cycles t emitted is_run low quiet starts within =
    word_is_two x run cycles t (emitted.runs run cycles is_run) low quiet starts
    (subst (λ n. as_number (inputs_at (setting_of writer x) run t address_name) < n) (sym (length_four x run cycles t emitted is_run low)) within)
