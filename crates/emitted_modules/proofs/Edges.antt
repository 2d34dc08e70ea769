-- What the registers of an emitted module hold after an edge.
use Rattle.std.proofs.Common.{◌≡◌, ℕ, zero, suc, ◌<◌, ◌≤◌, ◌^◌, Bool, true, false, List, [], Some, refl, sym, ◌∙◌, ap, subst, arith}
use Rattle.std.proofs.lemmas.Bool.{false≢true}
use Rattle.wb_values.specs.Value.{Name, same_name, Sort, truth, word, memory, Value, number, words, numeral_of, as_words, is_of_sort, Valuation}
use Rattle.model_meaning.specs.Term.{is_memory_sort}
use Rattle.refinement.specs.Map.{mapped_value}
use Rattle.emitted_designs.proofs.Named.{same_if}
use Rattle.model_meaning.specs.Model.{StateDeclaration, states_of, state_named}
use Rattle.verilog_meaning.specs.Expression.{is_nonzero}
use Rattle.verilog_meaning.specs.Settled.{whole_name}
use Rattle.verilog_meaning.specs.Statement.{Update, run as run_of, with_updates}
use Rattle.term_expressions.specs.Expressions.{IsAssigned, sized}
use Rattle.term_expressions.proofs.Shifts.{standing_is_assigned}
use Rattle.term_expressions.proofs.Joined.{sized_is_const}
use Rattle.ila_model.specs.declared.parts.Parts.{Parts}
use Rattle.refinement.specs.Run.{Run, IsRun, IsResetAt}
use Rattle.refinement.specs.Refinement.{state_at, HasInitialValues}
use Rattle.emitted_designs.specs.Names.{reset_name}
use Rattle.emitted_designs.specs.Map.{setting_of}
use Rattle.emitted_designs.specs.Module.{top_of}
use Rattle.emitted_designs.specs.Cycles.{held_point}
use Rattle.emitted_modules.specs.Rtl.{Stored, Rtl, bits_of_sort, first_value, first_takes, kept_words, clocked_statement, module_of}
use Rattle.emitted_modules.specs.Kept.{IsKept}
use Rattle.emitted_modules.specs.Module.{emitted_module}
use Rattle.emitted_modules.specs.Laws.{IsFlatModel}
use Rattle.emitted_modules.proofs.Names.{Among}
use Rattle.emitted_modules.proofs.Declared.{scope_in}
use Rattle.emitted_modules.proofs.Nets.{register_plain}
use Rattle.emitted_modules.proofs.NetWidths.{IsBitsSort}
use Rattle.emitted_modules.proofs.Settled.{IsSettledFor}
use Rattle.emitted_modules.proofs.Edge.{takes_its_own, updates_joined}
use Rattle.emitted_modules.proofs.Running.{updates_by, stores_by}
use Rattle.emitted_modules.proofs.Words.{IsMemoryOf}
use Rattle.emitted_modules.proofs.Stores.{stores_leave}
use Rattle.emitted_modules.proofs.Next.{IsAfter, register_after, memory_after, reset_updates, resets, waits}
use Rattle.emitted_modules.proofs.Assigned.{bits_taken_first}
use Rattle.emitted_modules.proofs.Reading.{sort_value, placed, settled_at, read_value, state_read, held_read, named_state, state_is_named}
use Rattle.emitted_modules.proofs.Points.{IsHeldAs, IsMemoryHeld}
use Rattle.emitted_modules.proofs.Model.{initial_values_sorted, stated_by_no_memory}
use Rattle.emitted_modules.proofs.Facts.{model, sorted_parts, state_sorts, state_bits, states_distinct, state_bytes, own}
use Rattle.emitted_modules.proofs.Values.{no_memory, setting, r, v, point, state_held, memory_held}
use Rattle.emitted_modules.proofs.Starts.{starts, start_in_block, reset_number, reset_in_block}
use Rattle.emitted_modules.proofs.Initial.{taken_once, kept_from, same_state, numeral_fits, numeral_means}

module _ (name : Name) (p : Parts) (keep : ℕ → Bool) (h : IsFlatModel name p) (kept : IsKept p keep)
    (run : Run) (cycles : ℕ) (is_run : IsRun (setting_of (model name p keep h) (emitted_module name p keep)) run cycles)
    (t : ℕ) (le : t ≤ cycles) (low : t < cycles) where
  abbrev pub s : Rtl
  s = r name p keep h kept run cycles is_run t le

  abbrev pub now : Valuation
  now = v name p keep h kept run cycles is_run t le

  abbrev pub later : Valuation
  later = run.valuations (suc t)

  next_within : suc t ≤ cycles
  next_within = omega (arith, low)

  later_settled : IsSettledFor s later
  later_settled = settled_at (model name p keep h) s refl run cycles (suc t) is_run next_within

  is_after : IsAfter s now later
  is_after n k b dec counted =
      let there = placed (model name p keep h) s refl in
      ((is_run.settled (suc t) next_within).modules (top_of (module_of s)) there).held n k b dec counted
      ∙ (is_run.next t low).assigned (top_of (module_of s)) n k b there dec counted

  -- a register after statements that leave these updates
  pub register_then : (d : StateDeclaration) (us : List Update) (y : ℕ) → Among d s.registers → IsBitsSort d.sort
      → run_of (scope_in s) (clocked_statement s) now ≡ record { valuation = now; updates = us } → with_updates (scope_in s) now us d.state_name ≡ number y
      → y < 2 ^ bits_of_sort d.sort → later d.state_name ≡ number y
  register_then = register_after s (own name p keep h) (state_sorts name p keep h) now later later_settled is_after

  -- a memory after them
  pub memory_then : (d : StateDeclaration) (a w : ℕ) (us : List Update) (ws : List ℕ) → Among d s.registers → d.sort ≡ memory a w
      → run_of (scope_in s) (clocked_statement s) now ≡ record { valuation = now; updates = us } → with_updates (scope_in s) now us d.state_name ≡ words ws
      → IsMemoryOf a w ws → later d.state_name ≡ words ws
  memory_then = memory_after s (own name p keep h) (state_sorts name p keep h) now later later_settled is_after

  there : (n : Name) (d : StateDeclaration) → state_named (states_of (model name p keep h).top) n ≡ Some d → Among d s.registers × (d.state_name ≡ n)
  there n d e = named_state s.registers n d e

  -- what is read of a register then
  pub state_then : (d : StateDeclaration) (y : ℕ) → Among d s.registers → IsBitsSort d.sort → later d.state_name ≡ number y → y < 2 ^ bits_of_sort d.sort
      → state_at (setting name p keep h kept run cycles is_run t le) run (suc t) d.state_name ≡ sort_value d.sort y
  state_then d y at bits e fits =
      state_read (model name p keep h) s refl run (suc t) d.state_name d (state_is_named s.registers d (states_distinct name p keep h) at)
      ∙ read_value (model name p keep h) s refl later d.state_name d.sort y (state_bytes name p keep h d at) bits
      (register_plain s (own name p keep h) d at bits) e fits

  pub held_then : (d : StateDeclaration) (y : ℕ) → Among d s.registers → IsBitsSort d.sort → later d.state_name ≡ number y → y < 2 ^ bits_of_sort d.sort
      → held_point (setting name p keep h kept run cycles is_run t le) run (suc t) d.state_name ≡ sort_value d.sort y
  held_then d y at bits e fits =
      held_read (model name p keep h) s refl run (suc t) d.state_name d (state_is_named s.registers d (states_distinct name p keep h) at)
      ∙ read_value (model name p keep h) s refl later d.state_name d.sort y (state_bytes name p keep h d at) bits
      (register_plain s (own name p keep h) d at bits) e fits

  pub memory_held_then : (d : StateDeclaration) (a w : ℕ) (ws : List ℕ) → Among d s.registers → d.sort ≡ memory a w → later d.state_name ≡ words ws
      → held_point (setting name p keep h kept run cycles is_run t le) run (suc t) d.state_name ≡ words ws
  memory_held_then d a w ws at e has =
      held_read (model name p keep h) s refl run (suc t) d.state_name d (state_is_named s.registers d (states_distinct name p keep h) at)
      ∙ (ap (λ u. mapped_value (setting name p keep h kept run cycles is_run t le) later u (whole_name d.state_name)) e ∙ ap (λ y. words (as_words y)) has)

  -- ---- reset

  reset_is : IsResetAt (setting name p keep h kept run cycles is_run t le) run t → is_nonzero (reset_number name p keep h kept run cycles is_run t le).0 ≡ true
  reset_is e = ap is_nonzero (sym (ap number_in (reset_number name p keep h kept run cycles is_run t le).1) ∙ e)
    where
      number_in : Value → ℕ
      number_in (number x) = x
      number_in _ = 0

  pub no_reset_is : ¬ IsResetAt (setting name p keep h kept run cycles is_run t le) run t
      → is_nonzero (reset_number name p keep h kept run cycles is_run t le).0 ≡ false
  no_reset_is quiet = by_number (reset_number name p keep h kept run cycles is_run t le).0 (reset_number name p keep h kept run cycles is_run t le).1
      (reset_number name p keep h kept run cycles is_run t le).2
    where
      by_number : (x : ℕ) → now reset_name ≡ number x → x < 2 → is_nonzero x ≡ false
      by_number zero e fits = refl
      by_number (suc zero) e fits = absurd (quiet (ap as_number_of e))
        where
          as_number_of : Value → ℕ
          as_number_of (number x) = x
          as_number_of _ = 0
      by_number (suc (suc x)) e fits = absurd (omega (arith, fits))

  -- a state with an initial value is no memory
  stated_bits : (d : StateDeclaration) (x : Value) → Among d s.registers → d.init ≡ Some x → IsBitsSort d.sort
  stated_bits d x at stated =
      state_bits name p keep h d at
      (stated_by_no_memory p.terms.names p.initial_values.items (sorted_parts name p keep h).declared.states d x at stated)

  -- no memory of its name is kept at reset
  no_kept : (d : StateDeclaration) → Among d s.registers → IsBitsSort d.sort → (w : Stored) → Among w (kept_words s.registers)
      → same_name w.memory_name d.state_name ≡ false
  no_kept d at bits w there_ = by_test (same_name w.memory_name d.state_name) refl
    where
      by_test : (b : Bool) → same_name w.memory_name d.state_name ≡ b → b ≡ false
      by_test true same =
          let x = kept_from s.registers w there_ in
          let one : x.0 ≡ d =
          same_state s.registers x.0 d (states_distinct name p keep h) x.1 at (sym x.3 ∙ same_if w.memory_name d.state_name same) in
          absurd (false≢true (sym (no_memory d.sort bits) ∙ (ap (λ (y : StateDeclaration). is_memory_sort y.sort) (sym one) ∙ x.2)))
      by_test false other = refl

  first_held : (d : StateDeclaration) (x : Value) → Among d s.registers → d.init ≡ Some x
      → IsResetAt (setting name p keep h kept run cycles is_run t le) run t → later d.state_name ≡ number (numeral_of x)
  first_held d x at stated resetting =
      let bits : IsBitsSort d.sort = stated_bits d x at stated in
      let old : IsHeldAs s now d.state_name d.sort (point name p keep h kept run cycles is_run t le d.state_name) =
      state_held name p keep h kept run cycles is_run t le d at bits in
      let fits : numeral_of x < 2 ^ bits_of_sort d.sort =
      numeral_fits d.sort x bits
      (initial_values_sorted p.terms.names p.initial_values.items (sorted_parts name p keep h).declared.states d x at stated) in
      register_then d (reset_updates s now) (numeral_of x) at bits
      (resets s now (reset_in_block name p keep h kept run cycles is_run t le ∙ reset_is resetting))
      (ap (λ (u : Valuation). u d.state_name)
      (updates_joined (scope_in s) now (updates_by (scope_in s) now (first_takes s.registers)) (stores_by (scope_in s) now (kept_words s.registers)))
      ∙ (stores_leave (scope_in s) now (with_updates (scope_in s) now (updates_by (scope_in s) now (first_takes s.registers))) (kept_words s.registers)
      d.state_name (no_kept d at bits)
      ∙ takes_its_own (scope_in s) now now (first_takes s.registers) d.state_name (first_value d.state_name d.sort d.init) (bits_of_sort d.sort)
      (numeral_of x) old.held (taken_once s.registers (states_distinct name p keep h)) (bits_taken_first s.registers d at bits) old.plain.width
      (subst (λ i. IsAssigned (scope_in s) now (first_value d.state_name d.sort i) (bits_of_sort d.sort) (numeral_of x)) (sym stated)
      (standing_is_assigned (scope_in s) now (sized (bits_of_sort d.sort) (numeral_of x)) (bits_of_sort d.sort) (numeral_of x)
      (sized_is_const (scope_in s) now (bits_of_sort d.sort) (numeral_of x) fits)))
      fits old.has old.fits))
      fits

  pub initial_values : IsResetAt (setting name p keep h kept run cycles is_run t le) run t
      → HasInitialValues (model name p keep h) (state_at (setting name p keep h kept run cycles is_run t le) run (suc t))
  initial_values resetting n d x e stated =
      let at = there n d e in
      let bits : IsBitsSort d.sort = stated_bits d x at.0 stated in
      let sorted : is_of_sort d.sort x ≡ true =
      initial_values_sorted p.terms.names p.initial_values.items (sorted_parts name p keep h).declared.states d x at.0 stated in
      subst (λ k. state_at (setting name p keep h kept run cycles is_run t le) run (suc t) k ≡ x) at.1
      (state_then d (numeral_of x) at.0 bits (first_held d x at.0 stated resetting) (numeral_fits d.sort x bits sorted) ∙ numeral_means d.sort x bits sorted)

  -- ---- no start

  abbrev Stays : StateDeclaration → Type 0
  Stays d =
      held_point (setting name p keep h kept run cycles is_run t le) run (suc t) d.state_name ≡ point name p keep h kept run cycles is_run t le d.state_name

  pub stays : ¬ IsResetAt (setting name p keep h kept run cycles is_run t le) run t → starts name p keep h kept run cycles is_run t le ≡ false
      → (d : StateDeclaration) → Among d s.registers → Stays d
  stays quiet no_start d at = by_sort d.sort refl
    where
      of_bits : IsBitsSort d.sort → Stays d
      of_bits bits =
          let old : IsHeldAs s now d.state_name d.sort (point name p keep h kept run cycles is_run t le d.state_name) =
          state_held name p keep h kept run cycles is_run t le d at bits in
          held_then d old.held at bits
          (register_then d [] old.held at bits
          (waits s now (reset_in_block name p keep h kept run cycles is_run t le ∙ no_reset_is quiet)
          (start_in_block name p keep h kept run cycles is_run t le ∙ no_start))
          old.has old.fits)
          old.fits
          ∙ sym old.means

      by_sort : (u : Sort) → d.sort ≡ u → Stays d
      by_sort truth e = of_bits (subst IsBitsSort (sym e) tt)
      by_sort (word w) e = of_bits (state_bits name p keep h d at (ap is_memory_sort e))
      by_sort (memory a w) e =
          let old : IsMemoryHeld s now d.state_name a w (point name p keep h kept run cycles is_run t le d.state_name) =
          memory_held name p keep h kept run cycles is_run t le d a w at e in
          memory_held_then d a w old.held at e
          (memory_then d a w [] old.held at e
          (waits s now (reset_in_block name p keep h kept run cycles is_run t le ∙ no_reset_is quiet)
          (start_in_block name p keep h kept run cycles is_run t le ∙ no_start))
          old.has old.fits)
          ∙ sym old.means
