-- An instruction that starts is applied: each register takes the value of its update, or keeps what it has.
use Rattle.std.proofs.Common.{◌≡◌, ℕ, suc, ◌+◌, ◌<◌, ◌≤◌, ◌^◌, Bool, true, false, cond, not, ◌||◌, inl, inr, List, [], ◌∷◌, ◌++◌, map, length, Option, Some, None, refl, sym, ◌∙◌, ap, subst, arith}
use Rattle.std.specs.Prelude.{slice_get}
use Rattle.std.specs.List.{list_all}
use Rattle.std.proofs.lemmas.Bool.{false≢true, and_parts}
use Rattle.wb_values.specs.Value.{Name, same_name, Sort, truth, word, memory, Value, truth_value, number, words, Valuation, Entries, entry_of}
use Rattle.model_meaning.specs.Term.{Term, is_memory_sort, sort_of, val}
use Rattle.model_meaning.specs.Model.{StateDeclaration, state_named, instructions_in, updated, updated_value}
use Rattle.model_meaning.specs.Invariant.{own_updates, is_memory_with_stores, is_memory_state, keeps_memory, keeps_memories}
use Rattle.ila_model.specs.Scope.{nesting}
use Rattle.verilog_trees.specs.Syntax.{Expression}
use Rattle.verilog_meaning.specs.Expression.{bit, is_true}
use Rattle.verilog_meaning.specs.Statement.{Update as StatementUpdate, run as run_of, with_updates}
use Rattle.term_expressions.specs.Expressions.{IsWorth}
use Rattle.term_expressions.specs.Laws.{IsMemory}
use Rattle.term_expressions.proofs.Shifts.{standing_is_assigned}
use Rattle.wb_terms.specs.Graph.{tree}
use Rattle.ila_model.specs.declared.parts.Update.{Update}
use Rattle.ila_model.specs.declared.parts.Instruction.{Instruction}
use Rattle.ila_model.specs.declared.parts.Parts.{Parts}
use Rattle.ila_model.specs.Sorted.{is_condition, are_updates, are_instructions, name_at, sort_at}
use Rattle.ila_model.specs.Meaning.{update_of, instruction_of, program_of}
use Rattle.refinement.specs.Run.{Run, IsRun, IsResetAt}
use Rattle.emitted_designs.specs.Map.{setting_of}
use Rattle.emitted_designs.specs.Cycles.{held_point}
use Rattle.emitted_designs.proofs.Named.{same_if}
use Rattle.emitted_modules.specs.Rtl.{Stored, Rtl, Guarded, bits_of_sort, clocked_statement}
use Rattle.emitted_modules.specs.Nodes.{operand, node_wires}
use Rattle.emitted_modules.specs.Stores.{MemoryUpdate, via_wires, stores_of}
use Rattle.emitted_modules.specs.Kept.{IsKept}
use Rattle.emitted_modules.specs.Module.{decodes_of, decode_wires, is_of_memory, updates_for, memory_update, memory_updates, all_stores, all_ways, memories_for, memories_from, guarded_for, guarded_from, emitted_module}
use Rattle.emitted_modules.specs.Laws.{IsFlatModel}
use Rattle.emitted_modules.proofs.Names.{Among, AreDistinct, among_right, among_map, differs_in}
use Rattle.emitted_modules.proofs.Words.{IsMemoryOf}
use Rattle.emitted_modules.proofs.Stores.{stores_leave, stores_named, stores_joined, after_both}
use Rattle.emitted_modules.proofs.WireNames.{way_there}
use Rattle.emitted_modules.proofs.Ways.{IsHeld}
use Rattle.emitted_modules.proofs.Written.{none_stored, made}
use Rattle.emitted_modules.proofs.Formed.{IsDone}
use Rattle.emitted_modules.proofs.Memories.{memory_from, memory_there, store_from, guarded_got, got_guarded, memories_there}
use Rattle.emitted_modules.proofs.Declared.{scope_in}
use Rattle.emitted_modules.proofs.NetWidths.{IsBitsSort}
use Rattle.emitted_modules.proofs.Computed.{Worth}
use Rattle.emitted_modules.proofs.Decoding.{BitsAreRead, IsOnly}
use Rattle.emitted_modules.proofs.Edge.{names_in, apart_from, takes_its_own, left_alone, updates_joined}
use Rattle.emitted_modules.proofs.Running.{updates_by, stores_by, IsIdle, chosen, one_chosen}
use Rattle.emitted_modules.proofs.Next.{begins}
use Rattle.emitted_modules.proofs.Reading.{sort_value, state_is_named}
use Rattle.emitted_modules.proofs.Points.{IsHeldAs, IsMemoryHeld}
use Rattle.emitted_modules.proofs.Model.{among_got, all_of}
use Rattle.emitted_modules.proofs.Facts.{model, sorted_parts, state_bits, states_distinct}
use Rattle.emitted_modules.proofs.Values.{no_memory, nonzero_bit, setting, point, state_held, memory_held, node_done}
use Rattle.emitted_modules.proofs.Sorts.{term_of, instruction_sorted, update_sorted, update_names, updates_distinct, words_distinct, update_from, update_in}
use Rattle.emitted_modules.proofs.Starts.{starts, bits_read, start_in_block, reset_in_block, condition_worth, worth_is_true}
use Rattle.emitted_modules.proofs.Commands.{decodes, got_code}
use Rattle.emitted_modules.proofs.Edges.{s, now, register_then, memory_then, held_then, memory_held_then, no_reset_is}
use Rattle.emitted_modules.proofs.Updated.{read_at, kept_term, IsUpdated, update_there, sort_there}

module _ (name : Name) (p : Parts) (keep : ℕ → Bool) (h : IsFlatModel name p) (kept : IsKept p keep)
    (run : Run) (cycles : ℕ) (is_run : IsRun (setting_of (model name p keep h) (emitted_module name p keep)) run cycles)
    (t : ℕ) (le : t ≤ cycles) (low : t < cycles) where
  abbrev here : Rtl
  here = s name p keep h kept run cycles is_run t le low

  abbrev before : Valuation
  before = now name p keep h kept run cycles is_run t le low

  abbrev at_start : Valuation
  at_start = point name p keep h kept run cycles is_run t le

  abbrev worth_of : Expression → Option Sort → Value → Type 0
  worth_of e o y = Worth (scope_in here) before e o y

  worth_number : (e : Expression) (u : Sort) (y : Value) → IsBitsSort u → worth_of e (Some u) y
      → (x : ℕ) × IsWorth (scope_in here) before e (bits_of_sort u) x × (y ≡ sort_value u x)
  worth_number e truth y bits (b, same, g) = (bit b, g, same ∙ ap truth_value (sym (nonzero_bit b)))
  worth_number e (word w) y bits (x, same, g) = (x, g, same)
  worth_number e (memory a d) y bits g = absurd bits

  is_sorted : are_instructions p None 0 p.instructions.items ≡ true
  is_sorted = (and_parts (is_condition p None p.valid.0) _ (sorted_parts name p keep h).top).1

  guard_is : (c : Instruction) → Among c p.instructions.items
      → is_true (scope_in here) before (operand p.terms c.decode.0) ≡ decodes name p keep h kept run cycles is_run t le c
  guard_is c at =
      worth_is_true name p keep h kept run cycles is_run t le (operand p.terms c.decode.0) (decodes name p keep h kept run cycles is_run t le c)
      (condition_worth name p keep h kept run cycles is_run t le c.decode.0
      (and_parts (is_condition p None c.decode.0) (are_updates p None 0 c.updates.items) (instruction_sorted p 0 p.instructions.items c is_sorted at)).0
      (read_at keep p.instructions.items c kept.instructions at).0)

  -- ---- stores, of any instruction

  abbrev memories : List MemoryUpdate
  memories = memories_from p.terms 0 p.instructions.items

  term_done : (k : ℕ) → k < length p.terms.nodes → keep k ≡ true → IsDone (scope_in here) before p.terms at_start k
  term_done = node_done name p keep h kept run cycles is_run t le

  decode_worth : (c : Instruction) → Among c p.instructions.items
      → IsWorth (scope_in here) before (operand p.terms c.decode.0) 1 (bit (decodes name p keep h kept run cycles is_run t le c))
  decode_worth c at =
      condition_worth name p keep h kept run cycles is_run t le c.decode.0
      (and_parts (is_condition p None c.decode.0) (are_updates p None 0 c.updates.items) (instruction_sorted p 0 p.instructions.items c is_sorted at)).0
      (read_at keep p.instructions.items c kept.instructions at).0

  -- the wires of an update are read
  ways_read : (k : ℕ) (c : Instruction) → slice_get p.instructions.items k ≡ Some c → (m : MemoryUpdate) → Among m (memories_for p.terms k c)
      → BitsAreRead (scope_in here) before (via_wires p.terms m (suc m.term))
  ways_read k c there m at w b in_ways same worth =
      bits_read name p keep h kept run cycles is_run t le w b
      (among_right w (node_wires p.terms keep 0 p.terms.nodes) (decode_wires (decodes_of p.terms p.instructions.items) ++ all_ways p.terms memories)
      (among_right w (decode_wires (decodes_of p.terms p.instructions.items)) (all_ways p.terms memories)
      (way_there p.terms memories m w
      (memories_there p.terms 0 p.instructions.items k c there m (subst (λ n. Among m (memories_for p.terms n c)) (from_start k) at)) in_ways)))
      same worth
    where
      from_start : (n : ℕ) → n ≡ 0 + n
      from_start n = omega arith

  abbrev IsHeldTerm : (a d k : ℕ) → Type 0
  IsHeldTerm a d k = IsHeld (scope_in here) before p.terms at_start keep h.stored.ordered term_done kept.operands a d k

  -- the updates of an instruction are sorted
  sorted_updates : (c : Instruction) → Among c p.instructions.items → are_updates p None 0 c.updates.items ≡ true
  sorted_updates c at =
      (and_parts (is_condition p None c.decode.0) (are_updates p None 0 c.updates.items) (instruction_sorted p 0 p.instructions.items c is_sorted at)).1

  term_held : (c : Instruction) → Among c p.instructions.items → (u : Update) (a d : ℕ) → Among u c.updates.items
      → sort_at p.terms.names u.state.0 ≡ memory a d → IsHeldTerm a d u.term.0
  term_held c at u a d among e =
      let term = term_of p (sort_at p.terms.names u.state.0) u.term.0 (update_sorted p 0 c.updates.items u (sorted_updates c at) among).read in
      record {
        known = term.0;
        kept = kept_term keep c.updates.items u (read_at keep p.instructions.items c kept.instructions at).1 among;
        sorted = term.1 ∙ ap (λ z. Some z) e;
      }

  -- where the instruction does not decode, none of its stores is made
  idle_memory : (k : ℕ) (c : Instruction) → slice_get p.instructions.items k ≡ Some c → decodes name p keep h kept run cycles is_run t le c ≡ false
      → (m : MemoryUpdate) → Among m (memories_for p.terms k c) → stores_by (scope_in here) before (stores_of p.terms m (suc m.term)) ≡ []
  idle_memory k c there off m at = by_update (memory_from p.terms k (operand p.terms c.decode.0) c.updates.items m at)
    where
      c_in : Among c p.instructions.items
      c_in = among_got p.instructions.items k c there

      by_sort : (u : Update) → Among u c.updates.items → memory_update p.terms k (operand p.terms c.decode.0) u ≡ m → (z : Sort)
          → sort_at p.terms.names u.state.0 ≡ z → is_memory_sort z ≡ true → stores_by (scope_in here) before (stores_of p.terms m (suc m.term)) ≡ []
      by_sort u among same (memory a d) e is_mem =
          none_stored (scope_in here) before p.terms at_start keep h.stored.ordered term_done kept.operands a d m
          (subst (λ i. IsHeldTerm a d i) (ap (λ (y : MemoryUpdate). y.term) same) (term_held c c_in u a d among e))
          (decodes name p keep h kept run cycles is_run t le c)
          (subst (λ i. IsWorth (scope_in here) before i 1 (bit (decodes name p keep h kept run cycles is_run t le c)))
          (ap (λ (y : MemoryUpdate). y.decode) same) (decode_worth c c_in))
          (ways_read k c there m at) off
      by_sort u among same truth e is_mem = absurd (false≢true is_mem)
      by_sort u among same (word w) e is_mem = absurd (false≢true is_mem)

      by_update : (u : Update) × Among u c.updates.items × (is_of_memory p.terms u ≡ true) × (memory_update p.terms k (operand p.terms c.decode.0) u ≡ m)
          → stores_by (scope_in here) before (stores_of p.terms m (suc m.term)) ≡ []
      by_update (u, among, of_memory, same) = by_sort u among same (sort_at p.terms.names u.state.0) refl of_memory

  idle_stores : (ms : List MemoryUpdate) → ((m : MemoryUpdate) → Among m ms → stores_by (scope_in here) before (stores_of p.terms m (suc m.term)) ≡ [])
      → stores_by (scope_in here) before (all_stores p.terms ms) ≡ []
  idle_stores [] none = refl
  idle_stores (m ∷ ms) none =
      stores_joined (scope_in here) before (stores_of p.terms m (suc m.term)) (all_stores p.terms ms)
      ∙ (ap (λ xs. xs ++ stores_by (scope_in here) before (all_stores p.terms ms)) (none m (inl refl)) ∙ idle_stores ms (λ x at. none x (inr at)))

  is_idle : (k : ℕ) (c : Instruction) → slice_get p.instructions.items k ≡ Some c → decodes name p keep h kept run cycles is_run t le c ≡ false
      → IsIdle (scope_in here) before (guarded_for p.terms k c)
  is_idle k c there off = (
    guard_is c (among_got p.instructions.items k c there) ∙ off,
    idle_stores (memories_for p.terms k c) (idle_memory k c there off),
  )

  module _ (j : ℕ) (c : Instruction) (only : IsOnly (decodes name p keep h kept run cycles is_run t le) p.instructions.items j c)
      (quiet : ¬ IsResetAt (setting name p keep h kept run cycles is_run t le) run t) (starting : starts name p keep h kept run cycles is_run t le ≡ true) where
    abbrev us : List Update
    us = c.updates.items

    abbrev decode : Expression
    decode = operand p.terms c.decode.0

    abbrev taken : Entries Expression
    taken = updates_for p.terms us

    abbrev stored : List Stored
    stored = all_stores p.terms (memories_for p.terms j c)

    -- what is waiting
    abbrev waiting : List StatementUpdate
    waiting = updates_by (scope_in here) before taken ++ stores_by (scope_in here) before stored

    -- after the updates of truth values and words
    abbrev between : Valuation
    between = with_updates (scope_in here) before (updates_by (scope_in here) before taken)

    c_there : Among c p.instructions.items
    c_there = among_got p.instructions.items j c only.is_there

    from_start : (n : ℕ) → 0 + n ≡ n
    from_start n = omega arith

    chosen_is : chosen (scope_in here) before here.guarded ≡ waiting
    chosen_is =
        one_chosen (scope_in here) before (guarded_from p.terms 0 p.instructions.items) j (guarded_for p.terms j c)
        (guarded_got p.terms 0 p.instructions.items j c only.is_there ∙ ap (λ n. Some (guarded_for p.terms n c)) (from_start j))
        (guard_is c c_there ∙ only.holds)
        (λ k g e apart.
        let x = got_guarded p.terms 0 p.instructions.items k g e in
        subst (λ (y : Guarded). IsIdle (scope_in here) before y) (ap (λ n. guarded_for p.terms n x.0) (sym (from_start k)) ∙ x.2)
        (is_idle k x.0 x.1 (only.no_other k x.0 x.1 apart)))

    runs_so : run_of (scope_in here) (clocked_statement here) before ≡ record { valuation = before; updates = waiting }
    runs_so =
        begins here before (reset_in_block name p keep h kept run cycles is_run t le ∙ no_reset_is name p keep h kept run cycles is_run t le low quiet)
        (start_in_block name p keep h kept run cycles is_run t le ∙ starting)
        ∙ ap (λ xs. record { valuation = before; updates = xs }) chosen_is

    both_done : (n : Name) → with_updates (scope_in here) before waiting n
        ≡ with_updates (scope_in here) between (stores_by (scope_in here) before stored) n
    both_done n =
        ap (λ (u : Valuation). u n)
        (updates_joined (scope_in here) before (updates_by (scope_in here) before taken) (stores_by (scope_in here) before stored))

    updates_sorted : are_updates p None 0 us ≡ true
    updates_sorted = sorted_updates c c_there

    all_distinct : AreDistinct (update_names p us)
    all_distinct = updates_distinct p 0 us (sorted_parts name p keep h).distinct updates_sorted

    -- the sort of a state that is updated
    sort_of_update : (d : StateDeclaration) (u : Update) → Among d here.registers → Among u us → name_at p.terms.names u.state.0 ≡ d.state_name
        → sort_at p.terms.names u.state.0 ≡ d.sort
    sort_of_update d u at among e =
        sort_there p.terms.names p.initial_values.items d u.state.0 (sorted_parts name p keep h).distinct at
        (update_sorted p 0 us u updates_sorted among).in_table e

    -- an update of another kind is of another name
    other_kind : (d : StateDeclaration) (u : Update) → Among d here.registers → Among u us
        → (is_of_memory p.terms u ≡ is_memory_sort d.sort → ⊥) → same_name (name_at p.terms.names u.state.0) d.state_name ≡ false
    other_kind d u at among differ = by_test (same_name (name_at p.terms.names u.state.0) d.state_name) refl
      where
        by_test : (b : Bool) → same_name (name_at p.terms.names u.state.0) d.state_name ≡ b → b ≡ false
        by_test true same =
            absurd
            (differ (ap is_memory_sort (sort_of_update d u at among (same_if (name_at p.terms.names u.state.0) d.state_name same))))
        by_test false other = refl

    not_both : (b e : Bool) → b ≡ true → e ≡ false → b ≡ e → ⊥
    not_both b e f g same = false≢true (sym g ∙ (sym same ∙ f))

    stores_elsewhere : (d : StateDeclaration) → Among d here.registers → IsBitsSort d.sort → (w : Stored) → Among w stored
        → same_name w.memory_name d.state_name ≡ false
    stores_elsewhere d at bits w there =
        let x = store_from p j (operand p.terms c.decode.0) us w there in
        ap (λ n. same_name n d.state_name) x.3
        ∙ other_kind d x.0 at x.1 (not_both (is_of_memory p.terms x.0) (is_memory_sort d.sort) x.2 (no_memory d.sort bits))

    taken_elsewhere : (d : StateDeclaration) → Among d here.registers → is_memory_sort d.sort ≡ true → (k : Name) → Among k (names_in taken)
        → same_name k d.state_name ≡ false
    taken_elsewhere d at is_mem k there =
        let x = update_from p us k there in
        ap (λ n. same_name n d.state_name) (sym x.3)
        ∙ other_kind d x.0 at x.1 (λ same. not_both (is_memory_sort d.sort) (is_of_memory p.terms x.0) is_mem x.2 (sym same))

    -- a term that is an update's
    update_term : (d : StateDeclaration) (u : Update) → Among d here.registers → Among u us → name_at p.terms.names u.state.0 ≡ d.state_name
        → (u.term.0 < length p.terms.nodes) × (sort_of (tree p.terms u.term.0) ≡ Some d.sort) × (keep u.term.0 ≡ true)
    update_term d u at among e =
        let term = term_of p (sort_at p.terms.names u.state.0) u.term.0 (update_sorted p 0 us u updates_sorted among).read in (
          term.0,
          term.1 ∙ ap (λ z. Some z) (sort_of_update d u at among e),
          kept_term keep us u (read_at keep p.instructions.items c kept.instructions c_there).1 among,
        )

    term_worth : (d : StateDeclaration) (u : Update) → Among d here.registers → Among u us → name_at p.terms.names u.state.0 ≡ d.state_name
        → worth_of (operand p.terms u.term.0) (Some d.sort) (val (tree p.terms u.term.0) at_start)
    term_worth d u at among e =
        let term = update_term d u at among e in
        subst (λ o. worth_of (operand p.terms u.term.0) o (val (tree p.terms u.term.0) at_start)) term.1
        (node_done name p keep h kept run cycles is_run t le u.term.0 term.0 term.2).0

    -- ---- truth values and words

    register_has : (d : StateDeclaration) (y : ℕ) → Among d here.registers → IsBitsSort d.sort → between d.state_name ≡ number y
        → y < 2 ^ bits_of_sort d.sort
        → held_point (setting name p keep h kept run cycles is_run t le) run (suc t) d.state_name ≡ sort_value d.sort y
    register_has d y at bits left fits =
        held_then name p keep h kept run cycles is_run t le low d y at bits
        (register_then name p keep h kept run cycles is_run t le low d waiting y at bits runs_so
        (both_done d.state_name ∙ (stores_leave (scope_in here) before between stored d.state_name (stores_elsewhere d at bits) ∙ left)) fits)
        fits

    bits_update : (d : StateDeclaration) (o : Option Term) → Among d here.registers → IsBitsSort d.sort → IsUpdated p us d.state_name o
        → held_point (setting name p keep h kept run cycles is_run t le) run (suc t) d.state_name ≡ updated_value o at_start (at_start d.state_name)
    bits_update d None at bits (IsUpdated.by_none none) =
        let old : IsHeldAs here before d.state_name d.sort (at_start d.state_name) = state_held name p keep h kept run cycles is_run t le d at bits in
        register_has d old.held at bits
        (left_alone (scope_in here) before before taken d.state_name (λ k there. no_taken k there) ∙ old.has) old.fits
        ∙ sym old.means
      where
        no_taken : (k : Name) → Among k (names_in taken) → same_name k d.state_name ≡ false
        no_taken k there =
            let x = update_from p us k there in
            none k (subst (λ n. Among n (update_names p us)) x.3 (among_map (λ (y : Update). name_at p.terms.names y.state.0) x.0 us x.1))
    bits_update d (Some _) at bits (IsUpdated.by_one u among e) =
        let old : IsHeldAs here before d.state_name d.sort (at_start d.state_name) = state_held name p keep h kept run cycles is_run t le d at bits in
        let x = worth_number (operand p.terms u.term.0) d.sort (val (tree p.terms u.term.0) at_start) bits (term_worth d u at among e) in
        let of_bits : is_of_memory p.terms u ≡ false = ap is_memory_sort (sort_of_update d u at among e) ∙ no_memory d.sort bits in
        register_has d x.0 at bits
        (takes_its_own (scope_in here) before before taken d.state_name (operand p.terms u.term.0) (bits_of_sort d.sort) x.0 old.held
        (words_distinct p us all_distinct)
        (subst (λ n. Among (n, operand p.terms u.term.0) taken) e (update_in p us u among of_bits)) old.plain.width
        (standing_is_assigned (scope_in here) before (operand p.terms u.term.0) (bits_of_sort d.sort) x.0 x.1) x.1.fits old.has old.fits)
        x.1.fits
        ∙ sym x.2

    -- ---- memories

    -- the term of a memory's update is the memory with words stored to it
    keeps_rule : (d : StateDeclaration) (u : Update) → Among d here.registers → is_memory_sort d.sort ≡ true → Among u us
        → name_at p.terms.names u.state.0 ≡ d.state_name → is_memory_with_stores d.state_name (tree p.terms u.term.0) ≡ true
    keeps_rule d u at is_mem among e =
        let all = (and_parts (keeps_memories here.registers (model name p keep h).top) _ h.is_model.no_copied_memory).0 in
        let own =
        all_of (λ i. list_all (keeps_memory here.registers) (own_updates i)) (instructions_in (model name p keep h).top)
        (instruction_of p.terms (program_of p.terms p.children.items nesting) c) all
        (among_got (instructions_in (model name p keep h).top) j (instruction_of p.terms (program_of p.terms p.children.items nesting) c)
        (got_code p.terms (program_of p.terms p.children.items nesting) p.instructions.items j c only.is_there)) in
        let one : keeps_memory here.registers (update_of p.terms u) ≡ true =
        all_of (keeps_memory here.registers) (map (update_of p.terms) us) (update_of p.terms u) own (among_map (update_of p.terms) u us among) in
        let found : state_named here.registers (name_at p.terms.names u.state.0) ≡ Some d =
        ap (state_named here.registers) e ∙ state_is_named here.registers d (states_distinct name p keep h) at in
        subst (λ n. is_memory_with_stores n (tree p.terms u.term.0) ≡ true) e
        (by_state (is_memory_with_stores (name_at p.terms.names u.state.0) (tree p.terms u.term.0)) (ap is_memory_state found ∙ is_mem) one)
      where
        by_state : (b : Bool) → is_memory_state (state_named here.registers (name_at p.terms.names u.state.0)) ≡ true
            → (not (is_memory_state (state_named here.registers (name_at p.terms.names u.state.0))) || b) ≡ true → b ≡ true
        by_state b f g = sym (ap (λ m. not m || b) f) ∙ g

    module _ (d : StateDeclaration) (a w : ℕ) (at : Among d here.registers) (e : d.sort ≡ memory a w) where
      old : IsMemoryHeld here before d.state_name a w (at_start d.state_name)
      old = memory_held name p keep h kept run cycles is_run t le d a w at e

      between_same : between d.state_name ≡ words old.held
      between_same = left_alone (scope_in here) before before taken d.state_name (taken_elsewhere d at (ap is_memory_sort e)) ∙ old.has

      memory_has : (ws : List ℕ) → with_updates (scope_in here) between (stores_by (scope_in here) before stored) d.state_name ≡ words ws → IsMemoryOf a w ws
          → held_point (setting name p keep h kept run cycles is_run t le) run (suc t) d.state_name ≡ words ws
      memory_has ws left narrow =
          memory_held_then name p keep h kept run cycles is_run t le low d a w ws at e
          (memory_then name p keep h kept run cycles is_run t le low d a w waiting ws at e runs_so (both_done d.state_name ∙ left) narrow)

      -- stores of updates of other names
      stores_of_others : (xs : List Update) → ((k : Name) → Among k (update_names p xs) → same_name k d.state_name ≡ false) → (x : Stored)
          → Among x (all_stores p.terms (memory_updates p.terms j decode xs)) → same_name x.memory_name d.state_name ≡ false
      stores_of_others xs none x there =
          let y = store_from p j decode xs x there in
          ap (λ n. same_name n d.state_name) y.3
          ∙ none (name_at p.terms.names y.0.state.0) (among_map (λ (z : Update). name_at p.terms.names z.state.0) y.0 xs y.1)

      -- what the stores of these updates leave of the memory
      abbrev left_by : Valuation → List MemoryUpdate → Value
      left_by z ms = with_updates (scope_in here) z (stores_by (scope_in here) before (all_stores p.terms ms)) d.state_name

      -- The stores of the updates make the memory what its update's term is.
      stores_made : (xs : List Update) (u : Update) → AreDistinct (update_names p xs) → Among u xs → name_at p.terms.names u.state.0 ≡ d.state_name
          → is_of_memory p.terms u ≡ true
          → ((z : Valuation) → z d.state_name ≡ words old.held
          → with_updates (scope_in here) z (stores_by (scope_in here) before (stores_of p.terms (memory_update p.terms j decode u) (suc u.term.0))) d.state_name
          ≡ val (tree p.terms u.term.0) at_start)
          → (z : Valuation) → z d.state_name ≡ words old.held → left_by z (memory_updates p.terms j decode xs) ≡ val (tree p.terms u.term.0) at_start
      stores_made [] u apart among named of_memory makes z same = absurd among
      stores_made (x ∷ xs) u apart (inl f) named of_memory makes z same =
          let first : List Stored = stores_of p.terms (memory_update p.terms j decode u) (suc u.term.0) in
          let rest : List Stored = all_stores p.terms (memory_updates p.terms j decode xs) in
          subst
          (λ (y : Update). left_by z (cond (is_of_memory p.terms y) (memory_update p.terms j decode y ∷ []) [] ++ memory_updates p.terms j decode xs)
          ≡ val (tree p.terms u.term.0) at_start)
          (sym f)
          (ap (λ b. left_by z (cond b (memory_update p.terms j decode u ∷ []) [] ++ memory_updates p.terms j decode xs)) of_memory
          ∙ (after_both (scope_in here) before z first rest d.state_name
          ∙ (stores_leave (scope_in here) before (with_updates (scope_in here) z (stores_by (scope_in here) before first)) rest d.state_name
          (stores_of_others xs
          (λ k there. apart_from d.state_name k
          (subst (λ n. same_name n k ≡ false) (ap (λ (y : Update). name_at p.terms.names y.state.0) f ∙ named)
          (differs_in (name_at p.terms.names x.state.0) k (update_names p xs) apart.0 there))))
          ∙ makes z same)))
      stores_made (x ∷ xs) u apart (inr among) named of_memory makes z same =
          by_test (is_of_memory p.terms x) (λ y g. stores_made xs u apart.1 among named of_memory makes y g)
        where
          other : same_name (name_at p.terms.names x.state.0) d.state_name ≡ false
          other =
              subst (λ n. same_name (name_at p.terms.names x.state.0) n ≡ false) named
              (differs_in (name_at p.terms.names x.state.0) (name_at p.terms.names u.state.0) (update_names p xs) apart.0
              (among_map (λ (y : Update). name_at p.terms.names y.state.0) u xs among))

          m : MemoryUpdate
          m = memory_update p.terms j decode x

          by_test : (b : Bool)
              → ((y : Valuation) → y d.state_name ≡ words old.held → left_by y (memory_updates p.terms j decode xs) ≡ val (tree p.terms u.term.0) at_start)
              → left_by z (cond b (m ∷ []) [] ++ memory_updates p.terms j decode xs) ≡ val (tree p.terms u.term.0) at_start
          by_test false more = more z same
          by_test true more =
              after_both (scope_in here) before z (stores_of p.terms m (suc m.term)) (all_stores p.terms (memory_updates p.terms j decode xs)) d.state_name
              ∙ more (with_updates (scope_in here) z (stores_by (scope_in here) before (stores_of p.terms m (suc m.term))))
              (stores_leave (scope_in here) before z (stores_of p.terms m (suc m.term)) d.state_name
              (λ y there. ap (λ n. same_name n d.state_name) (stores_named p.terms m (suc m.term) y there) ∙ other)
              ∙ same)

      -- those of the memory's own update
      own_stores_made : (u : Update) → Among u us → name_at p.terms.names u.state.0 ≡ d.state_name → (z : Valuation) → z d.state_name ≡ words old.held
          → with_updates (scope_in here) z (stores_by (scope_in here) before (stores_of p.terms (memory_update p.terms j decode u) (suc u.term.0))) d.state_name
          ≡ val (tree p.terms u.term.0) at_start
      own_stores_made u among f z same =
          let sorted : sort_at p.terms.names u.state.0 ≡ memory a w = sort_of_update d u at among f ∙ e in
          ap (λ n. with_updates (scope_in here) z (stores_by (scope_in here) before (stores_of p.terms (memory_update p.terms j decode u) (suc u.term.0))) n) (sym f)
          ∙ made (scope_in here) before p.terms at_start keep h.stored.ordered term_done kept.operands a w (memory_update p.terms j decode u)
          (term_held c c_there u a w among sorted) (decodes name p keep h kept run cycles is_run t le c) (decode_worth c c_there)
          (ways_read j c only.is_there (memory_update p.terms j decode u)
          (memory_there p.terms j decode us u among (ap is_memory_sort sorted)))
          (subst (λ n. IsMemory (scope_in here) n a w) (sym f) old.is_memory) old.held (ap at_start f ∙ old.means)
          (ap (λ n. is_memory_with_stores n (tree p.terms u.term.0)) f ∙ keeps_rule d u at (ap is_memory_sort e) among f) only.holds z (ap z f ∙ same)

      memory_updated : (o : Option Term) → IsUpdated p us d.state_name o
          → held_point (setting name p keep h kept run cycles is_run t le) run (suc t) d.state_name ≡ updated_value o at_start (at_start d.state_name)
      memory_updated None (IsUpdated.by_none none) =
          memory_has old.held
          (stores_leave (scope_in here) before between stored d.state_name (stores_of_others us none) ∙ between_same) old.fits
          ∙ sym old.means
      memory_updated (Some _) (IsUpdated.by_one u among f) =
          let term = update_term d u at among f in
          let worth : worth_of (operand p.terms u.term.0) (Some (memory a w)) (val (tree p.terms u.term.0) at_start) =
          subst (λ z. worth_of (operand p.terms u.term.0) (Some z) (val (tree p.terms u.term.0) at_start)) e (term_worth d u at among f) in
          memory_has worth.0
          (stores_made us u all_distinct among f (ap is_memory_sort (sort_of_update d u at among f) ∙ ap is_memory_sort e) (own_stores_made u among f)
          between between_same
          ∙ worth.1)
          worth.2
          ∙ sym worth.1

    pub applied : (d : StateDeclaration) → Among d here.registers
        → held_point (setting name p keep h kept run cycles is_run t le) run (suc t) d.state_name
        ≡ updated (map (update_of p.terms) us) at_start d.state_name
    applied d at = by_sort d.sort refl
      where
        by_sort : (z : Sort) → d.sort ≡ z
            → held_point (setting name p keep h kept run cycles is_run t le) run (suc t) d.state_name
            ≡ updated (map (update_of p.terms) us) at_start d.state_name
        by_sort truth e =
            bits_update d (entry_of (map (update_of p.terms) us) d.state_name) at (state_bits name p keep h d at (ap is_memory_sort e))
            (update_there p us d.state_name)
        by_sort (word w) e =
            bits_update d (entry_of (map (update_of p.terms) us) d.state_name) at (state_bits name p keep h d at (ap is_memory_sort e))
            (update_there p us d.state_name)
        by_sort (memory a w) e =
            memory_updated d a w at e (entry_of (map (update_of p.terms) us) d.state_name) (update_there p us d.state_name)
