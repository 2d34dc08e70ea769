-- The terms of a map make a design with a map.
use Rattle.std.proofs.Common.{◌≡◌, ◌∙◌, ℕ, suc, ◌<◌, Bool, true, false, not, ◌&&◌, is_some, refl, ap, sym, subst, inl, inr, take, drop, List, [], ◌∷◌, ◌++◌, map, length, Some, Contains, arith}
use Rattle.std.specs.Prelude.{IsTrue, nat_lt, ◌==◌}
use Rattle.std.specs.List.{AllByRecursion}
use Rattle.std.proofs.lemmas.Bool.{and_from, and_parts, false≢true}
use Rattle.std.proofs.lemmas.Bool.Decides.{nat_tests}
use Rattle.std.proofs.lemmas.List.{map-append, length-map}
use Rattle.std.proofs.lemmas.List.Elements.{All-from_recursion}
use Rattle.wb_values.specs.Value.{Name, Sort, truth, word, memory, truth_value, number, words, as_number, as_words, Valuation, valuation_of, Entries, entry_of}
use Rattle.model_meaning.specs.Term.{sort_of, same_sort}
use Rattle.model_meaning.specs.Model.{states_of, instructions_in, instruction_name}
use Rattle.model_meaning.specs.Invariant.{IsModel}
use Rattle.verilog_trees.specs.Syntax.{Expression}
use Rattle.verilog_meaning.specs.Expression.{Object, Scope, is_memory, is_nonzero}
use Rattle.verilog_meaning.specs.Hierarchy.{placed_scope}
use Rattle.verilog_meaning.specs.Next.{AreRegisters, AreInputs}
use Rattle.verilog_unique.proofs.Descent.{IsAmong, contains_among}
use Rattle.verilog_exists.proofs.Exists.{settled_exists}
use Rattle.refinement.specs.Map.{Setting, InstructionMap, design_of, map_scope, mapped_value, mapped_or_zero, mapped_memory}
use Rattle.map_rules.specs.Expressions.{design_scope}
use Rattle.wb_terms.specs.Graph.{Graph, tree}
use Rattle.wb_terms.specs.Environment.{values_by_name}
use Rattle.v_operators.specs.Meaning.{Grows, IsOfSort, HasNumber}
use Rattle.v_operators.proofs.Growing.{number_kept}
use Rattle.v_lower.specs.Lowered.{Images, StandsFor}
use Rattle.ila_child.specs.State.{sorts_of_states, sorts_of_inputs}
use Rattle.v_design.specs.Parts.{Parts, has_sort, is_term_of, are_terms_of}
use Rattle.v_design.specs.Design.{worth}
use Rattle.path_terms.specs.Cycles.{HasItsTerms, IsCycle, environment, over}
use Rattle.path_terms.specs.Mapped.{AreConditions, Gives, IsMemoryName}
use Rattle.path_terms.specs.Laws.{NamesHaveTerms}
use Rattle.path_terms.proofs.Named.{Leads, led, is_net}
use Rattle.path_terms.proofs.Cycles.{memories_are_registers}
use Rattle.path_terms.proofs.Grown.{designs_stay}
use Rattle.mapped_designs.specs.Mapped.{Mapped, MappedInstruction, IsSortedFor, conditions_of}
use Rattle.mapped_designs.specs.Meaning.{Tells, IsMappedBy, condition_value}
use Rattle.map_terms.specs.Terms.{TermsOfMap, IsResetTerm, AreEntryTerms, AreEnds, AreMapTerms}
use Rattle.map_terms.specs.Ready.{IsReady, IsOfRegisters, HaveReadableEntries}
use Rattle.map_terms.proofs.Distinct.{state_sort, input_sort}
use Rattle.map_terms.proofs.Signal.{signal_number, signal_sort}
use Rattle.map_terms.proofs.Told.{condition_told, conditions_told, entries_told, ends_told, states_mapped, inputs_mapped, bounds_told}

-- ---- sorts

equal : (m n : ℕ) → m ≡ n → (m == n) ≡ true
equal m n h = grind (arith, nat_tests)

itself : (t : Sort) → same_sort t t ≡ true
itself truth = refl
itself (word w) = equal w w refl
itself (memory a w) = and_from (a == a) (w == w) (equal a a refl) (equal w w refl)

less : (m n : ℕ) → m < n → nat_lt m n ≡ true
less m n h = grind (arith, nat_tests)

term_is : (g : Graph) (t : Sort) (id : ℕ) → IsOfSort g id t → IsTrue (is_term_of g t id)
term_is g t id h =
    and_from (nat_lt id (length g.nodes)) (has_sort t (sort_of (tree g id))) (less id (length g.nodes) h.below) (ap (has_sort t) h.sort ∙ itself t)

module _ (s : Scope) (a : Images) (g : Graph) where
  abbrev IsCondition : ℕ → Type 0
  IsCondition id = IsTrue (is_term_of g truth id)

  conditions_are : (es : List Expression) (ids rest : List ℕ) → AreConditions s a g es ids → AllByRecursion IsCondition rest → AllByRecursion IsCondition (ids ++ rest)
  conditions_are [] [] rest h k = k
  conditions_are [] (id ∷ ids) rest h k = absurd h
  conditions_are (e ∷ es) [] rest h k = absurd h
  conditions_are (e ∷ es) (id ∷ ids) rest h k = (term_is g truth id h.0.of_sort, conditions_are es ids rest h.1 k)

  commits_are : (is : List InstructionMap) (ns : List Name) (xs : List MappedInstruction) → AreEnds s a g is ns xs → AllByRecursion IsCondition (map (λ (x : MappedInstruction). x.commit) xs)
  commits_are is [] [] h = tt
  commits_are is [] (x ∷ xs) h = absurd h
  commits_are is (n ∷ ns) [] h = absurd h
  commits_are is (n ∷ ns) (x ∷ xs) h = (term_is g truth x.commit h.0.is_term.of_sort, commits_are is ns xs h.1)

  entries_are : (es : Entries Expression) (ns : Entries Sort) (ids : List ℕ) → AreEntryTerms s a g es ns ids → IsTrue (are_terms_of g ns ids)
  entries_are es [] [] h = refl
  entries_are es [] (id ∷ ids) h = absurd h
  entries_are es (n ∷ ns) [] h = absurd h
  entries_are es (n ∷ ns) (id ∷ ids) h =
      and_from (is_term_of g n.1 id) (are_terms_of g ns ids) (term_is g n.1 id h.0.is_term.of_sort) (entries_are es ns ids h.1)

  so_many : (is : List InstructionMap) (ns : List Name) (xs : List MappedInstruction) → AreEnds s a g is ns xs → length xs ≡ length ns
  so_many is [] [] h = refl
  so_many is [] (x ∷ xs) h = absurd h
  so_many is (n ∷ ns) [] h = absurd h
  so_many is (n ∷ ns) (x ∷ xs) h = ap suc (so_many is ns xs h.1)

-- ---- the design with the map

-- the parts over a store that has grown, with the terms of a map
abbrev pub mapped_with : Parts → Graph → (reset_cycles reset : ℕ) → TermsOfMap → Mapped
mapped_with e h cycles reset r = record {
  parts = over e h;
  reset_cycles = cycles;
  reset = reset;
  start = r.start;
  assume = r.assume;
  invariants = r.invariants;
  states = r.states;
  inputs = r.inputs;
  instructions = r.instructions;
}

module _ (st : Setting) (s : Scope) (e : Parts) (x : IsReady st s e) (own : HasItsTerms e) (kept : IsModel st.model) (a : Images) (h : Graph)
    (grows : Grows e.graph h) (named : NamesHaveTerms (design_of st) e s a h) (r : TermsOfMap) (made : AreMapTerms st.model st.map s a h r) (signal reset : ℕ)
    (is_signal : e.settled st.map.reset_signal ≡ Some signal) (says : IsResetTerm h signal st.map.reset_active h reset) where
  abbrev result : Mapped
  result = mapped_with e h st.map.reset_cycles reset r

  same_environment : (registers inputs : Valuation) → environment (over e h) registers inputs ≡ environment e registers inputs
  same_environment registers inputs =
      ap (λ (ns : Entries Sort). valuation_of (values_by_name ns (map (λ n. registers n.0) (take e.register_count ns) ++ map (λ n. inputs n.0) (drop e.register_count ns))))
      grows.names

  stands : (registers inputs v : Valuation) → IsCycle (design_of st) registers inputs v → StandsFor s a h (environment (over e h) registers inputs) v
  stands registers inputs v c = subst (λ p. StandsFor s a h p v) (sym (same_environment registers inputs)) (named.stands registers inputs v c)

  number_now : (registers inputs v : Valuation) → IsCycle (design_of st) registers inputs v
      → HasNumber h signal 1 (environment (over e h) registers inputs) (as_number (v st.map.reset_signal))
  number_now registers inputs v c =
      let before : HasNumber e.graph signal 1 (environment e registers inputs) (as_number (v st.map.reset_signal)) =
      signal_number (design_of st) e x.design own x.accepted x.of_text st.map.reset_signal x.reset registers inputs v signal c is_signal in
      subst (λ p. HasNumber h signal 1 p (as_number (v st.map.reset_signal))) (sym (same_environment registers inputs))
      (number_kept signal 1 (environment e registers inputs) (as_number (v st.map.reset_signal)) grows
      (signal_sort (design_of st) e x.design own x.accepted x.of_text st.map.reset_signal x.reset signal is_signal).below before)

  tells : (registers inputs v : Valuation) → IsCycle (design_of st) registers inputs v → Tells st result registers inputs v
  tells registers inputs v c =
      let p : Valuation = environment (over e h) registers inputs in
      let now : StandsFor s a h p v = stands registers inputs v c in
      record {
        reset = (says.value p (as_number (v st.map.reset_signal)) (number_now registers inputs v c)).value;
        start = condition_told st s a h p v now st.map.start r.start x.start made.start;
        assume = conditions_told st s a h p v now st.map.assume r.assume x.assume made.assume;
        invariants = conditions_told st s a h p v now st.map.invariants r.invariants x.invariants made.invariants;
        model_states = entries_told st s a h p v now st.map.states (sorts_of_states (states_of st.model.top)) r.states x.states made.states
            ∙ states_mapped st s v (states_of st.model.top) (λ d k. state_sort st.model kept d k);
        model_inputs = entries_told st s a h p v now st.map.inputs (sorts_of_inputs st.model.inputs) r.inputs x.inputs made.inputs
            ∙ inputs_mapped st s v st.model.inputs (λ d k. input_sort st.model kept d k);
        commits = ends_told st s a h p v now st.map.instructions (instructions_in st.model.top) r.instructions x.instructions made.instructions;
      }

  sorted : IsSortedFor st.model result
  sorted =
      record {
        conditions = All-from_recursion (λ id. IsTrue (is_term_of h truth id)) (conditions_of result) (
          term_is h truth reset says.of_sort,
          (
            term_is h truth r.start made.start.of_sort,
            conditions_are s a h st.map.assume r.assume _ made.assume
                (conditions_are s a h st.map.invariants r.invariants _ made.invariants (commits_are s a h st.map.instructions _ r.instructions made.instructions)),
          ),
        );
        states = entries_are s a h st.map.states (sorts_of_states (states_of st.model.top)) r.states made.states;
        inputs = entries_are s a h st.map.inputs (sorts_of_inputs st.model.inputs) r.inputs made.inputs;
        instructions = so_many s a h st.map.instructions _ r.instructions made.instructions ∙ length-map (instructions_in st.model.top) instruction_name;
      }

  -- ---- states and invariants under other inputs

  unnumbered : (a b : Bool) → b ≡ true → (a && not b) ≡ false
  unnumbered true true f = refl
  unnumbered false b f = refl
  unnumbered true false f = absurd (false≢true f)

  -- a memory that is named holds what its register does
  memory_holds : (registers inputs v : Valuation) (b d : ℕ) (y : Expression) (g : IsMemoryName s b d y) → IsCycle (design_of st) registers inputs v
      → v g.called ≡ registers g.called
  memory_holds registers inputs v b d y g c =
      ap v l.is_written
      ∙ memories_are_registers (design_of st) registers inputs v l.place l.own x.accepted x.of_text c l.is_placed
      (is_net (design_of st) l.place l.own l.is_placed (ap (λ (o : Object). o.is_declared) (sym means) ∙ declared)
      (unnumbered (is_some (placed_scope l.place l.own).constant) (is_memory (placed_scope l.place l.own)) memory))
      memory
      ∙ ap registers (sym l.is_written)
    where
      declared : (s g.called).is_declared ≡ true
      declared = (and_parts (s g.called).is_declared _ g.known).0

      same : s g.called ≡ design_scope (design_of st) g.called
      same = x.is_scope.agrees g.called declared

      l : Leads (design_of st) g.called
      l = led (design_of st) g.called (ap (λ (o : Object). o.is_declared) (sym same) ∙ declared)

      means : s g.called ≡ placed_scope l.place l.own
      means = same ∙ l.means

      memory : is_memory (placed_scope l.place l.own) ≡ true
      memory = ap is_memory (sym means) ∙ g.of_sort.0

  memory_still : (registers inputs others v w : Valuation) (b d : ℕ) (y : Expression) → IsCycle (design_of st) registers inputs v
      → IsCycle (design_of st) registers others w → IsMemoryName s b d y → words (mapped_memory v y) ≡ words (mapped_memory w y)
  memory_still registers inputs others v w b d y c k g =
      ap (λ z. words (mapped_memory v z)) g.is_name
      ∙ ap (λ z. words (as_words z)) (memory_holds registers inputs v b d y g c ∙ sym (memory_holds registers others w b d y g k))
      ∙ ap (λ z. words (mapped_memory w z)) (sym g.is_name)

  module _ (registers inputs others v w : Valuation) (c : IsCycle (design_of st) registers inputs v) (k : IsCycle (design_of st) registers others w) where
    value_still : (n : Name) (t : Sort) (y : Expression) → Contains (sorts_of_states (states_of st.model.top)) (n, t) → entry_of st.map.states n ≡ Some y
        → Gives s t y → mapped_value st v t y ≡ mapped_value st w t y
    value_still n truth y there entry g =
        ap (λ z. truth_value (is_nonzero z)) (x.still y (IsOfRegisters.of_state n truth y there refl entry) registers inputs others v w c k)
    value_still n (word d) y there entry g = ap number (x.still y (IsOfRegisters.of_state n (word d) y there refl entry) registers inputs others v w c k)
    value_still n (memory b d) y there entry g = memory_still registers inputs others v w b d y c k g

    entries_still : (ns : Entries Sort) → ((n : Name × Sort) → IsAmong ns n → Contains (sorts_of_states (states_of st.model.top)) n)
        → HaveReadableEntries s (map_scope st) st.map.states ns
        → map (λ n. mapped_or_zero st v (Some n.1) (entry_of st.map.states n.0)) ns ≡ map (λ n. mapped_or_zero st w (Some n.1) (entry_of st.map.states n.0)) ns
    entries_still [] there q = refl
    entries_still (n ∷ ns) there q =
        let one : mapped_or_zero st v (Some n.1) (entry_of st.map.states n.0) ≡ mapped_or_zero st w (Some n.1) (entry_of st.map.states n.0) =
        ap (mapped_or_zero st v (Some n.1)) q.0.is_entry ∙ value_still n.0 n.1 q.0.expression (there n (inl refl)) q.0.is_entry q.0.gives
        ∙ ap (mapped_or_zero st w (Some n.1)) (sym q.0.is_entry) in
        λ i. one i ∷ entries_still ns (λ z h. there z (inr h)) q.1 i

    conditions_still : (es : List Expression) → ((y : Expression) → IsAmong es y → Contains st.map.invariants y)
        → map (condition_value st v) es ≡ map (condition_value st w) es
    conditions_still [] there = refl
    conditions_still (y ∷ es) there =
        let one : condition_value st v y ≡ condition_value st w y =
        ap (λ z. truth_value (is_nonzero z)) (x.still y (IsOfRegisters.of_invariant y (there y (inl refl))) registers inputs others v w c k) in
        λ i. one i ∷ conditions_still es (λ z h. there z (inr h)) i

    all_still : map (worth (over e h) registers inputs) (r.states ++ r.invariants) ≡ map (worth (over e h) registers others) (r.states ++ r.invariants)
    all_still =
        let first : Tells st result registers inputs v = tells registers inputs v c in
        let second : Tells st result registers others w = tells registers others w k in
        let p : Valuation = environment (over e h) registers inputs in
        let q : Valuation = environment (over e h) registers others in
        let states : map (worth (over e h) registers inputs) r.states ≡ map (worth (over e h) registers others) r.states =
        entries_told st s a h p v (stands registers inputs v c) st.map.states (sorts_of_states (states_of st.model.top)) r.states x.states made.states
        ∙ entries_still (sorts_of_states (states_of st.model.top)) (λ n g. contains_among (sorts_of_states (states_of st.model.top)) n g) x.states
        ∙ sym (entries_told st s a h q w (stands registers others w k) st.map.states (sorts_of_states (states_of st.model.top)) r.states x.states made.states) in
        let invariants : map (worth (over e h) registers inputs) r.invariants ≡ map (worth (over e h) registers others) r.invariants =
        first.invariants ∙ conditions_still st.map.invariants (λ y g. contains_among st.map.invariants y g) ∙ sym second.invariants in
        map-append (worth (over e h) registers inputs) r.states r.invariants ∙ (λ i. states i ++ invariants i)
        ∙ sym (map-append (worth (over e h) registers others) r.states r.invariants)

  still : (registers inputs others : Valuation) → AreRegisters (design_of st) registers → AreInputs (design_of st) inputs → AreInputs (design_of st) others
      → map (worth (over e h) registers inputs) (r.states ++ r.invariants) ≡ map (worth (over e h) registers others) (r.states ++ r.invariants)
  still registers inputs others are ins other =
      let v = settled_exists (design_of st) registers inputs x.accepted x.of_text ins in
      let w = settled_exists (design_of st) registers others x.accepted x.of_text other in
      all_still registers inputs others v.0 w.0 (record { are_registers = are; are_inputs = ins; is_settled = v.1 })
      (record { are_registers = are; are_inputs = other; is_settled = w.1 })

  pub is_mapped : IsMappedBy st result
  is_mapped =
      record {
        design = designs_stay (design_of st) e h x.design own grows;
        sorted = sorted;
        tells = λ registers inputs v are ins settled. tells registers inputs v (record { are_registers = are; are_inputs = ins; is_settled = settled });
        still = still;
        reset_cycles = refl;
        bounds = bounds_told st s a h (instructions_in st.model.top) r.instructions made.instructions;
      }
