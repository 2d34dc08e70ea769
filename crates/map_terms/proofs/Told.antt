-- What the terms of a map are worth in a settled cycle.
use Rattle.std.proofs.Common.{◌≡◌, ◌∙◌, ℕ, refl, ap, sym, subst, inl, inr, List, [], ◌∷◌, map, Some}
use Rattle.wb_values.specs.Value.{Name, Sort, truth, word, memory, Value, truth_value, number, Valuation, Entries, entry_of}
use Rattle.model_meaning.specs.Term.{val}
use Rattle.model_meaning.specs.Model.{StateDeclaration, InputDeclaration, Instruction, states_of, state_named, instruction_name}
use Rattle.verilog_trees.specs.Syntax.{Expression}
use Rattle.verilog_meaning.specs.Expression.{Scope}
use Rattle.verilog_renamed.specs.Agreement.{IsSameIn, AgreeOnExpression}
use Rattle.verilog_renamed.proofs.EachName.{each_listed}
use Rattle.verilog_renamed.proofs.AgreedMeaning.{expressions_are_agreed_on}
use Rattle.verilog_unique.proofs.Descent.{IsAmong}
use Rattle.refinement.specs.Map.{Setting, InstructionMap, map_scope, mapped_value, mapped_or_zero, mapped_state, mapped_inputs, sort_of_state, sort_of_input, instruction_map}
use Rattle.refinement.specs.Obligation.{bound_named, bound_in}
use Rattle.wb_terms.specs.Graph.{Graph, tree}
use Rattle.v_lower.specs.Lowered.{Images, StandsFor}
use Rattle.ila_child.specs.State.{sorts_of_states, sorts_of_inputs}
use Rattle.path_terms.specs.Mapped.{IsTermFor, AreConditions, given_value}
use Rattle.mapped_designs.specs.Mapped.{MappedInstruction}
use Rattle.mapped_designs.specs.Meaning.{condition_value, commit_holds}
use Rattle.map_terms.specs.Terms.{IsEntryTerm, AreEntryTerms, IsEnd, AreEnds}
use Rattle.map_terms.specs.Ready.{AgreeOn, IsReadable, AreReadable, HasReadableEntry, HaveReadableEntries, HasEnd, HaveEnds}

some_same : {A : Type 0} {x y : A} → Some x ≡ Some y → x ≡ y
some_same h = cc

pub agreed : (s m : Scope) (e : Expression) → AgreeOn s m e → AgreeOnExpression m s e
agreed s m e h = expressions_are_agreed_on m s e (each_listed (IsSameIn m s) e h)

module _ (st : Setting) (s : Scope) where
  abbrev m : Scope
  m = map_scope st

  -- what an expression gives a sort is what it is mapped to
  pub given_mapped : (t : Sort) (e : Expression) (v : Valuation) → AgreeOn s (map_scope st) e → given_value s v t e ≡ mapped_value st v t e
  given_mapped truth e v h = ap truth_value ((agreed s (map_scope st) e h).condition v)
  given_mapped (word w) e v h = ap number ((agreed s (map_scope st) e h).self v)
  given_mapped (memory a d) e v h = refl

  module _ (a : Images) (g : Graph) (p v : Valuation) (stands : StandsFor s a g p v) where
    worth_now : ℕ → Value
    worth_now id = val (tree g id) p

    pub condition_told : (e : Expression) (id : ℕ) → IsReadable s (map_scope st) e → IsTermFor s a g truth e id → val (tree g id) p ≡ condition_value st v e
    condition_told e id r t = t.value p v stands ∙ given_mapped truth e v r.agrees

    pub conditions_told : (es : List Expression) (ids : List ℕ) → AreReadable s (map_scope st) es → AreConditions s a g es ids
        → map (λ id. val (tree g id) p) ids ≡ map (condition_value st v) es
    conditions_told [] [] r t = refl
    conditions_told [] (id ∷ ids) r t = absurd t
    conditions_told (e ∷ es) [] r t = absurd t
    conditions_told (e ∷ es) (id ∷ ids) r t = λ i. condition_told e id r.0 t.0 i ∷ conditions_told es ids r.1 t.1 i

    entry_told : (es : Entries Expression) (n : Name × Sort) (id : ℕ) → HasReadableEntry s (map_scope st) es n → IsEntryTerm s a g es n id
        → val (tree g id) p ≡ mapped_or_zero st v (Some n.1) (entry_of es n.0)
    entry_told es n id r t =
        let same : r.expression ≡ t.expression = some_same (sym r.is_entry ∙ t.is_entry) in
        t.is_term.value p v stands ∙ given_mapped n.1 t.expression v (subst (AgreeOn s (map_scope st)) same r.agrees)
        ∙ ap (mapped_or_zero st v (Some n.1)) (sym t.is_entry)

    pub entries_told : (es : Entries Expression) (ns : Entries Sort) (ids : List ℕ) → HaveReadableEntries s (map_scope st) es ns → AreEntryTerms s a g es ns ids
        → map (λ id. val (tree g id) p) ids ≡ map (λ n. mapped_or_zero st v (Some n.1) (entry_of es n.0)) ns
    entries_told es [] [] r t = refl
    entries_told es [] (id ∷ ids) r t = absurd t
    entries_told es (n ∷ ns) [] r t = absurd t
    entries_told es (n ∷ ns) (id ∷ ids) r t = λ i. entry_told es n id r.0 t.0 i ∷ entries_told es ns ids r.1 t.1 i

    end_told : (is : List InstructionMap) (i : Instruction) (x : MappedInstruction) → HasEnd s (map_scope st) is (instruction_name i) → IsEnd s a g is (instruction_name i) x
        → val (tree g x.commit) p ≡ truth_value (commit_holds st v (instruction_map is (instruction_name i)))
    end_told is i x r t =
        let same : r.entry ≡ t.entry = some_same (sym r.is_entry ∙ t.is_entry) in
        condition_told t.entry.commit x.commit (subst (λ (y : InstructionMap). IsReadable s (map_scope st) y.commit) same r.commit) t.is_term
        ∙ ap (λ o. truth_value (commit_holds st v o)) (sym t.is_entry)

    pub ends_told : (is : List InstructionMap) (js : List Instruction) (xs : List MappedInstruction) → HaveEnds s (map_scope st) is (map instruction_name js)
        → AreEnds s a g is (map instruction_name js) xs
        → map (λ (x : MappedInstruction). val (tree g x.commit) p) xs ≡ map (λ i. truth_value (commit_holds st v (instruction_map is (instruction_name i)))) js
    ends_told is [] [] r t = refl
    ends_told is [] (x ∷ xs) r t = absurd t
    ends_told is (j ∷ js) [] r t = absurd t
    ends_told is (j ∷ js) (x ∷ xs) r t = λ i. end_told is j x r.0 t.0 i ∷ ends_told is js xs r.1 t.1 i

  -- entries of states are the mapped states
  pub states_mapped : (v : Valuation) (ds : List StateDeclaration)
      → ((d : StateDeclaration) → IsAmong ds d → sort_of_state (state_named (states_of st.model.top) d.state_name) ≡ Some d.sort)
      → map (λ n. mapped_or_zero st v (Some n.1) (entry_of st.map.states n.0)) (sorts_of_states ds) ≡ map (λ d. mapped_state st v d.state_name) ds
  states_mapped v [] h = refl
  states_mapped v (d ∷ ds) h =
      λ i. ap (λ o. mapped_or_zero st v o (entry_of st.map.states d.state_name)) (sym (h d (inl refl))) i ∷ states_mapped v ds (λ x k. h x (inr k)) i

  pub inputs_mapped : (v : Valuation) (is : List InputDeclaration)
      → ((d : InputDeclaration) → IsAmong is d → sort_of_input st.model.inputs d.input_name ≡ Some d.sort)
      → map (λ n. mapped_or_zero st v (Some n.1) (entry_of st.map.inputs n.0)) (sorts_of_inputs is) ≡ map (λ d. mapped_inputs st v d.input_name) is
  inputs_mapped v [] h = refl
  inputs_mapped v (d ∷ ds) h =
      λ i. ap (λ o. mapped_or_zero st v o (entry_of st.map.inputs d.input_name)) (sym (h d (inl refl))) i ∷ inputs_mapped v ds (λ x k. h x (inr k)) i

  pub bounds_told : (a : Images) (g : Graph) (js : List Instruction) (xs : List MappedInstruction) → AreEnds s a g st.map.instructions (map instruction_name js) xs
      → map (λ (x : MappedInstruction). x.bound) xs ≡ map (λ i. bound_named st.map (instruction_name i)) js
  bounds_told a g [] [] t = refl
  bounds_told a g [] (x ∷ xs) t = absurd t
  bounds_told a g (j ∷ js) [] t = absurd t
  bounds_told a g (j ∷ js) (x ∷ xs) t = λ i. (t.0.bound ∙ ap bound_in (sym t.0.is_entry)) i ∷ bounds_told a g js xs t.1 i
