-- A store that is ready, made of a run and of the model's step at its first cycle.
use Rattle.std.proofs.Common.{◌≡◌, ℕ, zero, suc, ◌<◌, Bool, true, false, cond, ◌&&◌, nat_lt, is_none, map, List, [], ◌∷◌, length, get_or, Option, Some, None, option_map, refl, sym, ap, ◌∙◌, subst, arith}
use Rattle.std.specs.Prelude.{◌==◌, slice_get, IsTrue, IfOk, Result, Ok, Err}
use Rattle.std.specs.Global.{Global}
use Rattle.std.specs.declared.vec.Vec.{Vec}
use Rattle.std.proofs.lemmas.Bool.{false≢true}
use Rattle.std.proofs.lemmas.Bool.Decides.{nat_tests}
use Rattle.std.proofs.lemmas.List.{length-map}
use Rattle.std.proofs.lemmas.Option.{slice_get_read}
use Rattle.wb_values.specs.Value.{Name, same_name, Sort, truth, word, memory, Value, number, Entries, entry_of, Valuation, HasSort, is_of_sort}
use Rattle.model_meaning.specs.Term.{val}
use Rattle.model_meaning.specs.Model.{Model, StateDeclaration, states_of}
use Rattle.model_meaning.specs.Instruction.{IsStarted}
use Rattle.wb_terms.specs.declared.values.Value.{Value as CodeValue}
use Rattle.wb_terms.specs.declared.nodes.TermId.{TermId}
use Rattle.wb_terms.specs.Graph.{Graph, tree, HasDistinctNames}
use Rattle.wb_terms.specs.Environment.{as_value}
use Rattle.term_copies.specs.Copies.{IsExtended, id_at, copy_of, declared_at}
use Rattle.ila_model.specs.declared.model.IlaModel.{IlaModel}
use Rattle.ila_model.specs.Sorted.{are_distinct, are_states, is_top_initial}
use Rattle.ila_model.specs.Meaning.{declared_states}
use Rattle.ila_model.specs.Model.{model_of}
use Rattle.ila_model.proofs.Declarations.{sorted}
use Rattle.ila_child.specs.State.{sorts_of_states, sorts_of_inputs, state_valuation, input_valuation}
use Rattle.v_design.specs.Parts.{Parts, registers_of, inputs_of, value_in, are_terms_of}
use Rattle.mapped_designs.specs.declared.design.MappedDesign.{MappedDesign}
use Rattle.mapped_designs.specs.Mapped.{Mapped, IsSortedFor}
use Rattle.mapped_designs.specs.View.{mapped_of}
use Rattle.mapped_designs.specs.Runs.{IsRestZero, registers_at, zero_inputs, worth_at, worth_of_registers_at}
use Rattle.run_terms.specs.declared.unrolling.RunTerms.{RunTerms}
use Rattle.run_terms.specs.Names.{FitsNames, values_of_run, values_from, first_input}
use Rattle.run_terms.specs.Leaves.{AreBelow}
use Rattle.run_terms.specs.Worth.{AreWorth, AreWorthAll}
use Rattle.run_terms.specs.Unrolled.{IsUnrolled}
use Rattle.run_terms.proofs.Copied.{found_worth, found_below}
use Rattle.run_terms.proofs.Values.{fits_before, AreWorth-kept, AreWorthAll-kept, AreWorthAll-same}
use Rattle.condition_terms.specs.Told.{AreAllOfSorts, Tells}
use Rattle.condition_terms.proofs.Forming.{Tells-same}
use Rattle.model_terms.specs.Symbolic.{worths}
use Rattle.model_terms.specs.Terms.{state_under, inputs_under, AreTermsOf}
use Rattle.model_terms.specs.declared.putting.ModelTerms.{ModelTerms}
use Rattle.fact_terms.specs.Shown.{first_state, first_inputs}
use Rattle.fact_terms.specs.Ready.{AreShown, IsReadyFor}
use Rattle.fact_terms.proofs.Growing.{ready_kept}
use Rattle.fact_terms.proofs.Rows.{some_same}
use Rattle.obligation_terms.specs.Rest.{AreTermsFor}
use Rattle.obligation_terms.proofs.Stepping.{told_value, moved, instruction_shown}

-- ---- what each model keeps

and_parts : (a b : Bool) → (a && b) ≡ true → (a ≡ true) × (b ≡ true)
and_parts true b h = (refl, h)
and_parts false b h = absurd (false≢true h)

no_value : {A : Type 0} (o : Option A) → is_none o ≡ true → o ≡ None
no_value None h = refl
no_value (Some x) h = absurd (false≢true h)

differs : (t : Bool) (s : Sort) (o : Option Sort) → cond t (Some s) o ≡ None → (t ≡ false) × (o ≡ None)
differs true s o h = cc
differs false s o h = (refl, h)

absent_state : (ns : Entries Sort) (is : List (Option CodeValue)) (x : Name) → entry_of ns x ≡ None → entry_of (sorts_of_states (declared_states ns is)) x ≡ None
absent_state [] is x e = refl
absent_state (n ∷ ns) [] x e = refl
absent_state (n ∷ ns) (i ∷ is) x e =
    let d = differs (same_name n.0 x) n.1 (entry_of ns x) e in
    ap (λ t. cond t (Some n.1) (entry_of (sorts_of_states (declared_states ns is)) x)) d.0 ∙ absent_state ns is x d.1

distinct_states : (ns : Entries Sort) (is : List (Option CodeValue)) → are_distinct ns ≡ true → HasDistinctNames (sorts_of_states (declared_states ns is))
distinct_states [] is h = tt
distinct_states (n ∷ ns) [] h = tt
distinct_states (n ∷ ns) (i ∷ is) h =
    let p = and_parts (is_none (entry_of ns n.0)) (are_distinct ns) h in
    (absent_state ns is n.0 (no_value (entry_of ns n.0) p.0), distinct_states ns is p.1)

pub states_apart : (m : IlaModel) → HasDistinctNames (sorts_of_states (states_of (model_of m).top))
states_apart m = distinct_states m.parts.terms.names m.parts.initial_values.items (sorted m.parts m.well_sorted).distinct

stated_sort : (s : Sort) (i : Option CodeValue) (y : Value) → is_top_initial s i ≡ true → option_map as_value i ≡ Some y → HasSort y s
stated_sort s None y h e = absurd (cc)
stated_sort truth (Some x) y h e = subst (λ z. is_of_sort truth z ≡ true) (some_same (as_value x) y e) h
stated_sort (word w) (Some x) y h e = subst (λ z. is_of_sort (word w) z ≡ true) (some_same (as_value x) y e) h
stated_sort (memory a d) (Some x) y h e = absurd (false≢true h)

initial_sort : (ns : Entries Sort) (is : List (Option CodeValue)) (k : ℕ) (d : StateDeclaration) (y : Value) → are_states false ns is ≡ true → slice_get (declared_states ns is) k ≡ Some d → d.init ≡ Some y
    → HasSort y d.sort
initial_sort [] is k d y h e i = absurd (cc)
initial_sort (n ∷ ns) [] k d y h e i = absurd (cc)
initial_sort (n ∷ ns) (j ∷ is) zero d y h e i =
    let p = and_parts (is_top_initial n.1 j) (are_states false ns is) h in
    let first : StateDeclaration = record { state_name = n.0; sort = n.1; init = option_map as_value j } in
    let same : first ≡ d = some_same first d e in
    subst (λ s. HasSort y s) (ap (λ (z : StateDeclaration). z.sort) same) (stated_sort n.1 j y p.0 (ap (λ (z : StateDeclaration). z.init) same ∙ i))
initial_sort (n ∷ ns) (j ∷ is) (suc k) d y h e i = initial_sort ns is k d y (and_parts (is_top_initial n.1 j) (are_states false ns is) h).1 e i

pub initial_fits : (m : IlaModel) (k : ℕ) (d : StateDeclaration) (y : Value) → slice_get (states_of (model_of m).top) k ≡ Some d → d.init ≡ Some y → HasSort y d.sort
initial_fits m k d y e i = initial_sort m.parts.terms.names m.parts.initial_values.items k d y (sorted m.parts m.well_sorted).declared.states e i

-- ---- lists of terms and what they are worth

same_lists : (xs ys : List Value) → length xs ≡ length ys → ((k : ℕ) → k < length xs → get_or xs k (number 0) ≡ get_or ys k (number 0)) → xs ≡ ys
same_lists [] [] e h = refl
same_lists [] (y ∷ ys) e h = absurd (omega (arith, e))
same_lists (x ∷ xs) [] e h = absurd (omega (arith, e))
same_lists (x ∷ xs) (y ∷ ys) e h =
    let head : x ≡ y = h 0 (omega arith) in
    let rest : xs ≡ ys = same_lists xs ys (omega (arith, e)) (λ k b. h (suc k) (omega (arith, b))) in
    (λ i. head i ∷ rest i)

worth_at_place : (g : Graph) (ids : List TermId) (v : Valuation) (k : ℕ) → k < length ids → get_or (worths g ids v) k (number 0) ≡ val (tree g (id_at ids k)) v
worth_at_place g [] v k b = absurd (omega (arith, b))
worth_at_place g (x ∷ ids) v zero b = refl
worth_at_place g (x ∷ ids) v (suc k) b = worth_at_place g ids v k (omega (arith, b))

pub worths_are : (g : Graph) (ns : Entries Sort) (ids : List TermId) (m : Valuation → List Value) (v : Valuation) → AreWorth g ns ids m → FitsNames g.names v → worths g ids v ≡ m v
worths_are g ns ids m v w f =
    let count : length (worths g ids v) ≡ length ids = length-map ids (λ (id : TermId). val (tree g id.0) v) in
    same_lists (worths g ids v) (m v) (count ∙ (w.count ∙ sym (w.values v)))
    (λ k b. worth_at_place g ids v k (omega (arith, b, count)) ∙ (w.each k (omega (arith, b, count, w.count))).value v f)

pub terms_for : (g : Graph) (ns : Entries Sort) (ids : List TermId) (m : Valuation → List Value) → AreAllOfSorts g → AreWorth g ns ids m → AreTermsFor g ns ids
terms_for g ns ids m a w = record { count = w.count; each = λ k b. a (id_at ids k) (declared_at ns k).1 (w.each k b).below (w.each k b).sort }

all_shown : (g source : Graph) (ids : List TermId) (m : Valuation → ℕ → Value) → AreAllOfSorts g → AreWorthAll g source ids m → AreShown g source ids m
all_shown g source ids m a w = record {
  count = w.count;
  each = λ k s b e. (let x = w.each k s b e in record { of_sort = a (id_at ids k) s x.below x.sort; value = x.value });
}

-- ---- what the map says of the first cycle

pub states_worth : (m : Model) (x : MappedDesign) (n : ℕ) (r : RunTerms) (found : List TermId) (row : Vec TermId Global) → IsSortedFor m (mapped_of x) → IsUnrolled (mapped_of x).parts n r
    → row ≡ get_or r.shown.items 0 row → found ≡ map (copy_of row.items) x.states.items
    → AreWorth r.terms (sorts_of_states (states_of m.top)) found (λ v. map (worth_of_registers_at (mapped_of x).parts (values_of_run (mapped_of x).parts n v) 0) (mapped_of x).states)
states_worth m x n r found row s u i o =
    let d = (mapped_of x).parts in
    let at = slice_get_read r.shown.items (length r.shown.items) 0 row refl (omega (arith, u.one_more)) i in
    subst (λ (ids : List TermId). AreWorth r.terms (sorts_of_states (states_of m.top)) ids (λ v. map (worth_of_registers_at d (values_of_run d n v) 0) (mapped_of x).states)) (sym o)
    (found_worth r.terms d.graph (sorts_of_states (states_of m.top)) row.items x.states.items (λ v k. worth_of_registers_at d (values_of_run d n v) 0 k) s.states (u.shown 0 row at))

pub inputs_worth : (m : Model) (x : MappedDesign) (n : ℕ) (r : RunTerms) (found : List TermId) (row : Vec TermId Global) → IsSortedFor m (mapped_of x) → IsUnrolled (mapped_of x).parts n r
    → 0 < length r.read.items → row ≡ get_or r.read.items 0 row → found ≡ map (copy_of row.items) x.inputs.items
    → AreWorth r.terms (sorts_of_inputs m.inputs) found (λ v. map (worth_at (mapped_of x).parts (values_of_run (mapped_of x).parts n v) 0) (mapped_of x).inputs)
inputs_worth m x n r found row s u b i o =
    let d = (mapped_of x).parts in
    let at = slice_get_read r.read.items (length r.read.items) 0 row refl b i in
    subst (λ (ids : List TermId). AreWorth r.terms (sorts_of_inputs m.inputs) ids (λ v. map (worth_at d (values_of_run d n v) 0) (mapped_of x).inputs)) (sym o)
    (found_worth r.terms d.graph (sorts_of_inputs m.inputs) row.items x.inputs.items (λ v k. worth_at d (values_of_run d n v) 0 k) s.inputs (u.read 0 row at))

-- a run of no cycle has inputs that are 0
no_cycle : (d : Parts) (n k : ℕ) (v : Valuation) → n ≡ 0 → worth_of_registers_at d (values_of_run d n v) 0 k ≡ worth_at d (values_of_run d n v) 0 k
no_cycle d n k v e =
    let p : nat_lt 0 n ≡ false = ap (nat_lt 0) e in
    ap (λ (b : Bool). value_in d (registers_at d (values_of_run d n v) 0) (cond b (values_from (first_input d 0) (inputs_of d) v) (zero_inputs d)) k) (sym p)

pub zeros_worth : (m : Model) (x : MappedDesign) (n : ℕ) (r : RunTerms) (found : List TermId) (row : Vec TermId Global) → IsSortedFor m (mapped_of x) → IsUnrolled (mapped_of x).parts n r
    → length r.read.items ≡ 0 → row ≡ get_or r.shown.items 0 row → found ≡ map (copy_of row.items) x.inputs.items
    → AreWorth r.terms (sorts_of_inputs m.inputs) found (λ v. map (worth_at (mapped_of x).parts (values_of_run (mapped_of x).parts n v) 0) (mapped_of x).inputs)
zeros_worth m x n r found row s u z i o =
    let d = (mapped_of x).parts in
    let at = slice_get_read r.shown.items (length r.shown.items) 0 row refl (omega (arith, u.one_more)) i in
    let none : n ≡ 0 = omega (arith, u.each_cycle, z) in
    subst (λ (ids : List TermId). AreWorth r.terms (sorts_of_inputs m.inputs) ids (λ v. map (worth_at d (values_of_run d n v) 0) (mapped_of x).inputs)) (sym o)
    (found_worth r.terms d.graph (sorts_of_inputs m.inputs) row.items x.inputs.items (λ v k. worth_at d (values_of_run d n v) 0 k) s.inputs
    (AreWorthAll-same d.graph row.items (λ v k. worth_of_registers_at d (values_of_run d n v) 0 k) (λ v k. worth_at d (values_of_run d n v) 0 k) (λ v k. no_cycle d n k v none) (u.shown 0 row at)))

-- the rows have the terms that are read from them
pub shown_covers : (x : MappedDesign) (n : ℕ) (r : RunTerms) (ns : Entries Sort) (ids : List TermId) (row : Vec TermId Global) → IsUnrolled (mapped_of x).parts n r
    → IsTrue (are_terms_of (mapped_of x).parts.graph ns (map (λ (id : TermId). id.0) ids)) → row ≡ get_or r.shown.items 0 row → AreBelow (length row.items) ids
shown_covers x n r ns ids row u t i =
    let at = slice_get_read r.shown.items (length r.shown.items) 0 row refl (omega (arith, u.one_more)) i in
    found_below (mapped_of x).parts.graph ns ids (length row.items) t (u.shown 0 row at).count

pub read_covers : (x : MappedDesign) (n : ℕ) (r : RunTerms) (ns : Entries Sort) (ids : List TermId) (row : Vec TermId Global) → IsUnrolled (mapped_of x).parts n r
    → IsTrue (are_terms_of (mapped_of x).parts.graph ns (map (λ (id : TermId). id.0) ids)) → 0 < length r.read.items → row ≡ get_or r.read.items 0 row → AreBelow (length row.items) ids
read_covers x n r ns ids row u t b i =
    let at = slice_get_read r.read.items (length r.read.items) 0 row refl b i in
    found_below (mapped_of x).parts.graph ns ids (length row.items) t (u.read 0 row at).count

-- ---- the whole store

ready_there : {k : Graph} (m : Model) (e : Mapped) (n : ℕ) (r : RunTerms) (states inputs : List TermId) (t : ModelTerms) → IsSortedFor m e → HasDistinctNames (sorts_of_states (states_of m.top))
    → ((j : ℕ) (d : StateDeclaration) (y : Value) → slice_get (states_of m.top) j ≡ Some d → d.init ≡ Some y → HasSort y d.sort) → IsUnrolled e.parts n r → IsExtended r.terms k → AreAllOfSorts k
    → AreWorth r.terms (sorts_of_states (states_of m.top)) states (λ v. map (worth_of_registers_at e.parts (values_of_run e.parts n v) 0) e.states)
    → AreWorth r.terms (sorts_of_inputs m.inputs) inputs (λ v. map (worth_at e.parts (values_of_run e.parts n v) 0) e.inputs)
    → AreTermsOf m k states inputs t → IsReadyFor m e n k r.read.items r.shown.items t
ready_there {k} m e n r states inputs t sorts apart begin u x a ws wi w =
    let ss = sorts_of_states (states_of m.top) in
    let is = sorts_of_inputs m.inputs in
    let shown : Valuation → List Value = λ v. map (worth_of_registers_at e.parts (values_of_run e.parts n v) 0) e.states in
    let read : Valuation → List Value = λ v. map (worth_at e.parts (values_of_run e.parts n v) 0) e.inputs in
    let at_states : (v : Valuation) → FitsNames k.names v → state_under m k states v ≡ first_state m e n v = λ v f. ap (state_valuation m) (worths_are k ss states shown v (AreWorth-kept ss states shown x ws) f) in
    let at_inputs : (v : Valuation) → FitsNames k.names v → inputs_under m k inputs v ≡ first_inputs m e n v = λ v f. ap (input_valuation m) (worths_are k is inputs read v (AreWorth-kept is inputs read x wi) f) in
    record {
      sorted = sorts;
      names = x.names ∙ u.names;
      distinct = apart;
      initial = begin;
      each_cycle = u.each_cycle;
      read = λ c row i. all_shown k e.parts.graph row.items (λ v j. worth_at e.parts (values_of_run e.parts n v) c j) a
          (AreWorthAll-kept e.parts.graph row.items (λ v j. worth_at e.parts (values_of_run e.parts n v) c j) x (u.read c row i));
      one_more = u.one_more;
      shown = λ c row i. all_shown k e.parts.graph row.items (λ v j. worth_of_registers_at e.parts (values_of_run e.parts n v) c j) a
          (AreWorthAll-kept e.parts.graph row.items (λ v j. worth_of_registers_at e.parts (values_of_run e.parts n v) c j) x (u.shown c row i));
      started = told_value t.started.0 (λ v. (j : ℕ) × IsStarted m (first_state m e n v) (first_inputs m e n v) j) (a t.started.0 truth w.started.below w.started.sort)
          (λ v f. (
            λ p. moved (λ q y. (j : ℕ) × IsStarted m q y j) (at_states v f) (at_inputs v f) ((w.started_value v).0 p),
            λ p. (w.started_value v).1 (moved (λ q y. (j : ℕ) × IsStarted m q y j) (sym (at_states v f)) (sym (at_inputs v f)) p),
          ));
      counted = w.count;
      instructions = λ j i s y z. instruction_shown m e n states inputs i s a at_states at_inputs (w.instruction j i s y z);
    }

pub is_ready : {k h : Graph} (model : IlaModel) (e : Mapped) (n : ℕ) (r : RunTerms) (states inputs : List TermId) (t : ModelTerms) → IsSortedFor (model_of model) e → IsUnrolled e.parts n r
    → IsExtended r.terms k → AreAllOfSorts k → IsExtended k h
    → AreWorth r.terms (sorts_of_states (states_of (model_of model).top)) states (λ v. map (worth_of_registers_at e.parts (values_of_run e.parts n v) 0) e.states)
    → AreWorth r.terms (sorts_of_inputs (model_of model).inputs) inputs (λ v. map (worth_at e.parts (values_of_run e.parts n v) 0) e.inputs)
    → AreTermsOf (model_of model) k states inputs t → IsReadyFor (model_of model) e n h r.read.items r.shown.items t
is_ready {k} {h} model e n r states inputs t sorts u x a y ws wi w =
    ready_kept (model_of model) e n r.read.items r.shown.items t y
    (ready_there (model_of model) e n r states inputs t sorts (states_apart model) (initial_fits model) u x a ws wi w)

-- the registers of the run are its first ones
pub registers_for : {k : Graph} (d : Parts) (n : ℕ) (r : RunTerms) → IsUnrolled d n r → IsExtended r.terms k → AreAllOfSorts k → AreTermsFor k (registers_of d) r.registers.items
registers_for {k} d n r u x a =
    let first : Valuation → List Value = λ v. (values_of_run d n v).first in
    terms_for k (registers_of d) r.registers.items first a (AreWorth-kept (registers_of d) r.registers.items first x u.registers)

pub rest_is : {k h : Graph} (id : ℕ) (d : Parts) (n : ℕ) (r : RunTerms) → IsUnrolled d n r → IsExtended r.terms k → IsExtended k h → Tells h id (λ v. IsRestZero d (worths k r.registers.items v))
    → Tells h id (λ v. IsRestZero d (values_of_run d n v).first)
rest_is {k} {h} id d n r u x y t =
    let first : Valuation → List Value = λ v. (values_of_run d n v).first in
    let same : (v : Valuation) → FitsNames h.names v → worths k r.registers.items v ≡ first v = λ v f.
    worths_are k (registers_of d) r.registers.items first v (AreWorth-kept (registers_of d) r.registers.items first x u.registers) (fits_before v y f) in
    Tells-same id (λ v. IsRestZero d (worths k r.registers.items v)) (λ v. IsRestZero d (first v)) (λ v f. (λ z. subst (IsRestZero d) (same v f) z, λ z. subst (IsRestZero d) (sym (same v f)) z)) t

-- what is so of the terms found is so of the answer
found_same : {E : Type 0} (P : List TermId → Type 0) (r : Result (Vec TermId Global) E) (row xs ids ys : List TermId) → row ≡ xs → ids ≡ ys → IfOk r (λ found. found.items ≡ map (copy_of row) ids)
    → ((found : List TermId) → found ≡ map (copy_of xs) ys → P found) → IfOk r (λ found. P found.items)
found_same P (Ok found) row xs ids ys a b e h = h found.items (e ∙ (λ i. map (copy_of (a i)) (b i)))
found_same P (Err error) row xs ids ys a b e h = tt

-- what the states of each model are mapped to at the first cycle
abbrev pub AreFirstStates : MappedDesign → RunTerms → List TermId → Type 0
AreFirstStates x r found = (m : Model) (n : ℕ) → IsSortedFor m (mapped_of x) → IsUnrolled (mapped_of x).parts n r
    → AreWorth r.terms (sorts_of_states (states_of m.top)) found (λ v. map (worth_of_registers_at (mapped_of x).parts (values_of_run (mapped_of x).parts n v) 0) (mapped_of x).states)

abbrev pub AreFirstInputs : MappedDesign → RunTerms → List TermId → Type 0
AreFirstInputs x r found = (m : Model) (n : ℕ) → IsSortedFor m (mapped_of x) → IsUnrolled (mapped_of x).parts n r
    → AreWorth r.terms (sorts_of_inputs m.inputs) found (λ v. map (worth_at (mapped_of x).parts (values_of_run (mapped_of x).parts n v) 0) (mapped_of x).inputs)

pub states_found : {E : Type 0} (x : MappedDesign) (r : RunTerms) (result : Result (Vec TermId Global) E) (row : Vec TermId Global) (xs ids : List TermId) → xs ≡ row.items → ids ≡ x.states.items
    → row ≡ get_or r.shown.items 0 row → IfOk result (λ found. found.items ≡ map (copy_of xs) ids) → IfOk result (λ found. AreFirstStates x r found.items)
states_found x r result row xs ids a b i e =
    found_same (AreFirstStates x r) result xs row.items ids x.states.items a b e (λ found o m n s u. states_worth m x n r found row s u i o)

pub inputs_found : {E : Type 0} (x : MappedDesign) (r : RunTerms) (result : Result (Vec TermId Global) E) (row : Vec TermId Global) (xs ids : List TermId) → xs ≡ row.items → ids ≡ x.inputs.items
    → 0 < length r.read.items → row ≡ get_or r.read.items 0 row → IfOk result (λ found. found.items ≡ map (copy_of xs) ids) → IfOk result (λ found. AreFirstInputs x r found.items)
inputs_found x r result row xs ids a b l i e =
    found_same (AreFirstInputs x r) result xs row.items ids x.inputs.items a b e (λ found o m n s u. inputs_worth m x n r found row s u l i o)

pub zeros_found : {E : Type 0} (x : MappedDesign) (r : RunTerms) (result : Result (Vec TermId Global) E) (row : Vec TermId Global) (xs ids : List TermId) → xs ≡ row.items → ids ≡ x.inputs.items
    → length r.read.items ≡ 0 → row ≡ get_or r.shown.items 0 row → IfOk result (λ found. found.items ≡ map (copy_of xs) ids) → IfOk result (λ found. AreFirstInputs x r found.items)
zeros_found x r result row xs ids a b z i e =
    found_same (AreFirstInputs x r) result xs row.items ids x.inputs.items a b e (λ found o m n s u. zeros_worth m x n r found row s u z i o)

pub none_there : (n k : ℕ) → n ≡ k → (k == 0) ≡ true → n ≡ 0
none_there n k e h = grind (arith, nat_tests)

pub some_there : (n k : ℕ) → n ≡ k → (k == 0) ≡ false → 0 < n
some_there n k e h = grind (arith, nat_tests)
