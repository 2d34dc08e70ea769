-- States by their names, and facts on them.
use Rattle.std.proofs.Common.{◌≡◌, ◌∙◌, ◌<◌, ℕ, zero, suc, Bool, true, false, cond, ◌&&◌, is_none, List, [], ◌∷◌, length, get_or, Option, Some, None, option_map, refl, sym, ap, subst, arith}
use Rattle.std.specs.Prelude.{IsTrue, slice_get, ◌↔◌}
use Rattle.std.proofs.lemmas.Bool.{and_parts, false≢true}
use Rattle.std.proofs.lemmas.Cmp.{nat_list_eq_equiv}
use Rattle.std.proofs.lemmas.Option.{none-some, same_Some}
use Rattle.wb_values.specs.Value as meaning
use Rattle.wb_values.specs.Value.{Name, Sort, Entries, same_name, entry_of, value_or_zero, valuation_of}
use Rattle.model_meaning.specs.Model.{Model, StateDeclaration, states_of, state_named}
use Rattle.refinement.specs.Obligation.{initial, same}
use Rattle.wb_terms.specs.declared.values.Value.{Value}
use Rattle.wb_terms.specs.Graph.{HasDistinctNames}
use Rattle.wb_terms.specs.Environment.{AreOfSorts, values_by_name}
use Rattle.ila_model.specs.declared.model.IlaModel.{IlaModel}
use Rattle.ila_model.specs.Sorted.{are_distinct}
use Rattle.ila_model.specs.Meaning.{declared_states}
use Rattle.ila_model.specs.Model.{model_of}
use Rattle.ila_model.proofs.Declarations.{sorted}
use Rattle.ila_child.specs.State.{IsStateOf, sorts_of_states, state_valuation}
use Rattle.mapped_designs.specs.Mapped.{Mapped}
use Rattle.mapped_designs.specs.Runs.{Values, Shows, shown_state}
use Rattle.shown_facts.specs.declared.seen.Seen.{Seen}
use Rattle.shown_facts.specs.Noted.{IsSeenAt}

-- ---- distinct names

differs : {A : Type 0} (t : Bool) (s : A) (o : Option A) → cond t (Some s) o ≡ None → (t ≡ false) × (o ≡ None)
differs true s o h = absurd (none-some s (sym h))
differs false s o h = (refl, h)

no_value : {A : Type 0} (o : Option A) → is_none o ≡ true → o ≡ None
no_value None h = refl
no_value (Some x) h = absurd (false≢true h)

absent_state : (ns : Entries Sort) (is : List (Option Value)) (x : Name) → entry_of ns x ≡ None → entry_of (sorts_of_states (declared_states ns is)) x ≡ None
absent_state [] is x e = refl
absent_state (n ∷ ns) [] x e = refl
absent_state (n ∷ ns) (i ∷ is) x e =
    let d = differs (same_name n.0 x) n.1 (entry_of ns x) e in
    ap (λ t. cond t (Some n.1) (entry_of (sorts_of_states (declared_states ns is)) x)) d.0 ∙ absent_state ns is x d.1

distinct_states : (ns : Entries Sort) (is : List (Option Value)) → are_distinct ns ≡ true → HasDistinctNames (sorts_of_states (declared_states ns is))
distinct_states [] is h = tt
distinct_states (n ∷ ns) [] h = tt
distinct_states (n ∷ ns) (i ∷ is) h =
    let p = and_parts (is_none (entry_of ns n.0)) (are_distinct ns) h in
    (absent_state ns is n.0 (no_value (entry_of ns n.0) p.0), distinct_states ns is p.1)

-- the states of a model have distinct names
pub states_apart : (m : IlaModel) → HasDistinctNames (sorts_of_states (states_of (model_of m).top))
states_apart m = distinct_states m.parts.terms.names m.parts.initial_values.items (sorted m.parts m.well_sorted).distinct

absent : (ss : List StateDeclaration) (n : Name) (k : ℕ) (d : StateDeclaration) → entry_of (sorts_of_states ss) n ≡ None → slice_get ss k ≡ Some d → same_name d.state_name n ≡ false
absent [] n k d h e = absurd (none-some d e)
absent (s ∷ ss) n zero d h e =
    subst (λ (x : StateDeclaration). same_name x.state_name n ≡ false) (same_Some s d e) (differs (same_name s.state_name n) s.sort (entry_of (sorts_of_states ss) n) h).0
absent (s ∷ ss) n (suc k) d h e = absent ss n k d (differs (same_name s.state_name n) s.sort (entry_of (sorts_of_states ss) n) h).1 e

-- a state is found under its name
named_at : (ss : List StateDeclaration) (k : ℕ) (d : StateDeclaration) → HasDistinctNames (sorts_of_states ss) → slice_get ss k ≡ Some d → state_named ss d.state_name ≡ Some d
named_at [] k d h e = absurd (none-some d e)
named_at (s ∷ ss) zero d h e =
    subst (λ (x : StateDeclaration). state_named (s ∷ ss) x.state_name ≡ Some x) (same_Some s d e)
    (ap (λ t. cond t (Some s) (state_named ss s.state_name)) (nat_list_eq_equiv.refl s.state_name))
named_at (s ∷ ss) (suc k) d h e =
    let other : same_name s.state_name d.state_name ≡ false = nat_list_eq_equiv.symm s.state_name d.state_name ∙ absent ss s.state_name k d h.0 e in
    ap (λ t. cond t (Some s) (state_named ss d.state_name)) other ∙ named_at ss k d h.1 e

-- ---- values of states

-- the value of a state's name is that at its place
value_named : (ss : List StateDeclaration) (xs : List meaning.Value) (k : ℕ) (d : StateDeclaration) (y : meaning.Value) → HasDistinctNames (sorts_of_states ss)
    → slice_get ss k ≡ Some d → slice_get xs k ≡ Some y → valuation_of (values_by_name (sorts_of_states ss) xs) d.state_name ≡ y
value_named [] xs k d y h s e = absurd (none-some d s)
value_named (z ∷ ss) [] k d y h s e = absurd (none-some y e)
value_named (z ∷ ss) (x ∷ xs) zero d y h s e =
    let own : same_name z.state_name d.state_name ≡ true = subst (λ (q : StateDeclaration). same_name z.state_name q.state_name ≡ true) (same_Some z d s) (nat_list_eq_equiv.refl z.state_name) in
    ap (λ t. value_or_zero (cond t (Some x) (entry_of (values_by_name (sorts_of_states ss) xs) d.state_name))) own ∙ same_Some x y e
value_named (z ∷ ss) (x ∷ xs) (suc k) d y h s e =
    let other : same_name z.state_name d.state_name ≡ false = nat_list_eq_equiv.symm z.state_name d.state_name ∙ absent ss z.state_name k d h.0 s in
    ap (λ t. value_or_zero (cond t (Some x) (entry_of (values_by_name (sorts_of_states ss) xs) d.state_name))) other ∙ value_named ss xs k d y h.1 s e

-- the value that is read at a place
pub value_at : (xs : List meaning.Value) (k : ℕ) (d : meaning.Value) → k < length xs → slice_get xs k ≡ Some (get_or xs k d)
value_at [] k d b = absurd (omega (arith, b))
value_at (x ∷ xs) zero d b = refl
value_at (x ∷ xs) (suc k) d b = value_at xs k d (omega arith)

-- a state that is told to stand at a place
there_named : (o : Option StateDeclaration) (n : Name) → option_map (λ (s : StateDeclaration). s.state_name) o ≡ Some n → (d : StateDeclaration) × (o ≡ Some d) × (d.state_name ≡ n)
there_named None n h = absurd (none-some n h)
there_named (Some d) n h = (d, refl, same_Some d.state_name n h)

pub place_within : (ss : List StateDeclaration) (k : ℕ) (n : Name) → option_map (λ (s : StateDeclaration). s.state_name) (slice_get ss k) ≡ Some n → k < length ss
place_within [] k n e = absurd (none-some n e)
place_within (s ∷ ss) zero n e = omega arith
place_within (s ∷ ss) (suc k) n e = omega (arith, place_within ss k n e)

sorted_count : (ss : List StateDeclaration) (xs : List meaning.Value) → AreOfSorts (sorts_of_states ss) xs → length xs ≡ length ss
sorted_count [] [] h = refl
sorted_count [] (x ∷ xs) h = absurd h
sorted_count (s ∷ ss) [] h = absurd h
sorted_count (s ∷ ss) (x ∷ xs) h = ap suc (sorted_count ss xs h.1)

-- the place of a state is one of the values of a state of the model
pub within_values : (m : Model) (xs ys : List meaning.Value) (k : ℕ) (n : Name) → ys ≡ xs → IsStateOf m xs
    → option_map (λ (s : StateDeclaration). s.state_name) (slice_get (states_of m.top) k) ≡ Some n → k < length ys
within_values m xs ys k n are sorted e =
    let a = place_within (states_of m.top) k n e in
    let b = sorted_count (states_of m.top) xs sorted in
    omega (arith, a, b, ap length are)

-- the value of a state, by its place and its name
pub value_there : (m : Model) (xs : List meaning.Value) (k : ℕ) (n : Name) (y : meaning.Value) → HasDistinctNames (sorts_of_states (states_of m.top))
    → option_map (λ (s : StateDeclaration). s.state_name) (slice_get (states_of m.top) k) ≡ Some n → slice_get xs k ≡ Some y → state_valuation m xs n ≡ y
value_there m xs k n y distinct named e =
    let d = there_named (slice_get (states_of m.top) k) n named in
    subst (λ c. state_valuation m xs c ≡ y) d.2 (value_named (states_of m.top) xs k d.0 y distinct d.1 e)

-- the same in the mapped state at a cycle
pub shown_there : (m : Model) (e : Mapped) (x : Values) (t : ℕ) (seen : Seen) (k : ℕ) (n : Name) (y : meaning.Value) → HasDistinctNames (sorts_of_states (states_of m.top))
    → IsSeenAt m e x t seen → option_map (λ (s : StateDeclaration). s.state_name) (slice_get (states_of m.top) k) ≡ Some n → slice_get seen.state k ≡ Some y
    → shown_state m e x t n ≡ y
shown_there m e x t seen k n y distinct h named at =
    subst (λ xs. state_valuation m xs n ≡ y) h.state_is (value_there m seen.state k n y distinct named at)

-- ---- facts

init_is : (o : Option StateDeclaration) (d : StateDeclaration) (i : Option meaning.Value) → o ≡ Some d → option_map (λ (s : StateDeclaration). s.init) o ≡ Some i → d.init ≡ i
init_is o d i e h = same_Some d.init i (sym (ap (option_map (λ (s : StateDeclaration). s.init)) e) ∙ h)

pub initial_told : (m : Model) (e : Mapped) (x : Values) (t k : ℕ) (n : Name) (a b : meaning.Value) (r : Bool) → HasDistinctNames (sorts_of_states (states_of m.top))
    → option_map (λ (s : StateDeclaration). s.state_name) (slice_get (states_of m.top) k) ≡ Some n
    → option_map (λ (s : StateDeclaration). s.init) (slice_get (states_of m.top) k) ≡ Some (Some b)
    → shown_state m e x t n ≡ a → IsTrue r ↔ (a ≡ b) → IsTrue r ↔ Shows m e x (initial n t)
initial_told m e x t k n a b r distinct named stated is told =
    let d = there_named (slice_get (states_of m.top) k) n named in
    let found : state_named (states_of m.top) n ≡ Some d.0 = subst (λ c. state_named (states_of m.top) c ≡ Some d.0) d.2 (named_at (states_of m.top) k d.0 distinct d.1) in
    let value : d.0.init ≡ Some b = init_is (slice_get (states_of m.top) k) d.0 (Some b) d.1 stated in (
      λ h f z g j. is ∙ (told.0 h ∙ same_Some b z (sym value ∙ (ap (λ (q : StateDeclaration). q.init) (same_Some d.0 f (sym found ∙ g)) ∙ j))),
      λ h. told.1 (sym is ∙ h d.0 b found value),
    )

pub initial_free : (m : Model) (e : Mapped) (x : Values) (t k : ℕ) (n : Name) → HasDistinctNames (sorts_of_states (states_of m.top))
    → option_map (λ (s : StateDeclaration). s.state_name) (slice_get (states_of m.top) k) ≡ Some n
    → option_map (λ (s : StateDeclaration). s.init) (slice_get (states_of m.top) k) ≡ Some None → IsTrue true ↔ Shows m e x (initial n t)
initial_free m e x t k n distinct named stated =
    let d = there_named (slice_get (states_of m.top) k) n named in
    let found : state_named (states_of m.top) n ≡ Some d.0 = subst (λ c. state_named (states_of m.top) c ≡ Some d.0) d.2 (named_at (states_of m.top) k d.0 distinct d.1) in
    let value : d.0.init ≡ None = init_is (slice_get (states_of m.top) k) d.0 None d.1 stated in (
      λ h f z g j. absurd (none-some z (sym value ∙ (ap (λ (q : StateDeclaration). q.init) (same_Some d.0 f (sym found ∙ g)) ∙ j))),
      λ h. refl,
    )

pub same_told : (m : Model) (e : Mapped) (x : Values) (n : Name) (a b : meaning.Value) (r : Bool) → shown_state m e x 1 n ≡ a → shown_state m e x 0 n ≡ b → IsTrue r ↔ (a ≡ b)
    → IsTrue r ↔ Shows m e x (same n)
same_told m e x n a b r after before told = (λ h. after ∙ (told.0 h ∙ sym before), λ h. told.1 (sym after ∙ (h ∙ before)))
