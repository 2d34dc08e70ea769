-- States by their names: each has its place, and a list of values gives each its value.
use Rattle.std.proofs.Common.{◌≡◌, ◌∙◌, ℕ, zero, suc, Bool, true, false, cond, ◌&&◌, List, [], ◌∷◌, length, map, slice_get, Option, Some, None, is_none, refl, sym, ap, subst}
use Rattle.std.proofs.lemmas.Bool.{false≢true}
use Rattle.std.proofs.lemmas.Slice.Eq.{bytes_eq-Decides}
use Rattle.wb_values.specs.Value.{Name, same_name, Sort, Value, Entries, entry_of, value_or_zero, valuation_of}
use Rattle.model_meaning.specs.Model.{Model, StateDeclaration, states_of, state_named}
use Rattle.wb_terms.specs.declared.values.Value as code_value
use Rattle.wb_terms.specs.Graph.{HasDistinctNames}
use Rattle.wb_terms.specs.Environment.{AreOfSorts, values_by_name}
use Rattle.ila_model.specs.declared.model.IlaModel.{IlaModel}
use Rattle.ila_model.specs.Sorted.{are_distinct}
use Rattle.ila_model.specs.Meaning.{declared_states}
use Rattle.ila_model.specs.Model.{model_of}
use Rattle.ila_model.proofs.Declarations.{sorted}
use Rattle.ila_child.specs.State.{sorts_of_states, IsStateOf, state_valuation}
use Rattle.watched_runs.specs.Laws.{StatesAreNamed}
use Rattle.run_watch.proofs.Lists.{some_same}

itself : (n : Name) → same_name n n ≡ true
itself n = (bytes_eq-Decides n n).1 refl

is_name : (m n : Name) → same_name m n ≡ true → m ≡ n
is_name m n h = (bytes_eq-Decides m n).0 h

and_parts : (a b : Bool) → (a && b) ≡ true → (a ≡ true) × (b ≡ true)
and_parts true b h = (refl, h)
and_parts false b h = absurd (false≢true h)

no_value : {A : Type 0} (o : Option A) → is_none o ≡ true → o ≡ None
no_value None h = refl
no_value (Some x) h = absurd (false≢true h)

other_first : (t : Bool) (s : Sort) (o : Option Sort) → cond t (Some s) o ≡ None → (t ≡ false) × (o ≡ None)
other_first true s o h = cc
other_first false s o h = (refl, h)

-- ---- no two states of a model share a name

absent_state : (ns : Entries Sort) (is : List (Option code_value.Value)) (x : Name) → entry_of ns x ≡ None → entry_of (sorts_of_states (declared_states ns is)) x ≡ None
absent_state [] is x e = refl
absent_state (n ∷ ns) [] x e = refl
absent_state (n ∷ ns) (i ∷ is) x e =
    let d = other_first (same_name n.0 x) n.1 (entry_of ns x) e in
    ap (λ t. cond t (Some n.1) (entry_of (sorts_of_states (declared_states ns is)) x)) d.0 ∙ absent_state ns is x d.1

distinct_states : (ns : Entries Sort) (is : List (Option code_value.Value)) → are_distinct ns ≡ true → HasDistinctNames (sorts_of_states (declared_states ns is))
distinct_states [] is h = tt
distinct_states (n ∷ ns) [] h = tt
distinct_states (n ∷ ns) (i ∷ is) h =
    let p = and_parts (is_none (entry_of ns n.0)) (are_distinct ns) h in
    (absent_state ns is n.0 (no_value (entry_of ns n.0) p.0), distinct_states ns is p.1)

pub states_apart : (m : IlaModel) → HasDistinctNames (sorts_of_states (states_of (model_of m).top))
states_apart m = distinct_states m.parts.terms.names m.parts.initial_values.items (sorted m.parts m.well_sorted).distinct

-- ---- names and places

-- the name at a later place is another one
other_name : (ds : List StateDeclaration) (n : Name) (k : ℕ) (d : StateDeclaration) → entry_of (sorts_of_states ds) n ≡ None → slice_get ds k ≡ Some d
    → same_name n d.state_name ≡ false
other_name [] n k d h e = let none : None ≡ Some d = e in cc
other_name (x ∷ ds) n zero d h e =
    let same : x ≡ d = some_same e in
    let f = (other_first (same_name x.state_name n) x.sort (entry_of (sorts_of_states ds) n) h).0 in
    turned n d.state_name (subst (λ (y : StateDeclaration). same_name y.state_name n ≡ false) same f)
  where
    turned : (a b : Name) → same_name b a ≡ false → same_name a b ≡ false
    turned a b f = by_test (same_name a b) refl
      where
        by_test : (t : Bool) → same_name a b ≡ t → t ≡ false
        by_test false g = refl
        by_test true g = absurd (false≢true (sym f ∙ (bytes_eq-Decides b a).1 (sym ((bytes_eq-Decides a b).0 g))))
other_name (x ∷ ds) n (suc k) d h e =
    other_name ds n k d (other_first (same_name x.state_name n) x.sort (entry_of (sorts_of_states ds) n) h).1 e

named_at : (ds : List StateDeclaration) (k : ℕ) (d : StateDeclaration) → HasDistinctNames (sorts_of_states ds) → slice_get ds k ≡ Some d
    → state_named ds d.state_name ≡ Some d
named_at [] k d h e = let none : None ≡ Some d = e in cc
named_at (x ∷ ds) zero d h e =
    let same : x ≡ d = some_same e in
    subst (λ (y : StateDeclaration). state_named (x ∷ ds) y.state_name ≡ Some y) same
    (ap (λ t. cond t (Some x) (state_named ds x.state_name)) (itself x.state_name))
named_at (x ∷ ds) (suc k) d h e =
    ap (λ t. cond t (Some x) (state_named ds d.state_name)) (other_name ds x.state_name k d h.0 e) ∙ named_at ds k d h.1 e

pub states_named : (m : Model) → HasDistinctNames (sorts_of_states (states_of m.top)) → StatesAreNamed m
states_named m h k d e = named_at (states_of m.top) k d h e

value_in_list : (ds : List StateDeclaration) (xs : List Value) (k : ℕ) (d : StateDeclaration) (y : Value) → HasDistinctNames (sorts_of_states ds)
    → slice_get ds k ≡ Some d → slice_get xs k ≡ Some y → valuation_of (values_by_name (sorts_of_states ds) xs) d.state_name ≡ y
value_in_list [] xs k d y h e f = let none : None ≡ Some d = e in cc
value_in_list (x ∷ ds) [] k d y h e f = let none : None ≡ Some y = f in cc
value_in_list (x ∷ ds) (v ∷ vs) zero d y h e f =
    let same : x ≡ d = some_same e in
    ap value_or_zero
    (ap (λ t. cond t (Some v) (entry_of (values_by_name (sorts_of_states ds) vs) d.state_name))
    (subst (λ (z : StateDeclaration). same_name x.state_name z.state_name ≡ true) same (itself x.state_name)))
    ∙ some_same f
value_in_list (x ∷ ds) (v ∷ vs) (suc k) d y h e f =
    ap value_or_zero
    (ap (λ t. cond t (Some v) (entry_of (values_by_name (sorts_of_states ds) vs) d.state_name)) (other_name ds x.state_name k d h.0 e))
    ∙ value_in_list ds vs k d y h.1 e f

-- A state has in a list of values the value at its place.
pub value_at : (m : Model) (xs : List Value) (k : ℕ) (d : StateDeclaration) (y : Value) → HasDistinctNames (sorts_of_states (states_of m.top))
    → slice_get (states_of m.top) k ≡ Some d → slice_get xs k ≡ Some y → state_valuation m xs d.state_name ≡ y
value_at m xs k d y h e f = value_in_list (states_of m.top) xs k d y h e f

value_for : (ds : List StateDeclaration) (xs : List Value) (k : ℕ) (d : StateDeclaration) → AreOfSorts (sorts_of_states ds) xs → slice_get ds k ≡ Some d
    → (y : Value) × (slice_get xs k ≡ Some y)
value_for [] xs k d h e = let none : None ≡ Some d = e in cc
value_for (x ∷ ds) [] k d h e = absurd h
value_for (x ∷ ds) (v ∷ vs) zero d h e = (v, refl)
value_for (x ∷ ds) (v ∷ vs) (suc k) d h e = value_for ds vs k d h.1 e

pub value_of_state : (m : Model) (xs : List Value) (k : ℕ) (d : StateDeclaration) → IsStateOf m xs → slice_get (states_of m.top) k ≡ Some d
    → (y : Value) × (slice_get xs k ≡ Some y)
value_of_state m xs k d h e = value_for (states_of m.top) xs k d h e

state_for : (ds : List StateDeclaration) (xs : List Value) (k : ℕ) (y : Value) → AreOfSorts (sorts_of_states ds) xs → slice_get xs k ≡ Some y
    → (d : StateDeclaration) × (slice_get ds k ≡ Some d)
state_for ds [] k y h e = let none : None ≡ Some y = e in cc
state_for [] (v ∷ vs) k y h e = absurd h
state_for (x ∷ ds) (v ∷ vs) zero y h e = (x, refl)
state_for (x ∷ ds) (v ∷ vs) (suc k) y h e = state_for ds vs k y h.1 e

pub state_of_value : (m : Model) (xs : List Value) (k : ℕ) (y : Value) → IsStateOf m xs → slice_get xs k ≡ Some y
    → (d : StateDeclaration) × (slice_get (states_of m.top) k ≡ Some d)
state_of_value m xs k y h e = state_for (states_of m.top) xs k y h e

length_for : (ds : List StateDeclaration) (xs : List Value) → AreOfSorts (sorts_of_states ds) xs → length xs ≡ length ds
length_for [] [] h = refl
length_for [] (v ∷ vs) h = absurd h
length_for (x ∷ ds) [] h = absurd h
length_for (x ∷ ds) (v ∷ vs) h = ap suc (length_for ds vs h.1)

pub state_length : (m : Model) (xs : List Value) → IsStateOf m xs → length xs ≡ length (states_of m.top)
state_length m xs h = length_for (states_of m.top) xs h

-- the values that the code has of a state
pub length_fits : (m : Model) (a xs : List Value) → IsStateOf m a → xs ≡ a → length xs ≡ length (states_of m.top)
length_fits m a xs h e = ap length e ∙ state_length m a h

pub lengths_agree : (m : Model) (a q xs ys : List Value) → IsStateOf m a → IsStateOf m q → xs ≡ a → ys ≡ q → length xs ≡ length ys
lengths_agree m a q xs ys h g e f = length_fits m a xs h e ∙ sym (length_fits m q ys g f)
