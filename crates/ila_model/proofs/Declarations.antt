-- Lemmas on declarations: what holds of each place of a table against what holds of the table.
use Rattle.std.proofs.Common.{◌≡◌, ℕ, zero, suc, ◌+◌, ◌-◌, ◌<◌, ◌≤◌, Bool, true, false, ◌&&◌, List, [], ◌∷◌, length, get_or, drop, Option, Some, None, is_none, option_map, slice_get, refl, sym, ap, ◌∙◌, subst, arith}
use Rattle.std.proofs.lemmas.Bool.{and_from, and_right, and_parts, eqb-true, ne_eqb, ltb-true, false≢true}
use Rattle.std.specs.Prelude.{◌==◌, nat_le, nat_lt}
use Rattle.std.proofs.lemmas.List.{drop_more, length-drop, get_or-drop}
use Rattle.wb_values.specs.Value.{Sort, truth, Entries}
use Rattle.wb_terms.specs.declared.values.Value.{Value}
use Rattle.wb_terms.specs.Graph.{Graph, HasDistinctNames}
use Rattle.wb_terms.specs.Environment.{as_value}
use Rattle.ila_model.specs.declared.parts.Instruction.{Instruction}
use Rattle.ila_model.specs.declared.parts.Child.{Child}
use Rattle.ila_model.specs.declared.parts.ChildId.{ChildId}
use Rattle.ila_model.specs.declared.parts.Parts.{Parts}
use Rattle.ila_model.specs.Scope.{tops, around}
use Rattle.ila_model.specs.Meaning.{declared_states, declared_inputs}
use Rattle.ila_model.specs.Sorted.{are_distinct, are_declarations, are_states, is_initial, are_inputs, is_input_sort, are_placed, sort_at, name_at, is_machine, is_link, IsChildBelow, are_children, is_well_sorted}

is_none-from : (o : Option Sort) → o ≡ None → is_none o ≡ true
is_none-from o h = ap is_none h

-- the store's own fact as a test
pub are_distinct-from : (ns : Entries Sort) → HasDistinctNames ns → are_distinct ns ≡ true
are_distinct-from [] h = refl
are_distinct-from (n ∷ ns) h = and_from _ _ (is_none-from _ h.0) (are_distinct-from ns h.1)

-- more initial values than names
pub are_states-short : (b : Bool) (ns : Entries Sort) (is : List (Option Value)) → length ns < length is → are_states b ns is ≡ false
are_states-short b [] [] h = absurd (omega arith)
are_states-short b [] (i ∷ is) h = refl
are_states-short b (n ∷ ns) [] h = absurd (omega arith)
are_states-short b (n ∷ ns) (i ∷ is) h = and_right _ _ (are_states-short b ns is (omega arith))

pub are_states-within : (b : Bool) (ns : Entries Sort) (is : List (Option Value)) → are_states b ns is ≡ true → length is ≤ length ns
are_states-within b ns [] h = omega arith
are_states-within b [] (i ∷ is) h = absurd (false≢true h)
are_states-within b (n ∷ ns) (i ∷ is) h = omega (arith, are_states-within b ns is (and_parts (is_initial b n.1 i) _ h).1)

-- one turn of the test
pub are_states-turn : (b : Bool) (ns : Entries Sort) (is : List (Option Value)) (first j : ℕ) (d : Option Value) → j < length is → first + j < length ns → are_states b (drop (first + j) ns) (drop j is) ≡ (is_initial b (sort_at ns (first + j)) (get_or is j d) && are_states b (drop (first + (j + 1)) ns) (drop (j + 1) is))
are_states-turn b ns is first j d h n =
    let e : first + (j + 1) ≡ first + j + 1 = omega arith in
    ap (λ xs. are_states b xs (drop j is)) (drop_more ns (first + j) ([], truth) n)
    ∙ ap (λ ys. are_states b (get_or ns (first + j) ([], truth) ∷ drop (first + j + 1) ns) ys) (drop_more is j d h)
    ∙ ap (λ k. is_initial b (sort_at ns (first + j)) (get_or is j d) && are_states b (drop k ns) (drop (j + 1) is)) (sym e)

-- fewer names than inputs
pub are_inputs-short : (m : ℕ) (ns : Entries Sort) → length ns < m → are_inputs m ns ≡ false
are_inputs-short zero ns h = absurd (omega arith)
are_inputs-short (suc m) [] h = refl
are_inputs-short (suc m) (n ∷ ns) h = and_right _ _ (are_inputs-short m ns (omega arith))

pub are_inputs-within : (m : ℕ) (ns : Entries Sort) → are_inputs m ns ≡ true → m ≤ length ns
are_inputs-within zero ns h = omega arith
are_inputs-within (suc m) [] h = absurd (false≢true h)
are_inputs-within (suc m) (n ∷ ns) h = omega (arith, are_inputs-within m ns (and_parts (is_input_sort n.1) _ h).1)

inputs_turn : (ns : Entries Sort) (k m : ℕ) → k < length ns → are_inputs (suc m) (drop k ns) ≡ (is_input_sort (sort_at ns k) && are_inputs m (drop (k + 1) ns))
inputs_turn ns k m h = ap (are_inputs (suc m)) (drop_more ns k ([], truth) h)

pub are_inputs-turn : (ns : Entries Sort) (k end : ℕ) → k < length ns → k < end → are_inputs (end - k) (drop k ns) ≡ (is_input_sort (sort_at ns k) && are_inputs (end - (k + 1)) (drop (k + 1) ns))
are_inputs-turn ns k end h e =
    let p : end - k ≡ suc (end - (k + 1)) = omega arith in
    ap (λ m. are_inputs m (drop k ns)) p ∙ inputs_turn ns k (end - (k + 1)) h

-- private states past the end of the table
pub are_placed-past : (from total : ℕ) (cs : List Child) → total < from → are_placed from total cs ≡ false
are_placed-past from total [] h = ne_eqb from total (λ e. absurd (omega (arith, e)))
are_placed-past from total (c ∷ cs) h = and_right _ _ (are_placed-past (from + length c.initial_values.items) total cs (omega arith))

pub are_placed-within : (from total : ℕ) (cs : List Child) → are_placed from total cs ≡ true → from ≤ total
are_placed-within from total [] h = let e = eqb-true from total h in omega (arith, e)
are_placed-within from total (c ∷ cs) h = omega (arith, are_placed-within (from + length c.initial_values.items) total cs (and_parts (c.first.0 == from) _ h).1)

pub are_placed-late : (from total : ℕ) (cs : List Child) (i : ℕ) (d : Child) → i < length cs → total < from + length (get_or cs i d).initial_values.items → are_placed from total (drop i cs) ≡ false
are_placed-late from total cs i d h l =
    ap (are_placed from total) (drop_more cs i d h)
    ∙ and_right _ _ (are_placed-past (from + length (get_or cs i d).initial_values.items) total (drop (i + 1) cs) l)

-- the child of an instruction stands in the table
pub IsChildBelow-link : (cs : List Child) (at : Option ℕ) (from : ℕ) (o : Option ChildId) → is_link cs at from o ≡ true → IsChildBelow (length cs) o
IsChildBelow-link cs at from None h = tt
IsChildBelow-link cs at from (Some i) h =
    let a = and_parts (nat_le from i.0) _ h in
    ltb-true i.0 (length cs) (and_parts (nat_lt i.0 (length cs)) _ a.1).0

-- the child around a child of the table
pub around-there : (cs : List Child) (k : ℕ) (d : Child) → k < length cs → around cs k ≡ option_map (λ (i : ChildId). i.0) (get_or cs k d).around
around-there [] k d h = absurd (omega arith)
around-there (c ∷ cs) zero d h = refl
around-there (c ∷ cs) (suc k) d h = around-there cs k d (omega arith)

pub around-past : (cs : List Child) (k : ℕ) → length cs ≤ k → around cs k ≡ None
around-past [] k h = refl
around-past (c ∷ cs) zero h = absurd (omega arith)
around-past (c ∷ cs) (suc k) h = around-past cs k (omega arith)

-- the state and the input at a place
pub declared_states-at : (ns : Entries Sort) (is : List (Option Value)) (k : ℕ) (d : Option Value) → k < length is → length is ≤ length ns → slice_get (declared_states ns is) k ≡ Some (record { state_name = name_at ns k; sort = sort_at ns k; init = option_map as_value (get_or is k d) })
declared_states-at ns [] k d h w = absurd (omega arith)
declared_states-at [] (i ∷ is) k d h w = absurd (omega arith)
declared_states-at (n ∷ ns) (i ∷ is) zero d h w = refl
declared_states-at (n ∷ ns) (i ∷ is) (suc k) d h w = declared_states-at ns is k d (omega arith) (omega arith)

pub length-declared_states : (ns : Entries Sort) (is : List (Option Value)) → length is ≤ length ns → length (declared_states ns is) ≡ length is
length-declared_states [] [] w = refl
length-declared_states [] (i ∷ is) w = absurd (omega arith)
length-declared_states (n ∷ ns) [] w = refl
length-declared_states (n ∷ ns) (i ∷ is) w = ap suc (length-declared_states ns is (omega arith))

inputs_at : (m : ℕ) (ns : Entries Sort) (k : ℕ) → k < m → m ≤ length ns → slice_get (declared_inputs m ns) k ≡ Some (record { input_name = name_at ns k; sort = sort_at ns k })
inputs_at zero ns k h w = absurd (omega arith)
inputs_at (suc m) [] k h w = absurd (omega arith)
inputs_at (suc m) (n ∷ ns) zero h w = refl
inputs_at (suc m) (n ∷ ns) (suc k) h w = inputs_at m ns k (omega arith) (omega arith)

pub declared_inputs-at : (m s : ℕ) (ns : Entries Sort) (k : ℕ) → k < m → s + m ≤ length ns → slice_get (declared_inputs m (drop s ns)) k ≡ Some (record { input_name = name_at ns (s + k); sort = sort_at ns (s + k) })
declared_inputs-at m s ns k h w =
    inputs_at m (drop s ns) k h (omega (arith, length-drop s ns))
    ∙ ap (λ (e : List ℕ × Sort). Some (record { input_name = e.0; sort = e.1 })) (get_or-drop s ns k ([], truth))

pub length-declared_inputs : (m : ℕ) (ns : Entries Sort) → m ≤ length ns → length (declared_inputs m ns) ≡ m
length-declared_inputs zero ns w = refl
length-declared_inputs (suc m) [] w = absurd (omega arith)
length-declared_inputs (suc m) (n ∷ ns) w = ap suc (length-declared_inputs m ns (omega arith))

-- what is known of declarations that are in order
pub record AreDeclared (p : Parts) : Type 0 where
  pub states : are_states false p.terms.names p.initial_values.items ≡ true
  pub inputs : are_inputs p.inputs (drop (length p.initial_values.items) p.terms.names) ≡ true
  pub placed : are_placed (tops p) (length p.terms.names) p.children.items ≡ true
  pub within : tops p ≤ length p.terms.names
  pub states_within : length p.initial_values.items ≤ length p.terms.names

pub declared : (p : Parts) → are_declarations p ≡ true → AreDeclared p
declared p h =
    let c = and_parts (are_states false p.terms.names p.initial_values.items) _ h in
    let d = and_parts (are_inputs p.inputs (drop (length p.initial_values.items) p.terms.names)) _ c.1 in
    let w : tops p ≤ length p.terms.names = are_placed-within _ _ p.children.items d.1 in
    record {
      states = c.0;
      inputs = d.0;
      placed = d.1;
      within = w;
      states_within = omega arith;
    }

-- what is known of parts that are well sorted
pub record AreSorted (p : Parts) : Type 0 where
  pub distinct : are_distinct p.terms.names ≡ true
  pub declared : AreDeclared p
  pub top : is_machine p None p.valid.0 p.instructions.items ≡ true
  pub children : are_children p 0 p.children.items ≡ true

pub sorted : (p : Parts) → is_well_sorted p ≡ true → AreSorted p
sorted p h =
    let a = and_parts (are_distinct p.terms.names) _ h in
    let b = and_parts (are_declarations p) _ a.1 in
    let e = and_parts (is_machine p None p.valid.0 p.instructions.items) _ b.1 in
    record {
      distinct = a.0;
      declared = declared p b.0;
      top = e.0;
      children = e.1;
    }
