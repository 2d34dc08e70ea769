-- Lemmas on the point at which a step begins, and on the state that it leads to.
use Rattle.std.proofs.Common.{◌≡◌, ℕ, zero, suc, ◌+◌, ◌-◌, ◌<◌, ◌≤◌, true, false, cond, List, [], ◌∷◌, ◌++◌, length, get_or, take, drop, Option, None, is_some, inl, inr, refl, sym, ap, ◌∙◌, subst, arith}
use Rattle.std.specs.Prelude.{◌==◌}
use Rattle.std.proofs.lemmas.Bool.{and_parts, eqb-true}
use Rattle.std.proofs.lemmas.List.{get_or-take, get_or-drop, length-take, length-drop}
use Rattle.wb_values.specs.Value as meaning
use Rattle.wb_values.specs.Value.{Name, Sort, truth, number, Entries, entry_of, Valuation, valuation_of, HasSort}
use Rattle.model_meaning.specs.Model.{StateDeclaration, state_named, point_of}
use Rattle.model_meaning.specs.Instruction.{own_states}
use Rattle.wb_terms.specs.declared.values.Value.{Value}
use Rattle.wb_terms.specs.Environment.{AreOfSorts, values_by_name}
use Rattle.ila_model.specs.declared.parts.Child.{Child}
use Rattle.ila_model.specs.declared.parts.Parts.{Parts}
use Rattle.ila_model.specs.declared.scopes.Scope.{Scope}
use Rattle.ila_model.specs.declared.scopes.Scope.TheVariants.{Anywhere, Within}
use Rattle.ila_model.specs.Scope.{nesting, is_around, may_read, home, private_scopes, name_scopes, tops}
use Rattle.ila_model.specs.Sorted.{are_distinct, are_placed, sort_at, name_at}
use Rattle.ila_model.specs.Meaning.{declared_states, declared_inputs, model_from}
use Rattle.ila_model.proofs.Declarations.{AreSorted}
use Rattle.ila_child.specs.State.{sorts_of_states, sorts_of_inputs, IsStateOf, AreInputsOf, state_valuation, input_valuation}
use Rattle.ila_child.specs.Updating.{value_at}
use Rattle.ila_child.specs.Running.{seen, point_at}
use Rattle.ila_child.specs.Start.{zeros_of, IsPointOf, HasStates}
use Rattle.ila_child.proofs.Initial.{zero_has_sort}
use Rattle.ila_child.proofs.Updates.{AreOfSorts-length, AreOfSorts-at}
use Rattle.ila_child.proofs.Places.{valuation-at, valuation-lacking, distinct-take, distinct-drop, lacks-take, lacks-drop, behind_take, home-at, top_scope, at_copies, behind_copies, below_or, states_by, stated_only, declared-by, named-lacking, named_in, named_behind, input_lacking, input_in, input_before, input_behind}
use Rattle.ila_child.proofs.Points.{by_places, known_point, lacking_point}

pub states_table : (ns : Entries Sort) (is : List (Option Value)) → sorts_of_states (declared_states ns is) ≡ take (length is) ns
states_table [] [] = refl
states_table [] (i ∷ is) = refl
states_table (n ∷ ns) [] = refl
states_table (n ∷ ns) (i ∷ is) = ap (λ (r : Entries Sort). n ∷ r) (states_table ns is)

pub inputs_table : (m : ℕ) (ns : Entries Sort) → sorts_of_inputs (declared_inputs m ns) ≡ take m ns
inputs_table zero ns = refl
inputs_table (suc m) [] = refl
inputs_table (suc m) (n ∷ ns) = ap (λ (r : Entries Sort). n ∷ r) (inputs_table m ns)

pub AreOfSorts-append : (a b : Entries Sort) (xs ys : List meaning.Value) → AreOfSorts a xs → AreOfSorts b ys → AreOfSorts (a ++ b) (xs ++ ys)
AreOfSorts-append [] b [] ys h k = k
AreOfSorts-append [] b (x ∷ xs) ys h k = absurd h
AreOfSorts-append (n ∷ a) b [] ys h k = absurd h
AreOfSorts-append (n ∷ a) b (x ∷ xs) ys h k = (h.0, AreOfSorts-append a b xs ys h.1 k)

pub zeros_sorted : (ns : Entries Sort) → AreOfSorts ns (zeros_of ns)
zeros_sorted [] = tt
zeros_sorted (n ∷ ns) = (zero_has_sort n.1, zeros_sorted ns)

take_nothing : (k : ℕ) → take k (let none : Entries Sort = [] in none) ≡ []
take_nothing zero = refl
take_nothing (suc k) = refl

two_parts : (n m : ℕ) (ns : Entries Sort) → take n ns ++ take m (drop n ns) ≡ take (n + m) ns
two_parts zero m ns = ap (λ k. take k ns) (let e : m ≡ 0 + m = omega arith in e)
two_parts (suc n) m [] = take_nothing m ∙ sym (take_nothing (suc n + m))
two_parts (suc n) m (x ∷ ns) =
    let e : suc (n + m) ≡ suc n + m = omega arith in
    ap (λ (r : Entries Sort). x ∷ r) (two_parts n m ns) ∙ ap (λ k. take k (x ∷ ns)) e

pub whole : (n : ℕ) (ns : Entries Sort) → take n ns ++ drop n ns ≡ ns
whole zero ns = refl
whole (suc n) [] = refl
whole (suc n) (x ∷ ns) = ap (λ (r : Entries Sort). x ∷ r) (whole n ns)

-- values for the states and the inputs
pub record AreGiven (p : Parts) (q w : List meaning.Value) : Type 0 where
  pub states : AreOfSorts (take (length p.initial_values.items) p.terms.names) q
  pub inputs : AreOfSorts (take p.inputs (drop (length p.initial_values.items) p.terms.names)) w
  pub states_count : length q ≡ length p.initial_values.items
  pub inputs_count : length w ≡ p.inputs

pub given : (p : Parts) (s : AreSorted p) (name : Name) (q w : List meaning.Value) → IsStateOf (model_from name p) q → AreInputsOf (model_from name p) w → AreGiven p q w
given p s name q w a b =
    let n = length p.initial_values.items in
    let ns = p.terms.names in
    let c = subst (λ t. AreOfSorts t q) (states_table ns p.initial_values.items) a in
    let d = subst (λ t. AreOfSorts t w) (inputs_table p.inputs (drop n ns)) b in
    let within = s.declared.within in
    record {
      states = c;
      inputs = d;
      states_count = omega (arith, AreOfSorts-length (take n ns) q c, length-take n ns);
      inputs_count = omega (arith, AreOfSorts-length (take p.inputs (drop n ns)) w d, length-take p.inputs (drop n ns), length-drop n ns);
    }

-- the value of a state, and of an input
state_at : (p : Parts) (q w xs : List meaning.Value) (k : ℕ) → IsPointOf p q w xs → k < length p.initial_values.items → value_at xs k ≡ value_at q k
state_at p q w xs k i h = sym (get_or-take (length p.initial_values.items) xs k (number 0) h) ∙ ap (λ (ys : List meaning.Value). value_at ys k) i.state

input_at : (p : Parts) (q w xs : List meaning.Value) (k : ℕ) → IsPointOf p q w xs → length p.initial_values.items ≤ k → k < length p.initial_values.items + p.inputs
    → value_at xs k ≡ value_at w (k - length p.initial_values.items)
input_at p q w xs k i lo hi =
    let n = length p.initial_values.items in
    let e : n + (k - n) ≡ k = omega arith in
    sym (ap (value_at xs) e)
    ∙ sym (get_or-drop n xs (k - n) (number 0))
    ∙ sym (get_or-take p.inputs (drop n xs) (k - n) (number 0) (omega arith))
    ∙ ap (λ (ys : List meaning.Value). value_at ys (k - n)) i.inputs

-- values under the names of a part of the table
front_value : (n : ℕ) (ns : Entries Sort) (xs : List meaning.Value) (k : ℕ) → are_distinct ns ≡ true → n ≤ length ns → length xs ≡ n → k < n → valuation_of (values_by_name (take n ns) xs) (name_at ns k) ≡ value_at xs k
front_value n ns xs k d w l h =
    subst (λ (x : List ℕ × Sort). valuation_of (values_by_name (take n ns) xs) x.0 ≡ value_at xs k) (get_or-take n ns k ([], truth) h)
    (valuation-at (take n ns) xs k (distinct-take n ns d) (omega (arith, l, length-take n ns)) (omega (arith, length-take n ns)))

middle_value : (n m : ℕ) (ns : Entries Sort) (xs : List meaning.Value) (k : ℕ) → are_distinct ns ≡ true → n + m ≤ length ns → length xs ≡ m → n ≤ k → k < n + m → valuation_of (values_by_name (take m (drop n ns)) xs) (name_at ns k) ≡ value_at xs (k - n)
middle_value n m ns xs k d w l lo hi =
    let e : n + (k - n) ≡ k = omega arith in
    let there = get_or-drop n ns (k - n) ([], truth) ∙ ap (λ j. get_or ns j ([], truth)) e in
    subst (λ (x : List ℕ × Sort). valuation_of (values_by_name (take m (drop n ns)) xs) x.0 ≡ value_at xs (k - n)) there
    (front_value m (drop n ns) xs (k - n) (distinct-drop n ns d) (omega (arith, length-drop n ns)) l (omega arith))

-- the private states are not known in the top
private_hidden : (i from total : ℕ) (all cs : List Child) (k : ℕ) → are_placed from total cs ≡ true → from + k < total → may_read all None (get_or (private_scopes i cs) k Anywhere) ≡ false
unfolding is_around nesting
private_hidden i from total all [] k h b = let e = eqb-true from total h in absurd (omega (arith, e))
private_hidden i from total all (x ∷ cs) k h b =
    let n = length x.initial_values.items in
    elim (below_or k n) [
      | inl c ↦ ap (may_read all None) (at_copies n (Within i) (private_scopes (suc i) cs) k c)
      | inr c ↦
          let e : k ≡ n + (k - n) = omega arith in
          ap (λ j. may_read all None (get_or (private_scopes i (x ∷ cs)) j Anywhere)) e
          ∙ ap (may_read all None) (behind_copies n (Within i) (private_scopes (suc i) cs) (k - n))
          ∙ private_hidden (suc i) (from + n) total all cs (k - n) (and_parts (x.first.0 == from) _ h).1 (omega arith)
    ]

top_home : (p : Parts) (s : AreSorted p) (k : ℕ) → k < tops p → home p (name_at p.terms.names k) ≡ Anywhere
top_home p s k h =
    let within = s.declared.within in
    home-at p k s.distinct s.declared.placed (omega arith) ∙ top_scope (tops p) p.children.items k h

hidden_home : (p : Parts) (s : AreSorted p) (k : ℕ) → tops p ≤ k → k < length p.terms.names → may_read p.children.items None (home p (name_at p.terms.names k)) ≡ false
hidden_home p s k h b =
    let cs = p.children.items in
    let e : k ≡ tops p + (k - tops p) = omega arith in
    ap (may_read cs None) (home-at p k s.distinct s.declared.placed b)
    ∙ ap (λ j. may_read cs None (get_or (name_scopes (tops p) cs) j Anywhere)) e
    ∙ ap (may_read cs None) (behind_copies (tops p) Anywhere (private_scopes 0 cs) (k - tops p))
    ∙ private_hidden 0 (tops p) (length p.terms.names) cs cs (k - tops p) s.declared.placed (omega arith)

pub top_value : (p : Parts) (s : AreSorted p) (xs : List meaning.Value) (k : ℕ) → length xs ≡ length p.terms.names → k < tops p → point_at p None xs (name_at p.terms.names k) ≡ value_at xs k
top_value p s xs k l h =
    let within = s.declared.within in
    known_point p None xs k s.distinct l (omega arith)
    ∙ ap (λ (r : Scope). cond (may_read p.children.items None r) (value_at xs k) (number 0)) (top_home p s k h)

hidden_value : (p : Parts) (s : AreSorted p) (xs : List meaning.Value) (k : ℕ) → length xs ≡ length p.terms.names → tops p ≤ k → k < length p.terms.names → point_at p None xs (name_at p.terms.names k) ≡ number 0
hidden_value p s xs k l h b =
    known_point p None xs k s.distinct l b ∙ ap (λ r. cond r (value_at xs k) (number 0)) (hidden_home p s k h b)

-- the top sees the point of state and inputs
pub start_point : (p : Parts) (s : AreSorted p) (name : Name) (q w : List meaning.Value) (xs : List meaning.Value) → AreGiven p q w → IsPointOf p q w xs → seen p None xs ≡ point_of (model_from name p) (state_valuation (model_from name p) q) (input_valuation (model_from name p) w)
start_point p s name q w xs a i =
    let ns = p.terms.names in
    let n = length p.initial_values.items in
    let m = p.inputs in
    let mo = model_from name p in
    let sv = state_valuation mo q in
    let iv = input_valuation mo w in
    let within = s.declared.within in
    let l = AreOfSorts-length ns xs i.fits in
    let sv_is : (x : Name) → sv x ≡ valuation_of (values_by_name (take n ns) q) x = λ x. ap (λ t. valuation_of (values_by_name t q) x) (states_table ns p.initial_values.items) in
    let iv_is : (x : Name) → iv x ≡ valuation_of (values_by_name (take m (drop n ns)) w) x = λ x. ap (λ t. valuation_of (values_by_name t w) x) (inputs_table m (drop n ns)) in
    by_places ns (seen p None xs) (point_of mo sv iv)
    (λ k b.
    let x = name_at ns k in
    elim (below_or k n) [
      | inl lo ↦
          top_value p s xs k l (omega arith)
          ∙ state_at p q w xs k i lo
          ∙ sym (front_value n ns q k s.distinct (omega arith) a.states_count lo)
          ∙ sym (sv_is x)
          ∙ sym (ap (λ r. cond r (iv x) (sv x)) (input_before m n ns k s.distinct lo b))
      | inr lo ↦ elim (below_or k (n + m)) [
        | inl hi ↦
            top_value p s xs k l hi
            ∙ input_at p q w xs k i lo hi
            ∙ sym (middle_value n m ns w k s.distinct (omega arith) a.inputs_count lo hi)
            ∙ sym (iv_is x)
            ∙ sym (ap (λ r. cond r (iv x) (sv x)) (input_in m n ns k s.distinct lo hi b))
        | inr hi ↦
            hidden_value p s xs k l hi b
            ∙ sym (valuation-lacking (take n ns) q x (behind_take n ns k s.distinct lo b))
            ∙ sym (sv_is x)
            ∙ sym (ap (λ r. cond r (iv x) (sv x)) (input_behind m n ns k s.distinct hi b))
      ]
    ])
    (λ x u.
    lacking_point p None xs x u
    ∙ sym (valuation-lacking (take n ns) q x (lacks-take n ns x u))
    ∙ sym (sv_is x)
    ∙ sym (ap (λ r. cond r (iv x) (sv x)) (input_lacking m (drop n ns) x (lacks-drop n ns x u))))

-- the state that a step leads to
pub state_led : (p : Parts) (s : AreSorted p) (name : Name) (xs : List meaning.Value) (after : Valuation) → HasStates p xs after → state_valuation (model_from name p) xs ≡ own_states (model_from name p) after
state_led p s name xs after h =
    let ns = p.terms.names in
    let is = p.initial_values.items in
    let n = length is in
    let mo = model_from name p in
    let within = s.declared.states_within in
    let sv_is : (x : Name) → state_valuation mo xs x ≡ valuation_of (values_by_name (take n ns) xs) x = λ x. ap (λ t. valuation_of (values_by_name t xs) x) (states_table ns is) in
    let by : (x : Name) → is_some (state_named (declared_states ns is) x) ≡ is_some (state_named (states_by stated_only ns is) x) = λ x. ap (λ ss. is_some (state_named ss x)) (declared-by ns is) in
    by_places ns (state_valuation mo xs) (own_states mo after)
    (λ k b.
    let x = name_at ns k in
    elim (below_or k n) [
      | inl lo ↦
          let there : is_some (state_named (states_by stated_only ns is) x) ≡ true = ap (λ (o : Option StateDeclaration). is_some o) (named_in stated_only ns 0 is k None s.distinct (omega arith) (omega arith) b) in
          sv_is x ∙ front_value n ns xs k s.distinct within h.count lo
          ∙ h.value k (omega (arith, h.count))
          ∙ sym (ap (λ r. cond r (after x) (number 0)) (by x ∙ there))
      | inr lo ↦
          let none : is_some (state_named (states_by stated_only ns is) x) ≡ false = ap (λ (o : Option StateDeclaration). is_some o) (named_behind stated_only ns 0 is k s.distinct (omega arith) b) in
          sv_is x ∙ valuation-lacking (take n ns) xs x (behind_take n ns k s.distinct lo b)
          ∙ sym (ap (λ r. cond r (after x) (number 0)) (by x ∙ none))
    ])
    (λ x u.
    let none : is_some (state_named (states_by stated_only ns is) x) ≡ false = ap (λ (o : Option StateDeclaration). is_some o) (named-lacking stated_only ns is x u) in
    sv_is x ∙ valuation-lacking (take n ns) xs x (lacks-take n ns x u)
    ∙ sym (ap (λ r. cond r (after x) (number 0)) (by x ∙ none)))

sorted_places : (ns : Entries Sort) (xs : List meaning.Value) → length xs ≡ length ns → ((k : ℕ) → k < length xs → HasSort (value_at xs k) (sort_at ns k)) → AreOfSorts ns xs
sorted_places [] [] l f = tt
sorted_places [] (x ∷ xs) l f = absurd (omega arith)
sorted_places (n ∷ ns) [] l f = absurd (omega arith)
sorted_places (n ∷ ns) (x ∷ xs) l f = (f 0 (omega arith), sorted_places ns xs (omega arith) (λ k h. f (suc k) (omega arith)))

pub state_sorted : (p : Parts) (s : AreSorted p) (name : Name) (xs : List meaning.Value) (after : Valuation) → HasStates p xs after → IsStateOf (model_from name p) xs
state_sorted p s name xs after h =
    let ns = p.terms.names in
    let n = length p.initial_values.items in
    let within = s.declared.states_within in
    subst (λ t. AreOfSorts t xs) (sym (states_table ns p.initial_values.items))
    (sorted_places (take n ns) xs (omega (arith, h.count, length-take n ns))
    (λ k b. subst (λ (x : List ℕ × Sort). HasSort (value_at xs k) x.1) (sym (get_or-take n ns k ([], truth) (omega (arith, h.count)))) (h.sorted k b)))

-- the first values of the environment are those of the states
pub first_values : (p : Parts) (s : AreSorted p) (xs : List meaning.Value) → AreOfSorts p.terms.names xs → HasStates p (take (length p.initial_values.items) xs) (point_at p None xs)
first_values p s xs a =
    let n = length p.initial_values.items in
    let within = s.declared.within in
    let l = AreOfSorts-length p.terms.names xs a in
    let count : length (take n xs) ≡ n = omega (arith, length-take n xs, l) in
    record {
      count = count;
      value = λ k h. get_or-take n xs k (number 0) (omega (arith, count)) ∙ sym (top_value p s xs k l (omega (arith, count)));
      sorted = λ k h. subst (λ x. HasSort x (sort_at p.terms.names k)) (sym (get_or-take n xs k (number 0) (omega (arith, count)))) (AreOfSorts-at p.terms.names xs k a (omega (arith, count)));
    }
