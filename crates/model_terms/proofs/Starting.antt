-- The point at which a step begins: its terms, and what the top sees of it.
use Rattle.std.proofs.Common.{◌≡◌, ◌≢◌, ℕ, zero, suc, ◌+◌, ◌-◌, ◌<◌, ◌≤◌, Bool, true, false, cond, List, [], ◌∷◌, ◌++◌, map, length, get_or, take, drop, Option, Some, None, is_some, inl, inr, refl, sym, ap, ◌∙◌, subst, arith}
use Rattle.std.specs.Prelude.{◌==◌}
use Rattle.std.proofs.lemmas.Bool.{and_parts, eqb-true, false≢true}
use Rattle.std.proofs.lemmas.List.{get_or-take, get_or-drop, length-append, length-take, length-drop}
use Rattle.wb_values.specs.Value as meaning
use Rattle.wb_values.specs.Value.{Name, Sort, truth, word, memory, number, Entries, Valuation, valuation_of}
use Rattle.model_meaning.specs.Term.{sort_of, val}
use Rattle.model_meaning.specs.Model.{point_of}
use Rattle.wb_terms.specs.declared.nodes.TermId.{TermId}
use Rattle.wb_terms.specs.declared.values.Value.{Value}
use Rattle.wb_terms.specs.Graph.{Graph, tree}
use Rattle.wb_terms.specs.Environment.{values_by_name}
use Rattle.term_copies.specs.Copies.{IsExtended, AreLeaves, id_at, declared_at}
use Rattle.term_copies.proofs.Extending.{extended_refl, extended_trans}
use Rattle.term_copies.proofs.Copying.{leaves_kept}
use Rattle.ila_model.specs.declared.parts.Child.{Child}
use Rattle.ila_model.specs.declared.parts.Parts.{Parts}
use Rattle.ila_model.specs.declared.scopes.Scope.{Scope}
use Rattle.ila_model.specs.declared.scopes.Scope.TheVariants.{Anywhere, Within}
use Rattle.ila_model.specs.Scope.{nesting, is_around, is_child_nested, may_read, home, private_scopes, name_scopes, tops}
use Rattle.ila_model.specs.Sorted.{are_distinct, are_placed, are_states, is_private_initial, is_input_sort, is_limit, is_child, are_children, sort_at, name_at}
use Rattle.ila_model.specs.Meaning.{declared_states, declared_inputs, model_from}
use Rattle.ila_model.proofs.Declarations.{AreSorted}
use Rattle.ila_child.specs.State.{sorts_of_states, sorts_of_inputs, state_valuation, input_valuation}
use Rattle.ila_child.specs.Updating.{value_at}
use Rattle.ila_child.specs.Running.{point_at}
use Rattle.ila_child.proofs.Places.{valuation-at, valuation-lacking, distinct-take, distinct-drop, lacks-take, lacks-drop, behind_take, home-at, at_copies, behind_copies, below_or, input_lacking, input_in, input_before, input_behind}
use Rattle.ila_child.proofs.Points.{by_places, known_point, lacking_point}
use Rattle.ila_child.proofs.Starts.{states_table, inputs_table, top_value}
use Rattle.model_terms.specs.Symbolic.{worths, sees}
use Rattle.model_terms.proofs.Choosing.{length-worths, places_more}

-- ---- the terms

pub first_id : (xs ys : List TermId) (k : ℕ) → k < length xs → id_at (xs ++ ys) k ≡ id_at xs k
first_id [] ys k h = absurd (omega (arith, h))
first_id (x ∷ xs) ys zero h = refl
first_id (x ∷ xs) ys (suc k) h = first_id xs ys k (omega (arith, h))

pub second_id : (xs ys : List TermId) (k : ℕ) → length xs ≤ k → id_at (xs ++ ys) k ≡ id_at ys (k - length xs)
second_id [] ys k h = ap (id_at ys) (let e : k ≡ k - 0 = omega arith in e)
second_id (x ∷ xs) ys zero h = absurd (omega (arith, h))
second_id (x ∷ xs) ys (suc k) h =
    let e : k - length xs ≡ suc k - suc (length xs) = omega arith in
    second_id xs ys k (omega (arith, h)) ∙ ap (id_at ys) e

-- the first so many terms of a point
pub record IsStarting (g h : Graph) (names : Entries Sort) (before ids : List TermId) (n : ℕ) : Type 0 where
  pub extended : IsExtended g h
  pub within : n ≤ length names
  pub count : length ids ≡ n
  pub below : (j : ℕ) → j < n → id_at ids j < length h.nodes
  pub sort : (j : ℕ) → j < n → sort_of (tree h (id_at ids j)) ≡ Some (declared_at names j).1
  pub more : List TermId
  pub is : ids ≡ before ++ more

append_none : (xs : List TermId) → xs ≡ xs ++ []
append_none [] = refl
append_none (x ∷ xs) = ap (λ (r : List TermId). x ∷ r) (append_none xs)

append_more : (xs ys : List TermId) (z : TermId) → (xs ++ ys) ++ z ∷ [] ≡ xs ++ (ys ++ z ∷ [])
append_more [] ys z = refl
append_more (x ∷ xs) ys z = ap (λ (r : List TermId). x ∷ r) (append_more xs ys z)

pub starting_start : (g : Graph) (names : Entries Sort) (n m : ℕ) (xs ys ids : List TermId) → n + m ≤ length names → AreLeaves g (take n names) xs → AreLeaves g (take m (drop n names)) ys → ids ≡ xs ++ ys → IsStarting g g names (xs ++ ys) ids (length ids)
starting_start g names n m xs ys ids w a b e =
    let one : length xs ≡ n = omega (arith, a.count, length-take n names, w) in
    let two : length ys ≡ m = omega (arith, b.count, length-take m (drop n names), length-drop n names, w) in
    let all : length ids ≡ n + m = ap (λ (r : List TermId). length r) e ∙ length-append xs ys ∙ omega (arith, one, two) in
    let one_take : length (take n names) ≡ n = omega (arith, length-take n names, w) in
    let two_take : length (take m (drop n names)) ≡ m = omega (arith, length-take m (drop n names), length-drop n names, w) in
    record {
      extended = extended_refl g;
      within = omega (arith, all, w);
      count = refl;
      below = λ j h. elim (below_or j n) [
        | inl lo ↦ subst (λ (r : List TermId). id_at r j < length g.nodes) (sym e) (subst (λ k. k < length g.nodes) (sym (first_id xs ys j (omega (arith, lo, one)))) (a.below j (omega (arith, lo, one_take))))
        | inr hi ↦
            let z : j - length xs < length (take m (drop n names)) = omega (arith, hi, h, all, one, two, two_take) in
            subst (λ (r : List TermId). id_at r j < length g.nodes) (sym e) (subst (λ k. k < length g.nodes) (sym (second_id xs ys j (omega (arith, hi, one)))) (b.below (j - length xs) z))
      ];
      sort = λ j h. elim (below_or j n) [
        | inl lo ↦
            ap (λ (r : List TermId). sort_of (tree g (id_at r j))) e ∙ ap (λ k. sort_of (tree g k)) (first_id xs ys j (omega (arith, lo, one)))
            ∙ a.sort j (omega (arith, lo, one_take)) ∙ ap (λ (r : List ℕ × Sort). Some r.1) (get_or-take n names j ([], truth) lo)
        | inr hi ↦
            let z : j - length xs < length (take m (drop n names)) = omega (arith, hi, h, all, one, two, two_take) in
            let there : n + (j - length xs) ≡ j = omega (arith, hi, one) in
            ap (λ (r : List TermId). sort_of (tree g (id_at r j))) e ∙ ap (λ k. sort_of (tree g k)) (second_id xs ys j (omega (arith, hi, one)))
            ∙ b.sort (j - length xs) z
            ∙ ap (λ (r : List ℕ × Sort). Some r.1) (get_or-take m (drop n names) (j - length xs) ([], truth) (omega (arith, z, two_take)) ∙ get_or-drop n names (j - length xs) ([], truth) ∙ ap (λ k. get_or names k ([], truth)) there)
      ];
      more = [];
      is = e ∙ append_none (xs ++ ys);
    }

pub starting_more : (g h m : Graph) (names : Entries Sort) (before ids : List TermId) (n : ℕ) (s : Sort) (id : TermId) → n < length names → s ≡ sort_at names n → IsExtended h m → id.0 < length m.nodes → sort_of (tree m id.0) ≡ Some s → IsStarting g h names before ids n → IsStarting g m names before (ids ++ id ∷ []) (n + 1)
starting_more g h m names before ids n s id l q e b t a =
    let names_n = take n names in
    let kept : AreLeaves h names_n ids = record {
      count = a.count ∙ omega (arith, length-take n names, l);
      below = λ j w. a.below j (omega (arith, w, length-take n names, l));
      sort = λ j w. let z : j < n = omega (arith, w, length-take n names, l) in a.sort j z ∙ sym (ap (λ (r : List ℕ × Sort). Some r.1) (get_or-take n names j ([], truth) z));
    } in
    let after = leaves_kept names_n ids e kept in
    let there : length names_n ≡ n = omega (arith, length-take n names, l) in
    record {
      extended = extended_trans a.extended e;
      within = omega (arith, l);
      count = length-append ids (id ∷ []) ∙ ap (λ k. k + 1) a.count;
      below = λ j w. places_more (λ k i. i < length m.nodes) ids id n j a.count w (λ k z. after.below k (omega (arith, z, there))) b;
      sort = λ j w. places_more (λ k i. sort_of (tree m i) ≡ Some (declared_at names k).1) ids id n j a.count w
          (λ k z. after.sort k (omega (arith, z, there)) ∙ ap (λ (r : List ℕ × Sort). Some r.1) (get_or-take n names k ([], truth) z)) (t ∙ ap (λ (r : Sort). Some r) q);
      more = a.more ++ id ∷ [];
      is = ap (λ (r : List TermId). r ++ id ∷ []) a.is ∙ append_more before a.more id;
    }

pub starting_end : (g h : Graph) (names : Entries Sort) (before ids : List TermId) (n : ℕ) → length names ≤ n → IsStarting g h names before ids n → AreLeaves h names ids
starting_end g h names before ids n l a = record {
  count = omega (arith, a.count, l, a.within);
  below = λ j w. a.below j (omega (arith, w, l));
  sort = λ j w. a.sort j (omega (arith, w, l));
}

-- ---- private states are no memories

initial_plain : (s : Sort) (i : Option Value) → is_private_initial s i ≡ true → is_input_sort s ≡ true
initial_plain s None h = absurd (false≢true h)
initial_plain truth (Some x) h = refl
initial_plain (word w) (Some x) h = refl
initial_plain (memory a d) (Some x) h = absurd (false≢true h)

states_plain : (ns : Entries Sort) (is : List (Option Value)) (j : ℕ) → are_states true ns is ≡ true → j < length is → is_input_sort (sort_at ns j) ≡ true
states_plain ns [] j h l = absurd (omega (arith, l))
states_plain [] (i ∷ is) j h l = absurd (false≢true h)
states_plain (n ∷ ns) (i ∷ is) zero h l = initial_plain n.1 i (and_parts (is_private_initial n.1 i) _ h).0
states_plain (n ∷ ns) (i ∷ is) (suc j) h l = states_plain ns is j (and_parts (is_private_initial n.1 i) _ h).1 (omega (arith, l))

privates_plain : (p : Parts) (from i total k : ℕ) (cs : List Child) → are_placed from total cs ≡ true → are_children p i cs ≡ true → from ≤ k → k < total → is_input_sort (sort_at p.terms.names k) ≡ true
privates_plain p from i total k [] h c l b = let e = eqb-true from total h in absurd (omega (arith, e, l, b))
privates_plain p from i total k (x ∷ cs) h c l b =
    let ns = p.terms.names in
    let n = length x.initial_values.items in
    let here = and_parts (x.first.0 == from) _ h in
    let e = eqb-true x.first.0 from here.0 in
    let all = and_parts (is_child p i x) _ c in
    let limit = and_parts (is_limit x.steps) _ all.0 in
    let nest = and_parts (is_child_nested p.children.items i) _ limit.1 in
    let states = and_parts (are_states true (drop x.first.0 ns) x.initial_values.items) _ nest.1 in
    elim (below_or k (from + n)) [
      | inl lo ↦
          let z : x.first.0 + (k - x.first.0) ≡ k = omega (arith, e, l) in
          subst (λ (y : List ℕ × Sort). is_input_sort y.1 ≡ true) (get_or-drop x.first.0 ns (k - x.first.0) ([], truth) ∙ ap (λ j. get_or ns j ([], truth)) z)
          (states_plain (drop x.first.0 ns) x.initial_values.items (k - x.first.0) states.0 (omega (arith, e, lo, l)))
      | inr hi ↦ privates_plain p (from + n) (suc i) total k cs here.1 all.1 hi b
    ]

pub private_plain : (p : Parts) (sorted : AreSorted p) (n k : ℕ) (s : Sort) → tops p ≤ n → n ≤ k → k < length p.terms.names → s ≡ sort_at p.terms.names k → is_input_sort s ≡ true
private_plain p sorted n k s t l b e = subst (λ x. is_input_sort x ≡ true) (sym e) (privates_plain p (tops p) 0 (length p.terms.names) k p.children.items sorted.declared.placed sorted.children (omega (arith, t, l)) b)

-- ---- what the top sees

first_part : (xs ys : List meaning.Value) (k : ℕ) → k < length xs → value_at (xs ++ ys) k ≡ value_at xs k
first_part [] ys k h = absurd (omega (arith, h))
first_part (x ∷ xs) ys zero h = refl
first_part (x ∷ xs) ys (suc k) h = first_part xs ys k (omega (arith, h))

second_part : (xs ys : List meaning.Value) (k : ℕ) → length xs ≤ k → value_at (xs ++ ys) k ≡ value_at ys (k - length xs)
second_part [] ys k h = ap (value_at ys) (let e : k ≡ k - 0 = omega arith in e)
second_part (x ∷ xs) ys zero h = absurd (omega (arith, h))
second_part (x ∷ xs) ys (suc k) h =
    let e : k - length xs ≡ suc k - suc (length xs) = omega arith in
    second_part xs ys k (omega (arith, h)) ∙ ap (value_at ys) e

-- values under the names of a part of the table
front_value : (n : ℕ) (ns : Entries Sort) (xs : List meaning.Value) (k : ℕ) → are_distinct ns ≡ true → n ≤ length ns → length xs ≡ n → k < n → valuation_of (values_by_name (take n ns) xs) (name_at ns k) ≡ value_at xs k
front_value n ns xs k d w l h =
    subst (λ (x : List ℕ × Sort). valuation_of (values_by_name (take n ns) xs) x.0 ≡ value_at xs k) (get_or-take n ns k ([], truth) h)
    (valuation-at (take n ns) xs k (distinct-take n ns d) (omega (arith, l, length-take n ns)) (omega (arith, length-take n ns)))

middle_value : (n m : ℕ) (ns : Entries Sort) (xs : List meaning.Value) (k : ℕ) → are_distinct ns ≡ true → n + m ≤ length ns → length xs ≡ m → n ≤ k → k < n + m → valuation_of (values_by_name (take m (drop n ns)) xs) (name_at ns k) ≡ value_at xs (k - n)
middle_value n m ns xs k d w l lo hi =
    let e : n + (k - n) ≡ k = omega arith in
    let there = get_or-drop n ns (k - n) ([], truth) ∙ ap (λ j. get_or ns j ([], truth)) e in
    subst (λ (x : List ℕ × Sort). valuation_of (values_by_name (take m (drop n ns)) xs) x.0 ≡ value_at xs (k - n)) there
    (front_value m (drop n ns) xs (k - n) (distinct-drop n ns d) (omega (arith, length-drop n ns)) l (omega arith))

-- the private states are not known in the top
private_hidden : (i from total : ℕ) (all cs : List Child) (k : ℕ) → are_placed from total cs ≡ true → from + k < total → may_read all None (get_or (private_scopes i cs) k Anywhere) ≡ false
unfolding is_around nesting
private_hidden i from total all [] k h b = let e = eqb-true from total h in absurd (omega (arith, e))
private_hidden i from total all (x ∷ cs) k h b =
    let n = length x.initial_values.items in
    elim (below_or k n) [
      | inl c ↦ ap (may_read all None) (at_copies n (Within i) (private_scopes (suc i) cs) k c)
      | inr c ↦
          let e : k ≡ n + (k - n) = omega arith in
          ap (λ j. may_read all None (get_or (private_scopes i (x ∷ cs)) j Anywhere)) e
          ∙ ap (may_read all None) (behind_copies n (Within i) (private_scopes (suc i) cs) (k - n))
          ∙ private_hidden (suc i) (from + n) total all cs (k - n) (and_parts (x.first.0 == from) _ h).1 (omega arith)
    ]

hidden_home : (p : Parts) (s : AreSorted p) (k : ℕ) → tops p ≤ k → k < length p.terms.names → may_read p.children.items None (home p (name_at p.terms.names k)) ≡ false
hidden_home p s k h b =
    let cs = p.children.items in
    let e : k ≡ tops p + (k - tops p) = omega arith in
    ap (may_read cs None) (home-at p k s.distinct s.declared.placed b)
    ∙ ap (λ j. may_read cs None (get_or (name_scopes (tops p) cs) j Anywhere)) e
    ∙ ap (may_read cs None) (behind_copies (tops p) Anywhere (private_scopes 0 cs) (k - tops p))
    ∙ private_hidden 0 (tops p) (length p.terms.names) cs cs (k - tops p) s.declared.placed (omega arith)

hidden_value : (p : Parts) (s : AreSorted p) (xs : List meaning.Value) (k : ℕ) → length xs ≡ length p.terms.names → tops p ≤ k → k < length p.terms.names → point_at p None xs (name_at p.terms.names k) ≡ number 0
hidden_value p s xs k l h b =
    known_point p None xs k s.distinct l b ∙ ap (λ r. cond r (value_at xs k) (number 0)) (hidden_home p s k h b)

-- the top sees the point of state and inputs, whatever values the private states of children have
start_point : (p : Parts) (s : AreSorted p) (name : Name) (q w zs xs : List meaning.Value) → length q ≡ length p.initial_values.items → length w ≡ p.inputs → length xs ≡ length p.terms.names → xs ≡ (q ++ w) ++ zs → point_at p None xs ≡ point_of (model_from name p) (state_valuation (model_from name p) q) (input_valuation (model_from name p) w)
start_point p s name q w zs xs qn wn l i =
    let ns = p.terms.names in
    let n = length p.initial_values.items in
    let m = p.inputs in
    let mo = model_from name p in
    let sv = state_valuation mo q in
    let iv = input_valuation mo w in
    let within = s.declared.within in
    let sv_is : (x : Name) → sv x ≡ valuation_of (values_by_name (take n ns) q) x = λ x. ap (λ t. valuation_of (values_by_name t q) x) (states_table ns p.initial_values.items) in
    let iv_is : (x : Name) → iv x ≡ valuation_of (values_by_name (take m (drop n ns)) w) x = λ x. ap (λ t. valuation_of (values_by_name t w) x) (inputs_table m (drop n ns)) in
    by_places ns (point_at p None xs) (point_of mo sv iv)
    (λ k b.
    let x = name_at ns k in
    elim (below_or k n) [
      | inl lo ↦
          top_value p s xs k l (omega arith)
          ∙ ap (λ ys. value_at ys k) i
          ∙ first_part (q ++ w) zs k (omega (arith, length-append q w, qn))
          ∙ first_part q w k (omega (arith, qn))
          ∙ sym (front_value n ns q k s.distinct (omega arith) qn lo)
          ∙ sym (sv_is x)
          ∙ sym (ap (λ r. cond r (iv x) (sv x)) (input_before m n ns k s.distinct lo b))
      | inr lo ↦ elim (below_or k (n + m)) [
        | inl hi ↦
            let at : k - length q ≡ k - n = omega (arith, qn) in
            top_value p s xs k l hi
            ∙ ap (λ ys. value_at ys k) i
            ∙ first_part (q ++ w) zs k (omega (arith, length-append q w, qn, wn))
            ∙ second_part q w k (omega (arith, qn))
            ∙ ap (value_at w) at
            ∙ sym (middle_value n m ns w k s.distinct (omega arith) wn lo hi)
            ∙ sym (iv_is x)
            ∙ sym (ap (λ r. cond r (iv x) (sv x)) (input_in m n ns k s.distinct lo hi b))
        | inr hi ↦
            hidden_value p s xs k l hi b
            ∙ sym (valuation-lacking (take n ns) q x (behind_take n ns k s.distinct lo b))
            ∙ sym (sv_is x)
            ∙ sym (ap (λ r. cond r (iv x) (sv x)) (input_behind m n ns k s.distinct hi b))
      ]
    ])
    (λ x u.
    lacking_point p None xs x u
    ∙ sym (valuation-lacking (take n ns) q x (lacks-take n ns x u))
    ∙ sym (sv_is x)
    ∙ sym (ap (λ r. cond r (iv x) (sv x)) (input_lacking m (drop n ns) x (lacks-drop n ns x u))))

worths-append : (g : Graph) (xs ys : List TermId) (v : Valuation) → worths g (xs ++ ys) v ≡ worths g xs v ++ worths g ys v
worths-append g [] ys v = refl
worths-append g (x ∷ xs) ys v = ap (λ (r : List meaning.Value). val (tree g x.0) v ∷ r) (worths-append g xs ys v)

pub start_sees : (g : Graph) (p : Parts) (s : AreSorted p) (name : Name) (states inputs more ids : List TermId) (v : Valuation) → length states ≡ length p.initial_values.items → length inputs ≡ p.inputs → AreLeaves g p.terms.names ids → ids ≡ (states ++ inputs) ++ more → sees g p None ids v ≡ point_of (model_from name p) (state_valuation (model_from name p) (worths g states v)) (input_valuation (model_from name p) (worths g inputs v))
start_sees g p s name states inputs more ids v qn wn leaves e =
    start_point p s name (worths g states v) (worths g inputs v) (worths g more v) (worths g ids v) (length-worths g states v ∙ qn) (length-worths g inputs v ∙ wn) (length-worths g ids v ∙ leaves.count)
    (ap (λ (r : List TermId). worths g r v) e ∙ worths-append g (states ++ inputs) more v ∙ ap (λ (r : List meaning.Value). r ++ worths g more v) (worths-append g states inputs v))

-- what is asked of the terms of states and inputs, by the places of the table
pub states_leaves : (g : Graph) (p : Parts) (ids : List TermId) → AreLeaves g (sorts_of_states (declared_states p.terms.names p.initial_values.items)) ids → AreLeaves g (take (length p.initial_values.items) p.terms.names) ids
states_leaves g p ids a = subst (λ (r : Entries Sort). AreLeaves g r ids) (states_table p.terms.names p.initial_values.items) a

pub inputs_leaves : (g : Graph) (p : Parts) (ids : List TermId) → AreLeaves g (sorts_of_inputs (declared_inputs p.inputs (drop (length p.initial_values.items) p.terms.names))) ids → AreLeaves g (take p.inputs (drop (length p.initial_values.items) p.terms.names)) ids
inputs_leaves g p ids a = subst (λ (r : Entries Sort). AreLeaves g r ids) (inputs_table p.inputs (drop (length p.initial_values.items) p.terms.names)) a

pub inputs_length : (g : Graph) (p : Parts) (s : AreSorted p) (ids : List TermId) → AreLeaves g (take p.inputs (drop (length p.initial_values.items) p.terms.names)) ids → length ids ≡ p.inputs
inputs_length g p s ids a =
    let n = length p.initial_values.items in
    let within = s.declared.within in
    a.count ∙ omega (arith, length-take p.inputs (drop n p.terms.names), length-drop n p.terms.names, within)

pub leaves_length : (g : Graph) (n : ℕ) (names : Entries Sort) (ids : List TermId) → n ≤ length names → AreLeaves g (take n names) ids → length ids ≡ n
leaves_length g n names ids l a = a.count ∙ omega (arith, length-take n names, l)

pub tops_before : (g : Graph) (p : Parts) (s : AreSorted p) (xs ys ids : List TermId) (k : ℕ) → AreLeaves g (take (length p.initial_values.items) p.terms.names) xs → AreLeaves g (take p.inputs (drop (length p.initial_values.items) p.terms.names)) ys → ids ≡ xs ++ ys → length ids ≤ k → tops p ≤ k
tops_before g p s xs ys ids k a b e l =
    let n = length p.initial_values.items in
    let ns = p.terms.names in
    let within = s.declared.within in
    let one : length xs ≡ n = omega (arith, a.count, length-take n ns, within) in
    let two : length ys ≡ p.inputs = omega (arith, b.count, length-take p.inputs (drop n ns), length-drop n ns, within) in
    let all : length ids ≡ n + p.inputs = ap (λ (r : List TermId). length r) e ∙ length-append xs ys ∙ omega (arith, one, two) in
    omega (arith, all, l)
