-- Lemmas on names and places: what is found under a name of the table, in it and in parts of it, and under any other name.
use Rattle.std.proofs.Common.{◌≡◌, ℕ, zero, suc, ◌+◌, ◌-◌, ◌<◌, ◌≤◌, Bool, true, false, cond, nat_eq, List, [], ◌∷◌, ◌++◌, map, length, get_or, set, take, drop, replicate, Option, Some, None, option_map, is_some, is_none, ◌⊎◌, inl, inr, refl, sym, ap, ◌∙◌, subst, arith}
use Rattle.std.specs.Prelude.{◌==◌}
use Rattle.std.proofs.lemmas.Bool.{and_from, and_parts, cases_eq, eq-eqb, eqb-true, ne_eqb, false≢true}
use Rattle.std.proofs.lemmas.List.{get_or-drop, get_or-take, get_or-set_same, get_or-set_other, length-drop}
use Rattle.std.proofs.Math.ListN.{length-set}
use Rattle.wb_values.specs.Value as meaning
use Rattle.wb_values.specs.Value.{Name, same_name, Sort, truth, number, Entries, entry_of, value_or_zero, Valuation, valuation_of}
use Rattle.model_meaning.specs.Term.{Term}
use Rattle.model_meaning.specs.Model.{StateDeclaration, InputDeclaration, is_input_name, state_named}
use Rattle.wb_terms.specs.declared.values.Value.{Value}
use Rattle.wb_terms.specs.Graph.{Graph, tree}
use Rattle.wb_terms.specs.Environment.{as_value, values_by_name}
use Rattle.ila_model.specs.declared.parts.Update.{Update}
use Rattle.ila_model.specs.declared.parts.Child.{Child}
use Rattle.ila_model.specs.declared.parts.Parts.{Parts}
use Rattle.ila_model.specs.declared.scopes.Scope.{Scope}
use Rattle.ila_model.specs.declared.scopes.Scope.TheVariants.{Anywhere, Within}
use Rattle.ila_model.specs.Scope.{private_scopes, name_scopes, scoped, scope_or_any, home, tops}
use Rattle.ila_model.specs.Sorted.{are_distinct, are_placed, sort_at, name_at}
use Rattle.ila_model.specs.Meaning.{declared_states, private_states, declared_inputs, update_of}
use Rattle.ila_model.proofs.Declarations.{are_placed-within}
use Rattle.ila_model.proofs.Names.{same-from, same-refl, same-sym, lacks, none_at, first_is_apart, others_apart, scoped-at, length-name_scopes}
use Rattle.ila_child.specs.Values.{beginning}
use Rattle.ila_child.specs.Updating.{are_updates_of, update_at, value_at, with_initial}
use Rattle.ila_child.proofs.Updates.{first_update}

-- a name stands at a place of the table, or the table lacks it
pub place_of : (ns : Entries Sort) (n : Name) → ((k : ℕ) × (k < length ns) × (name_at ns k ≡ n)) ⊎ (entry_of ns n ≡ None)
place_of [] n = inr refl
place_of (m ∷ ns) n = here (same_name m.0 n) refl (place_of ns n)
  where
    here : (t : Bool) → same_name m.0 n ≡ t → ((k : ℕ) × (k < length ns) × (name_at ns k ≡ n)) ⊎ (entry_of ns n ≡ None) → ((k : ℕ) × (k < suc (length ns)) × (name_at (m ∷ ns) k ≡ n)) ⊎ (cond (same_name m.0 n) (Some m.1) (entry_of ns n) ≡ None)
    here true e r = inl (0, omega arith, same-from m.0 n e)
    here false e (inl r) = inl (suc r.0, omega (arith, r.1), r.2)
    here false e (inr r) = inr (ap (λ t. cond t (Some m.1) (entry_of ns n)) e ∙ r)

-- parts of a table
pub distinct-drop : (f : ℕ) (ns : Entries Sort) → are_distinct ns ≡ true → are_distinct (drop f ns) ≡ true
distinct-drop zero ns d = d
distinct-drop (suc f) [] d = refl
distinct-drop (suc f) (m ∷ ns) d = distinct-drop f ns (others_apart m ns d)

pub lacks-drop : (f : ℕ) (ns : Entries Sort) (n : Name) → entry_of ns n ≡ None → entry_of (drop f ns) n ≡ None
lacks-drop zero ns n e = e
lacks-drop (suc f) [] n e = refl
lacks-drop (suc f) (m ∷ ns) n e = lacks-drop f ns n (lacks (same_name m.0 n) m.1 (entry_of ns n) e).1

pub before_drop : (f : ℕ) (ns : Entries Sort) (k : ℕ) → are_distinct ns ≡ true → k < f → k < length ns → entry_of (drop f ns) (name_at ns k) ≡ None
before_drop zero ns k d h l = absurd (omega arith)
before_drop (suc f) [] k d h l = absurd (omega arith)
before_drop (suc f) (m ∷ ns) zero d h l = lacks-drop f ns m.0 (first_is_apart m ns d)
before_drop (suc f) (m ∷ ns) (suc k) d h l = before_drop f ns k (others_apart m ns d) (omega arith) (omega arith)

pub lacks-take : (f : ℕ) (ns : Entries Sort) (n : Name) → entry_of ns n ≡ None → entry_of (take f ns) n ≡ None
lacks-take zero ns n e = refl
lacks-take (suc f) [] n e = refl
lacks-take (suc f) (m ∷ ns) n e =
    let l = lacks (same_name m.0 n) m.1 (entry_of ns n) e in
    ap (λ t. cond t (Some m.1) (entry_of (take f ns) n)) l.0 ∙ lacks-take f ns n l.1

pub behind_take : (f : ℕ) (ns : Entries Sort) (k : ℕ) → are_distinct ns ≡ true → f ≤ k → k < length ns → entry_of (take f ns) (name_at ns k) ≡ None
behind_take zero ns k d h l = refl
behind_take (suc f) [] k d h l = absurd (omega arith)
behind_take (suc f) (m ∷ ns) zero d h l = absurd (omega arith)
behind_take (suc f) (m ∷ ns) (suc k) d h l =
    let apart = same-sym m.0 (name_at ns k) ∙ none_at ns m.0 k (first_is_apart m ns d) (omega arith) in
    ap (λ t. cond t (Some m.1) (entry_of (take f ns) (name_at ns k))) apart ∙ behind_take f ns k (others_apart m ns d) (omega arith) (omega arith)

pub distinct-take : (f : ℕ) (ns : Entries Sort) → are_distinct ns ≡ true → are_distinct (take f ns) ≡ true
distinct-take zero ns d = refl
distinct-take (suc f) [] d = refl
distinct-take (suc f) (m ∷ ns) d =
    let e = lacks-take f ns m.0 (first_is_apart m ns d) in
    and_from _ _ (ap is_none e) (distinct-take f ns (others_apart m ns d))

-- values under names
pub valuation-at : (ns : Entries Sort) (xs : List meaning.Value) (k : ℕ) → are_distinct ns ≡ true → length xs ≡ length ns → k < length ns → valuation_of (values_by_name ns xs) (name_at ns k) ≡ value_at xs k
valuation-at [] xs k d l h = absurd (omega arith)
valuation-at (m ∷ ns) [] k d l h = absurd (omega arith)
valuation-at (m ∷ ns) (x ∷ xs) zero d l h = ap (λ t. value_or_zero (cond t (Some x) (entry_of (values_by_name ns xs) m.0))) (same-refl m.0)
valuation-at (m ∷ ns) (x ∷ xs) (suc k) d l h =
    let apart = same-sym m.0 (name_at ns k) ∙ none_at ns m.0 k (first_is_apart m ns d) (omega arith) in
    ap (λ t. value_or_zero (cond t (Some x) (entry_of (values_by_name ns xs) (name_at ns k)))) apart
    ∙ valuation-at ns xs k (others_apart m ns d) (omega arith) (omega arith)

pub valuation-lacking : (ns : Entries Sort) (xs : List meaning.Value) (n : Name) → entry_of ns n ≡ None → valuation_of (values_by_name ns xs) n ≡ number 0
valuation-lacking [] xs n e = refl
valuation-lacking (m ∷ ns) [] n e = refl
valuation-lacking (m ∷ ns) (x ∷ xs) n e =
    let l = lacks (same_name m.0 n) m.1 (entry_of ns n) e in
    ap (λ t. value_or_zero (cond t (Some x) (entry_of (values_by_name ns xs) n))) l.0 ∙ valuation-lacking ns xs n l.1

-- scopes under names
scoped-lacking : (ns : Entries Sort) (ss : List Scope) (n : Name) → entry_of ns n ≡ None → scope_or_any (entry_of (scoped ns ss) n) ≡ Anywhere
scoped-lacking [] ss n e = refl
scoped-lacking (m ∷ ns) [] n e = refl
scoped-lacking (m ∷ ns) (s ∷ ss) n e =
    let l = lacks (same_name m.0 n) m.1 (entry_of ns n) e in
    ap (λ t. scope_or_any (cond t (Some s) (entry_of (scoped ns ss) n))) l.0 ∙ scoped-lacking ns ss n l.1

pub home-lacking : (p : Parts) (n : Name) → entry_of p.terms.names n ≡ None → home p n ≡ Anywhere
unfolding home
home-lacking p n e = scoped-lacking p.terms.names (name_scopes (tops p) p.children.items) n e

pub home-at : (p : Parts) (k : ℕ) → are_distinct p.terms.names ≡ true → are_placed (tops p) (length p.terms.names) p.children.items ≡ true → k < length p.terms.names → home p (name_at p.terms.names k) ≡ get_or (name_scopes (tops p) p.children.items) k Anywhere
unfolding home
home-at p k d h b =
    scoped-at p.terms.names (name_scopes (tops p) p.children.items) k d (length-name_scopes (tops p) (length p.terms.names) p.children.items h) b

-- a place in a list that begins with copies
pub at_copies : (n : ℕ) (s : Scope) (ss : List Scope) (k : ℕ) → k < n → get_or (replicate n s ++ ss) k Anywhere ≡ s
at_copies zero s ss k h = absurd (omega arith)
at_copies (suc n) s ss zero h = refl
at_copies (suc n) s ss (suc k) h = at_copies n s ss k (omega arith)

pub behind_copies : (n : ℕ) (s : Scope) (ss : List Scope) (k : ℕ) → get_or (replicate n s ++ ss) (n + k) Anywhere ≡ get_or ss k Anywhere
behind_copies zero s ss k = ap (λ j. get_or ss j Anywhere) (let e : 0 + k ≡ k = omega arith in e)
behind_copies (suc n) s ss k =
    let e : suc n + k ≡ suc (n + k) = omega arith in
    ap (λ j. get_or (s ∷ (replicate n s ++ ss)) j Anywhere) e ∙ behind_copies n s ss k

-- the names of the top
pub top_scope : (n : ℕ) (cs : List Child) (k : ℕ) → k < n → get_or (name_scopes n cs) k Anywhere ≡ Anywhere
top_scope n cs k h = at_copies n Anywhere (private_scopes 0 cs) k h

-- The private states of the child number c stand at these places, and at no others.
pub first_private : (from total : ℕ) (cs : List Child) (c : ℕ) (d : Child) → are_placed from total cs ≡ true → c < length cs → from ≤ (get_or cs c d).first.0
first_private from total [] c d h l = absurd (omega arith)
first_private from total (x ∷ cs) zero d h l = let e = eqb-true x.first.0 from (and_parts (x.first.0 == from) _ h).0 in omega (arith, e)
first_private from total (x ∷ cs) (suc c) d h l =
    let r = first_private (from + length x.initial_values.items) total cs c d (and_parts (x.first.0 == from) _ h).1 (omega arith) in
    omega (arith, r)

pub privates_within : (from total : ℕ) (cs : List Child) (c : ℕ) (d : Child) → are_placed from total cs ≡ true → c < length cs → (get_or cs c d).first.0 + length (get_or cs c d).initial_values.items ≤ total
privates_within from total [] c d h l = absurd (omega arith)
privates_within from total (x ∷ cs) zero d h l =
    let p = and_parts (x.first.0 == from) _ h in
    let e = eqb-true x.first.0 from p.0 in
    let w = are_placed-within (from + length x.initial_values.items) total cs p.1 in
    omega (arith, e, w)
privates_within from total (x ∷ cs) (suc c) d h l =
    privates_within (from + length x.initial_values.items) total cs c d (and_parts (x.first.0 == from) _ h).1 (omega arith)

pub private_scope : (i from total : ℕ) (cs : List Child) (c : ℕ) (d : Child) (k : ℕ) → are_placed from total cs ≡ true → c < length cs → (get_or cs c d).first.0 ≤ from + k → from + k < (get_or cs c d).first.0 + length (get_or cs c d).initial_values.items → get_or (private_scopes i cs) k Anywhere ≡ Within (i + c)
private_scope i from total [] c d k h l a b = absurd (omega arith)
private_scope i from total (x ∷ cs) zero d k h l a b =
    let e = eqb-true x.first.0 from (and_parts (x.first.0 == from) _ h).0 in
    let z : i ≡ i + 0 = omega arith in
    at_copies (length x.initial_values.items) (Within i) (private_scopes (suc i) cs) k (omega (arith, e)) ∙ ap (λ (j : ℕ). Within j) z
private_scope i from total (x ∷ cs) (suc c) d k h l a b =
    let n = length x.initial_values.items in
    let q = (and_parts (x.first.0 == from) _ h).1 in
    let f = first_private (from + n) total cs c d q (omega arith) in
    let p : k ≡ n + (k - n) = omega (arith, f) in
    let z : suc i + c ≡ i + suc c = omega arith in
    ap (λ j. get_or (private_scopes i (x ∷ cs)) j Anywhere) p
    ∙ behind_copies n (Within i) (private_scopes (suc i) cs) (k - n)
    ∙ private_scope (suc i) (from + n) total cs c d (k - n) q (omega arith) (omega (arith, f)) (omega (arith, f))
    ∙ ap (λ (j : ℕ). Within j) z

abbrev scope_number : Scope → ℕ
scope_number (Within a) = a
scope_number _ = 0

pub below_or : (k n : ℕ) → (k < n) ⊎ (n ≤ k)
below_or k zero = inr (omega arith)
below_or zero (suc n) = inl (omega arith)
below_or (suc k) (suc n) = elim (below_or k n) [ inl h ↦ inl (omega arith) | inr h ↦ inr (omega arith) ]

later_scope : (i : ℕ) (cs : List Child) (k j : ℕ) → get_or (private_scopes i cs) k Anywhere ≡ Within j → i ≤ j
later_scope i [] k j e = absurd (cc)
later_scope i (x ∷ cs) k j e =
    let n = length x.initial_values.items in
    elim (below_or k n) [
      | inl h ↦ let q : i ≡ j = ap scope_number (sym (at_copies n (Within i) (private_scopes (suc i) cs) k h) ∙ e) in omega (arith, q)
      | inr h ↦
          let p : k ≡ n + (k - n) = omega arith in
          let there = sym (behind_copies n (Within i) (private_scopes (suc i) cs) (k - n)) ∙ sym (ap (λ m. get_or (private_scopes i (x ∷ cs)) m Anywhere) p) ∙ e in
          let r = later_scope (suc i) cs (k - n) j there in
          omega (arith, r)
    ]

pub private_place : (i from total : ℕ) (cs : List Child) (c : ℕ) (d : Child) (k : ℕ) → are_placed from total cs ≡ true → c < length cs → get_or (private_scopes i cs) k Anywhere ≡ Within (i + c) → ((get_or cs c d).first.0 ≤ from + k) × (from + k < (get_or cs c d).first.0 + length (get_or cs c d).initial_values.items)
private_place i from total [] c d k h l e = absurd (omega arith)
private_place i from total (x ∷ cs) zero d k h l e =
    let n = length x.initial_values.items in
    let here = eqb-true x.first.0 from (and_parts (x.first.0 == from) _ h).0 in
    elim (below_or k n) [
      | inl b ↦ (omega (arith, here), omega (arith, here))
      | inr b ↦
          let p : k ≡ n + (k - n) = omega arith in
          let there = sym (behind_copies n (Within i) (private_scopes (suc i) cs) (k - n)) ∙ sym (ap (λ m. get_or (private_scopes i (x ∷ cs)) m Anywhere) p) ∙ e in
          let late = later_scope (suc i) cs (k - n) (i + 0) there in
          absurd (omega (arith, late))
    ]
private_place i from total (x ∷ cs) (suc c) d k h l e =
    let n = length x.initial_values.items in
    let placed = and_parts (x.first.0 == from) _ h in
    elim (below_or k n) [
      | inl b ↦
          let q : i ≡ i + suc c = ap scope_number (sym (at_copies n (Within i) (private_scopes (suc i) cs) k b) ∙ e) in
          absurd (omega (arith, q))
      | inr b ↦
          let p : k ≡ n + (k - n) = omega arith in
          let there = sym (behind_copies n (Within i) (private_scopes (suc i) cs) (k - n)) ∙ sym (ap (λ m. get_or (private_scopes i (x ∷ cs)) m Anywhere) p) ∙ e in
          let z : i + suc c ≡ suc i + c = omega arith in
          let r = private_place (suc i) (from + n) total cs c d (k - n) placed.1 (omega arith) (there ∙ ap (λ (j : ℕ). Within j) z) in
          let r0 = r.0 in
          let r1 = r.1 in
          (omega arith, omega arith)
    ]

-- the same among the scopes of all names
pub private_name_scope : (n total : ℕ) (cs : List Child) (c : ℕ) (d : Child) (k : ℕ) → are_placed n total cs ≡ true → c < length cs → (get_or cs c d).first.0 ≤ k → k < (get_or cs c d).first.0 + length (get_or cs c d).initial_values.items → get_or (name_scopes n cs) k Anywhere ≡ Within c
private_name_scope n total cs c d k h l a b =
    let f = first_private n total cs c d h l in
    let p : k ≡ n + (k - n) = omega (arith, f) in
    let z : 0 + c ≡ c = omega arith in
    ap (λ j. get_or (name_scopes n cs) j Anywhere) p
    ∙ behind_copies n Anywhere (private_scopes 0 cs) (k - n)
    ∙ private_scope 0 n total cs c d (k - n) h l (omega (arith, f)) (omega (arith, f))
    ∙ ap (λ (j : ℕ). Within j) z

pub private_name_place : (n total : ℕ) (cs : List Child) (c : ℕ) (d : Child) (k : ℕ) → are_placed n total cs ≡ true → c < length cs → get_or (name_scopes n cs) k Anywhere ≡ Within c → ((get_or cs c d).first.0 ≤ k) × (k < (get_or cs c d).first.0 + length (get_or cs c d).initial_values.items)
private_name_place n total cs c d k h l e = elim (below_or k n) [
  | inl b ↦ let clash : Anywhere ≡ Within c = sym (top_scope n cs k b) ∙ e in absurd (cc)
  | inr b ↦
      let p : k ≡ n + (k - n) = omega arith in
      let z : c ≡ 0 + c = omega arith in
      let there = sym (behind_copies n Anywhere (private_scopes 0 cs) (k - n)) ∙ sym (ap (λ j. get_or (name_scopes n cs) j Anywhere) p) ∙ e ∙ ap (λ (j : ℕ). Within j) z in
      let r = private_place 0 n total cs c d (k - n) h l there in
      let r0 = r.0 in
      let r1 = r.1 in
      (omega arith, omega arith)
]

-- The states of a part of the table, each with an initial value by its sort and what is stated.
abbrev pub states_by : (Sort → Option Value → Option meaning.Value) → Entries Sort → List (Option Value) → List StateDeclaration
states_by f [] is = []
states_by f (n ∷ ns) [] = []
states_by f (n ∷ ns) (i ∷ is) = record { state_name = n.0; sort = n.1; init = f n.1 i } ∷ states_by f ns is

abbrev pub stated_only : Sort → Option Value → Option meaning.Value
stated_only s i = option_map as_value i

abbrev pub always : Sort → Option Value → Option meaning.Value
always s i = Some (beginning s i)

pub declared-by : (ns : Entries Sort) (is : List (Option Value)) → declared_states ns is ≡ states_by stated_only ns is
declared-by [] is = refl
declared-by (n ∷ ns) [] = refl
declared-by (n ∷ ns) (i ∷ is) = ap (λ ss. record { state_name = n.0; sort = n.1; init = option_map as_value i } ∷ ss) (declared-by ns is)

pub privates-by : (ns : Entries Sort) (is : List (Option Value)) → private_states ns is ≡ states_by always ns is
privates-by [] is = refl
privates-by (n ∷ ns) [] = refl
privates-by (n ∷ ns) (i ∷ is) = ap (λ ss. record { state_name = n.0; sort = n.1; init = Some (beginning n.1 i) } ∷ ss) (privates-by ns is)

pub named-lacking : (f : Sort → Option Value → Option meaning.Value) (ns : Entries Sort) (is : List (Option Value)) (n : Name) → entry_of ns n ≡ None → state_named (states_by f ns is) n ≡ None
named-lacking f [] is n e = refl
named-lacking f (m ∷ ns) [] n e = refl
named-lacking f (m ∷ ns) (i ∷ is) n e =
    let l = lacks (same_name m.0 n) m.1 (entry_of ns n) e in
    ap (λ t. cond t (Some (record { state_name = m.0; sort = m.1; init = f m.1 i })) (state_named (states_by f ns is) n)) l.0 ∙ named-lacking f ns is n l.1

named_there : (f : Sort → Option Value → Option meaning.Value) (ns : Entries Sort) (is : List (Option Value)) (j : ℕ) (d : Option Value) → are_distinct ns ≡ true → j < length is → j < length ns → state_named (states_by f ns is) (name_at ns j) ≡ Some (record { state_name = name_at ns j; sort = sort_at ns j; init = f (sort_at ns j) (get_or is j d) })
named_there f [] is j d e h l = absurd (omega arith)
named_there f (m ∷ ns) [] j d e h l = absurd (omega arith)
named_there f (m ∷ ns) (i ∷ is) zero d e h l =
    ap (λ t. cond t (Some (record { state_name = m.0; sort = m.1; init = f m.1 i })) (state_named (states_by f ns is) m.0)) (same-refl m.0)
named_there f (m ∷ ns) (i ∷ is) (suc j) d e h l =
    let apart = same-sym m.0 (name_at ns j) ∙ none_at ns m.0 j (first_is_apart m ns e) (omega arith) in
    ap (λ t. cond t (Some (record { state_name = m.0; sort = m.1; init = f m.1 i })) (state_named (states_by f ns is) (name_at ns j))) apart
    ∙ named_there f ns is j d (others_apart m ns e) (omega arith) (omega arith)

named_past : (f : Sort → Option Value → Option meaning.Value) (ns : Entries Sort) (is : List (Option Value)) (j : ℕ) → are_distinct ns ≡ true → length is ≤ j → j < length ns → state_named (states_by f ns is) (name_at ns j) ≡ None
named_past f [] is j e h l = refl
named_past f (m ∷ ns) [] j e h l = refl
named_past f (m ∷ ns) (i ∷ is) zero e h l = absurd (omega arith)
named_past f (m ∷ ns) (i ∷ is) (suc j) e h l =
    let apart = same-sym m.0 (name_at ns j) ∙ none_at ns m.0 j (first_is_apart m ns e) (omega arith) in
    ap (λ t. cond t (Some (record { state_name = m.0; sort = m.1; init = f m.1 i })) (state_named (states_by f ns is) (name_at ns j))) apart
    ∙ named_past f ns is j (others_apart m ns e) (omega arith) (omega arith)

entry_drop : (ns : Entries Sort) (f k : ℕ) → f ≤ k → get_or (drop f ns) (k - f) ([], truth) ≡ get_or ns k ([], truth)
entry_drop ns f k h =
    let e : f + (k - f) ≡ k = omega arith in
    get_or-drop f ns (k - f) ([], truth) ∙ ap (λ j. get_or ns j ([], truth)) e

-- the states from a place of the table on: at their places, before them, behind them
pub named_in : (f : Sort → Option Value → Option meaning.Value) (ns : Entries Sort) (first : ℕ) (is : List (Option Value)) (k : ℕ) (d : Option Value) → are_distinct ns ≡ true → first ≤ k → k < first + length is → k < length ns → state_named (states_by f (drop first ns) is) (name_at ns k) ≡ Some (record { state_name = name_at ns k; sort = sort_at ns k; init = f (sort_at ns k) (get_or is (k - first) d) })
named_in f ns first is k d e a b l =
    let P : List ℕ × Sort → Type 0 = λ x. state_named (states_by f (drop first ns) is) x.0 ≡ Some (record { state_name = x.0; sort = x.1; init = f x.1 (get_or is (k - first) d) }) in
    subst P (entry_drop ns first k a) (named_there f (drop first ns) is (k - first) d (distinct-drop first ns e) (omega arith) (omega (arith, length-drop first ns)))

pub named_before : (f : Sort → Option Value → Option meaning.Value) (ns : Entries Sort) (first : ℕ) (is : List (Option Value)) (k : ℕ) → are_distinct ns ≡ true → k < first → k < length ns → state_named (states_by f (drop first ns) is) (name_at ns k) ≡ None
named_before f ns first is k e a l = named-lacking f (drop first ns) is (name_at ns k) (before_drop first ns k e a l)

pub named_behind : (f : Sort → Option Value → Option meaning.Value) (ns : Entries Sort) (first : ℕ) (is : List (Option Value)) (k : ℕ) → are_distinct ns ≡ true → first + length is ≤ k → k < length ns → state_named (states_by f (drop first ns) is) (name_at ns k) ≡ None
named_behind f ns first is k e a l =
    let P : List ℕ × Sort → Type 0 = λ x. state_named (states_by f (drop first ns) is) x.0 ≡ None in
    subst P (entry_drop ns first k (omega arith)) (named_past f (drop first ns) is (k - first) (distinct-drop first ns e) (omega arith) (omega (arith, length-drop first ns)))

-- inputs
pub input_lacking : (m : ℕ) (ns : Entries Sort) (n : Name) → entry_of ns n ≡ None → is_input_name (declared_inputs m ns) n ≡ false
input_lacking zero ns n e = refl
input_lacking (suc m) [] n e = refl
input_lacking (suc m) (x ∷ ns) n e =
    let l = lacks (same_name x.0 n) x.1 (entry_of ns n) e in
    ap (λ t. cond t true (is_input_name (declared_inputs m ns) n)) l.0 ∙ input_lacking m ns n l.1

input_there : (m : ℕ) (ns : Entries Sort) (j : ℕ) → are_distinct ns ≡ true → j < m → j < length ns → is_input_name (declared_inputs m ns) (name_at ns j) ≡ true
input_there zero ns j e h l = absurd (omega arith)
input_there (suc m) [] j e h l = absurd (omega arith)
input_there (suc m) (x ∷ ns) zero e h l = ap (λ t. cond t true (is_input_name (declared_inputs m ns) x.0)) (same-refl x.0)
input_there (suc m) (x ∷ ns) (suc j) e h l =
    let apart = same-sym x.0 (name_at ns j) ∙ none_at ns x.0 j (first_is_apart x ns e) (omega arith) in
    ap (λ t. cond t true (is_input_name (declared_inputs m ns) (name_at ns j))) apart ∙ input_there m ns j (others_apart x ns e) (omega arith) (omega arith)

input_past : (m : ℕ) (ns : Entries Sort) (j : ℕ) → are_distinct ns ≡ true → m ≤ j → j < length ns → is_input_name (declared_inputs m ns) (name_at ns j) ≡ false
input_past zero ns j e h l = refl
input_past (suc m) [] j e h l = refl
input_past (suc m) (x ∷ ns) zero e h l = absurd (omega arith)
input_past (suc m) (x ∷ ns) (suc j) e h l =
    let apart = same-sym x.0 (name_at ns j) ∙ none_at ns x.0 j (first_is_apart x ns e) (omega arith) in
    ap (λ t. cond t true (is_input_name (declared_inputs m ns) (name_at ns j))) apart ∙ input_past m ns j (others_apart x ns e) (omega arith) (omega arith)

pub input_in : (m s : ℕ) (ns : Entries Sort) (k : ℕ) → are_distinct ns ≡ true → s ≤ k → k < s + m → k < length ns → is_input_name (declared_inputs m (drop s ns)) (name_at ns k) ≡ true
input_in m s ns k e a b l =
    subst (λ (x : List ℕ × Sort). is_input_name (declared_inputs m (drop s ns)) x.0 ≡ true) (entry_drop ns s k a)
    (input_there m (drop s ns) (k - s) (distinct-drop s ns e) (omega arith) (omega (arith, length-drop s ns)))

pub input_before : (m s : ℕ) (ns : Entries Sort) (k : ℕ) → are_distinct ns ≡ true → k < s → k < length ns → is_input_name (declared_inputs m (drop s ns)) (name_at ns k) ≡ false
input_before m s ns k e a l = input_lacking m (drop s ns) (name_at ns k) (before_drop s ns k e a l)

pub input_behind : (m s : ℕ) (ns : Entries Sort) (k : ℕ) → are_distinct ns ≡ true → s + m ≤ k → k < length ns → is_input_name (declared_inputs m (drop s ns)) (name_at ns k) ≡ false
input_behind m s ns k e a l =
    subst (λ (x : List ℕ × Sort). is_input_name (declared_inputs m (drop s ns)) x.0 ≡ false) (entry_drop ns s k (omega arith))
    (input_past m (drop s ns) (k - s) (distinct-drop s ns e) (omega arith) (omega (arith, length-drop s ns)))

nat_eq-suc : (i k : ℕ) → nat_eq (suc i) (suc k) ≡ nat_eq i k
nat_eq-suc i k = elim (cases_eq i k) [
  | inl e ↦ eq-eqb (suc i) (suc k) (ap suc e) ∙ sym (eq-eqb i k e)
  | inr ne ↦ ne_eqb (suc i) (suc k) (λ e. ne (omega (arith, e))) ∙ sym (ne_eqb i k ne)
]

-- two places of a table have one name only where they are one
same_name-at : (ns : Entries Sort) (i k : ℕ) → are_distinct ns ≡ true → i < length ns → k < length ns → same_name (name_at ns i) (name_at ns k) ≡ nat_eq i k
same_name-at [] i k d h j = absurd (omega arith)
same_name-at (m ∷ ns) zero zero d h j = same-refl m.0
same_name-at (m ∷ ns) zero (suc k) d h j =
    same-sym m.0 (name_at ns k) ∙ none_at ns m.0 k (first_is_apart m ns d) (omega arith) ∙ sym (ne_eqb 0 (suc k) (λ e. absurd (omega (arith, e))))
same_name-at (m ∷ ns) (suc i) zero d h j =
    none_at ns m.0 i (first_is_apart m ns d) (omega arith) ∙ sym (ne_eqb (suc i) 0 (λ e. absurd (omega (arith, e))))
same_name-at (m ∷ ns) (suc i) (suc k) d h j = same_name-at ns i k (others_apart m ns d) (omega arith) (omega arith) ∙ sym (nat_eq-suc i k)

-- updates by names
pub update-named : (g : Graph) (from : ℕ) (us : List Update) (k : ℕ) → are_distinct g.names ≡ true → are_updates_of g from us ≡ true → k < length g.names → entry_of (map (update_of g) us) (name_at g.names k) ≡ update_at g us k
update-named g from [] k d s h = refl
update-named g from (u ∷ us) k d s h =
    let f = first_update g from u us s in
    let t : Term = tree g u.term.0 in
    ap (λ b. cond b (Some t) (entry_of (map (update_of g) us) (name_at g.names k))) (same_name-at g.names u.state.0 k d f.state h)
    ∙ ap (λ o. cond (nat_eq u.state.0 k) (Some t) o) (update-named g (suc u.state.0) us k d f.later h)

pub update-lacking : (g : Graph) (from : ℕ) (us : List Update) (n : Name) → are_updates_of g from us ≡ true → entry_of g.names n ≡ None → entry_of (map (update_of g) us) n ≡ None
update-lacking g from [] n s e = refl
update-lacking g from (u ∷ us) n s e =
    let f = first_update g from u us s in
    let t : Term = tree g u.term.0 in
    ap (λ b. cond b (Some t) (entry_of (map (update_of g) us) n)) (none_at g.names n u.state.0 e f.state)
    ∙ update-lacking g (suc u.state.0) us n f.later e

-- the values with which private states begin
pub length-with_initial : (ns : Entries Sort) (f : ℕ) (is : List (Option Value)) (xs : List meaning.Value) → length (with_initial ns f is xs) ≡ length xs
length-with_initial ns f [] xs = refl
length-with_initial ns f (i ∷ is) xs = length-with_initial ns (suc f) is (set xs f (beginning (sort_at ns f) i)) ∙ length-set xs f (beginning (sort_at ns f) i)

pub begun_before : (ns : Entries Sort) (f : ℕ) (is : List (Option Value)) (xs : List meaning.Value) (k : ℕ) → k < f → value_at (with_initial ns f is xs) k ≡ value_at xs k
begun_before ns f [] xs k h = refl
begun_before ns f (i ∷ is) xs k h =
    begun_before ns (suc f) is (set xs f (beginning (sort_at ns f) i)) k (omega arith)
    ∙ get_or-set_other xs f k (beginning (sort_at ns f) i) (number 0) (λ e. absurd (omega (arith, e)))

pub begun_behind : (ns : Entries Sort) (f : ℕ) (is : List (Option Value)) (xs : List meaning.Value) (k : ℕ) → f + length is ≤ k → value_at (with_initial ns f is xs) k ≡ value_at xs k
begun_behind ns f [] xs k h = refl
begun_behind ns f (i ∷ is) xs k h =
    begun_behind ns (suc f) is (set xs f (beginning (sort_at ns f) i)) k (omega arith)
    ∙ get_or-set_other xs f k (beginning (sort_at ns f) i) (number 0) (λ e. absurd (omega (arith, e)))

pub begun_in : (ns : Entries Sort) (f : ℕ) (is : List (Option Value)) (xs : List meaning.Value) (k : ℕ) (d : Option Value) → f ≤ k → k < f + length is → k < length xs → value_at (with_initial ns f is xs) k ≡ beginning (sort_at ns k) (get_or is (k - f) d)
begun_in ns f [] xs k d a b l = absurd (omega arith)
begun_in ns f (i ∷ is) xs k d a b l =
    let v = beginning (sort_at ns f) i in
    elim (below_or f k) [
      | inl h ↦
          let p : suc (k - suc f) ≡ k - f = omega arith in
          begun_in ns (suc f) is (set xs f v) k d (omega arith) (omega arith) (omega (arith, length-set xs f v))
          ∙ ap (λ j. beginning (sort_at ns k) (get_or (i ∷ is) j d)) p
      | inr h ↦
          let q : f ≡ k = omega arith in
          let z : 0 ≡ k - f = omega arith in
          let start : value_at (with_initial ns (suc f) is (set xs f v)) f ≡ v = begun_before ns (suc f) is (set xs f v) f (omega arith) ∙ get_or-set_same xs f v (number 0) (omega arith) in
          subst (λ j. value_at (with_initial ns (suc f) is (set xs f v)) j ≡ beginning (sort_at ns j) i) q start
          ∙ ap (λ j. beginning (sort_at ns k) (get_or (i ∷ is) j d)) z
    ]
