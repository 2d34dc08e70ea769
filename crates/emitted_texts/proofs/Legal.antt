-- The names of a model without child programs are legal: its own name, and those of its states and inputs, which are all of its table.
use Rattle.std.proofs.Common.{◌≡◌, ℕ, zero, suc, ◌+◌, ◌-◌, ◌<◌, ◌≤◌, true, false, ◌⊎◌, inl, inr, List, [], ◌∷◌, ◌++◌, map, length, drop, Option, refl, sym, ◌∙◌, ap, subst, arith}
use Rattle.std.specs.List.{list_all}
use Rattle.std.proofs.lemmas.Bool.{and_parts, and_from, eqb-true, cases_lt}
use Rattle.std.proofs.lemmas.List.{get_or-drop, length-drop}
use Rattle.wb_values.specs.Value.{Name, Sort, truth, Entries}
use Rattle.wb_values.specs.Names.{is_model_name}
use Rattle.model_meaning.specs.Model.{Machine, machine}
use Rattle.model_meaning.specs.Invariant.{all_machines, program_machines, gathered, state_names}
use Rattle.wb_terms.specs.declared.values.Value.{Value}
use Rattle.ila_model.specs.declared.parts.Child.{Child}
use Rattle.ila_model.specs.declared.parts.Parts.{Parts}
use Rattle.ila_model.specs.Scope.{tops}
use Rattle.ila_model.specs.Sorted.{are_distinct, are_declarations, are_states, are_inputs, are_placed}
use Rattle.ila_model.specs.Meaning.{declared_states, declared_inputs, model_from}
use Rattle.emitted_modules.specs.Nodes.{called_at}
use Rattle.emitted_texts.specs.Fitting.{IsPlainModel, IsPrintedModel}
use Rattle.emitted_texts.proofs.Stored.{fitting}

-- ---- lists of names

front_legal : (ms ns : List Name) → list_all is_model_name (ms ++ ns) ≡ true → (list_all is_model_name ms ≡ true) × (list_all is_model_name ns ≡ true)
front_legal [] ns h = (refl, h)
front_legal (m ∷ ms) ns h =
    let p = and_parts (is_model_name m) (list_all is_model_name (ms ++ ns)) h in
    let q = front_legal ms ns p.1 in
    (and_from (is_model_name m) (list_all is_model_name ms) p.0 q.0, q.1)

states_legal : (ns : Entries Sort) (is : List (Option Value)) → list_all is_model_name (map (λ s. s.state_name) (declared_states ns is)) ≡ true
    → (k : ℕ) → k < length is → k < length ns → is_model_name (called_at ns k) ≡ true
states_legal [] is h k low within = absurd (omega (arith, within))
states_legal (n ∷ ns) [] h k low within = absurd (omega (arith, low))
states_legal (n ∷ ns) (i ∷ is) h zero low within = (and_parts (is_model_name n.0) _ h).0
states_legal (n ∷ ns) (i ∷ is) h (suc k) low within = states_legal ns is (and_parts (is_model_name n.0) _ h).1 k (omega (arith, low)) (omega (arith, within))

inputs_legal : (m : ℕ) (ns : Entries Sort) → list_all is_model_name (map (λ i. i.input_name) (declared_inputs m ns)) ≡ true
    → (k : ℕ) → k < m → k < length ns → is_model_name (called_at ns k) ≡ true
inputs_legal zero ns h k low within = absurd (omega (arith, low))
inputs_legal (suc m) [] h k low within = absurd (omega (arith, within))
inputs_legal (suc m) (n ∷ ns) h zero low within = (and_parts (is_model_name n.0) _ h).0
inputs_legal (suc m) (n ∷ ns) h (suc k) low within = inputs_legal m ns (and_parts (is_model_name n.0) _ h).1 k (omega (arith, low)) (omega (arith, within))

own_states : (top : Machine) → list_all is_model_name (gathered state_names (all_machines top)) ≡ true → list_all is_model_name (state_names top) ≡ true
own_states (machine states valid is) h = (front_legal (map (λ s. s.state_name) states) (gathered state_names (program_machines is)) h).0

no_child_placed : (from total : ℕ) (cs : List Child) → cs ≡ [] → are_placed from total cs ≡ true → from ≡ total
no_child_placed from total [] e h = eqb-true from total h
no_child_placed from total (c ∷ cs) e h = absurd (no_more c cs e)
  where
    no_more : (c : Child) (cs : List Child) → c ∷ cs ≡ [] → ⊥
    no_more c cs e = cc

-- a name behind so many
behind_states : (ns : Entries Sort) (s m k : ℕ) → ((j : ℕ) → j < m → j < length (drop s ns) → is_model_name (called_at (drop s ns) j) ≡ true)
    → s ≤ k → k < s + m → k < length ns → is_model_name (called_at ns k) ≡ true
behind_states ns s m k h high few within =
    let back : s + (k - s) ≡ k = omega (arith, high) in
    let there : k - s < length (drop s ns) = omega (arith, length-drop s ns, within, high) in
    let low : k - s < m = omega (arith, few, high) in
    ap (λ (i : ℕ). is_model_name (called_at ns i)) (sym back)
    ∙ sym (ap (λ (e : Name × Sort). is_model_name e.0) (get_or-drop s ns (k - s) ([], truth)))
    ∙ h (k - s) low there

module _ (name : Name) (p : Parts) (h : IsPlainModel name p) where
  placed : tops p ≡ length p.terms.names
  placed =
      let a = and_parts (are_distinct p.terms.names) _ h.sorted in
      let b = and_parts (are_declarations p) _ a.1 in
      let c = and_parts (are_states false p.terms.names p.initial_values.items) _ b.0 in
      let d = and_parts (are_inputs p.inputs (drop (length p.initial_values.items) p.terms.names)) _ c.1 in
      no_child_placed (tops p) (length p.terms.names) p.children.items h.childless d.1

  valued : (list_all is_model_name (map (λ i. i.input_name) (model_from name p).inputs) ≡ true)
      × (list_all is_model_name (gathered state_names (all_machines (model_from name p).top)) ≡ true)
  valued = front_legal (map (λ i. i.input_name) (model_from name p).inputs) (gathered state_names (all_machines (model_from name p).top)) h.is_model.legal_names

  pub legal : (k : ℕ) → k < length p.terms.names → is_model_name (called_at p.terms.names k) ≡ true
  legal k within = by_place (cases_lt k (length p.initial_values.items))
    where
      by_place : (k < length p.initial_values.items) ⊎ (length p.initial_values.items ≤ k) → is_model_name (called_at p.terms.names k) ≡ true
      by_place (inl low) = states_legal p.terms.names p.initial_values.items (own_states (model_from name p).top valued.1) k low within
      by_place (inr high) =
          behind_states p.terms.names (length p.initial_values.items) p.inputs k (inputs_legal p.inputs (drop (length p.initial_values.items) p.terms.names) valued.0)
          high (subst (λ n. k < n) (sym placed) within) within

  pub printed_model : IsPrintedModel name p
  printed_model = record {
    named = h.is_model.legal_name;
    sorted = h.sorted;
    stored = h.stored;
    few = h.few;
    legal = legal;
    fitting = fitting p.terms h.typed legal;
  }
