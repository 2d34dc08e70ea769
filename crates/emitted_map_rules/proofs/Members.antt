-- The states and inputs of a model by their names, and the entries of its written map.
use Rattle.std.proofs.Common.{◌≡◌, Bool, true, false, cond, List, [], ◌∷◌, ◌++◌, map, ◌⊎◌, inl, inr, refl, sym, ◌∙◌, ap, subst, Option, Some, None}
use Rattle.std.specs.Prelude.{Contains}
use Rattle.std.specs.List.{list_all}
use Rattle.std.proofs.lemmas.Bool.{false≢true}
use Rattle.wb_values.specs.Value.{Name, same_name, Sort}
use Rattle.wb_values.specs.Names.{is_model_name}
use Rattle.model_meaning.specs.Model.{Model, Machine, machine, StateDeclaration, InputDeclaration, Instruction, states_of, state_named}
use Rattle.model_meaning.specs.Invariant.{all_machines, program_machines, inner_machines, gathered, state_names, IsModel}
use Rattle.refinement.specs.Map.{sort_of_state, sort_of_input}
use Rattle.map_files.specs.Written.{Text, InstructionEntry}
use Rattle.map_rules.specs.Case.{is_memory_named, value_texts, state_sort, input_sort}
use Rattle.verilog_unique.proofs.Options.{same_is, is_same}
use Rattle.verilog_unique.proofs.Descent.{IsAmong, among_left, among_contains}
use Rattle.emitted_designs.specs.Names.{commit_name}
use Rattle.emitted_designs.specs.Map.{in_byte_order, written_by_their_names, written_entry_for, mapped_state_names, mapped_input_names}
use Rattle.emitted_designs.specs.Module.{all_states}
use Rattle.map_texts.proofs.Emitted.{all_left, all_right, top_first}
use Rattle.emitted_map_rules.proofs.Lists.{same_some, mapped_from, all_of, ordered_among}

-- ---- states

-- a state of the model's own that has this name, and is the first that has
pub record IsState (m : Model) (n : Name) (d : StateDeclaration) : Type 0 where
  pub found : state_named (states_of m.top) n ≡ Some d
  pub among : IsAmong (states_of m.top) d
  pub named : d.state_name ≡ n

abbrev Named : List StateDeclaration → Name → StateDeclaration → Type 0
Named ss n d = (state_named ss n ≡ Some d) × IsAmong ss d × (d.state_name ≡ n)

named_at : (ss : List StateDeclaration) (n : Name) (d : StateDeclaration) → state_named ss n ≡ Some d → Named ss n d
named_at [] n d e = cc
named_at (s ∷ ss) n d e = by_test (same_name s.state_name n) refl e (λ f. named_at ss n d f)
  where
    by_test : (b : Bool) → same_name s.state_name n ≡ b → cond b (Some s) (state_named ss n) ≡ Some d → (state_named ss n ≡ Some d → Named ss n d)
        → (cond b (Some s) (state_named ss n) ≡ Some d) × IsAmong (s ∷ ss) d × (d.state_name ≡ n)
    by_test true same f more =
        let alike : s ≡ d = same_some f in (f, inl alike, ap (λ (x : StateDeclaration). x.state_name) (sym alike) ∙ same_is s.state_name n same)
    by_test false other f more = let k = more f in (f, inr k.1, k.2)

first_named : (ss : List StateDeclaration) (n : Name) → IsAmong (map (λ s. s.state_name) ss) n → (d : StateDeclaration) × (state_named ss n ≡ Some d)
first_named [] n h = absurd h
first_named (s ∷ ss) n h = by_test (same_name s.state_name n) refl h (λ g. first_named ss n g)
  where
    by_test : (b : Bool) → same_name s.state_name n ≡ b → (s.state_name ≡ n) ⊎ IsAmong (map (λ x. x.state_name) ss) n
        → (IsAmong (map (λ x. x.state_name) ss) n → (d : StateDeclaration) × (state_named ss n ≡ Some d))
        → (d : StateDeclaration) × (cond b (Some s) (state_named ss n) ≡ Some d)
    by_test true same g more = (s, refl)
    by_test false other (inl f) more =
        absurd (false≢true (sym other ∙ (ap (λ k. same_name k n) f ∙ is_same n)))
    by_test false other (inr g) more = more g

pub state_at : (m : Model) (n : Name) (d : StateDeclaration) → state_named (states_of m.top) n ≡ Some d → IsState m n d
state_at m n d e = let x = named_at (states_of m.top) n d e in record { found = x.0; among = x.1; named = x.2 }

pub state_called : (m : Model) (n : Name) → IsAmong (state_names m.top) n → (d : StateDeclaration) × IsState m n d
state_called m n h = let x = first_named (states_of m.top) n h in (x.0, state_at m n x.0 x.1)

-- the state that a sort stands for
pub state_of_sort : (m : Model) (n : Name) (t : Sort) → state_sort m n ≡ Some t → (d : StateDeclaration) × IsState m n d × (d.sort ≡ t)
state_of_sort m n t e = by_state (state_named (states_of m.top) n) refl e
  where
    by_state : (o : Option StateDeclaration) → state_named (states_of m.top) n ≡ o → sort_of_state o ≡ Some t
        → (d : StateDeclaration) × IsState m n d × (d.sort ≡ t)
    by_state None f g = cc
    by_state (Some d) f g = (d, state_at m n d f, same_some g)

in_all : (top : Machine) (d : StateDeclaration) → IsAmong (states_of top) d → IsAmong (gathered states_of (all_machines top)) d
in_all (machine states valid is) d h = among_left states (gathered states_of (program_machines is)) d h

-- A state of the model is among all states.
pub among_all : (m : Model) (n : Name) (d : StateDeclaration) → IsState m n d → IsAmong (all_states m) d
among_all m n d h = in_all m.top d h.among

-- ---- inputs

pub record IsInput (m : Model) (n : Name) (i : InputDeclaration) : Type 0 where
  pub among : IsAmong m.inputs i
  pub named : i.input_name ≡ n

abbrev Given : List InputDeclaration → Name → InputDeclaration → Type 0
Given is n i = IsAmong is i × (i.input_name ≡ n)

given_at : (is : List InputDeclaration) (n : Name) (t : Sort) → sort_of_input is n ≡ Some t → (i : InputDeclaration) × Given is n i × (i.sort ≡ t)
given_at [] n t e = cc
given_at (x ∷ is) n t e = by_test (same_name x.input_name n) refl e (λ f. given_at is n t f)
  where
    by_test : (b : Bool) → same_name x.input_name n ≡ b → cond b (Some x.sort) (sort_of_input is n) ≡ Some t
        → (sort_of_input is n ≡ Some t → (i : InputDeclaration) × Given is n i × (i.sort ≡ t))
        → (i : InputDeclaration) × Given (x ∷ is) n i × (i.sort ≡ t)
    by_test true same f more = (x, (inl refl, same_is x.input_name n same), same_some f)
    by_test false other f more = let k = more f in (k.0, (inr k.1.0, k.1.1), k.2)

pub input_of_sort : (m : Model) (n : Name) (t : Sort) → input_sort m n ≡ Some t → (i : InputDeclaration) × IsInput m n i × (i.sort ≡ t)
input_of_sort m n t e = let x = given_at m.inputs n t e in (x.0, record { among = x.1.0; named = x.1.1 }, x.2)

pub input_called : (m : Model) (n : Name) → IsAmong (map (λ i. i.input_name) m.inputs) n → (i : InputDeclaration) × IsInput m n i
input_called m n h = let x = mapped_from (λ (i : InputDeclaration). i.input_name) m.inputs n h in (x.0, record { among = x.1; named = x.2 })

-- ---- legal names

module _ (m : Model) (h : IsModel m) where
  abbrev of_inputs : List Name
  of_inputs = map (λ i. i.input_name) m.inputs

  abbrev inner : List Name
  inner = gathered state_names (inner_machines m.top)

  all_legal : list_all is_model_name (of_inputs ++ (state_names m.top ++ inner)) ≡ true
  all_legal = subst (λ ns. list_all is_model_name (of_inputs ++ ns) ≡ true) (top_first state_names m.top) h.legal_names

  pub legal_state : (n : Name) → IsAmong (state_names m.top) n → is_model_name n ≡ true
  legal_state n at =
      all_of is_model_name (state_names m.top) n
      (all_left is_model_name (state_names m.top) inner (all_right is_model_name of_inputs (state_names m.top ++ inner) all_legal)) at

  pub legal_input : (n : Name) → IsAmong (map (λ i. i.input_name) m.inputs) n → is_model_name n ≡ true
  legal_input n at = all_of is_model_name of_inputs n (all_left is_model_name of_inputs (state_names m.top ++ inner) all_legal) at

-- ---- entries of the map

-- an entry is of one of the names, and its text is the name
entry_of_names : (ns : List Name) (n t : Name) → Contains (written_by_their_names (in_byte_order ns)) (n, t) → IsAmong ns n × (t ≡ n)
entry_of_names ns n t h =
    let x = mapped_from (λ (k : Name). (k, k)) (in_byte_order ns) (n, t) (among_contains (written_by_their_names (in_byte_order ns)) (n, t) h) in
    let called : x.0 ≡ n = ap (λ (e : Name × Name). e.0) x.2 in
    let text : x.0 ≡ t = ap (λ (e : Name × Name). e.1) x.2 in
    (ordered_among ns n (subst (λ k. IsAmong (in_byte_order ns) k) called x.1), sym text ∙ called)

pub state_entry_at : (m : Model) (n : Name) (t : Text) → Contains (written_by_their_names (mapped_state_names m)) (n, t) → IsAmong (state_names m.top) n × (t ≡ n)
state_entry_at m n t h = entry_of_names (state_names m.top) n t h

pub input_entry_at : (m : Model) (n : Name) (t : Text) → Contains (written_by_their_names (mapped_input_names m)) (n, t)
    → IsAmong (map (λ i. i.input_name) m.inputs) n × (t ≡ n)
input_entry_at m n t h = entry_of_names (map (λ i. i.input_name) m.inputs) n t h

-- ---- texts of the map

values_among : (m : Model) (ns : List Name) (t : Text) → IsAmong (value_texts m (written_by_their_names ns)) t → IsAmong ns t × (is_memory_named m t ≡ false)
values_among m [] t h = absurd h
values_among m (n ∷ ns) t h = by_test (is_memory_named m n) refl h (λ g. values_among m ns t g)
  where
    by_test : (b : Bool) → is_memory_named m n ≡ b → IsAmong (cond b (value_texts m (written_by_their_names ns)) (n ∷ value_texts m (written_by_their_names ns))) t
        → (IsAmong (value_texts m (written_by_their_names ns)) t → IsAmong ns t × (is_memory_named m t ≡ false))
        → IsAmong (n ∷ ns) t × (is_memory_named m t ≡ false)
    by_test true is_mem g more = let k = more g in (inr k.0, k.1)
    by_test false no_mem (inl e) more = (inl e, subst (λ k. is_memory_named m k ≡ false) e no_mem)
    by_test false no_mem (inr g) more = let k = more g in (inr k.0, k.1)

-- the text of a state that is no memory is the state's name
pub value_text : (m : Model) (t : Text) → IsAmong (value_texts m (written_by_their_names (mapped_state_names m))) t
    → IsAmong (state_names m.top) t × (is_memory_named m t ≡ false)
value_text m t h = let x = values_among m (mapped_state_names m) t h in (ordered_among (state_names m.top) t x.0, x.1)

pub input_text : (m : Model) (t : Text) → IsAmong (map (λ (e : Name × Text). e.1) (written_by_their_names (mapped_input_names m))) t
    → IsAmong (map (λ i. i.input_name) m.inputs) t
input_text m t h =
    let x = mapped_from (λ (e : Name × Text). e.1) (written_by_their_names (mapped_input_names m)) t h in
    let y = mapped_from (λ (k : Name). (k, k)) (mapped_input_names m) x.0 x.1 in
    let same : y.0 ≡ t = ap (λ (e : Name × Text). e.1) y.2 ∙ x.2 in
    ordered_among (map (λ i. i.input_name) m.inputs) t (subst (λ k. IsAmong (mapped_input_names m) k) same y.1)

pub commit_text : (is : List Instruction) (t : Text) → IsAmong (map (λ (i : InstructionEntry). i.commit) (map written_entry_for is)) t → commit_name ≡ t
commit_text [] t h = absurd h
commit_text (i ∷ is) t (inl e) = e
commit_text (i ∷ is) t (inr h) = commit_text is t h
