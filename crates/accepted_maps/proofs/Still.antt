-- A map that no rule refuses gives states and invariants what uses no input.
use Rattle.std.proofs.Common.{◌≡◌, ◌∙◌, ℕ, zero, suc, Bool, true, false, cond, not, List, [], ◌∷◌, ◌++◌, map, slice_get, inl, inr, ◌⊎◌, ◌^◌, ◌-◌, Option, Some, None, is_some, refl, sym, ap, subst}
use Rattle.std.specs.Prelude.{IsTrue, ◌||◌}
use Rattle.std.proofs.lemmas.Bool.{and_parts, false≢true}
use Rattle.wb_values.specs.Value.{Name, same_name, Sort, truth, word, memory, Entries, entry_of}
use Rattle.model_meaning.specs.Model.{Model, StateDeclaration, states_of, state_named}
use Rattle.model_meaning.specs.Term.{is_memory_sort}
use Rattle.model_meaning.specs.Invariant.{is_memory_state}
use Rattle.verilog_trees.specs.Syntax.{Expression, name, whole, input}
use Rattle.verilog_meaning.specs.Expression.{is_memory}
use Rattle.verilog_meaning.specs.Register.{clocked_blocks, one_may_assign, is_bit_of}
use Rattle.verilog_meaning.specs.Hierarchy.{Declaration, declarations, declaration_of, Placed, placed_scope}
use Rattle.verilog_meaning.specs.Settled.{Design, IsPlacedIn, IsDeclared, HasPort, is_counted}
use Rattle.verilog_rules.specs.Expression.{refusal_of}
use Rattle.verilog_designs.specs.Drivers.{assigned_names, is_declared_reg, is_variable, is_fixed, is_declared_input, HasBadDriver}
use Rattle.verilog_designs.specs.Accepted.{IsAccepted, bad_driver}
use Rattle.verilog_unique.proofs.Options.{same_is, left_true, right_true}
use Rattle.verilog_unique.proofs.Descent.{IsAmong, among_left, among_right, contains_among}
use Rattle.verilog_exists.proofs.Directions.{input_declared}
use Rattle.verilog_exists.proofs.Drivers.{one_assigns}
use Rattle.verilog_exists.proofs.Declared.{assigned_name}
use Rattle.refinement.specs.Map.{sort_of_state, design_of}
use Rattle.map_files.specs.Written.{Text}
use Rattle.map_files.specs.Meaning.{BadExpression, MapUsesInput, MemoryMismatch}
use Rattle.map_rules.specs.Case.{MapCase, case_design, is_memory_named, value_texts, expression_texts}
use Rattle.map_rules.specs.Expressions.{ReadsAs, design_scope, breaks_rule, an_expression}
use Rattle.map_rules.specs.Mapped.{IsMemoryPath}
use Rattle.map_rules.specs.Accepted.{IsMapAccepted, case_of, AreRead, IsStateRead, a_value, a_memory, AreStatesRead}
use Rattle.input_free.specs.Free.{IsInputFree}
use Rattle.input_free.specs.Still.{NamesMemory, IsStillFor}
use Rattle.accepted_maps.specs.Still.{AcceptedMapsAreStill}
use Rattle.input_free.proofs.Scope.{declaration_named}
use Rattle.accepted_maps.proofs.Spelled.{spelled}

some_same : {A : Type 0} {x y : A} → Some x ≡ Some y → x ≡ y
some_same e = cc

none_is : {A : Type 0} (o : Option A) → ¬ IsTrue (is_some o) → o ≡ None
none_is None h = refl
none_is (Some x) h = absurd (h refl)

-- ---- a memory that a clocked block assigns

module _ (d : Design) (accepted : IsAccepted d) (p : Placed) (n : Name) (at : IsPlacedIn d p) (k b : ℕ) (counted : IsTrue (is_counted p n k b)) where
  -- it is a variable, and no input
  not_bad : ¬ IsTrue (not (is_variable p n) || is_fixed p n)
  not_bad t =
      let blocks = clocked_blocks p.of_module.items in
      let assigns = (and_parts (is_bit_of (placed_scope p n) k b) (one_may_assign (placed_scope p) blocks n k b) counted).1 in
      let x = one_assigns (placed_scope p) blocks n k b assigns in
      accepted bad_driver
      (HasBadDriver.in_clocked p x.0 n at (contains_among blocks x.0 x.1) (contains_among (assigned_names x.0) n (assigned_name (placed_scope p) x.0 n k b x.2)) t)

  is_variable_there : (t : Bool) → is_variable p n ≡ t → is_variable p n ≡ true
  is_variable_there true e = e
  is_variable_there false e = absurd (not_bad (left_true (not (is_variable p n)) (is_fixed p n) (ap not e)))

  declared_there : IsDeclared p n
  declared_there = by (declaration_of (declarations p.of_module) n) refl (is_variable_there (is_variable p n) refl)
    where
      by : (o : Option Declaration) → declaration_of (declarations p.of_module) n ≡ o → is_declared_reg o ≡ true → IsDeclared p n
      by None e t = absurd (false≢true t)
      by (Some x) e t = declaration_named (declarations p.of_module) n (ap is_some e)

  no_input_there : ¬ HasPort p.of_module n input
  no_input_there h =
      not_bad (right_true (not (is_variable p n)) (is_fixed p n)
      (left_true (is_declared_input (declaration_of (declarations p.of_module) n)) (is_some (placed_scope p n).constant) (input_declared p.of_module n h)))

path_is_inner : (d : Design) (t : Text) (a w : ℕ) → IsAccepted d → (m : IsMemoryPath d t a w) → NamesMemory d (name t whole)
path_is_inner d t a w accepted m =
    record {
      within = m.within;
      own = m.memory_name;
      selects = whole;
      is_memory =
          record {
            is_placed = m.is_placed;
            is_declared = declared_there d accepted m.within m.memory_name m.is_placed m.index m.place m.is_assigned;
            is_memory = by m.indexes;
            no_input = λ h. no_input_there d accepted m.within m.memory_name m.is_placed m.index m.place m.is_assigned h.1;
          };
      is_name = ap (λ n. name n whole) m.is_path;
    }
  where
    by : ((placed_scope m.within m.memory_name).addresses ≡ Some (0, 2 ^ a - 1)) ⊎ ((placed_scope m.within m.memory_name).addresses ≡ Some (2 ^ a - 1, 0))
        → is_memory (placed_scope m.within m.memory_name) ≡ true
    by (inl e) = ap is_some e
    by (inr e) = ap is_some e

-- ---- the texts of a map

read_at : (ts : List Text) (es : List Expression) → AreRead ts es → (k : ℕ) (e : Expression) → slice_get es k ≡ Some e → (t : Text) × IsAmong ts t × ReadsAs t e
read_at _ _ AreRead.none k e h = absurd (let c : None ≡ Some e = h in cc)
read_at _ _ (AreRead.read t f ts es r rest) zero e h = (t, inl refl, subst (ReadsAs t) (some_same h) r)
read_at _ _ (AreRead.read t f ts es r rest) (suc k) e h = let x = read_at ts es rest k e h in (x.0, inr x.1, x.2)

state_read : (m : Model) (ts : Entries Text) (es : Entries Expression) → AreStatesRead m ts es → (n : Name) (e : Expression) → entry_of es n ≡ Some e
    → (t : Text) × IsAmong ts (n, t) × IsStateRead m n t e
state_read m _ _ AreStatesRead.none n e h = absurd (let c : None ≡ Some e = h in cc)
state_read m _ _ (AreStatesRead.state c t f ts es r rest) n e h = by (same_name c n) refl h (state_read m ts es rest n e)
  where
    by : (b : Bool) → same_name c n ≡ b → cond b (Some f) (entry_of es n) ≡ Some e
        → (entry_of es n ≡ Some e → (u : Text) × IsAmong ts (n, u) × IsStateRead m n u e) → (u : Text) × IsAmong ((c, t) ∷ ts) (n, u) × IsStateRead m n u e
    by true q g later =
        let same = same_is c n q in
        (t, inl (ap (λ z. (z, t)) same), subst (λ z. IsStateRead m z t e) same (subst (IsStateRead m c t) (some_same g) r))
    by false q g later = let x = later g in (x.0, inr x.1, x.2)

value_there : (m : Model) (n : Name) (t : Text) (es : Entries Text) → IsAmong es (n, t) → is_memory_named m n ≡ false → IsAmong (value_texts m es) t
value_there m n t [] h f = absurd h
value_there m n t (e ∷ es) (inl q) f =
    subst (λ (x : Name × Text). IsAmong (cond (is_memory_named m x.0) (value_texts m es) (x.1 ∷ value_texts m es)) t) (sym q)
    (subst (λ b. IsAmong (cond b (value_texts m es) (t ∷ value_texts m es)) t) (sym f) (inl refl))
value_there m n t (e ∷ es) (inr h) f = by (is_memory_named m e.0) (value_there m n t es h f)
  where
    by : (b : Bool) → IsAmong (value_texts m es) t → IsAmong (cond b (value_texts m es) (e.1 ∷ value_texts m es)) t
    by true g = g
    by false g = inr g

module _ (c : MapCase) (judged : IsMapAccepted c) where
  -- an expression that the rules judge
  text_free : (t : Text) (e : Expression) → ReadsAs t e → IsAmong (expression_texts c) t
      → IsAmong (value_texts c.model c.written.states ++ c.written.invariants) t → IsInputFree (case_design c) e
  text_free t e r all stands =
      record {
        numbers_fit = spelled _ e _ _ r.is_spelled;
        unbroken = none_is (refusal_of (design_scope (case_design c)) e)
            (λ some. judged BadExpression (an_expression t (contains_among (expression_texts c) t all) (breaks_rule e r some)));
        no_input = λ u. judged MapUsesInput
            (record {
              text = t;
              tree = e;
              stands = contains_among (value_texts c.model c.written.states ++ c.written.invariants) t stands;
              is_read = r;
              uses_input = u;
            });
      }

  value_free : (n : Name) (t : Text) (e : Expression) → IsAmong c.written.states (n, t) → is_memory_named c.model n ≡ false → ReadsAs t e → IsInputFree (case_design c) e
  value_free n t e h f r =
      let w = c.written in
      let texts = value_texts c.model w.states in
      let here = value_there c.model n t w.states h f in
      let more = map (λ x. x.1) w.inputs ++ map (λ i. i.commit) w.instructions in
      text_free t e r
      (among_right w.assume (w.invariants ++ w.start ∷ (texts ++ more)) t (among_right w.invariants (w.start ∷ (texts ++ more)) t (inr (among_left texts more t here))))
      (among_left texts w.invariants t here)

  invariant_free : (t : Text) (e : Expression) → IsAmong c.written.invariants t → ReadsAs t e → IsInputFree (case_design c) e
  invariant_free t e h r =
      let w = c.written in
      let texts = value_texts c.model w.states in
      let more = map (λ x. x.1) w.inputs ++ map (λ i. i.commit) w.instructions in
      text_free t e r
      (among_right w.assume (w.invariants ++ w.start ∷ (texts ++ more)) t (among_left w.invariants (w.start ∷ (texts ++ more)) t h))
      (among_right texts w.invariants t h)

  module _ (accepted : IsAccepted (case_design c)) (n : Name) (q : StateDeclaration) (t : Text) (is : state_named (states_of c.model.top) n ≡ Some q)
      (h : IsAmong c.written.states (n, t)) where
    memory_kind : (o : Sort) → q.sort ≡ o → is_memory_named c.model n ≡ is_memory_sort o
    memory_kind o e = ap is_memory_state is ∙ ap is_memory_sort e

    state_free : (o : Sort) (e : Expression) → q.sort ≡ o → IsStateRead c.model n t e → IsStillFor (case_design c) o e
    state_free truth _ s (a_value e no_memory r) = value_free n t e h no_memory r
    state_free truth _ s (a_memory is_one) = absurd (false≢true (sym (memory_kind truth s) ∙ is_one))
    state_free (word w) _ s (a_value e no_memory r) = value_free n t e h no_memory r
    state_free (word w) _ s (a_memory is_one) = absurd (false≢true (sym (memory_kind (word w) s) ∙ is_one))
    state_free (memory a w) _ s (a_value e no_memory r) = absurd (false≢true (sym no_memory ∙ memory_kind (memory a w) s))
    state_free (memory a w) _ s (a_memory is_one) =
        λ no. judged MemoryMismatch
        (record {
          state = n;
          text = t;
          address_width = a;
          width = w;
          stands = contains_among c.written.states (n, t) h;
          is_memory = ap sort_of_state is ∙ ap Some s;
          no_path = λ m. no (path_is_inner (case_design c) t a w accepted m);
        })

pub accepted_still : AcceptedMapsAreStill
accepted_still s w accepted judged stands =
    record {
      states = λ n q e is at_n.
          let r = state_read s.model w.states s.map.states stands.states n e at_n in
          subst (λ d. IsStillFor d q.sort e) same (state_free c judged (subst IsAccepted (sym same) accepted) n q r.0 is r.1 q.sort e refl r.2);
      invariants = λ k e at_k.
          let r = read_at w.invariants s.map.invariants stands.invariants k e at_k in
          subst (λ d. IsInputFree d e) same (invariant_free c judged r.0 e r.1 r.2);
    }
  where
    c : MapCase
    c = case_of w s.model s.source

    same : case_design c ≡ design_of s
    same = let t = sym stands.top in let k = sym stands.clock in λ i. record { source = s.source; top = t i; clock = k i }
