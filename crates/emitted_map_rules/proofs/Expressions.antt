-- The expressions of the map are good ones, and so is its reset.
use Rattle.std.proofs.Common.{◌≡◌, ℕ, Bool, true, false, cond, not, ◌&&◌, ◌||◌, ◌==◌, nat_lt, List, [], ◌∷◌, ◌++◌, map, ◌⊎◌, inl, inr, refl, sym, ◌∙◌, ap, subst, arith}
use Rattle.std.specs.Prelude.{Contains, is_some, is_none, codes}
use Rattle.std.proofs.lemmas.Bool.{false≢true, and_parts}
use Rattle.std.proofs.lemmas.Bool.Decides.{nat_tests}
use Rattle.wb_values.specs.Value.{Name, same_name, Sort, truth, word, memory, entry_of}
use Rattle.wb_values.specs.Names.{begins_with_wb}
use Rattle.model_meaning.specs.Term.{is_sort, is_width, is_memory_sort}
use Rattle.model_meaning.specs.Model.{Model, states_of, instructions_in}
use Rattle.model_meaning.specs.Invariant.{IsModel, state_names, is_memory_state}
use Rattle.verilog_trees.specs.Syntax.{Number, Expression, whole, input, output, Module}
use Rattle.verilog_meaning.specs.Expression.{Object, object_width, is_memory}
use Rattle.verilog_meaning.specs.Hierarchy.{PathStep, Placed, dotted, instance_step}
use Rattle.verilog_meaning.specs.Settled.{Design, port_directions, HasPort, whole_name}
use Rattle.verilog_rules.specs.Expression.{Broken, nothing, also, first_broken, anywhere, by_name, by_number, has_many_words, refusal_of}
use Rattle.verilog_designs.specs.Names.{is_among, names_in}
use Rattle.verilog_designs.specs.Ports.{is_input}
use Rattle.verilog_designs.specs.Clocks.{IsClockNet}
use Rattle.verilog_designs.specs.Accepted.{is_input_port}
use Rattle.map_files.specs.Written.{Text, InstructionEntry}
use Rattle.map_rules.specs.Case.{is_memory_named, value_texts, expression_texts}
use Rattle.map_rules.specs.Expressions.{ReadsAs, NamesClock, IsBadExpression, is_one_bit_input, is_reset, HasBadExpression}
use Rattle.verilog_unique.proofs.Options.{is_same}
use Rattle.verilog_unique.proofs.Descent.{IsAmong, among_either, among_contains, contains_among}
use Rattle.verilog_unique.proofs.Paths.{stands_at}
use Rattle.emitted_designs.specs.Names.{clock_name, reset_name, start_name, commit_name, busy_name}
use Rattle.emitted_designs.specs.Bounds.{has_children}
use Rattle.emitted_designs.specs.Map.{rest_expression, written_map, mapped_state_names, mapped_input_names, written_by_their_names, written_entry_for}
use Rattle.emitted_designs.specs.Module.{object_of, HoldsSort, control_inputs, control_outputs, input_ports, IsRegisterOf, all_states}
use Rattle.emitted_designs.specs.Emits.{IsEmittedModule}
use Rattle.map_texts.proofs.Words.{name_reads, start_reads, commit_reads, rest_reads}
use Rattle.emitted_map_rules.specs.Rules.{case_over, HasSortsInRange, EmittedExpressionsAreGood}
use Rattle.emitted_map_rules.proofs.Names.{IsPlainName, at_top, not_own, plain_name}
use Rattle.emitted_map_rules.proofs.Members.{state_called, among_all, input_called, legal_state, legal_input, value_text, input_text, commit_text}
use Rattle.emitted_map_rules.proofs.Ports.{in_scope, port_declared}
use Rattle.emitted_map_rules.proofs.Scope.{TextsAreReadOnce, design_over, scope_over, placed, object_read}

-- ---- what a name breaks

-- a name that is declared, has no more than 128 bits, and is no memory
pub record IsGoodObject (o : Object) : Type 0 where
  pub declared : o.is_declared ≡ true
  pub narrow : nat_lt 128 (object_width o) ≡ false
  pub no_memory : is_memory o ≡ false

-- by the answers of three tests
abbrev flaws : (declared wide is_mem : Bool) → Object → Broken
flaws d w m o =
    also
    (record {
      undeclared = not d;
      has_xz = false;
      bad_constant = d && (false && is_none o.constant);
      width_over_128 = d && w;
      bad_select = d && false;
      memory_use = d && (m && (true || has_many_words o.addresses));
      misshapen = false;
    })
    nothing

unbroken : (o : Object) → IsGoodObject o → also (by_name anywhere o whole) nothing ≡ nothing
unbroken o h =
    ap (λ d. flaws d (nat_lt 128 (object_width o)) (is_memory o) o) h.declared
    ∙ (ap (λ w. flaws true w (is_memory o) o) h.narrow ∙ ap (λ m. flaws true false m o) h.no_memory)

bits_fit : (t : Sort) (o : Object) → is_sort t ≡ true → is_memory_sort t ≡ false → o.is_declared ≡ true → HoldsSort t o → IsGoodObject o
bits_fit truth o range bits declared h =
    record { declared = declared; narrow = ap (nat_lt 128) h.0; no_memory = ap is_some h.1 }
bits_fit (word w) o range bits declared h =
    record { declared = declared; narrow = ap (nat_lt 128) h.0 ∙ low w range; no_memory = ap is_some h.1 }
  where
    low : (v : ℕ) → is_width v ≡ true → nat_lt 128 v ≡ false
    low v e = grind (arith, nat_tests, e)
bits_fit (memory a d) o range bits declared h = absurd (false≢true (sym bits))

-- ---- clocks

apart_by_test : (n : Name) → same_name n clock_name ≡ false → n ≡ clock_name → ⊥
apart_by_test n other e = false≢true (sym other ∙ (ap (λ k. same_name k clock_name) e ∙ is_same clock_name))

no_clock : (n : Name) → begins_with_wb n ≡ false → n ≡ clock_name → ⊥
no_clock n other e = false≢true (sym other ∙ ap begins_with_wb e)

no_step : (u : PathStep) (path : List PathStep) → u ∷ path ≡ [] → ⊥
no_step u path e = cc

-- a clock net at the top is the clock
clock_at_top : (d : Design) (p : Placed) (n : Name) → IsClockNet d p n → p.path ≡ [] → n ≡ d.clock
clock_at_top d _ _ (IsClockNet.at_top p at e) h = refl
clock_at_top d _ _ (IsClockNet.at_input around below c k n clock at connected is_whole) h =
    absurd
    (no_step (instance_step c.of_instance) around.path
    (sym (stands_at d (instance_step c.of_instance ∷ around.path) below connected.is_below) ∙ h))

-- ---- good texts

-- the 0 with which wb_busy is compared
abbrev no_number : Number
no_number = record { width = 32; sized = false; signed = true; value = 0; unknown = 0; wild = 0; has_unknown = false; has_wild = false }

-- the text is read as an expression that breaks no rule and names no clock
record IsGood (m : Model) (x : Module) (t : Text) : Type 0 where
  tree : Expression
  reads : ReadsAs t tree
  unrefused : is_some (refusal_of (scope_over m x) tree) ≡ false
  names_none : ¬ NamesClock (design_over m x) tree

good_is_not_bad : (m : Model) (x : Module) (t : Text) → TextsAreReadOnce → IsGood m x t → ¬ IsBadExpression (design_over m x) t
good_is_not_bad m x t once g (IsBadExpression.no_expression none) = none g.tree g.reads
good_is_not_bad m x t once g (IsBadExpression.breaks_rule e r broken) =
    false≢true (sym g.unrefused ∙ subst (λ y. is_some (refusal_of (scope_over m x) y) ≡ true) (once t e g.tree r g.reads) broken)
good_is_not_bad m x t once g (IsBadExpression.names_clock e r named) =
    g.names_none (subst (NamesClock (design_over m x)) (once t e g.tree r g.reads) named)

-- an expression with one name, which is plain and no clock
one_name : (m : Model) (x : Module) (e : Expression) (n : Name) → names_in e ≡ n ∷ [] → IsPlainName n → (n ≡ clock_name → ⊥)
    → ¬ NamesClock (design_over m x) e
one_name m x e n names plain apart h = by_place (among_contains (n ∷ []) (dotted h.within.path h.net) (subst (λ ns. Contains ns (dotted h.within.path h.net)) names h.is_named))
  where
    by_place : IsAmong (n ∷ []) (dotted h.within.path h.net) → ⊥
    by_place (inl same) =
        let top = at_top h.within.path h.net n plain (sym same) in
        apart (sym top.1 ∙ clock_at_top (design_over m x) h.within h.net h.is_clock top.0)
    by_place (inr none) = none

module _ (m : Model) (x : Module) (is_model : IsModel m) (range : HasSortsInRange m) (emitted : IsEmittedModule m x) where
  object_over : (n : Name) → IsPlainName n → scope_over m x n ≡ object_of x n
  object_over n plain = object_read m x emitted.ports.named n plain

  refused_by_object : (n : Name) → IsPlainName n → IsGoodObject (object_of x n) → also (by_name anywhere (scope_over m x n) whole) nothing ≡ nothing
  refused_by_object n plain good =
      ap (λ o. also (by_name anywhere o whole) nothing) (object_over n plain) ∙ unbroken (object_of x n) good

  good_name : (n : Name) → IsPlainName n → (n ≡ clock_name → ⊥) → ReadsAs n (whole_name n) → IsGoodObject (object_of x n) → IsGood m x n
  good_name n plain apart read good = record {
    tree = whole_name n;
    reads = read;
    unrefused = ap (λ b. is_some (first_broken b)) (refused_by_object n plain good);
    names_none = one_name m x (whole_name n) n refl plain apart;
  }

  -- ---- control signals

  port_good : (n : Name) → HasPort x n output → HoldsSort truth (object_of x n) → IsGoodObject (object_of x n)
  port_good n port held = bits_fit truth (object_of x n) refl refl (in_scope x n (port_declared x n output port)) held

  control_good : (n : Name) → IsAmong control_outputs n → IsAmong (control_inputs ++ control_outputs) n → IsGoodObject (object_of x n)
  control_good n out among =
      port_good n (emitted.ports.outputs n (contains_among control_outputs n out))
      (emitted.ports.control_bits n (contains_among (control_inputs ++ control_outputs) n among))

  start_good : IsGood m x start_name
  start_good =
      good_name start_name refl (apart_by_test start_name refl) start_reads
      (control_good start_name (inl refl) (inr (inr (inr (inl refl)))))

  commit_good : IsGood m x commit_name
  commit_good =
      good_name commit_name refl (apart_by_test commit_name refl) commit_reads
      (control_good commit_name (inr (inl refl)) (inr (inr (inr (inr (inl refl))))))

  -- ---- no child program runs

  busy_good : IsRegisterOf x busy_name truth → IsGood m x (codes "wb_busy == 0")
  busy_good r = record {
    tree = rest_expression;
    reads = rest_reads;
    unrefused =
        ap (λ b. is_some (first_broken (also b (by_number no_number))))
        (refused_by_object busy_name refl (bits_fit truth (object_of x busy_name) refl refl (in_scope x busy_name r.is_declared) r.object));
    names_none = one_name m x rest_expression busy_name refl refl (apart_by_test busy_name refl);
  }

  -- ---- states and inputs

  state_good : (n : Name) → IsAmong (state_names m.top) n → is_memory_named m n ≡ false → IsGood m x n
  state_good n at bits =
      let legal = legal_state m is_model n at in
      let d = state_called m n at in
      let register = subst (λ k. IsRegisterOf x k d.0.sort) d.1.named (emitted.registers.states d.0 (contains_among (all_states m) d.0 (among_all m n d.0 d.1))) in
      good_name n (plain_name n legal) (no_clock n (not_own n legal)) (name_reads n legal)
      (bits_fit d.0.sort (object_of x n) (range.states d.0 (contains_among (states_of m.top) d.0 d.1.among)) (sym (ap is_memory_state d.1.found) ∙ bits)
      (in_scope x n register.is_declared) register.object)

  not_false : (b : Bool) → not b ≡ true → b ≡ false
  not_false true e = sym e
  not_false false e = refl

  input_good : (n : Name) → IsAmong (map (λ i. i.input_name) m.inputs) n → IsGood m x n
  input_good n at =
      let legal = legal_input m is_model n at in
      let i = input_called m n at in
      let sort = and_parts (is_sort i.0.sort) (not (is_memory_sort i.0.sort)) (range.inputs i.0 (contains_among m.inputs i.0 i.1.among)) in
      good_name n (plain_name n legal) (no_clock n (not_own n legal)) (name_reads n legal)
      (bits_fit i.0.sort (object_of x n) sort.0 (not_false (is_memory_sort i.0.sort) sort.1)
      (in_scope x n (port_declared x n input (emitted.ports.inputs n (contains_among (input_ports m) n (inr (inr (inr at)))))))
      (subst (λ k. HoldsSort i.0.sort (object_of x k)) i.1.named (emitted.ports.input_bits i.0 (contains_among m.inputs i.0 i.1.among))))

  -- ---- all texts

  abbrev values : List Text
  values = value_texts m (written_by_their_names (mapped_state_names m))

  abbrev of_inputs : List Text
  of_inputs = map (λ (e : Name × Text). e.1) (written_by_their_names (mapped_input_names m))

  abbrev commits : List Text
  commits = map (λ (i : InstructionEntry). i.commit) (map written_entry_for (instructions_in m.top))

  invariant_good : (b : Bool) (t : Text) → has_children m ≡ b → IsAmong (cond b (codes "wb_busy == 0" ∷ []) []) t → IsGood m x t
  invariant_good true t children (inl e) = subst (IsGood m x) e (busy_good (emitted.registers.busy children))
  invariant_good true t children (inr h) = absurd h
  invariant_good false t children h = absurd h

  each_good : (t : Text) → IsAmong (expression_texts (case_over m x)) t → IsGood m x t
  each_good t h = in_invariants (among_either (written_map m).invariants (start_name ∷ (values ++ (of_inputs ++ commits))) t h)
    where
      in_rest : IsAmong of_inputs t ⊎ IsAmong commits t → IsGood m x t
      in_rest (inl k) = input_good t (input_text m t k)
      in_rest (inr k) = subst (IsGood m x) (commit_text (instructions_in m.top) t k) commit_good

      in_values : IsAmong values t ⊎ IsAmong (of_inputs ++ commits) t → IsGood m x t
      in_values (inl k) = let v = value_text m t k in state_good t v.0 v.1
      in_values (inr k) = in_rest (among_either of_inputs commits t k)

      in_invariants : IsAmong (written_map m).invariants t ⊎ IsAmong (start_name ∷ (values ++ (of_inputs ++ commits))) t → IsGood m x t
      in_invariants (inl k) = invariant_good (has_children m) t refl k
      in_invariants (inr (inl e)) = subst (IsGood m x) e start_good
      in_invariants (inr (inr k)) = in_values (among_either values (of_inputs ++ commits) t k)

  -- ---- the reset

  reset_is_port : is_input_port x reset_name ≡ true
  reset_is_port =
      ap (λ ns. is_among ns reset_name && is_input (entry_of (port_directions x) reset_name)) emitted.ports.order
      ∙ ap is_input (emitted.ports.inputs reset_name (contains_among (input_ports m) reset_name (inr (inl refl))))

  reset_good : is_reset (design_over m x) reset_name ≡ true
  reset_good =
      ap (λ p. is_one_bit_input p reset_name && not (same_name reset_name clock_name)) (placed m x emitted.ports.named)
      ∙ (ap (λ b. (b && (object_width (object_of x reset_name) == 1)) && true) reset_is_port
      ∙ ap (λ w. (w == 1) && true)
      (emitted.ports.control_bits reset_name (contains_among (control_inputs ++ control_outputs) reset_name (inr (inl refl)))).0)

  expressions : TextsAreReadOnce → ¬ HasBadExpression (case_over m x)
  expressions once (HasBadExpression.an_expression t stands bad) =
      good_is_not_bad m x t once (each_good t (among_contains (expression_texts (case_over m x)) t stands)) bad
  expressions once (HasBadExpression.the_reset bad) = false≢true (ap not (sym reset_good) ∙ bad)

pub expressions_are_good : TextsAreReadOnce → EmittedExpressionsAreGood
expressions_are_good once m x is_model range emitted = expressions m x is_model range emitted once
