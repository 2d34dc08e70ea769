-- The switch has an emitted module.
use Rattle.std.proofs.Common.{◌≡◌, ℕ, zero, suc, ◌/◌, ◌%◌, ◌^◌, ◌<◌, ◌≤◌, ◌⊎◌, inl, inr, Bool, true, false, cond, not, ◌&&◌, ◌||◌, arith, List, [], ◌∷◌, ◌++◌, Some, None, refl, sym, ◌∙◌, ap, subst}
use Rattle.std.specs.Prelude.{IsTrue, Contains, is_some, slice_get}
use Rattle.std.proofs.lemmas.Bool.{false≢true}
use mathlib.Core.Path.{fun_ext}
use Rattle.wb_values.specs.Value.{Name, same_name, truth, Value, truth_value, number, words, as_number, Valuation, with_value}
use Rattle.wb_values.specs.Names.{begins_with_wb}
use Rattle.model_meaning.specs.Among.{is_name_in}
use Rattle.model_meaning.specs.Invariant.{valued_names}
use Rattle.model_meaning.specs.Model.{Machine, StateDeclaration, Instruction, state_named}
use Rattle.verilog_trees.specs.Syntax.{input, output}
use Rattle.verilog_meaning.specs.Expression.{Object, is_memory, is_nonzero}
use Rattle.verilog_meaning.specs.Statement.{variable_cell, all_bits, written_cell}
use Rattle.verilog_meaning.specs.Register.{value_bit, after_edge, clocked_blocks}
use Rattle.verilog_meaning.specs.Hierarchy.{placed_scope}
use Rattle.verilog_meaning.specs.Settled.{HasPort, IsDeclared, IsValueOf, IsSettledIn}
use Rattle.refinement.specs.Map.{Setting, design_of}
use Rattle.refinement.specs.Run.{Run, IsRun, IsResetAt}
use Rattle.refinement.specs.Refinement.{state_at, StartsAt, IsCommandOf, HasInitialValues}
use Rattle.emitted_designs.specs.Names.{clock_name, reset_name, go_name, start_name, commit_name}
use Rattle.emitted_designs.specs.Bounds.{nesting_of}
use Rattle.emitted_designs.specs.Map.{setting_of}
use Rattle.emitted_designs.specs.Module.{top_of, object_of, control_inputs, control_outputs, all_state_names, HoldsSort, IsRegisterOf, HasPortsOf, HasRegistersOf}
use Rattle.emitted_designs.specs.MicroStep.{entered_by, begun}
use Rattle.emitted_designs.specs.Cycles.{HasCommitAt, IsAtRest, start_point, held_point, HoldPoint, EdgeLeads, EndsIn, FollowsModel}
use Rattle.emitted_designs.specs.Worked.{position, position_state, flip, switch, switch_module, SwitchIsEmitted}
use Rattle.emitted_designs.proofs.Named.{same_if}
use Rattle.emitted_designs.proofs.Childless.{none_running}

-- ---- lists of names

-- what is so of the head and of each other element is so of each
each : {A : Type 0} (P : A → Type 0) (a : A) (xs : List A) → P a → ((x : A) → Contains xs x → P x) → (x : A) → Contains (a ∷ xs) x → P x
each P a xs h rest x (zero, low, e) = subst P e h
each P a xs h rest x (suc k, low, e) = rest x (k, omega (arith, low), e)

no_more : {A : Type 0} (P : A → Type 0) (x : A) → Contains [] x → P x
no_more P x c = absurd (omega (arith, c.1))

one_of : (P : Name → Type 0) (a n : Name) (rest : Bool) → P a → (rest ≡ true → P n) → (same_name a n || rest) ≡ true → P n
one_of P a n rest h more e = by_test (same_name a n) refl e
  where
    by_test : (b : Bool) → same_name a n ≡ b → (b || rest) ≡ true → P n
    by_test true same f = subst P (same_if a n same) h
    by_test false other f = more f

-- ---- ports and registers

abbrev IsInputPort : Name → Type 0
IsInputPort n = HasPort switch_module n input

abbrev IsOutputPort : Name → Type 0
IsOutputPort n = HasPort switch_module n output

abbrev IsOneBit : Name → Type 0
IsOneBit n = HoldsSort truth (object_of switch_module n)

outputs_after : (P : Name → Type 0) → P start_name → P commit_name → (n : Name) → Contains control_outputs n → P n
outputs_after P a b = each P start_name (commit_name ∷ []) a (each P commit_name [] b (no_more P))

inputs_after : (P : Name → Type 0) (xs : List Name) → P clock_name → P reset_name → P go_name → ((n : Name) → Contains xs n → P n)
    → (n : Name) → Contains (control_inputs ++ xs) n → P n
inputs_after P xs a b c rest =
    each P clock_name (reset_name ∷ go_name ∷ xs) a (each P reset_name (go_name ∷ xs) b (each P go_name xs c rest))

ports : HasPortsOf switch switch_module
ports = record {
  named = refl;
  order = refl;
  inputs = inputs_after IsInputPort [] refl refl refl (no_more IsInputPort);
  outputs = outputs_after IsOutputPort refl refl;
  control_bits = inputs_after IsOneBit control_outputs (refl, refl) (refl, refl) (refl, refl) (outputs_after IsOneBit (refl, refl) (refl, refl));
  input_bits = no_more (λ i. HoldsSort i.sort (object_of switch_module i.input_name));
}

-- what is so of each name that is declared
declared_names : (P : Name → Type 0) → P clock_name → P reset_name → P go_name → P start_name → P commit_name → P position → (n : Name)
    → IsDeclared (top_of switch_module) n → P n
declared_names P a b c d e f n =
    one_of P clock_name n _ a
    (one_of P reset_name n _ b
    (one_of P go_name n _ c
    (one_of P start_name n _ d (one_of P commit_name n _ e (one_of P position n _ f (λ h. absurd (false≢true h)))))))

none : {A : Type 0} → false ≡ true → A
none h = absurd (false≢true h)

registers : HasRegistersOf switch switch_module
registers = record {
  states = each (λ d. IsRegisterOf switch_module d.state_name d.sort) position_state []
      (record { is_declared = refl; object = (refl, refl); counted = λ k b h. ap (λ c. c && true) h })
      (no_more (λ d. IsRegisterOf switch_module d.state_name d.sort));
  busy = none;
  kept_inputs = none;
  others = declared_names (λ n. IsTrue (is_name_in n (valued_names switch) || begins_with_wb n)) refl refl refl refl refl refl;
  no_other_memory = declared_names (λ n. IsTrue (is_memory (object_of switch_module n)) → IsTrue (is_name_in n (all_state_names switch)))
      none none none none none (λ h. refl);
}

-- ---- signals

abbrev OneBit : Value → Type 0
OneBit x = (x ≡ number 0) ⊎ (x ≡ number 1)

abbrev scalar : Object
scalar = object_of switch_module position

one_bit : (x : Value) → IsValueOf scalar x → OneBit x
one_bit (number zero) h = inl refl
one_bit (number (suc zero)) h = inr refl
one_bit (number (suc (suc k))) h = absurd (omega (arith, h.1))
one_bit (words xs) h = absurd (false≢true h.0)
one_bit (truth_value b) h = absurd h

differ : (k : ℕ) → suc k ≡ 0 → ⊥
differ k e = omega (arith, e)

-- what a signal holds after another one was assigned to it
abbrev after_write : Value → Value → Value
after_write x y = written_cell scalar x variable_cell (all_bits scalar) (as_number y % 2 ^ 1 / 2 ^ 0)

written_once : (x y : Value) → OneBit x → OneBit y → after_write x y ≡ x → x ≡ y
written_once x y (inl a) (inl b) h = a ∙ sym b
written_once x y (inr a) (inr b) h = a ∙ sym b
written_once x y (inl a) (inr b) h =
    absurd (differ 0 (ap as_number (subst (λ z. after_write z (number 1) ≡ z) a (subst (λ w. after_write x w ≡ x) b h))))
written_once x y (inr a) (inl b) h =
    absurd (differ 0 (sym (ap as_number (subst (λ z. after_write z (number 0) ≡ z) a (subst (λ w. after_write x w ≡ x) b h)))))

-- ---- the edge

as_it_is : (v : Valuation) (n : Name) (x : Value) → v n ≡ x → with_value v n x ≡ v
as_it_is v n x e = fun_ext (λ m. by_test m (same_name n m) refl)
  where
    by_test : (m : Name) (b : Bool) → same_name n m ≡ b → cond b x (v m) ≡ v m
    by_test m true same = sym e ∙ ap v (same_if n m same)
    by_test m false other = refl

abbrev with_three : Valuation → Value → Value → Value → Valuation
with_three v a b c = with_value (with_value (with_value v reset_name a) go_name b) position c

abbrev edge_of : Valuation → Value
edge_of v = after_edge (placed_scope (top_of switch_module)) (clocked_blocks switch_module.items) v position

known_three : (v : Valuation) (a b c : Value) → v reset_name ≡ a → v go_name ≡ b → v position ≡ c → with_three v a b c ≡ v
known_three v a b c e f g =
    as_it_is (with_value (with_value v reset_name a) go_name b) position c (ap (λ u. u position) first ∙ g) ∙ first
  where
    first : with_value (with_value v reset_name a) go_name b ≡ v
    first = as_it_is (with_value v reset_name a) go_name b (ap (λ u. u go_name) (as_it_is v reset_name a e) ∙ f) ∙ as_it_is v reset_name a e

edge_known : (v : Valuation) (a b c : Value) → v reset_name ≡ a → v go_name ≡ b → v position ≡ c
    → value_bit (edge_of v) 0 0 ≡ value_bit (edge_of (with_three v a b c)) 0 0
edge_known v a b c e f g = ap (λ u. value_bit (edge_of u) 0 0) (sym (known_three v a b c e f g))

-- under reset the switch is off
edge_resets : (v : Valuation) → v reset_name ≡ number 1 → OneBit (v go_name) → OneBit (v position) → value_bit (edge_of v) 0 0 ≡ false
edge_resets v e (inl f) (inl g) = edge_known v (number 1) (number 0) (number 0) e f g
edge_resets v e (inl f) (inr g) = edge_known v (number 1) (number 0) (number 1) e f g
edge_resets v e (inr f) (inl g) = edge_known v (number 1) (number 1) (number 0) e f g
edge_resets v e (inr f) (inr g) = edge_known v (number 1) (number 1) (number 1) e f g

-- without a request it stays
edge_keeps : (v : Valuation) → v reset_name ≡ number 0 → v go_name ≡ number 0 → OneBit (v position)
    → value_bit (edge_of v) 0 0 ≡ value_bit (v position) 0 0
edge_keeps v e f (inl g) = edge_known v (number 0) (number 0) (number 0) e f g ∙ sym (ap (λ x. value_bit x 0 0) g)
edge_keeps v e f (inr g) = edge_known v (number 0) (number 0) (number 1) e f g ∙ sym (ap (λ x. value_bit x 0 0) g)

-- with one it is turned
edge_turns : (v : Valuation) → v reset_name ≡ number 0 → v go_name ≡ number 1 → OneBit (v position)
    → value_bit (edge_of v) 0 0 ≡ not (value_bit (v position) 0 0)
edge_turns v e f (inl g) = edge_known v (number 0) (number 1) (number 0) e f g ∙ sym (ap (λ x. not (value_bit x 0 0)) g)
edge_turns v e f (inr g) = edge_known v (number 0) (number 1) (number 1) e f g ∙ sym (ap (λ x. not (value_bit x 0 0)) g)

-- ---- runs

-- the model has one state and one instruction
one_state : (n : Name) (d : StateDeclaration) → state_named (position_state ∷ []) n ≡ Some d → (position ≡ n) × (position_state ≡ d)
one_state n d e = by_test (same_name position n) refl e
  where
    by_test : (b : Bool) → same_name position n ≡ b → cond b (Some position_state) None ≡ Some d → (position ≡ n) × (position_state ≡ d)
    by_test true same f = let declared : position_state ≡ d = cc in (same_if position n same, declared)
    by_test false other f = cc

held_name : (n : Name) → IsTrue (is_some (state_named (position_state ∷ []) n)) → position ≡ n
held_name n h = by_test (same_name position n) refl h
  where
    by_test : (b : Bool) → same_name position n ≡ b → is_some (cond b (Some position_state) None) ≡ true → position ≡ n
    by_test true same f = same_if position n same
    by_test false other f = absurd (false≢true f)

one_instruction : (k : ℕ) (o : Instruction) → slice_get (flip ∷ []) k ≡ Some o → (k ≡ 0) × (flip ≡ o)
one_instruction zero o e = let same : flip ≡ o = cc in (refl, same)
one_instruction (suc k) o e = cc

module _ (run : Run) (cycles : ℕ) (is_run : IsRun (setting_of switch switch_module) run cycles) where
  abbrev setting : Setting
  setting = setting_of switch switch_module

  abbrev at_cycle : ℕ → Name → Value
  at_cycle t n = run.valuations t n

  settled : (t : ℕ) → t ≤ cycles → IsSettledIn (design_of setting) (run.registers t) (run.valuations t) (top_of switch_module)
  settled t le = (is_run.settled t le).modules (top_of switch_module) refl

  reset_bit : (t : ℕ) → t ≤ cycles → OneBit (at_cycle t reset_name)
  reset_bit t le = one_bit (at_cycle t reset_name) ((settled t le).fits reset_name refl)

  go_bit : (t : ℕ) → t ≤ cycles → OneBit (at_cycle t go_name)
  go_bit t le = one_bit (at_cycle t go_name) ((settled t le).fits go_name refl)

  position_bit : (t : ℕ) → t ≤ cycles → OneBit (at_cycle t position)
  position_bit t le = one_bit (at_cycle t position) ((settled t le).fits position refl)

  start_bit : (t : ℕ) → t ≤ cycles → OneBit (at_cycle t start_name)
  start_bit t le = one_bit (at_cycle t start_name) ((settled t le).fits start_name refl)

  start_is_go : (t : ℕ) → t ≤ cycles → at_cycle t start_name ≡ at_cycle t go_name
  start_is_go t le =
      written_once (at_cycle t start_name) (at_cycle t go_name) (start_bit t le) (go_bit t le) ((settled t le).assigned.0 start_name)

  commit_is_go : (t : ℕ) → t ≤ cycles → at_cycle t commit_name ≡ at_cycle t go_name
  commit_is_go t le =
      written_once (at_cycle t commit_name) (at_cycle t go_name) (one_bit (at_cycle t commit_name) ((settled t le).fits commit_name refl))
      (go_bit t le) ((settled t le).assigned.1.0 commit_name)

  -- a signal that holds
  go_holds : (x : Value) → OneBit x → IsTrue (is_nonzero (as_number x)) → x ≡ number 1
  go_holds x (inl e) h = absurd (false≢true (subst (λ y. is_nonzero (as_number y) ≡ true) e h))
  go_holds x (inr e) h = e

  go_fails : (x : Value) → OneBit x → ¬ IsTrue (is_nonzero (as_number x)) → x ≡ number 0
  go_fails x (inl e) h = e
  go_fails x (inr e) h = absurd (h (subst (λ y. is_nonzero (as_number y) ≡ true) (sym e) refl))

  no_reset : (x : Value) → OneBit x → ¬ (as_number x ≡ 1) → x ≡ number 0
  no_reset x (inl e) h = e
  no_reset x (inr e) h = absurd (h (ap as_number e))

  resets : (x : Value) → OneBit x → as_number x ≡ 1 → x ≡ number 1
  resets x (inl e) h = let zero_is_one : 0 ≡ 1 = sym (ap as_number e) ∙ h in absurd (omega (arith, zero_is_one))
  resets x (inr e) h = e

  -- the bit of the state after the edge
  after : (t : ℕ) → t < cycles → value_bit (at_cycle (suc t) position) 0 0 ≡ value_bit (edge_of (run.valuations t)) 0 0
  after t low =
      (settled (suc t) (omega (arith, low))).held position 0 0 refl refl
      ∙ (is_run.next t low).assigned (top_of switch_module) position 0 0 refl refl refl

  bit_known : (x : Value) → OneBit x → (b : Bool) → value_bit x 0 0 ≡ b → x ≡ number (cond b 1 0)
  bit_known x (inl e) true h = absurd (false≢true (sym (ap (λ y. value_bit y 0 0) e) ∙ h))
  bit_known x (inl e) false h = e
  bit_known x (inr e) true h = e
  bit_known x (inr e) false h = absurd (false≢true (sym h ∙ ap (λ y. value_bit y 0 0) e))

  -- the state, as the map reads it
  abbrev read_as : Value → Value
  read_as x = truth_value (is_nonzero (as_number x))

  childless : nesting_of switch.top ≡ 0
  childless = refl

  rests : (t : ℕ) → IsAtRest setting run t
  rests t h = absurd (false≢true h)

  flips : (t : ℕ) → IsCommandOf setting run t 0
  flips t = record {
    valid = refl;
    alone = record { i = flip; is_j = refl; decoded = refl; no_other = λ k o e other d. other (one_instruction k o e).0 };
  }

  initial : (t : ℕ) → t < cycles → IsResetAt setting run t → HasInitialValues switch (state_at setting run (suc t))
  initial t low h n d x e f =
      let le : t ≤ cycles = omega (arith, low) in
      let off : at_cycle (suc t) position ≡ number 0 =
      bit_known (at_cycle (suc t) position) (position_bit (suc t) (omega (arith, low))) false
      (after t low ∙ edge_resets (run.valuations t) (resets (at_cycle t reset_name) (reset_bit t le) h) (go_bit t le) (position_bit t le)) in
      let value : Some (truth_value false) ≡ Some x = subst (λ (y : StateDeclaration). y.init ≡ Some x) (sym (one_state n d e).1) f in
      let same : truth_value false ≡ x = cc in
      subst (λ k. state_at setting run (suc t) k ≡ x) (one_state n d e).0 (ap read_as off ∙ same)

  stays : (t : ℕ) → t < cycles → ¬ IsResetAt setting run t → ¬ StartsAt setting run t → at_cycle (suc t) position ≡ at_cycle t position
  stays t low quiet no_start =
      let le : t ≤ cycles = omega (arith, low) in
      let no_go : at_cycle t go_name ≡ number 0 =
      sym (start_is_go t le) ∙ go_fails (at_cycle t start_name) (start_bit t le) no_start in
      bit_known (at_cycle (suc t) position) (position_bit (suc t) (omega (arith, low))) (value_bit (at_cycle t position) 0 0)
      (after t low ∙ edge_keeps (run.valuations t) (no_reset (at_cycle t reset_name) (reset_bit t le) quiet) no_go (position_bit t le))
      ∙ sym (bit_known (at_cycle t position) (position_bit t le) (value_bit (at_cycle t position) 0 0) refl)

  turns : (t : ℕ) → t < cycles → ¬ IsResetAt setting run t → StartsAt setting run t
      → at_cycle (suc t) position ≡ number (cond (not (value_bit (at_cycle t position) 0 0)) 1 0)
  turns t low quiet starts =
      let le : t ≤ cycles = omega (arith, low) in
      let goes : at_cycle t go_name ≡ number 1 =
      sym (start_is_go t le) ∙ go_holds (at_cycle t start_name) (start_bit t le) starts in
      bit_known (at_cycle (suc t) position) (position_bit (suc t) (omega (arith, low))) (not (value_bit (at_cycle t position) 0 0))
      (after t low ∙ edge_turns (run.valuations t) (no_reset (at_cycle t reset_name) (reset_bit t le) quiet) goes (position_bit t le))

  -- the turned state, as the map reads it
  read_turned : (x y : Value) → OneBit x → y ≡ number (cond (not (value_bit x 0 0)) 1 0) → read_as y ≡ truth_value (not (is_nonzero (as_number x)))
  read_turned x y (inl e) h =
      ap read_as h
      ∙ (ap (λ z. read_as (number (cond (not (value_bit z 0 0)) 1 0))) e ∙ sym (ap (λ z. truth_value (not (is_nonzero (as_number z)))) e))
  read_turned x y (inr e) h =
      ap read_as h
      ∙ (ap (λ z. read_as (number (cond (not (value_bit z 0 0)) 1 0))) e ∙ sym (ap (λ z. truth_value (not (is_nonzero (as_number z)))) e))

  flip_holds : (t : ℕ) → t < cycles → ¬ IsResetAt setting run t → StartsAt setting run t
      → HoldPoint setting run (suc t) (entered_by flip) (begun flip (start_point setting run t))
  flip_holds t low quiet starts n held =
      subst (λ k. held_point setting run (suc t) k ≡ begun flip (start_point setting run t) k) (held_name n held)
      (read_turned (at_cycle t position) (at_cycle (suc t) position) (position_bit t (omega (arith, low))) (turns t low quiet starts))

  edge : (t : ℕ) (ps next : List Machine) (q : Valuation) → ps ≡ [] → t < cycles → ¬ IsResetAt setting run t → EdgeLeads setting run t ps next q
      → HoldPoint setting run (suc t) next q
  edge t ps next q none low quiet (EdgeLeads.waits no_start) = λ n held.
      subst (λ k. held_point setting run (suc t) k ≡ start_point setting run t k) (held_name n held) (ap read_as (stays t low quiet no_start))
  edge t ps next q none low quiet (EdgeLeads.starts i h) =
      subst (λ x. HoldPoint setting run (suc t) (entered_by x) (begun x (start_point setting run t))) (one_instruction h.number i h.is_instruction).1
      (flip_holds t low quiet h.starts)
  edge t ps next q none low quiet (EdgeLeads.goes_on program around rest r step) = cc

  commits : (t : ℕ) → t < cycles → HasCommitAt setting run t → EndsIn setting run t []
  commits t low h =
      let le : t ≤ cycles = omega (arith, low) in
      let starts : StartsAt setting run t =
      subst (λ y. IsTrue (is_nonzero (as_number y))) (commit_is_go t le ∙ sym (start_is_go t le)) h in
      EndsIn.at_its_start flip (record { number = 0; starts = starts; is_command = flips t; is_instruction = refl }) refl

  ends : (t : ℕ) (ps : List Machine) → ps ≡ [] → EndsIn setting run t ps → StartsAt setting run t
  ends t ps none (EndsIn.at_its_start i h e) = h.starts
  ends t ps none (EndsIn.with_its_child program quiet over) = cc

  follows : FollowsModel setting run cycles
  follows = record {
    start = λ t low. (
      λ h. (subst (λ y. IsTrue (is_nonzero (as_number y))) (start_is_go t (omega (arith, low))) h, rests t, (0, flips t)),
      λ h. subst (λ y. IsTrue (is_nonzero (as_number y))) (sym (start_is_go t (omega (arith, low)))) h.0,
    );
    reset = initial;
    busy = λ t running le h. (λ r. none_running setting run t running childless h, λ e. rests t);
    edge = λ t running next q low quiet h leads. edge t running next q (none_running setting run t running childless h) low quiet leads;
    commit = λ t running low h.
        let none : running ≡ [] = none_running setting run t running childless h in (
          λ c. subst (λ ps. EndsIn setting run t ps) (sym none) (commits t low c),
          λ e. subst (λ y. IsTrue (is_nonzero (as_number y))) (start_is_go t (omega (arith, low)) ∙ sym (commit_is_go t (omega (arith, low))))
              (ends t running none e),
        );
  }

pub emitted : SwitchIsEmitted
emitted = record { ports = ports; registers = registers; runs = follows }
