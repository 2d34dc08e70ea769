-- The flat drivers read what is read in the design, and the same bits have no driver.
use Rattle.std.proofs.Common.{◌≡◌, ◌↔◌, ℕ, Bool, true, false, cond, not, ◌&&◌, ◌||◌, List, [], ◌∷◌, ◌++◌, ◌⊎◌, inl, inr, refl, sym, ap, ◌∙◌, subst, Option, Some, None, IsTrue}
use Rattle.std.specs.List.{Contains, list_any}
use Rattle.std.specs.Prelude.{is_some, is_none, option_map}
use Rattle.std.proofs.lemmas.Bool.{and_parts, false≢true}
use Rattle.wb_values.specs.Value.{Name, same_name, Entries, entry_of}
use Rattle.wb_values.specs.Choice.{first_of}
use Rattle.verilog_trees.specs.Syntax.{Expression, number, name, concatenation, replication, as_signed, as_unsigned, unary, reduction, binary, shift, power, comparison, logical, conditional, Expressions, no_expressions, expression, Select, index, part, part_up, part_down, Selects, whole, one, two, Target, place, joined, Targets, no_targets, target, Range, ParameterDeclaration, Statement, empty, blocking, nonblocking, if_then, if_else, case, block, Statements, no_statements, statement, CaseItems, no_items, arm, default_arm, Direction, input, output, Connections, Item, port, parameter, wires, variables, assign, always, instances, Module}
use Rattle.verilog_meaning.specs.Expression.{Object, Scope, object_or_undeclared, scope_of, is_memory}
use Rattle.verilog_meaning.specs.Register.{selects_are_constant, may_mean, clocked_blocks, combinational_blocks, is_bit_of, one_may_assign, counts}
use Rattle.verilog_meaning.specs.Hierarchy.{value_names, Overrides, no_overrides, overrides_of, one_parameter, override_of, with_values, with_parameters, constants_of, PathStep, ranged_object, declared_object, Declaration, declarations, declaration_of, all_parameters, instance_step, Placed, placed_scope, module_named, instance_named}
use Rattle.verilog_meaning.specs.Settled.{Design, at_path, IsPlacedIn, is_declared_among, IsDeclared, HasPort, assignments, as_target, whole_name, Connection, instance_connections, port_connections, port_meant, port_directions, IsConnectedTo, one_may_reach, is_counted, IsBitOf, IsDriven}
use Rattle.verilog_designs.specs.Names.{is_among, parameter_names, has_duplicate}
use Rattle.verilog_designs.specs.Known.{known_at, known_scope}
use Rattle.verilog_designs.specs.Ports.{is_output, port_direction, lacks_direction, lacks_port, has_reg_input, has_unequal_ranges, is_bad_output, is_badly_connected, are_bad_connections, are_badly_connected, has_bad_instance, has_bad_port}
use Rattle.verilog_designs.specs.Reads.{BitSet, name_reads, reads, reads_in_all, select_reads, selects_read, target_reads, targets_read, items_read}
use Rattle.verilog_designs.specs.Drivers.{statement_reads, statements_read, arms_read, IsRead, IsDrivenAs, HasDriver, HasUndriven}
use Rattle.verilog_designs.specs.Clocks.{IsClockNet}
use Rattle.verilog_designs.specs.Accepted.{HasUndeclared, HasDuplicateName, duplicate_name, bad_port, Breaks}
use Rattle.verilog_unique.proofs.Options.{first_false, second_false, not_true, same_is, is_same, left_true, right_true}
use Rattle.verilog_unique.proofs.Descent.{IsAmong, contains_among, among_contains}
use Rattle.verilog_unique.proofs.Paths.{StepsTo, step_of, instance_from, top_from}
use Rattle.verilog_unique.proofs.Standing.{stands_in, module_of_instance}
use Rattle.verilog_unique.proofs.Instances.{Belongs, belongs, one_module, any_false}
use Rattle.verilog_unique.proofs.Constants.{is_known}
use Rattle.verilog_unique.proofs.Parameters.{net_is_declared, parameter_number}
use Rattle.verilog_unique.proofs.Ports.{port_is_declared}
use Rattle.verilog_renamed.specs.Renamed.{renamed_expression, renamed_assignment, renamed_statement, renamed_statements, renamed_case_items}
use Rattle.verilog_renamed.specs.Laws.{IsOneToOne, AreRenamedBits}
use Rattle.verilog_renamed.specs.EachName.{EachIn, EachInAll, EachInSelect, EachInSelects, EachInTarget, EachInTargets, EachInStatement, EachInStatements, EachInItems}
use Rattle.verilog_renamed.specs.KnownNames.{IsRenamed}
use Rattle.verilog_renamed.proofs.Registers.{none_renamed, or_renamed}
use Rattle.verilog_renamed.proofs.KnownNames.{known_reads, known_items, known_target_bits}
use Rattle.flat_designs.specs.Flat.{IsNameOf, Naming, IsNaming, into_input, out_of_output, IsLink, to_input, of_output, IsFlatLink, of_module, of_connection, IsFlatBlock, of_block, IsFlatClocked, of_clocked, IsFlat}
use Rattle.flat_designs.specs.Laws.{IsDrivenTheSame, IsInputOfTop}
use Rattle.flat_designs.proofs.Known.{in_right_side, right_side_name, in_block, block_name, in_clocked, in_connection, connection_name, one_place}
use Rattle.flat_designs.proofs.Settled.{leads_to, expression_known, statement_known}
use Rattle.flat_designs.proofs.Driven.{driven_the_same}
use Rattle.flat_drivers.specs.Reading.{IsReadFlat, IsOutputOfTop, BitsAreReadTheSame, IsDrivenFlat, HasFlatDriverAs, HasUndrivenFlat, UndrivenBitsAreTheSame}
use Rattle.flat_drivers.proofs.Once.{net_no_parameter}

-- ---- what statements read, under other names

module _ (f : Name → Name) (s t : Scope) (apart : IsOneToOne f) where
  mutual
    pub statement_renamed : (x : Statement) → EachInStatement (IsRenamed f s t) x → AreRenamedBits f (statement_reads s x) (statement_reads t (renamed_statement f x))
    statement_renamed empty a = none_renamed f
    statement_renamed (blocking x e) a = or_renamed f (known_reads f s t e apart a.1) (known_target_bits f s t x apart a.0).read
    statement_renamed (nonblocking x e) a = or_renamed f (known_reads f s t e apart a.1) (known_target_bits f s t x apart a.0).read
    statement_renamed (if_then c x) a = or_renamed f (known_reads f s t c apart a.0) (statement_renamed x a.1)
    statement_renamed (if_else c x y) a = or_renamed f (known_reads f s t c apart a.0) (or_renamed f (statement_renamed x a.1) (statement_renamed y a.2))
    statement_renamed (case kind e items) a = or_renamed f (known_reads f s t e apart a.0) (or_renamed f (known_items f s t items apart a.1) (arms_renamed items a.1))
    statement_renamed (block n xs) a = statements_renamed xs a

    statements_renamed : (xs : Statements) → EachInStatements (IsRenamed f s t) xs → AreRenamedBits f (statements_read s xs) (statements_read t (renamed_statements f xs))
    statements_renamed no_statements a = none_renamed f
    statements_renamed (statement x xs) a = or_renamed f (statement_renamed x a.0) (statements_renamed xs a.1)

    arms_renamed : (items : CaseItems) → EachInItems (IsRenamed f s t) items → AreRenamedBits f (arms_read s items) (arms_read t (renamed_case_items f items))
    arms_renamed no_items a = none_renamed f
    arms_renamed (arm es x items) a = or_renamed f (statement_renamed x a.1) (arms_renamed items a.2)
    arms_renamed (default_arm x items) a = or_renamed f (statement_renamed x a.0) (arms_renamed items a.1)

-- ---- what is read is named, and a bit that there is

module _ (P : Name → Type 0) (s : Scope) (n : Name) (k b : ℕ) where
  either : (x y : Bool) → (IsTrue x → P n × IsTrue (is_bit_of (s n) k b)) → (IsTrue y → P n × IsTrue (is_bit_of (s n) k b)) → IsTrue (x || y)
      → P n × IsTrue (is_bit_of (s n) k b)
  either true y f g h = f refl
  either false y f g h = g h

  name_named : (m : Name) (x : Selects) → P m → IsTrue (name_reads s m x n k b) → P n × IsTrue (is_bit_of (s n) k b)
  name_named m x a h =
      let rest = is_none (s m).constant && (is_bit_of (s m) k b && cond (selects_are_constant s x) (may_mean s (s m) x k b) true) in
      let p = and_parts (same_name m n) rest h in
      let q = and_parts (is_none (s m).constant) (is_bit_of (s m) k b && cond (selects_are_constant s x) (may_mean s (s m) x k b) true) p.1 in
      let r = and_parts (is_bit_of (s m) k b) (cond (selects_are_constant s x) (may_mean s (s m) x k b) true) q.1 in
      (subst P (same_is m n p.0) a, subst (λ z. IsTrue (is_bit_of (s z) k b)) (same_is m n p.0) r.0)

  mutual
    pub expression_named : (e : Expression) → EachIn P e → IsTrue (reads s e n k b) → P n × IsTrue (is_bit_of (s n) k b)
    expression_named (number i) a h = absurd (false≢true h)
    expression_named (name m x) a h = either (name_reads s m x n k b) (selects_read s x n k b) (name_named m x a.0) (selects_named x a.1) h
    expression_named (concatenation es) a h = parts_named es a h
    expression_named (replication i es) a h = parts_named es a.1 h
    expression_named (as_signed x) a h = expression_named x a h
    expression_named (as_unsigned x) a h = expression_named x a h
    expression_named (unary op x) a h = expression_named x a h
    expression_named (reduction op x) a h = expression_named x a h
    expression_named (binary op x y) a h = either (reads s x n k b) (reads s y n k b) (expression_named x a.0) (expression_named y a.1) h
    expression_named (shift op x y) a h = either (reads s x n k b) (reads s y n k b) (expression_named x a.0) (expression_named y a.1) h
    expression_named (power x y) a h = either (reads s x n k b) (reads s y n k b) (expression_named x a.0) (expression_named y a.1) h
    expression_named (comparison op x y) a h = either (reads s x n k b) (reads s y n k b) (expression_named x a.0) (expression_named y a.1) h
    expression_named (logical op x y) a h = either (reads s x n k b) (reads s y n k b) (expression_named x a.0) (expression_named y a.1) h
    expression_named (conditional c x y) a h =
        either (reads s c n k b) (reads s x n k b || reads s y n k b) (expression_named c a.0)
        (either (reads s x n k b) (reads s y n k b) (expression_named x a.1) (expression_named y a.2)) h

    parts_named : (es : Expressions) → EachInAll P es → IsTrue (reads_in_all s es n k b) → P n × IsTrue (is_bit_of (s n) k b)
    parts_named no_expressions a h = absurd (false≢true h)
    parts_named (expression e es) a h = either (reads s e n k b) (reads_in_all s es n k b) (expression_named e a.0) (parts_named es a.1) h

    select_named : (x : Select) → EachInSelect P x → IsTrue (select_reads s x n k b) → P n × IsTrue (is_bit_of (s n) k b)
    select_named (index i) a h = expression_named i a h
    select_named (part x y) a h = absurd (false≢true h)
    select_named (part_up x y) a h = expression_named x a.0 h
    select_named (part_down x y) a h = expression_named x a.0 h

    selects_named : (x : Selects) → EachInSelects P x → IsTrue (selects_read s x n k b) → P n × IsTrue (is_bit_of (s n) k b)
    selects_named whole a h = absurd (false≢true h)
    selects_named (one x) a h = select_named x a h
    selects_named (two x y) a h = either (select_reads s x n k b) (select_reads s y n k b) (select_named x a.0) (select_named y a.1) h

  mutual
    target_named : (x : Target) → EachInTarget P x → IsTrue (target_reads s x n k b) → P n × IsTrue (is_bit_of (s n) k b)
    target_named (place m x) a h = selects_named x a.1 h
    target_named (joined xs) a h = targets_named xs a h

    targets_named : (xs : Targets) → EachInTargets P xs → IsTrue (targets_read s xs n k b) → P n × IsTrue (is_bit_of (s n) k b)
    targets_named no_targets a h = absurd (false≢true h)
    targets_named (target x xs) a h = either (target_reads s x n k b) (targets_read s xs n k b) (target_named x a.0) (targets_named xs a.1) h

  items_named : (items : CaseItems) → EachInItems P items → IsTrue (items_read s items n k b) → P n × IsTrue (is_bit_of (s n) k b)
  items_named no_items a h = absurd (false≢true h)
  items_named (arm es x items) a h = either (reads_in_all s es n k b) (items_read s items n k b) (parts_named es a.0) (items_named items a.2) h
  items_named (default_arm x items) a h = items_named items a.1 h

  mutual
    pub statement_named : (x : Statement) → EachInStatement P x → IsTrue (statement_reads s x n k b) → P n × IsTrue (is_bit_of (s n) k b)
    statement_named empty a h = absurd (false≢true h)
    statement_named (blocking x e) a h = either (reads s e n k b) (target_reads s x n k b) (expression_named e a.1) (target_named x a.0) h
    statement_named (nonblocking x e) a h = either (reads s e n k b) (target_reads s x n k b) (expression_named e a.1) (target_named x a.0) h
    statement_named (if_then c x) a h = either (reads s c n k b) (statement_reads s x n k b) (expression_named c a.0) (statement_named x a.1) h
    statement_named (if_else c x y) a h =
        either (reads s c n k b) (statement_reads s x n k b || statement_reads s y n k b) (expression_named c a.0)
        (either (statement_reads s x n k b) (statement_reads s y n k b) (statement_named x a.1) (statement_named y a.2)) h
    statement_named (case kind e items) a h =
        either (reads s e n k b) (items_read s items n k b || arms_read s items n k b) (expression_named e a.0)
        (either (items_read s items n k b) (arms_read s items n k b) (items_named items a.1) (arms_named items a.1)) h
    statement_named (block m xs) a h = statements_named xs a h

    statements_named : (xs : Statements) → EachInStatements P xs → IsTrue (statements_read s xs n k b) → P n × IsTrue (is_bit_of (s n) k b)
    statements_named no_statements a h = absurd (false≢true h)
    statements_named (statement x xs) a h = either (statement_reads s x n k b) (statements_read s xs n k b) (statement_named x a.0) (statements_named xs a.1) h

    arms_named : (items : CaseItems) → EachInItems P items → IsTrue (arms_read s items n k b) → P n × IsTrue (is_bit_of (s n) k b)
    arms_named no_items a h = absurd (false≢true h)
    arms_named (arm es x items) a h = either (statement_reads s x n k b) (arms_read s items n k b) (statement_named x a.1) (arms_named items a.2) h
    arms_named (default_arm x items) a h = either (statement_reads s x n k b) (arms_read s items n k b) (statement_named x a.0) (arms_named items a.1) h

-- the whole of a name reads the bits that it has
whole_reads : (s : Scope) (n : Name) (k b : ℕ) → IsTrue (is_none (s n).constant) → IsTrue (is_bit_of (s n) k b) → IsTrue (reads s (whole_name n) n k b)
whole_reads s n k b c h = rw (is_same n, c, h) refl

-- ---- entries of parameters are named by parameters

entry_either : (es fs : Entries Object) (n : Name) → IsTrue (is_some (entry_of (es ++ fs) n)) → IsTrue (is_some (entry_of es n)) ⊎ IsTrue (is_some (entry_of fs n))
entry_either [] fs n h = inr h
entry_either (e ∷ es) fs n h = chosen (same_name e.0 n) (entry_either es fs n) h
  where
    chosen : (c : Bool) → (IsTrue (is_some (entry_of (es ++ fs) n)) → IsTrue (is_some (entry_of es n)) ⊎ IsTrue (is_some (entry_of fs n)))
        → IsTrue (is_some (cond c (Some e.1) (entry_of (es ++ fs) n))) → IsTrue (is_some (cond c (Some e.1) (entry_of es n))) ⊎ IsTrue (is_some (entry_of fs n))
    chosen true f g = inl refl
    chosen false f g = f g

among_ahead : (ms ns : List Name) (n : Name) → IsTrue (is_among ms n) → IsTrue (is_among (ms ++ ns) n)
among_ahead [] ns n h = absurd (false≢true h)
among_ahead (m ∷ ms) ns n h = chosen (same_name m n) (among_ahead ms ns n) h
  where
    chosen : (c : Bool) → (IsTrue (is_among ms n) → IsTrue (is_among (ms ++ ns) n)) → IsTrue (c || is_among ms n) → IsTrue (c || is_among (ms ++ ns) n)
    chosen true f g = refl
    chosen false f g = f g

among_behind : (ms ns : List Name) (n : Name) → IsTrue (is_among ns n) → IsTrue (is_among (ms ++ ns) n)
among_behind [] ns n h = h
among_behind (m ∷ ms) ns n h = right_true (same_name m n) (is_among (ms ++ ns) n) (among_behind ms ns n h)

values_named : (d : ParameterDeclaration) (given : Overrides) (vs : List (Name × Expression)) (known : Entries Object) (n : Name)
    → IsTrue (is_some (entry_of (with_values d given vs known) n)) → IsTrue (is_some (entry_of known n)) ⊎ IsTrue (is_among (value_names vs) n)
values_named d given [] known n h = inl h
values_named d given (v ∷ vs) known n h =
    let o : Object = one_parameter (scope_of known) d.signed d.range v.1 (override_of d given v.0) in
    elim (values_named d given vs (known ++ (v.0, o) ∷ []) n h) as (λ _. IsTrue (is_some (entry_of known n)) ⊎ IsTrue (is_among (value_names (v ∷ vs)) n)) [
      | inl k ↦ elim (entry_either known ((v.0, o) ∷ []) n k) as (λ _. IsTrue (is_some (entry_of known n)) ⊎ IsTrue (is_among (value_names (v ∷ vs)) n)) [
        | inl i ↦ inl i
        | inr i ↦ inr (left_true (same_name v.0 n) (is_among (value_names vs) n) (named (same_name v.0 n) o i))
      ]
      | inr k ↦ inr (right_true (same_name v.0 n) (is_among (value_names vs) n) k)
    ]
  where
    named : (c : Bool) (o : Object) → IsTrue (is_some (cond c (Some o) None)) → IsTrue c
    named true o i = refl
    named false o i = i

parameters_named : (ds : List ParameterDeclaration) (given : Overrides) (known : Entries Object) (n : Name)
    → IsTrue (is_some (entry_of (with_parameters ds given known) n)) → IsTrue (is_some (entry_of known n)) ⊎ IsTrue (is_among (parameter_names ds) n)
parameters_named [] given known n h = inl h
parameters_named (d ∷ ds) given known n h =
    elim (parameters_named ds given (with_values d given d.values known) n h)
    as (λ _. IsTrue (is_some (entry_of known n)) ⊎ IsTrue (is_among (value_names d.values ++ parameter_names ds) n)) [
      | inl k ↦ elim (values_named d given d.values known n k) as (λ _. IsTrue (is_some (entry_of known n)) ⊎ IsTrue (is_among (value_names d.values ++ parameter_names ds) n)) [
        | inl i ↦ inl i
        | inr i ↦ inr (among_ahead (value_names d.values) (parameter_names ds) n i)
      ]
      | inr k ↦ inr (among_behind (value_names d.values) (parameter_names ds) n k)
    ]

entry_named : (m : Module) (given : Overrides) (n : Name) → IsTrue (is_some (entry_of (constants_of m given) n)) → IsTrue (is_among (parameter_names (all_parameters m)) n)
entry_named m given n h =
    elim (parameters_named (all_parameters m) given [] n h) as (λ _. IsTrue (is_among (parameter_names (all_parameters m)) n)) [ inl k ↦ absurd (false≢true k) | inr k ↦ k ]

placed_are : (d : Design) (path : List PathStep) (p : Placed) → at_path d path ≡ Some p → (real : Overrides) × (p.constants ≡ constants_of p.of_module real)
placed_are d [] p e =
    let f = top_from d p e in (no_overrides, subst (λ (x : Placed). x.constants ≡ constants_of x.of_module no_overrides) f.2 refl)
placed_are d (u ∷ around) p e =
    let s : StepsTo d u around p = step_of d u around p e in
    let f = instance_from d.source (u ∷ s.outer.path) (placed_scope s.outer) s.instance p s.is_placed in (
      overrides_of (placed_scope s.outer) s.instance.parameters p.of_module,
      subst (λ (x : Placed). x.constants ≡ constants_of x.of_module (overrides_of (placed_scope s.outer) s.instance.parameters x.of_module)) f.2 refl,
    )

-- ---- one module

module _ (d : Design) (declared : ¬ HasUndeclared d) (once : ¬ HasDuplicateName d) (ports : ¬ Breaks d bad_port) where
  no_duplicate : (p : Placed) → IsPlacedIn d p → has_duplicate p.of_module ≡ false
  no_duplicate p at = not_true (has_duplicate p.of_module) (λ t. once (HasDuplicateName.names p.of_module (stands_in d p.path p at) t))

  -- a net or variable has no number
  pub net_without : (p : Placed) (n : Name) → IsPlacedIn d p → IsDeclared p n → IsTrue (is_none (placed_scope p n).constant)
  net_without p n at h =
      found (entry_of p.constants n) (λ t. net_no_parameter p.of_module n (no_duplicate p at) h (known_parameter t)) (declaration_of (declarations p.of_module) n)
    where
      known_parameter : IsTrue (is_some (entry_of p.constants n)) → IsTrue (is_among (parameter_names (all_parameters p.of_module)) n)
      known_parameter t =
          let r = placed_are d p.path p at in entry_named p.of_module r.0 n (subst (λ es. IsTrue (is_some (entry_of es n))) r.1 t)

      object : (s : Scope) (x : Declaration) → IsTrue (is_none (declared_object s x).constant)
      object s x = ranged x.range
        where
          ranged : (r : Option Range) → IsTrue (is_none (ranged_object s x.signed r).constant)
          ranged None = refl
          ranged (Some r) = refl

      found : (x : Option Object) → (IsTrue (is_some x) → ⊥) → (y : Option Declaration)
          → IsTrue (is_none (object_or_undeclared (first_of x (option_map (declared_object (scope_of p.constants)) y))).constant)
      found (Some o) f y = absurd (f refl)
      found None f None = refl
      found None f (Some x) = object (scope_of p.constants) x

  -- what is connected to an output is a target
  bad_item : (items : List Item) (m : Name) (given : Connections) (is : List (Name × Connections)) → IsAmong items (instances m given is)
      → has_bad_instance d.source items ≡ false → are_badly_connected (module_named d.source m) given is ≡ false
  bad_item [] m given is h e = absurd h
  bad_item (port x ∷ items) m given is (inl i) e = cc
  bad_item (port x ∷ items) m given is (inr h) e = bad_item items m given is h e
  bad_item (parameter x ∷ items) m given is (inl i) e = cc
  bad_item (parameter x ∷ items) m given is (inr h) e = bad_item items m given is h e
  bad_item (wires g r ws ∷ items) m given is (inl i) e = cc
  bad_item (wires g r ws ∷ items) m given is (inr h) e = bad_item items m given is h e
  bad_item (variables g r vs ∷ items) m given is (inl i) e = cc
  bad_item (variables g r vs ∷ items) m given is (inr h) e = bad_item items m given is h e
  bad_item (assign ts ∷ items) m given is (inl i) e = cc
  bad_item (assign ts ∷ items) m given is (inr h) e = bad_item items m given is h e
  bad_item (always es x ∷ items) m given is (inl i) e = cc
  bad_item (always es x ∷ items) m given is (inr h) e = bad_item items m given is h e
  bad_item (instances k g js ∷ items) m given is (inl i) e =
      let one : k ≡ m = cc in
      let two : g ≡ given = cc in
      let three : js ≡ is = cc in
      subst (λ x. are_badly_connected (module_named d.source x) given is ≡ false) one
      (subst (λ x. are_badly_connected (module_named d.source k) x is ≡ false) two
      (subst (λ x. are_badly_connected (module_named d.source k) g x ≡ false) three
      (first_false (are_badly_connected (module_named d.source k) g js) (has_bad_instance d.source items) e)))
  bad_item (instances k g js ∷ items) m given is (inr h) e =
      bad_item items m given is h (second_false (are_badly_connected (module_named d.source k) g js) (has_bad_instance d.source items) e)

  pub output_target : (p below : Placed) (c : Connection) (n : Name) → IsPlacedIn d p → IsAmong (port_connections p.of_module.items) c
      → IsConnectedTo d p c below n output → (t : Target) × (as_target c.expression ≡ Some t)
  output_target p below c n at h to =
      some (as_target c.expression) (not_none (is_output (port_direction below.of_module (port_meant below.of_module c.to_port))) (is_none (as_target c.expression)) is_out fine)
    where
      b : Belongs p.of_module.items c
      b = belongs p.of_module.items c h

      t : StepsTo d (instance_step c.of_instance) p.path below
      t = step_of d (instance_step c.of_instance) p.path below to.is_below

      outer : p ≡ t.outer
      outer = some_same (sym at ∙ t.is_outer)
        where
          some_same : {A : Type 0} {x y : A} → Some x ≡ Some y → x ≡ y
          some_same e = cc

      named : module_named d.source b.of_module ≡ Some below.of_module
      named =
          subst (λ k. module_named d.source k ≡ Some below.of_module)
          (one_module p.of_module c t.instance (no_duplicate p at) b
          (subst (λ (q : Placed). instance_named q.of_module.items c.of_instance ≡ Some t.instance) (sym outer) t.is_reached))
          (module_of_instance d.source (instance_step c.of_instance ∷ t.outer.path) (placed_scope t.outer) t.instance below t.is_placed)

      known : (q : Placed) × (known_at d.source d.top p.path ≡ Some q) × (q.of_module ≡ p.of_module)
      known = is_known d p.path p at

      instances_fine : has_bad_instance d.source p.of_module.items ≡ false
      instances_fine =
          subst (λ (m : Module). has_bad_instance d.source m.items ≡ false) known.2
          (second_false (has_reg_input known.0.of_module || has_unequal_ranges (known_scope known.0) known.0.of_module) (has_bad_instance d.source known.0.of_module.items)
          (second_false (lacks_direction known.0.of_module || lacks_port known.0.of_module)
          ((has_reg_input known.0.of_module || has_unequal_ranges (known_scope known.0) known.0.of_module) || has_bad_instance d.source known.0.of_module.items)
          (not_true (has_bad_port d.source known.0) (λ x. ports (record { path = p.path; place = known.0; is_placed = known.1; is_so = x })))))

      item : are_badly_connected (Some below.of_module) b.given b.each ≡ false
      item = subst (λ x. are_badly_connected x b.given b.each ≡ false) named (bad_item p.of_module.items b.of_module b.given b.each b.is_item instances_fine)

      fine : is_bad_output below.of_module c ≡ false
      fine =
          any_false (is_bad_output below.of_module) (instance_connections c.of_instance b.connections) c
          (second_false _ (list_any (is_bad_output below.of_module) (instance_connections c.of_instance b.connections))
          (any_false (is_badly_connected below.of_module) b.each (c.of_instance, b.connections) (second_false _ (list_any (is_badly_connected below.of_module) b.each) item) b.is_instance))
          b.is_one

      is_out : is_output (port_direction below.of_module (port_meant below.of_module c.to_port)) ≡ true
      is_out = ap is_output (ap (port_direction below.of_module) to.is_meant ∙ to.is_port)

      not_none : (x y : Bool) → x ≡ true → (x && y) ≡ false → y ≡ false
      not_none true y e f = f
      not_none false y e f = absurd (false≢true e)

      some : (x : Option Target) → is_none x ≡ false → (z : Target) × (x ≡ Some z)
      some None e = absurd (false≢true (sym e))
      some (Some z) e = (z, refl)

-- ---- the flat drivers

module _ (d : Design) (called : Naming) (declared : ¬ HasUndeclared d) (once : ¬ HasDuplicateName d) (ports : ¬ Breaks d bad_port) (naming : IsNaming d called)
    (s : Scope) (links : List (Target × Expression)) (blocks clocked : List Statement) (flat : IsFlat d called s links blocks clocked) where
  expression_bits : (p : Placed) (e : Expression) → IsPlacedIn d p → EachIn (IsNameOf p) e
      → AreRenamedBits (called p.path) (reads (placed_scope p) e) (reads s (renamed_expression (called p.path) e))
  expression_bits p e at a =
      known_reads (called p.path) (placed_scope p) s e (naming.apart p at) (expression_known d called declared s links blocks clocked flat p e at a)

  statement_bits : (p : Placed) (x : Statement) → IsPlacedIn d p → EachInStatement (IsNameOf p) x
      → AreRenamedBits (called p.path) (statement_reads (placed_scope p) x) (statement_reads s (renamed_statement (called p.path) x))
  statement_bits p x at a =
      statement_renamed (called p.path) (placed_scope p) s (naming.apart p at) x (statement_known d called declared s links blocks clocked flat p x at a)

  module _ (p : Placed) (n : Name) (k b : ℕ) (at : IsPlacedIn d p) (net : IsDeclared p n) where
    -- bits of a module in the one scope are bits of p only if the module is p
    tell : (q : Placed) (old new : BitSet) → IsPlacedIn d q → AreRenamedBits (called q.path) old new → ((m : Name) → IsTrue (old m k b) → IsNameOf q m)
        → IsTrue (new (called p.path n) k b) → (q ≡ p) × IsTrue (old n k b)
    tell q old new at_q h named t =
        let f = h.only (called p.path n) k b t in
        let o : IsTrue (old f.old k b) = sym (h.same f.old k b) ∙ ap (λ i. new i k b) f.is_new ∙ t in
        let r = one_place d called naming q p f.old n at_q at (named f.old o) (inl net) f.is_new in
        (r.0, subst (λ m. IsTrue (old m k b)) r.1 o)

    told_expression : (q : Placed) (e : Expression) → IsPlacedIn d q → EachIn (IsNameOf q) e → IsTrue (reads s (renamed_expression (called q.path) e) (called p.path n) k b)
        → (q ≡ p) × IsTrue (reads (placed_scope q) e n k b)
    told_expression q e at_q a t =
        tell q (reads (placed_scope q) e) (reads s (renamed_expression (called q.path) e)) at_q (expression_bits q e at_q a)
        (λ m h. (expression_named (IsNameOf q) (placed_scope q) m k b e a h).0) t

    told_statement : (q : Placed) (x : Statement) → IsPlacedIn d q → EachInStatement (IsNameOf q) x
        → IsTrue (statement_reads s (renamed_statement (called q.path) x) (called p.path n) k b) → (q ≡ p) × IsTrue (statement_reads (placed_scope q) x n k b)
    told_statement q x at_q a t =
        tell q (statement_reads (placed_scope q) x) (statement_reads s (renamed_statement (called q.path) x)) at_q (statement_bits q x at_q a)
        (λ m h. (statement_named (IsNameOf q) (placed_scope q) m k b x a h).0) t

    -- ---- there

    read_there : IsRead d p n k b → IsReadFlat s links blocks clocked (called p.path n) k b ⊎ (IsOutputOfTop p n × IsBitOf p n k b)
    read_there (IsRead.by_assignment a c t) =
        inl (IsReadFlat.by_link (renamed_assignment (called p.path) a) ((flat.are_links (renamed_assignment (called p.path) a)).1 (of_module p a at c))
        ((expression_bits p a.1 at (in_right_side d declared p at a (among_contains (assignments p.of_module.items) a c))).same n k b ∙ t))
    read_there (IsRead.by_clocked x c t) =
        inl (IsReadFlat.by_clocked (renamed_statement (called p.path) x) ((flat.are_clocked (renamed_statement (called p.path) x)).1 (of_clocked p x at c))
        ((statement_bits p x at (in_clocked d declared p at x (among_contains (clocked_blocks p.of_module.items) x c))).same n k b ∙ t))
    read_there (IsRead.by_combinational x c t) =
        inl (IsReadFlat.by_block (renamed_statement (called p.path) x) ((flat.are_blocks (renamed_statement (called p.path) x)).1 (of_block p x at c))
        ((statement_bits p x at (in_block d declared p at x (among_contains (combinational_blocks p.of_module.items) x c))).same n k b ∙ t))
    read_there (IsRead.by_input c below m stands to t) =
        inl (IsReadFlat.by_link (into_input called p below m c.expression)
        ((flat.are_links (into_input called p below m c.expression)).1 (of_connection p c (into_input called p below m c.expression) at stands (to_input below m to)))
        ((expression_bits p c.expression at (in_connection d declared p at c (among_contains (port_connections p.of_module.items) c stands))).same n k b ∙ t))
    read_there (IsRead.by_output around c at_around stands to bit) =
        let t = output_target d declared once ports around p c n at_around (among_contains (port_connections around.of_module.items) c stands) to in
        let says = flat.says_the_same p n at (inl net) in
        inl (IsReadFlat.by_link (out_of_output called around p n t.0)
        ((flat.are_links (out_of_output called around p n t.0)).1 (of_connection around c (out_of_output called around p n t.0) at_around stands (of_output p n t.0 to t.1)))
        (whole_reads s (called p.path n) k b (subst (λ o. IsTrue (is_none o.constant)) (sym says) (net_without d declared once ports p n at net))
        (subst (λ o. IsTrue (is_bit_of o k b)) (sym says) bit)))
    read_there (IsRead.as_output_of_top top is_port bit) = inr (record { at_top = top; is_port = is_port }, bit)

    -- ---- and back

    connection_back : (q : Placed) (c : Connection) (a : Target × Expression) → IsPlacedIn d q → Contains (port_connections q.of_module.items) c → IsLink d called q c a
        → IsTrue (reads s a.1 (called p.path n) k b) → IsRead d p n k b
    connection_back q c _ at_q stands (to_input below m to) t =
        let r = told_expression q c.expression at_q (in_connection d declared q at_q c (among_contains (port_connections q.of_module.items) c stands)) t in
        subst (λ z. Contains (port_connections z.of_module.items) c → IsConnectedTo d z c below m input → IsTrue (reads (placed_scope z) c.expression n k b) → IsRead d p n k b) (sym r.0)
        (λ g i j. IsRead.by_input c below m g i j) stands to r.1
    connection_back q c _ at_q stands (of_output below m x to e) t =
        let at_below : IsPlacedIn d below = leads_to d q below c m to in
        let is_name : IsNameOf below m = inl (port_is_declared below m output to.is_port) in
        let r = told_expression below (whole_name m) at_below (is_name, tt) t in
        let here = expression_named (λ i. m ≡ i) (placed_scope below) n k b (whole_name m) (refl, tt) r.1 in
        IsRead.by_output q c at_q stands
        (subst (λ z. IsConnectedTo d q c z n output) r.0 (subst (λ i. IsConnectedTo d q c below i output) here.0 to))
        (subst (λ z. IsTrue (is_bit_of (placed_scope z n) k b)) r.0 here.1)

    link_back : (a : Target × Expression) → IsFlatLink d called a → IsTrue (reads s a.1 (called p.path n) k b) → IsRead d p n k b
    link_back _ (of_module q a at_q c) t =
        let r = told_expression q a.1 at_q (in_right_side d declared q at_q a (among_contains (assignments q.of_module.items) a c)) t in
        subst (λ z. Contains (assignments z.of_module.items) a → IsTrue (reads (placed_scope z) a.1 n k b) → IsRead d p n k b) (sym r.0)
        (λ g i. IsRead.by_assignment a g i) c r.1
    link_back _ (of_connection q c a at_q stands l) t = connection_back q c a at_q stands l t

    block_back : (x : Statement) → IsFlatBlock d called x → IsTrue (statement_reads s x (called p.path n) k b) → IsRead d p n k b
    block_back _ (of_block q x at_q c) t =
        let r = told_statement q x at_q (in_block d declared q at_q x (among_contains (combinational_blocks q.of_module.items) x c)) t in
        subst (λ z. Contains (combinational_blocks z.of_module.items) x → IsTrue (statement_reads (placed_scope z) x n k b) → IsRead d p n k b) (sym r.0)
        (λ g i. IsRead.by_combinational x g i) c r.1

    clocked_back : (x : Statement) → IsFlatClocked d called x → IsTrue (statement_reads s x (called p.path n) k b) → IsRead d p n k b
    clocked_back _ (of_clocked q x at_q c) t =
        let r = told_statement q x at_q (in_clocked d declared q at_q x (among_contains (clocked_blocks q.of_module.items) x c)) t in
        subst (λ z. Contains (clocked_blocks z.of_module.items) x → IsTrue (statement_reads (placed_scope z) x n k b) → IsRead d p n k b) (sym r.0)
        (λ g i. IsRead.by_clocked x g i) c r.1

    read_back : IsReadFlat s links blocks clocked (called p.path n) k b ⊎ (IsOutputOfTop p n × IsBitOf p n k b) → IsRead d p n k b
    read_back (inl (IsReadFlat.by_link a c t)) = link_back a ((flat.are_links a).0 c) t
    read_back (inl (IsReadFlat.by_block x c t)) = block_back x ((flat.are_blocks x).0 c) t
    read_back (inl (IsReadFlat.by_clocked x c t)) = clocked_back x ((flat.are_clocked x).0 c) t
    read_back (inr h) = IsRead.as_output_of_top h.0.at_top h.0.is_port h.1

    -- what is read is a bit that there is
    read_bit : IsRead d p n k b → IsBitOf p n k b
    read_bit (IsRead.by_assignment a c t) =
        (expression_named (IsNameOf p) (placed_scope p) n k b a.1 (in_right_side d declared p at a (among_contains (assignments p.of_module.items) a c)) t).1
    read_bit (IsRead.by_clocked x c t) =
        (statement_named (IsNameOf p) (placed_scope p) n k b x (in_clocked d declared p at x (among_contains (clocked_blocks p.of_module.items) x c)) t).1
    read_bit (IsRead.by_combinational x c t) =
        (statement_named (IsNameOf p) (placed_scope p) n k b x (in_block d declared p at x (among_contains (combinational_blocks p.of_module.items) x c)) t).1
    read_bit (IsRead.by_input c below m stands to t) =
        (expression_named (IsNameOf p) (placed_scope p) n k b c.expression (in_connection d declared p at c (among_contains (port_connections p.of_module.items) c stands)) t).1
    read_bit (IsRead.by_output around c at_around stands to bit) = bit
    read_bit (IsRead.as_output_of_top top is_port bit) = bit

    -- ---- drivers

    same_drivers : (l c : ℕ) → IsDrivenTheSame d called s links blocks clocked p n l c
    same_drivers l c = driven_the_same d called declared naming s links blocks clocked flat p n l c at net

    to_driven : (l c : ℕ) → IsDrivenFlat s links blocks clocked (called p.path n) l c → IsDriven d p n l c
    to_driven l c (inl t) = (same_drivers l c).driven.1 (inl t)
    to_driven l c (inr (inl t)) = (same_drivers l c).driven.1 (inr (inl t))
    to_driven l c (inr (inr t)) = (same_drivers l c).driven.1 (inr (inr (inl t)))

    from_driven : (l c : ℕ) → (IsInputOfTop d p n → ⊥) → IsDriven d p n l c → IsDrivenFlat s links blocks clocked (called p.path n) l c
    from_driven l c no_input h = chosen ((same_drivers l c).driven.0 h)
      where
        chosen : IsTrue (counts s clocked (called p.path n) l c)
            ⊎ (IsTrue (one_may_assign s blocks (called p.path n) l c) ⊎ (IsTrue (one_may_reach s links (called p.path n) l c) ⊎ IsInputOfTop d p n))
            → IsDrivenFlat s links blocks clocked (called p.path n) l c
        chosen (inl t) = inl t
        chosen (inr (inl t)) = inr (inl t)
        chosen (inr (inr (inl t))) = inr (inr t)
        chosen (inr (inr (inr t))) = absurd (no_input t)

    bit_there : (l c : ℕ) → IsBitOf p n l c → IsTrue (is_bit_of (s (called p.path n)) l c)
    bit_there l c h = subst (λ o. IsTrue (is_bit_of o l c)) (sym (flat.says_the_same p n at (inl net))) h

    bit_back : (l c : ℕ) → IsTrue (is_bit_of (s (called p.path n)) l c) → IsBitOf p n l c
    bit_back l c h = subst (λ o. IsTrue (is_bit_of o l c)) (flat.says_the_same p n at (inl net)) h

    to_driver : (m : Bool) → HasFlatDriverAs m s links blocks clocked (called p.path n) k b → IsDrivenAs m d p n k b
    to_driver false h = to_driven k b h
    to_driver true h = (h.0, h.1, bit_back h.0 h.1 h.2, to_driven h.0 h.1 h.3)

    from_driver : (m : Bool) → (IsInputOfTop d p n → ⊥) → IsDrivenAs m d p n k b → HasFlatDriverAs m s links blocks clocked (called p.path n) k b
    from_driver false no_input h = from_driven k b no_input h
    from_driver true no_input h = (h.0, h.1, bit_there h.0 h.1 h.2, from_driven h.0 h.1 no_input h.3)

    driven_anyway : (m : Bool) → IsBitOf p n k b → IsDriven d p n k b → IsDrivenAs m d p n k b
    driven_anyway false bit h = h
    driven_anyway true bit h = (k, b, bit, h)

    same_kind : is_memory (s (called p.path n)) ≡ is_memory (placed_scope p n)
    same_kind = ap is_memory (flat.says_the_same p n at (inl net))

  -- ---- a bit that is read and has no driver

  there : HasUndriven d → HasUndrivenFlat d called s links blocks clocked
  there h =
      record {
        place = p;
        name = n;
        word = k;
        bit = b;
        is_placed = at;
        is_declared = net;
        is_read = read_there p n k b at net h.is_read;
        needs = needs;
        undriven = λ g. h.undriven (to_driver p n k b at net (is_memory (placed_scope p n))
            (subst (λ m. HasFlatDriverAs m s links blocks clocked (called p.path n) k b) (same_kind p n k b at net) g));
      }
    where
      p : Placed
      p = h.place

      n : Name
      n = h.name

      k : ℕ
      k = h.word

      b : ℕ
      b = h.bit

      at : IsPlacedIn d h.place
      at = h.is_placed

      net : IsDeclared h.place h.name
      net = h.is_declared

      no_clock : h.place.path ≡ [] → h.name ≡ d.clock → ⊥
      no_clock top e = h.no_clock (subst (IsClockNet d h.place) (sym e) (IsClockNet.at_top h.place h.is_placed top))

      needs : h.place.path ≡ [] → (h.name ≡ d.clock) ⊎ HasPort h.place.of_module h.name input → ⊥
      needs top (inl e) = no_clock top e
      needs top (inr is_port) =
          h.undriven (driven_anyway h.place h.name h.word h.bit h.is_placed h.is_declared (is_memory (placed_scope h.place h.name))
          (read_bit h.place h.name h.word h.bit h.is_placed h.is_declared h.is_read) (IsDriven.by_top_input top is_port (λ e. no_clock top e)))

  clock_placed : (p : Placed) (n : Name) → IsClockNet d p n → IsPlacedIn d p
  clock_placed _ _ (IsClockNet.at_top p at top) = at
  clock_placed _ _ (IsClockNet.at_input around below c m n net stands to is) = leads_to d around below c n to

  back : HasUndrivenFlat d called s links blocks clocked → HasUndriven d
  back h =
      record {
        place = h.place;
        name = h.name;
        word = h.word;
        bit = h.bit;
        is_placed = h.is_placed;
        is_declared = h.is_declared;
        is_read = is_read;
        no_clock = λ net. by_clock h.place h.name net h.needs (read_bit h.place h.name h.word h.bit h.is_placed h.is_declared is_read) no_driver;
        undriven = no_driver;
      }
    where
      is_read : IsRead d h.place h.name h.word h.bit
      is_read = read_back h.place h.name h.word h.bit h.is_placed h.is_declared h.is_read

      no_driver : HasDriver d h.place h.name h.word h.bit → ⊥
      no_driver g =
          h.undriven (subst (λ m. HasFlatDriverAs m s links blocks clocked (called h.place.path h.name) h.word h.bit)
          (sym (same_kind h.place h.name h.word h.bit h.is_placed h.is_declared))
          (from_driver h.place h.name h.word h.bit h.is_placed h.is_declared (is_memory (placed_scope h.place h.name)) (λ i. h.needs i.at_top (inr i.is_port)) g))

      by_clock : (p : Placed) (n : Name) → IsClockNet d p n → (p.path ≡ [] → (n ≡ d.clock) ⊎ HasPort p.of_module n input → ⊥)
          → IsBitOf p n h.word h.bit → (HasDriver d p n h.word h.bit → ⊥) → ⊥
      by_clock _ _ (IsClockNet.at_top p at top) f bit g = f top (inl refl)
      by_clock _ _ (IsClockNet.at_input around below c m n net stands to is) f bit g = g (any_memory (is_memory (placed_scope below n)))
        where
          driven : (l i : ℕ) → IsDriven d below n l i
          driven l i = IsDriven.by_input around c (clock_placed around m net) stands to

          any_memory : (x : Bool) → IsDrivenAs x d below n h.word h.bit
          any_memory false = driven h.word h.bit
          any_memory true = (h.word, h.bit, bit, driven h.word h.bit)

pub bits_are_read_the_same : BitsAreReadTheSame
bits_are_read_the_same d called s links blocks clocked p n k b declared once ports naming flat at net = (
  read_there d called declared once ports naming s links blocks clocked flat p n k b at net,
  read_back d called declared once ports naming s links blocks clocked flat p n k b at net,
)

pub undriven_bits_are_the_same : UndrivenBitsAreTheSame
undriven_bits_are_the_same d called s links blocks clocked declared once ports naming flat = (
  there d called declared once ports naming s links blocks clocked flat,
  back d called declared once ports naming s links blocks clocked flat,
)
