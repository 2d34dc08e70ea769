-- So does a module.
use Rattle.std.proofs.Common.{◌≡◌, ℕ, ◌+◌, Bool, true, false, cond, ◌||◌, List, [], ◌∷◌, refl, ap, ◌∙◌, Option, Some, None, option_map}
use Rattle.std.specs.Prelude.{ℤ}
use Rattle.wb_values.specs.Value.{Name}
use Rattle.wb_values.specs.Choice.{some_if}
use Rattle.verilog_trees.specs.Syntax.{Expression, Expressions, no_expressions, expression, Target, place, joined, Targets, no_targets, target, CaseKind, Statement, empty, blocking, nonblocking, if_then, if_else, case, block, Statements, no_statements, statement, CaseItems, no_items, arm, default_arm, Event, Events, any_change, on_events, Range, PortDeclaration, ParameterDeclaration, Connections, by_name, by_order, Item, port, parameter, wires, variables, assign, always, instances, Module, Source}
use Rattle.verilog_meaning.specs.Expression.{Scope, is_memory, distance, sign_of, width_of}
use Rattle.verilog_meaning.specs.Register.{is_clocked}
use Rattle.verilog_meaning.specs.Hierarchy.{Declaration, declarations, header_ports, module_named}
use Rattle.verilog_meaning.specs.Settled.{as_target, Connection, instance_connections, port_meant}
use Rattle.verilog_rules.specs.Expression.{Broken, also, constant_if, width_if, Position, anywhere, constant, wider, by_total, broken, broken_selects, has_width, broken_constant, constant_number}
use Rattle.verilog_designs.specs.Known.{as_bound, both_bounds, known_range, known_range_width, value_position}
use Rattle.verilog_designs.specs.Ports.{is_output, port_direction}
use Rattle.verilog_designs.specs.Constants.{has_net_as_constant}
use Rattle.verilog_designs.specs.Names.{names_in}
use Rattle.verilog_designs.specs.Expressions.{memory_if, writes_memory, is_outside, broken_bound, broken_range, broken_values, broken_width, broken_parameters, broken_header, broken_ports, broken_target, broken_targets, by_constants, broken_net_target, judged_item, broken_item, broken_items, broken_block_target, broken_statement, broken_statements, broken_arms, broken_event_list, broken_events, broken_assignments, broken_initial_values, broken_output, broken_connection, broken_connections, broken_instances, broken_named_values, broken_ordered_values, broken_overrides, broken_addresses, broken_declaration, broken_declarations, broken_module_item, broken_module_items}
use Rattle.verilog_exists.proofs.Scopes.{SameIn, same_in}
use Rattle.verilog_unique.proofs.Descent.{IsAmong}
use Rattle.verilog_constants.specs.Alike.{AreAlike, AgreeOnConstants, broken_in_scope, ModulesAgree}
use Rattle.verilog_constants.proofs.Digits.{totals}
use Rattle.verilog_constants.proofs.Expressions.{agree_same, agree_both, agree_if, agree_names, agree_totals, placed_agrees, constant_agrees, numbers_agree, alike_constants, IsOrdinary, read_anywhere, wanted_constant, agrees, selects_agree}

agree_quiet : {a b : Broken} → a.has_xz ≡ b.has_xz → a.bad_constant ≡ b.bad_constant → AgreeOnConstants a b
agree_quiet e f = record { digits = e; constants = f }

agree_cond : (b : Bool) {w x y z : Broken} → AgreeOnConstants w x → AgreeOnConstants y z → AgreeOnConstants (cond b w y) (cond b x z)
agree_cond true f g = f
agree_cond false f g = g

module _ (s t : Scope) (alike : AreAlike s t) where
  -- ---- ranges and parameters

  bound_agrees : (e : Expression) → AgreeOnConstants (broken_bound s e) (broken_bound t e)
  bound_agrees e = agree_both (agree_if (ap is_outside (numbers_agree s t e (alike_constants s t alike)))) (constant_agrees s t e alike)

  range_agrees : (r : Option Range) → AgreeOnConstants (broken_range s r) (broken_range t r)
  range_agrees None = agree_same refl
  range_agrees (Some r) = agree_both (bound_agrees r.left) (bound_agrees r.right)

  range_same : (r : Range) → known_range_width s r ≡ known_range_width t r
  range_same r =
      ap (λ a. option_map (λ (b : ℕ × ℕ). distance b.0 b.1 + 1) (both_bounds (as_bound a) (as_bound (constant_number s r.right))))
      (numbers_agree s t r.left (alike_constants s t alike))
      ∙ ap (λ a. option_map (λ (b : ℕ × ℕ). distance b.0 b.1 + 1) (both_bounds (as_bound (constant_number t r.left)) (as_bound a)))
      (numbers_agree s t r.right (alike_constants s t alike))

  value_agrees : (r : Option Range) (e : Expression) → AgreeOnConstants (broken s (value_position s r e) e) (broken t (value_position t r e) e)
  value_agrees None e = constant_agrees s t e alike
  value_agrees (Some r) e = placed_agrees s t _ _ _ _ e alike (λ f. wide (same_in s t e f))
    where
      wide : SameIn s t e → value_position s (Some r) e ≡ value_position t (Some r) e
      wide h =
          ap (λ a. constant (wider a (some_if (has_width s e) (width_of s e))) (sign_of s e)) (range_same r)
          ∙ (ap (λ a. constant (wider (known_range_width t r) (some_if a (width_of s e))) (sign_of s e)) h.has
          ∙ (ap (λ a. constant (wider (known_range_width t r) (some_if (has_width t e) a)) (sign_of s e)) h.width
          ∙ ap (λ a. constant (wider (known_range_width t r) (some_if (has_width t e) (width_of t e))) a) h.sign))

  values_agree : (r : Option Range) (vs : List (Name × Expression)) → AgreeOnConstants (broken_values s r vs) (broken_values t r vs)
  values_agree r [] = agree_same refl
  values_agree r (v ∷ vs) = agree_both (value_agrees r v.1) (values_agree r vs)

  width_agrees : (r : Option Range) → AgreeOnConstants (broken_width s r) (broken_width t r)
  width_agrees None = agree_same refl
  width_agrees (Some r) = agree_quiet refl refl

  parameters_agree : (d : ParameterDeclaration) → AgreeOnConstants (broken_parameters s d) (broken_parameters t d)
  parameters_agree d = agree_both (range_agrees d.range) (agree_both (width_agrees d.range) (values_agree d.range d.values))

  header_agrees : (ds : List ParameterDeclaration) → AgreeOnConstants (broken_header s ds) (broken_header t ds)
  header_agrees [] = agree_same refl
  header_agrees (d ∷ ds) = agree_both (parameters_agree d) (header_agrees ds)

  ports_agree : (ds : List PortDeclaration) → AgreeOnConstants (broken_ports s ds) (broken_ports t ds)
  ports_agree [] = agree_same refl
  ports_agree (d ∷ ds) = agree_both (range_agrees d.range) (ports_agree ds)

  -- ---- targets

  mutual
    target_agrees : (p : Position) → IsOrdinary p → (x : Target) → AgreeOnConstants (broken_target s p x) (broken_target t p x)
    target_agrees p h (place n x) = agree_both (agree_names (s n) (t n) x x) (selects_agree s t alike p h (s n) (t n) x)
    target_agrees p h (joined xs) = agree_both (agree_totals _ _) (targets_agree p h xs)

    targets_agree : (p : Position) → IsOrdinary p → (xs : Targets) → AgreeOnConstants (broken_targets s p xs) (broken_targets t p xs)
    targets_agree p h no_targets = agree_same refl
    targets_agree p h (target x xs) = agree_both (target_agrees p h x) (targets_agree p h xs)

  net_target_agrees : (p : Position) → IsOrdinary p → (x : Target) → AgreeOnConstants (broken_net_target s p x) (broken_net_target t p x)
  net_target_agrees p h x = agree_both (agree_quiet {a = memory_if (writes_memory s x)} {b = memory_if (writes_memory t x)} refl refl) (target_agrees p h x)

  -- ---- statements

  items_agree : (kind : CaseKind) (es : Expressions) → AgreeOnConstants (broken_items s kind es) (broken_items t kind es)
  items_agree kind no_expressions = agree_same refl
  items_agree kind (expression e es) = agree_both (agrees s t alike (judged_item kind e)) (items_agree kind es)

  block_target_agrees : (c : Bool) (x : Target) → AgreeOnConstants (broken_block_target s c x) (broken_block_target t c x)
  block_target_agrees true x = target_agrees anywhere read_anywhere x
  block_target_agrees false x = net_target_agrees anywhere read_anywhere x

  mutual
    statement_agrees : (c : Bool) (x : Statement) → AgreeOnConstants (broken_statement s c x) (broken_statement t c x)
    statement_agrees c empty = agree_same refl
    statement_agrees c (blocking x e) = agree_both (block_target_agrees c x) (agrees s t alike e)
    statement_agrees c (nonblocking x e) = agree_both (block_target_agrees c x) (agrees s t alike e)
    statement_agrees c (if_then e x) = agree_both (agrees s t alike e) (statement_agrees c x)
    statement_agrees c (if_else e x y) = agree_both (agrees s t alike e) (agree_both (statement_agrees c x) (statement_agrees c y))
    statement_agrees c (case kind e items) = agree_both (agrees s t alike e) (arms_agree c kind items)
    statement_agrees c (block n xs) = statements_agree c xs

    statements_agree : (c : Bool) (xs : Statements) → AgreeOnConstants (broken_statements s c xs) (broken_statements t c xs)
    statements_agree c no_statements = agree_same refl
    statements_agree c (statement x xs) = agree_both (statement_agrees c x) (statements_agree c xs)

    arms_agree : (c : Bool) (kind : CaseKind) (items : CaseItems) → AgreeOnConstants (broken_arms s c kind items) (broken_arms t c kind items)
    arms_agree c kind no_items = agree_same refl
    arms_agree c kind (arm es x items) = agree_both (items_agree kind es) (agree_both (statement_agrees c x) (arms_agree c kind items))
    arms_agree c kind (default_arm x items) = agree_both (statement_agrees c x) (arms_agree c kind items)

  event_list_agrees : (es : List Event) → AgreeOnConstants (broken_event_list s es) (broken_event_list t es)
  event_list_agrees [] = agree_same refl
  event_list_agrees (e ∷ es) = agree_both (agree_quiet {a = memory_if (is_memory (s e.signal))} {b = memory_if (is_memory (t e.signal))} refl refl) (event_list_agrees es)

  events_agree : (es : Events) → AgreeOnConstants (broken_events s es) (broken_events t es)
  events_agree any_change = agree_same refl
  events_agree (on_events es) = event_list_agrees es

  -- ---- assignments and connections

  assignments_agree : (ts : List (Target × Expression)) → AgreeOnConstants (broken_assignments s ts) (broken_assignments t ts)
  assignments_agree [] = agree_same refl
  assignments_agree (a ∷ rest) =
      agree_both (agree_both (net_target_agrees by_constants (wanted_constant _ _) a.0) (agrees s t alike a.1)) (assignments_agree rest)

  initial_values_agree : (ws : List (Name × Option Expression)) → AgreeOnConstants (broken_initial_values s ws) (broken_initial_values t ws)
  initial_values_agree [] = agree_same refl
  initial_values_agree ((n, None) ∷ ws) = initial_values_agree ws
  initial_values_agree ((n, Some e) ∷ ws) = agree_both (agrees s t alike e) (initial_values_agree ws)

  output_agrees : (e : Expression) (x : Option Target) → AgreeOnConstants (broken_output s e x) (broken_output t e x)
  output_agrees e None = agrees s t alike e
  output_agrees e (Some x) = net_target_agrees by_constants (wanted_constant _ _) x

  connection_agrees : (below : Option Module) (c : Connection) → AgreeOnConstants (broken_connection s below c) (broken_connection t below c)
  connection_agrees None c = agrees s t alike c.expression
  connection_agrees (Some below) c =
      agree_cond (is_output (port_direction below (port_meant below c.to_port))) (output_agrees c.expression (as_target c.expression)) (agrees s t alike c.expression)

  connections_agree : (below : Option Module) (cs : List Connection) → AgreeOnConstants (broken_connections s below cs) (broken_connections t below cs)
  connections_agree below [] = agree_same refl
  connections_agree below (c ∷ cs) = agree_both (connection_agrees below c) (connections_agree below cs)

  instances_agree : (below : Option Module) (is : List (Name × Connections)) → AgreeOnConstants (broken_instances s below is) (broken_instances t below is)
  instances_agree below [] = agree_same refl
  instances_agree below (i ∷ is) = agree_both (connections_agree below (instance_connections i.0 i.1)) (instances_agree below is)

  named_values_agree : (cs : List (Name × Option Expression)) → AgreeOnConstants (broken_named_values s cs) (broken_named_values t cs)
  named_values_agree [] = agree_same refl
  named_values_agree ((n, None) ∷ cs) = named_values_agree cs
  named_values_agree ((n, Some e) ∷ cs) = agree_both (constant_agrees s t e alike) (named_values_agree cs)

  ordered_values_agree : (es : List (Option Expression)) → AgreeOnConstants (broken_ordered_values s es) (broken_ordered_values t es)
  ordered_values_agree [] = agree_same refl
  ordered_values_agree (None ∷ es) = ordered_values_agree es
  ordered_values_agree (Some e ∷ es) = agree_both (constant_agrees s t e alike) (ordered_values_agree es)

  overrides_agree : (cs : Connections) → AgreeOnConstants (broken_overrides s cs) (broken_overrides t cs)
  overrides_agree (by_name cs) = named_values_agree cs
  overrides_agree (by_order es) = ordered_values_agree es

  -- ---- modules

  addresses_agree : (vs : List (Name × Option Range)) → AgreeOnConstants (broken_addresses s vs) (broken_addresses t vs)
  addresses_agree [] = agree_same refl
  addresses_agree (v ∷ vs) = agree_both (range_agrees v.1) (addresses_agree vs)

  declarations_agree : (m : Module) (ds : List Declaration) → AgreeOnConstants (broken_declarations s m ds) (broken_declarations t m ds)
  declarations_agree m [] = agree_same refl
  declarations_agree m (d ∷ ds) = agree_both (agree_quiet {a = broken_declaration s m d} {b = broken_declaration t m d} refl refl) (declarations_agree m ds)

  item_agrees : (source : Source) (i : Item) → AgreeOnConstants (broken_module_item source s i) (broken_module_item source t i)
  item_agrees source (port d) = range_agrees d.range
  item_agrees source (parameter d) = parameters_agree d
  item_agrees source (wires signed r ws) = agree_both (range_agrees r) (initial_values_agree ws)
  item_agrees source (variables signed r vs) = agree_both (range_agrees r) (addresses_agree vs)
  item_agrees source (assign ts) = assignments_agree ts
  item_agrees source (always es x) = agree_both (events_agree es) (statement_agrees (is_clocked es) x)
  item_agrees source (instances m given is) = agree_both (overrides_agree given) (instances_agree (module_named source m) is)

  all_items_agree : (source : Source) (items : List Item) → AgreeOnConstants (broken_module_items source s items) (broken_module_items source t items)
  all_items_agree source [] = agree_same refl
  all_items_agree source (i ∷ items) = agree_both (item_agrees source i) (all_items_agree source items)

pub modules_agree : ModulesAgree
modules_agree source s t m alike =
    agree_both (agree_if {a = has_net_as_constant source m} refl)
    (agree_both (agree_both (header_agrees s t alike m.parameters) (ports_agree s t alike (header_ports m.ports)))
    (agree_both (declarations_agree s t alike m (declarations m)) (all_items_agree s t alike source m.items)))
