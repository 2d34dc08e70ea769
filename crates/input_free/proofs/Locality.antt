-- In an accepted design two valuations that settled for the same registers, whatever the inputs are, agree on each bit that is driven, if they
-- agree on all on which it depends.
use Rattle.std.proofs.Common.{◌≡◌, true, false, ◌∷◌, ◌++◌, ◌⊎◌, inl, inr, refl, sym, ap, ◌∙◌, subst, Some}
use Rattle.std.specs.Prelude.{IsTrue, ◌&&◌}
use Rattle.std.specs.List.{Contains}
use Rattle.wb_values.specs.Value.{Name, Valuation}
use Rattle.verilog_trees.specs.Syntax.{Expression, Target, Statement, input, output, instances}
use Rattle.verilog_meaning.specs.Register.{combinational_blocks, may_reach, may_assign}
use Rattle.verilog_meaning.specs.Hierarchy.{header_ports, instance_step, Placed, placed_scope, module_named, instance_named}
use Rattle.verilog_meaning.specs.Settled.{Design, IsPlacedIn, inside, IsValueOf, HasPort, whole_of, whole_name, assignments, as_target, Connection, instance_connections, port_connections, port_meant, IsConnectedTo, IsSettled}
use Rattle.verilog_designs.specs.Names.{names_in, names_in_statement, names_in_connections, names_in_parameters, names_in_ports, all_item_mentions, has_duplicate}
use Rattle.verilog_designs.specs.Ports.{is_output, port_direction}
use Rattle.verilog_designs.specs.Constants.{index_names, constant_names_in_instances, constant_names_in_module_items, constant_names_in_module, has_net_as_constant}
use Rattle.verilog_designs.specs.Dependence.{Bit, IsGivenBy, at_start, After}
use Rattle.verilog_designs.specs.Accepted.{HasDuplicateName, IsAccepted, undeclared, duplicate_name, bad_constant}
use Rattle.verilog_settled.specs.Locality.{LeavesAre, has_constant_selects, AssignedBitIsLocal, BlockBitIsLocal}
use Rattle.wb_laws.specs.Settled.{SettledValueFitsItsWidth}
use Rattle.verilog_unique.specs.Agreement.{Agree, IsBitDeclared, AreLocal}
use Rattle.verilog_unique.specs.Unique.{AnyName, NumbersFit}
use Rattle.verilog_unique.proofs.Options.{is_same, left_true, not_true}
use Rattle.verilog_unique.proofs.Descent.{IsAmong, among_right, among_contains}
use Rattle.verilog_unique.proofs.Paths.{StepsTo, step_of, placed_in}
use Rattle.verilog_unique.proofs.Standing.{IsKnownIn, stands_in, module_of_instance, mentioned_known}
use Rattle.verilog_unique.proofs.Mentioned.{AreUsed, in_module, assignment_used, indexes_used, block_used, connection_used}
use Rattle.verilog_unique.proofs.Parameters.{parameter_number, no_constant_memory}
use Rattle.verilog_unique.proofs.Ports.{port_is_declared}
use Rattle.verilog_unique.proofs.Instances.{Belongs, belongs, one_module}
use Rattle.verilog_unique.proofs.Constants.{target_constant, as_target_named, in_assignments, in_connection, in_connections, in_instances, in_item, is_known, parameter_if_constant}
use Rattle.verilog_unique.proofs.Fitting.{leaves, statements, numbers_in, known_fit, names_known}
use Rattle.verilog_unique.proofs.Local.{assigned_one, run_one, connected_one}

-- what holds or else is refuted
or_differ : {A B : Type 0} → A ⊎ B → ¬ B → A
or_differ (inl a) n = a
or_differ (inr b) n = absurd (n b)

-- ---- constant indexes

no_net : (d : Design) → IsAccepted d → (p : Placed) → IsPlacedIn d p → has_net_as_constant d.source p.of_module ≡ false
no_net d accepted p at =
    let q = is_known d p.path p at in
    subst (λ m. has_net_as_constant d.source m ≡ false) q.2
    (not_true (has_net_as_constant d.source q.0.of_module)
    (λ t. accepted bad_constant (record { path = p.path; place = q.0; is_placed = q.1; is_so = left_true (has_net_as_constant d.source q.0.of_module) _ t })))

no_duplicate : (d : Design) → IsAccepted d → (p : Placed) → IsPlacedIn d p → has_duplicate p.of_module ≡ false
no_duplicate d accepted p at =
    not_true (has_duplicate p.of_module) (λ t. accepted duplicate_name (HasDuplicateName.names p.of_module (stands_in d p.path p at) t))

in_module_constants : (d : Design) (p : Placed) (n : Name) → IsAmong (constant_names_in_module_items d.source p.of_module.items) n
    → IsAmong (constant_names_in_module d.source p.of_module) n
in_module_constants d p n h =
    among_right (names_in_parameters p.of_module.parameters ++ names_in_ports (header_ports p.of_module.ports))
    (constant_names_in_module_items d.source p.of_module.items) n h

-- names that are used, and stand where a constant must, are parameters
constant_target : (d : Design) → IsAccepted d → (p : Placed) → IsPlacedIn d p → (t : Target)
    → ((n : Name) → IsAmong (index_names t) n → IsAmong (constant_names_in_module_items d.source p.of_module.items) n)
    → AreUsed (all_item_mentions p.of_module.items) (index_names t) → IsTrue (has_constant_selects (placed_scope p) t)
constant_target d accepted p at t f used =
    target_constant (placed_scope p) t
    (λ n h. parameter_number d p.path p at n
    (parameter_if_constant d.source p.of_module n (no_net d accepted p at) (in_module_constants d p n (f n h))
    (mentioned_known d (accepted undeclared) p.path p at n (in_module p.of_module (index_names t) used n h))))

-- the connection of an output stands where the module below is known
output_constants : (d : Design) → IsAccepted d → (p : Placed) → IsPlacedIn d p → (c : Connection) → IsAmong (port_connections p.of_module.items) c
    → (below : Placed) (m : Name) (t : Target) → IsConnectedTo d p c below m output → as_target c.expression ≡ Some t
    → (n : Name) → IsAmong (index_names t) n → IsAmong (constant_names_in_module_items d.source p.of_module.items) n
output_constants d accepted p at c stands below m t connected is_target n h =
    let b : Belongs p.of_module.items c = belongs p.of_module.items c stands in
    let s : StepsTo d (instance_step c.of_instance) p.path below = step_of d (instance_step c.of_instance) p.path below connected.is_below in
    let outer : p ≡ s.outer = some_same (sym at ∙ s.is_outer) in
    let reached : instance_named p.of_module.items c.of_instance ≡ Some s.instance =
    subst (λ (q : Placed). instance_named q.of_module.items c.of_instance ≡ Some s.instance) (sym outer) s.is_reached in
    let name : s.instance.of_module ≡ b.of_module = one_module p.of_module c s.instance (no_duplicate d accepted p at) b reached in
    let is_below : module_named d.source b.of_module ≡ Some below.of_module =
    subst (λ k. module_named d.source k ≡ Some below.of_module) name
    (module_of_instance d.source (instance_step c.of_instance ∷ s.outer.path) (placed_scope s.outer) s.instance below s.is_placed) in
    in_item d.source p.of_module.items (instances b.of_module b.given b.each) b.is_item n
    (among_right (names_in_connections b.given) (constant_names_in_instances (module_named d.source b.of_module) b.each) n
    (subst (λ x. IsAmong (constant_names_in_instances x b.each) n) (sym is_below)
    (in_instances (Some below.of_module) b.each (c.of_instance, b.connections) b.is_instance n
    (in_connections (Some below.of_module) (instance_connections c.of_instance b.connections) c b.is_one n
    (in_connection below.of_module c t (is_out connected.is_meant connected.is_port) is_target n h)))))
  where
    some_same : {A : Type 0} {x y : A} → Some x ≡ Some y → x ≡ y
    some_same e = cc

    is_out : port_meant below.of_module c.to_port ≡ Some m → HasPort below.of_module m output
        → is_output (port_direction below.of_module (port_meant below.of_module c.to_port)) ≡ true
    is_out e f =
        subst (λ x. is_output (port_direction below.of_module x) ≡ true) (sym e) (ap is_output f)

-- ---- all drivers

module _ (law : SettledValueFitsItsWidth) (assigned_bit : AssignedBitIsLocal) (block_bit : BlockBitIsLocal) (d : Design) (accepted : IsAccepted d) (fit : NumbersFit d.source)
    (registers inputs others v w : Valuation) (v_settled : IsSettled d registers inputs v) (w_settled : IsSettled d registers others w) where
  value_of_bit : (i x : Valuation) → IsSettled d registers i x → (p : Placed) (u : Bit) → IsPlacedIn d p → IsBitDeclared p u
      → IsValueOf (placed_scope p u.of_name) (inside x p u.of_name)
  value_of_bit i x settled p u at declared = (settled.modules p at).fits u.of_name declared.is_declared

  leaves_in : (p : Placed) (e : Expression) → IsPlacedIn d p → AreUsed (all_item_mentions p.of_module.items) (names_in e) → LeavesAre AnyName e
      → LeavesAre (IsKnownIn p.of_module) e
  leaves_in p e at used h = leaves (IsKnownIn p.of_module) e (names_known d (accepted undeclared) p (names_in e) at used) h

  assignment_is_local : (p : Placed) (a : Target × Expression) (u : Bit) → IsPlacedIn d p → Contains (assignments p.of_module.items) a
      → IsBitDeclared p u → IsTrue (may_reach (placed_scope p) a.0 u.of_name u.word u.place)
      → ((y : Bit) → IsGivenBy (placed_scope p) a.0 (placed_scope p) a.1 u y → Agree v w p y) → Agree v w p u
  assignment_is_local p a u at contains declared reaches given =
      let s = placed_scope p in
      let among = among_contains (assignments p.of_module.items) a contains in
      or_differ
      (assigned_bit s s (inside v p) (inside w p) (inside v p) (inside w p) (IsKnownIn p.of_module) a.0 a.1 u
      (no_constant_memory d p.path p at) (no_constant_memory d p.path p at) (known_fit law d registers inputs v p fit v_settled at) (known_fit law d registers others w p fit w_settled at)
      (leaves_in p a.1 at (assignment_used p.of_module.items a among) ((numbers_in d p fit at).assigned a contains))
      (value_of_bit inputs v v_settled p u at declared) (value_of_bit others w w_settled p u at declared)
      (constant_target d accepted p at a.0 (in_assignments d.source p.of_module.items a among) (indexes_used p.of_module.items a among)) reaches
      (assigned_one s (inside v p) (assignments p.of_module.items) a (v_settled.modules p at).assigned among)
      (assigned_one s (inside w p) (assignments p.of_module.items) a (w_settled.modules p at).assigned among))
      (λ z. z.differs (given z.bit z.is_so))

  block_is_local : (p : Placed) (x : Statement) (u : Bit) → IsPlacedIn d p → Contains (combinational_blocks p.of_module.items) x
      → IsBitDeclared p u → IsTrue (may_assign (placed_scope p) x u.of_name u.word u.place)
      → ((y : Bit) → After (placed_scope p) at_start x u y → Agree v w p y) → Agree v w p u
  block_is_local p x u at contains declared assigns given =
      let s = placed_scope p in
      let among = among_contains (combinational_blocks p.of_module.items) x contains in
      or_differ
      (block_bit s (inside v p) (inside w p) (IsKnownIn p.of_module) x u
      (no_constant_memory d p.path p at) (known_fit law d registers inputs v p fit v_settled at) (known_fit law d registers others w p fit w_settled at)
      (statements (IsKnownIn p.of_module) x
      (names_known d (accepted undeclared) p (names_in_statement x) at (block_used p.of_module.items x among)) ((numbers_in d p fit at).blocks x contains))
      (run_one s (inside v p) (combinational_blocks p.of_module.items) x (v_settled.modules p at).combinational among)
      (run_one s (inside w p) (combinational_blocks p.of_module.items) x (w_settled.modules p at).combinational among)
      (value_of_bit inputs v v_settled p u at declared) (value_of_bit others w w_settled p u at declared))
      (λ z. z.differs (given z.bit z.is_so))

  input_is_local : (p below : Placed) (c : Connection) (u : Bit) → IsPlacedIn d p → Contains (port_connections p.of_module.items) c
      → IsConnectedTo d p c below u.of_name input → IsBitDeclared below u
      → ((y : Bit) → IsGivenBy (placed_scope below) (whole_of u.of_name) (placed_scope p) c.expression u y → Agree v w p y) → Agree v w below u
  input_is_local p below c u at contains connected declared given =
      let among = among_contains (port_connections p.of_module.items) c contains in
      let below_at : IsPlacedIn d below = placed_in d (instance_step c.of_instance ∷ p.path) below connected.is_below in
      or_differ
      (assigned_bit (placed_scope below) (placed_scope p) (inside v below) (inside w below) (inside v p) (inside w p) (IsKnownIn p.of_module)
      (whole_of u.of_name) c.expression u
      (no_constant_memory d below.path below below_at) (no_constant_memory d p.path p at) (known_fit law d registers inputs v p fit v_settled at) (known_fit law d registers others w p fit w_settled at)
      (leaves_in p c.expression at (connection_used p.of_module.items c among) ((numbers_in d p fit at).connected c contains))
      (value_of_bit inputs v v_settled below u below_at declared) (value_of_bit others w w_settled below u below_at declared) refl
      (subst (λ b. IsTrue (b && true)) (sym (is_same u.of_name)) refl)
      ((connected_one d v p (port_connections p.of_module.items) c (v_settled.modules p at).connections among).to_input below u.of_name connected)
      ((connected_one d w p (port_connections p.of_module.items) c (w_settled.modules p at).connections among).to_input below u.of_name connected))
      (λ z. z.differs (given z.bit z.is_so))

  output_is_local : (p below : Placed) (c : Connection) (n : Name) (t : Target) (u : Bit) → IsPlacedIn d p
      → Contains (port_connections p.of_module.items) c → IsConnectedTo d p c below n output → as_target c.expression ≡ Some t
      → IsBitDeclared p u → IsTrue (may_reach (placed_scope p) t u.of_name u.word u.place)
      → ((y : Bit) → IsGivenBy (placed_scope p) t (placed_scope below) (whole_name n) u y → Agree v w below y) → Agree v w p u
  output_is_local p below c n t u at contains connected is_target declared reaches given =
      let among = among_contains (port_connections p.of_module.items) c contains in
      let below_at : IsPlacedIn d below = placed_in d (instance_step c.of_instance ∷ p.path) below connected.is_below in
      or_differ
      (assigned_bit (placed_scope p) (placed_scope below) (inside v p) (inside w p) (inside v below) (inside w below) (IsKnownIn below.of_module)
      t (whole_name n) u
      (no_constant_memory d p.path p at) (no_constant_memory d below.path below below_at) (known_fit law d registers inputs v below fit v_settled below_at) (known_fit law d registers others w below fit w_settled below_at)
      (inl (port_is_declared below n output connected.is_port), tt)
      (value_of_bit inputs v v_settled p u at declared) (value_of_bit others w w_settled p u at declared)
      (constant_target d accepted p at t (output_constants d accepted p at c among below n t connected is_target)
      (λ k h. connection_used p.of_module.items c among k (as_target_named c.expression t is_target k h))) reaches
      ((connected_one d v p (port_connections p.of_module.items) c (v_settled.modules p at).connections among).from_output below n t connected is_target)
      ((connected_one d w p (port_connections p.of_module.items) c (w_settled.modules p at).connections among).from_output below n t connected is_target))
      (λ z. z.differs (given z.bit z.is_so))

  pub are_local : AreLocal d v w
  are_local = record { assignment = assignment_is_local; block = block_is_local; input_port = input_is_local; output_port = output_is_local }
