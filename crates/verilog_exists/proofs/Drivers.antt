-- In an accepted design each bit has one driver at most, and what is driven is declared and is no memory.
use Rattle.std.proofs.Common.{◌≡◌, ℕ, suc, true, false, not, List, [], ◌∷◌, ◌++◌, inl, inr, refl, sym, ap, ◌∙◌, subst, Option, Some, None}
use Rattle.std.specs.Prelude.{IsTrue, is_some, slice_get}
use Rattle.std.proofs.lemmas.Bool.{cases_eq, or_cases, and_parts, false≢true}
use Rattle.wb_values.specs.Value.{Name, same_name, entry_of}
use Rattle.verilog_trees.specs.Syntax.{Expression, Target, place, joined, Targets, no_targets, target, Statement, Direction, input, output, instances}
use Rattle.verilog_meaning.specs.Expression.{Object, Scope, is_memory}
use Rattle.verilog_meaning.specs.Register.{clocked_blocks, combinational_blocks, is_bit_of, may_reach, may_reach_one, may_assign, one_may_assign}
use Rattle.verilog_meaning.specs.Hierarchy.{header_ports, declarations, declaration_of, instance_step, Placed, placed_scope, module_named}
use Rattle.verilog_meaning.specs.Settled.{Design, at_path, IsPlacedIn, IsDeclared, IsBitOf, HasPort, port_directions, port_order, port_meant, assignments, as_target, whole_of, Connection, instance_connections, port_connections, IsConnectedTo, is_counted}
use Rattle.verilog_designs.specs.Names.{names_in_connections, names_in_parameters, names_in_ports, all_item_mentions}
use Rattle.verilog_designs.specs.Ports.{is_input, is_output, port_direction}
use Rattle.verilog_designs.specs.Constants.{index_names, constant_names_in_instances, constant_names_in_module_items, constant_names_in_module, has_net_as_constant}
use Rattle.verilog_designs.specs.Drivers.{parts_of, all_parts_of, Driver, assigned, connected, clocked, combinational, MayDrive, IsSameDriven, target_names, is_declared_input, is_fixed, HasBadDriver}
use Rattle.verilog_designs.specs.Accepted.{is_input_port, is_wide_clock, has_no_clock, HasNoTop, no_top, undeclared, bad_constant, bad_driver}
use Rattle.verilog_designs.specs.Names.{is_among}
use Rattle.verilog_settled.specs.Locality.{has_constant_selects}
use Rattle.verilog_unique.proofs.Options.{not_true, not_is_false, first_false, left_true, both_true, same_is}
use Rattle.verilog_unique.proofs.Descent.{IsAmong, among_left, among_right}
use Rattle.verilog_unique.proofs.Paths.{stands_at}
use Rattle.verilog_unique.proofs.Standing.{mentioned_known}
use Rattle.verilog_unique.proofs.Mentioned.{AreUsed, in_module, indexes_used, connection_used}
use Rattle.verilog_unique.proofs.Parameters.{parameter_number}
use Rattle.verilog_unique.proofs.Ports.{port_is_declared}
use Rattle.verilog_unique.proofs.Constants.{target_constant, as_target_named, in_assignments, in_connection, in_connections, in_instances, in_item, is_known, parameter_if_constant}
use Rattle.verilog_exists.specs.Exists.{RangesHaveValues}
use Rattle.verilog_exists.specs.Loops.{IsAcceptedButForLoops}
use Rattle.verilog_exists.proofs.Links.{Link, IsLink, of_assignment, of_output, of_input, assignment_link, output_link, input_link}
use Rattle.verilog_exists.proofs.Givers.{IsSound}
use Rattle.verilog_exists.proofs.Rounds.{reached_name}
use Rattle.verilog_exists.proofs.Directions.{input_declared}
use Rattle.verilog_exists.proofs.Declared.{assigned_name, assignment_free, assignment_declared, output_free, output_declared, block_free, block_declared, clocked_free}
use Rattle.verilog_exists.proofs.Memories.{StandsIn, stands_below, block_memory, assignment_memory, output_memory, port_memory}
use Rattle.verilog_exists.proofs.Inputs.{one_input}

-- ---- places in lists

-- at which place an element stands
place_of : {A : Type 0} (xs : List A) (x : A) → IsAmong xs x → (i : ℕ) × (slice_get xs i ≡ Some x)
place_of [] x h = absurd h
place_of (y ∷ xs) x (inl e) = (0, ap Some e)
place_of (y ∷ xs) x (inr h) = let r = place_of xs x h in (suc r.0, r.1)

some_same : {A : Type 0} {x y : A} → Some x ≡ Some y → x ≡ y
some_same e = cc

-- ---- parts of targets

record HasPart (s : Scope) (ts : List Target) (n : Name) (k b : ℕ) : Type 0 where
  part : Target
  is_part : IsAmong ts part
  reaches : IsTrue (may_reach s part n k b)

mutual
  part_reached : (s : Scope) (t : Target) (n : Name) (k b : ℕ) → IsTrue (may_reach s t n k b) → HasPart s (parts_of t) n k b
  part_reached s (place m x) n k b h = record { part = place m x; is_part = inl refl; reaches = h }
  part_reached s (joined ts) n k b h = one_part_reached s ts n k b h

  one_part_reached : (s : Scope) (ts : Targets) (n : Name) (k b : ℕ) → IsTrue (may_reach_one s ts n k b) → HasPart s (all_parts_of ts) n k b
  one_part_reached s no_targets n k b h = absurd (false≢true h)
  one_part_reached s (target t ts) n k b h =
      elim (or_cases (may_reach s t n k b) (may_reach_one s ts n k b) h) as (λ _. HasPart s (parts_of t ++ all_parts_of ts) n k b) [
        | inl e ↦ let r = part_reached s t n k b e in
            record { part = r.part; is_part = among_left (parts_of t) (all_parts_of ts) r.part r.is_part; reaches = r.reaches }
        | inr e ↦ let r = one_part_reached s ts n k b e in
            record { part = r.part; is_part = among_right (parts_of t) (all_parts_of ts) r.part r.is_part; reaches = r.reaches }
      ]

pub one_assigns : (s : Scope) (xs : List Statement) (n : Name) (k b : ℕ) → IsTrue (one_may_assign s xs n k b)
    → (x : Statement) × IsAmong xs x × IsTrue (may_assign s x n k b)
one_assigns s [] n k b t = absurd (false≢true t)
one_assigns s (x ∷ xs) n k b t =
    elim (or_cases (may_assign s x n k b) (one_may_assign s xs n k b) t) as (λ _. (y : Statement) × IsAmong (x ∷ xs) y × IsTrue (may_assign s y n k b))
    [ inl h ↦ (x, inl refl, h) | inr h ↦ let f = one_assigns s xs n k b h in (f.0, inr f.1, f.2) ]

same_driven : (o : Object) (k b : ℕ) → IsSameDriven o k b k b
same_driven o k b =
    elim o.addresses as (λ a. IsSameDriven (record o { addresses = a }) k b k b) [ None ↦ (refl, refl) | Some x ↦ tt ]

-- ---- what drives a bit of a module

module _ (d : Design) (accepted : IsAcceptedButForLoops d) (p : Placed) (at : IsPlacedIn d p) (n : Name) (k b : ℕ) (is_bit : IsBitOf p n k b) where
  not_two : (one other : Driver) → ¬ (one ≡ other) → MayDrive d p one n k b → MayDrive d p other n k b → ⊥
  not_two one other apart f g =
      accepted bad_driver (λ e. cc) (HasBadDriver.two p at (record {
        name = n;
        word = k;
        bit = b;
        word2 = k;
        bit2 = b;
        one = one;
        other = other;
        is_bit = is_bit;
        is_bit2 = is_bit;
        is_same = same_driven (placed_scope p n) k b;
        are_two = apart;
        one_drives = f;
        other_drives = g;
      }))

  -- a driver of the module, with the place at which it stands
  record DrivesAssigned (a : Target × Expression) : Type 0 where
    number : ℕ
    part : ℕ
    is_there : slice_get (assignments p.of_module.items) number ≡ Some a
    drives : MayDrive d p (assigned number part) n k b

  drives_assigned : (a : Target × Expression) → IsAmong (assignments p.of_module.items) a → IsTrue (may_reach (placed_scope p) a.0 n k b) → DrivesAssigned a
  drives_assigned a h t =
      let i = place_of (assignments p.of_module.items) a h in
      let q = part_reached (placed_scope p) a.0 n k b t in
      let j = place_of (parts_of a.0) q.part q.is_part in
      record { number = i.0; part = j.0; is_there = i.1; drives = (a, q.part, i.1, j.1, q.reaches) }

  record DrivesConnected (c : Connection) : Type 0 where
    number : ℕ
    part : ℕ
    is_there : slice_get (port_connections p.of_module.items) number ≡ Some c
    drives : MayDrive d p (connected number part) n k b

  drives_connected : (c : Connection) (below : Placed) (m : Name) (t : Target) → IsAmong (port_connections p.of_module.items) c
      → IsConnectedTo d p c below m output → as_target c.expression ≡ Some t → IsTrue (may_reach (placed_scope p) t n k b) → DrivesConnected c
  drives_connected c below m t h to e r =
      let i = place_of (port_connections p.of_module.items) c h in
      let q = part_reached (placed_scope p) t n k b r in
      let j = place_of (parts_of t) q.part q.is_part in
      record {
        number = i.0;
        part = j.0;
        is_there = i.1;
        drives = (c, t, q.part, i.1, record { below = below; port = m; is_output = to; is_target = e }, j.1, q.reaches);
      }

  record DrivesInBlock (blocks : List Statement) (driver : ℕ → Driver) (x : Statement) : Type 0 where
    number : ℕ
    is_there : slice_get blocks number ≡ Some x
    drives : MayDrive d p (driver number) n k b

  drives_block : (x : Statement) → IsAmong (combinational_blocks p.of_module.items) x → IsTrue (may_assign (placed_scope p) x n k b)
      → DrivesInBlock (combinational_blocks p.of_module.items) combinational x
  drives_block x h t =
      let i = place_of (combinational_blocks p.of_module.items) x h in record { number = i.0; is_there = i.1; drives = (x, i.1, t) }

  record IsClockDriven : Type 0 where
    block : Statement
    is_block : IsAmong (clocked_blocks p.of_module.items) block
    assigns : IsTrue (may_assign (placed_scope p) block n k b)
    number : ℕ
    drives : MayDrive d p (clocked number) n k b

  clock_driven : is_counted p n k b ≡ true → IsClockDriven
  clock_driven e =
      let x = one_assigns (placed_scope p) (clocked_blocks p.of_module.items) n k b
      (and_parts (is_bit_of (placed_scope p n) k b) (one_may_assign (placed_scope p) (clocked_blocks p.of_module.items) n k b) e).1 in
      let i = place_of (clocked_blocks p.of_module.items) x.0 x.1 in
      record { block = x.0; is_block = x.1; assigns = x.2; number = i.0; drives = (x.0, i.1, x.2) }

  -- one that excludes clocked blocks
  not_counted : (IsClockDriven → ⊥) → is_counted p n k b ≡ false
  not_counted f = not_true (is_counted p n k b) (λ t. f (clock_driven t))

  one_block : (x z : Statement) → IsAmong (combinational_blocks p.of_module.items) x → IsAmong (combinational_blocks p.of_module.items) z
      → IsTrue (may_assign (placed_scope p) x n k b) → IsTrue (may_assign (placed_scope p) z n k b) → x ≡ z
  one_block x z hx hz tx tz =
      let f = drives_block x hx tx in
      let g = drives_block z hz tz in
      elim (cases_eq f.number g.number) as (λ _. x ≡ z) [
        | inl e ↦ some_same (sym f.is_there ∙ ap (slice_get (combinational_blocks p.of_module.items)) e ∙ g.is_there)
        | inr apart ↦ absurd (not_two (combinational f.number) (combinational g.number) (λ e. apart (inner f.number g.number e)) f.drives g.drives)
      ]
    where
      inner : (i j : ℕ) → combinational i ≡ combinational j → i ≡ j
      inner i j e = cc

  two_assigned : (a c : Target × Expression) → DrivesAssigned a → DrivesAssigned c → a ≡ c
  two_assigned a c f g =
      elim (cases_eq f.number g.number) as (λ _. a ≡ c) [
        | inl e ↦ some_same (sym f.is_there ∙ ap (slice_get (assignments p.of_module.items)) e ∙ g.is_there)
        | inr apart ↦ absurd (not_two (assigned f.number f.part) (assigned g.number g.part) (λ e. apart (inner f.number f.part g.number g.part e)) f.drives g.drives)
      ]
    where
      inner : (i s j t : ℕ) → assigned i s ≡ assigned j t → i ≡ j
      inner i s j t e = cc

  two_connected : (a c : Connection) → DrivesConnected a → DrivesConnected c → a ≡ c
  two_connected a c f g =
      elim (cases_eq f.number g.number) as (λ _. a ≡ c) [
        | inl e ↦ some_same (sym f.is_there ∙ ap (slice_get (port_connections p.of_module.items)) e ∙ g.is_there)
        | inr apart ↦ absurd (not_two (connected f.number f.part) (connected g.number g.part) (λ e. apart (inner f.number f.part g.number g.part e)) f.drives g.drives)
      ]
    where
      inner : (i s j t : ℕ) → connected i s ≡ connected j t → i ≡ j
      inner i s j t e = cc

  -- an input port is fixed
  input_fixed : HasPort p.of_module n input → IsTrue (is_fixed p n)
  input_fixed h =
      left_true (is_declared_input (declaration_of (declarations p.of_module) n)) (is_some (placed_scope p n).constant) (input_declared p.of_module n h)

  named_port : (m : Name) → IsTrue (may_reach (placed_scope p) (whole_of m) n k b) → m ≡ n
  named_port m t = same_is m n (and_parts (same_name m n) true t).0

  port_at : (m : Name) → IsTrue (may_reach (placed_scope p) (whole_of m) n k b) → HasPort p.of_module m input → HasPort p.of_module n input
  port_at m t h = subst (λ i. HasPort p.of_module i input) (named_port m t) h

  one_link : (l m : Link) → IsLink d p l → IsLink d p m → IsTrue (may_reach (placed_scope p) l.target n k b) → IsTrue (may_reach (placed_scope p) m.target n k b) → l ≡ m
  one_link _ _ (of_assignment a ha) (of_assignment c hc) ta tc =
      ap (assignment_link p) (two_assigned a c (drives_assigned a ha ta) (drives_assigned c hc tc))
  one_link _ _ (of_assignment a ha) (of_output c below m t hc to e) ta tc =
      let f = drives_assigned a ha ta in
      let g = drives_connected c below m t hc to e tc in
      absurd (not_two (assigned f.number f.part) (connected g.number g.part) (λ h. cc) f.drives g.drives)
  one_link _ _ (of_output c below m t hc to e) (of_assignment a ha) tc ta =
      let f = drives_assigned a ha ta in
      let g = drives_connected c below m t hc to e tc in
      absurd (not_two (assigned f.number f.part) (connected g.number g.part) (λ h. cc) f.drives g.drives)
  one_link _ _ (of_output c below m t hc to e) (of_output c2 below2 m2 t2 hc2 to2 e2) tc tc2 =
      let same : c ≡ c2 = two_connected c c2 (drives_connected c below m t hc to e tc) (drives_connected c2 below2 m2 t2 hc2 to2 e2 tc2) in
      let b_same : below ≡ below2 =
      some_same (sym to.is_below ∙ ap (λ (x : Connection). at_path d (instance_step x.of_instance ∷ p.path)) same ∙ to2.is_below) in
      let m_same : m ≡ m2 =
      some_same (sym to.is_meant ∙ ap (λ (x : Connection). port_meant below.of_module x.to_port) same
      ∙ ap (λ (x : Placed). port_meant x.of_module c2.to_port) b_same ∙ to2.is_meant) in
      let t_same : t ≡ t2 = some_same (sym e ∙ ap (λ (x : Connection). as_target x.expression) same ∙ e2) in
      ap (λ x. output_link x m t) b_same ∙ ap (λ x. output_link below2 x t) m_same ∙ ap (output_link below2 m2) t_same
  one_link _ _ (of_input around c m around_at hc to) (of_input around2 c2 m2 around_at2 hc2 to2) t t2 =
      let names : m2 ≡ m = named_port m2 t2 ∙ sym (named_port m t) in
      one_input d accepted p around around2 c c2 m at around_at around_at2 hc hc2 to (subst (λ i. IsConnectedTo d around2 c2 p i input) names to2)
      ∙ ap (input_link around2 c2) (sym names)
  one_link _ _ (of_input around c m around_at hc to) (of_assignment a ha) t ta =
      absurd (assignment_free d accepted p at a n ha (reached_name (placed_scope p) a.0 n k b ta) (input_fixed (port_at m t to.is_port)))
  one_link _ _ (of_assignment a ha) (of_input around c m around_at hc to) ta t =
      absurd (assignment_free d accepted p at a n ha (reached_name (placed_scope p) a.0 n k b ta) (input_fixed (port_at m t to.is_port)))
  one_link _ _ (of_input around c m around_at hc to) (of_output c2 below m2 t2 hc2 to2 e2) t r =
      absurd (output_free d accepted p at c2 below m2 t2 n hc2 to2 e2 (reached_name (placed_scope p) t2 n k b r) (input_fixed (port_at m t to.is_port)))
  one_link _ _ (of_output c2 below m2 t2 hc2 to2 e2) (of_input around c m around_at hc to) r t =
      absurd (output_free d accepted p at c2 below m2 t2 n hc2 to2 e2 (reached_name (placed_scope p) t2 n k b r) (input_fixed (port_at m t to.is_port)))

  block_alone : (x : Statement) → IsAmong (combinational_blocks p.of_module.items) x → IsTrue (may_assign (placed_scope p) x n k b)
      → (is_counted p n k b ≡ false) × ¬ HasPort p.of_module n input
  block_alone x h t =
      let f = drives_block x h t in (
        not_counted (λ c. not_two (clocked c.number) (combinational f.number) (λ e. cc) c.drives f.drives),
        λ port. block_free d accepted p at x n h (assigned_name (placed_scope p) x n k b t) (input_fixed port),
      )

  input_counted : HasPort p.of_module n input → is_counted p n k b ≡ false
  input_counted port =
      not_counted (λ c. clocked_free d accepted p at c.block n c.is_block (assigned_name (placed_scope p) c.block n k b c.assigns) (input_fixed port))

  link_alone : (l : Link) → IsLink d p l → IsTrue (may_reach (placed_scope p) l.target n k b)
      → (is_counted p n k b ≡ false) × ¬ (p.path ≡ [] × HasPort p.of_module n input)
      × ((x : Statement) → IsAmong (combinational_blocks p.of_module.items) x → ¬ IsTrue (may_assign (placed_scope p) x n k b))
  link_alone _ (of_assignment a h) t =
      let f = drives_assigned a h t in (
        not_counted (λ c. not_two (clocked c.number) (assigned f.number f.part) (λ e. cc) c.drives f.drives),
        λ r. assignment_free d accepted p at a n h (reached_name (placed_scope p) a.0 n k b t) (input_fixed r.1),
        λ x i s. let g = drives_block x i s in not_two (combinational g.number) (assigned f.number f.part) (λ e. cc) g.drives f.drives,
      )
  link_alone _ (of_output c below m t' h to e) t =
      let f = drives_connected c below m t' h to e t in (
        not_counted (λ c. not_two (clocked c.number) (connected f.number f.part) (λ e. cc) c.drives f.drives),
        λ r. output_free d accepted p at c below m t' n h to e (reached_name (placed_scope p) t' n k b t) (input_fixed r.1),
        λ x i s. let g = drives_block x i s in not_two (combinational g.number) (connected f.number f.part) (λ e. cc) g.drives f.drives,
      )
  link_alone _ (of_input around c m around_at h to) t =
      let port = port_at m t to.is_port in (
        input_counted port,
        λ r. no_root (instance_step c.of_instance) around.path (sym (stands_at d (instance_step c.of_instance ∷ around.path) p to.is_below) ∙ r.0),
        λ x i s. (block_alone x i s).1 port,
      )
    where
      no_root : {A : Type 0} (u : A) (us : List A) → u ∷ us ≡ [] → ⊥
      no_root u us e = cc

-- ---- constant indexes (the same stands in the proofs of `verilog_unique`)

module _ (d : Design) (accepted : IsAcceptedButForLoops d) (p : Placed) (at : IsPlacedIn d p) where
  no_net : has_net_as_constant d.source p.of_module ≡ false
  no_net =
      let q = is_known d p.path p at in
      subst (λ m. has_net_as_constant d.source m ≡ false) q.2
      (not_true (has_net_as_constant d.source q.0.of_module)
      (λ t. accepted bad_constant (λ e. cc) (record { path = p.path; place = q.0; is_placed = q.1; is_so = left_true (has_net_as_constant d.source q.0.of_module) _ t })))

  in_module_constants : (n : Name) → IsAmong (constant_names_in_module_items d.source p.of_module.items) n → IsAmong (constant_names_in_module d.source p.of_module) n
  in_module_constants n h =
      among_right (names_in_parameters p.of_module.parameters ++ names_in_ports (header_ports p.of_module.ports))
      (constant_names_in_module_items d.source p.of_module.items) n h

  constant_target : (t : Target) → ((n : Name) → IsAmong (index_names t) n → IsAmong (constant_names_in_module_items d.source p.of_module.items) n)
      → AreUsed (all_item_mentions p.of_module.items) (index_names t) → IsTrue (has_constant_selects (placed_scope p) t)
  constant_target t f used =
      target_constant (placed_scope p) t
      (λ n h. parameter_number d p.path p at n
      (parameter_if_constant d.source p.of_module n no_net (in_module_constants n (f n h))
      (mentioned_known d (accepted undeclared (λ e. cc)) p.path p at n (in_module p.of_module (index_names t) used n h))))

  output_constants : (c : Connection) → IsAmong (port_connections p.of_module.items) c → (below : Placed) (m : Name) (t : Target)
      → IsConnectedTo d p c below m output → as_target c.expression ≡ Some t
      → (n : Name) → IsAmong (index_names t) n → IsAmong (constant_names_in_module_items d.source p.of_module.items) n
  output_constants c stands below m t to is_target n h =
      let s : StandsIn d p c below = stands_below d accepted p at c stands below to.is_below in
      in_item d.source p.of_module.items (instances s.place.of_module s.place.given s.place.each) s.place.is_item n
      (among_right (names_in_connections s.place.given) (constant_names_in_instances (module_named d.source s.place.of_module) s.place.each) n
      (subst (λ x. IsAmong (constant_names_in_instances x s.place.each) n) (sym s.is_below)
      (in_instances (Some below.of_module) s.place.each (c.of_instance, s.place.connections) s.place.is_instance n
      (in_connections (Some below.of_module) (instance_connections c.of_instance s.place.connections) c s.place.is_one n
      (in_connection below.of_module c t (is_out to.is_meant to.is_port) is_target n h)))))
    where
      is_out : port_meant below.of_module c.to_port ≡ Some m → HasPort below.of_module m output
          → is_output (port_direction below.of_module (port_meant below.of_module c.to_port)) ≡ true
      is_out e f = subst (λ x. is_output (port_direction below.of_module x) ≡ true) (sym e) (ap is_output f)

  constant_link : (l : Link) → IsLink d p l → IsTrue (has_constant_selects (placed_scope p) l.target)
  constant_link _ (of_assignment a h) =
      constant_target a.0 (in_assignments d.source p.of_module.items a h) (indexes_used p.of_module.items a h)
  constant_link _ (of_output c below m t h to e) =
      constant_target t (output_constants c h below m t to e)
      (λ k g. connection_used p.of_module.items c h k (as_target_named c.expression t e k g))
  constant_link _ (of_input around c m around_at h to) = refl

-- ---- all of it

module _ (d : Design) (accepted : IsAcceptedButForLoops d) (ranges : RangesHaveValues d) where
  link_name : (p : Placed) (l : Link) (n : Name) → IsPlacedIn d p → IsLink d p l → IsAmong (target_names l.target) n
      → IsDeclared p n × (is_memory (placed_scope p n) ≡ false)
  link_name p _ n at (of_assignment a h) k =
      let declared = assignment_declared d accepted p at a n h k in (declared, assignment_memory d accepted ranges p at a n h k declared)
  link_name p _ n at (of_output c below m t h to e) k =
      let declared = output_declared d accepted p at c below m t n h to e k in
      (declared, output_memory d accepted ranges p at c below m t n h to e k declared)
  link_name p _ n at (of_input around c m around_at h to) (inl e) =
      let port : HasPort p.of_module n input = subst (λ i. HasPort p.of_module i input) e to.is_port in
      let declared = port_is_declared p n input port in
      (declared, port_memory d accepted ranges p at n input port declared)
  link_name p _ n at (of_input around c m around_at h to) (inr k) = absurd k

  clock_port : (p : Placed) → at_path d [] ≡ Some p → HasPort p.of_module d.clock input
  clock_port p top =
      let q = is_known d [] p top in
      let clock : has_no_clock q.0 d.clock ≡ false = not_true (has_no_clock q.0 d.clock) (λ t. accepted no_top (λ e. cc) (HasNoTop.no_clock q.0 q.1 t)) in
      let port : is_input_port q.0.of_module d.clock ≡ true =
      not_is_false (is_input_port q.0.of_module d.clock) (first_false (not (is_input_port q.0.of_module d.clock)) (is_wide_clock q.0 d.clock) clock) in
      subst (λ m. HasPort m d.clock input) q.2
      (way (entry_of (port_directions q.0.of_module) d.clock)
      (both_true (is_among (port_order q.0.of_module) d.clock) (is_input (entry_of (port_directions q.0.of_module) d.clock)) port).1)
    where
      way : (x : Option Direction) → IsTrue (is_input x) → x ≡ Some input
      way None t = absurd (false≢true t)
      way (Some input) t = refl
      way (Some output) t = absurd (false≢true t)

  -- An accepted design is sound.
  pub is_sound : IsSound d
  is_sound =
      record {
        block_name = λ p x n at h k.
            (block_declared d accepted p at x n h k, block_memory d accepted ranges p at x n h k (block_declared d accepted p at x n h k));
        link_name = link_name;
        link_constant = λ p l at is. constant_link d accepted p at l is;
        one_block = λ p x z n k b at is_bit hx hz tx tz. one_block d accepted p at n k b is_bit x z hx hz tx tz;
        one_link = λ p l m n k b at is_bit hl hm tl tm. one_link d accepted p at n k b is_bit l m hl hm tl tm;
        block_alone = λ p x n k b at is_bit h t. block_alone d accepted p at n k b is_bit x h t;
        link_alone = λ p l n k b at is_bit h t. link_alone d accepted p at n k b is_bit l h t;
        input_alone = λ p n k b at port. (
          input_uncounted p n k b at port,
          port_memory d accepted ranges p at n input port (port_is_declared p n input port),
        );
        clock_is_input = clock_port;
      }
    where
      -- a bit out of range does not count, whatever drives it
      input_uncounted : (p : Placed) (n : Name) (k b : ℕ) → IsPlacedIn d p → HasPort p.of_module n input → is_counted p n k b ≡ false
      input_uncounted p n k b at port =
          not_true (is_counted p n k b)
          (λ t. counted_in t (input_counted d accepted p at n k b (and_parts (is_bit_of (placed_scope p n) k b) _ t).0 port))
        where
          counted_in : is_counted p n k b ≡ true → is_counted p n k b ≡ false → ⊥
          counted_in e f = false≢true (sym f ∙ e)
