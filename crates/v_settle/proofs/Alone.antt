-- A design that is one module: what settles in it, and that a bit has one driver.
use Rattle.std.proofs.Common.{◌≡◌, ◌≢◌, ◌∙◌, ℕ, refl, ap, sym, subst, arith, Bool, true, false, List, [], ◌∷◌, ◌⊎◌, inl, inr, Contains, Option, Some, None}
use Rattle.std.specs.Prelude.{IsTrue}
use Rattle.std.specs.List.{list_any}
use Rattle.std.proofs.lemmas.Bool.{false≢true, true≢false, or_parts, cases_Bool}
use Rattle.std.proofs.lemmas.Slice.Eq.{bytes_eq-Decides}
use Rattle.wb_values.specs.Value.{Name, same_name, Valuation, entry_of}
use Rattle.verilog_trees.specs.Syntax.{Expression, Target, Statement, blocking, Direction, input, output, Module}
use Rattle.verilog_meaning.specs.Expression.{Scope}
use Rattle.verilog_meaning.specs.Register.{may_assign, one_may_assign, combinational_blocks, value_bit, is_bit_of}
use Rattle.verilog_meaning.specs.Hierarchy.{declarations, PathStep, Placed, placed_scope}
use Rattle.verilog_meaning.specs.Settled.{Design, at_path, IsPlacedIn, IsDeclared, is_declared_among, HasPort, port_directions, is_counted, one_may_reach, IsDriven, assignments, Connection, port_connections, IsSettledIn, IsSettled}
use Rattle.verilog_designs.specs.Dependence.{Bit}
use Rattle.verilog_unique.proofs.Options.{is_same}
use Rattle.verilog_unique.proofs.Descent.{IsAmong, among_contains}
use Rattle.verilog_unique.proofs.Parameters.{no_constant_memory}
use Rattle.verilog_exists.proofs.Links.{Link, of_assignment, assignment_link}
use Rattle.verilog_exists.proofs.Givers.{IsSound}
use Rattle.verilog_exists.proofs.Drivers.{is_sound}
use Rattle.verilog_exists.proofs.Valued.{ranges_known}
use Rattle.v_hier.specs.Instances.{is_part, is_any, module_has_parts, has_parts}
use Rattle.v_scopes.specs.Ports.{alone}
use Rattle.v_scopes.proofs.Parts.{some_is, none_some, nothing_below}
use Rattle.v_assigned.proofs.OneModule.{no-connections, second}
use Rattle.v_depend.specs.Resting.{IsThere}
use Rattle.v_order.specs.Drivers.{as_statements, drivers}
use Rattle.v_settle.specs.OneModule.{is_driven}
use Rattle.v_settle.specs.Designs.{IsGivenTo, SettlesFromOutside, AcceptedHasOneDriver, NoParameterIsMemory}
use Rattle.v_loops.proofs.Listed.{kind-of}
use Rattle.v_settle.proofs.Listed.{Links}

-- ---- what settles

-- The port is an input, or it is none.
an-input : (o : Option Direction) → (o ≡ Some input) ⊎ (o ≡ Some input → ⊥)
an-input (Some input) = inl refl
an-input (Some output) = inr (λ e. differ e)
  where
    is-output : Option Direction → Bool
    is-output (Some output) = true
    is-output _ = false

    differ : Some output ≡ Some input → ⊥
    differ e = true≢false (ap is-output e)
an-input None = inr (λ e. none_some input e)

pub other-name : (m n : Name) → same_name m n ≡ false → m ≢ n
other-name m n e f = false≢true (sym e ∙ subst (λ (z : Name). same_name m z ≡ true) f (is_same m))

module _ (d : Design) (m : Module) (clear : has_parts d.source ≡ false) (own : module_has_parts m ≡ false) (top : at_path d [] ≡ Some (alone m)) where
  abbrev s : Scope
  s = placed_scope (alone m)

  pub placed-top : (q : Placed) (path : List PathStep) → at_path d path ≡ Some q → q ≡ alone m
  placed-top q [] e = some_is q (alone m) (sym e ∙ top)
  placed-top q (u ∷ path) e = absurd (none_some q (sym (nothing_below d.source d.top clear u path) ∙ e))

  pub unconnected : port_connections m.items ≡ []
  unconnected = no-connections m.items (second (is_any m.parameters) (list_any is_part m.items) own)

  no-connection : (c : Connection) → Contains (port_connections m.items) c → ⊥
  no-connection c h = at (subst (λ (xs : List Connection). Contains xs c) unconnected h)
    where
      at : Contains [] c → ⊥
      at (i, l, e) = absurd (omega (arith, l))

  pub not-driven : (n : Name) (k b : ℕ) → is_driven s m.items n k b ≡ false → is_counted (alone m) n k b ≡ false → ¬ (HasPort m n input × (n ≢ d.clock))
      → ¬ IsDriven d (alone m) n k b
  not-driven n k b free uncounted outside (IsDriven.by_clock t) = false≢true (sym uncounted ∙ t)
  not-driven n k b free uncounted outside (IsDriven.by_block t) =
      false≢true (sym (or_parts (one_may_reach s (assignments m.items) n k b) (one_may_assign s (combinational_blocks m.items) n k b) free).1 ∙ t)
  not-driven n k b free uncounted outside (IsDriven.by_assignment t) =
      false≢true (sym (or_parts (one_may_reach s (assignments m.items) n k b) (one_may_assign s (combinational_blocks m.items) n k b) free).0 ∙ t)
  not-driven n k b free uncounted outside (IsDriven.by_top_input root port other) = outside (port, other)
  not-driven n k b free uncounted outside (IsDriven.by_input around c at stands to) =
      no-connection c (subst (λ (q : Placed). Contains (port_connections q.of_module.items) c) (placed-top around around.path at) stands)
  not-driven n k b free uncounted outside (IsDriven.by_output c below o t stands to is reach) = no-connection c stands

  module _ (registers inputs u v : Valuation) (settled : IsSettled d registers inputs v) (from : IsGivenTo d (alone m) registers inputs v u) where
    within : IsSettledIn d registers v (alone m)
    within = settled.modules (alone m) top

    -- a bit of a declared name that nothing drives from within
    declared-bit : (n : Name) (k b : ℕ) → IsDeclared (alone m) n → IsTrue (is_bit_of (s n) k b) → is_driven s m.items n k b ≡ false
        → value_bit (v n) k b ≡ value_bit (u n) k b
    declared-bit n k b declared there free = counted (cases_Bool (is_counted (alone m) n k b))
      where
        unset : is_counted (alone m) n k b ≡ false → ¬ (HasPort m n input × (n ≢ d.clock)) → value_bit (v n) k b ≡ value_bit (u n) k b
        unset e f = within.undriven n k b declared there (not-driven n k b free e f) ∙ sym (from.unset n k b declared there free e f)

        named : is_counted (alone m) n k b ≡ false → HasPort m n input → (same_name n d.clock ≡ true) ⊎ (same_name n d.clock ≡ false)
            → value_bit (v n) k b ≡ value_bit (u n) k b
        named e port (inl c) = unset e (λ h. h.1 ((bytes_eq-Decides n d.clock).0 c))
        named e port (inr c) =
            ap (λ z. value_bit z k b) (settled.inputs_held (alone m) n top port (other-name n d.clock c))
            ∙ sym (from.inputs_held n k b declared port (other-name n d.clock c))

        ported : is_counted (alone m) n k b ≡ false → (entry_of (port_directions m) n ≡ Some input) ⊎ (entry_of (port_directions m) n ≡ Some input → ⊥)
            → value_bit (v n) k b ≡ value_bit (u n) k b
        ported e (inl port) = named e port (cases_Bool (same_name n d.clock))
        ported e (inr none) = unset e (λ h. none h.0)

        counted : (is_counted (alone m) n k b ≡ true) ⊎ (is_counted (alone m) n k b ≡ false) → value_bit (v n) k b ≡ value_bit (u n) k b
        counted (inl t) = within.held n k b declared t ∙ sym (from.held n k b declared t)
        counted (inr e) = ported e (an-input (entry_of (port_directions m) n))

    given-bit : (n : Name) (k b : ℕ) → IsTrue (is_bit_of (s n) k b) → is_driven s m.items n k b ≡ false → value_bit (v n) k b ≡ value_bit (u n) k b
    given-bit n k b there free = by (cases_Bool (is_declared_among (declarations m) n))
      where
        by : (is_declared_among (declarations m) n ≡ true) ⊎ (is_declared_among (declarations m) n ≡ false) → value_bit (v n) k b ≡ value_bit (u n) k b
        by (inl t) = declared-bit n k b t there free
        by (inr e) = ap (λ z. value_bit z k b) (sym (from.others n (λ t. false≢true (sym e ∙ t))))

pub settles-from-outside : SettlesFromOutside
settles-from-outside d m registers inputs u v images clear own top named settled from =
    record {
      fits = λ n id e. (settled.modules (alone m) top).fits n (named n id e);
      assigned = (settled.modules (alone m) top).assigned;
      combinational = (settled.modules (alone m) top).combinational;
      given = given-bit d m clear own top registers inputs u v settled from;
    }

-- ---- drivers of accepted designs

pub no-memory : NoParameterIsMemory
no-memory d p at = no_constant_memory d p.path p at

pub link-of : (links : Links) (x : Statement) → IsAmong (as_statements links) x → (a : Target × Expression) × IsAmong links a × (blocking a.0 a.1 ≡ x)
link-of [] x h = absurd h
link-of (a ∷ links) x (inl e) = (a, inl refl, e)
link-of (a ∷ links) x (inr h) = let r = link-of links x h in (r.0, inr r.1, r.2)

module _ (d : Design) (sound : IsSound d) (p : Placed) (at : IsPlacedIn d p) (u : Bit) (there : IsThere (placed_scope p) u) where
  abbrev Assigns : Statement → Type 0
  Assigns x = IsTrue (may_assign (placed_scope p) x u.of_name u.word u.place)

  two-links : (x y : Statement) → IsAmong (as_statements (assignments p.of_module.items)) x → IsAmong (as_statements (assignments p.of_module.items)) y
      → Assigns x → Assigns y → x ≡ y
  two-links x y h g m n =
      let a = link-of (assignments p.of_module.items) x h in
      let b = link-of (assignments p.of_module.items) y g in
      let same : assignment_link p a.0 ≡ assignment_link p b.0 =
      sound.one_link p (assignment_link p a.0) (assignment_link p b.0) u.of_name u.word u.place at there (of_assignment a.0 a.1) (of_assignment b.0 b.1)
      (subst Assigns (sym a.2) m) (subst Assigns (sym b.2) n) in
      sym a.2 ∙ ap (λ (l : Link). blocking l.target l.expression) same ∙ b.2

  no-block : (x y : Statement) → IsAmong (as_statements (assignments p.of_module.items)) x → IsAmong (combinational_blocks p.of_module.items) y → Assigns x → Assigns y → ⊥
  no-block x y h g m n =
      let a = link-of (assignments p.of_module.items) x h in
      (sound.link_alone p (assignment_link p a.0) u.of_name u.word u.place at there (of_assignment a.0 a.1) (subst Assigns (sym a.2) m)).2 y g n

  one : (x y : Statement) → IsAmong (as_statements (assignments p.of_module.items)) x ⊎ IsAmong (combinational_blocks p.of_module.items) x
      → IsAmong (as_statements (assignments p.of_module.items)) y ⊎ IsAmong (combinational_blocks p.of_module.items) y → Assigns x → Assigns y → x ≡ y
  one x y (inl h) (inl g) m n = two-links x y h g m n
  one x y (inl h) (inr g) m n = absurd (no-block x y h g m n)
  one x y (inr h) (inl g) m n = absurd (no-block y x g h n m)
  one x y (inr h) (inr g) m n = sound.one_block p x y u.of_name u.word u.place at there h g m n

pub one-driver-of-accepted : AcceptedHasOneDriver
one-driver-of-accepted d p accepted shapely at x y u there h g m n =
    one d (is_sound d accepted (ranges_known d accepted shapely)) p at u there x y
    (kind-of p.of_module.items x (among_contains (drivers p.of_module.items) x h)) (kind-of p.of_module.items y (among_contains (drivers p.of_module.items) y g)) m n
