-- A driver that is evaluated gives its bits their settled values, where all had theirs on which they depend; other bits stay.
use Rattle.std.proofs.Common.{◌≡◌, ◌≢◌, ℕ, true, false, List, [], ◌∷◌, ◌⊎◌, inl, inr, refl, sym, ap, ◌∙◌, subst, Some}
use Rattle.std.specs.Prelude.{IsTrue, ◌&&◌}
use Rattle.std.proofs.lemmas.Bool.{or_cases, false≢true}
use Rattle.wb_values.specs.Value.{Name, Valuation}
use Rattle.verilog_trees.specs.Syntax.{Expression, Target, Statement, input, output}
use Rattle.verilog_meaning.specs.Expression.{Scope, assigned_value}
use Rattle.verilog_meaning.specs.Register.{combinational_blocks, value_bit, may_reach}
use Rattle.verilog_meaning.specs.Statement.{places, target_width, written, run}
use Rattle.verilog_meaning.specs.Hierarchy.{Placed, placed_scope, dotted}
use Rattle.verilog_meaning.specs.Settled.{Design, at_path, IsPlacedIn, inside, IsDeclared, IsValueOf, HasPort, is_counted, one_may_reach, IsDriven, assignments, whole_of, whole_name, port_connections, HasRun}
use Rattle.verilog_designs.specs.Names.{names_in, names_in_statement, all_item_mentions}
use Rattle.verilog_designs.specs.Drivers.{target_names}
use Rattle.verilog_designs.specs.Dependence.{Bit, IsGivenBy, at_start, After}
use Rattle.verilog_designs.specs.Accepted.{undeclared}
use Rattle.verilog_settled.specs.Locality.{IsSame, DifferAt, AllFit, LeavesAre, StatementIs}
use Rattle.verilog_settled.proofs.Values.{alike_values}
use Rattle.verilog_settled.proofs.Reached.{run_apart}
use Rattle.verilog_settled.proofs.Runs.{run_bit_is_local}
use Rattle.verilog_unique.specs.Agreement.{IsBitDeclared}
use Rattle.verilog_unique.specs.Unique.{AnyName}
use Rattle.verilog_unique.proofs.Values.{same_values}
use Rattle.verilog_unique.proofs.Options.{is_same}
use Rattle.verilog_unique.proofs.Descent.{IsAmong, contains_among, among_contains}
use Rattle.verilog_unique.proofs.Standing.{IsKnownIn}
use Rattle.verilog_unique.proofs.Mentioned.{AreUsed, assignment_used, block_used, connection_used}
use Rattle.verilog_unique.proofs.Parameters.{no_constant_memory}
use Rattle.verilog_unique.proofs.Ports.{port_is_declared}
use Rattle.verilog_unique.proofs.Local.{assigned_one, run_one, connected_one}
use Rattle.verilog_unique.proofs.Fitting.{leaves, statements, numbers_in, names_known}
use Rattle.verilog_exists.specs.Exists.{IsShapely}
use Rattle.verilog_exists.specs.Loops.{IsAcceptedButForLoops}
use Rattle.verilog_exists.proofs.Fitting.{known_fit}
use Rattle.verilog_exists.proofs.Kept.{unwritten, unassigned, written_fits, run_fits, unreached}
use Rattle.verilog_exists.proofs.Links.{Link, IsLink, of_assignment, of_output, of_input, assignment_link, output_link, input_link}
use Rattle.verilog_exists.proofs.Givers.{IsSound}
use Rattle.verilog_exists.proofs.Rounds.{linked_local, reached_name}
use Rattle.verilog_exists.proofs.Fixed.{among_or_not}
use Rattle.verilog_exists.proofs.Drivers.{one_assigns}
use Rattle.verilog_order.specs.Grounded.{IsUndriven}
use Rattle.verilog_order.specs.Turns.{HasSettled, HasValues, IsGivenOutside, UndrivenBitsAreGiven, after_link, AssignmentsSettle, InputsSettle, OutputsSettle, LinksKeep, BlocksSettle, BlocksKeep, AssignmentsKeepValues, InputsKeepValues, OutputsKeepValues, BlocksKeepValues, AllBitsSettled}
use Rattle.verilog_order.proofs.Drivers.{sound_of}

module _ (d : Design) (registers inputs v : Valuation) (h : HasSettled d registers inputs v) where
  sound : IsSound d
  sound = sound_of d h.accepted h.shapely

  settled_values : (p : Placed) → IsPlacedIn d p → HasValues p (inside v p)
  settled_values p at n declared = (h.settled.modules p at).fits n declared

  known : (p : Placed) (u : Valuation) → IsPlacedIn d p → HasValues p u → AllFit (placed_scope p) (IsKnownIn p.of_module) u
  known p u at values = known_fit d p u h.numbers_fit at values

  known_leaves : (p : Placed) (e : Expression) → IsPlacedIn d p → AreUsed (all_item_mentions p.of_module.items) (names_in e) → LeavesAre AnyName e
      → LeavesAre (IsKnownIn p.of_module) e
  known_leaves p e at used l =
      leaves (IsKnownIn p.of_module) e (names_known d (h.accepted undeclared (λ f. cc)) p (names_in e) at used) l

  -- ---- a link

  link_settles : (p : Placed) (u w : Valuation) (l : Link) (b : Bit) → IsPlacedIn d p → IsPlacedIn d l.inner → IsLink d p l
      → HasValues p u → HasValues l.inner w → LeavesAre (IsKnownIn l.inner.of_module) l.expression → IsBitDeclared p b
      → IsTrue (may_reach (placed_scope p) l.target b.of_name b.word b.place)
      → ((n : Name) → after_link (placed_scope p) (placed_scope l.inner) (inside v p) (inside v l.inner) l.target l.expression n ≡ inside v p n)
      → ((y : Bit) → IsGivenBy (placed_scope p) l.target (placed_scope l.inner) l.expression b y → IsSame w (inside v l.inner) y)
      → IsSame (after_link (placed_scope p) (placed_scope l.inner) u w l.target l.expression) (inside v p) b
  link_settles p u w l b at inner_at is values inner_values fit declared reach equation given =
      over
      (linked_local (placed_scope p) (placed_scope l.inner) u (inside v p) w (inside v l.inner) (IsKnownIn l.inner.of_module) l.target l.expression b
      (no_constant_memory d p.path p at) (no_constant_memory d l.inner.path l.inner inner_at)
      (known l.inner w inner_at inner_values) (known l.inner (inside v l.inner) inner_at (settled_values l.inner inner_at)) fit
      (sound.link_name p l b.of_name at is (reached_name (placed_scope p) l.target b.of_name b.word b.place reach)).1
      (values b.of_name declared.is_declared) (settled_values p at b.of_name declared.is_declared) (sound.link_constant p l at is) reach)
    where
      over : IsSame (after_link (placed_scope p) (placed_scope l.inner) u w l.target l.expression)
          (after_link (placed_scope p) (placed_scope l.inner) (inside v p) (inside v l.inner) l.target l.expression) b
          ⊎ DifferAt w (inside v l.inner) (IsGivenBy (placed_scope p) l.target (placed_scope l.inner) l.expression b)
          → IsSame (after_link (placed_scope p) (placed_scope l.inner) u w l.target l.expression) (inside v p) b
      over (inl e) = e ∙ ap (λ x. value_bit x b.word b.place) (equation b.of_name)
      over (inr z) = absurd (z.differs (given z.bit z.is_so))

  -- ---- a block

  block_settles : (p : Placed) (u : Valuation) (x : Statement) (b : Bit) → IsPlacedIn d p → HasValues p u → IsAmong (combinational_blocks p.of_module.items) x
      → StatementIs (IsKnownIn p.of_module) x → HasRun (placed_scope p) (inside v p) x → IsBitDeclared p b
      → ((y : Bit) → After (placed_scope p) at_start x b y → IsSame u (inside v p) y) → IsSame (run (placed_scope p) x u).valuation (inside v p) b
  block_settles p u x b at values among fit runs declared given =
      over
      (run_bit_is_local (placed_scope p) u (inside v p) (IsKnownIn p.of_module) x b (no_constant_memory d p.path p at)
      (known p u at values) (known p (inside v p) at (settled_values p at)) fit
      (λ n f. run_fits (placed_scope p) x u n (λ k. (sound.block_name p x n at among k).1) f)
      (λ n f. run_fits (placed_scope p) x (inside v p) n (λ k. (sound.block_name p x n at among k).1) f)
      (values b.of_name declared.is_declared) (settled_values p at b.of_name declared.is_declared))
    where
      over : IsSame (run (placed_scope p) x u).valuation (run (placed_scope p) x (inside v p)).valuation b
          ⊎ DifferAt u (inside v p) (After (placed_scope p) at_start x b) → IsSame (run (placed_scope p) x u).valuation (inside v p) b
      over (inl e) = e ∙ ap (λ y. value_bit y b.word b.place) (runs b.of_name)
      over (inr z) = absurd (z.differs (given z.bit z.is_so))

-- ---- the laws

pub assignments_settle : AssignmentsSettle
assignments_settle d registers inputs v u p a b h at values stands declared reach given =
    let among : IsAmong (assignments p.of_module.items) a = among_contains (assignments p.of_module.items) a stands in
    link_settles d registers inputs v h p u u (assignment_link p a) b at at (of_assignment a among) values values
    (known_leaves d registers inputs v h p a.1 at (assignment_used p.of_module.items a among) ((numbers_in d p h.numbers_fit at).assigned a stands))
    declared reach (assigned_one (placed_scope p) (inside v p) (assignments p.of_module.items) a (h.settled.modules p at).assigned among) given

pub inputs_settle : InputsSettle
inputs_settle d registers inputs v u w p below c n b h at below_at values below_values stands to declared reach given =
    let among : IsAmong (port_connections p.of_module.items) c = among_contains (port_connections p.of_module.items) c stands in
    link_settles d registers inputs v h below w u (input_link p c n) b below_at at (of_input p c n at among to) below_values values
    (known_leaves d registers inputs v h p c.expression at (connection_used p.of_module.items c among) ((numbers_in d p h.numbers_fit at).connected c stands))
    declared reach ((connected_one d v p (port_connections p.of_module.items) c (h.settled.modules p at).connections among).to_input below n to) given

pub outputs_settle : OutputsSettle
outputs_settle d registers inputs v u w p below c n t b h at below_at values below_values stands to is_target declared reach given =
    let among : IsAmong (port_connections p.of_module.items) c = among_contains (port_connections p.of_module.items) c stands in
    link_settles d registers inputs v h p u w (output_link below n t) b at below_at (of_output c below n t among to is_target) values below_values
    (inl (port_is_declared below n output to.is_port), tt)
    declared reach ((connected_one d v p (port_connections p.of_module.items) c (h.settled.modules p at).connections among).from_output below n t to is_target) given

pub links_keep : LinksKeep
links_keep d p u t x b at declared values values_after e =
    unreached (placed_scope p) (no_constant_memory d p.path p at) u t x b.of_name b.word b.place e (values b.of_name declared.is_declared)
    (values_after b.of_name declared.is_declared)

pub blocks_settle : BlocksSettle
blocks_settle d registers inputs v u p x b h at values stands declared given =
    let among : IsAmong (combinational_blocks p.of_module.items) x = among_contains (combinational_blocks p.of_module.items) x stands in
    block_settles d registers inputs v h p u x b at values among
    (statements (IsKnownIn p.of_module) x
    (names_known d (h.accepted undeclared (λ f. cc)) p (names_in_statement x) at (block_used p.of_module.items x among))
    ((numbers_in d p h.numbers_fit at).blocks x stands))
    (run_one (placed_scope p) (inside v p) (combinational_blocks p.of_module.items) x (h.settled.modules p at).combinational among) declared given

pub blocks_keep : BlocksKeep
blocks_keep d p u x b at declared values values_after e =
    run_apart (placed_scope p) (no_constant_memory d p.path p at) x u b.of_name b.word b.place (u b.of_name) e
    (alike_values (placed_scope p b.of_name) (u b.of_name) (u b.of_name) (values b.of_name declared.is_declared) (values b.of_name declared.is_declared))
    (alike_values (placed_scope p b.of_name) (u b.of_name) ((run (placed_scope p) x u).valuation b.of_name) (values b.of_name declared.is_declared)
    (values_after b.of_name declared.is_declared))

-- a target gets a number: declared names keep values of their objects
link_keeps : (d : Design) → IsAcceptedButForLoops d → IsShapely d → (p : Placed) (l : Link) → IsPlacedIn d p → IsLink d p l → (u : Valuation) (x : ℕ) → HasValues p u
    → HasValues p (written (placed_scope p) u (places (placed_scope p) u l.target) x)
link_keeps d accepted shapely p l at is u x values n declared = by_name (among_or_not (target_names l.target) n)
  where
    by_name : IsAmong (target_names l.target) n ⊎ ¬ IsAmong (target_names l.target) n
        → IsValueOf (placed_scope p n) (written (placed_scope p) u (places (placed_scope p) u l.target) x n)
    by_name (inl h) = written_fits (placed_scope p) u l.target x n ((sound_of d accepted shapely).link_name p l n at is h).1 (values n declared)
    by_name (inr h) = subst (IsValueOf (placed_scope p n)) (sym (unwritten (placed_scope p) u l.target x n h)) (values n declared)

pub assignments_keep_values : AssignmentsKeepValues
assignments_keep_values d p u a accepted shapely at values stands =
    link_keeps d accepted shapely p (assignment_link p a) at (of_assignment a (among_contains (assignments p.of_module.items) a stands)) u
    (assigned_value (placed_scope p) u (target_width (placed_scope p) a.0) a.1) values

pub inputs_keep_values : InputsKeepValues
inputs_keep_values d p below u w c n accepted shapely at below_at values stands to =
    link_keeps d accepted shapely below (input_link p c n) below_at (of_input p c n at (among_contains (port_connections p.of_module.items) c stands) to) w
    (assigned_value (placed_scope p) u (target_width (placed_scope below) (whole_of n)) c.expression) values

pub outputs_keep_values : OutputsKeepValues
outputs_keep_values d p below u w c n t accepted shapely at values stands to is_target =
    link_keeps d accepted shapely p (output_link below n t) at (of_output c below n t (among_contains (port_connections p.of_module.items) c stands) to is_target) u
    (assigned_value (placed_scope below) w (target_width (placed_scope p) t) (whole_name n)) values

pub blocks_keep_values : BlocksKeepValues
blocks_keep_values d p u x accepted shapely at values stands n declared =
    run_fits (placed_scope p) x u n
    (λ k. ((sound_of d accepted shapely).block_name p x n at (among_contains (combinational_blocks p.of_module.items) x stands) k).1) (values n declared)

pub all_settled : AllBitsSettled
all_settled d registers inputs v u p n settled at values same declared =
    same_values (placed_scope p n) (u n) (inside v p n) (values n declared) ((settled.modules p at).fits n declared)
    (λ k b is_bit. same (record { of_name = n; word = k; place = b }) (record { is_declared = declared; is_bit = is_bit }))

-- ---- at the beginning

-- some assignment reaches the bit
one_reaches : (s : Scope) (as' : List (Target × Expression)) (n : Name) (k b : ℕ) → IsTrue (one_may_reach s as' n k b)
    → (a : Target × Expression) × IsAmong as' a × IsTrue (may_reach s a.0 n k b)
one_reaches s [] n k b t = absurd (false≢true t)
one_reaches s (a ∷ rest) n k b t =
    elim (or_cases (may_reach s a.0 n k b) (one_may_reach s rest n k b) t) as (λ _. (y : Target × Expression) × IsAmong (a ∷ rest) y × IsTrue (may_reach s y.0 n k b))
    [ inl h ↦ (a, inl refl, h) | inr h ↦ let f = one_reaches s rest n k b h in (f.0, inr f.1, f.2) ]

-- nothing drives it but a clocked block or the top
not_driven : (d : Design) (p : Placed) (b : Bit) → IsUndriven d p b → is_counted p b.of_name b.word b.place ≡ false
    → ¬ (p.path ≡ [] × HasPort p.of_module b.of_name input × (b.of_name ≢ d.clock)) → ¬ IsDriven d p b.of_name b.word b.place
not_driven d p b undriven uncounted outside (IsDriven.by_clock t) = false≢true (sym uncounted ∙ t)
not_driven d p b undriven uncounted outside (IsDriven.by_block t) =
    let x = one_assigns (placed_scope p) (combinational_blocks p.of_module.items) b.of_name b.word b.place t in
    undriven.by_block x.0 (contains_among (combinational_blocks p.of_module.items) x.0 x.1) x.2
not_driven d p b undriven uncounted outside (IsDriven.by_assignment t) =
    let a = one_reaches (placed_scope p) (assignments p.of_module.items) b.of_name b.word b.place t in
    undriven.by_assignment a.0 (contains_among (assignments p.of_module.items) a.0 a.1) a.2
not_driven d p b undriven uncounted outside (IsDriven.by_top_input root port other) = outside (root, port, other)
not_driven d p b undriven uncounted outside (IsDriven.by_input around c at stands to) =
    undriven.by_input around c b.of_name at stands to (subst (λ t. IsTrue (t && true)) (sym (is_same b.of_name)) refl)
not_driven d p b undriven uncounted outside (IsDriven.by_output c below m t stands to is reach) = undriven.by_output c below m t stands to is reach

pub undriven_given : UndrivenBitsAreGiven
undriven_given d registers inputs v p b h at declared undriven =
    record {
      held = λ t. (h.settled.modules p at).held b.of_name b.word b.place declared.is_declared t;
      input_held = λ root port other. held_at root port other;
      unset = λ uncounted outside.
          (h.settled.modules p at).undriven b.of_name b.word b.place declared.is_declared declared.is_bit (not_driven d p b undriven uncounted outside);
    }
  where
    -- at the top a dotted name is the name
    held_at : p.path ≡ [] → HasPort p.of_module b.of_name input → b.of_name ≢ d.clock → IsSame (inside v p) inputs b
    held_at root port other =
        ap (λ x. value_bit x b.word b.place)
        (ap (λ path. v (dotted path b.of_name)) root ∙ h.settled.inputs_held p b.of_name (sym (ap (at_path d) root) ∙ at) port other)
