-- The equations of the flat drivers are those of the modules.
use Rattle.std.proofs.Common.{◌≡◌, ◌↔◌, ℕ, List, [], ◌∷◌, inl, inr, refl, sym, ap, ◌∙◌, subst, Some}
use Rattle.wb_values.specs.Value.{Name, Valuation}
use Rattle.verilog_trees.specs.Syntax.{Expression, Target, Statement, input, output}
use Rattle.verilog_meaning.specs.Expression.{Scope, object_width, assigned_value}
use Rattle.verilog_meaning.specs.Statement.{target_width}
use Rattle.verilog_meaning.specs.Register.{combinational_blocks}
use Rattle.verilog_meaning.specs.Hierarchy.{instance_step, Placed, placed_scope}
use Rattle.verilog_meaning.specs.Settled.{Design, IsPlacedIn, inside, assignments, Has, HasAssigned, HasRun, HasRunAll, as_target, whole_of, whole_name, Connection, port_connections, IsConnectedTo, HasConnection, HasConnected}
use Rattle.verilog_designs.specs.Accepted.{HasUndeclared}
use Rattle.verilog_unique.proofs.Descent.{IsAmong, contains_among, among_contains}
use Rattle.verilog_unique.proofs.Paths.{placed_in}
use Rattle.verilog_unique.proofs.Ports.{port_is_declared}
use Rattle.verilog_renamed.specs.Renamed.{renamed_expression, renamed_target, renamed_assignment, renamed_statement}
use Rattle.verilog_renamed.specs.KnownNames.{IsRenamed}
use Rattle.verilog_renamed.specs.EachName.{EachIn, EachInTarget, EachInStatement}
use Rattle.verilog_renamed.proofs.EachName.{each_follows, target_follows, statement_follows}
use Rattle.verilog_renamed.proofs.KnownNames.{known_expressions, known_targets, known_has, known_assigned, known_has_run}
use Rattle.flat_designs.specs.Flat.{IsNameOf, Naming, KeepsNamesApart, IsSeenAs, into_input, out_of_output, IsLink, to_input, of_output, IsFlatLink, of_module, of_connection, IsFlatBlock, of_block, IsFlat}
use Rattle.flat_designs.specs.Laws.{SettledSolvesTheFlat, HasEquations, FlatSolvesEachModule}
use Rattle.flat_designs.proofs.Known.{in_assigned, in_right_side, in_block, in_connection, in_output}

-- ---- each of a list

abbrev HasOne : Scope → Valuation → Target × Expression → Type 0
HasOne s v a = Has s v a.0 (assigned_value s v (target_width s a.0) a.1)

all_assigned : (s : Scope) (v : Valuation) (xs : List (Target × Expression)) → ((a : Target × Expression) → IsAmong xs a → HasOne s v a)
    → HasAssigned s v xs
all_assigned s v [] f = tt
all_assigned s v (x ∷ xs) f = (f x (inl refl), all_assigned s v xs (λ a h. f a (inr h)))

one_assigned : (s : Scope) (v : Valuation) (xs : List (Target × Expression)) (a : Target × Expression) → HasAssigned s v xs → IsAmong xs a → HasOne s v a
one_assigned s v [] a h k = absurd k
one_assigned s v (x ∷ xs) a h (inl e) = subst (HasOne s v) e h.0
one_assigned s v (x ∷ xs) a h (inr k) = one_assigned s v xs a h.1 k

all_run : (s : Scope) (v : Valuation) (xs : List Statement) → ((x : Statement) → IsAmong xs x → HasRun s v x) → HasRunAll s v xs
all_run s v [] f = tt
all_run s v (x ∷ xs) f = (f x (inl refl), all_run s v xs (λ a h. f a (inr h)))

one_run : (s : Scope) (v : Valuation) (xs : List Statement) (a : Statement) → HasRunAll s v xs → IsAmong xs a → HasRun s v a
one_run s v [] a h k = absurd k
one_run s v (x ∷ xs) a h (inl e) = subst (HasRun s v) e h.0
one_run s v (x ∷ xs) a h (inr k) = one_run s v xs a h.1 k

all_connected : (d : Design) (v : Valuation) (p : Placed) (cs : List Connection) → ((c : Connection) → IsAmong cs c → HasConnection d v p c)
    → HasConnected d v p cs
all_connected d v p [] f = tt
all_connected d v p (c ∷ cs) f = (f c (inl refl), all_connected d v p cs (λ a h. f a (inr h)))

one_connected : (d : Design) (v : Valuation) (p : Placed) (cs : List Connection) (c : Connection) → HasConnected d v p cs → IsAmong cs c → HasConnection d v p c
one_connected d v p [] c h k = absurd k
one_connected d v p (x ∷ cs) c h (inl e) = subst (HasConnection d v p) e h.0
one_connected d v p (x ∷ cs) c h (inr k) = one_connected d v p cs c h.1 k

-- the same equation, on an equal number
with_value : (s : Scope) (v : Valuation) (t : Target) (P : Type 0) (x y : ℕ) → x ≡ y → (Has s v t y ↔ P) → Has s v t x ↔ P
with_value s v t P x y e h = (λ g. h.0 (subst (Has s v t) e g), λ g. subst (Has s v t) (sym e) (h.1 g))

-- ---- one driver

-- where a connection leads
pub leads_to : (d : Design) (p below : Placed) (c : Connection) (n : Name) → {way : _} → IsConnectedTo d p c below n way → IsPlacedIn d below
leads_to d p below c n to = placed_in d (instance_step c.of_instance ∷ p.path) below to.is_below

module _ (d : Design) (called : Naming) (good : ¬ HasUndeclared d) (s : Scope) (links : List (Target × Expression)) (blocks clocked : List Statement) (flat : IsFlat d called s links blocks clocked) where
  -- what holds of the names of a module, for the flat scope
  pub target_known : (p : Placed) (t : Target) → IsPlacedIn d p → EachInTarget (IsNameOf p) t
      → EachInTarget (IsRenamed (called p.path) (placed_scope p) s) t
  target_known p t at a =
      target_follows (IsNameOf p) (IsRenamed (called p.path) (placed_scope p) s) (λ n h. flat.says_the_same p n at h) t a

  pub expression_known : (p : Placed) (e : Expression) → IsPlacedIn d p → EachIn (IsNameOf p) e → EachIn (IsRenamed (called p.path) (placed_scope p) s) e
  expression_known p e at a =
      each_follows (IsNameOf p) (IsRenamed (called p.path) (placed_scope p) s) (λ n h. flat.says_the_same p n at h) e a

  pub statement_known : (p : Placed) (x : Statement) → IsPlacedIn d p → EachInStatement (IsNameOf p) x
      → EachInStatement (IsRenamed (called p.path) (placed_scope p) s) x
  statement_known p x at a =
      statement_follows (IsNameOf p) (IsRenamed (called p.path) (placed_scope p) s) (λ n h. flat.says_the_same p n at h) x a

  module _ (apart : KeepsNamesApart d called) (v w : Valuation) (seen : IsSeenAs d called v w) where
    own : (p : Placed) (a : Target × Expression) → IsPlacedIn d p → IsAmong (assignments p.of_module.items) a
        → HasOne s w (renamed_assignment (called p.path) a) ↔ HasOne (placed_scope p) (inside v p) a
    own p a at h =
        let k = known_assigned (called p.path) (placed_scope p) s (inside v p) w (a ∷ []) (apart p at)
        ((target_known p a.0 at (in_assigned d good p at a h), expression_known p a.1 at (in_right_side d good p at a h)), tt) (λ n. seen p n at) in
        (λ x. (k.0 (x, tt)).0, λ x. (k.1 (x, tt)).0)

    own_block : (p : Placed) (x : Statement) → IsPlacedIn d p → IsAmong (combinational_blocks p.of_module.items) x
        → HasRun s w (renamed_statement (called p.path) x) ↔ HasRun (placed_scope p) (inside v p) x
    own_block p x at h =
        known_has_run (called p.path) (placed_scope p) s (inside v p) w x (apart p at) (statement_known p x at (in_block d good p at x h)) (λ n. seen p n at)

    input_holds : (p below : Placed) (c : Connection) (n : Name) → IsPlacedIn d p → IsAmong (port_connections p.of_module.items) c
        → IsConnectedTo d p c below n input
        → HasOne s w (into_input called p below n c.expression)
        ↔ Has (placed_scope below) (inside v below) (whole_of n)
        (assigned_value (placed_scope p) (inside v p) (object_width (placed_scope below n)) c.expression)
    input_holds p below c n at h to =
        let at_below : IsPlacedIn d below = leads_to d p below c n to in
        let says : s (called below.path n) ≡ placed_scope below n = flat.says_the_same below n at_below (inl (port_is_declared below n input to.is_port)) in
        let y = assigned_value (placed_scope p) (inside v p) (object_width (placed_scope below n)) c.expression in
        with_value s w (whole_of (called below.path n)) (Has (placed_scope below) (inside v below) (whole_of n) y)
        (assigned_value s w (object_width (s (called below.path n))) (renamed_expression (called p.path) c.expression)) y
        (ap (λ o. assigned_value s w (object_width o) (renamed_expression (called p.path) c.expression)) says
        ∙ (known_expressions (called p.path) (placed_scope p) s (inside v p) w c.expression
        (expression_known p c.expression at (in_connection d good p at c h)) (λ m. seen p m at)).assigned (object_width (placed_scope below n)))
        (known_has (called below.path) (placed_scope below) s (inside v below) w (whole_of n) y (apart below at_below) (says, tt) (λ m. seen below m at_below))

    output_holds : (p below : Placed) (c : Connection) (n : Name) (t : Target) → IsPlacedIn d p → IsAmong (port_connections p.of_module.items) c
        → IsConnectedTo d p c below n output → as_target c.expression ≡ Some t
        → HasOne s w (out_of_output called p below n t)
        ↔ Has (placed_scope p) (inside v p) t
        (assigned_value (placed_scope below) (inside v below) (target_width (placed_scope p) t) (whole_name n))
    output_holds p below c n t at h to e =
        let at_below : IsPlacedIn d below = leads_to d p below c n to in
        let says : s (called below.path n) ≡ placed_scope below n = flat.says_the_same below n at_below (inl (port_is_declared below n output to.is_port)) in
        let known : EachInTarget (IsRenamed (called p.path) (placed_scope p) s) t = target_known p t at (in_output d good p at c t h e) in
        let y = assigned_value (placed_scope below) (inside v below) (target_width (placed_scope p) t) (whole_name n) in
        with_value s w (renamed_target (called p.path) t) (Has (placed_scope p) (inside v p) t y)
        (assigned_value s w (target_width s (renamed_target (called p.path) t)) (whole_name (called below.path n))) y
        (ap (λ k. assigned_value s w k (whole_name (called below.path n)))
        (known_targets (called p.path) (placed_scope p) s (inside v p) w t known (λ m. seen p m at)).width
        ∙ (known_expressions (called below.path) (placed_scope below) s (inside v below) w (whole_name n) (says, tt) (λ m. seen below m at_below)).assigned
        (target_width (placed_scope p) t))
        (known_has (called p.path) (placed_scope p) s (inside v p) w t y (apart p at) known (λ m. seen p m at))

    -- ---- all drivers

    to_flat : ((p : Placed) → IsPlacedIn d p → HasEquations d v p) → HasAssigned s w links × HasRunAll s w blocks
    to_flat each = (
      all_assigned s w links (λ a h. of_assignment a ((flat.are_links a).0 (contains_among links a h))),
      all_run s w blocks (λ x h. of_blocks x ((flat.are_blocks x).0 (contains_among blocks x h))),
    )
      where
        of_link : (p : Placed) (c : Connection) (a : Target × Expression) → IsPlacedIn d p → IsAmong (port_connections p.of_module.items) c → IsLink d called p c a
            → HasOne s w a
        of_link p c _ at h (to_input below n to) =
            (input_holds p below c n at h to).1
            ((one_connected d v p (port_connections p.of_module.items) c (each p at).connections h).to_input below n to)
        of_link p c _ at h (of_output below n t to e) =
            (output_holds p below c n t at h to e).1
            ((one_connected d v p (port_connections p.of_module.items) c (each p at).connections h).from_output below n t to e)

        of_assignment : (a : Target × Expression) → IsFlatLink d called a → HasOne s w a
        of_assignment _ (of_module p a at c) =
            let h = among_contains (assignments p.of_module.items) a c in
            (own p a at h).1 (one_assigned (placed_scope p) (inside v p) (assignments p.of_module.items) a (each p at).assigned h)
        of_assignment _ (of_connection p c a at k l) = of_link p c a at (among_contains (port_connections p.of_module.items) c k) l

        of_blocks : (x : Statement) → IsFlatBlock d called x → HasRun s w x
        of_blocks _ (of_block p x at c) =
            let h = among_contains (combinational_blocks p.of_module.items) x c in
            (own_block p x at h).1 (one_run (placed_scope p) (inside v p) (combinational_blocks p.of_module.items) x (each p at).combinational h)

    from_flat : HasAssigned s w links → HasRunAll s w blocks → (p : Placed) → IsPlacedIn d p → HasEquations d v p
    from_flat assigned run p at =
        record {
          assigned = all_assigned (placed_scope p) (inside v p) (assignments p.of_module.items)
              (λ a h. (own p a at h).0 (link (renamed_assignment (called p.path) a) (of_module p a at (contains_among (assignments p.of_module.items) a h))));
          connections = all_connected d v p (port_connections p.of_module.items) (λ c h.
              record {
                to_input = λ below n to. (input_holds p below c n at h to).0
                    (link (into_input called p below n c.expression)
                    (of_connection p c (into_input called p below n c.expression) at (contains_among (port_connections p.of_module.items) c h) (to_input below n to)));
                from_output = λ below n t to e. (output_holds p below c n t at h to e).0
                    (link (out_of_output called p below n t)
                    (of_connection p c (out_of_output called p below n t) at (contains_among (port_connections p.of_module.items) c h) (of_output below n t to e)));
              });
          combinational = all_run (placed_scope p) (inside v p) (combinational_blocks p.of_module.items)
              (λ x h. (own_block p x at h).0
              (one_run s w blocks (renamed_statement (called p.path) x) run
              (among_contains blocks (renamed_statement (called p.path) x)
              ((flat.are_blocks (renamed_statement (called p.path) x)).1 (of_block p x at (contains_among (combinational_blocks p.of_module.items) x h))))));
        }
      where
        link : (a : Target × Expression) → IsFlatLink d called a → HasOne s w a
        link a is = one_assigned s w links a assigned (among_contains links a ((flat.are_links a).1 is))

pub flat_solves_each_module : FlatSolvesEachModule
flat_solves_each_module d called s links blocks clocked v w good apart flat seen = (
  λ h. from_flat d called good s links blocks clocked flat apart v w seen h.0 h.1,
  λ each. to_flat d called good s links blocks clocked flat apart v w seen each,
)

pub settled_solves_the_flat : SettledSolvesTheFlat
settled_solves_the_flat d called s links blocks clocked registers inputs v w good apart flat seen settled =
    to_flat d called good s links blocks clocked flat apart v w seen (λ p at. let h = settled.modules p at in
    record { assigned = h.assigned; connections = h.connections; combinational = h.combinational })
