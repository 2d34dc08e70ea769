-- Bits of a module that no assignment, no combinational block and no instance drives depend on nothing.
use Rattle.std.proofs.Common.{◌≡◌, Bool, true, ◌&&◌, List, [], ◌∷◌, sym, ◌∙◌, subst}
use Rattle.std.specs.Prelude.{Contains, IsTrue}
use Rattle.wb_values.specs.Value.{Name, same_name}
use Rattle.model_meaning.specs.Model.{Model}
use Rattle.verilog_trees.specs.Syntax.{Expression, Target, Module}
use Rattle.verilog_meaning.specs.Expression.{Scope}
use Rattle.verilog_meaning.specs.Register.{combinational_blocks}
use Rattle.verilog_meaning.specs.Hierarchy.{PathStep, Placed, placed_scope, instance_step}
use Rattle.verilog_meaning.specs.Settled.{assignments, whole_of, port_connections}
use Rattle.verilog_designs.specs.Dependence.{Bit, PlacedBit, IsGivenBy, Depends, DependsFar}
use Rattle.verilog_unique.proofs.Options.{same_is, both_true}
use Rattle.verilog_unique.proofs.Paths.{stands_at}
use Rattle.verilog_unique.proofs.Descent.{IsAmong, among_contains}
use Rattle.emitted_map_rules.proofs.Scope.{design_over, at_the_top}

-- Each continuous assignment is to the whole of a name that has a property, and there are neither combinational blocks nor instances.
pub record AssignsOnly (x : Module) (P : Name → Type 0) : Type 0 where
  pub assigned : (a : Target × Expression) → IsAmong (assignments x.items) a → (k : Name) × (a.0 ≡ whole_of k) × P k
  pub no_blocks : combinational_blocks x.items ≡ []
  pub no_instances : port_connections x.items ≡ []

reached_name : (k n : Name) → IsTrue (same_name k n && true) → k ≡ n
reached_name k n h = same_is k n (both_true (same_name k n) true h).0

taken_name : (k n : Name) (b : Bool) → IsTrue ((same_name k n && true) && b) → k ≡ n
taken_name k n b h = reached_name k n (both_true (same_name k n && true) b h).0

-- an assignment to the whole of a name gives the bits of no other
not_given : (s : Scope) (k : Name) (inner : Scope) (e : Expression) (u y : Bit) → (k ≡ u.of_name → ⊥) → IsGivenBy s (whole_of k) inner e u y → ⊥
not_given s k inner e u y apart (IsGivenBy.copied_to j plain low taken copied) = apart (taken_name k u.of_name _ taken)
not_given s k inner e u y apart (IsGivenBy.computed plain reached read) = apart (reached_name k u.of_name reached)

none_in : {A : Type 0} (xs : List A) (x : A) → xs ≡ [] → Contains xs x → ⊥
none_in {A} xs x e h = among_contains [] x (subst (λ (ys : List A). Contains ys x) e h)

no_step : (u : PathStep) (path : List PathStep) → u ∷ path ≡ [] → ⊥
no_step u path e = cc

module _ (m : Model) (x : Module) (named : x.module_name ≡ m.model_name) (P : Name → Type 0) (only : AssignsOnly x P) (n : Name) (free : ¬ P n) where
  not_assigned : (s inner : Scope) (a : Target × Expression) (u y : Bit) → IsAmong (assignments x.items) a → u.of_name ≡ n
      → IsGivenBy s a.0 inner a.1 u y → ⊥
  not_assigned s inner a u y at e given =
      let t = only.assigned a at in
      not_given s t.0 inner a.1 u y (λ same. free (subst P (same ∙ e) t.2)) (subst (λ z. IsGivenBy s z inner a.1 u y) t.1 given)

  -- the bits of the name at the top depend on nothing
  no_dependence : (u y : PlacedBit) → u.path ≡ [] → u.bit.of_name ≡ n → Depends (design_over m x) u y → ⊥
  no_dependence _ _ e f (Depends.by_assignment p a u y placed at is_bit given) =
      let top = at_the_top m x named p placed e in
      not_assigned (placed_scope p) (placed_scope p) a u y
      (among_contains (assignments x.items) a (subst (λ (q : Placed). Contains (assignments q.of_module.items) a) top at)) f given
  no_dependence _ _ e f (Depends.by_block p z u y placed at is_bit assigns after) =
      let top = at_the_top m x named p placed e in
      none_in (combinational_blocks x.items) z only.no_blocks (subst (λ (q : Placed). Contains (combinational_blocks q.of_module.items) z) top at)
  no_dependence _ _ e f (Depends.by_input p below c k u y placed at connected is_bit given) =
      no_step (instance_step c.of_instance) p.path
      (sym (stands_at (design_over m x) (instance_step c.of_instance ∷ p.path) below connected.is_below) ∙ e)
  no_dependence _ _ e f (Depends.by_output p below c k t u y placed at connected is_target is_bit given) =
      let top = at_the_top m x named p placed e in
      none_in (port_connections x.items) c only.no_instances (subst (λ (q : Placed). Contains (port_connections q.of_module.items) c) top at)

  pub depends_on_nothing : (u y : PlacedBit) → u.path ≡ [] → u.bit.of_name ≡ n → DependsFar (design_over m x) u y → ⊥
  depends_on_nothing _ _ e f (DependsFar.step u y one) = no_dependence u y e f one
  depends_on_nothing _ _ e f (DependsFar.further u z y one more) = no_dependence u z e f one
