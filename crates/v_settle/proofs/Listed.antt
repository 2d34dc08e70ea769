-- The drivers of a module as one list of statements: which they are, and what holds of each.
use Rattle.std.proofs.Common.{◌≡◌, ◌∙◌, ℕ, refl, ap, sym, subst, true, List, [], ◌∷◌, ◌++◌, append-nil, append_assoc, ◌⊎◌, inl, inr}
use Rattle.std.specs.Prelude.{IsTrue, ◌||◌}
use Rattle.std.proofs.lemmas.Bool.{false≢true, or_cases, or_left, or_right}
use Rattle.wb_values.specs.Value.{Name, Valuation}
use Rattle.verilog_trees.specs.Syntax.{Expression, Target, Statement, blocking, Item}
use Rattle.verilog_meaning.specs.Expression.{Scope}
use Rattle.verilog_meaning.specs.Register.{may_reach, may_assign, one_may_assign, combinational_blocks}
use Rattle.verilog_meaning.specs.Settled.{assignments, one_may_reach, HasAssigned, HasRun, HasRunAll}
use Rattle.verilog_designs.specs.Reads.{no_bits}
use Rattle.verilog_designs.specs.Dependence.{Bit, at_start, After, given}
use Rattle.verilog_unique.proofs.Descent.{IsAmong, among_left, among_right, among_either, contains_among, among_contains}
use Rattle.v_drivers.proofs.Driving.{links-of-items, combinational-of-items}
use Rattle.v_write.specs.Sound.{IsSoundStatement}
use Rattle.v_depend.specs.Resting.{IsThere}
use Rattle.v_depend.specs.Running.{IsFit}
use Rattle.v_order.specs.Drivers.{as_statements, drivers}
use Rattle.v_loops.specs.OneModule.{DependsIn}
use Rattle.v_loops.specs.Turns.{AreFitToRun, IsRunnable, Stage}
use Rattle.v_settle.specs.OneModule.{is_driven, AreSound}
use Rattle.v_loops.proofs.Listed.{kind-of, link-among, block-among, one-assigns, assigned-by}
use Rattle.v_settle.proofs.Given.{only-given, as-link}

abbrev pub Links : Type 0
Links = List (Target × Expression)

pub statements-both : (xs ys : Links) → as_statements (xs ++ ys) ≡ as_statements xs ++ as_statements ys
statements-both [] ys = refl
statements-both (a ∷ xs) ys = ap (λ zs. blocking a.0 a.1 ∷ zs) (statements-both xs ys)

-- ---- what holds of each

pub sound-among : (s : Scope) (xs : List Statement) (x : Statement) → AreSound s xs → IsAmong xs x → IsSoundStatement s x
sound-among s [] x f h = absurd h
sound-among s (y ∷ xs) x f (inl e) = subst (IsSoundStatement s) e f.0
sound-among s (y ∷ xs) x f (inr h) = sound-among s xs x f.1 h

link-runs : (s : Scope) (v : Valuation) (links : Links) (x : Statement) → HasAssigned s v links → IsAmong (as_statements links) x → HasRun s v x
link-runs s v [] x h k = absurd k
link-runs s v (a ∷ links) x h (inl e) = subst (HasRun s v) e h.0
link-runs s v (a ∷ links) x h (inr k) = link-runs s v links x h.1 k

block-runs : (s : Scope) (v : Valuation) (xs : List Statement) (x : Statement) → HasRunAll s v xs → IsAmong xs x → HasRun s v x
block-runs s v [] x h k = absurd k
block-runs s v (y ∷ xs) x h (inl e) = subst (HasRun s v) e h.0
block-runs s v (y ∷ xs) x h (inr k) = block-runs s v xs x h.1 k

pub driver-runs : (s : Scope) (v : Valuation) (items : List Item) (x : Statement) → HasAssigned s v (assignments items) → HasRunAll s v (combinational_blocks items)
    → IsAmong (drivers items) x → HasRun s v x
driver-runs s v items x h g k =
    elim (kind-of items x k) as (λ _. HasRun s v x) [
      | inl l ↦ link-runs s v (assignments items) x h l
      | inr l ↦ block-runs s v (combinational_blocks items) x g l
    ]

-- ---- dependence

module _ (s : Scope) (items : List Item) (runnable : IsRunnable s items) where
  -- what a bit depends on by a driver that may assign it
  pub depends : (x : Statement) (u y : Bit) → IsAmong (drivers items) x → IsThere s u → IsTrue (may_assign s x u.of_name u.word u.place)
      → After s at_start x u y → DependsIn s items u y
  depends x u y h there m a = at (kind-of items x h)
    where
      at : IsAmong (as_statements (assignments items)) x ⊎ IsAmong (combinational_blocks items) x → DependsIn s items u y
      at (inl k) =
          let l = as-link s (assignments items) x runnable.constant k in
          let reach = subst (λ (z : Statement). IsTrue (may_assign s z u.of_name u.word u.place)) (sym l.is_it) m in
          let after = subst (λ (z : Statement). After s at_start z u y) (sym l.is_it) a in
          DependsIn.by_assignment l.link u y (contains_among (assignments items) l.link l.stands) there (only-given s l.link.0 l.link.1 u y l.constant reach after)
      at (inr k) = DependsIn.by_block x u y (contains_among (combinational_blocks items) x k) there m a

-- ---- bits that are driven

reached-by : (s : Scope) (links : Links) (x : Statement) (n : Name) (k b : ℕ) → IsAmong (as_statements links) x → may_assign s x n k b ≡ true → one_may_reach s links n k b ≡ true
reached-by s [] x n k b h m = absurd h
reached-by s (a ∷ links) x n k b (inl e) m =
    or_left (may_reach s a.0 n k b) (one_may_reach s links n k b) (subst (λ (z : Statement). may_assign s z n k b ≡ true) (sym e) m)
reached-by s (a ∷ links) x n k b (inr h) m = or_right (may_reach s a.0 n k b) (one_may_reach s links n k b) (reached-by s links x n k b h m)

-- what a driver may assign is driven
pub is-driven : (s : Scope) (items : List Item) (x : Statement) (n : Name) (k b : ℕ) → IsAmong (drivers items) x → may_assign s x n k b ≡ true → is_driven s items n k b ≡ true
is-driven s items x n k b h m =
    elim (kind-of items x h) as (λ _. is_driven s items n k b ≡ true) [
      | inl l ↦ or_left (one_may_reach s (assignments items) n k b) (one_may_assign s (combinational_blocks items) n k b) (reached-by s (assignments items) x n k b l m)
      | inr l ↦ or_right (one_may_reach s (assignments items) n k b) (one_may_assign s (combinational_blocks items) n k b)
          (assigned-by s (combinational_blocks items) x n k b l m)
    ]

link-reaches : (s : Scope) (links : Links) (n : Name) (k b : ℕ) → one_may_reach s links n k b ≡ true → one_may_assign s (as_statements links) n k b ≡ true
link-reaches s [] n k b h = h
link-reaches s (a ∷ links) n k b h =
    elim (or_cases (may_reach s a.0 n k b) (one_may_reach s links n k b) h) as (λ _. (may_reach s a.0 n k b || one_may_assign s (as_statements links) n k b) ≡ true) [
      | inl e ↦ or_left (may_reach s a.0 n k b) (one_may_assign s (as_statements links) n k b) e
      | inr e ↦ or_right (may_reach s a.0 n k b) (one_may_assign s (as_statements links) n k b) (link-reaches s links n k b e)
    ]

-- and what is driven a driver may assign
pub driven-by : (s : Scope) (items : List Item) (n : Name) (k b : ℕ) → is_driven s items n k b ≡ true → (x : Statement) × IsAmong (drivers items) x × (may_assign s x n k b ≡ true)
driven-by s items n k b h =
    elim (or_cases (one_may_reach s (assignments items) n k b) (one_may_assign s (combinational_blocks items) n k b) h)
    as (λ _. (x : Statement) × IsAmong (drivers items) x × (may_assign s x n k b ≡ true)) [
      | inl e ↦ let o = one-assigns s (as_statements (assignments items)) n k b (link-reaches s (assignments items) n k b e) in
          (o.0, link-among items o.0 o.1, o.2)
      | inr e ↦ let o = one-assigns s (combinational_blocks items) n k b e in (o.0, block-among items o.0 o.1, o.2)
    ]
