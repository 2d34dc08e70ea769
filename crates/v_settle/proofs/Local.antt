-- What holds of a driver, whether it is a continuous assignment or a block.
use Rattle.std.proofs.Common.{◌≡◌, ◌∙◌, refl, sym, subst, Bool, true, false, List, [], ◌∷◌, ◌⊎◌, inl, inr}
use Rattle.std.proofs.lemmas.Bool.{false≢true, true≢false, cases_Bool}
use Rattle.wb_values.specs.Value.{Name, Valuation}
use Rattle.verilog_trees.specs.Syntax.{Expression, Target, place, joined, Targets, no_targets, target, Statement, blocking, Item}
use Rattle.verilog_meaning.specs.Expression.{Scope, assigned_value}
use Rattle.verilog_meaning.specs.Statement.{target_width, run}
use Rattle.verilog_meaning.specs.Register.{value_bit, may_reach, combinational_blocks}
use Rattle.verilog_meaning.specs.Settled.{IsValueOf, assignments}
use Rattle.verilog_settled.specs.Locality.{IsSame, DifferAt, AllFit, HasNoConstantMemory}
use Rattle.verilog_settled.proofs.Runs.{run_bit_is_local}
use Rattle.verilog_unique.proofs.Descent.{IsAmong, among_either}
use Rattle.verilog_exists.proofs.Kept.{unreached}
use Rattle.verilog_exists.proofs.Rounds.{linked_local, reached_name}
use Rattle.verilog_designs.specs.Drivers.{target_names, targets_names, assigned_names}
use Rattle.verilog_designs.specs.Dependence.{Bit, IsGivenBy, at_start, After, given}
use Rattle.v_value.specs.Narrow.{HasNarrowObjects}
use Rattle.v_write.specs.Sound.{IsSoundStatement}
use Rattle.v_order.specs.Drivers.{as_statements, drivers}
use Rattle.v_settle.specs.Drivers.{IsNet, IsNetTarget, AreNetTargets, IsSoundLink, AreSoundLinks}
use Rattle.v_settle.specs.OneModule.{IsEvaluable}
use Rattle.v_settle.proofs.Apart.{still-before}
use Rattle.v_settle.proofs.Known.{IsNamed, IsAssignable, leaves, statement-leaves, assignable}
use Rattle.v_loops.proofs.Listed.{kind-of}
use Rattle.v_settle.proofs.Listed.{Links, sound-among}

-- ---- names of targets

mutual
  net-among : (s : Scope) (t : Target) (n : Name) → IsNetTarget s t → IsAmong (target_names t) n → IsNet s n
  net-among s (place m x) n h (inl e) = subst (IsNet s) e h.0
  net-among s (place m x) n h (inr k) = absurd k
  net-among s (joined ts) n h k = nets-among s ts n h k

  nets-among : (s : Scope) (ts : Targets) (n : Name) → AreNetTargets s ts → IsAmong (targets_names ts) n → IsNet s n
  nets-among s no_targets n h k = absurd k
  nets-among s (target t ts) n h k =
      elim (among_either (target_names t) (targets_names ts) n k) as (λ _. IsNet s n) [
        | inl g ↦ net-among s t n h.0 g
        | inr g ↦ nets-among s ts n h.1 g
      ]

-- ---- the two kinds

pub record LinkOf (s : Scope) (x : Statement) : Type 0 where
  pub left : Target
  pub value : Expression
  pub is_it : blocking left value ≡ x
  pub sound : IsSoundLink s left value

link-of : (s : Scope) (links : Links) (x : Statement) → AreSoundLinks s links → IsAmong (as_statements links) x → LinkOf s x
link-of s [] x h k = absurd k
link-of s (a ∷ links) x h (inl e) = record { left = a.0; value = a.1; is_it = e; sound = h.0 }
link-of s (a ∷ links) x h (inr k) = link-of s links x h.1 k

pub kind : (s : Scope) (items : List Item) (x : Statement) → IsEvaluable s items → IsAmong (drivers items) x → LinkOf s x ⊎ IsSoundStatement s x
kind s items x ready h =
    elim (kind-of items x h) as (λ _. LinkOf s x ⊎ IsSoundStatement s x) [
      | inl k ↦ inl (link-of s (assignments items) x ready.links k)
      | inr k ↦ inr (sound-among s (combinational_blocks items) x ready.blocks k)
    ]

-- what it may assign is declared, and no parameter
pub may-assign : (s : Scope) → HasNarrowObjects s → (x : Statement) → LinkOf s x ⊎ IsSoundStatement s x → (n : Name) → IsAmong (assigned_names x) n → IsAssignable s n
may-assign s o x (inr h) n k = assignable s o x h n k
may-assign s o x (inl l) n k =
    let q = net-among s l.left n l.sound.nets (subst (λ (z : Statement). IsAmong (assigned_names z) n) (sym l.is_it) k) in
    (q.sort, q.variable)

-- ---- what a run leaves

same-or-not : (p q : Bool) → (p ≡ q) ⊎ (p ≡ q → ⊥)
same-or-not true true = inl refl
same-or-not false false = inl refl
same-or-not true false = inr true≢false
same-or-not false true = inr false≢true

-- each value of an object stays one
abbrev Keeps : Scope → Statement → Valuation → Type 0
Keeps s x v = (n : Name) → IsValueOf (s n) (v n) → IsValueOf (s n) ((run s x v).valuation n)

abbrev IsLocal : Scope → Valuation → Valuation → Bit → Statement → Type 0
IsLocal s w v u x =
    Keeps s x w → Keeps s x v → IsSame (run s x w).valuation (run s x v).valuation u ⊎ DifferAt w v (After s at_start x u)

module _ (s : Scope) (objects : HasNarrowObjects s) (parameters : HasNoConstantMemory s) (w v : Valuation) (all_w : AllFit s (IsNamed s) w) (all_v : AllFit s (IsNamed s) v)
    (u : Bit) (fit_w : IsValueOf (s u.of_name) (w u.of_name)) (fit_v : IsValueOf (s u.of_name) (v u.of_name)) where
  link-is-local : (t : Target) (e : Expression) → IsSoundLink s t e → IsLocal s w v u (blocking t e)
  link-is-local t e sound keeps_w keeps_v = at (cases_Bool (may_reach s t u.of_name u.word u.place))
    where
      over : IsSame (run s (blocking t e) w).valuation (run s (blocking t e) v).valuation u ⊎ DifferAt w v (IsGivenBy s t s e u)
          → IsSame (run s (blocking t e) w).valuation (run s (blocking t e) v).valuation u ⊎ DifferAt w v (After s at_start (blocking t e) u)
      over (inl same) = inl same
      over (inr d) = inr (record { bit = d.bit; is_so = given d.bit d.is_so refl; differs = d.differs })

      apart : may_reach s t u.of_name u.word u.place ≡ false → (z : Valuation) → Keeps s (blocking t e) z → IsValueOf (s u.of_name) (z u.of_name)
          → value_bit ((run s (blocking t e) z).valuation u.of_name) u.word u.place ≡ value_bit (z u.of_name) u.word u.place
      apart m z keeps fits = unreached s parameters z t (assigned_value s z (target_width s t) e) u.of_name u.word u.place m fits (keeps u.of_name fits)

      same-before : may_reach s t u.of_name u.word u.place ≡ false → IsSame w v u ⊎ (IsSame w v u → ⊥)
          → IsSame (run s (blocking t e) w).valuation (run s (blocking t e) v).valuation u ⊎ DifferAt w v (After s at_start (blocking t e) u)
      same-before m (inl d) = inl (apart m w keeps_w fit_w ∙ d ∙ sym (apart m v keeps_v fit_v))
      same-before m (inr d) = inr (record { bit = u; is_so = still-before s at_start (blocking t e) u u m refl; differs = d })

      at : (may_reach s t u.of_name u.word u.place ≡ true) ⊎ (may_reach s t u.of_name u.word u.place ≡ false)
          → IsSame (run s (blocking t e) w).valuation (run s (blocking t e) v).valuation u ⊎ DifferAt w v (After s at_start (blocking t e) u)
      at (inl m) =
          over (linked_local s s w v w v (IsNamed s) t e u parameters parameters all_w all_v (leaves s objects e sound.value)
          (net-among s t u.of_name sound.nets (reached_name s t u.of_name u.word u.place m)).plain fit_w fit_v sound.constant m)
      at (inr m) = same-before m (same-or-not (value_bit (w u.of_name) u.word u.place) (value_bit (v u.of_name) u.word u.place))

  pub driver-is-local : (x : Statement) → LinkOf s x ⊎ IsSoundStatement s x → IsLocal s w v u x
  driver-is-local x (inl l) = subst (IsLocal s w v u) l.is_it (link-is-local l.left l.value l.sound)
  driver-is-local x (inr h) = λ keeps_w keeps_v.
      run_bit_is_local s w v (IsNamed s) x u parameters all_w all_v (statement-leaves s objects x h) keeps_w keeps_v fit_w fit_v
