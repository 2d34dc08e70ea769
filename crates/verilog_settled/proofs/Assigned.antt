-- A bit that an assignment or a connection gives its value: what the right side gives, and the assignment that holds.
use Rattle.std.proofs.Common.{◌≡◌, ◌≢◌, ℕ, ◌-◌, ◌<◌, Bool, true, false, not, ◌&&◌, nat_lt, ◌⊎◌, inl, inr, sym, ap, ◌∙◌, subst, Some, IsTrue, lt-ltb}
use Rattle.std.proofs.lemmas.Bool.{cases_Bool, and_parts, and_from, or_cases, or_left, or_right, false≢true}
use Rattle.wb_values.specs.Value.{Name, same_name, Valuation}
use Rattle.verilog_trees.specs.Syntax.{Expression, Target, place, joined, Targets, no_targets, target}
use Rattle.verilog_meaning.specs.Expression.{Scope, sign_of, assigned_value}
use Rattle.verilog_meaning.specs.Statement.{places, target_width, targets_width, written}
use Rattle.verilog_meaning.specs.Register.{selects_are_constant, may_mean, may_reach, may_reach_one, is_set, value_bit}
use Rattle.verilog_designs.specs.Reads.{reads, surely_reaches, one_surely_reaches}
use Rattle.verilog_designs.specs.Dependence.{Bit, is_in, is_plain, copied, takes, one_takes, index_reads, IsGivenBy, copied_to, computed}
use Rattle.verilog_settled.specs.Locality.{IsSame, DifferAt, HasNoConstantMemory, LeavesAre, has_constant_selects, all_have_constant_selects, AssignedBitIsLocal}
use Rattle.verilog_settled.proofs.Values.{Alike, alike_values}
use Rattle.verilog_settled.proofs.Found.{Found, In, SameOr, found_so, differ_at}
use Rattle.verilog_settled.proofs.Expressions.{AreReadable, readable, assigned_local}
use Rattle.verilog_settled.proofs.Copied.{SetOr}
use Rattle.verilog_settled.proofs.Plain.{assigned_copied}
use Rattle.verilog_settled.proofs.Places.{place_fixed}
use Rattle.verilog_settled.proofs.Written.{Why, stays, takes_bit, by_index, NotSurely}
use Rattle.verilog_settled.proofs.Targets.{ArePlaced, AllArePlaced, target_why}

-- ---- what a target takes it may reach

mutual
  pub takes_reach : (s : Scope) (t : Target) (u : Bit) (j : ℕ) → IsTrue (takes s t u j) → IsTrue (may_reach s t u.of_name u.word u.place)
  takes_reach s (place n x) u j h =
      (and_parts (may_reach s (place n x) u.of_name u.word u.place) _ h).0
  takes_reach s (joined ts) u j h = one_takes_reach s ts u j h

  one_takes_reach : (s : Scope) (ts : Targets) (u : Bit) (j : ℕ) → IsTrue (one_takes s ts u j) → IsTrue (may_reach_one s ts u.of_name u.word u.place)
  one_takes_reach s no_targets u j h = absurd (false≢true h)
  one_takes_reach s (target t ts) u j h =
      elim (or_cases (not (nat_lt j (targets_width s ts)) && takes s t u (j - targets_width s ts))
      (not (is_in (surely_reaches s t) u) && one_takes s ts u j) h) [
        | inl e ↦ or_left (may_reach s t u.of_name u.word u.place) (may_reach_one s ts u.of_name u.word u.place)
            (takes_reach s t u (j - targets_width s ts) (and_parts (not (nat_lt j (targets_width s ts))) (takes s t u (j - targets_width s ts)) e).1)
        | inr e ↦ or_right (may_reach s t u.of_name u.word u.place) (may_reach_one s ts u.of_name u.word u.place)
            (one_takes_reach s ts u j (and_parts (not (is_in (surely_reaches s t) u)) (one_takes s ts u j) e).1)
      ]

-- a bit of the right side's value that the target takes
pub given_found : (around inner : Scope) (v w : Valuation) (HasValue IsKnown : Name → Type 0) → HasNoConstantMemory inner → AreReadable inner v w HasValue IsKnown
    → (t : Target) (e : Expression) → LeavesAre IsKnown e → (u : Bit) (j : ℕ) → j < target_width around t → IsTrue (takes around t u j)
    → is_set (assigned_value inner v (target_width around t) e) j ≢ is_set (assigned_value inner w (target_width around t) e) j
    → Found v w HasValue (IsGivenBy around t inner e u)
given_found around inner v w HasValue IsKnown p r t e l u j h k d = by_plain (cases_Bool (is_plain inner e))
  where
    from_copied : IsTrue (is_plain inner e)
        → SetOr (assigned_value inner v (target_width around t) e) (assigned_value inner w (target_width around t) e) j v w HasValue
        (λ z. copied inner e (sign_of inner e) j ≡ Some z) → Found v w HasValue (IsGivenBy around t inner e u)
    from_copied g (inl same) = absurd (d same)
    from_copied g (inr f) =
        found_so v w HasValue (λ z. copied inner e (sign_of inner e) j ≡ Some z) (IsGivenBy around t inner e u)
        (λ z c. copied_to j g (lt-ltb j (target_width around t) h) k c) f

    from_read : is_plain inner e ≡ false
        → SameOr (assigned_value inner v (target_width around t) e) (assigned_value inner w (target_width around t) e) v w HasValue (reads inner e)
        → Found v w HasValue (IsGivenBy around t inner e u)
    from_read g (inl same) = absurd (d (ap (λ z. is_set z j) same))
    from_read g (inr f) =
        found_so v w HasValue (In (reads inner e)) (IsGivenBy around t inner e u) (λ z c. computed (ap not g) (takes_reach around t u j k) c) f

    by_plain : (is_plain inner e ≡ true) ⊎ (is_plain inner e ≡ false) → Found v w HasValue (IsGivenBy around t inner e u)
    by_plain (inl g) = from_copied g (assigned_copied inner v w HasValue IsKnown p r e l g (target_width around t) j h)
    by_plain (inr g) = from_read g (assigned_local inner v w HasValue IsKnown p r (target_width around t) e l)

-- ---- targets with constant indexes

mutual
  fixed_placed : (s : Scope) (v w : Valuation) → HasNoConstantMemory s → (t : Target) → IsTrue (has_constant_selects s t) → ArePlaced s v w (λ n. ⊥) t
  fixed_placed s v w p (place n x) h = inl (place_fixed s v p n x h ∙ sym (place_fixed s w p n x h))
  fixed_placed s v w p (joined ts) h = all_fixed_placed s v w p ts h

  all_fixed_placed : (s : Scope) (v w : Valuation) → HasNoConstantMemory s → (ts : Targets) → IsTrue (all_have_constant_selects s ts)
      → AllArePlaced s v w (λ n. ⊥) ts
  all_fixed_placed s v w p no_targets h = tt
  all_fixed_placed s v w p (target t ts) h = (
    fixed_placed s v w p t (and_parts (has_constant_selects s t) (all_have_constant_selects s ts) h).0,
    all_fixed_placed s v w p ts (and_parts (has_constant_selects s t) (all_have_constant_selects s ts) h).1,
  )

mutual
  fixed_surely : (s : Scope) (t : Target) (u : Bit) → IsTrue (has_constant_selects s t) → IsTrue (may_reach s t u.of_name u.word u.place)
      → IsTrue (is_in (surely_reaches s t) u)
  fixed_surely s (place n x) u c h =
      let both : (same_name n u.of_name ≡ true) × (may_mean s (s n) x u.word u.place ≡ true) =
      and_parts (same_name n u.of_name) (may_mean s (s n) x u.word u.place) h in
      and_from (same_name n u.of_name) (selects_are_constant s x && may_mean s (s n) x u.word u.place) both.0
      (and_from (selects_are_constant s x) (may_mean s (s n) x u.word u.place) c both.1)
  fixed_surely s (joined ts) u c h = one_fixed_surely s ts u c h

  one_fixed_surely : (s : Scope) (ts : Targets) (u : Bit) → IsTrue (all_have_constant_selects s ts) → IsTrue (may_reach_one s ts u.of_name u.word u.place)
      → IsTrue (is_in (one_surely_reaches s ts) u)
  one_fixed_surely s no_targets u c h = absurd (false≢true h)
  one_fixed_surely s (target t ts) u c h =
      elim (or_cases (may_reach s t u.of_name u.word u.place) (may_reach_one s ts u.of_name u.word u.place) h) [
        | inl e ↦ or_left (is_in (surely_reaches s t) u) (is_in (one_surely_reaches s ts) u)
            (fixed_surely s t u (and_parts (has_constant_selects s t) (all_have_constant_selects s ts) c).0 e)
        | inr e ↦ or_right (is_in (surely_reaches s t) u) (is_in (one_surely_reaches s ts) u)
            (one_fixed_surely s ts u (and_parts (has_constant_selects s t) (all_have_constant_selects s ts) c).1 e)
      ]

never_surely : (b : Bool) → b ≡ true → not b ≡ true → ⊥
never_surely true h k = false≢true k
never_surely false h k = false≢true h

pub assigned_bit_is_local : AssignedBitIsLocal
assigned_bit_is_local around inner v w inner_v inner_w IsKnown t e u pa pi fv fw l hv hw c h holds_v holds_w =
    over (target_why around v w (λ n. ⊥) pa u (alike_values (around u.of_name) (v u.of_name) (w u.of_name) hv hw) t (fixed_placed around v w pa t c)
    (assigned_value inner inner_v (target_width around t) e) (assigned_value inner inner_w (target_width around t) e)
    (subst (Alike (around u.of_name) (v u.of_name)) (sym (holds_v u.of_name)) (alike_values (around u.of_name) (v u.of_name) (v u.of_name) hv hv))
    (subst (Alike (around u.of_name) (w u.of_name)) (sym (holds_w u.of_name)) (alike_values (around u.of_name) (w u.of_name) (w u.of_name) hw hw)))
  where
    because : Why v w (λ n. ⊥) (NotSurely around t u) (λ j. (j < target_width around t) × IsTrue (takes around t u j)) (In (index_reads around t u))
        (assigned_value inner inner_v (target_width around t) e) (assigned_value inner inner_w (target_width around t) e) u
        → DifferAt inner_v inner_w (IsGivenBy around t inner e u)
    because (stays n d) = absurd (never_surely (is_in (surely_reaches around t) u) (fixed_surely around t u c h) n)
    because (by_index f) = absurd f.has_value
    because (takes_bit j k d) =
        differ_at inner_v inner_w (λ m. Unit {0}) (IsGivenBy around t inner e u)
        (given_found around inner inner_v inner_w (λ m. Unit {0}) IsKnown pi (readable inner inner_v inner_w IsKnown fv fw) t e l u j k.0 k.1 d)

    over : IsSame (written around v (places around v t) (assigned_value inner inner_v (target_width around t) e))
        (written around w (places around w t) (assigned_value inner inner_w (target_width around t) e)) u
        ⊎ Why v w (λ n. ⊥) (NotSurely around t u) (λ j. (j < target_width around t) × IsTrue (takes around t u j)) (In (index_reads around t u))
        (assigned_value inner inner_v (target_width around t) e) (assigned_value inner inner_w (target_width around t) e) u
        → IsSame v w u ⊎ DifferAt inner_v inner_w (IsGivenBy around t inner e u)
    over (inl same) =
        inl (sym (ap (λ z. value_bit z u.word u.place) (holds_v u.of_name)) ∙ same ∙ ap (λ z. value_bit z u.word u.place) (holds_w u.of_name))
    over (inr k) = inr (because k)
