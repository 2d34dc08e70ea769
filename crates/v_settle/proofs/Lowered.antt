-- What the terms of expressions are worth as values of assignments. (The same stands in the proofs of `v_write`, where it is private.)
use Rattle.std.proofs.Common.{◌≡◌, ◌≤◌, ◌%◌, ◌^◌, max, ℕ, Bool, true, false, not, ◌&&◌, refl, ap, sym, subst, ◌∙◌, arith}
use Rattle.std.proofs.Math.Nat.{mod-eq_of_lt}
use Rattle.std.proofs.lemmas.Bool.{false≢true}
use Rattle.verilog_trees.specs.Syntax.{Expression}
use Rattle.verilog_meaning.specs.Expression.{Scope, width_of, sign_of, value_of, assigned_value}
use Rattle.verilog_rules.specs.Expression.{Broken, anywhere, broken, is_unbroken}
use Rattle.wb_terms.specs.Graph.{Graph}
use Rattle.v_value.specs.Evaluation.{width_at}
use Rattle.v_operators.specs.Meaning.{Grows, HasNumber, Makes}
use Rattle.v_operators.proofs.Growing.{Grows-same}
use Rattle.v_lower.specs.Lowered.{Images, HasImages, IsLowered}
use Rattle.v_lower.specs.Walking.{IsSound, sound_at}
use Rattle.v_lower.specs.Answer.{IsAsked, IsAnswer, outcome_of}
use Rattle.v_lower.specs.declared.expression.SizeStop.{SizeStop}
use Rattle.v_lower.specs.declared.expression.SizeStop.TheVariants.{Refused, NoMemory}
use Rattle.std.specs.Prelude.{Err}
use Rattle.v_lower.proofs.Lowering.{stands_before}
use Rattle.v_write.specs.Running.{IsAssigned}

-- ---- what is asked of the lowering

last_of : (a b : Bool) → a && b ≡ true → b ≡ true
last_of true b e = e
last_of false b e = absurd (false≢true e)

not_so : (a : Bool) → not a ≡ true → a ≡ false
not_so false e = refl
not_so true e = absurd (false≢true e)

well_shaped : (b : Broken) → is_unbroken b ≡ true → b.misshapen ≡ false
well_shaped b h = not_so b.misshapen (last_of (not b.memory_use) _ (last_of (not b.bad_select) _ (last_of (not b.width_over_128) _ (last_of (not b.bad_constant) _ (last_of (not b.has_xz) _ (last_of (not b.undeclared) _ h))))))

pub asked : (s : Scope) (im : Images) (g : Graph) (e : Expression) (w : ℕ) → HasImages s im g → IsSound s e → width_at s e ≤ w → w ≤ 128 → IsAsked s im g e w
unfolding sound_at width_at
asked s im g e w known sound wide most = record { of_text = well_shaped (broken s anywhere e) sound; known = known; wider = λ k. wide; at_most_128 = most }

pub refused_same : (s : Scope) (im : Images) (g h : Graph) (e : Expression) (w : ℕ) (t : Bool) (stop : SizeStop) → IsAnswer s im g h e w t (outcome_of (Err stop)) → Grows g h
refused_same s im g h e w t (Refused r) a = Grows-same g h a.1
refused_same s im g h e w t NoMemory a = Grows-same g h a

-- ---- values of assignments

pub assigned_narrow : (s : Scope) (im : Images) (g : Graph) (e : Expression) (w own id : ℕ) (t : Bool) → own ≡ width_at s e → own ≤ w → t ≡ sign_of s e → IsLowered s im g e w t id → IsAssigned s im g e w id
unfolding width_at
assigned_narrow s im g e w own id t is_own small is_t l =
    record {
      of_sort = l.of_sort;
      value = λ p v st.
          let h : HasNumber g id w p (value_of s v e w t) = l.value p v st in
          let m : w ≡ max w (width_of s e) = omega (arith, is_own, small) in
          let r : value_of s v e w t ≡ assigned_value s v w e =
          sym (mod-eq_of_lt {n = value_of s v e w t} {m = 2 ^ w} h.fits) ∙ (ap (λ z. value_of s v e w z % 2 ^ w) is_t ∙ ap (λ z. value_of s v e z (sign_of s e) % 2 ^ w) m) in
          subst (λ z. HasNumber g id w p z) r h;
    }

pub assigned_wide : (s : Scope) (im : Images) (g h : Graph) (e : Expression) (w own all id : ℕ) (t : Bool) → HasImages s im g → Grows g h → own ≡ width_at s e → w ≤ own → t ≡ sign_of s e → IsLowered s im g e own t all
    → Makes g h all own id w (λ x. x % 2 ^ w) → IsAssigned s im h e w id
unfolding width_at
assigned_wide s im g h e w own all id t known gh is_own wide is_t l c =
    record {
      of_sort = c.of_sort;
      value = λ p v st.
          let m : own ≡ max w (width_of s e) = omega (arith, is_own, wide) in
          let r : value_of s v e own t % 2 ^ w ≡ assigned_value s v w e = ap (λ z. value_of s v e own z % 2 ^ w) is_t ∙ ap (λ z. value_of s v e z (sign_of s e) % 2 ^ w) m in
          subst (λ z. HasNumber h id w p z) r (c.value p (value_of s v e own t) (l.value p v (stands_before s im g h p v gh known st)));
    }
