-- What is answered of a whole expression.
use Rattle.std.proofs.Common.{◌≡◌, ◌∙◌, ◌≤◌, ℕ, refl, sym, ap, subst, Bool, true, false, not, cond, ◌&&◌, Option, Some, None, is_some}
use Rattle.std.proofs.lemmas.Bool.{false≢true}
use Rattle.wb_values.specs.Choice.{some_if}
use Rattle.verilog_trees.specs.Syntax.{Expression}
use Rattle.verilog_meaning.specs.Expression.{Scope, width_of}
use Rattle.verilog_rules.specs.Expression.{Kind, Broken, anywhere, broken, is_unbroken, first_broken, refusal_of}
use Rattle.wb_terms.specs.Graph.{Graph}
use Rattle.v_value.specs.Evaluation.{width_at}
use Rattle.v_lower.specs.Lowered.{Images}
use Rattle.v_lower.specs.Answer.{Outcome, lowered, refused, out_of_memory, IsAsked, IsAnswer, IsMade}
use Rattle.v_lower.specs.Walking.{sound_at, IsSound}

-- a choice that gives nothing
not-chosen : (c : Bool) (k : Kind) (r : Option Kind) → cond c (Some k) r ≡ None → (not c ≡ true) × (r ≡ None)
not-chosen false k r e = (refl, e)
not-chosen true k r e = absurd (false≢true (sym (ap is_some e)))

not-last : (c : Bool) (k : Kind) → some_if c k ≡ None → not c ≡ true
not-last false k e = refl
not-last true k e = absurd (false≢true (sym (ap is_some e)))

and-both : (a b : Bool) → a ≡ true → b ≡ true → a && b ≡ true
and-both a b i j = ap (λ z. z && b) i ∙ j

none-broken : (b : Broken) → b.misshapen ≡ false → first_broken b ≡ None → is_unbroken b ≡ true
none-broken b m e =
    let a1 = not-chosen b.undeclared _ _ e in
    let a2 = not-chosen b.has_xz _ _ a1.1 in
    let a3 = not-chosen b.bad_constant _ _ a2.1 in
    let a4 = not-chosen b.width_over_128 _ _ a3.1 in
    let a5 = not-chosen b.bad_select _ _ a4.1 in
    let a6 = not-last b.memory_use _ a5.1 in
    and-both _ _ a1.0 (and-both _ _ a2.0 (and-both _ _ a3.0 (and-both _ _ a4.0 (and-both _ _ a5.0 (and-both _ _ a6 (ap not m))))))

pub sound_by : (s : Scope) (e : Expression) → (broken s anywhere e).misshapen ≡ false → refusal_of s e ≡ None → IsSound s e
unfolding sound_at
sound_by s e m h = none-broken (broken s anywhere e) m h

pub within_by : (s : Scope) (e : Expression) (w : ℕ) → (refusal_of s e ≡ None → width_of s e ≤ w) → refusal_of s e ≡ None → width_at s e ≤ w
unfolding width_at
within_by s e w f h = f h

pub answered_by : (s : Scope) (im : Images) (g h : Graph) (e : Expression) (w : ℕ) (t : Bool) (o : Outcome) → refusal_of s e ≡ None → IsMade s im g h e w t o → IsAnswer s im g h e w t o
answered_by s im g h e w t (lowered id) n m = (n, m.0, m.1)
answered_by s im g h e w t (refused k) n m = absurd m
answered_by s im g h e w t out_of_memory n m = m
