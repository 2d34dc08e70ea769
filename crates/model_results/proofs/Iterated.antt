-- Steps of a relation, and the same steps as a function.
use Rattle.std.proofs.Common.{◌≡◌, ℕ, zero, suc, ◌+◌, ◌≤◌, Bool, true, false, refl, sym, ap, ◌∙◌, subst, arith}
use Rattle.std.proofs.lemmas.Bool.{and_parts, and_from}
use Rattle.wb_values.specs.Value.{Valuation}
use Rattle.model_meaning.specs.Instruction.{Reaches}
use Rattle.model_results.specs.Results.{Result, ended_at, followed, iterated, IsEndedAt}

-- a step after steps that ended
pub ended_further : (r : Result) (step : Valuation → Result) (p q : Valuation) → IsEndedAt r p → IsEndedAt (step p) q → IsEndedAt (followed r step) q
ended_further r step p q a b =
    let at = subst (λ x. IsEndedAt (step x) q) a.1 b in
    (and_from _ _ a.0 at.0, at.1)

-- the last step of steps that ended
pub ended_before : (r : Result) (step : Valuation → Result) (q : Valuation) → IsEndedAt (followed r step) q → (r.ended ≡ true) × IsEndedAt (step r.point) q
ended_before r step q a =
    let both = and_parts r.ended _ a.0 in
    (both.0, (both.1, a.1))

-- a step, and then others
pub step_first : (f : Valuation → Result) (n : ℕ) (p r q : Valuation) → IsEndedAt (f p) r → IsEndedAt (iterated f n r) q → IsEndedAt (iterated f (suc n) p) q
step_first f zero p r q a b = (a.0, b.1 ∙ a.1)
step_first f (suc n) p r q a b =
    let last = ended_before (iterated f n r) f q b in
    ended_further (iterated f (suc n) p) f (iterated f n r).point q (step_first f n p r (iterated f n r).point a (last.0, refl)) last.1

-- where a step stays, all do
pub stays : (f : Valuation → Result) (n : ℕ) (p : Valuation) → f p ≡ ended_at p → IsEndedAt (iterated f n p) p
stays f zero p e = (refl, refl)
stays f (suc n) p e = ended_further (iterated f n p) f p p (stays f n p e) (ap (λ (r : Result). r.ended) e, sym (ap (λ (r : Result). r.point) e))

-- Steps of a relation that the function follows lead where the function leads, from where it stays on.
pub reached : (S : Valuation → Valuation → Type 0) (f : Valuation → Result) (n m : ℕ) (p q : Valuation) → ((x y : Valuation) → S x y → IsEndedAt (f x) y) → f q ≡ ended_at q → Reaches S n p q → IsEndedAt (iterated f (n + m) p) q
reached S f zero m p q g e r =
    let z : m ≡ 0 + m = omega arith in
    subst (λ k. IsEndedAt (iterated f k p) q) z (subst (λ x. IsEndedAt (iterated f m x) q) (sym r) (stays f m q e))
reached S f (suc n) m p q g e r =
    let z : suc (n + m) ≡ suc n + m = omega arith in
    subst (λ k. IsEndedAt (iterated f k p) q) z (step_first f (n + m) p r.0 q (g p r.0 r.1) (reached S f n m r.0 q g e r.2))

reach_more : (S : Valuation → Valuation → Type 0) (n : ℕ) (p q r : Valuation) → Reaches S n p q → S q r → Reaches S (suc n) p r
reach_more S zero p q r h s = (r, subst (λ x. S x r) (sym h) s, refl)
reach_more S (suc n) p q r h s = (h.0, h.1, reach_more S n h.0 q r h.2 s)

step_taken : (S : Valuation → Valuation → Type 0) (f : Valuation → Result) (n m : ℕ) (p r q : Valuation) (t : Bool) → (t ≡ true → IsEndedAt (f r) q → S r q) → (t ≡ false → f r ≡ ended_at r) → n ≤ m → Reaches S n p r → IsEndedAt (f r) q → (k : ℕ) × (k ≤ suc m) × Reaches S k p q
step_taken S f n m p r q true g s l h e = (suc n, omega (arith, l), reach_more S n p r q h (g refl e))
step_taken S f n m p r q false g s l h e =
    let same : q ≡ r = e.1 ∙ ap (λ (x : Result). x.point) (s refl) in
    (n, omega (arith, l), subst (λ x. Reaches S n p x) (sym same) h)

-- Where the function ends, some steps of the relation lead there.
pub reaches : (S : Valuation → Valuation → Type 0) (f : Valuation → Result) (V : Valuation → Bool) (m : ℕ) (p q : Valuation) → ((x y : Valuation) → V x ≡ true → IsEndedAt (f x) y → S x y) → ((x : Valuation) → V x ≡ false → f x ≡ ended_at x) → IsEndedAt (iterated f m p) q → (k : ℕ) × (k ≤ m) × Reaches S k p q
reaches S f V zero p q g s e = (0, omega arith, sym e.1)
reaches S f V (suc m) p q g s e =
    let last = ended_before (iterated f m p) f q e in
    let r = (iterated f m p).point in
    let h = reaches S f V m p r g s (last.0, refl) in
    step_taken S f h.0 m p r q (V r) (g r q) (s r) h.1 h.2 last.1
