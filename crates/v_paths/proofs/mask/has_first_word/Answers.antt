use Rattle.std.proofs.Common.{◌≡◌, ◌∙◌, ℕ, ap, sym, subst, arith, refl, false}
use Rattle.std.specs.Prelude.{◌&&◌, ◌==◌, nat_lt, nat_le}
use Rattle.std.proofs.lemmas.Bool.{eqb-true, false_from_ne_true}
use Rattle.std.proofs.lemmas.Bool.Decides.{nat_tests}
use Rattle.v_flow.specs.Spans.{is_between}
use Rattle.v_paths.proofs.mask.has_first_word.Goals as goal

from-0 : (from to : ℕ) → from ≡ 0 → nat_lt 0 to ≡ is_between from to 0
from-0 from to h = subst (λ f. nat_lt 0 to ≡ is_between f to 0) (sym h) refl

above-0 : (from : ℕ) → ¬ (from ≡ 0) → nat_le from 0 ≡ false
above-0 from h = grind (arith, nat_tests, h)

after-0 : (from to : ℕ) → ¬ (from ≡ 0) → (from == 0) ≡ is_between from to 0
after-0 from to h = false_from_ne_true (from == 0) (λ t. h (eqb-true from 0 t)) ∙ ap (λ t. t && nat_lt 0 to) (sym (above-0 from h))

pub returns-then-span-eq0 : goal.returns-then-span-eq0
returns-then-span-eq0 c = from-0 c.args.span.from_word c.args.span.to_word c.if-span-eq0.true

pub returns-else-span-eq0 : goal.returns-else-span-eq0
returns-else-span-eq0 c = after-0 c.args.span.from_word c.args.span.to_word c.if-span-eq0.false
