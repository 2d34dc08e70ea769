use Rattle.std.proofs.Common.{◌≡◌, ◌∙◌, Bool, true, false, not, ◌&&◌, ◌||◌, ap, refl}
use Rattle.gate_base.specs.Circuit.{bit_value}
use Rattle.gate_base.proofs.building.Builder.or.Goals as goal

neither : (x y : Bool) → not (not x && not y) ≡ (x || y)
neither true y = refl
neither false true = refl
neither false false = refl

pub and-requires-clause-x : goal.and-requires-clause-x
and-requires-clause-x c = c.negated.ensures.known _ c.requires.x

pub and-requires-clause-y : goal.and-requires-clause-y
and-requires-clause-y c = c.negated-2.ensures.known _ c.requires.y

pub returns-clause-bit : goal.returns-clause-bit
returns-clause-bit c = record {
  known = c.negated-3.ensures.known _ c.in_ok-neither.ensures.bit.known;
  value = λ w f. c.negated-3.ensures.value w ∙ (ap not (c.in_ok-neither.ensures.bit.value w f)
      ∙ (ap (λ t. not (t && bit_value w c.negated-2.result)) (c.negated.ensures.value w)
      ∙ (ap (λ t. not (not (bit_value w c.args.x) && t)) (c.negated-2.ensures.value w) ∙ neither (bit_value w c.args.x) (bit_value w c.args.y))));
}
