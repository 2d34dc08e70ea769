use Rattle.std.proofs.Common.{◌≡◌, ◌∙◌, Bool, true, false, sym, ap, refl}
use Rattle.gate_base.specs.Circuit.{bit_value, exactly_one}
use Rattle.gate_base.proofs.building.Builder.xor.Goals as goal

turned : (a b : Bool) → exactly_one b a ≡ exactly_one a b
turned true true = refl
turned true false = refl
turned false true = refl
turned false false = refl

pub returns-in-Constant-default-clause-bit : goal.returns-in-Constant-default-clause-bit
returns-in-Constant-default-clause-bit c = record {
  known = c.negated_if.ensures.known _ c.requires.y;
  value = λ w f. c.negated_if.ensures.value w ∙ ap (λ x. exactly_one (bit_value w x) (bit_value w c.args.y)) (sym c.in-Constant-default.is-0);
}

pub returns-in_default-Constant-clause-bit : goal.returns-in_default-Constant-clause-bit
returns-in_default-Constant-clause-bit c = record {
  known = c.negated_if-in_default-Constant.ensures.known _ c.requires.x;
  value = λ w f. c.negated_if-in_default-Constant.ensures.value w ∙ (turned (bit_value w c.args.x) c.in_default-Constant.value
      ∙ ap (λ y. exactly_one (bit_value w c.args.x) (bit_value w y)) (sym c.in_default-Constant.is-1));
}
