use Rattle.std.proofs.Common.{◌∙◌, rules, ap, cond, negsuc, pos}
use Rattle.std.specs.Prelude.{◌-ℤ◌}
use Rattle.verilog_designs.specs.Dependence.{natural_in}
use Rattle.v_depend.specs.Copying.{at_place}
use Rattle.v_depend.proofs.Placing.{moved-up, moved-down, moved-far, moved-out}
use Rattle.v_depend.proofs.part.placed.Goals as goal

pub returns-then-back-place : goal.returns-then-back-place
returns-then-back-place c = λ b l.
    moved-up c.args.value c.args.span.place.magnitude c.from-back.result c.raised.result b c.args.span.place.negative c.if-not-span.true c.if-back-place.true (c.raised.ensures b l)
    ∙ ap (λ k. at_place c.args.value (natural_in (pos b -ℤ (cond c.args.span.place.negative (negsuc c.args.span.place.magnitude) (pos c.args.span.place.magnitude) -ℤ pos k)))) c.from-back.ensures

pub returns-then-not-span : goal.returns-then-not-span
returns-then-not-span c = λ b l.
    moved-down c.args.value c.args.span.place.magnitude c.from-back.result c.lowered.result b c.args.span.place.negative c.if-not-span.true c.if-back-place.false (c.lowered.ensures b)
    ∙ ap (λ k. at_place c.args.value (natural_in (pos b -ℤ (cond c.args.span.place.negative (negsuc c.args.span.place.magnitude) (pos c.args.span.place.magnitude) -ℤ pos k)))) c.from-back.ensures

pub returns-then-place-ge128 : goal.returns-then-place-ge128
returns-then-place-ge128 c = λ b l.
    moved-out c.args.value c.args.span.place.magnitude c.args.span.back b c.args.span.place.negative c.if-not-span.false (search rules) c.if-place-ge128.true

pub returns : goal.returns
returns c = λ b l.
    moved-far c.args.value c.args.span.place.magnitude c.from-back.result c.lowered-2.result b c.args.span.place.negative c.if-not-span.false (c.lowered-2.ensures b)
    ∙ ap (λ k. at_place c.args.value (natural_in (pos b -ℤ (cond c.args.span.place.negative (negsuc c.args.span.place.magnitude) (pos c.args.span.place.magnitude) -ℤ pos k)))) c.from-back.ensures
