use Rattle.std.proofs.Common.{◌∙◌, ap, sym, refl}
use Rattle.std.proofs.lemmas.Bool.{false≢true}
use Rattle.map_rules.specs.Case.{case_design}
use Rattle.map_rules.specs.Expressions.{is_reset}
use Rattle.map_reading.proofs.Flaws.{flaw_found, none_bad}
use Rattle.map_reading.proofs.expressions.bad_expression.Goals as goal

pub returns-in-Some-clause-told : goal.returns-in-Some-clause-told
returns-in-Some-clause-told c = λ k p h written stands. (
  (λ _. flaw_found k p c.args.expressions.now c.args.known.now h c.first_flaw.result c.in-Some.flaw c.in-Some.is c.flaws_are_bad_expressions.ensures c.first_flaw.ensures),
  (λ _. refl),
)

pub returns-then-reset-clause-told : goal.returns-then-reset-clause-told
returns-then-reset-clause-told c = λ k p h written stands.
    let clock = ap (λ w. w.clock) written ∙ sym c.as_str-clock.ensures.value in
    let signal = c.as_str-signal.ensures.value ∙ sym (ap (λ w. w.reset.signal) written) in
    let reset = c.in_ok-reset.ensures (case_design k) stands clock ∙ ap (is_reset (case_design k)) signal in (
      (λ t. absurd (false≢true t)),
      (λ bad.
          absurd
          (none_bad k p c.args.expressions.now c.args.known.now h c.first_flaw.result c.in_ok-reset.reset c.in_default.is c.flaws_are_bad_expressions.ensures
          c.first_flaw.ensures reset c.if-reset.true bad)),
    )
