use Rattle.std.proofs.Common.{length, sym, ◌∙◌, arith, refl}
use Rattle.v_lex.proofs.Quotes.{nothing_said}
use Rattle.v_lex.proofs.Texts.{passed_on, not_passed, definition_ends, definition_empty}
use Rattle.v_lex.proofs.directive.behind_definition.Goals as goal

pub returns-in_default : goal.returns-in_default
returns-in_default c = definition_empty _ _ c.in_default.ensures.cases c.loop-first.invariant.0

pub returns-then-ends_definition : goal.returns-then-ends_definition
returns-then-ends_definition c =
    definition_ends _ _ _ _ c.in-Some.ensures.cases.0 c.loop-first.invariant.0 (sym c.ends_definition.ensures ∙ c.if-ends_definition.true)

pub loop-first-preserved : goal.loop-first-preserved
loop-first-preserved c = (
  passed_on _ _ _ _ _ c.in-Some.ensures.cases.0 c.loop-first.invariant.0 (sym c.ends_definition.ensures ∙ c.if-ends_definition.false) c.in-Some-behind_defined.ensures.rest,
  c.in-Some-behind_defined.ensures.alone,
)

pub returns-in-None : goal.returns-in-None
returns-in-None c =
    not_passed _ _ _ _ c.in-Some.ensures.cases.0 c.loop-first.invariant.0 (sym c.ends_definition.ensures ∙ c.if-ends_definition.false) c.in-None.ensures.rest

pub loop-first-init : goal.loop-first-init
loop-first-init c = (refl, nothing_said (length c.args.text.now) c.args.text.now (omega arith))
