use Rattle.std.proofs.Common.{◌∙◌, sym}
use Rattle.v_value.specs.Scope.{scope_at}
use Rattle.v_syntax.specs.Tree.{tree_of}
use Rattle.v_size.specs.Rule.{number_at}
use Rattle.v_size.proofs.Known as known
use Rattle.v_size.proofs.judged.is_zero.Goals as goal

pub value_in_context-requires-clause-narrow : goal.value_in_context-requires-clause-narrow
value_in_context-requires-clause-narrow c = known.divisor-narrow (scope_at c.args.names.scope.now) (tree_of c.args.constant.now) c.args.width c.args.signed c.args.judged c.requires c.args.names.narrow (sym c.is_unbroken.ensures ∙ c.if-not-is_unbroken.false)

pub value_in_context-requires-clause-within : goal.value_in_context-requires-clause-within
value_in_context-requires-clause-within c =
    known.divisor-within (scope_at c.args.names.scope.now) (tree_of c.args.constant.now) c.args.width c.args.signed c.args.judged c.requires c.args.names.narrow (sym c.is_unbroken.ensures ∙ c.if-not-is_unbroken.false) c.fits_context.result c.fits_context.ensures c.if-not-fits_context.false

pub value_in_context-requires-clause-at_most_128 : goal.value_in_context-requires-clause-at_most_128
value_in_context-requires-clause-at_most_128 c =
    known.divisor-most (scope_at c.args.names.scope.now) (tree_of c.args.constant.now) c.args.width c.args.signed c.args.judged c.requires c.args.names.narrow (sym c.is_unbroken.ensures ∙ c.if-not-is_unbroken.false) c.fits_context.result c.fits_context.ensures c.if-not-fits_context.false

pub returns-then-not-is_unbroken : goal.returns-then-not-is_unbroken
returns-then-not-is_unbroken c = known.divisor-broken (scope_at c.args.names.scope.now) (tree_of c.args.constant.now) c.args.width c.args.signed c.args.judged c.requires (sym c.is_unbroken.ensures ∙ c.if-not-is_unbroken.true)

pub returns-then-not-fits_context : goal.returns-then-not-fits_context
returns-then-not-fits_context c =
    known.divisor-unfit (scope_at c.args.names.scope.now) (tree_of c.args.constant.now) c.args.width c.args.signed c.args.judged c.requires c.args.names.narrow (sym c.is_unbroken.ensures ∙ c.if-not-is_unbroken.false) c.fits_context.result c.fits_context.ensures c.if-not-fits_context.true

pub returns : goal.returns
returns c =
    known.divisor-value (scope_at c.args.names.scope.now) (tree_of c.args.constant.now) c.args.width c.args.signed c.args.judged c.requires c.args.names.narrow (sym c.is_unbroken.ensures ∙ c.if-not-is_unbroken.false) c.fits_context.result c.fits_context.ensures c.if-not-fits_context.false c.value_in_context.result c.value_in_context.ensures.value
