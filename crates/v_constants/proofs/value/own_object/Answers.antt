use Rattle.v_value.specs.Scope.{scope_at}
use Rattle.v_syntax.specs.Tree.{tree_of}
use Rattle.v_constants.proofs.Narrow.{most, own_made, own_made_narrow}
use Rattle.v_constants.proofs.value.own_object.Goals as goal

pub value_in_context-number-requires-clause-at_most_128 : goal.value_in_context-number-requires-clause-at_most_128
value_in_context-number-requires-clause-at_most_128 c = most (scope_at c.args.names.scope.now) (tree_of c.args.value.now) _ c.requires.narrow c.width_of-width.ensures

pub returns-clause-value : goal.returns-clause-value
returns-clause-value c =
    own_made (scope_at c.args.names.scope.now) (tree_of c.args.value.now) c.args.signed c.sign_of-own_sign.result c.either.result c.width_of-width.result c.saturating_sub.result c.value_in_context-number.result _
    c.numbered.ensures c.saturating_sub.ensures c.width_of-width.ensures c.either.ensures c.sign_of-own_sign.ensures c.value_in_context-number.ensures.value

pub returns-clause-narrow : goal.returns-clause-narrow
returns-clause-narrow c =
    own_made_narrow (scope_at c.args.names.scope.now) (tree_of c.args.value.now) c.args.signed c.sign_of-own_sign.result c.either.result c.width_of-width.result c.saturating_sub.result c.value_in_context-number.result _
    c.numbered.ensures c.saturating_sub.ensures c.width_of-width.ensures c.requires.narrow c.value_in_context-number.ensures.fits
