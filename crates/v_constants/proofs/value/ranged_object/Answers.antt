use Rattle.std.proofs.Common.{ap, ◌∙◌}
use Rattle.verilog_meaning.specs.Expression.{no_values, value_of}
use Rattle.v_value.specs.Scope.{scope_at}
use Rattle.v_syntax.specs.Tree.{tree_of}
use Rattle.v_constants.proofs.Narrow.{most, both_most, own_within, ranged_so, ranged_made_narrow}
use Rattle.v_constants.proofs.value.ranged_object.Goals as goal

pub value_in_context-number-requires-clause-at_most_128 : goal.value_in_context-number-requires-clause-at_most_128
value_in_context-number-requires-clause-at_most_128 c =
    both_most _ _ _ c.max-context.ensures c.bits_of-width.ensures c.requires.fits (most (scope_at c.args.names.scope.now) (tree_of c.args.value.now) _ c.requires.narrow c.width_of.ensures)

pub value_in_context-number-requires-clause-within : goal.value_in_context-number-requires-clause-within
value_in_context-number-requires-clause-within c = own_within _ _ _ _ c.max-context.ensures c.width_of.ensures

pub returns-clause-value : goal.returns-clause-value
returns-clause-value c =
    c.numbered.ensures
    ∙ ranged_so (scope_at c.args.names.scope.now) (tree_of c.args.value.now) c.args.signed c.sign_of-own_sign.result c.args.left c.args.right c.width_of.result c.bits_of-width.result c.value_in_context-number.result c.lowest_bits.result.value
    c.bits_of-width.ensures c.width_of.ensures c.sign_of-own_sign.ensures
    (c.value_in_context-number.ensures.value ∙ ap (λ n. value_of (scope_at c.args.names.scope.now) no_values (tree_of c.args.value.now) n c.sign_of-own_sign.result) c.max-context.ensures)
    c.lowest_bits.ensures.value

pub returns-clause-narrow : goal.returns-clause-narrow
returns-clause-narrow c =
    ranged_made_narrow c.args.signed c.args.left c.args.right c.lowest_bits.result.value _ c.lowest_bits.result.width c.bits_of-width.result c.numbered.ensures c.requires.fits c.lowest_bits.ensures.width c.bits_of-width.ensures c.lowest_bits.result.fits
