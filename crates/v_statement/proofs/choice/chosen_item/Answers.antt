use Rattle.std.proofs.Common.{arith}
use Rattle.v_value.specs.Scope.{scope_at, valuation_at}
use Rattle.v_syntax.specs.Tree.{tree_of, case_kind_of}
use Rattle.v_value.proofs.Narrows.{narrow_width}
use Rattle.v_statement.proofs.Choices.{items-fit, if_below}
use Rattle.v_statement.proofs.choice.chosen_item.Goals as goal

pub value_of-value-requires-clause-at_most_128 : goal.value_of-value-requires-clause-at_most_128
value_of-value-requires-clause-at_most_128 c =
    let s = scope_at c.args.scope.now in
    omega (
      arith,
      (narrow_width s (tree_of c.args.expression.now) c.requires.narrow).1,
      items-fit s c.args.items.now c.requires.values_narrow,
      c.width_of.ensures,
      c.items_width-width.ensures,
    )

pub matching-requires-clause-at_most_128 : goal.matching-requires-clause-at_most_128
matching-requires-clause-at_most_128 c =
    let s = scope_at c.args.scope.now in
    omega (
      arith,
      (narrow_width s (tree_of c.args.expression.now) c.requires.narrow).1,
      items-fit s c.args.items.now c.requires.values_narrow,
      c.width_of.ensures,
      c.items_width-width.ensures,
    )

pub returns-clause-below : goal.returns-clause-below
returns-clause-below c =
    if_below (scope_at c.args.scope.now) (valuation_at c.args.values.now) (case_kind_of c.args.kind) c.items_width-width.result c.if-sign_of.signed
    c.value_of-value.result c.args.items.now c.matching.result c.matching.ensures
