use Rattle.std.proofs.Common.{◌∙◌, max, ap, arith}
use Rattle.verilog_meaning.specs.Statement.{items_width}
use Rattle.v_syntax.specs.Tree.{tree_of}
use Rattle.v_value.specs.Scope.{scope_at}
use Rattle.v_value.proofs.Narrows.{narrow_width}
use Rattle.v_write.specs.Sound.{item_list}
use Rattle.v_write.proofs.Values.{items_fit}
use Rattle.v_write.proofs.choosing.case_width.Goals as goal

pub returns-clause-width : goal.returns-clause-width
returns-clause-width c = c.items_width.ensures ∙ ap (λ k. max k (items_width (scope_at c.args.scope.now) (item_list c.args.items.now))) c.width_of.ensures

pub returns-clause-at_most_128 : goal.returns-clause-at_most_128
returns-clause-at_most_128 c =
    omega (
      arith,
      (narrow_width (scope_at c.args.scope.now) (tree_of c.args.expression.now) c.requires.narrow).1,
      items_fit (scope_at c.args.scope.now) c.args.items.now c.requires.values_narrow,
      c.width_of.ensures,
      c.items_width.ensures,
    )
