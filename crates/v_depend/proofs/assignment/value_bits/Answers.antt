use Rattle.v_syntax.specs.Tree.{tree_of}
use Rattle.v_value.specs.Scope.{scope_at}
use Rattle.v_masks.specs.Masks.{masked}
use Rattle.v_depend.proofs.Lefts.{plain-rests, other-rests}
use Rattle.v_depend.proofs.assignment.value_bits.Goals as goal

pub returns-then-is_plain : goal.returns-then-is_plain
returns-then-is_plain c = λ j l.
    plain-rests (masked c.args.unsettled.now) (scope_at c.args.scope.now) (tree_of c.args.expression.now) j _ c.is_plain.result c.is_plain.ensures c.if-is_plain.true
    (c.copied_bits.ensures j l)

pub returns : goal.returns
returns c = λ j l.
    other-rests (masked c.args.unsettled.now) (scope_at c.args.scope.now) (tree_of c.args.expression.now) j _ c.in_ok-rests.rests c.is_plain.result c.is_plain.ensures
    c.if-is_plain.false (c.all_or_none.ensures j l) c.in_ok-rests.ensures
