use Rattle.v_syntax.specs.Tree.{tree_of, target_of}
use Rattle.v_value.specs.Scope.{scope_at}
use Rattle.v_masks.specs.Masks.{masked}
use Rattle.v_depend.proofs.Walk.{assignment-rests}
use Rattle.v_depend.proofs.assignment.take.Goals as goal

pub returns : goal.returns
returns c = λ u there.
    assignment-rests (masked c.args.unsettled.now) _ (scope_at c.args.scope.now) (target_of c.args.target.now) (tree_of c.args.expression.now) c.in_ok-value.value
    c.new-changes.result.items c.add_changes.new.changes.items c.deref.result.now c.requires.target c.requires.at_most_128 c.in_ok-value.ensures c.new-changes.ensures.items
    c.in_ok-add_changes.ensures.changes c.deref.ensures.value c.in_ok-change_all.ensures u there
