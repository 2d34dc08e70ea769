use Rattle.std.proofs.Common.{◌≡◌, ◌-◌, ◌+◌, Some, refl, sym, ap, ◌∙◌}
use Rattle.ila_model.specs.Scope.{nesting, is_child_nested, around, is_nested}
use Rattle.ila_model.proofs.Levels.{is_nested-top, is_nested-turn, is_nested-end, not_some}
use Rattle.ila_model.proofs.scopes.is_child_nested.Goals as goal

pub loop-level-init : goal.loop-level-init
unfolding nesting
loop-level-init c = refl

pub returns-in-None : goal.returns-in-None
unfolding is_child_nested
returns-in-None c =
    let l = 3 - c.loop-level._level in
    sym (c.loop-level.invariant ∙ ap (is_nested c.args.children.now l) c.in-None.is ∙ is_nested-top c.args.children.now l)

pub loop-level-preserved : goal.loop-level-preserved
loop-level-preserved c =
    let l = 3 - c.loop-level._level in
    c.loop-level.invariant ∙ ap (is_nested c.args.children.now l) c.in-Some.is
    ∙ is_nested-turn c.args.children.now c.loop-level._level c.in-Some.inner c.loop-level-test.true
    ∙ sym (ap (is_nested c.args.children.now (3 - (c.loop-level._level + 1))) c.around-at.ensures)

pub returns : goal.returns
unfolding is_child_nested
returns c =
    not_some c.loop-level.at c.is_none.result c.is_none.ensures
    ∙ sym (c.loop-level.invariant ∙ is_nested-end c.args.children.now c.loop-level._level c.loop-level.at c.loop-level-test.false)
