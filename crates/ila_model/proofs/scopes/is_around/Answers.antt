use Rattle.std.proofs.Common.{◌≡◌, ◌-◌, ◌+◌, refl, sym, ap, ◌∙◌}
use Rattle.ila_model.specs.Scope.{nesting, is_around, around, encloses}
use Rattle.ila_model.proofs.Levels.{encloses-top, encloses-here, encloses-turn, encloses-end}
use Rattle.ila_model.proofs.scopes.is_around.Goals as goal

pub loop-level-init : goal.loop-level-init
unfolding nesting
loop-level-init c = refl

pub returns-in-None : goal.returns-in-None
unfolding is_around
returns-in-None c =
    let l = 3 - c.loop-level._level in
    sym (c.loop-level.invariant ∙ ap (encloses c.args.children.now l c.args.child) c.in-None.is ∙ encloses-top c.args.children.now l c.args.child)

pub returns-in-Some : goal.returns-in-Some
unfolding is_around
returns-in-Some c =
    let l = 3 - c.loop-level._level in
    sym (c.loop-level.invariant ∙ ap (encloses c.args.children.now l c.args.child) c.in-Some.is ∙ encloses-here c.args.children.now c.loop-level._level c.args.child c.in-Some.place c.loop-level-test.true c.if-place-child.true)

pub loop-level-preserved : goal.loop-level-preserved
loop-level-preserved c =
    let l = 3 - c.loop-level._level in
    let same : c.in-Some-2.place ≡ c.in-Some.place = cc in
    let next = c.around-at.ensures ∙ ap (around c.args.children.now) same in
    c.loop-level.invariant ∙ ap (encloses c.args.children.now l c.args.child) c.in-Some.is
    ∙ encloses-turn c.args.children.now c.loop-level._level c.args.child c.in-Some.place c.loop-level-test.true c.if-place-child.false
    ∙ sym (ap (encloses c.args.children.now (3 - (c.loop-level._level + 1)) c.args.child) next)

pub returns : goal.returns
unfolding is_around
returns c =
    sym (c.loop-level.invariant ∙ encloses-end c.args.children.now c.loop-level._level c.args.child c.loop-level.at c.loop-level-test.false)
