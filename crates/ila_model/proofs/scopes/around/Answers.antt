use Rattle.std.proofs.Common.{◌∙◌, sym}
use Rattle.ila_model.proofs.Declarations.{around-there, around-past}
use Rattle.ila_model.proofs.scopes.around.Goals as goal

pub returns-then-place-children : goal.returns-then-place-children
returns-then-place-children c =
    c.place_of.ensures
    ∙ sym (around-there c.args.children.now c.args.place c.index-children-place.result c.if-place-children.true)

pub returns-else-place-children : goal.returns-else-place-children
returns-else-place-children c = sym (around-past c.args.children.now c.args.place c.if-place-children.false)
