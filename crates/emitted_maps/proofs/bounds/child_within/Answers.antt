use Rattle.std.proofs.Common.{subst}
use Rattle.std.specs.Slice.{IsItemAt}
use Rattle.emitted_maps.proofs.Children.{too_deep, nothing_within, child_found}
use Rattle.emitted_maps.proofs.bounds.child_within.Goals as goal

pub returns-then-levels-eq0 : goal.returns-then-levels-eq0
returns-then-levels-eq0 c = too_deep c.args.model.now.parts c.args.levels c.args.child c.if-levels-eq0.true

pub returns-in-Some : goal.returns-in-Some
returns-in-Some c =
    let p = c.args.model.now.parts in
    child_found p c.args.model.now.well_sorted c.args.levels c.args.child c.in-Some.id c.get.result c.in-Some.is c.if-levels-eq0.false
    (subst (λ cs. IsItemAt cs c.in-Some.id.0 c.get.result) c.deref.ensures.value c.get.ensures.lookup)

pub returns-in-None : goal.returns-in-None
returns-in-None c = nothing_within c.args.model.now.parts c.args.levels c.args.child c.in-None.is
