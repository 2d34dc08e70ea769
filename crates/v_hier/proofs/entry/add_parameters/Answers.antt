use Rattle.v_hier.proofs.Declared.{two-parts, all-parameters}
use Rattle.v_hier.proofs.entry.add_parameters.Goals as goal

pub returns : goal.returns
returns c =
    two-parts _ _ _ _ _ _ c.in_ok-add_declarations.ensures c.in_ok-add_bodies.ensures
    (all-parameters c.args.within.now.parameters.items c.deref.result.now c.args.within.now.items.items c.deref-2.result.now c.deref.ensures.value c.deref-2.ensures.value)
