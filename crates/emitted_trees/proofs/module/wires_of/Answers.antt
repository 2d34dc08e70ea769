use Rattle.std.proofs.Common.{subst, sym, codes, length}
use Rattle.emitted_names.specs.Named.{AreNumbered}
use Rattle.emitted_trees.proofs.module.wires_of.Goals as goal

pub returns-clause-named : goal.returns-clause-named
returns-clause-named c = subst (AreNumbered (codes "wb_t") (length c.args.model.now.parts.terms.nodes)) (sym c.as_slice.ensures.value) c.requires
