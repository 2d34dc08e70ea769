use Rattle.v_syntax.specs.Source.{source_of}
use Rattle.v_hier.proofs.undeclared.has_undeclared.Goals as goal

pub returns : goal.returns
returns c = c.in_ok-undeclared.ensures (source_of c.args.tree.now) c.in_ok-modules.ensures
