use Rattle.v_syntax.specs.Tree.{tree_of}
use Rattle.v_value.specs.Scope.{scope_at}
use Rattle.v_lower.specs.Table.{images_at}
use Rattle.v_settle.proofs.Lowered.{asked, refused_same}
use Rattle.v_settle.proofs.reading.lowered.Goals as goal

pub lower-requires-clause-asked : goal.lower-requires-clause-asked
lower-requires-clause-asked c = asked (scope_at c.args.scope.now) (images_at c.args.table.now) c.args.terms.now (tree_of c.args.expression.now) c.args.width c.requires.known c.requires.sound c.requires.within c.requires.at_most_128

pub returns-in-Ok-clause-grows : goal.returns-in-Ok-clause-grows
returns-in-Ok-clause-grows c = c.in-Ok.ensures.1

pub returns-in-Ok-clause-lowered : goal.returns-in-Ok-clause-lowered
returns-in-Ok-clause-lowered c = c.in-Ok.ensures.2

pub returns-in-Err-clause-grows : goal.returns-in-Err-clause-grows
returns-in-Err-clause-grows c = refused_same (scope_at c.args.scope.now) (images_at c.args.table.now) c.args.terms.now c.lower.new.terms (tree_of c.args.expression.now) c.args.width c.args.signed _ c.in-Err.ensures
