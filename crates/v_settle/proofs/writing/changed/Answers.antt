use Rattle.std.proofs.Common.{ap}
use Rattle.v_syntax.specs.Tree.{selects_of}
use Rattle.v_operators.proofs.Growing.{Grows-refl}
use Rattle.v_value.specs.Scope.{scope_at}
use Rattle.v_lower.specs.Table.{images_at}
use Rattle.v_settle.proofs.Placed.{net_all}
use Rattle.v_settle.proofs.writing.changed.Goals as goal

pub returns-in-Whole-clause-grows : goal.returns-in-Whole-clause-grows
returns-in-Whole-clause-grows c = Grows-refl c.args.terms.now

pub returns-in-Whole-clause-changed : goal.returns-in-Whole-clause-changed
returns-in-Whole-clause-changed c =
    net_all (scope_at c.args.scope.now) (images_at c.args.table.now) c.args.terms.now c.args.name.now (selects_of c.args.selects.now) c.args.number.0 c.requires.known
    c.requires.net (ap selects_of c.in-Whole.is) c.requires.number
