use Rattle.std.proofs.Common.{ap}
use Rattle.verilog_trees.specs.Syntax.{always}
use Rattle.v_syntax.specs.Tree.{statement_of}
use Rattle.emitted_names.proofs.Turns.{ap2}
use Rattle.emitted_trees.proofs.clocked.always.Goals as goal

pub returns : goal.returns
returns c = ap2 always c.in_ok-events.ensures (ap statement_of c.in_ok-body.ensures.ok)
