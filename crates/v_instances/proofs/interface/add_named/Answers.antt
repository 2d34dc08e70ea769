use Rattle.std.proofs.Common.{arith}
use Rattle.v_syntax.specs.Source.{direction_of}
use Rattle.v_instances.specs.Interface.{direction_in}
use Rattle.v_instances.proofs.Names.{named_turn}
use Rattle.v_instances.proofs.interface.add_named.Goals as goal

pub loop-name-preserved : goal.loop-name-preserved
loop-name-preserved c = λ q.
    named_turn c.args.names.now c.loop-name.name-index _ (direction_of c.args.direction) q (direction_in c.loop-name.directions q) (direction_in c.add_first.new.directions q) _ (omega arith)
    (c.in_ok-add_first.ensures q) (c.loop-name.invariant q)
