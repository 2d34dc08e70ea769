use Rattle.v_ports.proofs.Names.{kept_so}
use Rattle.v_ports.proofs.ranges.keep.Goals as goal

pub returns-in_ok-insert-in-Known : goal.returns-in_ok-insert-in-Known
returns-in_ok-insert-in-Known c = λ n.
    kept_so c.args.first.now c.insert.new.self c.args.name c.args.before c.args.range c.in-Known.left c.in-Known.right c.in-None.is c.in-Known.is c.in_ok-insert-in-Known.ensures.updates n
