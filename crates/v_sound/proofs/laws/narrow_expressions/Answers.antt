use Rattle.verilog_rules.specs.Expression.{anywhere}
use Rattle.v_size.proofs.Unbroken.{unbroken-holds}
use Rattle.v_sound.proofs.laws.narrow_expressions.Goals as goal

pub returns : goal.returns
returns c = λ s e objects h. (unbroken-holds s objects anywhere e h).1
