use Rattle.std.proofs.Common.{arith}
use Rattle.v_value.proofs.Numbers.{below_pow}
use Rattle.v_value.proofs.word.shifted.Goals as goal

pub new-places-requires-clause-fits : goal.new-places-requires-clause-fits
new-places-requires-clause-fits c = omega (arith, below_pow c.args.width)
