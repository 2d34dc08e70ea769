use Rattle.std.proofs.Common.{refl}
use Rattle.gate_base.proofs.Copying.{bit_agrees}
use Rattle.gate_base.proofs.assuming.unchanged.Goals as goal

pub returns : goal.returns
returns c = record {
  inputs = refl;
  known = c.requires;
  determined = c.is_determined.ensures.determined;
  value = λ w u j. bit_agrees c.args.circuit w u c.args.wanted c.is_determined.ensures.ordered j c.requires;
}
