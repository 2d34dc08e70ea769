use Rattle.std.proofs.Common.{refl}
use Rattle.v_judged.specs.Spots.{spot_in}
use Rattle.v_judged.proofs.Sharing.{own_is}
use Rattle.v_judged.proofs.scopes.scope_with.Goals as goal

pub returns : goal.returns
returns c = λ w y n o.
    own_is spot_in c.args.scopes.now c.args.numbers.now c.args.number _ _ refl w y n o c.index-scopes-numbers.result _ c.index-scopes-numbers.is
