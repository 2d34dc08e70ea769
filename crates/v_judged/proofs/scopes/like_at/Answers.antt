use Rattle.std.proofs.Common.{arith}
use Rattle.v_judged.specs.Spots.{spot_in}
use Rattle.v_judged.proofs.Loops.{got}
use Rattle.v_judged.proofs.scopes.like_at.Goals as goal

pub returns-then-is_like : goal.returns-then-is_like
returns-then-is_like c =
    record {
      other = spot_in c.index-scopes-number.result;
      is_other = got spot_in c.args.scopes.now c.args.number c.index-scopes-number.result _ (omega (arith, c.if-number-scopes.true)) c.index-scopes-number.is;
      alike = c.is_like.ensures c.if-is_like.true;
    }
