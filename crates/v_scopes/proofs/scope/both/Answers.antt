use Rattle.std.proofs.Common.{refl}
use Rattle.v_scopes.proofs.Joined.{both_so}
use Rattle.v_scopes.proofs.scope.both.Goals as goal

pub returns : goal.returns
returns c = both_so c.args.first c.args.later _ _ _ _ _ _ c.or.ensures c.or-2.ensures c.either.ensures c.first_bounds.ensures c.first_bounds-2.ensures refl
