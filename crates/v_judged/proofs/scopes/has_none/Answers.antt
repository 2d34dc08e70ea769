use Rattle.std.proofs.Common.{sym}
use Rattle.v_judged.proofs.Sharing.{none_named}
use Rattle.v_judged.proofs.scopes.has_none.Goals as goal

pub returns : goal.returns
returns c = λ t. none_named _ _ (sym c.declarations.ensures) t
