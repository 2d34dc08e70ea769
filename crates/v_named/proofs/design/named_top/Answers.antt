use Rattle.std.proofs.Common.{subst}
use Rattle.v_named.specs.Names.{IsNamesKind}
use Rattle.v_named.proofs.design.named_top.Goals as goal

pub returns-in-Some : goal.returns-in-Some
returns-in-Some c = λ d t e. subst (IsNamesKind d) c.in-Some.is (c.in_ok-kind.ensures d t e)

pub returns-in_ok-named-in-None : goal.returns-in_ok-named-in-None
returns-in_ok-named-in-None c = λ d t e. c.in_ok-named-in-None.ensures d t (subst (IsNamesKind d) c.in-None.is (c.in_ok-kind.ensures d t e))
