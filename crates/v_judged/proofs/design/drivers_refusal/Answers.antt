use Rattle.std.proofs.Common.{◌∙◌, sym, subst, [], ◌∷◌}
use Rattle.verilog_designs.specs.Accepted.{bad_driver}
use Rattle.v_judged.specs.First.{IsFirst, flat_kinds}
use Rattle.v_judged.proofs.First.{joined, kept, none_is}
use Rattle.v_judged.proofs.design.drivers_refusal.Goals as goal

pub returns-then-is_some : goal.returns-then-is_some
returns-then-is_some c = λ d h k. kept d (bad_driver ∷ []) flat_kinds c.in_ok-driver.driver (sym c.is_some.ensures ∙ c.if-is_some.true) (c.in_ok-driver.ensures d h)

pub returns : goal.returns
returns c = λ d h k.
    joined d (bad_driver ∷ []) flat_kinds c.in_ok-kind.kind
    (subst (IsFirst d (bad_driver ∷ [])) (none_is c.in_ok-driver.driver (sym c.is_some.ensures ∙ c.if-is_some.false)) (c.in_ok-driver.ensures d h))
    (c.in_ok-kind.ensures d h k)
