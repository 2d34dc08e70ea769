use Rattle.std.proofs.Common.{◌∙◌, sym}
use Rattle.gate_base.specs.Circuit.{size}
use Rattle.gate_base.proofs.Copying.{known_is_same}
use Rattle.gate_base.proofs.assuming.settled.Goals as goal

pub returns-in-Some : goal.returns-in-Some
returns-in-Some c d all worth known =
    known_is_same d all c.negated_if.result c.args.bit c.in-Literal.literal c.in-Some.truth (c.negated_if.ensures.known (size d) tt) c.negated_if.ensures.value c.in-Literal.is
    (worth c.in-Literal.literal.var c.in-Some.truth (sym c.known_truth.ensures ∙ c.in-Some.is))
