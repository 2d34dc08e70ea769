use Rattle.gate_base.specs.Assumed.{IsCopying}
use Rattle.gate_base.proofs.assuming.copied.Given as goal

abbrev pub invariant-loop-place : goal.invariant-loop-place
invariant-loop-place l = IsCopying l.circuit l.wanted l.copier
