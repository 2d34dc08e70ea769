use Rattle.gate_base.specs.Assumed.{AreFacts}
use Rattle.gate_base.proofs.assuming.facts_of.Given as goal

abbrev pub invariant-loop-done : goal.invariant-loop-done
invariant-loop-done l = AreFacts l.circuit l.fn.wanted l.facts.items
