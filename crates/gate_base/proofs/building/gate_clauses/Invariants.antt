use Rattle.std.proofs.Common.{◌≡◌, ◌++◌, ◌+◌, drop}
use Rattle.gate_base.specs.Clauses.{clauses_from}
use Rattle.gate_base.proofs.building.gate_clauses.Given as goal

abbrev pub invariant-loop-gate : goal.invariant-loop-gate
invariant-loop-gate l = (l.var ≡ l.first + l.gate-index) × (l.clauses.items ++ clauses_from l.var (drop l.gate-index l.gates) ≡ clauses_from l.first l.gates)
