-- Questions about circuits, in the words of reports.
use Rattle.std.proofs.Common.{ℕ, zero, suc, List}
use Rattle.sat_base.specs.declared.literals.Lit.{Lit}
use Rattle.sat_base.specs.Formula.{Formula}
use Rattle.gate_base.specs.Question as gates
use Rattle.reports.specs.Question.{GiveValue, AreCircuit, IsQuestion}

give_value : (v : ℕ) (clauses : List (List Lit)) → gates.GiveValue v clauses → GiveValue v clauses
give_value v clauses h = record { over = h.over; some = h.some; one = h.one }

pub are_circuit : (first count : ℕ) (clauses : List (List Lit)) → gates.AreCircuit first count clauses → AreCircuit first count clauses
are_circuit first zero clauses h = h
are_circuit first (suc count) clauses h = (h.0, h.1, h.2, give_value first h.0 h.3, are_circuit (suc first) count h.1 h.4)

abbrev pub question_of : (f : Formula) → gates.IsQuestion f → IsQuestion f
question_of f q = record {
  inputs = q.inputs;
  gates = q.gates;
  circuit = q.circuit;
  asked = q.asked;
  vars = q.vars;
  clauses = q.clauses;
  is_circuit = are_circuit q.inputs q.gates q.circuit q.is_circuit;
  one_clause = q.one_clause;
}
