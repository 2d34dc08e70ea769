use Rattle.std.proofs.Common.{◌≡◌, drop}
use Rattle.sat_solve.proofs.learning.back_up.Given as goal

abbrev pub invariant-loop : goal.invariant-loop
invariant-loop l = record { vars : l.trail.vars ≡ l.initial.trail.vars; entries : l.trail.entries ≡ drop l.counter l.initial.trail.entries }
