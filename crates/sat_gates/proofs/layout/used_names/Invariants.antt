use Rattle.sat_gates.specs.Cone.{places}
use Rattle.sat_gates.proofs.Using.{IsUsing}
use Rattle.sat_gates.proofs.layout.used_names.Given as goal

abbrev pub invariant-loop-place : goal.invariant-loop-place
invariant-loop-place l = IsUsing l.terms l.fn.root.0 (places l.ids) l.place l.used.keys
