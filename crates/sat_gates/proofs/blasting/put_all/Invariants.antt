use Rattle.std.specs.Prelude.{nat_eq}
use Rattle.std.specs.HashMap.{get}
use Rattle.gate_base.specs.Circuit.{Grows}
use Rattle.sat_gates.specs.Layout.{variables_of}
use Rattle.sat_gates.specs.Cone.{places}
use Rattle.sat_gates.specs.Blasting.{HasBits}
use Rattle.sat_gates.proofs.Reached.{AreDone}
use Rattle.sat_gates.proofs.blasting.put_all.Given as goal

abbrev pub invariant-loop-place : goal.invariant-loop-place
invariant-loop-place l =
    Grows l.fn.circuit l.circuit
    × AreDone (HasBits l.terms l.fn.root.0 (variables_of l.terms.names l.map) l.circuit (get nat_eq l.bits)) (places l.ids) l.place
