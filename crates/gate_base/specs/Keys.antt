-- What a key of a gate stands for.
use Rattle.sat_base.specs.declared.literals.Lit.{Lit}
use Rattle.gate_base.specs.declared.bits.Gate.{Gate}
use Rattle.gate_base.specs.declared.bits.Gate.TheVariants as gate
use Rattle.gate_base.specs.declared.keys.Operand.{Operand}
use Rattle.gate_base.specs.declared.keys.GateKey.{GateKey}
use Rattle.gate_base.specs.declared.keys.GateKey.TheVariants.{And, Xor, Ite}

-- the literal
abbrev pub literal_of : Operand → Lit
literal_of o = record { var = o.var; negative = o.negative }

-- the gate
abbrev pub gate_of : GateKey → Gate
gate_of (And x y) = gate.And (literal_of x) (literal_of y)
gate_of (Xor x y) = gate.Xor (literal_of x) (literal_of y)
gate_of (Ite c x y) = gate.Ite (literal_of c) (literal_of x) (literal_of y)
