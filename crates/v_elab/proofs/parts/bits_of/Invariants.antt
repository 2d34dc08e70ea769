use Rattle.std.proofs.Common.{◌≡◌, map, take}
use Rattle.v_value.specs.Scope.{scope_at}
use Rattle.v_design.specs.Bits.{counted_bits}
use Rattle.v_registers.specs.Registers.{counted_of}
use Rattle.v_elab.specs.Elaborated.{bits_of}
use Rattle.v_elab.proofs.parts.bits_of.Given as goal

abbrev pub invariant-loop-register : goal.invariant-loop-register
invariant-loop-register l = map counted_bits l.found.items ≡ map (bits_of (scope_at l.scope)) (map counted_of (take l.register-index l.registers))
