use Rattle.std.proofs.Common.{◌≡◌, ◌++◌, map, take}
use Rattle.v_registers.specs.Registers.{counted_of}
use Rattle.v_elab.specs.Elaborated.{register_names}
use Rattle.v_elab.proofs.naming.add_registers.Given as goal

abbrev pub invariant-loop-register : goal.invariant-loop-register
invariant-loop-register l =
    map (λ n. n.now) l.order.items ≡ map (λ n. n.now) l.initial.order.items ++ register_names (map counted_of (take l.register-index l.registers))
