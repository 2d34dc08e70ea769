use Rattle.std.proofs.Common.{◌≡◌, Some, map, take, drop}
use Rattle.v_lower.specs.Table.{images_at}
use Rattle.v_registers.specs.Registers.{counted_of}
use Rattle.v_elab.specs.Elaborated.{register_names}
use Rattle.v_elab.specs.Names.{HaveTerms}
use Rattle.v_elab.proofs.parts.next_of.Given as goal

abbrev pub invariant-loop-register : goal.invariant-loop-register
invariant-loop-register l = record {
  terms : map (λ id. Some id.0) l.found.items ≡ map (images_at l.table) (register_names (map counted_of (take l.register-index l.registers)));
  rest : HaveTerms (images_at l.table) (register_names (map counted_of (drop l.register-index l.registers)));
}
