-- The bounds so far, then those that are left.
use Rattle.std.proofs.Common.{◌≡◌, ◌++◌, map, drop}
use Rattle.mapped_designs.specs.declared.design.MappedInstruction.{MappedInstruction}
use Rattle.check_report.proofs.checking.bounds.Given as goal

abbrev pub invariant-loop-instruction : goal.invariant-loop-instruction
invariant-loop-instruction l =
    l.list.items ++ map (λ (i : MappedInstruction). i.bound) (drop l.instruction-index l.fn.mapped.instructions.items)
    ≡ map (λ (i : MappedInstruction). i.bound) l.fn.mapped.instructions.items
