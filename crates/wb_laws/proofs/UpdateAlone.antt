-- An instruction without a child does what its updates say, and nothing else.
use Rattle.std.proofs.Common.{refl, ap, ◌∙◌}
use Rattle.model_meaning.specs.Model.{point_of, updated}
use Rattle.model_meaning.specs.Instruction.{own_states}
use Rattle.wb_laws.specs.Instructions.{InstructionWithoutChildIsItsUpdate}

pub update_alone : InstructionWithoutChildIsItsUpdate
update_alone m called decode update q w r =
    (λ h. h.2 ∙ ap (own_states m) h.1, λ e. (updated update (point_of m q w), refl, e))
