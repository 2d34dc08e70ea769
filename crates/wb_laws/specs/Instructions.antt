-- What an instruction without a child program does.
use Rattle.std.specs.Prelude.{◌≡◌, ◌↔◌}
use Rattle.wb_values.specs.Value.{Name, Valuation, Entries}
use Rattle.model_meaning.specs.Term.{Term}
use Rattle.model_meaning.specs.Model.{Model, instruction, no_child, point_of, updated}
use Rattle.model_meaning.specs.Instruction.{Does, own_states}

-- An instruction without a child leads from q under w to one state and no other: the model's states as its updates give them,
-- all of which read q and w.
abbrev pub InstructionWithoutChildIsItsUpdate : Type 0
InstructionWithoutChildIsItsUpdate =
    (m : Model) (called : Name) (decode : Term) (update : Entries Term) (q w r : Valuation)
    → Does m (instruction called decode update no_child) q w r ↔ (r ≡ own_states m (updated update (point_of m q w)))
