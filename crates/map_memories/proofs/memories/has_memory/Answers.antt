use Rattle.std.proofs.Common.{◌∙◌, sym, ap}
use Rattle.map_memories.specs.Memories.{has_shape}
use Rattle.map_memories.proofs.Told.{memory_told, then_both, else_both}
use Rattle.map_memories.proofs.memories.has_memory.Goals as goal

pub returns-then-has_shape : goal.returns-then-has_shape
returns-then-has_shape c = λ x h.
    let a = c.args.shape.address_width in
    let w = c.args.shape.width in
    memory_told x c.args.memories.now c.args.name.now a w h c.contains.result
    (then_both c.contains.result _ _ (sym (c.has_shape.ensures ∙ ap (has_shape a w) c.object.ensures) ∙ c.if-has_shape.true) c.contains.ensures)

pub returns-else-has_shape : goal.returns-else-has_shape
returns-else-has_shape c = λ x h.
    let a = c.args.shape.address_width in
    let w = c.args.shape.width in
    memory_told x c.args.memories.now c.args.name.now a w h c.has_shape.result
    (else_both c.has_shape.result _ _ (c.has_shape.ensures ∙ ap (has_shape a w) c.object.ensures) c.if-has_shape.false)
