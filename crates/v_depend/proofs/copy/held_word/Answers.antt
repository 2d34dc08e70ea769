use Rattle.v_value.specs.Scope.{object_of}
use Rattle.v_masks.specs.Masks.{masked}
use Rattle.v_depend.proofs.Copied.{of-name}
use Rattle.v_depend.proofs.copy.held_word.Goals as goal

pub returns-clause-bits : goal.returns-clause-bits
returns-clause-bits c =
    of-name (masked c.args.unsettled.now) (object_of c.args.object) c.args.name.now c.lowest_bits.result.value c.held_bits.result c.object_width.result
    c.object_width.ensures c.lowest_bits.ensures.value c.held_bits.ensures
