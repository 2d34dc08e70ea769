use Rattle.v_registers.proofs.WordMasks.{all_masked}
use Rattle.v_registers.proofs.masks.masks_of.Goals as goal

pub returns-clause-bits : goal.returns-clause-bits
returns-clause-bits c = λ k b h.
    all_masked c.args.spans.now c.args.name.now c.args.count c.all_whole_bits-common.result c.in_ok-masks.masks.items c.deref_mut.result.now c.add_parts.new.masks
    c.in_ok-masks.masks.len c.in_ok-masks.ensures c.deref_mut.ensures.value c.in_ok-masks.masks.ok.0 c.add_parts.ensures.long c.all_whole_bits-common.ensures c.add_parts.ensures.bits
    k b h
