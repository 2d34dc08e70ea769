use Rattle.std.proofs.Common.{◌∙◌, ap, sym, bit_and}
use Rattle.verilog_designs.specs.Reads.{and_in}
use Rattle.v_flow.specs.Spans.{bits_of, bits_in}
use Rattle.v_flow.proofs.Sets.{nothing}
use Rattle.v_masks.specs.Masks.{masked}
use Rattle.v_loops.proofs.Held.{none-held, some-held}
use Rattle.v_loops.proofs.span.add_held.Goals as goal

pub returns-then-bits-eq0 : goal.returns-then-bits-eq0
returns-then-bits-eq0 c =
    nothing (bits_in c.args.found.now.items) (and_in (bits_of c.args.span) (masked c.args.table.now))
    (none-held c.args.table.now c.args.span (ap (bit_and c.args.span.bits) (sym c.mask_under.ensures) ∙ c.if-bits-eq0.true))

pub returns : goal.returns
returns c =
    some-held c.args.table.now c.args.span c.with_bits.result c.with_bits.ensures.name c.with_bits.ensures.from c.with_bits.ensures.to
    (c.with_bits.ensures.bits ∙ ap (bit_and c.args.span.bits) c.mask_under.ensures) c.args.found.now.items _ c.in_ok-push.ensures.items
