use Rattle.std.proofs.Common.{◌∙◌, ap}
use Rattle.verilog_designs.specs.Reads.{BitSet, or_in}
use Rattle.v_flow.specs.Spans.{bits_in}
use Rattle.v_masks.specs.Masks.{spread}
use Rattle.v_paths.proofs.Tables.{none-masked}
use Rattle.v_paths.proofs.mask.masks_of.Goals as goal

pub returns : goal.returns
returns c = c.in_ok-add_spans.ensures ∙ ap (λ (z : BitSet). or_in z (spread (bits_in c.args.spans.now))) (none-masked c.new-table.result c.new-table.ensures.empty)
