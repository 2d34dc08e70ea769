use Rattle.v_flow.specs.Spans.{bits_in}
use Rattle.v_masks.specs.Masks.{masked}
use Rattle.v_loops.proofs.Adding.{met-first}
use Rattle.v_loops.proofs.span.has_bits.Goals as goal

pub returns : goal.returns
returns c = met-first (bits_in c.args.spans.now) (masked c.in_ok-table.table) _ c.in_ok-table.ensures c.meets-some.ensures
