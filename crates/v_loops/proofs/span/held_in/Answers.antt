use Rattle.std.proofs.Common.{ap, sym, arith}
use Rattle.std.proofs.lemmas.List.{at_drop_all}
use Rattle.verilog_designs.specs.Reads.{or_in, and_in}
use Rattle.v_flow.specs.Spans.{bits_in}
use Rattle.v_flow.proofs.Sets.{end}
use Rattle.v_masks.specs.Masks.{masked}
use Rattle.v_loops.proofs.Held.{held-turn}
use Rattle.v_loops.proofs.span.held_in.Goals as goal

pub loop-span-init : goal.loop-span-init
loop-span-init c = ap (λ ys. or_in (bits_in ys) (and_in (bits_in c.args.spans.now) (masked c.args.table.now))) (sym c.new-found.ensures.items)

pub loop-span-preserved : goal.loop-span-preserved
loop-span-preserved c =
    held-turn c.args.spans.now c.loop-span.span-index _ (masked c.args.table.now) _ _ _ (omega arith) c.in_ok-add_held.ensures c.loop-span.invariant

pub returns : goal.returns
returns c =
    end _ _ _ c.loop-span.invariant (at_drop_all (λ ys. and_in (bits_in ys) (masked c.args.table.now)) c.args.spans.now c.loop-span.span-index c.loop-span-test.false)
