use Rattle.std.proofs.Common.{arith}
use Rattle.std.proofs.lemmas.List.{at_drop_all}
use Rattle.verilog_designs.specs.Reads.{but_not_in}
use Rattle.v_flow.specs.Spans.{bits_in}
use Rattle.v_flow.proofs.Sets.{end}
use Rattle.v_masks.specs.Masks.{masked}
use Rattle.v_paths.proofs.Tables.{not-spans, cut-turn}
use Rattle.v_paths.proofs.mask.add_left.Goals as goal

pub loop-span-preserved : goal.loop-span-preserved
loop-span-preserved c =
    let m = masked c.args.table.now in
    cut-turn (λ p. but_not_in p m) (λ p q. not-spans p q m) c.args.spans.now c.loop-span.span-index _ _ _ _ _ (omega arith) c.left.ensures c.in_ok-push.ensures.items c.loop-span.invariant

pub returns : goal.returns
returns c =
    end _ _ _ c.loop-span.invariant (at_drop_all (λ ys. but_not_in (bits_in ys) (masked c.args.table.now)) c.args.spans.now c.loop-span.span-index c.loop-span-test.false)
