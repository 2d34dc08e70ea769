use Rattle.std.proofs.Common.{◌∙◌, ap, sym, arith}
use Rattle.std.proofs.lemmas.List.{at_drop_all}
use Rattle.verilog_designs.specs.Reads.{BitSet, or_in, but_not_in}
use Rattle.v_flow.specs.Spans.{bits_in}
use Rattle.v_flow.proofs.Sets.{end}
use Rattle.v_masks.specs.Masks.{masked, spread}
use Rattle.v_paths.proofs.Tables.{not-spans, cut-turn}
use Rattle.v_paths.proofs.latch.all_latched.Goals as goal

pub loop-span-init : goal.loop-span-init
loop-span-init c =
    ap (λ ys. or_in (bits_in ys) (but_not_in (bits_in c.args.assigned.now) (but_not_in (masked c.in_ok-own.own) (masked c.in_ok-read.read)))) (sym c.new-found.ensures.items)

pub loop-span-preserved : goal.loop-span-preserved
loop-span-preserved c =
    let m = but_not_in (masked c.in_ok-own.own) (masked c.in_ok-read.read) in
    cut-turn (λ p. but_not_in p m) (λ p q. not-spans p q m) c.args.assigned.now c.loop-span.span-index _ _ _ _ _ (omega arith) c.latched.ensures c.in_ok-push.ensures.items c.loop-span.invariant

pub returns : goal.returns
returns c =
    let m = but_not_in (masked c.in_ok-own.own) (masked c.in_ok-read.read) in
    end _ _ _ c.loop-span.invariant (at_drop_all (λ ys. but_not_in (bits_in ys) m) c.args.assigned.now c.loop-span.span-index c.loop-span-test.false)
    ∙ ap (λ (z : BitSet). but_not_in (bits_in c.args.assigned.now) (but_not_in z (masked c.in_ok-read.read))) c.in_ok-own.ensures
    ∙ ap (λ (z : BitSet). but_not_in (bits_in c.args.assigned.now) (but_not_in (spread (bits_in c.args.sure.now)) z)) c.in_ok-read.ensures
