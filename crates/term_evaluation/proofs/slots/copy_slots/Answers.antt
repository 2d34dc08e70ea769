use Rattle.std.proofs.Common.{arith}
use Rattle.term_evaluation.proofs.SlotLemmas.{keeps_then, slots-read, copy_more, copy_done}
use Rattle.term_evaluation.proofs.slots.copy_slots.Goals as goal

pub copy_slot-requires-clause-slot : goal.copy_slot-requires-clause-slot
copy_slot-requires-clause-slot c =
    slots-read c.args.from.now c.args.slots.now.items c.loop-k.k c.index-here.result.now c.requires.slots (omega (arith, c.loop-k-test.true, c.len-k-end.ensures, c.args.slots.now.ok.0)) c.index-here.ensures

pub loop-k-preserved : goal.loop-k-preserved
loop-k-preserved c =
    let more = copy_more c.args.from.now c.loop-k.to c.copy_slot.new.to c.args.slots.now.items c.loop-k.copied.items c.push.new.self.items c.loop-k.k c.index-here.result.now c.in_ok-slot.slot
    (omega (arith, c.loop-k-test.true, c.len-k-end.ensures, c.args.slots.now.ok.0)) c.index-here.ensures c.in_ok-slot.ensures.keeps c.loop-k.invariant.slots c.in_ok-slot.ensures.slot c.in_ok-slot.ensures.value c.loop-k.invariant.values c.in_ok-push.ensures.items in
    record {
      slots = more.0;
      values = more.1;
      keeps = keeps_then c.args.to.now c.loop-k.to c.copy_slot.new.to c.loop-k.invariant.keeps c.in_ok-slot.ensures.keeps;
      copies = c.in_ok-slot.ensures.copies;
    }

pub returns-in_err-slot-clause-keeps : goal.returns-in_err-slot-clause-keeps
returns-in_err-slot-clause-keeps c = keeps_then c.args.to.now c.loop-k.to c.copy_slot.new.to c.loop-k.invariant.keeps c.in_err-slot.ensures.keeps

pub returns-in_err-push-clause-keeps : goal.returns-in_err-push-clause-keeps
returns-in_err-push-clause-keeps c = keeps_then c.args.to.now c.loop-k.to c.copy_slot.new.to c.loop-k.invariant.keeps c.in_ok-slot.ensures.keeps

pub returns-clause-values : goal.returns-clause-values
returns-clause-values c = copy_done c.args.from.now c.args.slots.now.items _ c.loop-k.k (omega (arith, c.loop-k-test.false, c.len-k-end.ensures, c.args.slots.now.ok.0)) c.loop-k.invariant.values
