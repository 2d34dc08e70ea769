use Rattle.std.proofs.Common.{arith}
use Rattle.v_standing.proofs.Numbered.{list_begun, list_on, list_ended}
use Rattle.v_standing.proofs.listed.listed.Goals as goal

pub loop-number-init : goal.loop-number-init
loop-number-init c = list_begun c.args.modules.now c.args.numbers.now c.new-list.result.items c.new-list.ensures.items

pub loop-number-preserved : goal.loop-number-preserved
loop-number-preserved c = λ h.
    list_on c.args.modules.now c.args.numbers.now c.loop-number.number-index c.get.result c.loop-number.list.items c.add.new.list.items (omega arith) c.get.ensures.lookup
    c.in_ok-add.ensures (c.loop-number.invariant h)

pub returns : goal.returns
returns c = λ h. list_ended c.args.modules.now c.args.numbers.now c.loop-number.number-index c.loop-number.list.items (omega arith) (c.loop-number.invariant h)
