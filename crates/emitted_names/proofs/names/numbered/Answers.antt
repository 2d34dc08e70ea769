use Rattle.std.proofs.Common.{arith}
use Rattle.emitted_names.proofs.Numbering.{none_numbered, one_numbered, so_many}
use Rattle.emitted_names.proofs.names.numbered.Goals as goal

pub loop-number-init : goal.loop-number-init
loop-number-init c = none_numbered c.args.text.now _ c.new-names.ensures.items

pub loop-number-preserved : goal.loop-number-preserved
loop-number-preserved c =
    one_numbered c.args.text.now c.loop-number.number c.loop-number.names.items _ c.in_ok-name.name c.loop-number.invariant c.in_ok-name.ensures c.in_ok-push.ensures.items

pub returns : goal.returns
returns c = so_many c.args.text.now c.loop-number.number c.args.count c.loop-number.names.items (omega (arith, c.loop-number-test.false, c.loop-number.auto.number-end)) c.loop-number.invariant
