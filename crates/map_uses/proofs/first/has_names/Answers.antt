use Rattle.std.proofs.Common.{arith, true≢false}
use Rattle.map_uses.proofs.Told.{got_item, no_names_at_first, no_names_passed, no_names_at_last}
use Rattle.map_uses.proofs.first.has_names.Goals as goal

pub loop-number-init : goal.loop-number-init
loop-number-init c = no_names_at_first c.args.expressions.now c.args.asked.now

pub returns-then-is_named : goal.returns-then-is_named
returns-then-is_named c = λ e. absurd (true≢false e)

pub loop-number-preserved : goal.loop-number-preserved
loop-number-preserved c =
    no_names_passed c.args.expressions.now c.args.asked.now c.loop-number.number c.index-expressions-number.result c.is_asked.result
    (got_item c.args.expressions.now c.loop-number.number c.index-expressions-number.result _ (omega arith) c.index-expressions-number.is) c.is_asked.ensures
    (c.is_named.ensures c.if-is_named.false) c.loop-number.invariant

pub returns : goal.returns
returns c = λ e. no_names_at_last c.args.expressions.now c.args.asked.now c.loop-number.number (omega (arith, c.loop-number-test.false)) c.loop-number.invariant
