use Rattle.std.proofs.Common.{arith}
use Rattle.map_uses.proofs.Told.{got_item, user_found, user_passed, none_at_first, none_at_last}
use Rattle.map_uses.proofs.asking.first_using.Goals as goal

pub loop-number-init : goal.loop-number-init
loop-number-init c = λ d t k. none_at_first d c.args.expressions.now c.args.asked.now

pub is_user-requires-clause-objects : goal.is_user-requires-clause-objects
is_user-requires-clause-objects c = c.requires.objects

pub is_user-requires-clause-narrow : goal.is_user-requires-clause-narrow
is_user-requires-clause-narrow c =
    c.requires.narrow c.loop-number.number c.index-expressions-number.result
    (got_item c.args.expressions.now c.loop-number.number c.index-expressions-number.result _ (omega arith) c.index-expressions-number.is)

pub returns-then-used : goal.returns-then-used
returns-then-used c = λ d t k.
    let at = got_item c.args.expressions.now c.loop-number.number c.index-expressions-number.result _ (omega arith) c.index-expressions-number.is in
    user_found d c.args.expressions.now c.args.asked.now c.loop-number.number c.index-expressions-number.result c.is_asked.result c.in_ok-used.used at c.is_asked.ensures
    (c.in_ok-used.ensures d t (k c.loop-number.number c.index-expressions-number.result at)) (c.loop-number.invariant d t k) c.if-used.true

pub loop-number-preserved : goal.loop-number-preserved
loop-number-preserved c = λ d t k.
    let at = got_item c.args.expressions.now c.loop-number.number c.index-expressions-number.result _ (omega arith) c.index-expressions-number.is in
    user_passed d c.args.expressions.now c.args.asked.now c.loop-number.number c.index-expressions-number.result c.is_asked.result c.in_ok-used.used at c.is_asked.ensures
    (c.in_ok-used.ensures d t (k c.loop-number.number c.index-expressions-number.result at)) (c.loop-number.invariant d t k) c.if-used.false

pub returns : goal.returns
returns c = λ d t k.
    none_at_last d c.args.expressions.now c.args.asked.now c.loop-number.number (omega (arith, c.loop-number-test.false)) (c.loop-number.invariant d t k)
