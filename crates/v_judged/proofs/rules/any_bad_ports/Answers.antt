use Rattle.std.proofs.Common.{arith}
use Rattle.v_judged.specs.Rules.{has_bad_ports}
use Rattle.v_judged.specs.Spots.{spot_in}
use Rattle.v_judged.proofs.Loops.{one_passes, one_fails, none_passes}
use Rattle.v_judged.proofs.rules.any_bad_ports.Goals as goal

pub loop-one-preserved : goal.loop-one-preserved
loop-one-preserved c = λ source i.
    one_fails spot_in c.args.scopes.now c.loop-one.one-index (has_bad_ports source) _ (c.loop-one.invariant source i)
    c.one-item.result _ _ (omega arith) c.one-item.is (c.in_ok-has_bad_ports.ensures source i) c.if-branch.false

pub returns-then-branch : goal.returns-then-branch
returns-then-branch c = λ source i.
    one_passes spot_in c.args.scopes.now c.loop-one.one-index (has_bad_ports source) _ (c.loop-one.invariant source i)
    c.one-item.result _ _ (omega arith) c.one-item.is (c.in_ok-has_bad_ports.ensures source i) c.if-branch.true

pub returns : goal.returns
returns c = λ source i.
    none_passes spot_in c.args.scopes.now c.loop-one.one-index (has_bad_ports source) _ (c.loop-one.invariant source i) c.loop-one-test.false
