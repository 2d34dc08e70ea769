use Rattle.std.proofs.Common.{arith}
use Rattle.v_judged.specs.Rules.{all_rules}
use Rattle.v_judged.specs.Spots.{spot_in, spots_in}
use Rattle.v_judged.proofs.Loops.{gathered, all_gathered}
use Rattle.v_judged.proofs.rules.all_rules.Goals as goal

pub loop-one-preserved : goal.loop-one-preserved
loop-one-preserved c = λ source i.
    gathered spot_in c.args.scopes.now c.loop-one.one-index source (all_rules source (spots_in c.args.scopes.now)) c.loop-one.found (c.loop-one.invariant source i)
    c.one-item.result _ c.in_ok-broken.broken c.also-found.result (omega arith) c.one-item.is (c.in_ok-broken.ensures source i) c.also-found.ensures

pub returns : goal.returns
returns c = λ source i.
    all_gathered spot_in c.args.scopes.now c.loop-one.one-index source (all_rules source (spots_in c.args.scopes.now)) c.loop-one.found (c.loop-one.invariant source i)
    c.loop-one-test.false
