use Rattle.std.proofs.Common.{◌+◌, ◌<◌, ◌∷◌, arith, drop, subst, sym, ap, length, get_or, List, ℕ}
use Rattle.std.proofs.lemmas.List.{at_drop_all}
use Rattle.v_value.specs.Scope.{scope_at}
use Rattle.v_statement.proofs.Runs.{rest_is}
use Rattle.v_masks.specs.Masks.{masked}
use Rattle.v_order.specs.Lists.{statement_in, statements_in}
use Rattle.v_loops.proofs.Sharing.{fit-turn}
use Rattle.v_reach.proofs.Spreading.{none-spread, spread-then, visited-spread, grown-begun, grown-turn, grown-end, among-left, IsGrownSoFar}
use Rattle.v_reach.proofs.turn.turn.Goals as goal

pub loop-driver-init : goal.loop-driver-init
loop-driver-init c =
    let s = scope_at c.args.scope.now in
    let xs = statements_in c.args.drivers.now in
    record { spread = none-spread s xs (masked c.args.marked.now); grown = grown-begun s xs (masked c.args.marked.now); fit = c.requires.fit }

pub visit-requires-clause-fit : goal.visit-requires-clause-fit
visit-requires-clause-fit c =
    let ds = c.args.drivers.now in
    let i = c.loop-driver.driver-index in
    let r = c.driver-item.result in
    (fit-turn (scope_at c.args.scope.now) ds i r (rest_is ds i r (omega arith) c.driver-item.is) c.loop-driver.invariant.fit).0

pub visit-requires-clause-variables : goal.visit-requires-clause-variables
visit-requires-clause-variables c = c.loop-driver.invariant.spread.free c.requires.variables

pub loop-driver-preserved : goal.loop-driver-preserved
loop-driver-preserved c =
    let s = scope_at c.args.scope.now in
    let ds = c.args.drivers.now in
    let xs = statements_in ds in
    let i = c.loop-driver.driver-index in
    let r = c.driver-item.result in
    let e = rest_is ds i r (omega arith) c.driver-item.is in
    let before = masked c.args.marked.now in
    let now = masked c.loop-driver.marked in
    let after = masked c.visit.new.marked in
    let among = among-left ds i r (drop (i + 1) ds) e in
    record {
      spread = spread-then s xs before now after c.loop-driver.invariant.spread
          (visited-spread c.rests_where_it_depends.ensures s xs (statement_in r) among c.in_ok-more.more now after c.in_ok-more.ensures);
      grown = subst (λ b. IsGrownSoFar b s xs (statements_in (drop (i + 1) ds)) before after) (sym c.either-any.ensures)
          (grown-turn c.loop-driver.some c.in_ok-more.more s xs (statements_in (drop (i + 1) ds)) (statement_in r) among before now after c.in_ok-more.ensures.more
          (subst (λ ys. IsGrownSoFar c.loop-driver.some s xs (statements_in ys) before now) e c.loop-driver.invariant.grown) c.in_ok-more.ensures.grown);
      fit = (fit-turn s ds i r e c.loop-driver.invariant.fit).1;
    }

pub returns : goal.returns
returns c =
    let s = scope_at c.args.scope.now in
    let ds = c.args.drivers.now in
    let i = c.loop-driver.driver-index in
    record {
      spread = c.loop-driver.invariant.spread;
      grown = grown-end c.loop-driver.some s (statements_in ds) (statements_in (drop i ds)) (masked c.args.marked.now) (masked c.loop-driver.marked)
          (at_drop_all statements_in ds i c.loop-driver-test.false) c.loop-driver.invariant.grown;
    }
