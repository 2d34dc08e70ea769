use Rattle.std.proofs.Common.{◌+◌, [], arith, drop, refl, subst}
use Rattle.std.proofs.lemmas.List.{at_drop_all}
use Rattle.verilog_designs.specs.Reads.{or_in}
use Rattle.v_value.specs.Scope.{scope_at}
use Rattle.v_statement.proofs.Runs.{rest_is}
use Rattle.v_flow.specs.Spans.{bits_in}
use Rattle.v_masks.specs.Masks.{masked, spread}
use Rattle.v_order.specs.Lists.{statement_in, statements_in}
use Rattle.v_order.proofs.Driven.{driven-set, driven-turn, driven-end}
use Rattle.v_loops.proofs.Sharing.{fit-turn, none-known, know-turn, know-end, IsLeftToKnow, once-turn, once-end}
use Rattle.v_loops.proofs.shared.add_all.Goals as goal

pub loop-driver-init : goal.loop-driver-init
loop-driver-init c =
    record {
      listed = refl;
      tabled = refl;
      known = ([], refl, none-known (scope_at c.args.scope.now) (masked c.args.once.now) (masked c.args.twice.now));
      fit = c.requires.fit;
    }

pub add-requires-clause-narrow : goal.add-requires-clause-narrow
add-requires-clause-narrow c =
    let ds = c.args.drivers.now in
    let i = c.loop-driver.driver-index in
    let r = c.driver-item.result in
    (fit-turn (scope_at c.args.scope.now) ds i r (rest_is ds i r (omega arith) c.driver-item.is) c.loop-driver.invariant.fit).0.narrow

pub loop-driver-preserved : goal.loop-driver-preserved
loop-driver-preserved c =
    let s = scope_at c.args.scope.now in
    let ds = c.args.drivers.now in
    let i = c.loop-driver.driver-index in
    let r = c.driver-item.result in
    let e = rest_is ds i r (omega arith) c.driver-item.is in
    let fit = fit-turn s ds i r e c.loop-driver.invariant.fit in
    record {
      listed = driven-turn s ds i r (or_in (bits_in c.args.driven.now.items) (driven-set s (statements_in ds))) (bits_in c.loop-driver.driven.items) (bits_in c.add.new.driven.items) e
          c.loop-driver.invariant.listed c.in_ok-add.ensures.driven;
      tabled = once-turn s ds i r (or_in (masked c.args.once.now) (spread (driven-set s (statements_in ds)))) (masked c.loop-driver.once) (masked c.add.new.once) e
          c.loop-driver.invariant.tabled c.in_ok-add.ensures.once;
      known = know-turn s (statements_in ds) (statements_in (drop (i + 1) ds)) (statement_in r) (masked c.loop-driver.once) (masked c.loop-driver.twice)
          (masked c.add.new.once) (masked c.add.new.twice) fit.0.plain (λ u k h. h)
          (subst (λ ys. IsLeftToKnow s (statements_in ds) (statements_in ys) (masked c.loop-driver.once) (masked c.loop-driver.twice)) e c.loop-driver.invariant.known)
          c.in_ok-add.ensures.once c.in_ok-add.ensures.twice;
      fit = fit.1;
    }

pub returns-clause-driven : goal.returns-clause-driven
returns-clause-driven c =
    let s = scope_at c.args.scope.now in
    let ds = c.args.drivers.now in
    let i = c.loop-driver.driver-index in
    driven-end s (statements_in (drop i ds)) (or_in (bits_in c.args.driven.now.items) (driven-set s (statements_in ds))) (bits_in c.loop-driver.driven.items)
    (at_drop_all statements_in ds i c.loop-driver-test.false) c.loop-driver.invariant.listed

pub returns-clause-once : goal.returns-clause-once
returns-clause-once c =
    let s = scope_at c.args.scope.now in
    let ds = c.args.drivers.now in
    let i = c.loop-driver.driver-index in
    once-end s (statements_in (drop i ds)) (or_in (masked c.args.once.now) (spread (driven-set s (statements_in ds)))) (masked c.loop-driver.once)
    (at_drop_all statements_in ds i c.loop-driver-test.false) c.loop-driver.invariant.tabled

pub returns-clause-apart : goal.returns-clause-apart
returns-clause-apart c =
    let ds = c.args.drivers.now in
    let i = c.loop-driver.driver-index in
    know-end (scope_at c.args.scope.now) (statements_in ds) (statements_in (drop i ds)) (masked c.loop-driver.once) (masked c.loop-driver.twice)
    (at_drop_all statements_in ds i c.loop-driver-test.false) c.loop-driver.invariant.known
