use Rattle.std.proofs.Common.{◌+◌, [], ◌∷◌, ap, arith, drop, false}
use Rattle.std.proofs.lemmas.Bool.{false≢true}
use Rattle.std.proofs.lemmas.List.{at_drop_all}
use Rattle.verilog_designs.specs.Reads.{no_bits}
use Rattle.v_value.specs.Scope.{scope_at}
use Rattle.v_statement.proofs.Runs.{rest_is}
use Rattle.v_flow.specs.Spans.{bits_in}
use Rattle.v_masks.specs.Masks.{masked}
use Rattle.v_order.specs.Lists.{statement_in, statements_in}
use Rattle.v_loops.proofs.Sharing.{fit-turn}
use Rattle.v_loops.proofs.Adding.{table-free, adds-turn, adds-end, adds-begun, from-none, by-spread}
use Rattle.v_loops.proofs.turn.turn.Goals as goal

pub loop-driver-init : goal.loop-driver-init
loop-driver-init c =
    record {
      adds = adds-begun false (masked c.in_ok-table.table) (scope_at c.args.scope.now) (statements_in c.args.drivers.now) c.new-found.result.items c.new-found.ensures.items;
      fit = c.requires.fit;
    }

pub add_resting-requires-clause-fit : goal.add_resting-requires-clause-fit
add_resting-requires-clause-fit c =
    let ds = c.args.drivers.now in
    let i = c.loop-driver.driver-index in
    let r = c.driver-item.result in
    (fit-turn (scope_at c.args.scope.now) ds i r (rest_is ds i r (omega arith) c.driver-item.is) c.loop-driver.invariant.fit).0

pub add_resting-requires-clause-variables : goal.add_resting-requires-clause-variables
add_resting-requires-clause-variables c =
    table-free (scope_at c.args.scope.now) (bits_in c.args.unsettled.now) (masked c.in_ok-table.table) c.in_ok-table.ensures c.requires.variables

pub loop-driver-preserved : goal.loop-driver-preserved
loop-driver-preserved c =
    let s = scope_at c.args.scope.now in
    let ds = c.args.drivers.now in
    let i = c.loop-driver.driver-index in
    let r = c.driver-item.result in
    let e = rest_is ds i r (omega arith) c.driver-item.is in
    record {
      adds = adds-turn false (masked c.in_ok-table.table) s (statements_in ds) (statements_in (drop i ds)) (statement_in r ∷ []) (statements_in (drop (i + 1) ds)) no_bits
          (bits_in c.loop-driver.found.items) _ (ap statements_in e) c.loop-driver.invariant.adds c.in_ok-add_resting.ensures;
      fit = (fit-turn s ds i r e c.loop-driver.invariant.fit).1;
    }

pub returns : goal.returns
returns c =
    let s = scope_at c.args.scope.now in
    let ds = c.args.drivers.now in
    let i = c.loop-driver.driver-index in
    by-spread (masked c.in_ok-table.table) (bits_in c.args.unsettled.now) (bits_in c.loop-driver.found.items) s (statements_in ds) c.in_ok-table.ensures
    (from-none false (masked c.in_ok-table.table) s (statements_in ds) no_bits (bits_in c.loop-driver.found.items) (λ u h. false≢true h)
    (adds-end false (masked c.in_ok-table.table) s (statements_in ds) (statements_in (drop i ds)) no_bits (bits_in c.loop-driver.found.items)
    (at_drop_all statements_in ds i c.loop-driver-test.false) c.loop-driver.invariant.adds))
