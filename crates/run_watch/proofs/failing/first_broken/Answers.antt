use Rattle.std.proofs.Common.{◌∙◌, sym, arith}
use Rattle.std.proofs.lemmas.List.{length-map}
use Rattle.v_design.specs.Seen.{parts_of}
use Rattle.mapped_designs.specs.View.{mapped_of, number_of}
use Rattle.run_watch.specs.Failing.{holding}
use Rattle.run_watch.proofs.Lists.{mapped_at, read_at, assumed_condition}
use Rattle.run_watch.proofs.Broken.{broken_on, broken_here, broken_none}
use Rattle.run_watch.proofs.failing.first_broken.Goals as goal

pub holds_in-requires-clause-condition : goal.holds_in-requires-clause-condition
holds_in-requires-clause-condition c =
    let items = c.args.mapped.now.assume.items in
    let id = c.index.result.now in
    assumed_condition (mapped_of c.args.mapped.now) c.requires.conditions c.loop-k.k id.0
    (mapped_at number_of items c.loop-k.k id (read_at items c.loop-k.k id (omega (arith, c.loop-k-test.true)) c.index.ensures))

pub returns-then-not-holds_in : goal.returns-then-not-holds_in
returns-then-not-holds_in c rs is ran =
    let items = c.args.mapped.now.assume.items in
    let id = c.index.result.now in
    let at = mapped_at number_of items c.loop-k.k id (read_at items c.loop-k.k id (omega (arith, c.loop-k-test.true)) c.index.ensures) in
    sym (c.loop-k.invariant rs is ran
    ∙ broken_here (holding (parts_of c.args.mapped.now.design) rs is) (mapped_of c.args.mapped.now).assume c.loop-k.k id.0 at (sym (c.if-not-holds_in.ensures rs is ran)))

pub loop-k-preserved : goal.loop-k-preserved
loop-k-preserved c rs is ran =
    let items = c.args.mapped.now.assume.items in
    let id = c.index.result.now in
    let at = mapped_at number_of items c.loop-k.k id (read_at items c.loop-k.k id (omega (arith, c.loop-k-test.true)) c.index.ensures) in
    c.loop-k.invariant rs is ran
    ∙ broken_on (holding (parts_of c.args.mapped.now.design) rs is) (mapped_of c.args.mapped.now).assume c.loop-k.k id.0 at (sym (c.if-not-holds_in.ensures rs is ran))

pub returns : goal.returns
returns c rs is ran =
    let items = c.args.mapped.now.assume.items in
    sym (c.loop-k.invariant rs is ran
    ∙ broken_none (holding (parts_of c.args.mapped.now.design) rs is) (mapped_of c.args.mapped.now).assume c.loop-k.k
    (omega (arith, c.loop-k-test.false, length-map items number_of)))
