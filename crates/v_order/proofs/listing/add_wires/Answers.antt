use Rattle.std.proofs.Common.{◌∙◌, ◌+◌, [], ◌∷◌, ◌++◌, drop, ap, arith}
use Rattle.std.proofs.lemmas.List.{at_drop_all}
use Rattle.verilog_meaning.specs.Settled.{wire_assignment}
use Rattle.v_syntax.specs.Source.{boxed_tree_of}
use Rattle.v_drivers.specs.Lists.{wire_links}
use Rattle.v_statement.proofs.Runs.{rest_is}
use Rattle.v_order.specs.Drivers.{all_links}
use Rattle.v_order.specs.Lists.{drivings_in}
use Rattle.v_order.proofs.Growing.{turn, end, links-front}
use Rattle.v_order.proofs.listing.add_wires.Goals as goal

pub loop-wire-preserved : goal.loop-wire-preserved
loop-wire-preserved c =
    let xs = c.args.wires.now in
    let i = c.loop-wire.wire-index in
    let r = c.wire-item.result in
    let more = wire_links (drop (i + 1) xs) in
    turn (drivings_in c.args.found.now.items ++ all_links (wire_links xs)) (drivings_in c.loop-wire.found.items) _ (all_links (wire_links (r ∷ []))) (all_links more)
    (c.loop-wire.invariant ∙ ap (λ ys. drivings_in c.loop-wire.found.items ++ ys)
    (ap (λ ys. all_links (wire_links ys)) (rest_is xs i r (omega arith) c.wire-item.is) ∙ links-front (wire_assignment r.name.now (boxed_tree_of r.value)) more))
    c.in_ok-add_wire.ensures

pub returns : goal.returns
returns c =
    end (drivings_in c.args.found.now.items ++ all_links (wire_links c.args.wires.now)) (drivings_in c.loop-wire.found.items) _ c.loop-wire.invariant
    (at_drop_all (λ ys. all_links (wire_links ys)) c.args.wires.now c.loop-wire.wire-index c.loop-wire-test.false)
