use Rattle.std.proofs.Common.{◌∙◌, ◌+◌, [], ◌∷◌, ◌++◌, drop, ap, arith}
use Rattle.std.proofs.lemmas.List.{at_drop_all}
use Rattle.std.specs.Prelude.{map}
use Rattle.v_syntax.specs.Source.{item_of}
use Rattle.v_statement.proofs.Runs.{rest_is}
use Rattle.v_order.specs.Drivers.{drivings}
use Rattle.v_order.specs.Lists.{drivings_in}
use Rattle.v_order.proofs.Growing.{turn, end, begun, drivings-more, same-statements}
use Rattle.v_order.proofs.listing.drivers_of.Goals as goal

pub loop-item-init : goal.loop-item-init
loop-item-init c = begun (drivings (map item_of c.args.items.now)) c.new-found.result.items c.new-found.ensures.items

pub loop-item-preserved : goal.loop-item-preserved
loop-item-preserved c =
    let xs = c.args.items.now in
    let i = c.loop-item.item-index in
    let r = c.item-item.result in
    turn (drivings (map item_of xs)) (drivings_in c.loop-item.found.items) _ (drivings (item_of r ∷ [])) (drivings (map item_of (drop (i + 1) xs)))
    (c.loop-item.invariant ∙ ap (λ ys. drivings_in c.loop-item.found.items ++ ys)
    (ap (λ ys. drivings (map item_of ys)) (rest_is xs i r (omega arith) c.item-item.is) ∙ drivings-more (item_of r) (map item_of (drop (i + 1) xs))))
    c.in_ok-add_item.ensures

pub returns-clause-drivings : goal.returns-clause-drivings
returns-clause-drivings c =
    end (drivings (map item_of c.args.items.now)) (drivings_in c.loop-item.found.items) _ c.loop-item.invariant
    (at_drop_all (λ ys. drivings (map item_of ys)) c.args.items.now c.loop-item.item-index c.loop-item-test.false)

pub returns-clause-statements : goal.returns-clause-statements
returns-clause-statements c =
    let items = map item_of c.args.items.now in
    same-statements c.loop-item.found.items items
    (end (drivings items) (drivings_in c.loop-item.found.items) _ c.loop-item.invariant
    (at_drop_all (λ ys. drivings (map item_of ys)) c.args.items.now c.loop-item.item-index c.loop-item-test.false))
