use Rattle.std.proofs.Common.{◌∙◌, ◌+◌, [], ◌∷◌, ◌++◌, drop, ap, arith, refl}
use Rattle.std.proofs.lemmas.List.{at_drop_all}
use Rattle.v_syntax.specs.Tree.{tree_of, target_of}
use Rattle.v_drivers.specs.Lists.{links_of}
use Rattle.v_statement.proofs.Runs.{rest_is}
use Rattle.v_order.specs.Drivers.{by_link, all_links}
use Rattle.v_order.specs.Lists.{drivings_in}
use Rattle.v_order.proofs.Growing.{turn, end, pushed}
use Rattle.v_order.proofs.listing.add_assignments.Goals as goal

pub loop-assignment-preserved : goal.loop-assignment-preserved
loop-assignment-preserved c =
    let xs = c.args.assignments.now in
    let i = c.loop-assignment.assignment-index in
    let r = c.assignment-item.result in
    let x = by_link (target_of r.target) (tree_of r.value) in
    turn (drivings_in c.args.found.now.items ++ all_links (links_of xs)) (drivings_in c.loop-assignment.found.items) _ (x ∷ []) (all_links (links_of (drop (i + 1) xs)))
    (c.loop-assignment.invariant ∙ ap (λ ys. drivings_in c.loop-assignment.found.items ++ all_links (links_of ys)) (rest_is xs i r (omega arith) c.assignment-item.is))
    (pushed c.loop-assignment.found.items _ _ x c.in_ok-push.ensures.items refl)

pub returns : goal.returns
returns c =
    end (drivings_in c.args.found.now.items ++ all_links (links_of c.args.assignments.now)) (drivings_in c.loop-assignment.found.items) _ c.loop-assignment.invariant
    (at_drop_all (λ ys. all_links (links_of ys)) c.args.assignments.now c.loop-assignment.assignment-index c.loop-assignment-test.false)
