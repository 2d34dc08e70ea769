use Rattle.std.proofs.Common.{◌∙◌, ◌+◌, ◌++◌, [], ◌∷◌, drop, ap, subst, arith}
use Rattle.std.specs.Prelude.{map}
use Rattle.std.proofs.lemmas.List.{at_drop_all}
use Rattle.verilog_meaning.specs.Settled.{assignments}
use Rattle.v_value.specs.Scope.{scope_at}
use Rattle.v_syntax.specs.Source.{item_of}
use Rattle.v_statement.proofs.Runs.{rest_is}
use Rattle.v_drivers.specs.Sets.{assignments_drivers}
use Rattle.v_drivers.specs.Premises.{HaveNarrowTargets}
use Rattle.v_drivers.specs.Lists.{sets_in}
use Rattle.v_drivers.proofs.Driving.{turn, end, drivers-append, narrow-append, links-of-items}
use Rattle.v_drivers.proofs.link.add_links.Goals as goal

pub add_item-requires-clause-narrow : goal.add_item-requires-clause-narrow
add_item-requires-clause-narrow c =
    let s = (scope_at c.args.scope.now) in
    let xs = c.args.items.now in
    let i = c.loop-item.item-index in
    let r = c.item-item.result in
    let more = map item_of (drop (i + 1) xs) in
    let rest = ap (λ ys. assignments (map item_of ys)) (rest_is xs i r (omega arith) c.item-item.is) ∙ links-of-items (item_of r) more in
    (narrow-append s (assignments (item_of r ∷ [])) (assignments more) (subst (HaveNarrowTargets s) rest c.loop-item.invariant.narrow)).0

pub loop-item-preserved : goal.loop-item-preserved
loop-item-preserved c =
    let s = (scope_at c.args.scope.now) in
    let xs = c.args.items.now in
    let i = c.loop-item.item-index in
    let r = c.item-item.result in
    let more = map item_of (drop (i + 1) xs) in
    let rest = ap (λ ys. assignments (map item_of ys)) (rest_is xs i r (omega arith) c.item-item.is) ∙ links-of-items (item_of r) more in
    record {
      same = turn _ _ _ _ _
          (c.loop-item.invariant.same
          ∙ ap (λ z. sets_in c.loop-item.drivers.items ++ z) (ap (assignments_drivers s) rest ∙ drivers-append s (assignments (item_of r ∷ [])) (assignments more)))
          c.in_ok-add_item.ensures;
      narrow = (narrow-append s (assignments (item_of r ∷ [])) (assignments more) (subst (HaveNarrowTargets s) rest c.loop-item.invariant.narrow)).1;
    }

pub returns : goal.returns
returns c =
    let s = (scope_at c.args.scope.now) in
    end _ _ _ c.loop-item.invariant.same
    (at_drop_all (λ ys. assignments_drivers s (assignments (map item_of ys))) c.args.items.now c.loop-item.item-index c.loop-item-test.false)
