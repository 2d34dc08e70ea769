use Rattle.std.proofs.Common.{◌∙◌, ◌+◌, ap, sym, subst, map, length, Some, arith}
use Rattle.std.proofs.lemmas.List.{length-append}
use Rattle.v_value.specs.Scope.{scope_at}
use Rattle.v_places.specs.Views.{spot_of, spots_of}
use Rattle.v_flat.specs.Views.{names_in}
use Rattle.v_lower.specs.Table.{images_at}
use Rattle.v_design.specs.Table.{place_in}
use Rattle.v_elab.specs.Settled.{HaveOwnTerms}
use Rattle.v_elab.proofs.NetTerms.{none_yet, own_more, none_more}
use Rattle.v_elab.proofs.PutBelow.{spot_there}
use Rattle.v_elab.proofs.settled.all_terms.Goals as goal

pub loop-number-init : goal.loop-number-init
loop-number-init c =
    record {
      count = ap length c.new-list.ensures.items;
      terms = none_yet (scope_at c.args.scope.now) (images_at c.args.table.now) (spots_of c.args.places.now) (map names_in c.args.names.now) c.new-list.result.items;
      below = λ k u. ap (λ places. place_in places k u) c.new-list.ensures.items;
    }

pub loop-number-preserved : goal.loop-number-preserved
loop-number-preserved c =
    let l = c.loop-number in
    let s = scope_at c.args.scope.now in
    let terms = images_at c.args.table.now in
    let spots = spots_of c.args.places.now in
    let names = map names_in c.args.names.now in
    record {
      count = ap length c.in_ok-push.ensures.items ∙ length-append l.list.items _ ∙ ap (λ n. n + 1) l.invariant.count;
      terms = subst (HaveOwnTerms s terms spots names (l.number + 1)) (sym c.in_ok-push.ensures.items)
          (own_more s terms spots names l.list.items l.number (spot_of c.index-places-number.result) c.in_ok-own.own l.invariant.count
          (spot_there c.args.places.now l.number _ (omega arith) ∙ ap (λ p. Some (spot_of p)) (sym c.index-places-number.is)) l.invariant.terms c.in_ok-own.ensures.terms);
      below = λ k u. ap (λ places. place_in places k u) c.in_ok-push.ensures.items ∙ none_more l.list.items c.in_ok-own.own l.invariant.below c.in_ok-own.ensures.below k u;
    }

pub returns-clause-terms : goal.returns-clause-terms
returns-clause-terms c = λ k x l at n. c.loop-number.invariant.terms k x (omega (arith, l, c.loop-number-test.false)) at n
