use Rattle.std.proofs.Common.{◌∙◌, ap, sym, subst, map, length, Some, arith}
use Rattle.std.proofs.lemmas.List.{length-map}
use Rattle.v_value.specs.Scope.{scope_at}
use Rattle.v_places.specs.Views.{spot_of, spots_of}
use Rattle.v_flat.specs.Views.{names_in}
use Rattle.v_lower.specs.Table.{images_at}
use Rattle.v_design.specs.Table.{place_in}
use Rattle.v_elab.specs.Settled.{HaveOwnTerms}
use Rattle.v_elab.proofs.PutBelow.{none_below, all_below, one_more_below, spot_there}
use Rattle.v_elab.proofs.SettledPlaces.{are_settled}
use Rattle.v_elab.proofs.settled.settled_of.Goals as goal

pub loop-number-init : goal.loop-number-init
loop-number-init c =
    record {
      count = c.in_ok-list.ensures.count;
      terms = subst (λ names. HaveOwnTerms (scope_at c.args.scope.now) (images_at c.args.table.now) (spots_of c.args.places.now) (map names_in names) (length c.args.places.now)
          c.in_ok-list.list.items) c.deref.ensures.value c.in_ok-list.ensures.terms;
      below = λ k. none_below (spots_of c.args.places.now) k (place_in c.in_ok-list.list.items k) (λ u. c.in_ok-list.ensures.below k u);
    }

pub loop-number-preserved : goal.loop-number-preserved
loop-number-preserved c =
    let l = c.loop-number in
    let ps = c.args.places.now in
    record {
      count = c.in_ok-enter_place.ensures.count ∙ l.invariant.count;
      terms = λ k x less at n. c.in_ok-enter_place.ensures.terms k n ∙ l.invariant.terms k x less at n;
      below = λ k.
          one_more_below (spots_of ps) l.number (spot_of c.index-places-number.result)
          (spot_there ps l.number _ (omega arith) ∙ ap (λ p. Some (spot_of p)) (sym c.index-places-number.is)) k (place_in l.list.items)
          (place_in c.enter_place.new.list.items) c.in_ok-enter_place.ensures.below (l.invariant.below k);
    }

pub returns : goal.returns
returns c = λ d called h.
    let l = c.loop-number in
    let spots = spots_of c.args.places.now in
    let same = length-map c.args.places.now spot_of in
    are_settled d called spots (map names_in c.args.names.now.places.items) (scope_at c.args.scope.now) (images_at c.args.table.now) l.list.items h
    (l.invariant.count ∙ sym same)
    (subst (λ n. HaveOwnTerms (scope_at c.args.scope.now) (images_at c.args.table.now) spots (map names_in c.args.names.now.places.items) n l.list.items) (sym same) l.invariant.terms)
    (λ k. all_below spots l.number k (place_in l.list.items k) (omega (arith, same, c.loop-number-test.false)) (l.invariant.below k))
