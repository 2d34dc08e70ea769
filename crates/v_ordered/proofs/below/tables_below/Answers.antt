use Rattle.std.proofs.Common.{◌∙◌, ap, sym, arith, Some}
use Rattle.std.proofs.lemmas.List.{length-map}
use Rattle.v_places.specs.Views.{spot_of, spots_of}
use Rattle.v_places.proofs.Spots.{get_within}
use Rattle.v_ordered.specs.Tables.{number_at}
use Rattle.v_ordered.proofs.Entered.{none_below, one_more, all_below, spot_there}
use Rattle.v_ordered.proofs.below.tables_below.Goals as goal

pub loop-number-init : goal.loop-number-init
loop-number-init c =
    record {
      count = c.in_ok-tables.ensures.count;
      below = λ k. none_below (spots_of c.args.places.now) k (number_at c.in_ok-tables.tables.items k) (λ n. c.in_ok-tables.ensures.empty k n);
    }

pub loop-number-preserved : goal.loop-number-preserved
loop-number-preserved c =
    let ps = c.args.places.now in
    let number = c.loop-number.number in
    record {
      count = c.in_ok-enter.ensures.count ∙ c.loop-number.invariant.count;
      below = λ k.
          one_more (spots_of ps) number (spot_of c.index-places-number.result)
          (spot_there ps number _ (omega arith) ∙ ap (λ p. Some (spot_of p)) (sym c.index-places-number.is)) k (number_at c.loop-number.tables.items)
          (number_at c.enter.new.tables.items) c.in_ok-enter.ensures.entered (c.loop-number.invariant.below k);
    }

pub returns-clause-below : goal.returns-clause-below
returns-clause-below c = λ k.
    let spots = spots_of c.args.places.now in
    let same = length-map c.args.places.now spot_of in
    all_below spots c.loop-number.number k (number_at c.loop-number.tables.items k) (omega (arith, c.loop-number-test.false, same))
    (λ n x e. get_within spots n x e) (c.loop-number.invariant.below k)
