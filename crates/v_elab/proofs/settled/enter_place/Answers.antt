use Rattle.std.proofs.Common.{◌∙◌, ap, refl, cond, Some, arith}
use Rattle.wb_values.specs.Value.{same_name}
use Rattle.v_places.specs.Views.{spot_of}
use Rattle.v_design.specs.Table.{term_under, number_under}
use Rattle.v_elab.proofs.PutBelow.{put_below, terms_stay}
use Rattle.v_elab.proofs.settled.enter_place.Goals as goal

pub returns-clause-terms : goal.returns-clause-terms
returns-clause-terms c =
    let place = c.args.place.now in
    let around = c.index_mut.result.now in
    terms_stay c.args.list.now.items place.parent around c.enter_number.new.around _ (omega (arith, c.requires, c.if-place-number.false)) c.index_mut.ensures.value
    (λ n. ap (λ t. term_under t n) c.in_ok-enter_number.ensures.terms)

pub returns-clause-below : goal.returns-clause-below
returns-clause-below c =
    let place = c.args.place.now in
    let x = spot_of place in
    let around = c.index_mut.result.now in
    put_below c.args.list.now.items place.parent around c.enter_number.new.around _ (omega (arith, c.requires, c.if-place-number.false)) c.index_mut.ensures.value
    c.args.number x refl (omega (arith, c.if-place-number.false))
    (λ u. c.in_ok-enter_number.ensures.below u ∙ ap (λ m. cond (same_name m u) (Some c.args.number) (number_under around.below u)) c.instance_name.ensures)
