use Rattle.std.proofs.Common.{◌∙◌, ap, sym, subst, map}
use Rattle.std.proofs.lemmas.List.{length-map}
use Rattle.v_places.specs.Views.{spots_of}
use Rattle.v_flat.specs.Views.{names_in}
use Rattle.v_ordered.specs.Lines.{called_under, AreBelow}
use Rattle.v_ordered.specs.Tables.{text_under, number_at, seen}
use Rattle.v_ordered.proofs.Whole.{as_many, in_order}
use Rattle.v_ordered.proofs.order.names_in_order.Goals as goal

pub returns-then-len-places : goal.returns-then-len-places
returns-then-len-places c = λ d called top placing e fronts at.
    let items = c.args.names.now.places.items in
    absurd
    (c.if-len-places.true
    (c.len.ensures ∙ c.args.names.now.places.ok.0 ∙ sym (length-map items names_in) ∙ as_many called (map names_in items) c.args.places.now e))

pub returns : goal.returns
returns c =
    let found = c.in_ok-list.ensures in
    in_order c.args.places.now c.deref-2.result.now c.deref-3.result.now (map names_in c.args.names.now.places.items) found.0 (seen c.in_ok-list.list.items)
    (ap (map text_under) c.deref-2.ensures.value ∙ c.in_ok-tables.ensures ∙ ap (λ ps. map called_under (map names_in ps)) c.deref.ensures.value)
    (λ k. subst (λ bs. AreBelow (spots_of c.args.places.now) k (number_at bs k)) (sym c.deref-3.ensures.value) (c.in_ok-below.ensures.below k)) found.1 found.2
