use Rattle.std.proofs.Common.{◌∙◌, length, map, None, arith, ap, subst}
use Rattle.std.proofs.lemmas.List.{length-map}
use Rattle.std.proofs.lemmas.Result.{err_from_is_err_and}
use Rattle.ila_file.specs.View.{input_view, model_view}
use Rattle.ila_build.specs.Building.{own_instructions}
use Rattle.ila_build.specs.Inside.{AreChildrenPut}
use Rattle.ila_build.specs.Layout.{AreLaidPut}
use Rattle.ila_whole.proofs.Reading.{parts_read}
use Rattle.ila_whole.proofs.Refusals.{machine_unrefused, children_unrefused}
use Rattle.ila_whole.proofs.Small.{small_whole}
use Rattle.ila_whole.proofs.SortedParts.{parts_sorted}
use Rattle.ila_whole.proofs.building.put_parts.Goals as goal

pub returns-clause-parts : goal.returns-clause-parts
returns-clause-parts c =
    let model = model_view c.args.written.now in
    let children = subst (λ cs. AreChildrenPut c.put_machine.new.terms c.put_machine.new.known cs c.put_children.new.terms c.put_children.new.known c.put_children.new.children.items (own_instructions model.top)) c.new-children.ensures.items c.in_ok-put_children.ensures.put in
    parts_read c.in_ok-terms.terms c.put_machine.new.terms c.in_ok-terms.known c.put_machine.new.known c.put_children.new.known c.deref.result.now model _
    c.in_ok-terms.ensures.table c.in_ok-terms.ensures.names c.in_ok-valid.ensures.grown c.in_ok-valid.ensures.put (c.deref.ensures.value ∙ c.in-Ok.ensures) children
    (omega (arith, c.len.ensures, length-map c.args.written.now.inputs.items input_view)) (c.in-Ok-initial_values.ensures ∙ ap (map (λ s. s.init)) c.states_of.ensures)

pub returns-clause-sorted : goal.returns-clause-sorted
returns-clause-sorted c =
    let model = model_view c.args.written.now in
    let children = subst (λ cs. AreChildrenPut c.put_machine.new.terms c.put_machine.new.known cs c.put_children.new.terms c.put_children.new.known c.put_children.new.children.items (own_instructions model.top)) c.new-children.ensures.items c.in_ok-put_children.ensures.put in
    let laid = subst (λ cs. AreLaidPut c.put_machine.new.terms c.put_machine.new.known cs c.put_children.new.terms c.put_children.new.children.items None (own_instructions model.top)) c.new-children.ensures.items c.in_ok-put_children.ensures.laid in
    parts_sorted c.in_ok-terms.terms c.put_machine.new.terms c.in_ok-terms.known c.put_machine.new.known c.put_children.new.known c.deref.result.now model _
    c.in_ok-terms.ensures.table c.in_ok-terms.ensures.names c.in_ok-valid.ensures.grown c.in_ok-valid.ensures.put (c.deref.ensures.value ∙ c.in-Ok.ensures) children laid
    (omega (arith, c.len.ensures, length-map c.args.written.now.inputs.items input_view)) (c.in-Ok-initial_values.ensures ∙ ap (map (λ s. s.init)) c.states_of.ensures) c.name_count-names.ensures.distinct

pub returns-in_err-valid-clause-unrefused : goal.returns-in_err-valid-clause-unrefused
returns-in_err-valid-clause-unrefused c =
    let p = err_from_is_err_and c.from_residual-in_err-valid.result c.from_residual-in_err-valid.ensures.1 in
    rw (p.1, p.2) (machine_unrefused c.in_ok-terms.terms c.in_ok-terms.known (model_view c.args.written.now) c.in_err-valid.field-0.0 c.in_ok-terms.ensures.table c.in_ok-terms.ensures.names c.in_ok-terms.ensures.fresh c.in_err-valid.ensures.unrefused)

pub returns-in_err-put_children-clause-unrefused : goal.returns-in_err-put_children-clause-unrefused
returns-in_err-put_children-clause-unrefused c =
    let p = err_from_is_err_and c.from_residual-in_err-put_children.result c.from_residual-in_err-put_children.ensures.1 in
    rw (p.1, p.2) (children_unrefused c.in_ok-terms.terms c.put_machine.new.terms c.in_ok-terms.known c.put_machine.new.known c.deref.result.now (model_view c.args.written.now) c.in_ok-valid.valid c.in_ok-valid.instructions.items c.in_err-put_children.field-0.0
    c.in_ok-terms.ensures.table c.in_ok-terms.ensures.names c.in_ok-terms.ensures.fresh c.in_ok-valid.ensures.grown c.in_ok-valid.ensures.put c.in_ok-valid.ensures.left.besides c.in_err-put_children.ensures.unrefused)

pub returns-clause-small : goal.returns-clause-small
returns-clause-small c =
    small_whole (length c.in_ok-terms.terms.nodes) (length c.put_machine.new.terms.nodes) (length c.put_children.new.terms.nodes) (model_view c.args.written.now) c.in_ok-terms.ensures.small c.in_ok-valid.ensures.left.added c.in_ok-put_children.ensures.left.added
