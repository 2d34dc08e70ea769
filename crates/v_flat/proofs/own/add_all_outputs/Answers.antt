use Rattle.std.proofs.Common.{◌≡◌, ◌∙◌, Some, length, ap, sym, subst, arith}
use Rattle.std.proofs.lemmas.List.{at_drop_all}
use Rattle.verilog_meaning.specs.Hierarchy.{module_named}
use Rattle.v_renamed.specs.NewNames.{new_name}
use Rattle.v_places.specs.Views.{spot_of, spots_of}
use Rattle.v_flat.specs.Outputs.{added_outputs, all_added}
use Rattle.v_flat.specs.Views.{lists_of}
use Rattle.v_flat.proofs.Added.{added_turn}
use Rattle.v_flat.proofs.Rows.{row_at}
use Rattle.v_flat.proofs.own.add_all_outputs.Goals as goal

pub loop-place-preserved : goal.loop-place-preserved
loop-place-preserved c = λ source i rows.
    let f = new_name c.args.names.now in
    let k = c.loop-place.place-index in
    added_turn spot_of f c.args.places.now k _ (lists_of c.loop-place.lists.items) (lists_of c.add_outputs.new.lists.items) _ (omega arith) (c.loop-place.invariant source i rows)
    (c.in_ok-add_outputs.ensures source i
    (subst (λ x. module_named source (spot_of x).of_module.module_name ≡ Some (spot_of x).of_module) (sym c.place-item.is)
    (row_at source (length c.args.places.now) spot_of c.args.places.now k _ (omega arith) rows).0)
    ∙ ap (λ x. added_outputs f (spot_of x) (lists_of c.loop-place.lists.items)) c.place-item.is)

pub returns : goal.returns
returns c = λ source i rows.
    sym (at_drop_all (λ xs. all_added (new_name c.args.names.now) (spots_of xs) (lists_of c.loop-place.lists.items)) c.args.places.now c.loop-place.place-index
    (omega (arith, c.loop-place-test.false)))
    ∙ c.loop-place.invariant source i rows
