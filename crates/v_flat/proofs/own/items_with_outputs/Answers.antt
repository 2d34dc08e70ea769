use Rattle.std.proofs.Common.{◌∙◌, length, subst, ap}
use Rattle.std.proofs.lemmas.List.{length-map}
use Rattle.v_places.specs.Views.{spot_of, spots_of}
use Rattle.v_flat.specs.Outputs.{same_names, own_lists, all_added}
use Rattle.v_flat.specs.Paths.{AreRowsOf}
use Rattle.v_flat.specs.Views.{lists_of}
use Rattle.v_flat.proofs.Added.{all_with_outputs}
use Rattle.v_flat.proofs.Rows.{all_rows}
use Rattle.v_flat.proofs.Whole.{row_of}
use Rattle.v_flat.proofs.own.items_with_outputs.Goals as goal

pub returns : goal.returns
returns c = λ d i h.
    let spots = spots_of c.args.places.now in
    let rows : AreRowsOf d.source (length c.args.places.now) spots
    = subst (λ n. AreRowsOf d.source n spots) (length-map c.args.places.now spot_of) (all_rows d.source (length spots) spots (row_of d spots h)) in
    c.in_ok-add_all_outputs.ensures d.source i rows
    ∙ ap (λ f. all_added f spots (lists_of c.in_ok-lists.lists.items)) c.no_names-names.ensures
    ∙ ap (all_added same_names spots) (c.in_ok-lists.ensures ∙ ap (λ f. own_lists f spots) c.no_names-names.ensures)
    ∙ all_with_outputs spots
