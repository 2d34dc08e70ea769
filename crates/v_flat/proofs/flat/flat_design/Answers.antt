use Rattle.std.proofs.Common.{◌∙◌, ap, length, map, subst}
use Rattle.std.proofs.lemmas.List.{length-map}
use Rattle.v_value.specs.Scope.{objects_of}
use Rattle.v_syntax.specs.Source.{item_of}
use Rattle.v_places.specs.Views.{spot_of, spots_of}
use Rattle.v_flat.specs.Paths.{AreRowsOf}
use Rattle.v_flat.specs.Entries.{naming_of, flat_entries}
use Rattle.v_flat.specs.Items.{all_items as items_by}
use Rattle.v_flat.specs.Views.{names_in, namings}
use Rattle.v_flat.proofs.Rows.{all_rows, as_many}
use Rattle.v_flat.proofs.Whole.{row_of, whole_design}
use Rattle.v_flat.proofs.flat.flat_design.Goals as goal

pub all_items-requires : goal.all_items-requires
all_items-requires c =
    ap length c.deref-3.ensures.value
    ∙ as_many c.in_ok-tables.tables.items (map names_in c.args.names.now.places.items)
    (c.in_ok-tables.ensures ∙ ap (λ ps. map naming_of (map names_in ps)) c.deref.ensures.value)
    ∙ length-map c.args.names.now.places.items names_in ∙ c.requires

pub returns : goal.returns
returns c = λ d called i h are.
    let spots = spots_of c.args.places.now in
    let rows : AreRowsOf d.source (length c.args.places.now) spots
    = subst (λ n. AreRowsOf d.source n spots) (length-map c.args.places.now spot_of) (all_rows d.source (length spots) spots (row_of d spots h)) in
    whole_design d called spots (map names_in c.args.names.now.places.items) (namings c.in_ok-tables.tables.items) (objects_of c.in_ok-scope.scope.declarations.items)
    (map item_of c.in_ok-items.items.items) h are
    (c.in_ok-tables.ensures ∙ ap (λ ps. map naming_of (map names_in ps)) c.deref.ensures.value)
    (c.in_ok-scope.ensures ∙ ap (λ ps. flat_entries (map names_in ps)) c.deref-2.ensures.value)
    (c.in_ok-items.ensures d.source i rows ∙ ap (λ ts. items_by (namings ts) spots) c.deref-3.ensures.value)
