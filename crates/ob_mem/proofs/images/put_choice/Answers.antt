use Rattle.std.proofs.Common.{◌≡◌, ◌∙◌, ◌<◌, ◌^◌, sym, subst, arith}
use Rattle.std.specs.Prelude.{nat_eq}
use Rattle.std.specs.HashMap.{get}
use Rattle.wb_values.specs.Value.{truth, word}
use Rattle.model_meaning.specs.Term.{sort_of}
use Rattle.wb_terms.specs.Graph.{tree}
use Rattle.ob_mem.specs.Rows.{IsRow, tree_in, AreOver}
use Rattle.ob_mem.specs.declared.rows.Row.TheVariants.{Choices}
use Rattle.ob_mem.proofs.Counting.{row_counted}
use Rattle.ob_mem.proofs.Growing.{row_grows}
use Rattle.ob_mem.proofs.Choosing.{choices_over}
use Rattle.ob_mem.proofs.Imaging.{image_by, ite_sorts, truth_image, memory_words, choice_image}
use Rattle.ob_mem.proofs.images.put_choice.Goals as goal

pub image-condition-requires : goal.image-condition-requires
image-condition-requires c = c.requires.images.0.0

pub image-x-requires : goal.image-x-requires
image-x-requires c = c.requires.images.1.0.0

pub image-y-requires : goal.image-y-requires
image-y-requires c = c.requires.images.1.1.0.0

pub put_row-requires : goal.put_row-requires
put_row-requires c =
    let g = c.args.old.now in
    let h = c.args.terms.now in
    let rs = c.args.list.now in
    let is = get nat_eq c.args.images.now in
    let o = c.requires.images in
    let s = ite_sorts (sort_of (tree g c.args.parts.0.0)) (sort_of (tree g c.args.parts.1.0)) (sort_of (tree g c.args.parts.2.0)) c.args.address_width c.requires.sort.0 c.requires.sort.1 in
    let ic = image_by g.names rs h is c.image-condition.result c.args.parts.0 (tree g c.args.parts.0.0) c.image-condition.ensures o.0.1 in
    let ix = image_by g.names rs h is c.image-x.result c.args.parts.1 (tree g c.args.parts.1.0) c.image-x.ensures o.1.0.1 in
    let iy = image_by g.names rs h is c.image-y.result c.args.parts.2 (tree g c.args.parts.2.0) c.image-y.ensures o.1.1.0.1 in
    subst (AreOver h (Choices c.image-condition.result c.image-x.result c.image-y.result)) (sym c.power.ensures)
    (choices_over h c.image-condition.result c.image-x.result c.image-y.result (2 ^ c.args.address_width) c.requires.sort.0
    (truth_image g.names rs h c.image-condition.result.0 (tree g c.args.parts.0.0) s.0 ic).plain
    (memory_words g.names rs h c.image-x.result.0 (tree g c.args.parts.1.0) c.args.address_width c.requires.sort.0 s.1 ix)
    (memory_words g.names rs h c.image-y.result.0 (tree g c.args.parts.2.0) c.args.address_width c.requires.sort.0 s.2 iy))

pub returns-clause-grows : goal.returns-clause-grows
returns-clause-grows c = row_grows (tree_in c.args.terms.now (Choices c.image-condition.result c.image-x.result c.image-y.result)) c.power.result c.in_ok-id.ensures.row

pub returns-clause-image : goal.returns-clause-image
returns-clause-image c =
    let g = c.args.old.now in
    let h = c.args.terms.now in
    let rs = c.args.list.now in
    let is = get nat_eq c.args.images.now in
    let o = c.requires.images in
    let ic = image_by g.names rs h is c.image-condition.result c.args.parts.0 (tree g c.args.parts.0.0) c.image-condition.ensures o.0.1 in
    let ix = image_by g.names rs h is c.image-x.result c.args.parts.1 (tree g c.args.parts.1.0) c.image-x.ensures o.1.0.1 in
    let iy = image_by g.names rs h is c.image-y.result c.args.parts.2 (tree g c.args.parts.2.0) c.image-y.ensures o.1.1.0.1 in
    let row = subst (IsRow h c.put_row.new.terms (tree_in h (Choices c.image-condition.result c.image-x.result c.image-y.result))) c.power.ensures c.in_ok-id.ensures.row in
    choice_image g h c.put_row.new.terms rs c.args.parts.0 c.args.parts.1 c.args.parts.2 c.image-condition.result c.image-x.result c.image-y.result c.in_ok-id.id.0 c.args.address_width c.requires.sort.0 c.requires.sort.1
    ic ix iy c.in_ok-id.ensures.first row

pub returns-clause-count : goal.returns-clause-count
returns-clause-count c =
    let row = row_counted c.args.terms.now c.put_row.new.terms (tree_in c.args.terms.now (Choices c.image-condition.result c.image-x.result c.image-y.result)) c.power.result c.in_ok-id.ensures.row in
    omega (arith, row, c.power.ensures)
