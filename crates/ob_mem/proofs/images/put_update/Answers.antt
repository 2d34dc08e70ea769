use Rattle.std.proofs.Common.{◌≡◌, ◌∙◌, ◌<◌, ◌^◌, sym, subst, arith}
use Rattle.std.specs.Prelude.{nat_eq}
use Rattle.std.specs.HashMap.{get}
use Rattle.wb_values.specs.Value.{truth, word}
use Rattle.model_meaning.specs.Term.{sort_of}
use Rattle.wb_terms.specs.Graph.{tree}
use Rattle.ob_mem.proofs.Imaging.{image_by, update_sorts, word_image, memory_words, store_image}
use Rattle.ob_mem.proofs.images.put_update.Goals as goal

pub image-row-requires : goal.image-row-requires
image-row-requires c = c.requires.images.0.0

pub image-address-requires : goal.image-address-requires
image-address-requires c = c.requires.images.1.0.0

pub image-x-requires : goal.image-x-requires
image-x-requires c = c.requires.images.1.1.0.0

pub put_store-requires-clause-words : goal.put_store-requires-clause-words
put_store-requires-clause-words c =
    let g = c.args.old.now in
    let h = c.args.terms.now in
    let rs = c.args.list.now in
    let is = get nat_eq c.args.images.now in
    let o = c.requires.images in
    let s = update_sorts (sort_of (tree g c.args.parts.0.0)) (sort_of (tree g c.args.parts.1.0)) (sort_of (tree g c.args.parts.2.0)) c.args.address_width c.requires.sort.0 c.requires.sort.1 in
    let im = image_by g.names rs h is c.image-row.result c.args.parts.0 (tree g c.args.parts.0.0) c.image-row.ensures o.0.1 in
    let ix = image_by g.names rs h is c.image-x.result c.args.parts.2 (tree g c.args.parts.2.0) c.image-x.ensures o.1.1.0.1 in (
      c.requires.sort.0,
      memory_words g.names rs h c.image-row.result.0 (tree g c.args.parts.0.0) c.args.address_width c.requires.sort.0 s.0 im,
      (word_image g.names rs h c.image-x.result.0 (tree g c.args.parts.2.0) c.requires.sort.0 s.2 ix).plain,
    )

pub put_store-requires-clause-address : goal.put_store-requires-clause-address
put_store-requires-clause-address c =
    let g = c.args.old.now in
    let h = c.args.terms.now in
    let rs = c.args.list.now in
    let is = get nat_eq c.args.images.now in
    let o = c.requires.images in
    let s = update_sorts (sort_of (tree g c.args.parts.0.0)) (sort_of (tree g c.args.parts.1.0)) (sort_of (tree g c.args.parts.2.0)) c.args.address_width c.requires.sort.0 c.requires.sort.1 in
    let ii = image_by g.names rs h is c.image-address.result c.args.parts.1 (tree g c.args.parts.1.0) c.image-address.ensures o.1.0.1 in
    (word_image g.names rs h c.image-address.result.0 (tree g c.args.parts.1.0) c.args.address_width s.1 ii).plain

pub returns-clause-image : goal.returns-clause-image
returns-clause-image c =
    let g = c.args.old.now in
    let h = c.args.terms.now in
    let rs = c.args.list.now in
    let is = get nat_eq c.args.images.now in
    let o = c.requires.images in
    let a = c.args.address_width in
    let d = c.requires.sort.0 in
    let s = update_sorts (sort_of (tree g c.args.parts.0.0)) (sort_of (tree g c.args.parts.1.0)) (sort_of (tree g c.args.parts.2.0)) a d c.requires.sort.1 in
    let im = image_by g.names rs h is c.image-row.result c.args.parts.0 (tree g c.args.parts.0.0) c.image-row.ensures o.0.1 in
    let ii = image_by g.names rs h is c.image-address.result c.args.parts.1 (tree g c.args.parts.1.0) c.image-address.ensures o.1.0.1 in
    let ix = image_by g.names rs h is c.image-x.result c.args.parts.2 (tree g c.args.parts.2.0) c.image-x.ensures o.1.1.0.1 in
    let ws = c.in_ok-id.ensures.words d (memory_words g.names rs h c.image-row.result.0 (tree g c.args.parts.0.0) a d s.0 im) (word_image g.names rs h c.image-x.result.0 (tree g c.args.parts.2.0) d s.2 ix).plain in
    store_image g h c.put_store.new.terms rs (tree g c.args.parts.0.0) (tree g c.args.parts.1.0) (tree g c.args.parts.2.0) c.image-row.result c.image-address.result c.image-x.result c.in_ok-id.id.0 a d s.0 s.1 s.2 c.requires.sort.1
    im ii ix c.in_ok-id.ensures.grows ws c.in_ok-id.ensures.values
