use Rattle.std.proofs.Common.{◌≡◌, ◌∙◌, ◌+◌, ◌≤◌, length, take, sym, subst, arith}
use Rattle.std.specs.Prelude.{nat_eq}
use Rattle.std.specs.HashMap.{get}
use Rattle.wb_terms.specs.Graph.{tree}
use Rattle.sat_gates.specs.Cone.{places}
use Rattle.sat_gates.proofs.Reached.{nothing_done, root_done, term_at, place_at, place_below, places_end}
use Rattle.ob_mem.specs.Images.{HasImage}
use Rattle.ob_mem.proofs.Growing.{Grows-refl, Grows-trans}
use Rattle.ob_mem.proofs.Imaging.{images_more}
use Rattle.ob_mem.proofs.Counting.{have_images, next_count, all_count}
use Rattle.ob_mem.proofs.images.put_images.Goals as goal

pub loop-place-init : goal.loop-place-init
loop-place-init c =
    let g = c.args.old.now in (
      Grows-refl c.args.terms.now,
      nothing_done (HasImage g.names c.args.list.now g c.args.terms.now (get nat_eq c.new-images.result)) (places c.args.ids.now),
      omega arith,
    )

pub node_of-node-requires : goal.node_of-node-requires
node_of-node-requires c =
    (c.requires.parts c.term_in-id.result.0 (term_at c.args.old.now c.args.root.0 c.args.ids.now c.loop-place.place c.term_in-id.result c.requires.cone c.loop-place-test.true c.term_in-id.ensures)).0

pub put_image-requires-clause-id : goal.put_image-requires-clause-id
put_image-requires-clause-id c =
    (c.requires.parts c.term_in-id.result.0 (term_at c.args.old.now c.args.root.0 c.args.ids.now c.loop-place.place c.term_in-id.result c.requires.cone c.loop-place-test.true c.term_in-id.ensures)).0

pub put_image-requires-clause-images : goal.put_image-requires-clause-images
put_image-requires-clause-images c =
    let ids = c.args.ids.now in
    let place = c.loop-place.place in
    let x = c.term_in-id.result in
    let i = c.loop-place-test.true in
    have_images c.args.old.now c.loop-place.terms c.args.list.now (get nat_eq c.loop-place.images) c.args.root.0 (places ids) place x.0 c.node_of-node.result c.requires.cone
    (place_below ids place i) (place_at ids place x i c.term_in-id.ensures) c.node_of-node.ensures.put c.node_of-node.ensures.over.operands c.loop-place.invariant.1

pub loop-place-preserved : goal.loop-place-preserved
loop-place-preserved c =
    let l = c.loop-place in
    let ids = c.args.ids.now in
    let x = c.term_in-id.result in
    let i = c.loop-place-test.true in
    let e = place_at ids l.place x i c.term_in-id.ensures in
    let image = c.in_ok-image.ensures in (
      Grows-trans l.invariant.0 image.grows,
      images_more c.args.old.now l.terms c.put_image.new.terms c.args.list.now (places ids) l.place x.0 (get nat_eq l.images) (get nat_eq c.insert.new.self) c.in_ok-image.image
          image.grows e c.in_ok-insert.ensures.updates.0 image.image l.invariant.1,
      next_count c.args.old.now (places ids) l.place x.0 (length c.args.terms.now.nodes) (length l.terms.nodes) (length c.put_image.new.terms.nodes) (place_below ids l.place i) e l.invariant.2 image.count,
    )

pub returns-clause-image : goal.returns-clause-image
returns-clause-image c =
    let g = c.args.old.now in
    let l = c.loop-place in
    root_done (HasImage g.names c.args.list.now g l.terms (get nat_eq l.images)) g c.args.root.0 (places c.args.ids.now) l.place c.requires.cone (places_end c.args.ids.now l.place c.loop-place-test.false) l.invariant.1

pub returns-clause-count : goal.returns-clause-count
returns-clause-count c =
    let l = c.loop-place in
    all_count c.args.old.now (places c.args.ids.now) l.place (length c.args.terms.now.nodes) (length l.terms.nodes) (places_end c.args.ids.now l.place c.loop-place-test.false) l.invariant.2
