use Rattle.std.proofs.Common.{arith}
use Rattle.map_paths.proofs.Put.{place_added, places_added}
use Rattle.map_paths.proofs.instances.tables_of.Goals as goal

pub loop-place-preserved : goal.loop-place-preserved
loop-place-preserved c =
    let many = c.loop-place.invariant.0 in
    let first = c.in_ok-add_child.ensures.length in
    let second = c.in_ok-add_table.ensures.length in (
      omega (arith, many, first, second),
      place_added c.args.places.now c.loop-place.place-index c.place-item.result _ c.loop-place.tables.items c.add_child.new.tables.items c.add_table.new.tables.items
          (omega arith) c.place-item.is many c.loop-place.invariant.1 c.in_ok-add_child.ensures.below c.in_ok-add_table.ensures.below,
    )

pub returns : goal.returns
returns c = places_added c.args.places.now c.loop-place.place-index c.loop-place.tables.items (omega (arith, c.loop-place-test.false)) c.loop-place.invariant.1
