use Rattle.std.proofs.Common.{◌∙◌, ap, Some}
use Rattle.v_places.specs.Views.{spot_of, spots_of}
use Rattle.map_memories.proofs.Numbers.{is_kept}
use Rattle.map_memories.proofs.Told.{there_told, nowhere_told, viewed_some, viewed_none, found_own, found_none}
use Rattle.map_memories.proofs.memories.has_memory_there.Goals as goal

pub returns-in-Some-Some : goal.returns-in-Some-Some
returns-in-Some-Some c =
    let k = is_kept (spots_of c.args.places.now) c.args.kept.now c.args.number c.in-Some-Some.memories c.requires.kept
    (found_own c.args.kept.now c.args.number c.get.result c.get.ensures.lookup.3 c.in-Some-Some.field-0 c.in-Some-Some.is ∙ ap Some c.in-Some-Some.field-0-is) in
    there_told _ k.0 c.args.name.now c.args.shape.address_width c.args.shape.width c.has_memory.result k.1 (c.has_memory.ensures k.0 k.2)

pub memories_of-requires : goal.memories_of-requires
memories_of-requires c =
    c.requires.narrow c.args.number (spot_of c.in-Some.place.now)
    (viewed_some spot_of c.args.places.now c.args.number c.in-Some.place.now (found_own c.args.places.now c.args.number c.get-2.result c.get-2.ensures.lookup.3 c.in-Some.place c.in-Some.is))

pub returns-in_ok-memories-in-Some : goal.returns-in_ok-memories-in-Some
returns-in_ok-memories-in-Some c =
    there_told _ (spot_of c.in-Some.place.now) c.args.name.now c.args.shape.address_width c.args.shape.width c.has_memory-in-Some.result
    (viewed_some spot_of c.args.places.now c.args.number c.in-Some.place.now (found_own c.args.places.now c.args.number c.get-2.result c.get-2.ensures.lookup.3 c.in-Some.place c.in-Some.is))
    (c.has_memory-in-Some.ensures (spot_of c.in-Some.place.now) c.in_ok-memories-in-Some.ensures)

pub returns-in-None : goal.returns-in-None
returns-in-None c =
    nowhere_told _ c.args.name.now c.args.shape.address_width c.args.shape.width
    (viewed_none spot_of c.args.places.now c.args.number (found_none c.args.places.now c.args.number c.get-2.result c.get-2.ensures.lookup.3 c.in-None.is))
