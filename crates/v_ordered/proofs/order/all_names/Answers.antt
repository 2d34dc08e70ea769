use Rattle.std.proofs.Common.{◌∙◌, ◌++◌, ◌∷◌, [], ap, sym}
use Rattle.v_places.specs.Views.{spots_of}
use Rattle.v_ordered.specs.Tables.{seen, line_at}
use Rattle.v_ordered.proofs.Lined.{listed, listed_is}
use Rattle.v_ordered.proofs.Told.{name_told, name_fewer, place_put, place_fewer, all_told}
use Rattle.v_ordered.proofs.order.all_names.Goals as goal

pub loop-task-smaller-in-Continue-branch-2 : goal.loop-task-smaller-in-Continue-branch-2
loop-task-smaller-in-Continue-branch-2 c =
    name_fewer (listed ([] ∷ []) (spots_of c.args.places.now) c.args.tables.now c.args.below.now) c.loop-task.stack.items c.pop.new.self.items c.in-Name.name
    (c.in-Some.ensures.items ∙ ap (λ t. c.pop.new.self.items ++ t ∷ []) c.in-Name.is)

pub loop-task-preserved-in-Continue-branch-2 : goal.loop-task-preserved-in-Continue-branch-2
loop-task-preserved-in-Continue-branch-2 c =
    let lists = listed [] (spots_of c.args.places.now) c.args.tables.now c.args.below.now in
    name_told lists c.loop-task.stack.items c.pop.new.self.items c.in-Name.name c.loop-task.names.items c.push-in-Name.new.self.items (lists 0)
    (c.in-Some.ensures.items ∙ ap (λ t. c.pop.new.self.items ++ t ∷ []) c.in-Name.is) c.in_ok-push-in-Name.ensures.items c.loop-task.invariant

pub loop-task-smaller : goal.loop-task-smaller
loop-task-smaller c =
    let spots = spots_of c.args.places.now in
    let marks = listed ([] ∷ []) spots c.args.tables.now c.args.below.now in
    place_fewer marks c.loop-task.stack.items c.pop.new.self.items c.put_place.new.stack.items c.in-Place.number
    (line_at spots c.args.tables.now c.args.below.now marks c.in-Place.number)
    (c.in-Some.ensures.items ∙ ap (λ t. c.pop.new.self.items ++ t ∷ []) c.in-Place.is) (c.in_ok-put_place-in-Place.ensures marks)
    (listed_is ([] ∷ []) spots c.args.tables.now c.args.below.now c.requires.numbers c.in-Place.number)

pub loop-task-preserved : goal.loop-task-preserved
loop-task-preserved c =
    let spots = spots_of c.args.places.now in
    let lists = listed [] spots c.args.tables.now c.args.below.now in
    place_put lists c.loop-task.stack.items c.pop.new.self.items c.put_place.new.stack.items c.in-Place.number
    (line_at spots c.args.tables.now c.args.below.now lists c.in-Place.number)
    (c.in-Some.ensures.items ∙ ap (λ t. c.pop.new.self.items ++ t ∷ []) c.in-Place.is) (c.in_ok-put_place-in-Place.ensures lists)
    (seen c.loop-task.names.items) (lists 0) (listed_is [] spots c.args.tables.now c.args.below.now c.requires.numbers c.in-Place.number) c.loop-task.invariant

pub returns : goal.returns
returns c =
    let spots = spots_of c.args.places.now in
    let lists = listed [] spots c.args.tables.now c.args.below.now in (
      lists,
      listed_is [] spots c.args.tables.now c.args.below.now c.requires.numbers,
      all_told lists c.loop-task.stack.items (seen c.loop-task.names.items) (lists 0) (sym c.loop-task.stack.ok.0 ∙ c.in_default.ensures.cases.0)
          c.loop-task.invariant,
    )
