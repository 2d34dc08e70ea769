use Rattle.std.proofs.Common.{◌∙◌, Vec, Global, ap, sym, arith}
use Rattle.emitted_names.specs.declared.ways.Way.{Way}
use Rattle.emitted_names.proofs.Bounds.{update_within}
use Rattle.emitted_names.proofs.PartLists.{no_ways, one_way, way_passed, ways_done}
use Rattle.emitted_names.proofs.ways.ways.Goals.{then-is_of_memory+in_ok-way+in_ok-push, else-is_of_memory}
use Rattle.emitted_names.proofs.ways.ways.Goals as goal

pub loop-place-init : goal.loop-place-init
loop-place-init c = no_ways c.args.terms.now c.args.instruction c.args.decode.0 c.args.updates.now _ c.new-ways.ensures.items

pub is_of_memory-requires : goal.is_of_memory-requires
is_of_memory-requires c =
    (update_within c.args.terms.now c.args.updates.now c.loop-place.place c.update_at-update.result c.requires.within c.update_at-update.ensures).0

pub memory_way-requires : goal.memory_way-requires
memory_way-requires c =
    let b = update_within c.args.terms.now c.args.updates.now c.loop-place.place c.update_at-update.result c.requires.within c.update_at-update.ensures in
    record { ordered = c.requires.ordered; decode = c.requires.decode; state = b.0; term = b.1 }

pub loop-place-preserved : goal.loop-place-preserved
loop-place-preserved c =
    let l = c.loop-place in
    elim c.if-is_of_memory.branch [
      | then-is_of_memory+in_ok-way+in_ok-push w ↦ one_way c.args.terms.now c.args.instruction c.args.decode.0 c.args.updates.now l.place c.update_at-update.result l.ways.items _
          w.in_ok-way.way c.update_at-update.ensures (sym c.is_of_memory.ensures ∙ w.if-is_of_memory.true) w.in_ok-way.ensures.way w.in_ok-way.ensures.update
          (ap (λ (v : Vec Way Global). v.items) w.ways-is ∙ w.in_ok-push.ensures.items) l.invariant
      | else-is_of_memory w ↦ way_passed c.args.terms.now c.args.instruction c.args.decode.0 c.args.updates.now l.place c.update_at-update.result l.ways.items _
          c.update_at-update.ensures (sym c.is_of_memory.ensures ∙ w.if-is_of_memory.false) (ap (λ (v : Vec Way Global). v.items) w.ways-is) l.invariant
    ]

pub returns-clause-each : goal.returns-clause-each
returns-clause-each c = c.loop-place.invariant.each

pub returns-clause-updates : goal.returns-clause-updates
returns-clause-updates c =
    ways_done c.args.terms.now c.args.instruction c.args.decode.0 c.args.updates.now c.loop-place.place c.loop-place.ways.items
    (omega (arith, c.loop-place-test.false)) c.loop-place.invariant
