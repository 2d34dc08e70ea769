use Rattle.std.proofs.Common.{◌++◌, map, ap, arith}
use Rattle.emitted_names.specs.Parts.{via_called, parts_named}
use Rattle.emitted_names.proofs.PartLists.{called, part_pushed, parts_all}
use Rattle.emitted_names.proofs.ways.via_parts.Goals as goal

pub loop-place-init : goal.loop-place-init
loop-place-init c = ap (λ ps. parts_named ps ++ map (called (via_called c.args.instruction c.args.memory.now)) c.args.ids.now) c.new-parts.ensures.items

pub loop-place-preserved : goal.loop-place-preserved
loop-place-preserved c =
    let l = c.loop-place in
    part_pushed (via_called c.args.instruction c.args.memory.now) c.args.ids.now l.place c.id_at.result _ l.parts.items _ c.in_ok-part.part c.id_at.ensures l.invariant c.in_ok-part.ensures.id
    (c.in_ok-part.ensures.name) c.in_ok-push.ensures.items

pub returns : goal.returns
returns c = parts_all (via_called c.args.instruction c.args.memory.now) c.args.ids.now c.loop-place.place c.loop-place.parts.items (omega (arith, c.loop-place-test.false)) c.loop-place.invariant
