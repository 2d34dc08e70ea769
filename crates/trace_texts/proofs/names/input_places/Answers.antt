use Rattle.std.proofs.Common.{◌+◌, ◌<◌, length, ◌∙◌, refl, arith}
use Rattle.std.proofs.lemmas.List.{length-drop}
use Rattle.v_design.specs.Parts.{inputs_of}
use Rattle.v_design.specs.Seen.{parts_of}
use Rattle.trace_texts.specs.Numbers.{numbers_in}
use Rattle.trace_texts.specs.Order.{input_name, is_any}
use Rattle.trace_texts.proofs.Turns.{put}
use Rattle.trace_texts.proofs.names.input_places.Goals as goal

pub loop-place-preserved : goal.loop-place-preserved
loop-place-preserved c =
    let d = parts_of c.args.design.now in
    let low : c.loop-place.place < length (inputs_of d) = omega (arith, c.loop-place-test.true, c.input_count-place-end.ensures, length-drop d.register_count d.graph.names) in
    put (input_name d) is_any c.loop-place.place (c.loop-place.place + 1) (length (inputs_of d)) (numbers_in c.add_name.new.names.entries)
    (numbers_in c.loop-place.names.entries) _ c.as_bytes-name.result.now (omega arith) low refl (c.as_bytes-name.ensures.value ∙ c.input_name.ensures)
    c.in_ok-add_name.ensures c.loop-place.invariant
