use Rattle.v_design.specs.Parts.{inputs_of}
use Rattle.v_design.specs.Seen.{parts_of}
use Rattle.trace_reading.proofs.Turns.{put_name}
use Rattle.trace_reading.proofs.tables.input_table.Goals as goal

pub loop-place-preserved : goal.loop-place-preserved
loop-place-preserved c =
    let d = c.args.design.now in
    put_name (inputs_of (parts_of d)) c.loop-place.table c.insert.new.self c.input_name.result c.loop-place.place c.in_ok-insert.ensures.updates
    c.input_name.ensures c.loop-place.invariant
