use Rattle.std.proofs.Common.{◌≡◌, ◌<◌, ◌∙◌, [], length, sym, ap, arith}
use Rattle.std.proofs.lemmas.List.{length-take-le, get_or-take}
use Rattle.wb_values.specs.Value.{truth}
use Rattle.v_design.specs.Parts.{registers_of}
use Rattle.v_design.specs.Seen.{parts_of}
use Rattle.trace_reading.proofs.Turns.{put_name}
use Rattle.trace_reading.proofs.tables.register_table.Goals as goal

pub loop-place-preserved : goal.loop-place-preserved
loop-place-preserved c =
    let d = c.args.design.now in
    put_name (registers_of (parts_of d)) c.loop-place.table c.insert.new.self c.register_name.result c.loop-place.place c.in_ok-insert.ensures.updates
    c.register_name.ensures c.loop-place.invariant
