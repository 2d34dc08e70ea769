use Rattle.std.proofs.Common.{◌≡◌, Option, None, Err}
use Rattle.ila_sim.specs.declared.stop.Stop.{Stop}
use Rattle.ila_sim.specs.declared.stop.Stop.TheVariants.{Memory, Refused}
use Rattle.ila_sim.specs.Reading.{IsReading}
use Rattle.ila_sim.specs.Scripts.{script_view}
use Rattle.ila_sim.specs.Settables.{settables_view}
use Rattle.ila_sim.proofs.Faulty.{bad_noted, bad_reading}
use Rattle.ila_sim.proofs.reading.read_script.Goals as goal

refused_none : {T A : Type 0} (view : T → A) (s : Stop) (wanted : Option A) → s ≡ Refused → IsReading view (Err s) wanted → wanted ≡ None
refused_none view Memory wanted e h = cc
refused_none view Refused wanted e h = h

pub refused-requires : goal.refused-requires
refused-requires c =
    let ns = settables_view c.args.names.now in
    bad_noted ns c.args.bytes.now (bad_reading ns c.args.bytes.now (refused_none (script_view ns) c.in-Err-Refused.field-0 _ c.in-Err-Refused.field-0-is c.in-Err-Refused.ensures.script))
