-- What the names that a script may set stand for.
use Rattle.std.specs.Prelude.{map}
use Rattle.scripts.specs.Script.{Settables}
use Rattle.ila_sim.specs.declared.settables.Names.{Names}
use Rattle.ila_sim.specs.Names.{settable_of}

abbrev pub settables_view : Names → Settables
settables_view n = record { states = map settable_of n.states.items; inputs = map settable_of n.inputs.items }
