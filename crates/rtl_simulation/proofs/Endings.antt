-- From what is answered about a script and a design to what comes of the two.
use Rattle.std.proofs.Common.{◌≡◌, ℕ, List, refl, sym, subst}
use Rattle.scripts.specs.Script.{Settables, ScriptReading, is_script, bad_line, missing_input, script_reading}
use Rattle.verilog_meaning.specs.Settled.{Design}
use Rattle.verilog_designs.specs.Accepted.{IsAccepted}
use Rattle.design_scripts.specs.Names.{AreSettables}
use Rattle.ila_sim.specs.declared.whole.Simulation.{Simulation}
use Rattle.ila_sim.specs.declared.whole.Simulation.TheVariants.{Text, Refused}
use Rattle.v_sim.specs.Whole.{IsAnswer, IsSimulated}
use Rattle.rtl_simulation.specs.Ending.{Ending, ran, IsEnding}
use Rattle.rtl_simulation.specs.Seen.{ending_of_script}

abbrev pub ending_by : Simulation → Ending
ending_by (Text text) = ran text.items
ending_by (Refused refusal) = ending_of_script refusal.kind

by_reading : (d : Design) (bytes : List ℕ) (names : Settables) (r : ScriptReading) (s : Simulation) → IsAccepted d → AreSettables d names
    → script_reading names bytes ≡ r → IsAnswer d names r s → IsEnding d bytes (ending_by s)
by_reading d bytes names (is_script script) (Text text) accepted are is h = (
  accepted,
  record { names = names; script = script; is_read = record { are_names = are; is_reading = is }; is_told = h },
)
by_reading d bytes names (is_script script) (Refused refusal) accepted are is h = absurd h
by_reading d bytes names bad_line (Text text) accepted are is h = absurd h
by_reading d bytes names bad_line (Refused refusal) accepted are is h =
    subst (λ k. IsEnding d bytes (ending_of_script k)) (sym h) (accepted, names, record { are_names = are; is_reading = is })
by_reading d bytes names missing_input (Text text) accepted are is h = absurd h
by_reading d bytes names missing_input (Refused refusal) accepted are is h =
    subst (λ k. IsEnding d bytes (ending_of_script k)) (sym h) (accepted, names, record { are_names = are; is_reading = is })

pub ends : (d : Design) (bytes : List ℕ) (s : Simulation) → IsAccepted d → IsSimulated d bytes s → IsEnding d bytes (ending_by s)
ends d bytes s accepted h = by_reading d bytes h.names (script_reading h.names bytes) s accepted h.are_settables refl h.is_answer
