-- What the code's answer stands for.
use Rattle.v_judged.specs.Refusal.{kind_of}
use Rattle.ila_sim.specs.declared.refusal.ScriptKind.{ScriptKind}
use Rattle.ila_sim.specs.declared.refusal.ScriptKind.TheVariants.{BadLine, MissingInput}
use Rattle.rtl_simulation.specs.Ending.{Ending, broken, bad_line, missing_input, ran}
use Rattle.rtl_simulation.specs.declared.simulation.RtlSimulation.{RtlSimulation}
use Rattle.rtl_simulation.specs.declared.simulation.RtlSimulation.TheVariants as code

abbrev pub ending_of_script : ScriptKind → Ending
ending_of_script BadLine = bad_line
ending_of_script MissingInput = missing_input

abbrev pub ending_of : RtlSimulation → Ending
ending_of (code.Text text) = ran text.items
ending_of (code.Design kind) = broken (kind_of kind)
ending_of (code.Script refusal) = ending_of_script refusal.kind
