-- What the code's ending stands for.
use Rattle.std.specs.Prelude.{string_bytes}
use Rattle.ila_sim.specs.declared.refusal.ScriptKind.{ScriptKind}
use Rattle.ila_sim.specs.declared.refusal.ScriptKind.TheVariants.{BadLine, MissingInput}
use Rattle.run_watch.specs.View.{watched_of}
use Rattle.watch_report.specs.Ending.{Ending, bad_line, missing_input, told}
use Rattle.watch_report.specs.declared.watching.Ending as code
use Rattle.watch_report.specs.declared.watching.Ending.TheVariants.{Told, Refused}

abbrev pub refused_as : ScriptKind → Ending
refused_as BadLine = bad_line
refused_as MissingInput = missing_input

abbrev pub ending_view : code.Ending → Ending
ending_view (Told answer line) = told (watched_of answer) (string_bytes line)
ending_view (Refused r) = refused_as r.kind
