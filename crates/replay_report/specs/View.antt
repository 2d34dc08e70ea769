-- What the code's ending stands for.
use Rattle.std.specs.Prelude.{string_bytes}
use Rattle.trace_reading.specs.Rule.{rule_view}
use Rattle.trace_replay.specs.Replayed.{replayed_view}
use Rattle.replay_report.specs.Ending.{Ending, broken, told}
use Rattle.replay_report.specs.declared.replaying.Ending as code
use Rattle.replay_report.specs.declared.replaying.Ending.TheVariants.{Told, Refused}

abbrev pub ending_view : code.Ending → Ending
ending_view (Told answer line) = told (replayed_view answer) (string_bytes line)
ending_view (Refused r) = broken (rule_view r.rule)
