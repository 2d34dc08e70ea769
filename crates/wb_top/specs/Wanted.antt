-- What the code's command stands for.
use Rattle.std.specs.Prelude.{map}
use Rattle.std.specs.String.{string_bytes}
use Rattle.wb_top.specs.Words.{Command}
use Rattle.wb_top.specs.Verbs.{verb_view}
use Rattle.wb_top.specs.declared.wanted.Wanted.{Wanted}

abbrev pub command_view : Wanted → Command
command_view w = record { verb = verb_view w.verb; files = map string_bytes w.files.items }
