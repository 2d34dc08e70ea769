-- What the code's verb stands for.
use Rattle.std.specs.String.{string_bytes}
use Rattle.wb_top.specs.Words.{Verb, check, simulate, simulate_rtl, replay, simulate_both, emit}
use Rattle.wb_top.specs.declared.verb.Verb as code
use Rattle.wb_top.specs.declared.verb.Verb.TheVariants.{Check, Simulate, SimulateRtl, Replay, SimulateBoth, Emit}

abbrev pub verb_view : code.Verb → Verb
verb_view (Check budget) = check budget
verb_view Simulate = simulate
verb_view (SimulateRtl d) = simulate_rtl (string_bytes d.top) (string_bytes d.clock)
verb_view Replay = replay
verb_view SimulateBoth = simulate_both
verb_view (Emit map_only) = emit map_only
