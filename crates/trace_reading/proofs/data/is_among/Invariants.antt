use Rattle.std.proofs.Common.{◌≡◌, drop, map}
use Rattle.model_meaning.specs.Among.{is_name_in}
use Rattle.trace_reading.proofs.data.is_among.Given as goal

abbrev pub invariant-loop-key : goal.invariant-loop-key
invariant-loop-key l = is_name_in l.name (map (λ k. k.now) l.keys) ≡ is_name_in l.name (map (λ k. k.now) (drop l.key-index l.keys))
