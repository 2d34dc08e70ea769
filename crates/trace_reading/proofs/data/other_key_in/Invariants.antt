use Rattle.std.proofs.Common.{◌≡◌, map}
use Rattle.serde_json.specs.View.{members_view}
use Rattle.model_files.specs.Keys.{has_other_key}
use Rattle.trace_reading.proofs.data.other_key_in.Given as goal

abbrev pub invariant-loop-key : goal.invariant-loop-key
invariant-loop-key l =
    has_other_key (map (λ k. k.now) l.keys) (members_view l.initial.key-iterator) ≡ has_other_key (map (λ k. k.now) l.keys) (members_view l.key-iterator)
