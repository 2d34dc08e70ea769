use Rattle.std.proofs.Common.{◌≡◌, map}
use Rattle.serde_json.specs.View.{members_view}
use Rattle.model_places.specs.KeyPlaces.{first_other_key}
use Rattle.map_file.proofs.keys.other_key.Given as goal

abbrev pub invariant-loop-key : goal.invariant-loop-key
invariant-loop-key l =
    first_other_key (map (λ k. k.now) l.keys) (members_view l.initial.key-iterator) ≡ first_other_key (map (λ k. k.now) l.keys) (members_view l.key-iterator)
