use Rattle.std.proofs.Common.{◌≡◌, ◌∷◌, ◌++◌, map, drop, string_bytes}
use Rattle.wb_top.proofs.words.files_of_replay.Given as goal

abbrev pub invariant-loop-design : goal.invariant-loop-design
invariant-loop-design l =
    map string_bytes l.names.items ++ map (λ s. s.now) (drop l.design-index l.design-items)
    ≡ l.replay.model.now ∷ l.replay.map.now ∷ l.replay.trace.now ∷ map (λ s. s.now) l.replay.designs.items
