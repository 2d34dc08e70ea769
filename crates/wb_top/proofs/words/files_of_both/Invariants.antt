use Rattle.std.proofs.Common.{◌≡◌, ◌∷◌, ◌++◌, map, drop, string_bytes}
use Rattle.wb_top.proofs.words.files_of_both.Given as goal

abbrev pub invariant-loop-design : goal.invariant-loop-design
invariant-loop-design l =
    map string_bytes l.names.items ++ map (λ s. s.now) (drop l.design-index l.design-items)
    ≡ l.simulate.model.now ∷ l.simulate.map.now ∷ l.simulate.script.now ∷ map (λ s. s.now) l.simulate.designs.items
