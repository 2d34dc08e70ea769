use Rattle.std.proofs.Common.{◌≡◌, ℕ, List, map, take}
use Rattle.map_terms.specs.Places.{first_place, first_places_at}
use Rattle.map_terms.proofs.places.places_of_instructions.Given as goal

abbrev pub invariant-loop-place : goal.invariant-loop-place
invariant-loop-place l = (n : List ℕ) → first_places_at l.places n ≡ first_place (map (λ e. e.name.now) (take l.place l.entries)) n
