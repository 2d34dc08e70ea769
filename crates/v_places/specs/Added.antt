-- A list of places with a part more, as long as there is room.
use Rattle.std.specs.Prelude.{◌≡◌, ◌≤◌, ◌<◌, ◌+◌, ◌++◌, ℕ, Option, Some, None, List, length}
use Rattle.v_places.specs.Below.{Spot}

-- A part was added to a list, where there were so many places, and there are so many then: the top and at most 65,536 more. Or there is no
-- room for it.
abbrev pub IsAdded : (before : ℕ) → Option ℕ → (new old part : List Spot) → Type 0
IsAdded before (Some after) new old part = (new ≡ old ++ part) × (after ≡ before + length part) × (before ≤ 65537 → after ≤ 65537)
IsAdded before None new old part = 65537 < before + length part
