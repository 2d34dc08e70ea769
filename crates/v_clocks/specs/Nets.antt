-- The clock nets of the modules in a list of places, one after the other: each place comes behind the one around it.
use Rattle.std.specs.Prelude.{ℕ, Bool, false, List, [], ◌∷◌, ◌++◌, get_or}
use Rattle.std.specs.List.{list_any}
use Rattle.wb_values.specs.Value.{Name, same_name}
use Rattle.v_places.specs.Below.{Spot}
use Rattle.v_clocks.specs.Uses.{Use, no_clock, as_data, as_clock, spot_uses}

-- the connection makes the port of this name a clock net
abbrev pub gives : Name → Use → Bool
gives n no_clock = false
gives n as_data = false
gives n (as_clock p) = same_name p n

-- The clock nets below a module with these ones: the ports that are given one.
abbrev pub nets_below : (around : Name → Bool) → Spot → Name → Bool
nets_below around x n = list_any (gives n) (spot_uses around x)

-- those of the module with this number
abbrev pub nets_at : List (Name → Bool) → ℕ → Name → Bool
nets_at nets k = get_or nets k (λ n. false)

-- Those of the next module, after the ones before it. The first one is the top.
abbrev pub nets_next : (clock : Name) → List (Name → Bool) → Spot → Name → Bool
nets_next clock [] x = λ n. same_name clock n
nets_next clock (b ∷ bs) x = λ n. nets_below (nets_at (b ∷ bs) x.parent) x n

abbrev pub nets_after : (clock : Name) → List (Name → Bool) → List Spot → List (Name → Bool)
nets_after clock before [] = before
nets_after clock before (x ∷ xs) = nets_after clock (before ++ nets_next clock before x ∷ []) xs

abbrev pub nets_of : (clock : Name) → List Spot → List (Name → Bool)
nets_of clock spots = nets_after clock [] spots
