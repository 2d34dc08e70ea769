-- Clock nets that stand otherwise than as an event or as the whole of what is connected to an input, place by place.
use Rattle.std.specs.Prelude.{ℕ, ◌+◌, Bool, true, false, ◌||◌, List, [], ◌∷◌}
use Rattle.std.specs.List.{list_any}
use Rattle.wb_values.specs.Value.{Name}
use Rattle.verilog_designs.specs.Clocks.{names_in_module}
use Rattle.v_places.specs.Below.{Spot}
use Rattle.v_clocks.specs.Uses.{Use, no_clock, as_data, as_clock, spot_uses}
use Rattle.v_clocks.specs.Nets.{nets_at}

abbrev pub is_data : Use → Bool
is_data no_clock = false
is_data as_data = true
is_data (as_clock p) = false

-- in the module of a place that has this number, or in what is connected to its instance
abbrev pub has_data_at : List (Name → Bool) → ℕ → Spot → Bool
has_data_at nets k x = list_any (nets_at nets k) (names_in_module x.of_module) || list_any is_data (spot_uses (nets_at nets x.parent) x)

-- in one of these places, the first of which has this number
abbrev pub has_data_from : List (Name → Bool) → ℕ → List Spot → Bool
has_data_from nets k [] = false
has_data_from nets k (x ∷ xs) = has_data_at nets k x || has_data_from nets (k + 1) xs

abbrev pub has_data : List (Name → Bool) → List Spot → Bool
has_data nets spots = has_data_from nets 0 spots
