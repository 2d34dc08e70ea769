-- The paths of the modules in a list of places, where each parent comes before what stands below it.
use Rattle.std.specs.Prelude.{◌≡◌, ◌<◌, ◌⊎◌, ℕ, List, [], ◌∷◌, ◌++◌, slice_get, Option, Some, None, ⊤}
use Rattle.wb_values.specs.Value.{Name}
use Rattle.verilog_trees.specs.Syntax.{by_order, Source}
use Rattle.verilog_meaning.specs.Hierarchy.{PathStep, instance_step, Placed, module_named, dotted}
use Rattle.v_places.specs.Below.{Spot}
use Rattle.v_places.specs.Places.{placed_by}

-- an instance of this name, in a module at a path; the top is in none
abbrev pub path_below : Option (List PathStep) → Name → List PathStep
path_below None u = []
path_below (Some around) u = instance_step u ∷ around

-- the paths of these, after those of the ones before them
abbrev pub paths_after : List (List PathStep) → List Spot → List (List PathStep)
paths_after before [] = before
paths_after before (x ∷ xs) = paths_after (before ++ path_below (slice_get before x.parent) x.instance ∷ []) xs

abbrev pub paths_of : List Spot → List (List PathStep)
paths_of spots = paths_after [] spots

-- the modules of a list, each at its path
abbrev pub placed_at_paths : List (List PathStep) → List Spot → List Placed
placed_at_paths [] xs = []
placed_at_paths (q ∷ qs) [] = []
placed_at_paths (q ∷ qs) (x ∷ xs) = placed_by q x ∷ placed_at_paths qs xs

abbrev pub placed_of : List Spot → List Placed
placed_of spots = placed_at_paths (paths_of spots) spots

-- what stands before a name in its dotted name
abbrev pub front_of : List PathStep → Name
front_of path = dotted path []

-- The module is the first of its name in the source; and it is connected to nothing, or the module around it has a number below n.
abbrev pub IsRowOf : Source → ℕ → Spot → Type 0
IsRowOf source n x = (module_named source x.of_module.module_name ≡ Some x.of_module) × ((x.connections ≡ by_order []) ⊎ (x.parent < n))

abbrev pub AreRowsOf : Source → ℕ → List Spot → Type 0
AreRowsOf source n [] = ⊤
AreRowsOf source n (x ∷ xs) = IsRowOf source n x × AreRowsOf source n xs
