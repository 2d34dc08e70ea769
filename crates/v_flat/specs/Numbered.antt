-- Names by the numbers of the modules in a list: before each name stands the number of its module and a dot. So a name is no longer where its
-- module stands deeper. Those of the first module, which is the top, may be left as they are.
use Rattle.std.specs.Prelude.{ℕ, suc, ◌+◌, ◌==◌, Bool, ◌&&◌, cond, List, [], ◌∷◌, ◌++◌}
use Rattle.std.specs.Fmt.{decimal}
use Rattle.wb_values.specs.Value.{Name, same_name}
use Rattle.verilog_meaning.specs.Hierarchy.{PathStep}
use Rattle.flat_designs.specs.Flat.{Naming}
use Rattle.v_places.specs.Below.{Spot}
use Rattle.v_flat.specs.Paths.{front_of, paths_of}
use Rattle.v_flat.specs.Entries.{SpotNames, spot_names}

-- what stands before the names of the module with a number
abbrev pub number_front : (top_is_plain : Bool) → ℕ → Name
number_front top_is_plain k = cond (top_is_plain && k == 0) [] (decimal k ++ 46 ∷ [])

-- the number of the first path that is written like this one; of none, how many there are
abbrev pub number_among : List (List PathStep) → List PathStep → ℕ
number_among [] q = 0
number_among (p ∷ ps) q = cond (same_name (front_of p) (front_of q)) 0 (suc (number_among ps q))

abbrev pub numbered : (top_is_plain : Bool) → List Spot → Naming
numbered top_is_plain spots q n = number_front top_is_plain (number_among (paths_of spots) q) ++ n

-- the names of modules of which the first has this number
abbrev pub numbered_from : (top_is_plain : Bool) → ℕ → List Spot → List SpotNames
numbered_from top_is_plain k [] = []
numbered_from top_is_plain k (x ∷ xs) = spot_names (number_front top_is_plain k) x ∷ numbered_from top_is_plain (k + 1) xs
