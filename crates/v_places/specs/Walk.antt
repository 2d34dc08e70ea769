-- When a list is the top and then what stands below each of it, in its order: breadth first.
use Rattle.std.specs.Prelude.{◌≡◌, ◌<◌, ◌≤◌, ℕ, suc, Bool, true, false, List, [], ◌∷◌, length, take}
use Rattle.verilog_trees.specs.Syntax.{Module, Source}
use Rattle.v_places.specs.Below.{Spot, top_spot, all_below}

-- each parent comes before what stands below it, where the first of these has this number
abbrev pub AreBefore : ℕ → List Spot → Type 0
AreBefore b [] = Unit {0}
AreBefore b (x ∷ xs) = (x.parent < b) × AreBefore (suc b) xs

-- after the top comes what stands below the first so many
pub record IsWalked (source : Source) (top : Module) (n : ℕ) (spots : List Spot) : Type 0 where
  pub rest : List Spot
  pub is : spots ≡ top_spot top ∷ rest
  pub whole : rest ≡ all_below source 0 (take n spots)
  pub ordered : AreBefore 1 rest

-- All of it has been visited, and it has the top and at most 65,536 more; or there would be more.
abbrev pub IsWalk : Source → Module → Bool → List Spot → Type 0
IsWalk source top true spots = IsWalked source top (length spots) spots × (length spots ≤ 65537)
IsWalk source top false spots = (n : ℕ) × (longer : List Spot) × IsWalked source top n longer × (65537 < length longer)
