-- What each module of a list drives under its own names, and what outputs of its instances drive there.
use Rattle.std.specs.Prelude.{ℕ, zero, suc, ◌+◌, ◌==◌, cond, List, [], ◌∷◌, ◌++◌}
use Rattle.wb_values.specs.Value.{Name}
use Rattle.verilog_trees.specs.Syntax.{Expression, Target, output, Item, assign}
use Rattle.v_places.specs.Below.{Spot}
use Rattle.v_flat.specs.Items.{own_items, spot_links}

-- no new names
abbrev pub same_names : Name → Name
same_names n = n

-- what the outputs of an instance drive around it, as continuous assignments
abbrev pub outputs_of : Spot → List (Target × Expression)
outputs_of x = spot_links output same_names same_names x

-- those of the instances in the module with this number, an item for each instance
abbrev pub outputs_in : ℕ → List Spot → List Item
outputs_in k [] = []
outputs_in k (x ∷ xs) = cond (x.parent == k) (assign (outputs_of x) ∷ []) [] ++ outputs_in k xs

-- What each of these modules drives, of which the first has this number, where these are all modules: its assignments and blocks, then
-- what outputs of its instances drive.
abbrev pub with_outputs_from : List Spot → ℕ → List Spot → List (List Item)
with_outputs_from all k [] = []
with_outputs_from all k (x ∷ xs) = (own_items same_names x.of_module.items ++ outputs_in k all) ∷ with_outputs_from all (k + 1) xs

abbrev pub with_outputs : List Spot → List (List Item)
with_outputs spots = with_outputs_from spots 0 spots

-- ---- while they are made

abbrev pub own_lists : (Name → Name) → List Spot → List (List Item)
own_lists f [] = []
own_lists f (x ∷ xs) = own_items f x.of_module.items ∷ own_lists f xs

-- more items behind those of the list with this number, if there is one
abbrev pub added_at : ℕ → List Item → List (List Item) → List (List Item)
added_at k more [] = []
added_at zero more (l ∷ ls) = (l ++ more) ∷ ls
added_at (suc k) more (l ∷ ls) = l ∷ added_at k more ls

abbrev pub added_outputs : (Name → Name) → Spot → List (List Item) → List (List Item)
added_outputs f x ls = added_at x.parent (assign (spot_links output f f x) ∷ []) ls

abbrev pub all_added : (Name → Name) → List Spot → List (List Item) → List (List Item)
all_added f [] ls = ls
all_added f (x ∷ xs) ls = all_added f xs (added_outputs f x ls)
