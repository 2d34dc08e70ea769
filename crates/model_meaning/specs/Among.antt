-- Names in lists: whether one is there, and whether one stands there twice.
use Rattle.std.specs.Prelude.{Bool, false, ◌||◌, List, [], ◌∷◌}
use Rattle.wb_values.specs.Value.{Name, same_name}

abbrev pub is_name_in : Name → List Name → Bool
is_name_in n [] = false
is_name_in n (k ∷ ks) = same_name n k || is_name_in n ks

-- some name stands twice in the list
abbrev pub has_twice : List Name → Bool
has_twice [] = false
has_twice (n ∷ ns) = is_name_in n ns || has_twice ns
