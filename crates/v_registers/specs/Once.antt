-- The names of a list, each where it first stands.
use Rattle.std.specs.Prelude.{Bool, cond, List, [], ◌∷◌}
use Rattle.wb_values.specs.Value.{Name, same_name}

abbrev pub others : Name → List Name → List Name
others n [] = []
others n (m ∷ ms) = cond (same_name n m) (others n ms) (m ∷ others n ms)

abbrev pub each_once : List Name → List Name
each_once [] = []
each_once (n ∷ ns) = n ∷ others n (each_once ns)

-- those that are not in a set
abbrev pub outside : (Name → Bool) → List Name → List Name
outside f [] = []
outside f (n ∷ ns) = cond (f n) (outside f ns) (n ∷ outside f ns)
