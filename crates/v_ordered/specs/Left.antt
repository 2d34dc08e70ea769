-- What is left to be told: a stack of names and of places.
use Rattle.std.specs.Prelude.{ℕ, List, [], ◌∷◌, ◌++◌}
use Rattle.wb_values.specs.Value.{Name}
use Rattle.v_ordered.specs.declared.task.Task.{Task}
use Rattle.v_ordered.specs.declared.task.Task.TheVariants as variants

-- the names that one of them tells
abbrev pub told_by : (lists : ℕ → List Name) → Task → List Name
told_by lists (variants.Name n) = n.now ∷ []
told_by lists (variants.Place k) = lists k

-- those that all of them tell, the last one first
abbrev pub names_left : (lists : ℕ → List Name) → List Task → List Name
names_left lists [] = []
names_left lists (t ∷ ts) = names_left lists ts ++ told_by lists t
