-- Names in the code's slices and sets.
use Rattle.std.specs.Prelude.{ℕ, Bool, List, map}
use Rattle.std.specs.Borrow.{Bor}
use Rattle.std.specs.Ordering.{nat_cmp}
use Rattle.std.specs.Cmp.Lexicographic.{slice_cmp}
use Rattle.std.specs.BTreeSet.{BTreeSet, contains_by}
use Rattle.wb_values.specs.Value.{Name}

-- the names of a slice of the code
abbrev pub texts : List (Bor (List ℕ)) → List Name
texts ns = map (λ n. n.now) ns

-- the name is in the set
abbrev pub has_name : BTreeSet (Bor (List ℕ)) → Name → Bool
has_name s n = contains_by (λ k. slice_cmp nat_cmp n k.now) s
