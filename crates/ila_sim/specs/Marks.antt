-- Which places are set.
use Rattle.std.specs.Prelude.{ℕ, suc, Bool, true, cond, List, [], ◌∷◌, slice_set, Option, Some, None}
use Rattle.ila_sim.specs.declared.set.Set.{Set}

-- the marks, and one at each place that is set
abbrev pub marks_of : List Bool → List Set → List Bool
marks_of xs [] = xs
marks_of xs (s ∷ ss) = marks_of (slice_set xs s.place true) ss

-- the place of the first mark that is not set, where the first of the list has the place k
abbrev pub first_unmarked : ℕ → List Bool → Option ℕ
first_unmarked k [] = None
first_unmarked k (b ∷ bs) = cond b (first_unmarked (suc k) bs) (Some k)
