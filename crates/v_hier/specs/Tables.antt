-- Sets and tables by names: what stands there under a name.
use Rattle.std.specs.Prelude.{ℕ, Bool, List, Option}
use Rattle.std.specs.Borrow.{Bor}
use Rattle.std.specs.Ordering.{nat_cmp}
use Rattle.std.specs.Cmp.Lexicographic.{slice_cmp}
use Rattle.std.specs.BTreeMap.{BTreeMap, get_by}
use Rattle.std.specs.BTreeSet.{BTreeSet, contains_by}
use Rattle.wb_values.specs.Value.{Name}

-- the value under a name
abbrev pub under_name : {X : Type 0} → BTreeMap (Bor (List ℕ)) X → Name → Option X
under_name t n = get_by (λ k. slice_cmp nat_cmp n k.now) t

-- the name is in the set
abbrev pub has_name : BTreeSet (Bor (List ℕ)) → Name → Bool
has_name s n = contains_by (λ k. slice_cmp nat_cmp n k.now) s
