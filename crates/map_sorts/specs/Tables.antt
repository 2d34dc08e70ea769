-- The sorts in the code's tables.
use Rattle.std.specs.Prelude.{ℕ, List, Option, option_map}
use Rattle.std.specs.Borrow.{Bor}
use Rattle.std.specs.Ordering.{nat_cmp}
use Rattle.std.specs.Cmp.Lexicographic.{slice_cmp}
use Rattle.std.specs.BTreeMap.{BTreeMap, get_by}
use Rattle.wb_values.specs.Value as pure
use Rattle.wb_values.specs.Value.{Name}
use Rattle.wb_terms.specs.declared.sorts.Sort.{Sort}
use Rattle.wb_terms.specs.Sort.{as_sort}
use Rattle.map_sorts.specs.declared.sorts.ModelSorts.{ModelSorts}

-- the sort under a name
abbrev pub sort_in : BTreeMap (Bor (List ℕ)) Sort → Name → Option pure.Sort
sort_in t n = option_map as_sort (get_by (λ k. slice_cmp nat_cmp n k.now) t)

abbrev pub sort_of_state_in : ModelSorts → Name → Option pure.Sort
sort_of_state_in s n = sort_in s.states n

abbrev pub sort_of_input_in : ModelSorts → Name → Option pure.Sort
sort_of_input_in s n = sort_in s.inputs n
