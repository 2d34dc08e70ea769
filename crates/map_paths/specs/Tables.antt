-- The numbers of instances in the code's tables.
use Rattle.std.specs.Prelude.{ℕ, ◌==◌, ◌&&◌, nat_lt, cond, List, Option, Some, slice_get, option_and_then}
use Rattle.std.specs.Borrow.{Bor}
use Rattle.std.specs.Ordering.{nat_cmp}
use Rattle.std.specs.Cmp.Lexicographic.{slice_cmp}
use Rattle.std.specs.BTreeMap.{BTreeMap, get_by}
use Rattle.wb_values.specs.Value.{Name, same_name}
use Rattle.v_places.specs.Below.{Spot}
use Rattle.map_paths.specs.Located.{Below}
use Rattle.map_paths.specs.declared.instances.Instances.{Instances}

-- the number under a name
abbrev pub under_name : BTreeMap (Bor (List ℕ)) ℕ → Name → Option ℕ
under_name t n = get_by (λ k. slice_cmp nat_cmp n k.now) t

abbrev pub below_in : List (BTreeMap (Bor (List ℕ)) ℕ) → Below
below_in ts k u = option_and_then (λ t. under_name t u) (slice_get ts k)

abbrev pub numbers_in : Instances → Below
numbers_in x = below_in x.tables.items

-- the numbers with one more, where the module around it comes before
abbrev pub with_child : Spot → ℕ → Below → Below
with_child x j below k u = cond (nat_lt x.parent j && (x.parent == k && same_name x.instance u)) (Some j) (below k u)
