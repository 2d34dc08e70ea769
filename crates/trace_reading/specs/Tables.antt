-- The places that names have in the code's tables.
use Rattle.std.specs.Prelude.{ℕ, Option, List}
use Rattle.std.specs.Borrow.{Bor}
use Rattle.std.specs.Ordering.{nat_cmp}
use Rattle.std.specs.Cmp.Lexicographic.{slice_cmp}
use Rattle.std.specs.BTreeMap.{BTreeMap, get_by}
use Rattle.wb_values.specs.Value.{Name}

abbrev pub place_under : BTreeMap (Bor (List ℕ)) ℕ → Name → Option ℕ
place_under t n = get_by (λ key. slice_cmp nat_cmp n key.now) t
