-- The numbers of the terms that names have in the code's table.
use Rattle.std.specs.Prelude.{ℕ, List, Option, option_map}
use Rattle.std.specs.Ordering.{nat_cmp}
use Rattle.std.specs.Cmp.Lexicographic.{slice_cmp}
use Rattle.std.specs.BTreeMap.{get_by}
use Rattle.wb_values.specs.Value.{Name}
use Rattle.v_lower.specs.declared.table.NamedTerms.{NamedTerms}

abbrev pub images_at : NamedTerms → Name → Option ℕ
images_at t n = option_map (λ k. k.0) (get_by (λ key. slice_cmp nat_cmp n key.now) t.ids)
