-- The places of entries by their names.
use Rattle.std.specs.Prelude.{ℕ, suc, List, [], ◌∷◌, cond, Option, Some, None, option_map}
use Rattle.std.specs.Ordering.{nat_cmp}
use Rattle.std.specs.Cmp.Lexicographic.{slice_cmp}
use Rattle.std.specs.BTreeMap.{get_by}
use Rattle.wb_values.specs.Value.{Name, same_name}
use Rattle.map_terms.specs.declared.places.FirstPlaces.{FirstPlaces}

-- where a name stands first in a list
abbrev pub first_place : List Name → Name → Option ℕ
first_place [] n = None
first_place (m ∷ ms) n = cond (same_name m n) (Some 0) (option_map suc (first_place ms n))

abbrev pub first_places_at : FirstPlaces → Name → Option ℕ
first_places_at t n = get_by (λ key. slice_cmp nat_cmp n key.now) t.places
