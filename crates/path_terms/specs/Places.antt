-- The places of a design's registers by their names.
use Rattle.std.specs.Prelude.{◌≡◌, ◌≢◌, ◌<◌, ℕ, [], Option, Some, None, slice_index_or}
use Rattle.std.specs.Ordering.{nat_cmp}
use Rattle.std.specs.Cmp.Lexicographic.{slice_cmp}
use Rattle.std.specs.BTreeMap.{get_by}
use Rattle.wb_values.specs.Value.{Name, truth}
use Rattle.v_design.specs.Parts.{Parts, registers_of}
use Rattle.path_terms.specs.declared.places.RegisterPlaces.{RegisterPlaces}

-- the name of the register at a place
abbrev pub register_at : Parts → ℕ → Name
register_at e k = (slice_index_or (registers_of e) k ([], truth)).0

-- the first so many of some names have the name at this place, or not at all
abbrev pub IsPlaceBelow : (ℕ → Name) → ℕ → Name → Option ℕ → Type 0
IsPlaceBelow names count n None = (k : ℕ) → k < count → names k ≢ n
IsPlaceBelow names count n (Some k) = (k < count) × (names k ≡ n)

abbrev pub IsPlaceOf : Parts → Name → Option ℕ → Type 0
IsPlaceOf e n o = IsPlaceBelow (register_at e) e.register_count n o

abbrev pub places_at : RegisterPlaces → Name → Option ℕ
places_at t n = get_by (λ key. slice_cmp nat_cmp n key.now) t.places
