-- The terms of dotted names, by the places of a design: each place has the terms of its own names, and the numbers of the places that
-- stand in it. The top has the number 0.
use Rattle.std.specs.Prelude.{ℕ, ◌==◌, cond, List, [], ◌∷◌, ◌++◌, slice_get, Option, String, option_map, option_and_then}
use Rattle.std.specs.Global.{Global}
use Rattle.std.specs.Ordering.{nat_cmp}
use Rattle.std.specs.Cmp.Lexicographic.{slice_cmp}
use Rattle.std.specs.BTreeMap.{BTreeMap, get_by}
use Rattle.std.specs.String.{string_bytes}
use Rattle.wb_values.specs.Value.{Name}
use Rattle.wb_terms.specs.declared.nodes.TermId.{TermId}
use Rattle.v_design.specs.declared.place.PlaceTerms.{PlaceTerms}

-- the term that a table has under a name
abbrev pub term_under : BTreeMap (String Global) TermId → Name → Option ℕ
term_under t n = option_map (λ k. k.0) (get_by (λ key. slice_cmp nat_cmp n (string_bytes key)) t)

-- the number that a table has under the name of an instance
abbrev pub number_under : BTreeMap (String Global) ℕ → Name → Option ℕ
number_under t u = get_by (λ key. slice_cmp nat_cmp u (string_bytes key)) t

-- the term of a name in the place with a number
abbrev pub term_in : List PlaceTerms → ℕ → Name → Option ℕ
term_in places k n = option_and_then (λ (p : PlaceTerms). term_under p.terms n) (slice_get places k)

-- the number of the place that stands in the place with a number, by the name of its instance
abbrev pub place_in : List PlaceTerms → ℕ → Name → Option ℕ
place_in places k u = option_and_then (λ (p : PlaceTerms). number_under p.below u) (slice_get places k)

-- The term that a text leads to from the place with a number, where `name` has been read since the last dot (its code is 46). A name
-- before a dot is that of an instance, and leads to the place that stands there; the name after the last dot is looked up where they lead.
abbrev pub term_from : List PlaceTerms → ℕ → (name text : Name) → Option ℕ
term_from places k name [] = term_in places k name
term_from places k name (c ∷ text) =
    cond (c == 46) (option_and_then (λ j. term_from places j [] text) (place_in places k name)) (term_from places k (name ++ c ∷ []) text)

-- the term of a dotted name, which is read from the top
abbrev pub terms_at : List PlaceTerms → Name → Option ℕ
terms_at places n = term_from places 0 [] n
