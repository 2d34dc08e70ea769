-- The term of a dotted name is that of its last name in the place to which the instances of its path lead from the top.
use Rattle.std.proofs.Common.{◌≡◌, ◌∙◌, ℕ, refl, ap, List, [], ◌∷◌, ◌++◌, Option, Some, None}
use Rattle.std.specs.Prelude.{option_and_then}
use Rattle.std.proofs.lemmas.List.{append-nil}
use Rattle.wb_values.specs.Value.{Name}
use Rattle.verilog_meaning.specs.Hierarchy.{PathStep, index_text, step_text, dotted}
use Rattle.v_design.specs.declared.place.PlaceTerms.{PlaceTerms}
use Rattle.v_design.specs.Table.{term_in, place_in, term_from, terms_at}
use Rattle.v_design.proofs.Segments.{IsPlain, instance_read, last_read}

-- the steps are instances whose names have no dots
abbrev pub ArePlainSteps : List PathStep → Type 0
ArePlainSteps [] = Unit {0}
ArePlainSteps (u ∷ around) = (u.index ≡ None) × IsPlain u.of_name × ArePlainSteps around

-- the number of the place to which a path leads from the top, the innermost step first
abbrev pub place_at : List PlaceTerms → List PathStep → Option ℕ
place_at places [] = Some 0
place_at places (u ∷ around) = option_and_then (λ k. place_in places k u.of_name) (place_at places around)

instance_text : (u : PathStep) → u.index ≡ None → step_text u ≡ u.of_name
instance_text u e = ap (λ i. u.of_name ++ index_text i) e ∙ append-nil u.of_name

module _ (places : List PlaceTerms) where
  text_below : (path : List PathStep) (text : Name) → ArePlainSteps path
      → terms_at places (dotted path text) ≡ option_and_then (λ k. term_from places k [] text) (place_at places path)
  text_below [] text h = refl
  text_below (u ∷ around) text h =
      text_below around (step_text u ++ 46 ∷ text) h.2
      ∙ ap (λ t. option_and_then (λ k. term_from places k [] (t ++ 46 ∷ text)) (place_at places around)) (instance_text u h.0)
      ∙ through (place_at places around)
    where
      through : (o : Option ℕ) → option_and_then (λ k. term_from places k [] (u.of_name ++ 46 ∷ text)) o
          ≡ option_and_then (λ j. term_from places j [] text) (option_and_then (λ k. place_in places k u.of_name) o)
      through None = refl
      through (Some k) = instance_read places k u.of_name text h.1

  pub term_of_dotted : (path : List PathStep) (n : Name) → ArePlainSteps path → IsPlain n
      → terms_at places (dotted path n) ≡ option_and_then (λ k. term_in places k n) (place_at places path)
  term_of_dotted path n steps plain = text_below path n steps ∙ last (place_at places path)
    where
      last : (o : Option ℕ) → option_and_then (λ k. term_from places k [] n) o ≡ option_and_then (λ k. term_in places k n) o
      last None = refl
      last (Some k) = last_read places k n plain
