-- A dotted name that leads to a term, one name between its dots after the other.
use Rattle.std.proofs.Common.{◌≡◌, ◌∙◌, ℕ, suc, ◌<◌, false, cond, ap, sym, List, [], ◌∷◌, ◌++◌, length, get_or, ne_eqb, arith}
use Rattle.std.specs.Prelude.{◌==◌, ◌≢◌, option_and_then}
use Rattle.std.proofs.lemmas.List.{append_assoc, append-nil}
use Rattle.wb_values.specs.Value.{Name}
use Rattle.v_design.specs.declared.place.PlaceTerms.{PlaceTerms}
use Rattle.v_design.specs.Table.{term_in, place_in, term_from}

-- no character of the name is a dot
abbrev pub IsPlain : Name → Type 0
IsPlain [] = Unit {0}
IsPlain (c ∷ cs) = ((c == 46) ≡ false) × IsPlain cs

-- the same, place by place
pub plain_by_places : (n : Name) → ((i : ℕ) → i < length n → get_or n i 0 ≢ 46) → IsPlain n
plain_by_places [] h = tt
plain_by_places (c ∷ cs) h = (ne_eqb c 46 (h 0 (omega arith)), plain_by_places cs (λ i l. h (suc i) (omega (arith, l))))

module _ (places : List PlaceTerms) where
  -- what has no dot is read as a whole
  read_on : (k : ℕ) (name more text : Name) → IsPlain more → term_from places k name (more ++ text) ≡ term_from places k (name ++ more) text
  read_on k name [] text h = ap (λ n. term_from places k n text) (sym (append-nil name))
  read_on k name (c ∷ cs) text h =
      ap (λ b. cond b (option_and_then (λ j. term_from places j [] (cs ++ text)) (place_in places k name)) (term_from places k (name ++ c ∷ []) (cs ++ text))) h.0
      ∙ read_on k (name ++ c ∷ []) cs text h.1
      ∙ ap (λ n. term_from places k n text) (append_assoc name (c ∷ []) cs)

  -- the name of an instance leads to the place below
  pub instance_read : (k : ℕ) (name text : Name) → IsPlain name
      → term_from places k [] (name ++ 46 ∷ text) ≡ option_and_then (λ j. term_from places j [] text) (place_in places k name)
  instance_read k name text h = read_on k [] name (46 ∷ text) h

  -- the last name is looked up
  pub last_read : (k : ℕ) (name : Name) → IsPlain name → term_from places k [] name ≡ term_in places k name
  last_read k name h = ap (term_from places k []) (sym (append-nil name)) ∙ read_on k [] name [] h
