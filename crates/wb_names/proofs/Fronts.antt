-- A text that begins as no reserved word does is none.
use Rattle.std.proofs.Common.{◌≡◌, ◌∙◌, ◌||◌, ◌&&◌, refl, ap, sym, ℕ, Bool, true, false, List, [], ◌∷◌}
use Rattle.std.proofs.lemmas.Bool.{false≢true}
use Rattle.std.specs.Str.{bytes_eq}
use Rattle.std.specs.List.{list_all, list_any}
use Rattle.std.proofs.lemmas.Slice.Eq.{bytes_eq-Decides}
use Rattle.wb_values.specs.ReservedWords.{is_reserved, grammar_words, other_words}
use Rattle.wb_names.specs.Fronts.{begins_as_reserved}

-- what begins otherwise than all of some words is none of them
among_none : (text : List ℕ) (words : List (List ℕ)) → list_all begins_as_reserved words ≡ true → begins_as_reserved text ≡ false → list_any (bytes_eq text) words ≡ false
among_none text [] all otherwise = refl
among_none text (w ∷ ws) all otherwise = first (begins_as_reserved w) (bytes_eq text w) refl refl (λ rest. among_none text ws rest otherwise)
  where
    first : (b e : Bool) → begins_as_reserved w ≡ b → bytes_eq text w ≡ e → (list_all begins_as_reserved ws ≡ true → list_any (bytes_eq text) ws ≡ false)
        → list_any (bytes_eq text) (w ∷ ws) ≡ false
    first true true begins same more = absurd (false≢true (sym otherwise ∙ ap begins_as_reserved ((bytes_eq-Decides text w).0 same) ∙ begins))
    first true false begins other more = ap (λ b. b || list_any (bytes_eq text) ws) other ∙ more (ap (λ b. b && list_all begins_as_reserved ws) (sym begins) ∙ all)
    first false e begins _ more = absurd (false≢true (ap (λ b. b && list_all begins_as_reserved ws) (sym begins) ∙ all))

pub unreserved : (text : List ℕ) → begins_as_reserved text ≡ false → is_reserved text ≡ false
unfolding is_reserved begins_as_reserved
unreserved text otherwise =
    ap (λ b. b || list_any (bytes_eq text) other_words) (among_none text grammar_words refl otherwise) ∙ among_none text other_words refl otherwise
