-- The turns of a row's loop.
use Rattle.std.proofs.Common.{◌≡◌, List, [], ◌∷◌, ◌++◌, Some, None, sym, ap, ◌∙◌, subst, map}
use Rattle.std.proofs.lemmas.List.{map_push}
use Rattle.verilog_text.specs.Token.{Token}
use Rattle.v_expr.specs.Repeat.{Read, repeated}
use Rattle.v_expr.proofs.Repeat.{Shrinks, with_front, with_nothing, goes_on, is_over}
use Rattle.v_parse.specs.Lists.{ReaderOf, Passes}

-- nothing was read yet
pub row_begins : {A B : Type 0} (view : B → A) (stop : Passes) (one : ReaderOf A) (ts now : List Token) (new : List B) → new ≡ [] → now ≡ ts
    → with_front (map view new) (repeated stop one now) ≡ repeated stop one ts
row_begins view stop one ts now new none same =
    subst (λ us. with_front (map view new) (repeated stop one us) ≡ repeated stop one ts) (sym same)
    (subst (λ xs. with_front (map view xs) (repeated stop one ts) ≡ repeated stop one ts) (sym none) (with_nothing stop one ts))

-- one turn more
pub row_goes_on : {A B : Type 0} (view : B → A) (stop : Passes) (one : ReaderOf A) → Shrinks one → (front xs : List B) (ts : List Token) (x : B) (rest : List Token) (total : Read Token (List A))
    → xs ≡ front ++ x ∷ [] → None ≡ stop ts → one ts ≡ Some (view x, rest) → with_front (map view front) (repeated stop one ts) ≡ total
    → with_front (map view xs) (repeated stop one rest) ≡ total
row_goes_on view stop one small front xs ts x rest total pushed on e so_far =
    let now : map view xs ≡ map view front ++ view x ∷ [] = ap (map view) pushed ∙ map_push view front x in
    let turn = goes_on stop one small (map view front) ts (view x) rest total (sym on) e so_far in
    subst (λ ys. with_front ys (repeated stop one rest) ≡ total) (sym now) turn

-- the end is met
pub row_ends : {A : Type 0} (stop : Passes) (one : ReaderOf A) (front : List A) (ts rest : List Token) (total : Read Token (List A))
    → Some rest ≡ stop ts → with_front front (repeated stop one ts) ≡ total → total ≡ Some (front, rest)
row_ends stop one front ts rest total over so_far = is_over stop one front ts rest total (sym over) so_far
