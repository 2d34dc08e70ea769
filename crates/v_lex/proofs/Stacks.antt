-- Stacks that are seen the newest first.
use Rattle.std.proofs.Common.{◌≡◌, Bool, true, false, ◌||◌, cond, List, [], ◌∷◌, map, Some, refl, sym, ap, ◌∙◌}
use Rattle.std.specs.Prelude.{reverse, is_some}
use Rattle.std.specs.List.{list_any}
use Rattle.std.proofs.lemmas.List.{reverse-append}
use Rattle.std.proofs.lemmas.List.Folds.{list_any-append}
use Rattle.verilog_text.specs.Text as pure
use Rattle.verilog_text.specs.Text.{is_same_opening, behind_nearest}
use Rattle.v_lex.specs.declared.opening.Opening.{Opening}
use Rattle.v_lex.specs.Nesting.{opening_of, openings_of}

nearest_by : (t r : Bool) (ys : List pure.Opening) (x : pure.Opening) → is_some (behind_nearest x ys) ≡ r → is_some (cond t (Some ys) (behind_nearest x ys)) ≡ (t || r)
nearest_by true r ys x e = refl
nearest_by false r ys x e = e

has_nearest : (x : pure.Opening) (ys : List pure.Opening) → is_some (behind_nearest x ys) ≡ list_any (is_same_opening x) ys
has_nearest x [] = refl
has_nearest x (y ∷ ys) = nearest_by (is_same_opening x y) (list_any (is_same_opening x) ys) ys x (has_nearest x ys)

turned : (a b : Bool) → (a || (b || false)) ≡ (b || a)
turned true true = refl
turned true false = refl
turned false true = refl
turned false false = refl

any_reversed : (p : pure.Opening → Bool) (ys : List pure.Opening) → list_any p (reverse ys) ≡ list_any p ys
any_reversed p [] = refl
any_reversed p (y ∷ ys) =
    ap (list_any p) (reverse-append (y ∷ []) ys)
    ∙ list_any-append p (reverse ys) (y ∷ [])
    ∙ ap (λ (b : Bool). b || (p y || false)) (any_reversed p ys)
    ∙ turned (list_any p ys) (p y)

any_seen : (x : pure.Opening) (ys : List Opening) → list_any (is_same_opening x) (map opening_of ys) ≡ list_any (λ y. is_same_opening x (opening_of y)) ys
any_seen x [] = refl
any_seen x (y ∷ ys) = ap (λ (b : Bool). is_same_opening x (opening_of y) || b) (any_seen x ys)

pub is_open_there : (x : pure.Opening) (ys : List Opening) → list_any (λ y. is_same_opening x (opening_of y)) ys ≡ is_some (behind_nearest x (openings_of ys))
is_open_there x ys = sym (has_nearest x (openings_of ys) ∙ any_reversed (is_same_opening x) (map opening_of ys) ∙ any_seen x ys)
