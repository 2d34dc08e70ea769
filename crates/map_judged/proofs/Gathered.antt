-- The names of expressions, one expression after the other.
use Rattle.std.proofs.Common.{◌≡◌, ◌∙◌, ℕ, zero, suc, ◌+◌, ◌<◌, ap, sym, List, [], ◌∷◌, ◌++◌, length, drop, get_or, Bor, append_assoc, add-one, arith}
use Rattle.wb_values.specs.Value.{Name}
use Rattle.v_instances.specs.Texts.{texts}
use Rattle.map_judged.specs.declared.expression.MapExpression.{MapExpression}
use Rattle.map_judged.specs.Asked.{code_names}

begins : (xs : List MapExpression) (i : ℕ) (x d : MapExpression) → i < length xs → x ≡ get_or xs i d → code_names (drop i xs) ≡ texts x.names.items ++ code_names (drop (suc i) xs)
begins [] i x d l e = absurd (omega (arith, l))
begins (y ∷ xs) zero x d l e = ap (λ (z : MapExpression). texts z.names.items ++ code_names xs) (sym e)
begins (y ∷ xs) (suc i) x d l e = begins xs i x d (omega (arith, l)) e

-- those of one more
pub names_turn : (xs : List MapExpression) (i : ℕ) (x d : MapExpression) (old new : List (Bor (List ℕ))) (all : List Name) → i < length xs → x ≡ get_or xs i d
    → texts new ≡ texts old ++ texts x.names.items → all ≡ texts old ++ code_names (drop i xs) → all ≡ texts new ++ code_names (drop (i + 1) xs)
names_turn xs i x d old new all l e added h =
    h ∙ (ap (λ ns. texts old ++ ns) (begins xs i x d l e)
    ∙ (sym (append_assoc (texts old) (texts x.names.items) (code_names (drop (suc i) xs)))
    ∙ (ap (λ ns. ns ++ code_names (drop (suc i) xs)) (sym added) ∙ ap (λ k. texts new ++ code_names (drop k xs)) (sym (add-one i)))))
