-- Texts with numbers behind them, one after another.
use Rattle.std.proofs.Common.{◌≡◌, ℕ, ◌+◌, List, [], ◌∷◌, ◌++◌, length, decimal, String, inl, inr, refl, sym, ◌∙◌, ap, subst, arith}
use Rattle.std.specs.Global.{Global}
use Rattle.std.specs.String.{string_bytes}
use Rattle.std.proofs.lemmas.Bool.{cases_lt}
use Rattle.std.proofs.lemmas.List.{length_push, get_or_append_left, get_or_push}
use Rattle.wb_values.specs.Value.{Name}
use Rattle.emitted_names.specs.Named.{AreNumbered}

pub none_numbered : (t : Name) (xs : List (String Global)) → xs ≡ [] → AreNumbered t 0 xs
none_numbered t xs e = subst (AreNumbered t 0) (sym e) (record { many = refl; each = λ k d h. absurd (omega (arith, h)) })

pub one_numbered : (t : Name) (n : ℕ) (xs ys : List (String Global)) (x : String Global) → AreNumbered t n xs → string_bytes x ≡ t ++ decimal n
    → ys ≡ xs ++ x ∷ [] → AreNumbered t (n + 1) ys
one_numbered t n xs ys x a is e = subst (AreNumbered t (n + 1)) (sym e) (record {
  many = length_push xs x ∙ ap (λ k. k + 1) a.many;
  each = λ k d h. elim (cases_lt k n) [
    | inl low ↦ ap string_bytes (get_or_append_left xs (x ∷ []) d k (omega (arith, low, a.many))) ∙ a.each k d low
    | inr high ↦
        let here : n ≡ k = omega (arith, h, high) in
        ap string_bytes (get_or_push xs x d k (a.many ∙ here)) ∙ is ∙ ap (λ j. t ++ decimal j) here
  ];
})

pub so_many : (t : Name) (n m : ℕ) (xs : List (String Global)) → n ≡ m → AreNumbered t n xs → AreNumbered t m xs
so_many t n m xs e a = subst (λ k. AreNumbered t k xs) e a

-- names as their own many
pub all_numbered : (t : Name) (n : ℕ) (xs ys : List (String Global)) → ys ≡ xs → AreNumbered t n xs → AreNumbered t (length ys) ys
all_numbered t n xs ys e a = subst (λ (zs : List (String Global)). AreNumbered t (length zs) zs) (sym e) (so_many t n (length xs) xs (sym a.many) a)

pub is_many : (t : Name) (n : ℕ) (xs ys : List (String Global)) → ys ≡ xs → AreNumbered t n xs → length ys ≡ n
is_many t n xs ys e a = ap length e ∙ a.many
