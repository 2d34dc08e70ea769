-- Lists of texts with commas between them, one text after the other.
use Rattle.std.proofs.Common.{◌≡◌, ℕ, zero, suc, ◌+◌, ◌<◌, ◌≤◌, List, [], ◌∷◌, ◌++◌, drop, length, refl, sym, ap, ◌∙◌, append_assoc, arith}
use Rattle.std.specs.Prelude.{codes, slice_index_or}
use Rattle.std.proofs.lemmas.List.{append-nil}
use Rattle.reports.specs.Report.{with_commas, in_braces, member_text, quoted}
use Rattle.trace_texts.specs.Texts.{after_comma, comma_after, rest_after}

commas : (t : List ℕ) (ts : List (List ℕ)) → with_commas (t ∷ ts) ≡ t ++ after_comma ts
commas t [] = sym (append-nil t)
commas t (x ∷ ts) = ap (λ y. t ++ 44 ∷ y) (commas x ts)

after : (i : ℕ) (o t : List ℕ) (ts : List (List ℕ)) → ((o ++ comma_after i) ++ t) ++ rest_after (suc i) ts ≡ o ++ rest_after i (t ∷ ts)
after zero o t ts =
    append_assoc (o ++ []) t (after_comma ts) ∙ (ap (λ x. x ++ (t ++ after_comma ts)) (append-nil o) ∙ ap (λ x. o ++ x) (sym (commas t ts)))
after (suc i) o t ts = append_assoc (o ++ 44 ∷ []) t (after_comma ts) ∙ append_assoc o (44 ∷ []) (t ++ after_comma ts)

-- one text more is written
pub turned : {A : Type 0} (f : List A → List (List ℕ)) (xs : List A) (i j : ℕ) (o o₁ o₂ t : List ℕ) → j ≡ suc i → f (drop i xs) ≡ t ∷ f (drop j xs)
    → o₁ ≡ o ++ comma_after i → o₂ ≡ o₁ ++ t → o₂ ++ rest_after j (f (drop j xs)) ≡ o ++ rest_after i (f (drop i xs))
turned f xs i j o o₁ o₂ t is_j cut e₁ e₂ =
    ap (λ x. x ++ rest_after j (f (drop j xs))) (e₂ ∙ ap (λ x. x ++ t) e₁)
    ∙ (ap (λ k. ((o ++ comma_after i) ++ t) ++ rest_after k (f (drop j xs))) is_j
    ∙ (after i o t (f (drop j xs)) ∙ ap (λ ts. o ++ rest_after i ts) (sym cut)))

next : (i : ℕ) → suc i ≡ i + 1
next i = omega arith

at_or : {A : Type 0} (ys : List A) (k : ℕ) (w : A) → k < length ys → drop k ys ≡ slice_index_or ys k w ∷ drop (suc k) ys
at_or [] k w l = absurd (omega (arith, l))
at_or (y ∷ ys) zero w l = refl
at_or (y ∷ ys) (suc k) w l = at_or ys k w (omega (arith, l))

-- the list from a place on
pub cut_or : {A : Type 0} (xs : List A) (i : ℕ) (w : A) → i < length xs → drop i xs ≡ slice_index_or xs i w ∷ drop (i + 1) xs
cut_or xs i w l = at_or xs i w l ∙ ap (λ j. slice_index_or xs i w ∷ drop j xs) (next i)

pub cut : {A : Type 0} (xs : List A) (i : ℕ) (w : A) → i < length xs → w ≡ slice_index_or xs i w → drop i xs ≡ w ∷ drop (i + 1) xs
cut xs i w l e = cut_or xs i w l ∙ ap (λ y. y ∷ drop (i + 1) xs) (sym e)

over : (i : ℕ) → rest_after i [] ≡ []
over zero = refl
over (suc i) = refl

-- all of them are written
pub closed : (i : ℕ) (ts : List (List ℕ)) (before after_it : ℕ) (o o₁ o₂ w : List ℕ) → ts ≡ [] → o₁ ++ rest_after i ts ≡ (o ++ before ∷ []) ++ w
    → o₂ ≡ o₁ ++ after_it ∷ [] → o₂ ≡ o ++ before ∷ (w ++ after_it ∷ [])
closed i ts before after_it o o₁ o₂ w none e₁ e₂ =
    e₂
    ∙ (ap (λ x. x ++ after_it ∷ []) (sym (append-nil o₁) ∙ (ap (λ x. o₁ ++ x) (sym (ap (rest_after i) none ∙ over i)) ∙ e₁))
    ∙ (append_assoc (o ++ before ∷ []) w (after_it ∷ []) ∙ append_assoc o (before ∷ []) (w ++ after_it ∷ [])))

-- nothing is left of a list at its end
pub none_left : {A : Type 0} (xs : List A) (i : ℕ) → length xs ≤ i → drop i xs ≡ []
none_left [] zero h = refl
none_left [] (suc i) h = refl
none_left (x ∷ xs) zero h = absurd (omega (arith, h))
none_left (x ∷ xs) (suc i) h = none_left xs i (omega (arith, h))

-- the text with the inputs, the name and the registers put in
abbrev pub around : (inputs called registers : List ℕ) → List ℕ
around i n r = in_braces (member_text (codes "inputs") i ∷ member_text (codes "obligation") (quoted n) ∷ member_text (codes "registers") r ∷ [])

in_a_row : (o a i b n c r e : List ℕ) → o ++ a ++ i ++ b ++ n ++ c ++ r ++ e ≡ o ++ (a ++ (i ++ (b ++ (n ++ (c ++ (r ++ e))))))
in_a_row o a i b n c r e = simp append_assoc

keyed : (k₁ k₂ k₃ i n r : List ℕ) → in_braces (member_text k₁ i ∷ member_text k₂ (quoted n) ∷ member_text k₃ r ∷ [])
    ≡ (123 ∷ 34 ∷ (k₁ ++ (34 ∷ 58 ∷ []))) ++ (i ++ ((44 ∷ 34 ∷ (k₂ ++ (34 ∷ 58 ∷ 34 ∷ []))) ++ (n ++ ((34 ∷ 44 ∷ 34 ∷ (k₃ ++ (34 ∷ 58 ∷ []))) ++ (r ++ (125 ∷ []))))))
keyed k₁ k₂ k₃ i n r = simp append_assoc

flat : (o i n r : List ℕ)
    → o ++ codes "{\"inputs\":" ++ i ++ codes ",\"obligation\":\"" ++ n ++ codes "\",\"registers\":" ++ r ++ 125 ∷ [] ≡ o ++ around i n r
flat o i n r =
    in_a_row o (codes "{\"inputs\":") i (codes ",\"obligation\":\"") n (codes "\",\"registers\":") r (125 ∷ [])
    ∙ ap (λ x. o ++ x) (sym (keyed (codes "inputs") (codes "obligation") (codes "registers") i n r))

pub trace_parts : (o₀ o₁ o₂ o₃ o₄ o₅ o₆ o₇ i n r : List ℕ) → o₁ ≡ o₀ ++ codes "{\"inputs\":" → o₂ ≡ o₁ ++ i → o₃ ≡ o₂ ++ codes ",\"obligation\":\""
    → o₄ ≡ o₃ ++ n → o₅ ≡ o₄ ++ codes "\",\"registers\":" → o₆ ≡ o₅ ++ r → o₇ ≡ o₆ ++ 125 ∷ [] → o₇ ≡ o₀ ++ around i n r
trace_parts o₀ o₁ o₂ o₃ o₄ o₅ o₆ o₇ i n r e₁ e₂ e₃ e₄ e₅ e₆ e₇ =
    e₇
    ∙ (ap (λ o. o ++ 125 ∷ [])
    (e₆
    ∙ ap (λ o. o ++ r)
    (e₅
    ∙ ap (λ o. o ++ codes "\",\"registers\":")
    (e₄ ∙ ap (λ o. o ++ n) (e₃ ∙ ap (λ o. o ++ codes ",\"obligation\":\"") (e₂ ∙ ap (λ o. o ++ i) e₁)))))
    ∙ flat o₀ i n r)

-- a key is written, and what stands after it
pub after_key : (o o₁ n m t u : List ℕ) → o₁ ≡ o ++ member_text n [] → n ≡ m → t ≡ u → o₁ ++ t ≡ o ++ member_text m u
after_key o o₁ n m t u e is_m is_u =
    ap (λ x. x ++ t) e
    ∙ (append_assoc o (member_text n []) t
    ∙ (ap (λ x. o ++ x) (append_assoc (quoted n) (58 ∷ []) t) ∙ ap (λ k. o ++ member_text k t) is_m ∙ ap (λ x. o ++ member_text m x) is_u))
