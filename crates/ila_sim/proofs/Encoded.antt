-- Bytes that are UTF-8, and bytes that are not: a text is, where each of its lines is.
use Rattle.std.proofs.Common.{◌≡◌, ℕ, zero, suc, ◌<◌, ◌≤◌, nat_lt, List, [], ◌∷◌, ◌++◌, take, drop, length, Bool, true, false, cond, ◌&&◌, refl, sym, ap, ◌∙◌, subst, arith}
use Rattle.std.specs.List.{list_all}
use Rattle.std.proofs.lemmas.Bool.Decides.{nat_tests}
use Rattle.std.proofs.lemmas.List.{length-drop}
use Rattle.std.specs.Str.{is_utf8, IsUtf8, IsAscii}
use Rattle.std.proofs.lemmas.Str.{IsUtf8-from_is_utf8, is_utf8-from_IsUtf8, IsUtf8-append, IsUtf8-from_ascii}
use Rattle.scripts.specs.Script.{is_return, is_line_end, lines_of}
use Rattle.ila_sim.specs.Cuts.{length_before, without_last_return}
use Rattle.ila_sim.proofs.Apart.{left_part, right_part}
use Rattle.ila_sim.proofs.Words.{one_line, further_line, before_within}

pub not_encoded : (bs : List ℕ) → ¬ (IsUtf8 bs) → false ≡ is_utf8 bs
not_encoded bs h = shown (is_utf8 bs) (λ e. h (IsUtf8-from_is_utf8 bs e)) where
  shown : (t : Bool) → (t ≡ true → ⊥) → false ≡ t
  shown true f = absurd (f refl)
  shown false f = refl

-- ---- lines

is_13 : (b : ℕ) → is_return b ≡ true → 13 ≡ b
is_13 b e = grind (arith, nat_tests)

is_10 : (b : ℕ) → is_line_end b ≡ true → b ≡ 10
is_10 b e = grind (arith, nat_tests)

-- what holds of a line without its last return, and of any with a return more, holds of the line
returned : (P : List ℕ → Type 0) → ((ys : List ℕ) → P ys → P (ys ++ 13 ∷ [])) → (xs : List ℕ) → P (without_last_return xs) → P xs
unfolding without_last_return
returned P f [] p = p
returned P f (b ∷ []) p = shown (is_return b) refl p where
  shown : (t : Bool) → is_return b ≡ t → P (cond t [] (b ∷ [])) → P (b ∷ [])
  shown true e q = subst (λ x. P (x ∷ [])) (is_13 b e) (f [] q)
  shown false e q = q
returned P f (a ∷ b ∷ bs) p = returned (λ ys. P (a ∷ ys)) (λ ys q. f (a ∷ ys) q) (b ∷ bs) p

feed_cut : (text : List ℕ) (n : ℕ) → n ≡ length_before is_line_end text → n < length text → text ≡ take n text ++ (10 ∷ drop (suc n) text)
unfolding length_before
feed_cut [] n e h = absurd (omega (arith, h))
feed_cut (b ∷ bs) n e h = shown (is_line_end b) refl e (feed_cut bs) where
  shown : (t : Bool) → is_line_end b ≡ t → n ≡ cond t 0 (suc (length_before is_line_end bs))
      → ((m : ℕ) → m ≡ length_before is_line_end bs → m < length bs → bs ≡ take m bs ++ (10 ∷ drop (suc m) bs))
      → b ∷ bs ≡ take n (b ∷ bs) ++ (10 ∷ drop (suc n) (b ∷ bs))
  shown true k g f = rw g (ap (λ x. x ∷ bs) (is_10 b k))
  shown false k g f =
      let m : ℕ = length_before is_line_end bs in
      let l : n ≡ suc m = g in
      rw l (ap (λ xs. b ∷ xs) (f m refl (omega (arith, h, l))))

return_ascii : IsAscii (13 ∷ [])
return_ascii zero = omega arith
return_ascii (suc i) = omega arith

feed_ascii : IsAscii (10 ∷ [])
feed_ascii zero = omega arith
feed_ascii (suc i) = omega arith

return_encoded : IsUtf8 (13 ∷ [])
return_encoded = IsUtf8-from_ascii (13 ∷ []) return_ascii

feed_encoded : IsUtf8 (10 ∷ [])
feed_encoded = IsUtf8-from_ascii (10 ∷ []) feed_ascii

encoded_further : (text : List ℕ) (n : ℕ) → n ≡ length_before is_line_end text → n < length text → list_all is_utf8 (lines_of text) ≡ true
    → ((rest : List ℕ) → length rest < length text → list_all is_utf8 (lines_of rest) ≡ true → IsUtf8 rest) → IsUtf8 text
encoded_further text n e h g f =
    let line : List ℕ = without_last_return (take n text) in
    let rest : List ℕ = drop (suc n) text in
    let parts : (is_utf8 line && list_all is_utf8 (lines_of rest)) ≡ true = subst (λ ls. list_all is_utf8 ls ≡ true) (further_line text n e h) g in
    let front : IsUtf8 (take n text) =
    returned IsUtf8 (λ ys u. IsUtf8-append ys (13 ∷ []) u return_encoded) (take n text) (IsUtf8-from_is_utf8 line (left_part (is_utf8 line) (list_all is_utf8 (lines_of rest)) parts)) in
    let behind : IsUtf8 rest = f rest (omega (arith, h, length-drop (suc n) text)) (right_part (is_utf8 line) (list_all is_utf8 (lines_of rest)) parts) in
    subst IsUtf8 (sym (feed_cut text n e h)) (IsUtf8-append (take n text) (10 ∷ rest) front (IsUtf8-append (10 ∷ []) rest feed_encoded behind))

encoded_last : (text : List ℕ) → length_before is_line_end text ≡ length text → list_all is_utf8 (lines_of text) ≡ true → IsUtf8 text
encoded_last text e g =
    let parts : (is_utf8 text && true) ≡ true = subst (λ ls. list_all is_utf8 ls ≡ true) (one_line text e) g in
    IsUtf8-from_is_utf8 text (left_part (is_utf8 text) true parts)

is_before : (a b : ℕ) → nat_lt a b ≡ true → a < b
is_before a b h = grind (arith, nat_tests)

is_at_end : (a b : ℕ) → nat_lt a b ≡ false → a ≤ b → a ≡ b
is_at_end a b h g = grind (arith, nat_tests)

encoded_within : (k : ℕ) (text : List ℕ) → length text < k → list_all is_utf8 (lines_of text) ≡ true → IsUtf8 text
encoded_within zero text h g = absurd (omega (arith, h))
encoded_within (suc k) text h g = shown (nat_lt n (length text)) refl (λ rest l e. encoded_within k rest (omega (arith, l, h)) e) where
  n : ℕ
  n = length_before is_line_end text

  shown : (t : Bool) → nat_lt n (length text) ≡ t → ((rest : List ℕ) → length rest < length text → list_all is_utf8 (lines_of rest) ≡ true → IsUtf8 rest) → IsUtf8 text
  shown true e f = encoded_further text n refl (is_before n (length text) e) g f
  shown false e f = encoded_last text (is_at_end n (length text) e (before_within is_line_end text)) g

pub text_encoded : (text : List ℕ) → list_all is_utf8 (lines_of text) ≡ true → is_utf8 text ≡ true
text_encoded text h = is_utf8-from_IsUtf8 text (encoded_within (suc (length text)) text (omega arith) h)
