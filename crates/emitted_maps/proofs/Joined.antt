-- Texts that are written one after the other, with commas between them, and the text of a map in its parts.
use Rattle.std.proofs.Common.{◌≡◌, ℕ, zero, suc, ◌+◌, ◌<◌, ◌≤◌, List, [], ◌∷◌, ◌++◌, map, drop, length, refl, sym, ap, ◌∙◌, append_assoc, arith}
use Rattle.std.specs.Prelude.{codes, decimal, slice_index_or}
use Rattle.std.specs.Fmt.{digits}
use Rattle.std.specs.Borrow.{Bor}
use Rattle.std.proofs.lemmas.List.{append-nil}
use Rattle.reports.specs.Report.{with_commas, in_brackets, in_braces, member_text, quoted}
use Rattle.emitted_designs.specs.Map.{text_members, written_by_their_names}
use Rattle.emitted_maps.specs.Commas.{comma_behind}

-- each text behind a comma
abbrev pub behind_commas : List (List ℕ) → List ℕ
behind_commas [] = []
behind_commas (t ∷ ts) = 44 ∷ (t ++ behind_commas ts)

-- what is left to write of texts, of which so many are written
abbrev pub left_of : ℕ → List (List ℕ) → List ℕ
left_of zero ts = with_commas ts
left_of (suc n) ts = behind_commas ts

commas : (t : List ℕ) (ts : List (List ℕ)) → with_commas (t ∷ ts) ≡ t ++ behind_commas ts
commas t [] = sym (append-nil t)
commas t (x ∷ ts) = ap (λ y. t ++ 44 ∷ y) (commas x ts)

after : (i : ℕ) (o t : List ℕ) (ts : List (List ℕ)) → ((o ++ comma_behind i) ++ t) ++ left_of (suc i) ts ≡ o ++ left_of i (t ∷ ts)
after zero o t ts =
    append_assoc (o ++ []) t (behind_commas ts)
    ∙ (ap (λ x. x ++ (t ++ behind_commas ts)) (append-nil o) ∙ ap (λ x. o ++ x) (sym (commas t ts)))
after (suc i) o t ts = append_assoc (o ++ 44 ∷ []) t (behind_commas ts) ∙ append_assoc o (44 ∷ []) (t ++ behind_commas ts)

-- one text more is written
pub turned : {A : Type 0} (f : List A → List (List ℕ)) (xs : List A) (i j : ℕ) (o o₁ o₂ t : List ℕ) → j ≡ suc i → f (drop i xs) ≡ t ∷ f (drop j xs)
    → o₁ ≡ o ++ comma_behind i → o₂ ≡ o₁ ++ t → o₂ ++ left_of j (f (drop j xs)) ≡ o ++ left_of i (f (drop i xs))
turned f xs i j o o₁ o₂ t is_j cut e₁ e₂ =
    ap (λ x. x ++ left_of j (f (drop j xs))) (e₂ ∙ ap (λ x. x ++ t) e₁)
    ∙ (ap (λ k. ((o ++ comma_behind i) ++ t) ++ left_of k (f (drop j xs))) is_j
    ∙ (after i o t (f (drop j xs)) ∙ ap (λ ts. o ++ left_of i ts) (sym cut)))

next : (i : ℕ) → suc i ≡ i + 1
next i = omega arith

at_or : {A : Type 0} (ys : List A) (k : ℕ) (w : A) → k < length ys → drop k ys ≡ slice_index_or ys k w ∷ drop (suc k) ys
at_or [] k w l = absurd (omega (arith, l))
at_or (y ∷ ys) zero w l = refl
at_or (y ∷ ys) (suc k) w l = at_or ys k w (omega (arith, l))

-- the list from a place on
pub cut_or : {A : Type 0} (xs : List A) (i : ℕ) (w : A) → i < length xs → drop i xs ≡ slice_index_or xs i w ∷ drop (i + 1) xs
cut_or xs i w l = at_or xs i w l ∙ ap (λ j. slice_index_or xs i w ∷ drop j xs) (next i)

pub cut : {A : Type 0} (xs : List A) (i : ℕ) (w : A) → i < length xs → w ≡ slice_index_or xs i w → drop i xs ≡ w ∷ drop (i + 1) xs
cut xs i w l e = cut_or xs i w l ∙ ap (λ y. y ∷ drop (i + 1) xs) (sym e)

over : (i : ℕ) → left_of i [] ≡ []
over zero = refl
over (suc i) = refl

-- all of them are written
pub closed : (i : ℕ) (ts : List (List ℕ)) (before after_it : ℕ) (o o₁ o₂ w : List ℕ) → ts ≡ [] → o₁ ++ left_of i ts ≡ (o ++ before ∷ []) ++ w
    → o₂ ≡ o₁ ++ after_it ∷ [] → o₂ ≡ o ++ before ∷ (w ++ after_it ∷ [])
closed i ts before after_it o o₁ o₂ w none e₁ e₂ =
    e₂
    ∙ (ap (λ x. x ++ after_it ∷ []) (sym (append-nil o₁) ∙ (ap (λ x. o₁ ++ x) (sym (ap (left_of i) none ∙ over i)) ∙ e₁))
    ∙ (append_assoc (o ++ before ∷ []) w (after_it ∷ []) ∙ append_assoc o (before ∷ []) (w ++ after_it ∷ [])))

-- nothing is left of a list at its end
pub none_left : {A : Type 0} (xs : List A) (i : ℕ) → length xs ≤ i → drop i xs ≡ []
none_left [] zero h = refl
none_left [] (suc i) h = refl
none_left (x ∷ xs) zero h = absurd (omega (arith, h))
none_left (x ∷ xs) (suc i) h = none_left xs i (omega (arith, h))

-- ---- small texts

-- text in quotation marks is written
pub quoted_after : (o o₁ o₂ o₃ n : List ℕ) → o₁ ≡ o ++ 34 ∷ [] → o₂ ≡ o₁ ++ n → o₃ ≡ o₂ ++ 34 ∷ [] → o₃ ≡ o ++ quoted n
quoted_after o o₁ o₂ o₃ n e₁ e₂ e₃ =
    e₃ ∙ (ap (λ x. x ++ 34 ∷ []) (e₂ ∙ ap (λ x. x ++ n) e₁) ∙ grouped (34 ∷ []) (34 ∷ []))
  where
    grouped : (a b : List ℕ) → ((o ++ a) ++ n) ++ b ≡ o ++ (a ++ (n ++ b))
    grouped a b = simp append_assoc

pub member_after : (o o₁ o₂ o₃ n t : List ℕ) → o₁ ≡ o ++ quoted n → o₂ ≡ o₁ ++ 58 ∷ [] → o₃ ≡ o₂ ++ t → o₃ ≡ o ++ member_text n t
member_after o o₁ o₂ o₃ n t e₁ e₂ e₃ =
    e₃ ∙ (ap (λ x. x ++ t) (e₂ ∙ ap (λ x. x ++ 58 ∷ []) e₁) ∙ grouped (quoted n) (58 ∷ []))
  where
    grouped : (a b : List ℕ) → ((o ++ a) ++ b) ++ t ≡ o ++ (a ++ (b ++ t))
    grouped a b = simp append_assoc

-- ---- the entry of an instruction

entry_flat : (k₁ k₂ k₃ b c n : List ℕ)
    → in_braces (member_text k₁ b ∷ member_text k₂ (quoted c) ∷ member_text k₃ (quoted n) ∷ [])
    ≡ (123 ∷ 34 ∷ (k₁ ++ (34 ∷ 58 ∷ []))) ++ (b ++ ((44 ∷ 34 ∷ (k₂ ++ (34 ∷ 58 ∷ 34 ∷ (c ++ (34 ∷ 44 ∷ 34 ∷ (k₃ ++ (34 ∷ 58 ∷ []))))))) ++ (quoted n ++ (125 ∷ []))))
entry_flat k₁ k₂ k₃ b c n = simp append_assoc

pub entry_after : (o o₁ o₂ o₃ o₄ o₅ b n : List ℕ) → o₁ ≡ o ++ codes "{\"bound\":" → o₂ ≡ o₁ ++ b → o₃ ≡ o₂ ++ codes ",\"commit\":\"wb_commit\",\"name\":"
    → o₄ ≡ o₃ ++ quoted n → o₅ ≡ o₄ ++ codes "}"
    → o₅ ≡ o ++ in_braces (member_text (codes "bound") b ∷ member_text (codes "commit") (quoted (codes "wb_commit")) ∷ member_text (codes "name") (quoted n) ∷ [])
entry_after o o₁ o₂ o₃ o₄ o₅ b n e₁ e₂ e₃ e₄ e₅ =
    e₅
    ∙ (ap (λ x. x ++ codes "}")
    (e₄
    ∙ ap (λ x. x ++ quoted n)
    (e₃ ∙ ap (λ x. x ++ codes ",\"commit\":\"wb_commit\",\"name\":") (e₂ ∙ ap (λ x. x ++ b) e₁)))
    ∙ (grouped (codes "{\"bound\":") (codes ",\"commit\":\"wb_commit\",\"name\":") (quoted n) (codes "}")
    ∙ ap (λ x. o ++ x) (sym (entry_flat (codes "bound") (codes "commit") (codes "name") b (codes "wb_commit") n))))
  where
    grouped : (p q s r : List ℕ) → ((((o ++ p) ++ b) ++ q) ++ s) ++ r ≡ o ++ (p ++ (b ++ (q ++ (s ++ r))))
    grouped p q s r = simp append_assoc

-- ---- the whole map

-- the members of a map in braces
ten_flat : (t₁ t₂ t₃ t₄ t₅ t₆ t₇ t₈ t₉ t₀ : List ℕ)
    → in_braces (t₁ ∷ t₂ ∷ t₃ ∷ t₄ ∷ t₅ ∷ t₆ ∷ t₇ ∷ t₈ ∷ t₉ ∷ t₀ ∷ [])
    ≡ 123 ∷ (t₁ ++ (44 ∷ (t₂ ++ (44 ∷ (t₃ ++ (44 ∷ (t₄ ++ (44 ∷ (t₅ ++ (44 ∷ (t₆ ++ (44 ∷ (t₇ ++ (44 ∷ (t₈ ++ (44 ∷ (t₉ ++ (44 ∷ (t₀ ++ (125 ∷ []))))))))))))))))))))
ten_flat t₁ t₂ t₃ t₄ t₅ t₆ t₇ t₈ t₉ t₀ = simp append_assoc

-- a map's text, with the texts of inputs, instructions, invariants, states and its own name put in
abbrev pub whole_map : (inputs instructions invariants states top : List ℕ) → List ℕ
whole_map i j v s n =
    in_braces
    (member_text (codes "assume") (in_brackets [])
    ∷ member_text (codes "clock") (quoted (codes "wb_clk"))
    ∷ member_text (codes "inputs") i
    ∷ member_text (codes "instructions") j
    ∷ member_text (codes "invariants") v
    ∷ member_text (codes "reset")
    (in_braces
    (member_text (codes "active") (decimal 1) ∷ member_text (codes "cycles") (decimal 1)
    ∷ member_text (codes "signal") (quoted (codes "wb_rst")) ∷ []))
    ∷ member_text (codes "start") (quoted (codes "wb_start"))
    ∷ member_text (codes "states") s
    ∷ member_text (codes "top") (quoted n)
    ∷ member_text (codes "version") (decimal 1)
    ∷ [])

one : decimal 1 ≡ 49 ∷ []
unfolding digits
one = refl

abbrev p₁ : List ℕ
p₁ = codes "{\"assume\":[],\"clock\":\"wb_clk\",\"inputs\":"

abbrev p₂ : List ℕ
p₂ = codes ",\"instructions\":"

abbrev p₃ : List ℕ
p₃ = codes ",\"invariants\":"

abbrev p₄ : List ℕ
p₄ = codes ",\"reset\":{\"active\":1,\"cycles\":1,\"signal\":\"wb_rst\"},\"start\":\"wb_start\",\"states\":"

abbrev p₅ : List ℕ
p₅ = codes ",\"top\":"

abbrev p₆ : List ℕ
p₆ = codes ",\"version\":1}"

-- what stands behind the invariants, where d is the numeral of 1
abbrev behind_states : (d s n : List ℕ) → List ℕ
behind_states d s n = member_text (codes "states") s ++ 44 ∷ (member_text (codes "top") (quoted n) ++ 44 ∷ (member_text (codes "version") d ++ 125 ∷ []))

abbrev reset_member : (d : List ℕ) → List ℕ
reset_member d =
    member_text (codes "reset")
    (in_braces (member_text (codes "active") d ∷ member_text (codes "cycles") d ∷ member_text (codes "signal") (quoted (codes "wb_rst")) ∷ []))

abbrev behind_invariants : (d s n : List ℕ) → List ℕ
behind_invariants d s n = 44 ∷ (reset_member d ++ 44 ∷ (member_text (codes "start") (quoted (codes "wb_start")) ++ 44 ∷ behind_states d s n))

top_moved : (n r : List ℕ) → member_text (codes "top") (quoted n) ++ r ≡ codes "\"top\":" ++ (quoted n ++ r)
top_moved n r = refl

whole_flat : (i j v s n : List ℕ) → whole_map i j v s n ≡ p₁ ++ (i ++ (p₂ ++ (j ++ (p₃ ++ (v ++ (p₄ ++ (s ++ (p₅ ++ (quoted n ++ p₆)))))))))
whole_flat i j v s n =
    ten_flat (member_text (codes "assume") (in_brackets [])) (member_text (codes "clock") (quoted (codes "wb_clk"))) (member_text (codes "inputs") i)
    (member_text (codes "instructions") j) (member_text (codes "invariants") v) (reset_member (decimal 1)) (member_text (codes "start") (quoted (codes "wb_start")))
    (member_text (codes "states") s) (member_text (codes "top") (quoted n)) (member_text (codes "version") (decimal 1))
    ∙ ap (λ d. p₁ ++ (i ++ (p₂ ++ (j ++ (p₃ ++ (v ++ behind_invariants d s n)))))) one

in_a_row : (a i b j c v d s e n f : List ℕ)
    → ((((((((((a ++ i) ++ b) ++ j) ++ c) ++ v) ++ d) ++ s) ++ e) ++ n) ++ f) ≡ a ++ (i ++ (b ++ (j ++ (c ++ (v ++ (d ++ (s ++ (e ++ (n ++ f)))))))))
in_a_row a i b j c v d s e n f = simp append_assoc

pub whole_written : (o₁ o₂ o₃ o₄ o₅ o₆ o₇ o₈ o₉ o₁₀ o₁₁ i j v s n : List ℕ) → o₁ ≡ p₁ → o₂ ≡ o₁ ++ i → o₃ ≡ o₂ ++ p₂ → o₄ ≡ o₃ ++ j → o₅ ≡ o₄ ++ p₃
    → o₆ ≡ o₅ ++ v → o₇ ≡ o₆ ++ p₄ → o₈ ≡ o₇ ++ s → o₉ ≡ o₈ ++ p₅ → o₁₀ ≡ o₉ ++ quoted n → o₁₁ ≡ o₁₀ ++ p₆ → o₁₁ ≡ whole_map i j v s n
whole_written o₁ o₂ o₃ o₄ o₅ o₆ o₇ o₈ o₉ o₁₀ o₁₁ i j v s n e₁ e₂ e₃ e₄ e₅ e₆ e₇ e₈ e₉ e₁₀ e₁₁ =
    let a : o₃ ≡ (p₁ ++ i) ++ p₂ = e₃ ∙ ap (λ x. x ++ p₂) (e₂ ∙ ap (λ x. x ++ i) e₁) in
    let b : o₅ ≡ (((p₁ ++ i) ++ p₂) ++ j) ++ p₃ = e₅ ∙ ap (λ x. x ++ p₃) (e₄ ∙ ap (λ x. x ++ j) a) in
    let c : o₇ ≡ (((((p₁ ++ i) ++ p₂) ++ j) ++ p₃) ++ v) ++ p₄ = e₇ ∙ ap (λ x. x ++ p₄) (e₆ ∙ ap (λ x. x ++ v) b) in
    let d : o₉ ≡ (((((((p₁ ++ i) ++ p₂) ++ j) ++ p₃) ++ v) ++ p₄) ++ s) ++ p₅ = e₉ ∙ ap (λ x. x ++ p₅) (e₈ ∙ ap (λ x. x ++ s) c) in
    e₁₁ ∙ (ap (λ x. x ++ p₆) (e₁₀ ∙ ap (λ x. x ++ quoted n) d) ∙ (in_a_row p₁ i p₂ j p₃ v p₄ s p₅ (quoted n) p₆ ∙ sym (whole_flat i j v s n)))

-- ---- names that stand for themselves

abbrev pub named : List (Bor (List ℕ)) → List (List ℕ)
named xs = text_members (written_by_their_names (map (λ n. n.now) xs))

pub name_turned : (xs : List (Bor (List ℕ))) (i : ℕ) (d : Bor (List ℕ)) (o o₁ o₂ : List ℕ) → i < length xs → o₁ ≡ o ++ comma_behind i
    → o₂ ≡ o₁ ++ member_text (slice_index_or xs i d).now (quoted (slice_index_or xs i d).now)
    → o₂ ++ left_of (i + 1) (named (drop (i + 1) xs)) ≡ o ++ left_of i (named (drop i xs))
name_turned xs i d o o₁ o₂ h e₁ e₂ =
    let n = (slice_index_or xs i d).now in
    turned named xs i (i + 1) o o₁ o₂ (member_text n (quoted n)) (sym (next i)) (ap named (cut_or xs i d h)) e₁ e₂
