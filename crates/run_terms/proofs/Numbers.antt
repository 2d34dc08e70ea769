-- Names that are numbers: each differs from those before it.
use Rattle.std.proofs.Common.{◌≡◌, ℕ, zero, suc, ◌+◌, ◌-◌, ◌*◌, ◌<◌, ◌≤◌, ◌^◌, Bool, true, false, [], ◌∷◌, ◌++◌, length, take, drop, get_or, None, refl, sym, ap, ◌∙◌, arith, append_assoc}
use Rattle.std.proofs.lemmas.List.{append-nil, length-append, length-drop, take_all, take_more, get_or-drop, get_or_append_left, get_or-append-add}
use Rattle.std.proofs.Math.Nat.{suc-mul}
use Rattle.std.proofs.lemmas.Slice.Eq.{bytes_eq-Decides}
use Rattle.std.proofs.lemmas.Fmt.{decimal_injective}
use Rattle.std.specs.Fmt.{decimal}
use Rattle.wb_values.specs.Value.{Name, Sort, truth, number, Entries, Valuation, entry_of, same_name}
use Rattle.term_copies.specs.Copies.{declared_at}
use Rattle.run_terms.specs.Names.{numbered, repeated, values_from}

tested : (a b : Name) (t : Bool) → same_name a b ≡ t → (a ≡ b → ⊥) → t ≡ false
tested a b true e h = absurd (h ((bytes_eq-Decides a b).0 e))
tested a b false e h = refl

new_from : (k m : ℕ) (es : Entries Sort) → k + length es ≤ m → m < 2 ^ 64 → entry_of (numbered k es) (decimal m) ≡ None
new_from k m [] l b = refl
new_from k m (e ∷ es) l b =
    let less : k < m = omega (arith, l) in
    let other : same_name (decimal k) (decimal m) ≡ false =
    tested (decimal k) (decimal m) (same_name (decimal k) (decimal m)) refl (λ same. absurd (omega (arith, less, decimal_injective k m (omega (arith, less, b)) b same))) in
    rw other (new_from (suc k) m es (omega (arith, l)) b)

pub length-numbered : (k : ℕ) (es : Entries Sort) → length (numbered k es) ≡ length es
length-numbered k [] = refl
length-numbered k (e ∷ es) = ap suc (length-numbered (suc k) es)

-- the next number is a new name
pub next_is_new : (ns : Entries Sort) (bytes : Name) (m : ℕ) → ns ≡ numbered 0 ns → bytes ≡ decimal m → m ≡ length ns → m < 2 ^ 64 → entry_of ns bytes ≡ None
next_is_new ns bytes m e b i l =
    ap (entry_of ns) b ∙ (ap (λ (xs : Entries Sort). entry_of xs (decimal m)) e ∙ new_from 0 m ns (omega (arith, i)) l)

pub numbered-again : (k j : ℕ) (es fs : Entries Sort) → numbered k (numbered j es ++ fs) ≡ numbered k (es ++ fs)
numbered-again k j [] fs = refl
numbered-again k j (e ∷ es) fs = ap (λ (r : Entries Sort). (decimal k, e.1) ∷ r) (numbered-again (suc k) (suc j) es fs)

numbered-twice : (k j : ℕ) (es : Entries Sort) → numbered k (numbered j es) ≡ numbered k es
numbered-twice k j [] = refl
numbered-twice k j (e ∷ es) = ap (λ (r : Entries Sort). (decimal k, e.1) ∷ r) (numbered-twice (suc k) (suc j) es)

-- names that are numbers stay so
pub idempotent : (ns es : Entries Sort) → ns ≡ numbered 0 es → ns ≡ numbered 0 ns
idempotent ns es e = e ∙ (sym (numbered-twice 0 0 es) ∙ ap (numbered 0) (sym e))

numbered-push : (k : ℕ) (es : Entries Sort) (n : Name × Sort) → numbered k (es ++ n ∷ []) ≡ numbered k es ++ (decimal (k + length es), n.1) ∷ []
numbered-push k [] n = let e : k ≡ k + 0 = omega arith in ap (λ j. (decimal j, n.1) ∷ []) e
numbered-push k (e ∷ es) n =
    let same : suc k + length es ≡ k + suc (length es) = omega arith in
    ap (λ (r : Entries Sort). (decimal k, e.1) ∷ r) (numbered-push (suc k) es n ∙ ap (λ j. numbered (suc k) es ++ (decimal j, n.1) ∷ []) same)

-- ---- a loop over a part of a table

pub part_none : (ns src : Entries Sort) (first : ℕ) → ns ≡ numbered 0 ns → ns ≡ numbered 0 (ns ++ take (first - first) (drop first src))
part_none ns src first e =
    let none : first - first ≡ 0 = omega arith in
    e ∙ ap (numbered 0) (sym (append-nil ns) ∙ ap (λ k. ns ++ take k (drop first src)) (sym none))

-- the part up to a place and the entry there
pub part_next : (src : Entries Sort) (first place : ℕ) → first ≤ place → place < length src
    → take (place + 1 - first) (drop first src) ≡ take (place - first) (drop first src) ++ declared_at src place ∷ []
part_next src first place l b =
    let n : Name × Sort = declared_at src place in
    let next : place + 1 - first ≡ place - first + 1 = omega (arith, l) in
    let back : first + (place - first) ≡ place = omega (arith, l) in
    let there : get_or (drop first src) (place - first) ([], truth) ≡ n = get_or-drop first src (place - first) ([], truth) ∙ ap (declared_at src) back in
    ap (λ k. take k (drop first src)) next
    ∙ (take_more (drop first src) (place - first) ([], truth) (omega (arith, l, b, length-drop first src)) ∙ ap (λ (x : Name × Sort). take (place - first) (drop first src) ++ x ∷ []) there)

pub part_more : (old src now after : Entries Sort) (first place : ℕ) (s : Sort) → first ≤ place → place < length src
    → now ≡ numbered 0 (old ++ take (place - first) (drop first src)) → after ≡ now ++ (decimal (length now), s) ∷ [] → s ≡ (declared_at src place).1
    → after ≡ numbered 0 (old ++ take (place + 1 - first) (drop first src))
part_more old src now after first place s l b is made sort =
    let es : Entries Sort = old ++ take (place - first) (drop first src) in
    let n : Name × Sort = declared_at src place in
    let count : length now ≡ 0 + length es = ap length is ∙ (length-numbered 0 es ∙ (let z : length es ≡ 0 + length es = omega arith in z)) in
    let more : take (place + 1 - first) (drop first src) ≡ take (place - first) (drop first src) ++ n ∷ [] = part_next src first place l b in
    let whole : old ++ take (place + 1 - first) (drop first src) ≡ es ++ n ∷ [] =
    ap (λ (xs : Entries Sort). old ++ xs) more ∙ sym (append_assoc old (take (place - first) (drop first src)) (n ∷ [])) in
    made ∙ ((λ i. is i ++ (decimal (count i), sort i) ∷ []) ∙ (sym (numbered-push 0 es n) ∙ ap (numbered 0) (sym whole)))

-- ---- entries so many times

repeated-suc : (n : ℕ) (es : Entries Sort) → es ++ repeated n es ≡ repeated n es ++ es
repeated-suc zero es = append-nil es
repeated-suc (suc n) es = ap (λ (xs : Entries Sort). es ++ xs) (repeated-suc n es) ∙ sym (append_assoc es (repeated n es) es)

pub repeated_none : (ns rs is : Entries Sort) → ns ≡ numbered 0 rs → ns ≡ numbered 0 (rs ++ repeated 0 is)
repeated_none ns rs is e = e ∙ ap (numbered 0) (sym (append-nil rs))

-- the names of a further cycle
pub repeated_more : (now after rs is : Entries Sort) (t : ℕ) → now ≡ numbered 0 (rs ++ repeated t is) → after ≡ numbered 0 (now ++ is)
    → after ≡ numbered 0 (rs ++ repeated (t + 1) is)
repeated_more now after rs is t e made =
    let next : suc t ≡ t + 1 = omega arith in
    made ∙ (ap (λ (xs : Entries Sort). numbered 0 (xs ++ is)) e ∙ (numbered-again 0 0 (rs ++ repeated t is) is
    ∙ ap (numbered 0) (append_assoc rs (repeated t is) is ∙ (ap (λ (xs : Entries Sort). rs ++ xs) (sym (repeated-suc t is)) ∙ ap (λ j. rs ++ repeated j is) next))))

-- ---- the name at a place

pub numbered_at : (k j : ℕ) (es : Entries Sort) → j < length es → declared_at (numbered k es) j ≡ (decimal (k + j), (declared_at es j).1)
numbered_at k j [] b = absurd (omega (arith, b))
numbered_at k zero (e ∷ es) b = let z : k ≡ k + 0 = omega arith in ap (λ i. (decimal i, e.1)) z
numbered_at k (suc j) (e ∷ es) b =
    let same : suc k + j ≡ k + suc j = omega arith in
    numbered_at (suc k) j es (omega (arith, b)) ∙ ap (λ i. (decimal i, (declared_at es j).1)) same

pub length-values_from : (k : ℕ) (es : Entries Sort) (v : Valuation) → length (values_from k es v) ≡ length es
length-values_from k [] v = refl
length-values_from k (e ∷ es) v = ap suc (length-values_from (suc k) es v)

pub value_from : (k j : ℕ) (es : Entries Sort) (v : Valuation) → j < length es → get_or (values_from k es v) j (number 0) ≡ v (decimal (k + j))
value_from k j [] v b = absurd (omega (arith, b))
value_from k zero (e ∷ es) v b = let z : k ≡ k + 0 = omega arith in ap (λ i. v (decimal i)) z
value_from k (suc j) (e ∷ es) v b =
    let same : suc k + j ≡ k + suc j = omega arith in
    value_from (suc k) j es v (omega (arith, b)) ∙ ap (λ i. v (decimal i)) same

pub length-repeated : (c : ℕ) (es : Entries Sort) → length (repeated c es) ≡ c * length es
length-repeated zero es = let z : 0 ≡ 0 * length es = omega arith in z
length-repeated (suc c) es = omega (arith, length-append es (repeated c es), length-repeated c es, suc-mul c (length es))

pub repeated_at : (c t j : ℕ) (es : Entries Sort) → t < c → j < length es → declared_at (repeated c es) (t * length es + j) ≡ declared_at es j
repeated_at zero t j es l b = absurd (omega (arith, l))
repeated_at (suc c) zero j es l b =
    let z : 0 * length es + j ≡ j = omega arith in
    ap (declared_at (es ++ repeated c es)) z ∙ get_or_append_left es (repeated c es) ([], truth) j b
repeated_at (suc c) (suc t) j es l b =
    let z : suc t * length es + j ≡ length es + (t * length es + j) = omega (arith, suc-mul t (length es)) in
    ap (declared_at (es ++ repeated c es)) z ∙ (get_or-append-add es (repeated c es) (t * length es + j) ([], truth) ∙ repeated_at c t j es (omega (arith, l)) b)

-- the entry of a run's name: of a register, and of an input at a cycle
pub register_name_at : (rs is : Entries Sort) (c j : ℕ) → j < length rs → declared_at (numbered 0 (rs ++ repeated c is)) (0 + j) ≡ (decimal (0 + j), (declared_at rs j).1)
register_name_at rs is c j b =
    let z : 0 + j ≡ j = omega arith in
    ap (declared_at (numbered 0 (rs ++ repeated c is))) z ∙ (numbered_at 0 j (rs ++ repeated c is) (omega (arith, b, length-append rs (repeated c is)))
    ∙ ap (λ (e : Name × Sort). (decimal (0 + j), e.1)) (get_or_append_left rs (repeated c is) ([], truth) j b))

pub inputs_within : (c t n : ℕ) → t < c → t * n + n ≤ c * n
inputs_within zero t n l = absurd (omega (arith, l))
inputs_within (suc c) zero n l = omega (arith, suc-mul c n)
inputs_within (suc c) (suc t) n l = omega (arith, inputs_within c t n (omega (arith, l)), suc-mul c n, suc-mul t n)

pub input_name_at : (rs is : Entries Sort) (c t j : ℕ) → t < c → j < length is
    → declared_at (numbered 0 (rs ++ repeated c is)) (length rs + t * length is + j) ≡ (decimal (length rs + t * length is + j), (declared_at is j).1)
input_name_at rs is c t j l b =
    let p : ℕ = length rs + t * length is + j in
    let q : p ≡ length rs + (t * length is + j) = omega arith in
    let z : 0 + p ≡ p = omega arith in
    let fits : p < length (rs ++ repeated c is) = omega (arith, b, length-append rs (repeated c is), length-repeated c is, inputs_within c t (length is) l) in
    numbered_at 0 p (rs ++ repeated c is) fits
    ∙ ((λ i. (decimal (z i), (declared_at (rs ++ repeated c is) (q i)).1))
    ∙ ap (λ (e : Name × Sort). (decimal p, e.1)) (get_or-append-add rs (repeated c is) (t * length is + j) ([], truth) ∙ repeated_at c t j is l b))

-- the part of a table from a place on up to its end
pub whole_part : (es : Entries Sort) (n first end : ℕ) → first ≡ n → end ≡ length es → take (end - first) (drop first es) ≡ drop n es
whole_part es n first end f e =
    let count : end - first ≡ length (drop n es) = omega (arith, f, e, length-drop n es) in
    (λ i. take (count i) (drop (f i) es)) ∙ take_all (length (drop n es)) (drop n es) (omega arith)
