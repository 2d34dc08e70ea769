-- Lists of names, no two of which are equal.
use Rattle.std.proofs.Common.{◌≡◌, Bool, true, false, cond, ◌||◌, ◌⊎◌, inl, inr, List, [], ◌∷◌, ◌++◌, map, Some, None, refl, sym, ◌∙◌, ap, subst, ◌≢◌, ℕ, zero, suc, ◌<◌, length, arith}
use Rattle.std.proofs.lemmas.Bool.{or_parts}
use Rattle.std.specs.Prelude.{⊤}
use Rattle.wb_values.specs.Value.{Name, same_name, Entries, entry_of, Sort}
use Rattle.model_meaning.specs.Among.{is_name_in, has_twice}
use Rattle.emitted_designs.proofs.Named.{same_of}
use Rattle.ila_model.specs.Sorted.{are_distinct, name_at}
use Rattle.ila_model.proofs.Names.{same-sym, none_at, first_is_apart, others_apart}

-- ---- elements of lists

abbrev pub Among : {A : Type 0} → A → List A → Type 0
Among x [] = ⊥
Among x (y ∷ ys) = (y ≡ x) ⊎ Among x ys

pub among_left : {A : Type 0} (x : A) (xs ys : List A) → Among x xs → Among x (xs ++ ys)
among_left x [] ys h = absurd h
among_left x (y ∷ xs) ys (inl e) = inl e
among_left x (y ∷ xs) ys (inr h) = inr (among_left x xs ys h)

pub among_right : {A : Type 0} (x : A) (xs ys : List A) → Among x ys → Among x (xs ++ ys)
among_right x [] ys h = h
among_right x (y ∷ xs) ys h = inr (among_right x xs ys h)

pub among_either : {A : Type 0} (x : A) (xs ys : List A) → Among x (xs ++ ys) → Among x xs ⊎ Among x ys
among_either x [] ys h = inr h
among_either x (y ∷ xs) ys (inl e) = inl (inl e)
among_either x (y ∷ xs) ys (inr h) = in_rest (among_either x xs ys h)
  where
    in_rest : Among x xs ⊎ Among x ys → Among x (y ∷ xs) ⊎ Among x ys
    in_rest (inl k) = inl (inr k)
    in_rest (inr k) = inr k

pub among_map : {A : Type 0} {B : Type 0} (f : A → B) (x : A) (xs : List A) → Among x xs → Among (f x) (map f xs)
among_map f x [] h = absurd h
among_map f x (y ∷ xs) (inl e) = inl (ap f e)
among_map f x (y ∷ xs) (inr h) = inr (among_map f x xs h)

pub mapped_from : {A : Type 0} {B : Type 0} (f : A → B) (z : B) (xs : List A) → Among z (map f xs) → (x : A) × Among x xs × (f x ≡ z)
mapped_from f z [] h = absurd h
mapped_from f z (x ∷ xs) (inl e) = (x, inl refl, e)
mapped_from f z (x ∷ xs) (inr h) = let more = mapped_from f z xs h in (more.0, inr more.1, more.2)

-- ---- names that are all different

abbrev pub AreDistinct : List Name → Type 0
AreDistinct [] = ⊤
AreDistinct (n ∷ ns) = (is_name_in n ns ≡ false) × AreDistinct ns

pub distinct_from : (ns : List Name) → has_twice ns ≡ false → AreDistinct ns
distinct_from [] e = tt
distinct_from (n ∷ ns) e =
    let parts : (is_name_in n ns ≡ false) × (has_twice ns ≡ false) = or_parts (is_name_in n ns) (has_twice ns) e in
    (parts.0, distinct_from ns parts.1)

or_false : (a b : Bool) → a ≡ false → b ≡ false → (a || b) ≡ false
or_false true b e f = e
or_false false b e f = f

pub not_in_both : (n : Name) (ms ns : List Name) → is_name_in n ms ≡ false → is_name_in n ns ≡ false → is_name_in n (ms ++ ns) ≡ false
not_in_both n [] ns e f = f
not_in_both n (m ∷ ms) ns e f =
    let parts : (same_name n m ≡ false) × (is_name_in n ms ≡ false) = or_parts (same_name n m) (is_name_in n ms) e in
    or_false (same_name n m) (is_name_in n (ms ++ ns)) parts.0 (not_in_both n ms ns parts.1 f)

pub distinct_joined : (ms ns : List Name) → AreDistinct ms → AreDistinct ns → ((n : Name) → Among n ms → is_name_in n ns ≡ false)
    → AreDistinct (ms ++ ns)
distinct_joined [] ns d e apart = e
distinct_joined (m ∷ ms) ns d e apart =
    (not_in_both m ms ns d.0 (apart m (inl refl)), distinct_joined ms ns d.1 e (λ n h. apart n (inr h)))

pub first_not : (n : Name) (ms ns : List Name) → is_name_in n (ms ++ ns) ≡ false → (is_name_in n ms ≡ false) × (is_name_in n ns ≡ false)
first_not n [] ns e = (refl, e)
first_not n (m ∷ ms) ns e =
    let parts : (same_name n m ≡ false) × (is_name_in n (ms ++ ns) ≡ false) = or_parts (same_name n m) (is_name_in n (ms ++ ns)) e in
    let more = first_not n ms ns parts.1 in (or_false (same_name n m) (is_name_in n ms) parts.0 more.0, more.1)

pub distinct_parts : (ms ns : List Name) → AreDistinct (ms ++ ns) → AreDistinct ms × AreDistinct ns
distinct_parts [] ns d = (tt, d)
distinct_parts (m ∷ ms) ns d = let more = distinct_parts ms ns d.1 in (((first_not m ms ns d.0).0, more.0), more.1)

-- a name of the first list is not in the second
pub apart_in : (ms ns : List Name) (n : Name) → AreDistinct (ms ++ ns) → Among n ms → is_name_in n ns ≡ false
apart_in [] ns n d h = absurd h
apart_in (m ∷ ms) ns n d (inl e) = subst (λ k. is_name_in k ns ≡ false) e (first_not m ms ns d.0).1
apart_in (m ∷ ms) ns n d (inr h) = apart_in ms ns n d.1 h

pub differs_in : (n k : Name) (ns : List Name) → is_name_in n ns ≡ false → Among k ns → same_name n k ≡ false
differs_in n k [] e h = absurd h
differs_in n k (m ∷ ns) e (inl f) = subst (λ j. same_name n j ≡ false) f (or_parts (same_name n m) (is_name_in n ns) e).0
differs_in n k (m ∷ ns) e (inr g) = differs_in n k ns (or_parts (same_name n m) (is_name_in n ns) e).1 g

pub none_in : (n : Name) (ns : List Name) → ((k : Name) → Among k ns → same_name n k ≡ false) → is_name_in n ns ≡ false
none_in n [] h = refl
none_in n (m ∷ ns) h = or_false (same_name n m) (is_name_in n ns) (h m (inl refl)) (none_in n ns (λ k g. h k (inr g)))

pub named_among : (n : Name) (ns : List Name) → Among n ns → is_name_in n ns ≡ true
named_among n [] h = absurd h
named_among n (m ∷ ns) (inl e) = ap (λ b. b || is_name_in n ns) (same_of n m (sym e))
named_among n (m ∷ ns) (inr h) = or_true (same_name n m) (is_name_in n ns) (named_among n ns h)
  where
    or_true : (a b : Bool) → b ≡ true → (a || b) ≡ true
    or_true true b e = refl
    or_true false b e = e

-- ---- look-ups

pub entry_is : {A : Type 0} (es : Entries A) (e : Name × A) → AreDistinct (map (λ x. x.0) es) → Among e es → entry_of es e.0 ≡ Some e.1
entry_is [] e d h = absurd h
entry_is {A} (x ∷ es) e d (inl f) = ap (λ b. cond b (Some x.1) (entry_of es e.0)) (same_of x.0 e.0 (ap (λ y. y.0) f)) ∙ ap (λ (y : Name × A). Some y.1) f
entry_is {A} (x ∷ es) e d (inr h) =
    ap (λ b. cond b (Some x.1) (entry_of es e.0)) (differs_in x.0 e.0 (map (λ y. y.0) es) d.0 (among_map (λ (y : Name × A). y.0) e es h))
    ∙ entry_is es e d.1 h

pub no_entry : {A : Type 0} (es : Entries A) (n : Name) → ((k : Name) → Among k (map (λ x. x.0) es) → same_name k n ≡ false) → entry_of es n ≡ None
no_entry [] n h = refl
no_entry (x ∷ es) n h = ap (λ b. cond b (Some x.1) (entry_of es n)) (h x.0 (inl refl)) ∙ no_entry es n (λ k g. h k (inr g))

-- names at two places of a table of names that are all different
pub names_apart : (ns : Entries Sort) (i k : ℕ) → are_distinct ns ≡ true → i < length ns → k < length ns → i ≢ k
    → same_name (name_at ns i) (name_at ns k) ≡ false
names_apart [] i k d low high apart = absurd (omega (arith, low))
names_apart (m ∷ ns) zero zero d low high apart = absurd (apart refl)
names_apart (m ∷ ns) zero (suc k) d low high apart =
    same-sym m.0 (name_at ns k) ∙ none_at ns m.0 k (first_is_apart m ns d) (omega (arith, high))
names_apart (m ∷ ns) (suc i) zero d low high apart = none_at ns m.0 i (first_is_apart m ns d) (omega (arith, low))
names_apart (m ∷ ns) (suc i) (suc k) d low high apart =
    names_apart ns i k (others_apart m ns d) (omega (arith, low)) (omega (arith, high)) (λ q. apart (ap suc q))
