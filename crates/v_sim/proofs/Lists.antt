-- Names at their places, and the values that valuations give them.
use Rattle.std.proofs.Common.{◌≡◌, ◌≢◌, ◌∙◌, ℕ, zero, suc, ◌<◌, Bool, true, false, cond, ◌&&◌, List, [], ◌∷◌, length, get_or, set, take, drop, Some, None, refl, sym, ap, subst, arith}
use Rattle.std.proofs.lemmas.Bool.{false≢true}
use Rattle.std.proofs.lemmas.Slice.Eq.{bytes_eq-Decides}
use Rattle.wb_values.specs.Value.{Name, same_name, Sort, truth, Value, number, Entries, entry_of, Valuation, with_value}
use Rattle.scripts.specs.Script.{Settable, with_word, with_sets}
use Rattle.wb_terms.specs.Graph.{HasDistinctNames}
use Rattle.v_design.specs.Design.{values_under}
use Rattle.ila_sim.specs.declared.set.Set.{Set}
use Rattle.ila_sim.specs.Places.{called_at}
use Rattle.ila_sim.specs.Lines.{sets_view}
use Rattle.ila_sim.specs.Outcomes.{with_set, with_all}
use Rattle.ila_sim.specs.Sets.{suits_at, is_right, are_right}

abbrev pub name_at : Entries Sort → ℕ → Name
name_at ns k = (get_or ns k ([], truth)).0

abbrev pub sort_at : Entries Sort → ℕ → Sort
sort_at ns k = (get_or ns k ([], truth)).1

pub same_itself : (n : Name) → same_name n n ≡ true
same_itself n = (bytes_eq-Decides n n).1 refl

pub same_is : (m n : Name) → same_name m n ≡ true → m ≡ n
same_is m n h = (bytes_eq-Decides m n).0 h

is_not_same : (m n : Name) (t : Bool) → same_name m n ≡ t → m ≢ n → t ≡ false
is_not_same m n true e f = absurd (f (same_is m n e))
is_not_same m n false e f = refl

pub not_same : (m n : Name) → m ≢ n → same_name m n ≡ false
not_same m n f = is_not_same m n (same_name m n) refl f

pub none_or_some : {X : Type 0} (x : X) → Some x ≡ None → ⊥
none_or_some x e = cc

pub absent : (ns : Entries Sort) (n : Name) (k : ℕ) → entry_of ns n ≡ None → k < length ns → name_at ns k ≢ n
absent [] n k e h = absurd (omega (arith, h))
absent (m ∷ ns) n k e h = shown (same_name m.0 n) refl e k h (absent ns n)
  where
    shown : (t : Bool) → same_name m.0 n ≡ t → cond t (Some m.1) (entry_of ns n) ≡ None → (j : ℕ) → j < suc (length ns)
        → ((i : ℕ) → entry_of ns n ≡ None → i < length ns → name_at ns i ≢ n) → name_at (m ∷ ns) j ≢ n
    shown true f g j l r = absurd (none_or_some m.1 g)
    shown false f g zero l r = λ q. false≢true (sym f ∙ subst (λ x. same_name x n ≡ true) (sym q) (same_itself n))
    shown false f g (suc j) l r = r j g (omega (arith, l))

lacks_take : (f : ℕ) (ns : Entries Sort) (n : Name) → entry_of ns n ≡ None → entry_of (take f ns) n ≡ None
lacks_take zero ns n e = refl
lacks_take (suc f) [] n e = refl
lacks_take (suc f) (m ∷ ns) n e = shown (same_name m.0 n) e (lacks_take f ns n)
  where
    shown : (t : Bool) → cond t (Some m.1) (entry_of ns n) ≡ None → (entry_of ns n ≡ None → entry_of (take f ns) n ≡ None)
        → cond t (Some m.1) (entry_of (take f ns) n) ≡ None
    shown true g r = absurd (none_or_some m.1 g)
    shown false g r = r g

pub distinct_take : (f : ℕ) (ns : Entries Sort) → HasDistinctNames ns → HasDistinctNames (take f ns)
distinct_take zero ns h = tt
distinct_take (suc f) [] h = tt
distinct_take (suc f) (m ∷ ns) h = (lacks_take f ns m.0 h.0, distinct_take f ns h.1)

pub distinct_drop : (f : ℕ) (ns : Entries Sort) → HasDistinctNames ns → HasDistinctNames (drop f ns)
distinct_drop zero ns h = h
distinct_drop (suc f) [] h = tt
distinct_drop (suc f) (m ∷ ns) h = distinct_drop f ns h.1

-- ---- the values of names

pub values_at : (ns : Entries Sort) (v : Valuation) (k : ℕ) (x : Value) → k < length ns → get_or (values_under ns v) k x ≡ v (name_at ns k)
values_at [] v k x h = absurd (omega (arith, h))
values_at (n ∷ ns) v zero x h = refl
values_at (n ∷ ns) v (suc k) x h = values_at ns v k x (omega (arith, h))

chosen : (t : Bool) (x y : Value) → t ≡ true → cond t x y ≡ x
chosen true x y e = refl
chosen false x y e = absurd (false≢true e)

left : (t : Bool) (x y : Value) → t ≡ false → cond t x y ≡ y
left true x y e = absurd (false≢true (sym e))
left false x y e = refl

-- names that are not the one that is set keep their values
kept : (ns : Entries Sort) (v : Valuation) (n : Name) (x : Value) → ((k : ℕ) → k < length ns → name_at ns k ≢ n) → values_under ns (with_value v n x) ≡ values_under ns v
kept [] v n x f = refl
kept (m ∷ ns) v n x f =
    let here : with_value v n x m.0 ≡ v m.0 = left (same_name n m.0) x (v m.0) (not_same n m.0 (λ q. f 0 (omega arith) (sym q))) in
    let there = kept ns v n x (λ k h. f (suc k) (omega (arith, h))) in λ i. here i ∷ there i

pub values_set : (ns : Entries Sort) (v : Valuation) (x : Value) (k : ℕ) → HasDistinctNames ns → k < length ns
    → values_under ns (with_value v (name_at ns k) x) ≡ set (values_under ns v) k x
values_set [] v x k a h = absurd (omega (arith, h))
values_set (n ∷ ns) v x zero a h =
    let here : with_value v n.0 x n.0 ≡ x = chosen (same_name n.0 n.0) x (v n.0) (same_itself n.0) in
    let there = kept ns v n.0 x (λ j l. absent ns n.0 j a.0 l) in λ i. here i ∷ there i
values_set (n ∷ ns) v x (suc k) a h =
    let c = name_at ns k in
    let here : with_value v c x n.0 ≡ v n.0 = left (same_name c n.0) x (v n.0) (not_same c n.0 (absent ns n.0 k a.0 (omega (arith, h)))) in
    let there = values_set ns v x k a.1 (omega (arith, h)) in λ i. here i ∷ there i

pub suits_inside : (ss : List Settable) (k : ℕ) (s : Set) → suits_at ss k s ≡ true → k < length ss
suits_inside [] k s h = absurd (false≢true h)
suits_inside (t ∷ ss) zero s h = omega arith
suits_inside (t ∷ ss) (suc k) s h = omega (arith, suits_inside ss k s h)

pub left_part : (a b : Bool) → (a && b) ≡ true → a ≡ true
left_part true b e = refl
left_part false b e = e

pub right_part : (a b : Bool) → (a && b) ≡ true → b ≡ true
right_part true b e = e
right_part false b e = absurd (false≢true e)

-- The names have these settings' names, in their order.
pub record AreNamed (ns : Entries Sort) (ss : List Settable) : Type 0 where
  pub all : length ss ≡ length ns
  pub called : (k : ℕ) → k < length ns → called_at ss k ≡ name_at ns k

one_set : (ns : Entries Sort) (ss : List Settable) (v : Valuation) (s : Set) → HasDistinctNames ns → AreNamed ns ss → is_right ss s ≡ true
    → values_under ns (with_value v (called_at ss s.place) (with_word (v (called_at ss s.place)) s.word s.value)) ≡ with_set (values_under ns v) s
one_set ns ss v s a b h =
    let inside : s.place < length ns = omega (arith, suits_inside ss s.place s h, b.all) in
    ap (λ n. values_under ns (with_value v n (with_word (v n) s.word s.value))) (b.called s.place inside)
    ∙ (values_set ns v (with_word (v (name_at ns s.place)) s.word s.value) s.place a inside
    ∙ ap (λ x. set (values_under ns v) s.place (with_word x s.word s.value)) (sym (values_at ns v s.place (number 0) inside)))

pub all_set : (ns : Entries Sort) (ss : List Settable) (v : Valuation) (sets : List Set) → HasDistinctNames ns → AreNamed ns ss → are_right ss sets ≡ true
    → values_under ns (with_sets v (sets_view ss sets)) ≡ with_all (values_under ns v) sets
all_set ns ss v [] a b h = refl
all_set ns ss v (s ∷ sets) a b h =
    let c = called_at ss s.place in
    all_set ns ss (with_value v c (with_word (v c) s.word s.value)) sets a b (right_part (is_right ss s) (are_right ss sets) h)
    ∙ ap (λ xs. with_all xs sets) (one_set ns ss v s a b (left_part (is_right ss s) (are_right ss sets) h))
