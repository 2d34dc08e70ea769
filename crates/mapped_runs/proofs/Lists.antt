-- Names at their places, and the values that valuations and lists give them.
use Rattle.std.proofs.Common.{◌≡◌, ◌∙◌, ℕ, zero, suc, ◌<◌, Bool, true, false, cond, List, [], ◌∷◌, ◌++◌, length, get_or, take, drop, map, slice_get, Some, None, refl, sym, ap, subst, arith}
use Rattle.std.specs.Prelude.{Contains}
use Rattle.std.proofs.lemmas.Slice.Eq.{bytes_eq-Decides}
use Rattle.wb_values.specs.Value.{Name, same_name, Sort, truth, Value, number, Entries, entry_of, Valuation, HasSort}
use Rattle.wb_terms.specs.Graph.{HasDistinctNames}
use Rattle.wb_terms.specs.Environment.{AreOfSorts, values_by_name}
use Rattle.v_design.specs.Design.{values_under}

abbrev pub name_at : Entries Sort → ℕ → Name
name_at ns k = (get_or ns k ([], truth)).0

abbrev pub sort_at : Entries Sort → ℕ → Sort
sort_at ns k = (get_or ns k ([], truth)).1

pub same_itself : (n : Name) → same_name n n ≡ true
same_itself n = (bytes_eq-Decides n n).1 refl

pub same_is : (m n : Name) → same_name m n ≡ true → m ≡ n
same_is m n h = (bytes_eq-Decides m n).0 h

pub none_or_some : {X : Type 0} (x : X) → Some x ≡ None → ⊥
none_or_some x e = cc

pub some_same : {X : Type 0} {x y : X} → Some x ≡ Some y → x ≡ y
some_same e = cc

absent_take : (f : ℕ) (ns : Entries Sort) (n : Name) → entry_of ns n ≡ None → entry_of (take f ns) n ≡ None
absent_take zero ns n e = refl
absent_take (suc f) [] n e = refl
absent_take (suc f) (m ∷ ns) n e = shown (same_name m.0 n) e (absent_take f ns n)
  where
    shown : (t : Bool) → cond t (Some m.1) (entry_of ns n) ≡ None → (entry_of ns n ≡ None → entry_of (take f ns) n ≡ None)
        → cond t (Some m.1) (entry_of (take f ns) n) ≡ None
    shown true g r = absurd (none_or_some m.1 g)
    shown false g r = r g

pub distinct_take : (f : ℕ) (ns : Entries Sort) → HasDistinctNames ns → HasDistinctNames (take f ns)
distinct_take zero ns h = tt
distinct_take (suc f) [] h = tt
distinct_take (suc f) (m ∷ ns) h = (absent_take f ns m.0 h.0, distinct_take f ns h.1)

pub distinct_drop : (f : ℕ) (ns : Entries Sort) → HasDistinctNames ns → HasDistinctNames (drop f ns)
distinct_drop zero ns h = h
distinct_drop (suc f) [] h = tt
distinct_drop (suc f) (m ∷ ns) h = distinct_drop f ns h.1

-- ---- lists by their places

pub same_at : {X : Type 0} (xs : List X) (k : ℕ) (d e : X) → k < length xs → get_or xs k d ≡ get_or xs k e
same_at [] k d e l = absurd (omega (arith, l))
same_at (x ∷ xs) zero d e l = refl
same_at (x ∷ xs) (suc k) d e l = same_at xs k d e (omega (arith, l))

pub name_there : (ns : Entries Sort) (k : ℕ) → k < length ns → Contains ns (name_at ns k, sort_at ns k)
name_there ns k l = (k, l, same_at ns k (name_at ns k, sort_at ns k) ([], truth) l)

pub there_inside : {X : Type 0} (xs : List X) (k : ℕ) (x : X) → slice_get xs k ≡ Some x → k < length xs
there_inside [] k x e = cc
there_inside (y ∷ xs) zero x e = omega arith
there_inside (y ∷ xs) (suc k) x e = omega (arith, there_inside xs k x e)

pub there_is : {X : Type 0} (xs : List X) (k : ℕ) (x d : X) → slice_get xs k ≡ Some x → get_or xs k d ≡ x
there_is [] k x d e = cc
there_is (y ∷ xs) zero x d e = some_same e
there_is (y ∷ xs) (suc k) x d e = there_is xs k x d e

-- what stands at a place of one list where another stands under another map
pub record Beside {A B C : Type 0} (f : A → C) (g : B → C) (ys : List B) (k : ℕ) (x : A) : Type 0 where
  pub other : B
  pub is_there : slice_get ys k ≡ Some other
  pub is_same : f x ≡ g other

pub beside : {A B C : Type 0} (f : A → C) (g : B → C) (xs : List A) (ys : List B) (k : ℕ) (x : A) → map f xs ≡ map g ys → slice_get xs k ≡ Some x
    → Beside f g ys k x
beside f g [] ys k x e h = absurd (let c : None ≡ Some x = h in cc)
beside f g (y ∷ xs) [] k x e h = absurd (let c : f y ∷ map f xs ≡ [] = e in cc)
beside f g (y ∷ xs) (z ∷ ys) zero x e h =
    let first : f y ≡ g z = (let c : f y ∷ map f xs ≡ g z ∷ map g ys = e in cc) in
    record { other = z; is_there = refl; is_same = ap f (sym (some_same h)) ∙ first }
beside f g (y ∷ xs) (z ∷ ys) (suc k) x e h =
    let rest : map f xs ≡ map g ys = (let c : f y ∷ map f xs ≡ g z ∷ map g ys = e in cc) in
    let r = beside f g xs ys k x rest h in
    record { other = r.other; is_there = r.is_there; is_same = r.is_same }

pub front_same : {A : Type 0} (f g : A → Value) (xs ys : List A) → map f (xs ++ ys) ≡ map g (xs ++ ys) → map f xs ≡ map g xs
front_same f g [] ys e = refl
front_same f g (x ∷ xs) ys e =
    let c : f x ∷ map f (xs ++ ys) ≡ g x ∷ map g (xs ++ ys) = e in
    let first : f x ≡ g x = cc in
    let rest : map f (xs ++ ys) ≡ map g (xs ++ ys) = cc in
    let there = front_same f g xs ys rest in λ i. first i ∷ there i

pub back_same : {A : Type 0} (f g : A → Value) (xs ys : List A) → map f (xs ++ ys) ≡ map g (xs ++ ys) → map f ys ≡ map g ys
back_same f g [] ys e = e
back_same f g (x ∷ xs) ys e =
    let c : f x ∷ map f (xs ++ ys) ≡ g x ∷ map g (xs ++ ys) = e in
    let rest : map f (xs ++ ys) ≡ map g (xs ++ ys) = cc in
    back_same f g xs ys rest

pub alike : {A : Type 0} (f g : A → Value) (xs : List A) → ((x : A) → f x ≡ g x) → map f xs ≡ map g xs
alike f g [] h = refl
alike f g (x ∷ xs) h = let here = h x in let there = alike f g xs h in λ i. here i ∷ there i

-- ---- the values of names

pub values_at : (ns : Entries Sort) (v : Valuation) (k : ℕ) (x : Value) → k < length ns → get_or (values_under ns v) k x ≡ v (name_at ns k)
values_at [] v k x h = absurd (omega (arith, h))
values_at (n ∷ ns) v zero x h = refl
values_at (n ∷ ns) v (suc k) x h = values_at ns v k x (omega (arith, h))

pub values_are : (ns : Entries Sort) (xs : List Value) (v : Valuation) → length xs ≡ length ns → ((k : ℕ) → k < length ns → v (name_at ns k) ≡ get_or xs k (number 0))
    → values_under ns v ≡ xs
values_are [] [] v e h = refl
values_are [] (x ∷ xs) v e h = absurd (omega (arith, e))
values_are (n ∷ ns) [] v e h = absurd (omega (arith, e))
values_are (n ∷ ns) (x ∷ xs) v e h =
    let here = h 0 (omega arith) in
    let there = values_are ns xs v (omega (arith, e)) (λ k l. h (suc k) (omega (arith, l))) in λ i. here i ∷ there i

-- The name at a place has the value at that place.
pub entry_at : (ns : Entries Sort) (xs : List Value) (k : ℕ) (x : Value) → HasDistinctNames ns → AreOfSorts ns xs → k < length ns
    → entry_of (values_by_name ns xs) (name_at ns k) ≡ Some (get_or xs k x)
entry_at [] xs k x u h b = absurd (omega (arith, b))
entry_at (n ∷ ns) [] k x u h b = absurd h
entry_at (n ∷ ns) (y ∷ xs) zero x u h b = ap (λ t. cond t (Some y) (entry_of (values_by_name ns xs) n.0)) (same_itself n.0)
entry_at (n ∷ ns) (y ∷ xs) (suc k) x u h b =
    let later : k < length ns = omega (arith, b) in
    passed (same_name n.0 (name_at ns k)) (λ e. found ns k later (subst (λ c. entry_of ns c ≡ None) (same_is n.0 (name_at ns k) e) u.0)) (entry_at ns xs k x u.1 h.1 later)
  where
    passed : (t : Bool) → (t ≡ true → ⊥) → entry_of (values_by_name ns xs) (name_at ns k) ≡ Some (get_or xs k x)
        → cond t (Some y) (entry_of (values_by_name ns xs) (name_at ns k)) ≡ Some (get_or xs k x)
    passed true f e = absurd (f refl)
    passed false f e = e

    found : (ms : Entries Sort) (j : ℕ) → j < length ms → entry_of ms (name_at ms j) ≡ None → ⊥
    found [] j l e = omega (arith, l)
    found (m ∷ ms) zero l e = none_or_some m.1 (sym (ap (λ t. cond t (Some m.1) (entry_of ms m.0)) (same_itself m.0)) ∙ e)
    found (m ∷ ms) (suc j) l e = chosen (same_name m.0 (name_at ms j)) e (found ms j (omega (arith, l)))
      where
        chosen : (t : Bool) → cond t (Some m.1) (entry_of ms (name_at ms j)) ≡ None → (entry_of ms (name_at ms j) ≡ None → ⊥) → ⊥
        chosen true g r = none_or_some m.1 g
        chosen false g r = r g

-- A name that has a value stands at a place, with the value there.
pub record StandsAt (ns : Entries Sort) (xs : List Value) (n : Name) (x : Value) : Type 0 where
  pub place : ℕ
  pub inside : place < length ns
  pub called : name_at ns place ≡ n
  pub has : slice_get xs place ≡ Some x

pub stands_at : (ns : Entries Sort) (xs : List Value) (n : Name) (x : Value) → entry_of (values_by_name ns xs) n ≡ Some x → StandsAt ns xs n x
stands_at [] xs n x e = absurd (let c : None ≡ Some x = e in cc)
stands_at (m ∷ ns) [] n x e = absurd (let c : None ≡ Some x = e in cc)
stands_at (m ∷ ns) (y ∷ xs) n x e = chosen (same_name m.0 n) refl e (stands_at ns xs n x)
  where
    chosen : (t : Bool) → same_name m.0 n ≡ t → cond t (Some y) (entry_of (values_by_name ns xs) n) ≡ Some x
        → (entry_of (values_by_name ns xs) n ≡ Some x → StandsAt ns xs n x) → StandsAt (m ∷ ns) (y ∷ xs) n x
    chosen true f g r = record { place = 0; inside = omega arith; called = same_is m.0 n f; has = g }
    chosen false f g r =
        let s = r g in
        let l = s.inside in
        record { place = suc s.place; inside = omega (arith, l); called = s.called; has = s.has }

pub all_sorts : (ns : Entries Sort) (v : Valuation) → ((k : ℕ) → k < length ns → HasSort (v (name_at ns k)) (sort_at ns k)) → AreOfSorts ns (values_under ns v)
all_sorts [] v h = tt
all_sorts (n ∷ ns) v h = (h 0 (omega arith), all_sorts ns v (λ k l. h (suc k) (omega (arith, l))))
