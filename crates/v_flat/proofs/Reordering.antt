-- Lists in another order, and what is made of the elements of two lists that belong together by their names.
use Rattle.std.proofs.Common.{◌≡◌, ◌∙◌, refl, ap, sym, subst, List, [], ◌∷◌, ◌++◌, map, ◌⊎◌, inl, inr}
use Rattle.std.proofs.lemmas.List.{append_assoc}
use Rattle.wb_values.specs.Value.{Name}
use Rattle.verilog_unique.proofs.Descent.{IsAmong}
use Rattle.v_flat.specs.Reordered.{AreReordered, none, kept, exchanged, in_turn}

module _ {A : Type 0} where
  pub same_order : (xs : List A) → AreReordered A xs xs
  same_order [] = none
  same_order (x ∷ xs) = kept x xs xs (same_order xs)

  pub equal_lists : (xs ys : List A) → xs ≡ ys → AreReordered A xs ys
  equal_lists xs ys e = subst (AreReordered A xs) e (same_order xs)

  pub behind_same : (zs xs ys : List A) → AreReordered A xs ys → AreReordered A (zs ++ xs) (zs ++ ys)
  behind_same [] xs ys r = r
  behind_same (z ∷ zs) xs ys r = kept z (zs ++ xs) (zs ++ ys) (behind_same zs xs ys r)

  moved : (xs ys : List A) (x : A) → AreReordered A (x ∷ (xs ++ ys)) (xs ++ (x ∷ ys))
  moved [] ys x = same_order (x ∷ ys)
  moved (y ∷ xs) ys x =
      in_turn (x ∷ y ∷ (xs ++ ys)) (y ∷ x ∷ (xs ++ ys)) (y ∷ (xs ++ (x ∷ ys))) (exchanged x y (xs ++ ys)) (kept y (x ∷ (xs ++ ys)) (xs ++ (x ∷ ys)) (moved xs ys x))

  pub exchanged_lists : (xs ys zs : List A) → AreReordered A (xs ++ (ys ++ zs)) (ys ++ (xs ++ zs))
  exchanged_lists [] ys zs = same_order (ys ++ zs)
  exchanged_lists (x ∷ xs) ys zs =
      in_turn (x ∷ (xs ++ (ys ++ zs))) (x ∷ (ys ++ (xs ++ zs))) (ys ++ (x ∷ (xs ++ zs))) (kept x (xs ++ (ys ++ zs)) (ys ++ (xs ++ zs)) (exchanged_lists xs ys zs))
      (moved ys (xs ++ zs) x)

-- ---- a list without one of its elements

without : {A : Type 0} (xs : List A) (x : A) → IsAmong xs x → List A
without [] x h = []
without (y ∷ xs) x (inl e) = xs
without (y ∷ xs) x (inr h) = y ∷ without xs x h

still : {A : Type 0} (xs : List A) (x : A) (h : IsAmong xs x) (z : A) → IsAmong (without xs x h) z → IsAmong xs z
unfolding without
still [] x h z g = absurd h
still (y ∷ xs) x (inl e) z g = inr g
still (y ∷ xs) x (inr h) z (inl f) = inl f
still (y ∷ xs) x (inr h) z (inr g) = inr (still xs x h z g)

another : {A : Type 0} (xs : List A) (x : A) (h : IsAmong xs x) (z : A) → IsAmong xs z → (x ≡ z → ⊥) → IsAmong (without xs x h) z
unfolding without
another [] x h z g n = absurd g
another (y ∷ xs) x (inl e) z (inl f) n = absurd (n (sym e ∙ f))
another (y ∷ xs) x (inl e) z (inr g) n = g
another (y ∷ xs) x (inr h) z (inl f) n = inl f
another (y ∷ xs) x (inr h) z (inr g) n = inr (another xs x h z g n)

-- ---- what is made of each element

abbrev pub all_of : {A B : Type 0} → (A → List B) → List A → List B
all_of g [] = []
all_of g (x ∷ xs) = g x ++ all_of g xs

pub all_append : {A B : Type 0} (g : A → List B) (xs ys : List A) → all_of g (xs ++ ys) ≡ all_of g xs ++ all_of g ys
all_append g [] ys = refl
all_append g (x ∷ xs) ys = ap (λ zs. g x ++ zs) (all_append g xs ys) ∙ sym (append_assoc (g x) (all_of g xs) (all_of g ys))

module _ {A B : Type 0} (g : A → List B) where
  -- an element may come first
  first : (xs : List A) (x : A) (h : IsAmong xs x) → AreReordered B (g x ++ all_of g (without xs x h)) (all_of g xs)
  unfolding without
  first [] x h = absurd h
  first (y ∷ xs) x (inl e) = equal_lists (g x ++ all_of g xs) (g y ++ all_of g xs) (ap (λ z. g z ++ all_of g xs) (sym e))
  first (y ∷ xs) x (inr h) =
      in_turn (g x ++ (g y ++ all_of g (without xs x h))) (g y ++ (g x ++ all_of g (without xs x h))) (g y ++ all_of g xs)
      (exchanged_lists (g x) (g y) (all_of g (without xs x h))) (behind_same (g y) (g x ++ all_of g (without xs x h)) (all_of g xs) (first xs x h))

  nothing_made : (xs : List A) → ((x : A) → IsAmong xs x → g x ≡ []) → all_of g xs ≡ []
  nothing_made [] h = refl
  nothing_made (x ∷ xs) h = ap (λ zs. zs ++ all_of g xs) (h x (inl refl)) ∙ nothing_made xs (λ y k. h y (inr k))

-- ---- names that differ

abbrev pub AreApart : List Name → Type 0
AreApart [] = Unit {0}
AreApart (n ∷ ns) = (IsAmong ns n → ⊥) × AreApart ns

module _ {A : Type 0} (key : A → Name) where
  key_among : (xs : List A) (x : A) → IsAmong xs x → IsAmong (map key xs) (key x)
  key_among [] x h = absurd h
  key_among (y ∷ xs) x (inl e) = inl (ap key e)
  key_among (y ∷ xs) x (inr h) = inr (key_among xs x h)

  -- of the elements left none has its name
  other_key : (xs : List A) (x : A) (h : IsAmong xs x) → AreApart (map key xs) → (z : A) → IsAmong (without xs x h) z → key x ≡ key z → ⊥
  unfolding without
  other_key [] x h a z g e = absurd h
  other_key (y ∷ xs) x (inl f) a z g e = a.0 (subst (IsAmong (map key xs)) (sym (ap key f ∙ e)) (key_among xs z g))
  other_key (y ∷ xs) x (inr h) a z (inl f) e = a.0 (subst (IsAmong (map key xs)) (e ∙ sym (ap key f)) (key_among xs x h))
  other_key (y ∷ xs) x (inr h) a z (inr g) e = other_key xs x h a.1 z g e

  left_among : (xs : List A) (x : A) (h : IsAmong xs x) (n : Name) → IsAmong (map key (without xs x h)) n → IsAmong (map key xs) n
  unfolding without
  left_among [] x h n g = absurd h
  left_among (y ∷ xs) x (inl e) n g = inr g
  left_among (y ∷ xs) x (inr h) n (inl f) = inl f
  left_among (y ∷ xs) x (inr h) n (inr g) = inr (left_among xs x h n g)

  left_apart : (xs : List A) (x : A) (h : IsAmong xs x) → AreApart (map key xs) → AreApart (map key (without xs x h))
  unfolding without
  left_apart [] x h a = a
  left_apart (y ∷ xs) x (inl e) a = a.1
  left_apart (y ∷ xs) x (inr h) a = ((λ g. a.0 (left_among xs x h (key y) g)), left_apart xs x h a.1)

-- ---- two lists whose elements belong together by their names

module _ {A C B : Type 0} (key : A → Name) (name : C → Name) (g : A → List B) (f : C → List B) where
  pub record HasPartner (xs : List A) (c : C) : Type 0 where
    pub partner : A
    pub is_there : IsAmong xs partner
    pub has_name : key partner ≡ name c
    pub makes : f c ≡ g partner

  -- it makes nothing, or an element of the other list has its name
  abbrev pub IsMatched : List C → A → Type 0
  IsMatched cs x = (g x ≡ []) ⊎ ((c : C) × IsAmong cs c × (name c ≡ key x))

  pub matched : (cs : List C) (xs : List A) → AreApart (map name cs) → AreApart (map key xs) → ((c : C) → IsAmong cs c → HasPartner xs c)
      → ((x : A) → IsAmong xs x → IsMatched cs x) → AreReordered B (all_of f cs) (all_of g xs)
  matched [] xs b a there all = equal_lists [] (all_of g xs) (sym (nothing_made g xs (λ x h. none_left x (all x h))))
    where
      none_left : (x : A) → IsMatched [] x → g x ≡ []
      none_left x (inl e) = e
      none_left x (inr h) = absurd h.1
  matched (c ∷ cs) xs b a there all =
      let m : HasPartner xs c = there c (inl refl) in
      let left : List A = without xs m.partner m.is_there in
      in_turn (f c ++ all_of f cs) (g m.partner ++ all_of g left) (all_of g xs)
      (in_turn (f c ++ all_of f cs) (f c ++ all_of g left) (g m.partner ++ all_of g left)
      (behind_same (f c) (all_of f cs) (all_of g left)
      (matched cs left b.1 (left_apart key xs m.partner m.is_there a) (λ e h. partner m e h (there e (inr h))) (λ x h. later m x h (all x (still xs m.partner m.is_there x h)))))
      (equal_lists (f c ++ all_of g left) (g m.partner ++ all_of g left) (ap (λ zs. zs ++ all_of g left) m.makes)))
      (first g xs m.partner m.is_there)
    where
      partner : (m : HasPartner xs c) (e : C) → IsAmong cs e → HasPartner xs e → HasPartner (without xs m.partner m.is_there) e
      partner m e h r =
          record {
            partner = r.partner;
            is_there = another xs m.partner m.is_there r.partner r.is_there
                (λ s. b.0 (subst (IsAmong (map name cs)) (sym r.has_name ∙ (sym (ap key s) ∙ m.has_name)) (key_among name cs e h)));
            has_name = r.has_name;
            makes = r.makes;
          }

      later : (m : HasPartner xs c) (x : A) → IsAmong (without xs m.partner m.is_there) x → IsMatched (c ∷ cs) x → IsMatched cs x
      later m x h (inl e) = inl e
      later m x h (inr r) = by_place r.0 r.1 r.2
        where
          by_place : (e : C) → IsAmong (c ∷ cs) e → name e ≡ key x → IsMatched cs x
          by_place e (inl s) n = absurd (other_key key xs m.partner m.is_there a x h (m.has_name ∙ (ap name s ∙ n)))
          by_place e (inr k) n = inr (e, k, n)
