-- Elements of mapped lists and of names in the order of their bytes.
use Rattle.std.proofs.Common.{◌≡◌, Bool, true, false, cond, List, [], ◌∷◌, map, ◌⊎◌, inl, inr, refl, sym, ◌∙◌, ap, Some}
use Rattle.std.specs.List.{list_all}
use Rattle.std.proofs.lemmas.Bool.{and_parts}
use Rattle.wb_values.specs.Value.{Name}
use Rattle.reports.specs.Report.{is_before}
use Rattle.verilog_unique.proofs.Descent.{IsAmong}
use Rattle.emitted_designs.specs.Map.{with_key, in_byte_order}

pub same_some : {A : Type 0} {x y : A} → Some x ≡ Some y → x ≡ y
same_some e = cc

pub mapped_from : {A B : Type 0} (f : A → B) (xs : List A) (z : B) → IsAmong (map f xs) z → (x : A) × IsAmong xs x × (f x ≡ z)
mapped_from f [] z h = absurd h
mapped_from f (x ∷ xs) z (inl e) = (x, inl refl, e)
mapped_from f (x ∷ xs) z (inr h) = let more = mapped_from f xs z h in (more.0, inr more.1, more.2)

pub among_map : {A B : Type 0} (f : A → B) (xs : List A) (x : A) → IsAmong xs x → IsAmong (map f xs) (f x)
among_map f [] x h = absurd h
among_map f (y ∷ xs) x (inl e) = inl (ap f e)
among_map f (y ∷ xs) x (inr h) = inr (among_map f xs x h)

pub all_of : {A : Type 0} (p : A → Bool) (xs : List A) (x : A) → list_all p xs ≡ true → IsAmong xs x → p x ≡ true
all_of p [] x e h = absurd h
all_of p (y ∷ xs) x e (inl f) = ap p (sym f) ∙ (and_parts (p y) (list_all p xs) e).0
all_of p (y ∷ xs) x e (inr h) = all_of p xs x (and_parts (p y) (list_all p xs) e).1 h

-- ---- names in their order are the same names

with_key_among : (k : Name) (ks : List Name) (n : Name) → IsAmong (with_key k ks) n → (k ≡ n) ⊎ IsAmong ks n
with_key_among k [] n (inl e) = inl e
with_key_among k [] n (inr h) = absurd h
with_key_among k (j ∷ ks) n h = by_place (is_before k j) (with_key_among k ks n) h
  where
    later : (k ≡ n) ⊎ IsAmong ks n → (k ≡ n) ⊎ IsAmong (j ∷ ks) n
    later (inl e) = inl e
    later (inr g) = inr (inr g)

    by_place : (t : Bool) → (IsAmong (with_key k ks) n → (k ≡ n) ⊎ IsAmong ks n) → IsAmong (cond t (k ∷ j ∷ ks) (j ∷ with_key k ks)) n
        → (k ≡ n) ⊎ IsAmong (j ∷ ks) n
    by_place true more (inl e) = inl e
    by_place true more (inr g) = inr g
    by_place false more (inl e) = inr (inl e)
    by_place false more (inr g) = later (more g)

pub ordered_among : (ns : List Name) (n : Name) → IsAmong (in_byte_order ns) n → IsAmong ns n
ordered_among [] n h = h
ordered_among (m ∷ ns) n h = by_place (with_key_among m (in_byte_order ns) n h) (ordered_among ns n)
  where
    by_place : (m ≡ n) ⊎ IsAmong (in_byte_order ns) n → (IsAmong (in_byte_order ns) n → IsAmong ns n) → IsAmong (m ∷ ns) n
    by_place (inl e) more = inl e
    by_place (inr g) more = inr (more g)
