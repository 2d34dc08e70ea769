-- Names that stand first, told from those before by a set.
use Rattle.std.proofs.Common.{◌≡◌, ◌∙◌, refl, ap, sym, subst, Bool, true, false, cond, List, [], ◌∷◌, ◌++◌, append_assoc, append-nil}
use Rattle.std.proofs.Common.{ℕ, Bor, ◌&&◌}
use Rattle.std.specs.Prelude.{◌||◌}
use Rattle.std.specs.Ordering.{nat_cmp}
use Rattle.std.specs.Cmp.Lexicographic.{slice_cmp}
use Rattle.std.specs.BTreeSet as sorted
use Rattle.std.specs.BTreeSet.{BTreeSet}
use Rattle.std.proofs.lemmas.Slice.Eq.{bytes_eq-Decides}
use Rattle.std.proofs.lemmas.Map.Text.{is_eq-slice_cmp}
use Rattle.v_hier.specs.Tables.{has_name}
use Rattle.wb_values.specs.Value.{Name, same_name}
use Rattle.v_registers.specs.Once.{others, each_once, outside}

chosen : {A : Type 0} (b c : Bool) (x y : A) → b ≡ c → cond b x y ≡ cond c x y
chosen b c x y e = ap (λ t. cond t x y) e

-- those equal to n are in the set
pub seen : (f : Name → Bool) (n : Name) → f n ≡ true → (ns : List Name) → outside f (others n ns) ≡ outside f ns
seen f n h [] = refl
seen f n h (m ∷ ns) = by (same_name n m) refl (seen f n h ns)
  where
    by : (t : Bool) → same_name n m ≡ t → outside f (others n ns) ≡ outside f ns
        → outside f (cond t (others n ns) (m ∷ others n ns)) ≡ cond (f m) (outside f ns) (m ∷ outside f ns)
    by true e i = i ∙ sym (chosen (f m) true (outside f ns) (m ∷ outside f ns) (subst (λ q. f q ≡ true) ((bytes_eq-Decides n m).0 e) h))
    by false e i = ap (λ xs. cond (f m) xs (m ∷ xs)) i

-- a set with n besides
pub fresh : (f : Name → Bool) (n : Name) (g : Name → Bool) → ((q : Name) → g q ≡ cond (same_name n q) true (f q)) → (ns : List Name)
    → outside f (others n ns) ≡ outside g ns
fresh f n g h [] = refl
fresh f n g h (m ∷ ns) = by (same_name n m) refl (fresh f n g h ns)
  where
    by : (t : Bool) → same_name n m ≡ t → outside f (others n ns) ≡ outside g ns
        → outside f (cond t (others n ns) (m ∷ others n ns)) ≡ cond (g m) (outside g ns) (m ∷ outside g ns)
    by true e i = i ∙ sym (chosen (g m) true (outside g ns) (m ∷ outside g ns) (h m ∙ ap (λ t. cond t true (f m)) e))
    by false e i =
        ap (λ xs. cond (f m) xs (m ∷ xs)) i
        ∙ chosen (f m) (g m) (outside g ns) (m ∷ outside g ns) (sym (h m ∙ ap (λ t. cond t true (f m)) e))

-- a name that stands in the set already changes nothing
pub again : (f : Name → Bool) (n : Name) → f n ≡ true → (q : Name) → f q ≡ cond (same_name n q) true (f q)
again f n h q = by (same_name n q) refl
  where
    by : (t : Bool) → same_name n q ≡ t → f q ≡ cond t true (f q)
    by true e = subst (λ m. f m ≡ true) ((bytes_eq-Decides n q).0 e) h
    by false e = refl

-- the turn of the loop
pub once_turn : (f g : Name → Bool) (n : Name) (ns found new all : List Name) → ((q : Name) → g q ≡ cond (same_name n q) true (f q))
    → new ≡ found ++ outside f (n ∷ []) → found ++ outside f (each_once (n ∷ ns)) ≡ all → new ++ outside g (each_once ns) ≡ all
once_turn f g n ns found new all h e i = by (f n) refl
  where
    by : (t : Bool) → f n ≡ t → new ++ outside g (each_once ns) ≡ all
    by true q =
        let same : f ≡ g = λ j m. (again f n q m ∙ sym (h m)) j in
        ap (λ xs. xs ++ outside g (each_once ns)) (e ∙ ap (λ xs. found ++ xs) (chosen (f n) true [] (n ∷ []) q) ∙ append-nil found)
        ∙ ap (λ xs. found ++ xs)
        (ap (λ (k : Name → Bool). outside k (each_once ns)) (sym same) ∙ sym (seen f n q (each_once ns))
        ∙ sym (chosen (f n) true (outside f (others n (each_once ns))) (n ∷ outside f (others n (each_once ns))) q))
        ∙ i
    by false q =
        ap (λ xs. xs ++ outside g (each_once ns)) (e ∙ ap (λ xs. found ++ xs) (chosen (f n) false [] (n ∷ []) q))
        ∙ append_assoc found (n ∷ []) (outside g (each_once ns))
        ∙ ap (λ xs. found ++ xs)
        (ap (λ xs. n ∷ xs) (sym (fresh f n g h (each_once ns)))
        ∙ sym (chosen (f n) false (outside f (others n (each_once ns))) (n ∷ outside f (others n (each_once ns))) q))
        ∙ i

pub none_seen : (f : Name → Bool) → ((q : Name) → f q ≡ false) → (ns : List Name) → outside f ns ≡ ns
none_seen f h [] = refl
none_seen f h (n ∷ ns) = chosen (f n) false (outside f ns) (n ∷ outside f ns) (h n) ∙ ap (λ xs. n ∷ xs) (none_seen f h ns)

-- a set with one name more
pub has_more : (s n : BTreeSet (Bor (List ℕ))) (k : Bor (List ℕ)) (b : Bool) → sorted.Updates (λ x y. slice_cmp nat_cmp x.now y.now) s n k b → (q : Name)
    → has_name n q ≡ cond (same_name k.now q) b (has_name s q)
has_more s n k b u q =
    let at_q : Bor (List ℕ) = record { ref_ptr = (0, 0); now = q } in
    u.0 at_q ∙ ap (λ t. cond t b (has_name s q)) (is_eq-slice_cmp k.now q)

pub with_variable : (t o d : Bool) → d ≡ true → cond t true o ≡ (o || (t && d))
with_variable true true d h = refl
with_variable true false d h = sym h
with_variable false true d h = refl
with_variable false false d h = refl
