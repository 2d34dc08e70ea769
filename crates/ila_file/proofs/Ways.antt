-- Ways that become longer, with their texts, and the way back.
use Rattle.std.proofs.Common.{◌≡◌, ◌<◌, ◌+◌, ◌-◌, ◌++◌, ◌∙◌, ℕ, suc, List, [], ◌∷◌, take, length, get_or, refl, ap, sym, codes, arith}
use Rattle.std.proofs.lemmas.List.{take_more, append_assoc}
use Rattle.model_places.specs.Sites.{Way, into, item_text, way_text}

abbrev step : ℕ → List ℕ
step i = item_text (codes "instructions") i ++ codes ".child."

one_more : (is : List ℕ) (i : ℕ) → way_text (is ++ i ∷ []) ≡ way_text is ++ step i
one_more [] i = refl
one_more (j ∷ is) i =
    ap (λ t. item_text (codes "instructions") j ++ (codes ".child." ++ t)) (one_more is i)
    ∙ (ap (λ t. item_text (codes "instructions") j ++ t) (sym (append_assoc (codes ".child.") (way_text is) (step i)))
    ∙ sym (append_assoc (item_text (codes "instructions") j) (codes ".child." ++ way_text is) (step i)))

-- one instruction more is appended to the text of those before it
pub longer : (is : List ℕ) (k d : ℕ) (start old item new : List ℕ) → k < length is → old ≡ start ++ way_text (take k is)
    → item ≡ old ++ item_text (codes "instructions") (get_or is k d) → new ≡ item ++ codes ".child."
    → new ≡ start ++ way_text (take (k + 1) is)
longer is k d start old item new below a b c =
    c ∙ (ap (λ t. t ++ codes ".child.") (b ∙ ap (λ t. t ++ item_text (codes "instructions") (get_or is k d)) a)
    ∙ (append_assoc (start ++ way_text (take k is)) (item_text (codes "instructions") (get_or is k d)) (codes ".child.")
    ∙ (append_assoc start (way_text (take k is)) (step (get_or is k d))
    ∙ ap (λ t. start ++ t) (sym (ap way_text (take_more is k d below) ∙ one_more (take k is) (get_or is k d))))))

longer_by_one : (w : Way) (k : ℕ) → length (into w k) ≡ suc (length w)
longer_by_one [] k = refl
longer_by_one (x ∷ w) k = ap suc (longer_by_one w k)

one_less : (n : ℕ) → suc n - 1 ≡ n
one_less n = omega arith

front : (w : Way) (k : ℕ) → take (length w) (into w k) ≡ w
front [] k = refl
front (x ∷ w) k = ap (λ r. x ∷ r) (front w k)

-- the way to a child's machine without its last step
pub last_left : (w : Way) (k : ℕ) → take (length (into w k) - 1) (into w k) ≡ w
last_left w k = ap (λ n. take (n - 1) (into w k)) (longer_by_one w k) ∙ (ap (λ n. take n (into w k)) (one_less (length w)) ∙ front w k)

-- into a child's machine, to its end, and back
pub back : (w : Way) (k : ℕ) (entered found left : Way) → entered ≡ into w k → found ≡ entered → left ≡ take (length found - 1) found → left ≡ w
back w k entered found left e f g = g ∙ (ap (λ v. take (length v - 1) v) (f ∙ e) ∙ last_left w k)
