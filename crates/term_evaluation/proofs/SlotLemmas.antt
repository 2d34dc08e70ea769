-- Lemmas on slots of a pool: what a larger pool makes of them, and what they stand for at a place.
use Rattle.std.proofs.Common.{◌≡◌, ◌∙◌, ℕ, zero, suc, ◌+◌, ◌<◌, ◌≤◌, ◌^◌, Bool, ◌&&◌, nat_le, List, [], ◌∷◌, ◌++◌, length, get_or, set, take, ◌⊎◌, inl, inr, IsTrue, refl, sym, ap, subst, arith}
use Rattle.std.specs.Prelude.{Result, Ok, Err, OnErr}
use Rattle.std.proofs.lemmas.List.{length-map, get_or-map, map-set, map-append, take_more, take_all, get_or_past}
use Rattle.std.proofs.Math.Pow.{pow-lt}
use Rattle.std.proofs.lemmas.Bool.Decides.{nat_tests}
use Rattle.sparse_memories.specs.declared.pool.Memory.{Memory}
use Rattle.sparse_memories.specs.Nodes.{Nodes, Content, IsTree, words_at, KeepsTrees}
use Rattle.sparse_memories.specs.Memories.{IsMemory, words_of, Keeps}
use Rattle.sparse_memories.proofs.Trees.{length-words}
use Rattle.wb_values.specs.Value as meaning
use Rattle.wb_values.specs.Value.{memory, truth_value, number, words, as_words, as_truth, as_number}
use Rattle.model_meaning.specs.Term.{is_sort, is_width}
use Rattle.wb_terms.proofs.HeldLemmas.{both}
use Rattle.term_evaluation.specs.declared.slots.Slot.{Slot}
use Rattle.term_evaluation.specs.declared.slots.Slot.TheVariants.{Truth, Number, Memory as MemorySlot}
use Rattle.term_evaluation.specs.Slots.{value_in, values_in, IsSlotOf, AreSlotsOf}
use Rattle.term_evaluation.specs.Links.{IsLinkOf}

-- what holds anyway holds where there is an error
pub on_err : {T E : Type 0} (r : Result T E) (P : Type 0) → P → OnErr r P
on_err (Ok x) P h = tt
on_err (Err e) P h = h

-- addresses have 16 bits at most
sixteen_from : (a : ℕ) → IsTrue (nat_le a 16) → a ≤ 16
sixteen_from a h = grind (arith, nat_tests)

pub sixteen : (a d : ℕ) → IsTrue (is_sort (memory a d)) → a ≤ 16
sixteen a d h =
    let l = (both (nat_le 1 a && nat_le a 16) (is_width d) h).0 in
    sixteen_from a (both (nat_le 1 a) (nat_le a 16) l).1

-- pools that keep their memories
pub keeps_self : (p : Content) → Keeps p p
keeps_self p d k t = (t, refl)

pub keeps_same : (p q : Content) → q.nodes ≡ p.nodes → Keeps p q
keeps_same p q e = subst (λ (n : Nodes). KeepsTrees p.nodes n) (sym e) (keeps_self p)

pub keeps_then : (p q r : Content) → Keeps p q → Keeps q r → Keeps p r
keeps_then p q r f g d k t =
    let x = f d k t in
    let y = g d k x.0 in
    (y.0, y.1 ∙ x.1)

-- A pool that keeps another one's memories keeps slots of it, with their values.
pub slot_kept : (p q : Content) (x : Slot) → Keeps p q → IsSlotOf p x → IsSlotOf q x × (value_in q x ≡ value_in p x)
slot_kept p q (Truth b) k s = (tt, refl)
slot_kept p q (Number n) k s = (tt, refl)
slot_kept p q (MemorySlot d m) k s =
    let t = k d m.0 s.1 in
    ((s.0, t.0), ap (λ (ws : List ℕ). words ws) t.1)

pub slots_kept : (p q : Content) (xs : List Slot) → Keeps p q → AreSlotsOf p xs → AreSlotsOf q xs × (values_in q xs ≡ values_in p xs)
slots_kept p q [] k s = (tt, refl)
slots_kept p q (x ∷ xs) k s =
    let one = slot_kept p q x k s.0 in
    let rest = slots_kept p q xs k s.1 in
    ((one.0, rest.0), ap (λ (v : meaning.Value). v ∷ values_in q xs) one.1 ∙ ap (λ (vs : List meaning.Value). value_in p x ∷ vs) rest.1)

-- slots at a place
pub slots-at : (p : Content) (xs : List Slot) (k : ℕ) (d : Slot) → AreSlotsOf p xs → k < length xs → IsSlotOf p (get_or xs k d)
slots-at p [] k d s h = absurd (omega arith)
slots-at p (x ∷ xs) zero d s h = s.0
slots-at p (x ∷ xs) (suc k) d s h = slots-at p xs k d s.1 (omega arith)

pub slots-read : (p : Content) (xs : List Slot) (k : ℕ) (x : Slot) → AreSlotsOf p xs → k < length xs → x ≡ get_or xs k x → IsSlotOf p x
slots-read p xs k x s h e = subst (IsSlotOf p) (sym e) (slots-at p xs k x s h)

pub values-read : (p : Content) (xs : List Slot) (k : ℕ) (x : Slot) (v : meaning.Value) → k < length xs → x ≡ get_or xs k x → get_or (values_in p xs) k v ≡ value_in p x
values-read p xs k x v h e = get_or-map (value_in p) xs k x v h ∙ ap (value_in p) (sym e)

pub slots-set : (p : Content) (xs : List Slot) (k : ℕ) (x : Slot) → AreSlotsOf p xs → IsSlotOf p x → AreSlotsOf p (set xs k x)
slots-set p [] k x s h = tt
slots-set p (y ∷ xs) zero x s h = (h, s.1)
slots-set p (y ∷ xs) (suc k) x s h = (s.0, slots-set p xs k x s.1 h)

pub slots-push : (p : Content) (xs : List Slot) (x : Slot) → AreSlotsOf p xs → IsSlotOf p x → AreSlotsOf p (xs ++ x ∷ [])
slots-push p [] x s h = (h, tt)
slots-push p (y ∷ xs) x s h = (s.0, slots-push p xs x s.1 h)

pub slots-take : (p : Content) (xs : List Slot) (n : ℕ) → AreSlotsOf p xs → AreSlotsOf p (take n xs)
slots-take p [] zero s = tt
slots-take p [] (suc n) s = tt
slots-take p (y ∷ xs) zero s = tt
slots-take p (y ∷ xs) (suc n) s = (s.0, slots-take p xs n s.1)

pub values-push : (p : Content) (xs ys : List Slot) (x : Slot) (v : meaning.Value) → ys ≡ xs ++ x ∷ [] → value_in p x ≡ v → values_in p ys ≡ values_in p xs ++ v ∷ []
values-push p xs ys x v e f =
    ap (values_in p) e ∙ map-append (value_in p) xs (x ∷ []) ∙ ap (λ (u : meaning.Value). values_in p xs ++ u ∷ []) f

pub values-set : (p : Content) (xs ys : List Slot) (k : ℕ) (x : Slot) (v : meaning.Value) → ys ≡ set xs k x → value_in p x ≡ v → values_in p ys ≡ set (values_in p xs) k v
values-set p xs ys k x v e f =
    ap (values_in p) e ∙ map-set (value_in p) xs k x ∙ ap (set (values_in p xs) k) f

pub length-values : (p : Content) (xs : List Slot) → length (values_in p xs) ≡ length xs
length-values p xs = length-map xs (value_in p)

-- the memory of a slot
pub slot_link : (p : Content) (x : Slot) (d : ℕ) (m : Memory) → IsSlotOf p x → x ≡ MemorySlot d m → IsLinkOf p (value_in p x) m
slot_link p x d m s e = subst (λ (y : Slot). IsLinkOf p (value_in p y) m) (sym e) (link_there (subst (IsSlotOf p) e s))
  where
    link_there : IsSlotOf p (MemorySlot d m) → IsLinkOf p (value_in p (MemorySlot d m)) m
    link_there t = (d, t.0, t.1, refl)

pub other_slot : (p : Content) (x : Slot) (z : Memory) → ((d : ℕ) (m : Memory) → x ≡ MemorySlot d m → ⊥) → IsLinkOf p (value_in p x) z
other_slot p (Truth b) z n = tt
other_slot p (Number k) z n = tt
other_slot p (MemorySlot d m) z n = absurd (n d m refl)

-- one slot more is copied
pub copy_more : (from p q : Content) (src done now : List Slot) (k : ℕ) (x y : Slot) → k < length src → x ≡ get_or src k x → Keeps p q → AreSlotsOf p done → IsSlotOf q y
    → value_in q y ≡ value_in from x → values_in p done ≡ take k (values_in from src) → now ≡ done ++ y ∷ []
    → AreSlotsOf q now × (values_in q now ≡ take (k + 1) (values_in from src))
copy_more from p q src done now k x y b e f s t v w n =
    let kept = slots_kept p q done f s in
    let there : k < length (values_in from src) = omega (arith, b, length-values from src) in
    let next = take_more (values_in from src) k (number 0) there ∙ ap (λ (u : meaning.Value). take k (values_in from src) ++ u ∷ []) (values-read from src k x (number 0) b e) in (
      subst (AreSlotsOf q) (sym n) (slots-push q done y kept.0 t),
      values-push q done now y (value_in from x) n v ∙ ap (λ (vs : List meaning.Value). vs ++ value_in from x ∷ []) (kept.1 ∙ w) ∙ sym next,
    )

-- all were copied
pub copy_done : (from : Content) (src : List Slot) (vs : List meaning.Value) (k : ℕ) → length src ≤ k → vs ≡ take k (values_in from src) → vs ≡ values_in from src
copy_done from src vs k h e = e ∙ take_all k (values_in from src) (omega (arith, h, length-values from src))

-- words of memories
pub set_late : (xs : List ℕ) (k x : ℕ) → length xs ≤ k → set xs k x ≡ xs
set_late [] k x h = refl
set_late (y ∷ xs) zero x h = absurd (omega arith)
set_late (y ∷ xs) (suc k) x h = ap (λ (ys : List ℕ). y ∷ ys) (set_late xs k x (omega arith))

pub length-words_of : (p : Content) (d : ℕ) (m : Memory) → length (words_of p d m) ≡ 2 ^ d
length-words_of p d m = length-words p.nodes d m.0

pub stored_past : (p : Content) (d : ℕ) (m : Memory) (count a w : ℕ) → count ≡ 2 ^ d → count ≤ a → words_of p d m ≡ set (words_of p d m) a w
stored_past p d m count a w e h = sym (set_late (words_of p d m) a w (omega (arith, e, length-words_of p d m)))

pub loaded_past : (p : Content) (d : ℕ) (m : Memory) (count a : ℕ) → count ≡ 2 ^ d → count ≤ a → 0 ≡ get_or (words_of p d m) a 0
loaded_past p d m count a e h = sym (get_or_past (words_of p d m) a 0 (omega (arith, e, length-words_of p d m)))

pub memory_over : (p q : Content) (d : ℕ) (m : Memory) → q.nodes ≡ p.nodes → IsMemory p d m → IsMemory q d m
memory_over p q d m e t = subst (λ (n : Nodes). IsTree n d m.0) (sym e) t

pub stored_over : (o m n : Content) (d : ℕ) (x r : Memory) (a w : ℕ) → m.nodes ≡ o.nodes → words_of n d r ≡ set (words_of m d x) a w → words_of n d r ≡ set (words_of o d x) a w
stored_over o m n d x r a w e h = h ∙ ap (λ (s : Nodes). set (words_at s d x.0) a w) e

-- two powers of two that are one
below_or_same : (a b : ℕ) → (a < b) ⊎ ((a ≡ b) ⊎ (b < a))
below_or_same zero zero = inr (inl refl)
below_or_same zero (suc b) = inl (omega arith)
below_or_same (suc a) zero = inr (inr (omega arith))
below_or_same (suc a) (suc b) =
    elim (below_or_same a b) [
      | inl h ↦ inl (omega arith)
      | inr r ↦ elim r [ inl e ↦ inr (inl (ap suc e)) | inr h ↦ inr (inr (omega arith)) ]
    ]

pub same_power : (a b : ℕ) → 2 ^ a ≡ 2 ^ b → a ≡ b
same_power a b e =
    elim (below_or_same a b) [
      | inl h ↦ let l : 2 ^ a < 2 ^ b = pow-lt h in absurd (omega (arith, l, e))
      | inr r ↦ elim r [
        | inl s ↦ s
        | inr h ↦ let l : 2 ^ b < 2 ^ a = pow-lt h in absurd (omega (arith, l, e))
      ]
    ]

pub same_depth : (p q : Content) (d e : ℕ) (m n : Memory) → words_of p d m ≡ words_of q e n → d ≡ e
same_depth p q d e m n h =
    same_power d e (sym (length-words_of p d m) ∙ ap (λ (ws : List ℕ). length ws) h ∙ length-words_of q e n)

pub other_depth : (q : Content) (d e : ℕ) (n : Memory) → d ≡ e → IsMemory q e n → IsMemory q d n
other_depth q d e n h t = subst (λ (k : ℕ). IsMemory q k n) (sym h) t

pub same_from : (p q : Content) (d e : ℕ) (m n : Memory) → d ≡ e → words_of p d m ≡ words_of q d n → words_of p d m ≡ words_of q e n
same_from p q d e m n h w = w ∙ ap (λ (k : ℕ). words_of q k n) h

pub same_to : (p q : Content) (d e : ℕ) (m n : Memory) → d ≡ e → words_of p d m ≡ words_of q e n → words_of p d m ≡ words_of q d n
same_to p q d e m n h w = w ∙ ap (λ (k : ℕ). words_of q k n) (sym h)

-- what values are made of
pub same_truth : (b c : Bool) → truth_value b ≡ truth_value c → b ≡ c
same_truth b c h = ap as_truth h

pub same_numbers : (m n : ℕ) → number m ≡ number n → m ≡ n
same_numbers m n h = ap as_number h

pub same_words : (xs ys : List ℕ) → words xs ≡ words ys → xs ≡ ys
same_words xs ys h = ap as_words h

-- lists of numbers that are one at each place
pub same_lists : (xs ys : List ℕ) → length xs ≡ length ys → ((k : ℕ) → k < length xs → get_or xs k 0 ≡ get_or ys k 0) → xs ≡ ys
same_lists [] [] e h = refl
same_lists [] (y ∷ ys) e h = absurd (omega (arith, e))
same_lists (x ∷ xs) [] e h = absurd (omega (arith, e))
same_lists (x ∷ xs) (y ∷ ys) e h =
    ap (λ (z : ℕ). z ∷ xs) (h 0 (omega arith)) ∙ ap (λ (zs : List ℕ). y ∷ zs) (same_lists xs ys (omega (arith, e)) (λ k l. h (suc k) (omega arith)))

-- one place more at which they are one
pub same_more : (xs ys : List ℕ) (k j : ℕ) → j < k + 1 → ((i : ℕ) → i < k → get_or xs i 0 ≡ get_or ys i 0) → get_or xs k 0 ≡ get_or ys k 0 → get_or xs j 0 ≡ get_or ys j 0
same_more xs ys k j l h e = each (below_or_same j k)
  where
    each : (j < k) ⊎ ((j ≡ k) ⊎ (k < j)) → get_or xs j 0 ≡ get_or ys j 0
    each (inl b) = h j b
    each (inr (inl s)) = ap (λ (i : ℕ). get_or xs i 0) s ∙ e ∙ sym (ap (λ (i : ℕ). get_or ys i 0) s)
    each (inr (inr b)) = absurd (omega (arith, l, b))
