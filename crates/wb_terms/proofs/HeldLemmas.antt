-- Lemmas on the words that stand for values: of addresses, and of memories with a word replaced.
use Rattle.std.proofs.Common.{◌≡◌, ℕ, zero, suc, ◌<◌, ◌^◌, Bool, true, false, ◌&&◌, nat_lt, nat_le, List, [], ◌∷◌, length, Option, Some, None, IsTrue, IsSome, refl, ap, ◌∙◌, arith}
use Rattle.std.specs.Prelude.{◌==◌, slice_set}
use Rattle.std.proofs.Math.ListN.{length-set}
use Rattle.std.proofs.Math.Pow.{pow-lt}
use Rattle.std.proofs.lemmas.Bool.{false≢true}
use Rattle.std.proofs.lemmas.Bool.Decides.{nat_tests}
use Rattle.wb_values.specs.Value.{Value, Sort, truth, word, memory, truth_value, number, words, all_below, as_words, as_number}
use Rattle.wb_values.specs.Choice.{some_if}
use Rattle.model_meaning.specs.Term.{is_sort, is_width, load_sort, store_sort}
use Rattle.wb_terms.specs.Held.{IsHeldBy}
use Rattle.wb_terms.specs.Environment.{HasSortOf}
use Rattle.wb_terms.proofs.InRange.{IsInRange}

pub both : (a b : Bool) → IsTrue (a && b) → IsTrue a × IsTrue b
both true b h = (refl, h)
both false b h = absurd (false≢true h)

pub both_from : (a b : Bool) → IsTrue a → IsTrue b → IsTrue (a && b)
both_from true b h k = k
both_from false b h k = absurd (false≢true h)

taken : (b : Bool) (s : Sort) → IsSome (some_if b s) → IsTrue b × (some_if b s ≡ Some s)
taken true s h = (refl, refl)
taken false s h = absurd (false≢true h)

pub same_number : (a b : ℕ) → IsTrue (a == b) → a ≡ b
same_number a b h = grind (arith, nat_tests)

pub below : (a b : ℕ) → IsTrue (nat_lt a b) → a < b
below a b h = grind (arith, nat_tests)

-- the sorts of a read's operands, and of a replacement's
pub load_sorts : (m i : Option Sort) → IsSome (load_sort m i) → (a : ℕ) × (d : ℕ) × (m ≡ Some (memory a d)) × (i ≡ Some (word a))
load_sorts (Some (memory a d)) (Some (word u)) s =
    let e = same_number u a (taken (u == a) (word d) s).0 in
    (a, d, refl, ap (λ (k : ℕ). Some (word k)) e)
load_sorts _ _ s = absurd (false≢true s)

pub store_sorts : (m i x : Option Sort) → IsSome (store_sort m i x) → (a : ℕ) × (d : ℕ) × (m ≡ Some (memory a d)) × (i ≡ Some (word a)) × (x ≡ Some (word d)) × (store_sort m i x ≡ Some (memory a d))
store_sorts (Some (memory a d)) (Some (word u)) (Some (word w)) s =
    let t = taken ((u == a) && (w == d)) (memory a d) s in
    let b = both (u == a) (w == d) t.0 in
    (a, d, refl, ap (λ (k : ℕ). Some (word k)) (same_number u a b.0), ap (λ (k : ℕ). Some (word k)) (same_number w d b.1), t.1)
store_sorts _ _ _ s = absurd (false≢true s)

-- what is held of a word, and of a memory
pub held_word : (u : ℕ) (v : Value) (w n : ℕ) → IsHeldBy (Some (word u)) v w n → (m : ℕ) × (v ≡ number m) × (n ≡ m) × (m < 2 ^ u)
held_word u (truth_value b) w n h = absurd h
held_word u (number m) w n h = (m, refl, h.1, h.2)
held_word u (words ws) w n h = absurd h

pub held_memory : (a d : ℕ) (v : Value) (w n : ℕ) → IsHeldBy (Some (memory a d)) v w n → (ws : List ℕ) × (v ≡ words ws) × (length ws ≡ 2 ^ a) × IsTrue (all_below d ws)
held_memory a d (truth_value b) w n h = absurd h
held_memory a d (number m) w n h = absurd h
held_memory a d (words ws) w n h = (ws, refl, h.2, h.3)

sixteen_from : (a : ℕ) → IsTrue (nat_le a 16) → a < 17
sixteen_from a h = grind (arith, nat_tests)

sixteen : (a d : ℕ) → IsTrue (is_sort (memory a d)) → a < 17
sixteen a d h =
    let l = (both (nat_le 1 a && nat_le a 16) (is_width d) h).0 in
    let k = (both (nat_le 1 a) (nat_le a 16) l).1 in
    sixteen_from a k

-- an address of a memory has at most 16 bits
pub address_is_small : (m i : Option Sort) (v : Value) (w n : ℕ) → IsInRange m → IsSome (load_sort m i) → IsHeldBy i v w n → n < 131072
address_is_small m i v w n r s h =
    let t = load_sorts m i s in
    let a = t.0 in
    let q = held_word a v w n (rw t.3 at h) in
    let small : a < 17 = sixteen a t.1 (rw t.2 at r) in
    let p : 2 ^ a < 2 ^ 17 = pow-lt small in
    omega (arith, q.2, q.3, p)

pub all_below-set : (d : ℕ) (ws : List ℕ) (k x : ℕ) → IsTrue (all_below d ws) → IsTrue (nat_lt x (2 ^ d)) → IsTrue (all_below d (slice_set ws k x))
all_below-set d [] k x h b = refl
all_below-set d (w ∷ ws) zero x h b = both_from (nat_lt x (2 ^ d)) (all_below d ws) b (both (nat_lt w (2 ^ d)) (all_below d ws) h).1
all_below-set d (w ∷ ws) (suc k) x h b =
    let t = both (nat_lt w (2 ^ d)) (all_below d ws) h in
    both_from (nat_lt w (2 ^ d)) (all_below d (slice_set ws k x)) t.0 (all_below-set d ws k x t.1 b)

pub test_of : (a b : ℕ) → a < b → IsTrue (nat_lt a b)
test_of a b h = grind (arith, nat_tests)

equal_test : (a b : ℕ) → a ≡ b → IsTrue (a == b)
equal_test a b h = grind (arith, nat_tests)

length_written : (ws : List ℕ) (k x a : ℕ) → length ws ≡ 2 ^ a → length (slice_set ws k x) ≡ 2 ^ a
length_written ws k x a h = length-set ws k x ∙ h

-- a memory with a word replaced is a memory of that sort
pub held_store : (m i x : Option Sort) (vm vi vx : Value) (wm nm wx nx w n : ℕ) → IsSome (store_sort m i x) → IsHeldBy m vm wm nm → IsHeldBy x vx wx nx → w ≡ 1 → n ≡ 0 → IsHeldBy (store_sort m i x) (words (slice_set (as_words vm) (as_number vi) (as_number vx))) w n
held_store m i x vm vi vx wm nm wx nx w n s hm hx ew en =
    let t = store_sorts m i x s in
    let a = t.0 in
    let d = t.1 in
    let p = held_memory a d vm wm nm (rw t.2 at hm) in
    let q = held_word d vx wx nx (rw t.4 at hx) in
    let ws = p.0 in
    let k = as_number vi in
    let l = length_written ws k q.0 a p.2 in
    let b : IsTrue (all_below d (slice_set ws k q.0)) = all_below-set d ws k q.0 p.3 (test_of q.0 (2 ^ d) q.3) in
    rw (t.5, p.1, q.1) (ew, en, l, b)

-- a value that a word stands for is of its sort
pub HasSortOf-held : (o : Option Sort) (v : Value) (w n : ℕ) → IsHeldBy o v w n → HasSortOf v o
HasSortOf-held None v w n h = absurd h
HasSortOf-held (Some truth) (truth_value b) w n h = refl
HasSortOf-held (Some truth) (number m) w n h = absurd h
HasSortOf-held (Some truth) (words ws) w n h = absurd h
HasSortOf-held (Some (word u)) (truth_value b) w n h = absurd h
HasSortOf-held (Some (word u)) (number m) w n h = test_of m (2 ^ u) h.2
HasSortOf-held (Some (word u)) (words ws) w n h = absurd h
HasSortOf-held (Some (memory a d)) (truth_value b) w n h = absurd h
HasSortOf-held (Some (memory a d)) (number m) w n h = absurd h
HasSortOf-held (Some (memory a d)) (words ws) w n h = both_from (length ws == 2 ^ a) (all_below d ws) (equal_test (length ws) (2 ^ a) h.2) h.3
