-- Tests as facts, and the words of a memory's value.
use Rattle.std.proofs.Common.{◌≡◌, ℕ, zero, suc, ◌<◌, ◌^◌, Bool, true, false, ◌&&◌, nat_lt, List, [], ◌∷◌, length, get_or, IsTrue, refl, arith}
use Rattle.std.specs.Prelude.{◌==◌, slice_set}
use Rattle.std.proofs.lemmas.Bool.{false≢true}
use Rattle.std.proofs.lemmas.Bool.Decides.{nat_tests}
use Rattle.wb_values.specs.Value.{memory, words, all_below, HasSort}

pub both : (a b : Bool) → IsTrue (a && b) → IsTrue a × IsTrue b
both true b h = (refl, h)
both false b h = absurd (false≢true h)

pub both_from : (a b : Bool) → IsTrue a → IsTrue b → IsTrue (a && b)
both_from true b h k = k
both_from false b h k = absurd (false≢true h)

pub same_number : (a b : ℕ) → IsTrue (a == b) → a ≡ b
same_number a b h = grind (arith, nat_tests)

pub below : (a b : ℕ) → IsTrue (nat_lt a b) → a < b
below a b h = grind (arith, nat_tests)

pub test_of : (a b : ℕ) → a < b → IsTrue (nat_lt a b)
test_of a b h = grind (arith, nat_tests)

below_at : (d : ℕ) (ws : List ℕ) (k x : ℕ) → IsTrue (all_below d ws) → k < length ws → get_or ws k x < 2 ^ d
below_at d [] k x h b = absurd (omega arith)
below_at d (w ∷ ws) zero x h b = below w (2 ^ d) (both (nat_lt w (2 ^ d)) (all_below d ws) h).0
below_at d (w ∷ ws) (suc k) x h b = below_at d ws k x (both (nat_lt w (2 ^ d)) (all_below d ws) h).1 (omega arith)

-- a memory's value has as many words as it has addresses, each of the word width
pub length-memory : (a d : ℕ) (ws : List ℕ) → HasSort (words ws) (memory a d) → length ws ≡ 2 ^ a
length-memory a d ws h = same_number (length ws) (2 ^ a) (both (length ws == 2 ^ a) (all_below d ws) h).0

pub memory_word : (a d : ℕ) (ws : List ℕ) (k x : ℕ) → HasSort (words ws) (memory a d) → k < 2 ^ a → x ≡ get_or ws k x → x < 2 ^ d
memory_word a d ws k x h b i =
    let l = length-memory a d ws h in
    let all = (both (length ws == 2 ^ a) (all_below d ws) h).1 in
    let lt : get_or ws k x < 2 ^ d = below_at d ws k x all (omega (arith, l)) in
    omega (arith, i, lt)

pub all_below-set : (d : ℕ) (ws : List ℕ) (k x : ℕ) → IsTrue (all_below d ws) → IsTrue (nat_lt x (2 ^ d)) → IsTrue (all_below d (slice_set ws k x))
all_below-set d [] k x h b = refl
all_below-set d (w ∷ ws) zero x h b = both_from (nat_lt x (2 ^ d)) (all_below d ws) b (both (nat_lt w (2 ^ d)) (all_below d ws) h).1
all_below-set d (w ∷ ws) (suc k) x h b =
    let t = both (nat_lt w (2 ^ d)) (all_below d ws) h in
    both_from (nat_lt w (2 ^ d)) (all_below d (slice_set ws k x)) t.0 (all_below-set d ws k x t.1 b)
