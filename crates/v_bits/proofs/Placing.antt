-- The terms that take bits at such places.
use Rattle.std.proofs.Common.{◌≡◌, ℕ, ◌%◌, ◌<◌, ◌≤◌, ◌^◌, max, Bool, true, false, cond, ◌==◌, nat_le, sym, ap, subst, arith}
use borrow.Author.Tests.{lt-leb, le-leb}
use Rattle.wb_values.specs.Value.{word, Valuation}
use Rattle.wb_values.specs.Number.{word_or, word_shl, word_lshr, word_neg, word_sub, word_extract}
use Rattle.verilog_meaning.specs.Expression.{widened}
use Rattle.wb_terms.specs.Graph.{Graph}
use Rattle.v_operators.specs.Meaning.{Grows, IsOfSort, HasNumber, Makes, Joins, Compares, Chooses}
use Rattle.v_operators.proofs.Growing.{Grows-trans, IsOfSort-kept, number_kept, truth_kept}
use Rattle.v_bits.specs.Moving.{near, near_wide, shifted, moved}
use Rattle.v_bits.proofs.Places.{makes_so, cut_part}

-- an index of many bits
pub wide_made : (g h i j k l n : Graph) (x w low again enough keep far id : ℕ) (t : Bool) → IsOfSort g x (word w)
    → Grows g h → Makes g h x w low 62 (word_extract 61 0)
    → Grows h i → Makes h i low 62 again w (widened t 62 w)
    → Grows i j → Compares i j again x w enough (λ a b. a == b)
    → Grows j k → Makes j k low 62 keep 64 (widened t 62 64)
    → Grows k l → ((p : Valuation) → HasNumber l far 64 p (2 ^ 62))
    → Chooses l n enough keep far 64 id → Makes g n x w id 64 (near_wide t w)
wide_made g h i j k l n x w low again enough keep far id t o gh is_low hi is_again ij is_enough jk is_kept kl is_far q =
    record {
      of_sort = q.of_sort;
      value = λ p a r.
          let cut : Makes g h x w low 62 (λ y. y % 2 ^ 62) = cut_part g h x w low 62 (omega arith) is_low in
          let b : ℕ = a % 2 ^ 62 in
          let at_low : HasNumber h low 62 p b = cut.value p a r in
          let at_again : HasNumber i again w p (widened t 62 w b) = is_again.value p b at_low in
          let at_x : HasNumber i x w p a = number_kept x w p a (Grows-trans gh hi) o.below r in
          let low_in_i : IsOfSort i low (word 62) = IsOfSort-kept low (word 62) hi cut.of_sort in
          let low_at_j : HasNumber j low 62 p b = number_kept low 62 p b (Grows-trans hi ij) cut.of_sort.below at_low in
          q.value p (widened t 62 w b == a) (widened t 62 64 b) (2 ^ 62)
          (truth_kept enough p (widened t 62 w b == a) (Grows-trans jk kl) is_enough.of_sort.below (is_enough.value p (widened t 62 w b) a at_again at_x))
          (number_kept keep 64 p (widened t 62 64 b) kl is_kept.of_sort.below (is_kept.value p b low_at_j)) (is_far p);
    }

pub near_short : (g h : Graph) (x w id : ℕ) (t : Bool) → w ≤ 62 → Makes g h x w id 64 (widened t w 64) → Makes g h x w id 64 (near t w)
near_short g h x w id t l m =
    let e : nat_le w 62 ≡ true = le-leb _ _ l in
    makes_so g h x w id 64 (widened t w 64) (near t w) (λ a i. ap (λ q. cond q (widened t w 64 a) (near_wide t w a)) (sym e)) m

pub near_long : (g h : Graph) (x w id : ℕ) (t : Bool) → 62 < w → Makes g h x w id 64 (near_wide t w) → Makes g h x w id 64 (near t w)
near_long g h x w id t l m =
    let e : nat_le w 62 ≡ false = lt-leb _ _ l in
    makes_so g h x w id 64 (near_wide t w) (near t w) (λ a i. ap (λ q. cond q (widened t w 64 a) (near_wide t w a)) (sym e)) m

-- differences with a known number
pub less_by_made : (g h k : Graph) (x c id n : ℕ) → IsOfSort g x (word 64) → Grows g h → ((p : Valuation) → HasNumber h c 64 p n) → Joins h k x 64 c 64 id 64 (word_sub 64) → Makes g k x 64 id 64 (λ a. word_sub 64 a n)
less_by_made g h k x c id n o gh is_c j = record { of_sort = j.of_sort; value = λ p a i. j.value p a n (number_kept x 64 p a gh o.below i) (is_c p) }

pub less_from_made : (g h k : Graph) (x c id n : ℕ) → IsOfSort g x (word 64) → Grows g h → ((p : Valuation) → HasNumber h c 64 p n) → Joins h k c 64 x 64 id 64 (word_sub 64) → Makes g k x 64 id 64 (λ a. word_sub 64 n a)
less_from_made g h k x c id n o gh is_c j = record { of_sort = j.of_sort; value = λ p a i. j.value p n a (is_c p) (number_kept x 64 p a gh o.below i) }

-- down and up at once
pub shifted_made : (g h i j k : Graph) (x m place down back up id : ℕ) → IsOfSort g x (word m) → IsOfSort g place (word 64)
    → Grows g h → Joins g h x m place 64 down m (word_lshr m)
    → Grows h i → Makes h i place 64 back 64 (word_neg 64)
    → Grows i j → Joins i j x m back 64 up m (word_shl m)
    → Joins j k down m up m id m word_or → Joins g k x m place 64 id m (shifted m)
shifted_made g h i j k x m place down back up id o q gh is_down hi is_back ij is_up r =
    record {
      of_sort = r.of_sort;
      value = λ p a b u v.
          let place_at_h : HasNumber h place 64 p b = number_kept place 64 p b gh q.below v in
          let x_at_i : HasNumber i x m p a = number_kept x m p a (Grows-trans gh hi) o.below u in
          r.value p (word_lshr m a b) (word_shl m a (word_neg 64 b))
          (number_kept down m p (word_lshr m a b) (Grows-trans hi ij) is_down.of_sort.below (is_down.value p a b u v))
          (is_up.value p a (word_neg 64 b) x_at_i (is_back.value p b place_at_h));
    }

pub moved_made : (g h i k : Graph) (x w m place wide both id n : ℕ) → IsOfSort g place (word 64)
    → m ≡ max w n → Grows g h → Makes g h x w wide m (widened false w m)
    → Joins h i wide m place 64 both m (shifted m)
    → Makes i k both m id n (λ a. a % 2 ^ n) → Joins g k x w place 64 id n (moved (max w n) n)
moved_made g h i k x w m place wide both id n o e gh is_wide is_both r =
    subst (λ y. Joins g k x w place 64 id n (moved y n)) e
    (record {
      of_sort = r.of_sort;
      value = λ p a b u v. r.value p (shifted m a b) (is_both.value p a b (is_wide.value p a u) (number_kept place 64 p b gh o.below v));
    })
