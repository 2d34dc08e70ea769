-- Bits side by side, parts, and amounts of shifts.
use Rattle.std.proofs.Common.{◌≡◌, ℕ, zero, suc, ◌+◌, ◌-◌, ◌*◌, ◌/◌, ◌%◌, ◌<◌, ◌≤◌, ◌^◌, min, Bool, true, false, cond, ◌&&◌, nat_lt, nat_le, length, Option, Some, refl, sym, ap, ◌∙◌, subst, arith}
use Rattle.std.specs.Prelude.{int_lt}
use Rattle.std.proofs.Math.Nat.{mod-lt, mod-eq_of_lt, div-one, pow-suc}
use Rattle.std.proofs.Math.Pow.{pow_pos, pow_mono}
use Rattle.std.proofs.lemmas.Bool.Decides.{nat_tests}
use Rattle.wb_values.specs.Value.{Sort, word, number, Valuation, as_number}
use Rattle.wb_values.specs.Number.{word_concat, word_extract, word_shl, word_lshr, word_ashr, top_bit}
use Rattle.wb_values.specs.Choice.{some_if}
use Rattle.model_meaning.specs.Term.{concat, extract, concat_sort, extract_sort, sort_of, width_of_sort, val}
use Rattle.verilog_meaning.specs.Expression.{side_by_side, widened, integer_from}
use Rattle.wb_terms.specs.Graph.{Graph, tree}
use Rattle.v_operators.specs.Meaning.{Grows, IsOfSort, HasNumber, HasTruth, Makes, Joins, Compares, Chooses}
use Rattle.v_operators.specs.Amount.{amount}
use Rattle.v_operators.proofs.Growing.{Grows-trans, IsOfSort-kept, number_kept, truth_kept}
use Rattle.v_operators.proofs.Forms.{formed, makes}
use Rattle.v_operators.proofs.Bounds.{concat_below}

-- ---- two side by side

concat_test : (u w : ℕ) → u + w ≤ 128 → nat_le (u + w) 128 ≡ true
concat_test u w a = grind (arith, nat_tests)

concat_sorted : (a b : Option Sort) (u w : ℕ) → a ≡ Some (word u) → b ≡ Some (word w) → u + w ≤ 128 → concat_sort a b ≡ Some (word (u + w))
concat_sorted a b u w i j h = ap (λ o. concat_sort o b) i ∙ (ap (concat_sort (Some (word u))) j ∙ ap (λ t. some_if t (word (u + w))) (concat_test u w h))

pub concat_sort_of : (g : Graph) (x u y w : ℕ) → IsOfSort g x (word u) → IsOfSort g y (word w) → u + w ≤ 128 → sort_of (concat (tree g x) (tree g y)) ≡ Some (word (u + w))
concat_sort_of g x u y w o q h = concat_sorted (sort_of (tree g x)) (sort_of (tree g y)) u w o.sort q.sort h

pub concat_made : (g h : Graph) (id x u y w : ℕ) → IsOfSort g x (word u) → IsOfSort g y (word w) → u + w ≤ 128 → id < length h.nodes → tree h id ≡ concat (tree g x) (tree g y) → Joins g h x u y w id (u + w) (word_concat w)
concat_made g h id x u y w o q l b e =
    record {
      of_sort = formed h id (concat (tree g x) (tree g y)) (word (u + w)) b e (concat_sort_of g x u y w o q l);
      value = λ p a c m n. record {
        value = ap (λ t. val t p) e
            ∙ (ap (λ k. number (word_concat (width_of_sort k) (as_number (val (tree g x) p)) (as_number (val (tree g y) p)))) q.sort
            ∙ (ap (λ k. number (word_concat w (as_number k) (as_number (val (tree g y) p)))) m.value ∙ ap (λ k. number (word_concat w a (as_number k))) n.value));
        fits = concat_below a u c w m.fits n.fits;
      };
    }

-- ---- some bits

extract_test : (h l w : ℕ) → l ≤ h → h < w → (nat_le l h && nat_lt h w) ≡ true
extract_test h l w a b = grind (arith, nat_tests)

pub extract_sort_of : (g : Graph) (x w h l : ℕ) → IsOfSort g x (word w) → l ≤ h → h < w → sort_of (extract h l (tree g x)) ≡ Some (word (h + 1 - l))
extract_sort_of g x w h l o a b = ap (extract_sort h l) o.sort ∙ ap (λ t. some_if t (word (h + 1 - l))) (extract_test h l w a b)

pub extract_made : (g k : Graph) (id x w h l : ℕ) → IsOfSort g x (word w) → l ≤ h → h < w → id < length k.nodes → tree k id ≡ extract h l (tree g x) → Makes g k x w id (h + 1 - l) (word_extract h l)
extract_made g k id x w h l o a b c e =
    makes (extract h l) (word_extract h l) g k id x w (h + 1 - l) (λ s p n i j. ap (λ c. number (word_extract h l (as_number c))) j)
    (λ n m. mod-lt (n / 2 ^ l) (pow_pos (h + 1 - l))) (extract_sort_of g x w h l o a b) o c e

-- ---- copies

pub one_copy : (w x : ℕ) → x ≡ side_by_side 1 w x
one_copy w x = let e : x * 1 + 0 ≡ x = omega arith in let f : 0 * w ≡ 0 = omega arith in sym (ap (λ k. x * 2 ^ k + 0) f ∙ e)

-- ---- amounts

pub amount_below : (g h : Graph) (id x u w : ℕ) → u ≤ w → Makes g h x u id w (widened false u w) → Makes g h x u id w (amount u w)
amount_below g h id x u w l m =
    let e : nat_le u w ≡ true = grind (arith, nat_tests) in
    subst (λ t. Makes g h x u id w (λ n. cond t n (min n w))) (sym e) m

pub amount_above : (g h : Graph) (id x u w : ℕ) → w < u → Makes g h x u id w (λ n. min n w) → Makes g h x u id w (amount u w)
amount_above g h id x u w l m =
    let e : nat_le u w ≡ false = grind (arith, nat_tests) in
    subst (λ t. Makes g h x u id w (λ n. cond t n (min n w))) (sym e) m

-- a shift sees no more of the amount than the lesser of it and the width
least_twice : (n w : ℕ) → min (min n w) w ≡ min n w
least_twice n w = omega arith

pub same_amount : (u w n : ℕ) → min (amount u w n) w ≡ min n w
same_amount u w n = by_test (nat_le u w) where
  by_test : (t : Bool) → min (cond t n (min n w)) w ≡ min n w
  by_test true = refl
  by_test false = least_twice n w

-- a shift by the amount
pub shift_by_amount : (f : ℕ → ℕ → ℕ) (g h k : Graph) (id x w c u a : ℕ) → ((m n y : ℕ) → min m w ≡ min n w → f y m ≡ f y n) → IsOfSort g x (word w) → Grows g h → Makes g h c u a w (amount u w) → Joins h k x w a w id w f → Joins g k x w c u id w f
shift_by_amount f g h k id x w c u a same o grows m j =
    record {
      of_sort = j.of_sort;
      value = λ p y n i l.
          let r : HasNumber k id w p (f y (amount u w n)) = j.value p y (amount u w n) (number_kept x w p y grows o.below i) (m.value p n l) in
          subst (λ z. HasNumber k id w p z) (same (amount u w n) n y (same_amount u w n)) r;
    }

pub shl_by : (w m n y : ℕ) → min m w ≡ min n w → word_shl w y m ≡ word_shl w y n
shl_by w m n y e = ap (λ k. (y * 2 ^ k) % 2 ^ w) e

pub lshr_by : (w m n y : ℕ) → min m w ≡ min n w → word_lshr w y m ≡ word_lshr w y n
lshr_by w m n y e = ap (λ k. y / 2 ^ k) e

pub ashr_by : (w m n y : ℕ) → min m w ≡ min n w → word_ashr w y m ≡ word_ashr w y n
ashr_by w m n y e = ap (λ k. y / 2 ^ k + cond (top_bit w y) (2 ^ w - 2 ^ (w - k)) 0) e

-- every number fits as many bits
pub fits_itself : (w : ℕ) → w < 2 ^ w
fits_itself zero = omega arith
fits_itself (suc w) = let e : 2 ^ suc w ≡ 2 ^ w * 2 = pow-suc 2 w in omega (arith, fits_itself w, e)

-- the lesser of two, by a comparison: below the limit a number fits the limit's own width
lesser : (t : Bool) (n w : ℕ) → 1 ≤ w → t ≡ nat_lt n w → cond t (n / 2 ^ 0 % 2 ^ (w - 1 + 1 - 0)) w ≡ min n w
lesser true n w s e =
    let h : n < w = grind (arith, nat_tests) in
    let l : n < 2 ^ w = let p : w < 2 ^ w = fits_itself w in omega (arith, p, h) in
    let i : w - 1 + 1 - 0 ≡ w = omega arith in
    ap (λ j. n / 1 % 2 ^ j) i ∙ (ap (λ j. j % 2 ^ w) (div-one n) ∙ (mod-eq_of_lt l ∙ (omega (arith, h))))
lesser false n w s e =
    let h : w ≤ n = grind (arith, nat_tests) in
    omega (arith, h)

-- the first copy, and one more
pub copies_begin : (g : Graph) (x w total : ℕ) → total ≡ w → IsOfSort g x (word w) → Makes g g x w x total (side_by_side 1 w)
copies_begin g x w total e o =
    subst (λ k. Makes g g x w x k (side_by_side 1 w)) (sym e)
    (record { of_sort = o; value = λ p a m. record { value = m.value ∙ ap (λ k. number k) (one_copy w a); fits = subst (λ k. k < 2 ^ w) (one_copy w a) m.fits } })

one_more : (n w x total : ℕ) → total ≡ n * w → word_concat total x (side_by_side n w x) ≡ side_by_side (n + 1) w x
one_more n w x total e = let s : n + 1 ≡ suc n = omega arith in ap (λ k. x * 2 ^ k + side_by_side n w x) e ∙ sym (ap (λ k. side_by_side k w x) s)

pub copies_go_on : (g h k : Graph) (x w a b n total more : ℕ) → IsOfSort g x (word w) → Grows g h → total ≡ n * w → Makes g h x w a total (side_by_side n w) → Joins h k x w a total b (w + total) (word_concat total) → more ≡ total + w
    → Makes g k x w b more (side_by_side (n + 1) w)
copies_go_on g h k x w a b n total more o grows is m j l =
    let e : w + total ≡ more = omega (arith, l) in
    subst (λ z. Makes g k x w b z (side_by_side (n + 1) w)) e
    (record {
      of_sort = j.of_sort;
      value = λ p y i. subst (λ z. HasNumber k b (w + total) p z) (one_more n w y total is) (j.value p y (side_by_side n w y) (number_kept x w p y grows o.below i) (m.value p y i));
    })

-- the lesser of the width and a number of more bits
pub narrowed_made : (g h i j k l : Graph) (id c u w limit t low most : ℕ) → 1 ≤ w → IsOfSort g c (word u) → Grows g h → ((p : Valuation) → HasNumber h limit u p w) → Compares h i c limit u t (λ a b. int_lt (integer_from false u a) (integer_from false u b))
    → Grows h i → Makes i j c u low w (λ n. n / 2 ^ 0 % 2 ^ (w - 1 + 1 - 0)) → Grows i j → ((p : Valuation) → HasNumber k most w p w) → Grows j k → Chooses k l t low most w id
    → Makes g l c u id w (λ n. min n w)
narrowed_made g h i j k l id c u w limit t low most s o gh is_limit m hi n ij is_most jk q =
    record {
      of_sort = q.of_sort;
      value = λ p a r.
          let at_h : HasNumber h c u p a = number_kept c u p a gh o.below r in
          let in_h : IsOfSort h c (word u) = IsOfSort-kept c (word u) gh o in
          let in_i : IsOfSort i c (word u) = IsOfSort-kept c (word u) hi in_h in
          let said : HasTruth i t p (nat_lt a w) = m.value p a w at_h (is_limit p) in
          let cut : HasNumber j low w p (a / 2 ^ 0 % 2 ^ (w - 1 + 1 - 0)) = n.value p a (number_kept c u p a hi in_h.below at_h) in
          subst (λ z. HasNumber l id w p z) (lesser (nat_lt a w) a w s refl)
          (q.value p (nat_lt a w) (a / 2 ^ 0 % 2 ^ (w - 1 + 1 - 0)) w
          (truth_kept t p (nat_lt a w) (Grows-trans ij jk) m.of_sort.below said)
          (number_kept low w p (a / 2 ^ 0 % 2 ^ (w - 1 + 1 - 0)) jk n.of_sort.below cut) (is_most p));
    }

pub limit_fits : (w u : ℕ) → w < u → w < 2 ^ u
limit_fits w u h = let a : w < 2 ^ w = fits_itself w in let b : w ≤ u = omega (arith, h) in let c : 2 ^ w ≤ 2 ^ u = pow_mono b in omega (arith, a, c)

pub same_part : (w : ℕ) → 1 ≤ w → w - 1 + 1 - 0 ≡ w
same_part w h = omega arith

pub whole_part : (g h : Graph) (id x u w : ℕ) → 1 ≤ w → Makes g h x u id (w - 1 + 1 - 0) (word_extract (w - 1) 0) → Makes g h x u id w (λ n. n / 2 ^ 0 % 2 ^ (w - 1 + 1 - 0))
whole_part g h id x u w s m = subst (λ k. Makes g h x u id k (λ n. n / 2 ^ 0 % 2 ^ (w - 1 + 1 - 0))) (same_part w s) m

pub step_total : (t n w : ℕ) → t ≡ n * w → t + w ≡ (n + 1) * w
step_total t n w h = let e : (n + 1) * w ≡ n * w + w = omega arith in omega (arith, e, h)

pub copies_end : (g h : Graph) (x w a i n total : ℕ) → i ≡ n → total ≡ i * w → Makes g h x w a total (side_by_side i w) → Makes g h x w a (n * w) (side_by_side n w)
copies_end g h x w a i n total e t m =
    subst (λ k. Makes g h x w a (k * w) (side_by_side k w)) e (subst (λ k. Makes g h x w a k (side_by_side i w)) t m)
