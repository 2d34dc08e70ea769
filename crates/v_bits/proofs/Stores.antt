-- Memories with a word replaced.
use Rattle.std.proofs.Common.{◌≡◌, ℕ, ◌+◌, ◌-◌, ◌/◌, ◌%◌, ◌<◌, ◌≤◌, ◌^◌, Bool, true, false, cond, ◌&&◌, nat_le, nat_lt, List, length, Option, Some, refl, ap, ◌∙◌, subst, arith, slice_set, eq-eqb}
use Rattle.std.specs.Prelude.{int_lt}
use Rattle.std.proofs.Math.Nat.{mod-eq_of_lt, div-one}
use Rattle.std.proofs.lemmas.Bool.{false≢true}
use Rattle.std.proofs.lemmas.Bool.Decides.{nat_tests}
use Rattle.wb_values.specs.Value.{Sort, truth, word, memory, words, as_number, as_words, as_truth, Valuation}
use Rattle.wb_values.specs.Number.{word_extract}
use Rattle.wb_values.specs.Choice.{some_if}
use Rattle.model_meaning.specs.Term.{Term, store, ite, is_sort, store_sort, ite_sort, sort_of, val}
use Rattle.verilog_meaning.specs.Expression.{integer_from}
use Rattle.wb_terms.specs.Graph.{Graph, tree}
use Rattle.wb_terms.proofs.InRange.{is_sort-sort_of}
use Rattle.v_operators.specs.Meaning.{Grows, IsOfSort, HasNumber, Makes, Compares}
use Rattle.v_operators.proofs.Growing.{Grows-trans, number_kept, truth_kept, tree_kept}
use Rattle.v_operators.proofs.Forms.{formed}
use Rattle.v_bits.specs.Writing.{Stores, stored}

-- ---- the sort of a memory's term

memory_sort : (g : Graph) (id a d : ℕ) → IsOfSort g id (memory a d) → is_sort (memory a d) ≡ true
memory_sort g id a d o = is_sort-sort_of (tree g id) (memory a d) o.sort

and_left : (x y : Bool) → x && y ≡ true → x ≡ true
and_left true y h = refl
and_left false y h = absurd (false≢true h)

and_right : (x y : Bool) → x && y ≡ true → y ≡ true
and_right true y h = h
and_right false y h = absurd (false≢true h)

at_least : (m n : ℕ) → nat_le m n ≡ true → m ≤ n
at_least m n h = grind (arith, nat_tests, h)

module _ (g : Graph) (id a d : ℕ) (o : IsOfSort g id (memory a d)) where
  pub some_address : 1 ≤ a
  some_address = at_least 1 a (and_left _ _ (and_left _ _ (memory_sort g id a d o)))

  pub few_addresses : a ≤ 16
  few_addresses = at_least a 16 (and_right _ _ (and_left _ _ (memory_sort g id a d o)))

-- ---- sorts

pub whole_address : (a : ℕ) → 1 ≤ a → a - 1 + 1 - 0 ≡ a
whole_address a h = omega (arith, h)

both : (x y : Bool) → x ≡ true → y ≡ true → x && y ≡ true
both true y h k = k
both false y h k = absurd (false≢true h)

store_sorted : (m i x : Option Sort) (a d : ℕ) → m ≡ Some (memory a d) → i ≡ Some (word a) → x ≡ Some (word d) → store_sort m i x ≡ Some (memory a d)
store_sorted m i x a d e f k =
    ap (λ o. store_sort o i x) e ∙ (ap (λ o. store_sort (Some (memory a d)) o x) f ∙ (ap (store_sort (Some (memory a d)) (Some (word a))) k
    ∙ ap (λ b. some_if b (memory a d)) (both _ _ (eq-eqb a a refl) (eq-eqb d d refl))))

pub store_sort_of : (g : Graph) (m i x a d : ℕ) → 1 ≤ a → IsOfSort g m (memory a d) → IsOfSort g i (word (a - 1 + 1 - 0)) → IsOfSort g x (word d)
    → sort_of (store (tree g m) (tree g i) (tree g x)) ≡ Some (memory a d)
store_sort_of g m i x a d s o q r =
    store_sorted (sort_of (tree g m)) (sort_of (tree g i)) (sort_of (tree g x)) a d o.sort (subst (λ k. sort_of (tree g i) ≡ Some (word k)) (whole_address a s) q.sort) r.sort

ite_sorted : (c x y : Option Sort) (a d : ℕ) → c ≡ Some truth → x ≡ Some (memory a d) → y ≡ Some (memory a d) → ite_sort c x y ≡ Some (memory a d)
ite_sorted c x y a d e f k =
    ap (λ o. ite_sort o x y) e ∙ (ap (λ o. ite_sort (Some truth) o y) f ∙ (ap (ite_sort (Some truth) (Some (memory a d))) k
    ∙ ap (λ b. some_if b (memory a d)) (both _ _ (eq-eqb a a refl) (eq-eqb d d refl))))

pub ite_sort_of : (g : Graph) (c x y a d : ℕ) → IsOfSort g c truth → IsOfSort g x (memory a d) → IsOfSort g y (memory a d) → sort_of (ite (tree g c) (tree g x) (tree g y)) ≡ Some (memory a d)
ite_sort_of g c x y a d o q r = ite_sorted (sort_of (tree g c)) (sort_of (tree g x)) (sort_of (tree g y)) a d o.sort q.sort r.sort

-- ---- what it is worth

chosen : (t : Bool) (n a b c : ℕ) (xs : List ℕ) → nat_lt b n ≡ t → n ≤ 2 ^ a → cond t (words (slice_set xs (b % 2 ^ a) c)) (words xs) ≡ words (cond t (slice_set xs b c) xs)
chosen true n a b c xs e room =
    let below : b < n = grind (arith, nat_tests, e) in
    ap (λ k. words (slice_set xs k c)) (mod-eq_of_lt {n = b} {m = 2 ^ a} (omega (arith, below, room)))
chosen false n a b c xs e room = refl

pub store_made : (g h i j k l : Graph) (m place x limit within address changed id a d n : ℕ) → IsOfSort g m (memory a d) → IsOfSort g place (word 64) → IsOfSort g x (word d) → n ≤ 2 ^ a
    → Grows g h → ((p : Valuation) → HasNumber h limit 64 p n)
    → Grows h i → Compares h i place limit 64 within (λ y z. int_lt (integer_from false 64 y) (integer_from false 64 z))
    → Grows i j → Makes i j place 64 address (a - 1 + 1 - 0) (word_extract (a - 1) 0)
    → Grows j k → changed < length k.nodes → tree k changed ≡ store (tree j m) (tree j address) (tree j x)
    → id < length l.nodes → tree l id ≡ ite (tree k within) (tree k changed) (tree k m)
    → sort_of (ite (tree k within) (tree k changed) (tree k m)) ≡ Some (memory a d)
    → Stores g l m place x id a d (stored n)
store_made g h i j k l m place x limit within address changed id a d n o q r room gh is_limit hi is_within ij is_address jk below e below_id f sort =
    record {
      of_sort = formed l id (ite (tree k within) (tree k changed) (tree k m)) (memory a d) below_id f sort;
      value = λ p xs b c is_xs is_b is_c.
          let gi : Grows g i = Grows-trans gh hi in
          let gj : Grows g j = Grows-trans gi ij in
          let gk : Grows g k = Grows-trans gj jk in
          let said = truth_kept within p (nat_lt b n) (Grows-trans ij jk) is_within.of_sort.below (is_within.value p b n (number_kept place 64 p b gh q.below is_b) (is_limit p)) in
          let at : HasNumber j address (a - 1 + 1 - 0) p (word_extract (a - 1) 0 b) = is_address.value p b (number_kept place 64 p b gi q.below is_b) in
          let s : 1 ≤ a = some_address g m a d o in
          let where_at : word_extract (a - 1) 0 b ≡ b % 2 ^ a = (ap (λ z. b / 2 ^ 0 % 2 ^ z) (whole_address a s) ∙ ap (λ z. z % 2 ^ a) (div-one b)) in
          let words_at : val (tree j m) p ≡ words xs = ap (λ (t : Term). val t p) (tree_kept m gj o.below) ∙ is_xs in
          let words_after : val (tree k m) p ≡ words xs = ap (λ (t : Term). val t p) (tree_kept m gk o.below) ∙ is_xs in
          let word_at : HasNumber j x d p c = number_kept x d p c gj r.below is_c in
          let got : val (tree k changed) p ≡ words (slice_set xs (b % 2 ^ a) c) =
          ap (λ (t : Term). val t p) e
          ∙ (ap (λ z. words (slice_set (as_words z) (as_number (val (tree j address) p)) (as_number (val (tree j x) p)))) words_at
          ∙ (ap (λ z. words (slice_set xs (as_number z) (as_number (val (tree j x) p)))) at.value
          ∙ (ap (λ z. words (slice_set xs z (as_number (val (tree j x) p)))) where_at
          ∙ ap (λ z. words (slice_set xs (b % 2 ^ a) (as_number z))) word_at.value))) in
          ap (λ (t : Term). val t p) f
          ∙ (ap (λ z. cond (as_truth z) (val (tree k changed) p) (val (tree k m) p)) said.value
          ∙ (ap (λ z. cond (nat_lt b n) z (val (tree k m) p)) got
          ∙ (ap (λ z. cond (nat_lt b n) (words (slice_set xs (b % 2 ^ a) c)) z) words_after
          ∙ chosen (nat_lt b n) n a b c xs refl room)));
    }
