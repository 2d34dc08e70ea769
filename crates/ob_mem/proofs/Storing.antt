-- A memory with a word replaced, word by word.
use Rattle.std.proofs.Common.{◌≡◌, ℕ, zero, suc, ◌+◌, ◌<◌, ◌≤◌, ◌^◌, Bool, true, false, cond, ◌&&◌, List, [], ◌∷◌, length, get_or, set, nat_le, nat_lt, Some, IsTrue, refl, sym, ap, ◌∙◌, subst, arith}
use Rattle.std.specs.Prelude.{◌==◌, slice_index, slice_set, IsSome, is_some}
use Rattle.std.proofs.lemmas.List.{get_or-set_same, get_or-set_other}
use Rattle.std.proofs.lemmas.Bool.Decides.{nat_tests}
use Rattle.wb_values.specs.Value.{Sort, truth, word, memory, Value, truth_value, number, as_truth, as_number, Valuation}
use Rattle.wb_values.specs.Choice.{some_if}
use Rattle.model_meaning.specs.Term.{Term, const, eq, ite, sort_of, is_width, is_equal, val}
use Rattle.wb_terms.specs.Graph.{Graph, IsOver, tree}
use Rattle.wb_terms.specs.declared.nodes.TermId.{TermId}
use Rattle.ob_mem.specs.declared.rows.Row.TheVariants.{Choices, Matches, Constants, Updates}
use Rattle.ob_mem.specs.Rows.{Grows, IsRow, node_in, tree_in, AreOver, IsPlain, AreWords, HoldWords}
use Rattle.ob_mem.proofs.Growing.{Grows-trans, IsPlain-kept, AreWords-kept, HoldWords-kept, val_kept, row_grows, row_plain, row_val}
use Rattle.ob_mem.proofs.Choosing.{ite_words, eq_words, blastable_two, blastable_three, chosen}

in_constant : (a k : ℕ) → 1 ≤ a → a ≤ 16 → k < 2 ^ a → (is_width a && nat_lt k (2 ^ a)) ≡ true
in_constant a k p q b = rw (narrow a p q, below k (2 ^ a) b) refl
  where
    narrow : (a : ℕ) → 1 ≤ a → a ≤ 16 → is_width a ≡ true
    narrow a p q = grind (arith, nat_tests)

    below : (k n : ℕ) → k < n → nat_lt k n ≡ true
    below k n b = grind (arith, nat_tests)

constant_sort : (a k : ℕ) → 1 ≤ a → a ≤ 16 → k < 2 ^ a → sort_of (const a k) ≡ Some (word a)
constant_sort a k p q b = rw (in_constant a k p q b) refl

pub constants_over : (g : Graph) (a : ℕ) → 1 ≤ a → a ≤ 16 → AreOver g (Constants a) (2 ^ a)
constants_over g a p q =
    record {
      over = λ k b. record { operands = tt; names = tt };
      sorted = λ k b. ap is_some (constant_sort a k p q b);
    }

pub constants_words : (g h : Graph) (first a : ℕ) → 1 ≤ a → a ≤ 16 → first ≡ length g.nodes → IsRow g h (tree_in g (Constants a)) (2 ^ a) → AreWords h first (2 ^ a) a
constants_words g h first a p q i row k b = row_plain g h (tree_in g (Constants a)) (2 ^ a) first k (word a) row i b (constant_sort a k p q b) refl

pub matches_over : (g : Graph) (x first : TermId) (count a : ℕ) → IsPlain g x.0 (word a) → AreWords g first.0 count a → AreOver g (Matches x first) count
matches_over g x first count a p q =
    record {
      over = λ k b. record { operands = (p.below, ((q k b).below, tt)); names = tt };
      sorted = λ k b. ap is_some (eq_words (tree g x.0) (tree g (first.0 + k)) a p.sort (q k b).sort);
    }

pub matches_plain : (g h : Graph) (x first : TermId) (id count a k : ℕ) → id ≡ length g.nodes → IsRow g h (tree_in g (Matches x first)) count → k < count → IsPlain g x.0 (word a) → AreWords g first.0 count a → IsPlain h (id + k) truth
matches_plain g h x first id count a k i row b p q =
    row_plain g h (tree_in g (Matches x first)) count id k truth row i b (eq_words (tree g x.0) (tree g (first.0 + k)) a p.sort (q k b).sort) (blastable_two (tree g x.0) (tree g (first.0 + k)) p.blastable (q k b).blastable)

pub updates_over : (g : Graph) (c x y : TermId) (count d : ℕ) → ((k : ℕ) → k < count → IsPlain g (c.0 + k) truth) → IsPlain g x.0 (word d) → AreWords g y.0 count d → AreOver g (Updates c x y) count
updates_over g c x y count d p q r =
    record {
      over = λ k b. record { operands = ((p k b).below, (q.below, ((r k b).below, tt))); names = tt };
      sorted = λ k b. ap is_some (ite_words (tree g (c.0 + k)) (tree g x.0) (tree g (y.0 + k)) d (p k b).sort q.sort (r k b).sort);
    }

pub updates_words : (g h : Graph) (c x y : TermId) (first count d : ℕ) → first ≡ length g.nodes → IsRow g h (tree_in g (Updates c x y)) count → ((k : ℕ) → k < count → IsPlain g (c.0 + k) truth) → IsPlain g x.0 (word d) → AreWords g y.0 count d → AreWords h first count d
updates_words g h c x y first count d i row p q r k b =
    row_plain g h (tree_in g (Updates c x y)) count first k (word d) row i b
    (ite_words (tree g (c.0 + k)) (tree g x.0) (tree g (y.0 + k)) d (p k b).sort q.sort (r k b).sort)
    (blastable_three (tree g (c.0 + k)) (tree g x.0) (tree g (y.0 + k)) (p k b).blastable q.blastable (r k b).blastable)

-- the word at an address after one was replaced
equal_from_test : (i k : ℕ) → (i == k) ≡ true → i ≡ k
equal_from_test i k e = grind (arith, nat_tests)

unequal_from_test : (i k : ℕ) → (i == k) ≡ false → k ≡ i → ⊥
unequal_from_test i k e f = grind (arith, nat_tests)

pub replaced : (xs : List ℕ) (i k y : ℕ) (t : Bool) → (i == k) ≡ t → k < length xs → cond t (number y) (number (slice_index xs k)) ≡ number (slice_index (slice_set xs i y) k)
replaced xs i k y true e b =
    let s : i ≡ k = equal_from_test i k e in
    ap number (sym (get_or-set_same xs k y 0 b) ∙ ap (λ j. get_or (set xs j y) k 0) (sym s))
replaced xs i k y false e b = ap number (sym (get_or-set_other xs i k y 0 (unequal_from_test i k e)))

-- all three rows together
pub stored : (g g1 g2 g3 : Graph) (row address x : TermId) (c m r : TermId) (a d : ℕ) → 1 ≤ a → a ≤ 16
    → IsPlain g address.0 (word a) → IsPlain g x.0 (word d) → AreWords g row.0 (2 ^ a) d
    → c.0 ≡ length g.nodes → IsRow g g1 (tree_in g (Constants a)) (2 ^ a)
    → m.0 ≡ length g1.nodes → IsRow g1 g2 (tree_in g1 (Matches address c)) (2 ^ a)
    → r.0 ≡ length g2.nodes → IsRow g2 g3 (tree_in g2 (Updates m x row)) (2 ^ a)
    → (w : Valuation) (xs : List ℕ) (i y : ℕ) → val (tree g address.0) w ≡ number i → val (tree g x.0) w ≡ number y → length xs ≡ 2 ^ a → HoldWords g w row.0 (2 ^ a) xs 0
    → HoldWords g3 w r.0 (2 ^ a) (slice_set xs i y) 0
stored g g1 g2 g3 row address x c m r a d one small pa px pr ic rc im rm ir ru w xs i y va vx len hold k b =
    let grows1 = row_grows (tree_in g (Constants a)) (2 ^ a) rc in
    let grows2 = row_grows (tree_in g1 (Matches address c)) (2 ^ a) rm in
    let grows12 = Grows-trans grows1 grows2 in
    let z : 0 + k ≡ k = omega arith in
    let constant : val (tree g1 (c.0 + k)) w ≡ number k = row_val g g1 (tree_in g (Constants a)) (2 ^ a) c.0 k w (number k) rc ic b refl in
    let address1 : val (tree g1 address.0) w ≡ number i = val_kept address.0 w (number i) grows1 pa.below va in
    let test : val (tree g2 (m.0 + k)) w ≡ truth_value (i == k) =
    row_val g1 g2 (tree_in g1 (Matches address c)) (2 ^ a) m.0 k w (truth_value (i == k)) rm im b
    (ap (λ n. truth_value (is_equal n (val (tree g1 (c.0 + k)) w))) address1 ∙ ap (λ n. truth_value (is_equal (number i) n)) constant) in
    let new : val (tree g2 x.0) w ≡ number y = val_kept x.0 w (number y) grows12 px.below vx in
    let old : val (tree g2 (row.0 + k)) w ≡ number (slice_index xs (0 + k)) = val_kept (row.0 + k) w _ grows12 (pr k b).below (hold k b) in
    let chose : val (tree g3 (r.0 + k)) w ≡ cond (i == k) (number y) (number (slice_index xs (0 + k))) =
    row_val g2 g3 (tree_in g2 (Updates m x row)) (2 ^ a) r.0 k w _ ru ir b (chosen w (tree g2 (m.0 + k)) (tree g2 x.0) (tree g2 (row.0 + k)) _ _ _ test new old) in
    let at : cond (i == k) (number y) (number (slice_index xs k)) ≡ number (slice_index (slice_set xs i y) k) = replaced xs i k y (i == k) refl (omega (arith, len, b)) in
    chose ∙ subst (λ j. cond (i == k) (number y) (number (slice_index xs j)) ≡ number (slice_index (slice_set xs i y) j)) (sym z) at
