-- What selects read of names, by the terms of the words and bits that they take.
use Rattle.std.proofs.Common.{◌≡◌, ◌∙◌, ◌≤◌, ℕ, ◌+◌, ◌-◌, refl, sym, ap, subst, Bool, true, false, cond, nat_le, arith, ℤ, pos, ◌+ℤ◌, ◌-ℤ◌}
use Rattle.std.proofs.lemmas.Int.{ints}
use Rattle.wb_values.specs.Value.{Name, word, Valuation}
use Rattle.verilog_trees.specs.Syntax as pure
use Rattle.verilog_trees.specs.Syntax.{index, part, part_up, part_down, whole, one, two}
use Rattle.verilog_meaning.specs.Expression.{Object, Scope, Bits, object_width, is_memory, no_values, place_of_bit, bits_from, bits_taken, bits_upward, bits_downward, integer_from, integer_of, natural_of, width_of, sign_of, value_of, selects_width, selected, indexed_word, select_index, select_bits, whole_value}
use Rattle.wb_terms.specs.Graph.{Graph}
use Rattle.v_value.specs.Evaluation.{count_at, sign_at}
use Rattle.v_operators.specs.Meaning.{Grows, IsOfSort, HasNumber, Makes, Joins}
use Rattle.v_operators.proofs.Growing.{Grows-trans, IsOfSort-kept, number_kept}
use Rattle.v_lower.specs.Lowered.{Images, HasImages, IsLoweredAlone}
use Rattle.v_bits.specs.Moving.{taken_from}
use Rattle.v_lower.specs.Reading.{IsRead, IsWordRead, TakesBits}
use Rattle.v_lower.specs.Walking.{IsBounded}
use Rattle.v_lower.proofs.Lowering.{images_kept, stands_before}

-- ---- bits by an index

-- the bits of an object by the index, and by the base of +: and -:
pub index-bits : (s : Scope) (v : Valuation) (o : Object) (i : pure.Expression) → select_bits s v o (index i) ≡ record { low = place_of_bit o (integer_of s v i) -ℤ pos 0; count = 1 }
index-bits s v o i = λ j. record { low = same (place_of_bit o (integer_of s v i)) j; count = 1 } where
  same : (z : ℤ) → z ≡ z -ℤ pos 0
  same z = omega (arith, ints)

up-low : (t : Bool) (z r : ℤ) (n : ℕ) → 1 ≤ n → cond t (cond t (z -ℤ r) (r -ℤ z)) (cond t (z +ℤ (pos n -ℤ pos 1) -ℤ r) (r -ℤ (z +ℤ (pos n -ℤ pos 1)))) ≡ cond t (z -ℤ r) (r -ℤ z) -ℤ pos (cond t 0 (n - 1))
up-low true z r n h = omega (arith, ints)
up-low false z r n h = omega (arith, ints, h)

down-low : (t : Bool) (z r : ℤ) (n : ℕ) → 1 ≤ n → cond t (cond t (z -ℤ (pos n -ℤ pos 1) -ℤ r) (r -ℤ (z -ℤ (pos n -ℤ pos 1)))) (cond t (z -ℤ r) (r -ℤ z)) ≡ cond t (z -ℤ r) (r -ℤ z) -ℤ pos (cond t (n - 1) 0)
down-low true z r n h = omega (arith, ints, h)
down-low false z r n h = omega (arith, ints)

upward-bits : (o : Object) (z : ℤ) (n b : ℕ) → 1 ≤ n → b ≡ cond (nat_le o.right o.left) 0 (n - 1) → bits_upward o z n ≡ record { low = place_of_bit o z -ℤ pos b; count = n }
upward-bits o z n b h e = λ j. record { low = (up-low (nat_le o.right o.left) z (pos o.right) n h ∙ ap (λ k. place_of_bit o z -ℤ pos k) (sym e)) j; count = n }

downward-bits : (o : Object) (z : ℤ) (n b : ℕ) → 1 ≤ n → b ≡ cond (nat_le o.right o.left) (n - 1) 0 → bits_downward o z n ≡ record { low = place_of_bit o z -ℤ pos b; count = n }
downward-bits o z n b h e = λ j. record { low = (down-low (nat_le o.right o.left) z (pos o.right) n h ∙ ap (λ k. place_of_bit o z -ℤ pos k) (sym e)) j; count = n }

pub up-bits : (s : Scope) (v : Valuation) (o : Object) (e k : pure.Expression) (n b : ℕ) → n ≡ count_at s k → 1 ≤ n → b ≡ cond (nat_le o.right o.left) 0 (n - 1) → select_bits s v o (part_up e k) ≡ record { low = place_of_bit o (integer_of s v e) -ℤ pos b; count = n }
unfolding count_at
up-bits s v o e k n b is_n h is_b = ap (bits_upward o (integer_of s v e)) (sym is_n) ∙ upward-bits o (integer_of s v e) n b h is_b

pub down-bits : (s : Scope) (v : Valuation) (o : Object) (e k : pure.Expression) (n b : ℕ) → n ≡ count_at s k → 1 ≤ n → b ≡ cond (nat_le o.right o.left) (n - 1) 0 → select_bits s v o (part_down e k) ≡ record { low = place_of_bit o (integer_of s v e) -ℤ pos b; count = n }
unfolding count_at
down-bits s v o e k n b is_n h is_b = ap (bits_downward o (integer_of s v e)) (sym is_n) ∙ downward-bits o (integer_of s v e) n b h is_b

module _ (s : Scope) (im : Images) (g h k : Graph) (o : Object) (x : pure.Select) (e : pure.Expression) (a w base u id n b : ℕ) (t : Bool) where
  pub takes_by : HasImages s im g → Grows g h → Grows h k → IsOfSort g a (word w) → IsLoweredAlone s im h e u base → t ≡ sign_at s e
      → Joins h k a w base u id n (λ y i. taken_from o b n (integer_from t u i) y)
      → ((v : Valuation) → select_bits s v o x ≡ record { low = place_of_bit o (integer_of s v e) -ℤ pos b; count = n })
      → TakesBits s im g k o x a w n id
  unfolding sign_at
  takes_by known gh hk q l is_t j bits =
      record {
        count = sym (ap (λ z. z.count) (bits no_values));
        of_sort = j.of_sort;
        value = λ p v y st is_y.
            let known_h : HasImages s im h = images_kept s im g h gh known in
            let i : ℕ = value_of s v e u (sign_of s e) in
            let at_base : HasNumber h base u p i = l.lowered.value p v (stands_before s im h k p v hk known_h st) in
            let got : HasNumber k id n p (taken_from o b n (integer_from t u i) y) = j.value p y i (number_kept a w p y gh q.below is_y) at_base in
            let number_is : integer_from t u i ≡ integer_of s v e = ap (λ z. integer_from z u i) is_t ∙ ap (λ z. integer_from (sign_of s e) z (value_of s v e z (sign_of s e))) l.width in
            subst (λ z. HasNumber k id n p z) (ap (λ z. bits_from (place_of_bit o z -ℤ pos b) n y) number_is ∙ sym (ap (bits_taken y) (bits v))) got;
      }

-- between two bounds, which are constants
pub takes_between : (s : Scope) (im : Images) (g h : Graph) (o : Object) (x : pure.Select) (a w id : ℕ) (b : Bits) → IsBounded x → b ≡ select_bits s no_values o x → Makes g h a w id b.count (λ y. bits_taken y b) → TakesBits s im g h o x a w b.count id
takes_between s im g h o (part k l) a w id b i e m =
    record {
      count = ap (λ z. z.count) e;
      of_sort = m.of_sort;
      value = λ p v y st is_y. subst (λ z. HasNumber h id b.count p (bits_taken y z)) e (m.value p y is_y);
    }
takes_between s im g h o (index j) a w id b i e m = absurd i
takes_between s im g h o (part_up k l) a w id b i e m = absurd i
takes_between s im g h o (part_down k l) a w id b i e m = absurd i

-- ---- what a name with selects reads

pub word_is_read : (s : Scope) (im : Images) (g : Graph) (n : Name) (x : pure.Select) (w id : ℕ) → is_memory (s n) ≡ true → IsWordRead s im g n x w id → IsRead s im g n (one x) w id
word_is_read s im g n x w id m r =
    record {
      width = r.width ∙ sym (ap (λ t. cond t (object_width (s n)) (select_bits s no_values (s n) x).count) m);
      of_sort = r.of_sort;
      value = λ p v st. subst (λ t. HasNumber g id w p (cond t (indexed_word (s n) (select_index s v x) (v n)) (bits_taken (whole_value (s n) (v n)) (select_bits s v (s n) x)))) (sym m) (r.value p v st);
    }

module _ (s : Scope) (im : Images) (g h : Graph) (n : Name) (known : HasImages s im g) (grows : Grows g h) where
  pub bits_are_read : (x : pure.Select) (w a k id : ℕ) → is_memory (s n) ≡ false → IsRead s im g n whole w a → TakesBits s im g h (s n) x a w k id → IsRead s im h n (one x) k id
  bits_are_read x w a k id m r t =
      record {
        width = t.count ∙ sym (ap (λ b. cond b (object_width (s n)) (select_bits s no_values (s n) x).count) m);
        of_sort = t.of_sort;
        value = λ p v st.
            subst (λ b. HasNumber h id k p (cond b (indexed_word (s n) (select_index s v x) (v n)) (bits_taken (whole_value (s n) (v n)) (select_bits s v (s n) x)))) (sym m)
            (t.value p v (whole_value (s n) (v n)) st (r.value p v (stands_before s im g h p v grows known st)));
      }

  pub word_bits_are_read : (x y : pure.Select) (w a k id : ℕ) → IsWordRead s im g n x w a → TakesBits s im g h (s n) y a w k id → IsRead s im h n (two x y) k id
  word_bits_are_read x y w a k id r t =
      record {
        width = t.count;
        of_sort = t.of_sort;
        value = λ p v st. t.value p v (indexed_word (s n) (select_index s v x) (v n)) st (r.value p v (stands_before s im g h p v grows known st));
      }
