-- What names with selects read, over what the calls returned.
use Rattle.std.proofs.Common.{◌≡◌, ◌≤◌, ℕ, ◌∙◌, refl, ap, sym, subst, true, false, cond, ℤ}
use Rattle.wb_values.specs.Value.{Name, Valuation}
use Rattle.verilog_trees.specs.Syntax as pure
use Rattle.verilog_trees.specs.Syntax.{index, part, part_up, part_down, one, two}
use Rattle.verilog_meaning.specs.Expression as meaning
use Rattle.verilog_meaning.specs.Expression.{Object, Scope, Bits, is_memory, object_width, no_values}
use Rattle.v_syntax.specs.declared.tree.Select.{Select}
use Rattle.v_syntax.specs.declared.tree.Selects.{Selects, Whole, One, Two}
use Rattle.v_syntax.specs.Tree.{select_of, selects_of}
use Rattle.v_value.specs.Narrow.{IsWidth, IsSelectNarrow, AreSelectsNarrow}
use Rattle.v_value.specs.Evaluation.{named_width, named_value, selects_width_at, selected_at, index_at, bits_at, taken_at}

-- How many bits a select takes is the same of each object, and by all values.
pub count-is : (s : Scope) (v : Valuation) (o : Object) (x : pure.Select) → (meaning.select_bits s v o x).count ≡ taken_at s x
unfolding taken_at
count-is s v o (index i) = refl
count-is s v o (part h l) = refl
count-is s v o (part_up b n) = refl
count-is s v o (part_down b n) = refl

pub count-taken : (s : Scope) (v : Valuation) (o : Object) (x : pure.Select) (b : Bits) → b ≡ bits_at s v o x → b.count ≡ taken_at s x
unfolding bits_at
count-taken s v o x b is_b = ap (λ (z : Bits). z.count) is_b ∙ count-is s v o x

pub taken-width : (s : Scope) (v : Valuation) (o : Object) (x : pure.Select) (b : Bits) → b ≡ bits_at s v o x → IsWidth (taken_at s x) → IsWidth b.count
taken-width s v o x b is_b w = subst IsWidth (sym (count-taken s v o x b is_b)) w

-- the widths of one select and of two
pub one-word : (s : Scope) (o : Object) (x : pure.Select) → is_memory o ≡ true → meaning.selects_width s o (one x) ≡ object_width o
one-word s o x m = ap (λ b. cond b (object_width o) (meaning.select_bits s no_values o x).count) m

pub one-taken : (s : Scope) (o : Object) (x : pure.Select) → is_memory o ≡ false → meaning.selects_width s o (one x) ≡ taken_at s x
one-taken s o x m = ap (λ b. cond b (object_width o) (meaning.select_bits s no_values o x).count) m ∙ count-is s no_values o x

pub two-taken : (s : Scope) (o : Object) (a x : pure.Select) → meaning.selects_width s o (two a x) ≡ taken_at s x
two-taken s o a x = count-is s no_values o x

-- the same as a program returned them
module _ (s : Scope) (o : Object) (x : Selects) (h : AreSelectsNarrow s (selects_of x)) (m : meaning.selects_width s o (selects_of x) ≤ 128) where
  module _ (y : Select) (i : x ≡ One y) where
    pub at_one-narrow : IsSelectNarrow s (select_of y)
    at_one-narrow = subst (λ z. AreSelectsNarrow s (selects_of z)) i h

    at_one : is_memory o ≡ false → meaning.selects_width s o (selects_of x) ≡ taken_at s (select_of y)
    at_one q = ap (λ z. meaning.selects_width s o (selects_of z)) i ∙ one-taken s o (select_of y) q

    pub at_one-most : is_memory o ≡ false → taken_at s (select_of y) ≤ 128
    at_one-most q = subst (λ k. k ≤ 128) (at_one q) m

    pub at_one-width : is_memory o ≡ false → (r : ℕ) → r ≡ taken_at s (select_of y) → r ≡ meaning.selects_width s o (selects_of x)
    at_one-width q r g = g ∙ sym (at_one q)

  module _ (z y : Select) (i : x ≡ Two z y) where
    pub at_two-narrow : IsSelectNarrow s (select_of y)
    at_two-narrow = (subst (λ a. AreSelectsNarrow s (selects_of a)) i h).1

    at_two : meaning.selects_width s o (selects_of x) ≡ taken_at s (select_of y)
    at_two = ap (λ a. meaning.selects_width s o (selects_of a)) i ∙ two-taken s o (select_of z) (select_of y)

    pub at_two-most : taken_at s (select_of y) ≤ 128
    at_two-most = subst (λ k. k ≤ 128) at_two m

    pub at_two-width : (r : ℕ) → r ≡ taken_at s (select_of y) → r ≡ meaning.selects_width s o (selects_of x)
    at_two-width r g = g ∙ sym at_two

-- what a name with selects reads
module _ (s : Scope) (v : Valuation) (n : Name) (x : Selects) (h : AreSelectsNarrow s (selects_of x)) (w : IsWidth (selects_width_at s n (selects_of x))) where
  pub whole-width : x ≡ Whole → (r : ℕ) → r ≡ named_width s n → r ≡ selects_width_at s n (selects_of x)
  unfolding selects_width_at
  whole-width i r g = g ∙ sym (ap (λ y. selects_width_at s n (selects_of y)) i)

  pub whole-value : x ≡ Whole → (r : ℕ) → r ≡ named_value s v n → r ≡ selected_at s v n (selects_of x)
  unfolding selected_at
  whole-value i r g = g ∙ sym (ap (λ y. selected_at s v n (selects_of y)) i)

  -- one select, of an object o
  module _ (y : Select) (i : x ≡ One y) (o : Object) (is_o : o ≡ s n) where
    pub one-narrow : IsSelectNarrow s (select_of y)
    one-narrow = subst (λ z. AreSelectsNarrow s (selects_of z)) i h

    -- of a memory
    pub word-width : is_memory o ≡ true → (r : ℕ) → r ≡ named_width s n → r ≡ selects_width_at s n (selects_of x)
    unfolding selects_width_at
    word-width m r g =
        g ∙ sym (ap (λ z. selects_width_at s n (selects_of z)) i ∙ one-word s (s n) (select_of y) (sym (ap is_memory is_o) ∙ m))

    pub word-value : is_memory o ≡ true → (k : ℤ) → k ≡ index_at s v (select_of y) → (r : ℕ) → r ≡ meaning.indexed_word (s n) k (v n) → r ≡ selected_at s v n (selects_of x)
    unfolding selected_at index_at
    word-value m k is_k r g =
        g ∙ ap (λ z. meaning.indexed_word (s n) z (v n)) is_k
        ∙ sym (ap (λ z. selected_at s v n (selects_of z)) i
        ∙ ap (λ b. cond b (meaning.indexed_word (s n) (meaning.select_index s v (select_of y)) (v n)) (meaning.bits_taken (meaning.whole_value (s n) (v n)) (meaning.select_bits s v (s n) (select_of y)))) (sym (ap is_memory is_o) ∙ m))

    -- of bits
    pub one-width : is_memory o ≡ false → IsWidth (taken_at s (select_of y))
    unfolding selects_width_at
    one-width m =
        subst IsWidth (ap (λ z. selects_width_at s n (selects_of z)) i ∙ one-taken s (s n) (select_of y) (sym (ap is_memory is_o) ∙ m)) w

    pub part-width : is_memory o ≡ false → (b : Bits) → b ≡ bits_at s v o (select_of y) → (r : ℕ) → r ≡ b.count → r ≡ selects_width_at s n (selects_of x)
    unfolding selects_width_at
    part-width m b is_b r g =
        g ∙ count-taken s v o (select_of y) b is_b
        ∙ sym (ap (λ z. selects_width_at s n (selects_of z)) i ∙ one-taken s (s n) (select_of y) (sym (ap is_memory is_o) ∙ m))

    pub part-value : is_memory o ≡ false → (b : Bits) → b ≡ bits_at s v o (select_of y) → (a : ℕ) → a ≡ named_value s v n → (r : ℕ) → r ≡ meaning.bits_taken a b → r ≡ selected_at s v n (selects_of x)
    unfolding selected_at bits_at
    part-value m b is_b a is_a r g =
        g ∙ ap (λ z. meaning.bits_taken z b) is_a ∙ ap (meaning.bits_taken (meaning.whole_value (s n) (v n))) (is_b ∙ ap (λ z. meaning.select_bits s v z (select_of y)) is_o)
        ∙ sym (ap (λ z. selected_at s v n (selects_of z)) i
        ∙ ap (λ b. cond b (meaning.indexed_word (s n) (meaning.select_index s v (select_of y)) (v n)) (meaning.bits_taken (meaning.whole_value (s n) (v n)) (meaning.select_bits s v (s n) (select_of y)))) (sym (ap is_memory is_o) ∙ m))

  -- bits of a word of a memory
  module _ (z y : Select) (i : x ≡ Two z y) where
    pub address-narrow : IsSelectNarrow s (select_of z)
    address-narrow = (subst (λ a. AreSelectsNarrow s (selects_of a)) i h).0

    pub two-narrow : IsSelectNarrow s (select_of y)
    two-narrow = (subst (λ a. AreSelectsNarrow s (selects_of a)) i h).1

    pub two-width : IsWidth (taken_at s (select_of y))
    unfolding selects_width_at
    two-width = subst IsWidth (ap (λ a. selects_width_at s n (selects_of a)) i ∙ two-taken s (s n) (select_of z) (select_of y)) w

    module _ (o : Object) (is_o : o ≡ s n) (b : Bits) (is_b : b ≡ bits_at s v o (select_of y)) where
      pub both-width : (r : ℕ) → r ≡ b.count → r ≡ selects_width_at s n (selects_of x)
      unfolding selects_width_at
      both-width r g =
          g ∙ count-taken s v o (select_of y) b is_b ∙ sym (ap (λ a. selects_width_at s n (selects_of a)) i ∙ two-taken s (s n) (select_of z) (select_of y))

      pub both-value : (k : ℤ) → k ≡ index_at s v (select_of z) → (a : ℕ) → a ≡ meaning.indexed_word (s n) k (v n) → (r : ℕ) → r ≡ meaning.bits_taken a b → r ≡ selected_at s v n (selects_of x)
      unfolding selected_at index_at bits_at
      both-value k is_k a is_a r g =
          g ∙ ap (λ c. meaning.bits_taken c b) (is_a ∙ ap (λ c. meaning.indexed_word (s n) c (v n)) is_k)
          ∙ ap (meaning.bits_taken (meaning.indexed_word (s n) (meaning.select_index s v (select_of z)) (v n))) (is_b ∙ ap (λ c. meaning.select_bits s v c (select_of y)) is_o)
          ∙ sym (ap (λ a. selected_at s v n (selects_of a)) i)
