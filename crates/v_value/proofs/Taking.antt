-- What selects take, over what the calls returned.
use Rattle.std.proofs.Common.{◌≡◌, ◌≤◌, ℕ, ◌∙◌, ap, sym, subst, Bool, ℤ, negsuc}
use Rattle.wb_values.specs.Value.{Valuation}
use Rattle.verilog_trees.specs.Syntax as pure
use Rattle.verilog_meaning.specs.Expression as meaning
use Rattle.verilog_meaning.specs.Expression.{Object, Scope, Bits, no_values}
use Rattle.std.specs.declared.boxed.Box.{Box}
use Rattle.std.specs.declared.alloc.Global.{Global}
use Rattle.v_syntax.specs.declared.tree.Expression.{Expression}
use Rattle.v_syntax.specs.declared.tree.Select.{Select, Index, Part, PartUp, PartDown}
use Rattle.v_syntax.specs.Tree.{tree_of, select_of}
use Rattle.v_value.specs.Index.{count_between}
use Rattle.v_value.specs.Evaluation.{width_at, sign_at, self_at, count_at, integer_self_at, bound_at, index_at, bits_at, taken_at}

pub integer-value : (s : Scope) (v : Valuation) (e : pure.Expression) (t : Bool) (u y : ℕ) → t ≡ sign_at s e → u ≡ width_at s e → y ≡ self_at s v e → (r : ℤ) → r ≡ meaning.integer_from t u y → r ≡ integer_self_at s v e
unfolding integer_self_at sign_at width_at self_at
integer-value s v e t u y is_t is_u is_y r g =
    g ∙ ap (λ b. meaning.integer_from b u y) is_t ∙ ap (λ m. meaning.integer_from (meaning.sign_of s e) m y) is_u
    ∙ ap (λ z. meaning.integer_from (meaning.sign_of s e) (meaning.width_of s e) z) is_y

pub bound-value : (s : Scope) (e : pure.Expression) (r : ℤ) → r ≡ integer_self_at s no_values e → r ≡ bound_at s e
unfolding integer_self_at bound_at
bound-value s e r g = g

-- y is the select, e and f what stands in it as calls were given it
module _ (s : Scope) (y : Select) where
  module _ (a : Box Expression Global) (i : y ≡ Index a) where
    pub index-value : (v : Valuation) (e : Expression) → e ≡ a.value → (k : ℤ) → k ≡ integer_self_at s v (tree_of e) → k ≡ index_at s v (select_of y)
    unfolding integer_self_at index_at
    index-value v e j k is_k = is_k ∙ ap (λ z. integer_self_at s v (tree_of z)) j ∙ sym (ap (λ z. index_at s v (select_of z)) i)

    pub index-count : 1 ≡ taken_at s (select_of y)
    unfolding taken_at
    index-count = sym (ap (λ z. taken_at s (select_of z)) i)

    pub index-bits : (v : Valuation) (o : Object) (e : Expression) → e ≡ a.value → (k : ℤ) → k ≡ integer_self_at s v (tree_of e) → (n : ℕ) → n ≡ taken_at s (select_of y) →
        (r : Bits) → r ≡ record { low = meaning.place_of_bit o k; count = n } → r ≡ bits_at s v o (select_of y)
    unfolding integer_self_at bits_at taken_at
    index-bits v o e j k is_k n is_n r g =
        g ∙ (λ t. record { low = meaning.place_of_bit o ((is_k ∙ ap (λ z. integer_self_at s v (tree_of z)) j) t); count = (is_n ∙ ap (λ z. taken_at s (select_of z)) i) t })
        ∙ sym (ap (λ z. bits_at s v o (select_of z)) i)

  module _ (a b : Box Expression Global) (i : y ≡ Part a b) where
    pub no_index-Part : (v : Valuation) (k : ℤ) → k ≡ negsuc 0 → k ≡ index_at s v (select_of y)
    unfolding index_at
    no_index-Part v k is_k = is_k ∙ sym (ap (λ z. index_at s v (select_of z)) i)

    pub part-between : (e f : Expression) → e ≡ a.value → f ≡ b.value → (k l : ℤ) → k ≡ bound_at s (tree_of e) → l ≡ bound_at s (tree_of f) → count_between k l ≡ taken_at s (select_of y)
    unfolding bound_at taken_at
    part-between e f j j2 k l is_k is_l =
        ap (λ z. count_between z l) (is_k ∙ ap (λ z. bound_at s (tree_of z)) j)
        ∙ ap (λ z. count_between (bound_at s (tree_of a.value)) z) (is_l ∙ ap (λ z. bound_at s (tree_of z)) j2)
        ∙ sym (ap (λ z. taken_at s (select_of z)) i)

    pub part-most : (e f : Expression) → e ≡ a.value → f ≡ b.value → (k l : ℤ) → k ≡ bound_at s (tree_of e) → l ≡ bound_at s (tree_of f) → taken_at s (select_of y) ≤ 128 → count_between k l ≤ 128
    part-most e f j j2 k l is_k is_l m = subst (λ n. n ≤ 128) (sym (part-between e f j j2 k l is_k is_l)) m

    pub part-count : (e f : Expression) → e ≡ a.value → f ≡ b.value → (k l : ℤ) → k ≡ bound_at s (tree_of e) → l ≡ bound_at s (tree_of f) → (r : ℕ) → r ≡ count_between k l → r ≡ taken_at s (select_of y)
    part-count e f j j2 k l is_k is_l r g = g ∙ part-between e f j j2 k l is_k is_l

    pub part-bits : (v : Valuation) (o : Object) (f : Expression) → f ≡ b.value → (l : ℤ) → l ≡ bound_at s (tree_of f) → (n : ℕ) → n ≡ taken_at s (select_of y) →
        (r : Bits) → r ≡ record { low = meaning.place_of_bit o l; count = n } → r ≡ bits_at s v o (select_of y)
    unfolding bound_at bits_at taken_at
    part-bits v o f j l is_l n is_n r g =
        g ∙ (λ t. record { low = meaning.place_of_bit o ((is_l ∙ ap (λ z. bound_at s (tree_of z)) j) t); count = (is_n ∙ ap (λ z. taken_at s (select_of z)) i) t })
        ∙ sym (ap (λ z. bits_at s v o (select_of z)) i)

  module _ (a b : Box Expression Global) (i : y ≡ PartUp a b) where
    pub no_index-PartUp : (v : Valuation) (k : ℤ) → k ≡ negsuc 0 → k ≡ index_at s v (select_of y)
    unfolding index_at
    no_index-PartUp v k is_k = is_k ∙ sym (ap (λ z. index_at s v (select_of z)) i)

    pub up-count : (f : Expression) → f ≡ b.value → (n : ℕ) → n ≡ count_at s (tree_of f) → n ≡ taken_at s (select_of y)
    unfolding count_at taken_at
    up-count f j n is_n = is_n ∙ ap (λ z. count_at s (tree_of z)) j ∙ sym (ap (λ z. taken_at s (select_of z)) i)

    pub up-bits : (v : Valuation) (o : Object) (e : Expression) → e ≡ a.value → (k : ℤ) → k ≡ integer_self_at s v (tree_of e) → (n : ℕ) → n ≡ taken_at s (select_of y) →
        (r : Bits) → r ≡ meaning.bits_upward o k n → r ≡ bits_at s v o (select_of y)
    unfolding integer_self_at bits_at taken_at
    up-bits v o e j k is_k n is_n r g =
        g ∙ ap (λ z. meaning.bits_upward o z n) (is_k ∙ ap (λ z. integer_self_at s v (tree_of z)) j)
        ∙ ap (meaning.bits_upward o (meaning.integer_of s v (tree_of a.value))) (is_n ∙ ap (λ z. taken_at s (select_of z)) i)
        ∙ sym (ap (λ z. bits_at s v o (select_of z)) i)

  module _ (a b : Box Expression Global) (i : y ≡ PartDown a b) where
    pub no_index-PartDown : (v : Valuation) (k : ℤ) → k ≡ negsuc 0 → k ≡ index_at s v (select_of y)
    unfolding index_at
    no_index-PartDown v k is_k = is_k ∙ sym (ap (λ z. index_at s v (select_of z)) i)

    pub down-count : (f : Expression) → f ≡ b.value → (n : ℕ) → n ≡ count_at s (tree_of f) → n ≡ taken_at s (select_of y)
    unfolding count_at taken_at
    down-count f j n is_n = is_n ∙ ap (λ z. count_at s (tree_of z)) j ∙ sym (ap (λ z. taken_at s (select_of z)) i)

    pub down-bits : (v : Valuation) (o : Object) (e : Expression) → e ≡ a.value → (k : ℤ) → k ≡ integer_self_at s v (tree_of e) → (n : ℕ) → n ≡ taken_at s (select_of y) →
        (r : Bits) → r ≡ meaning.bits_downward o k n → r ≡ bits_at s v o (select_of y)
    unfolding integer_self_at bits_at taken_at
    down-bits v o e j k is_k n is_n r g =
        g ∙ ap (λ z. meaning.bits_downward o z n) (is_k ∙ ap (λ z. integer_self_at s v (tree_of z)) j)
        ∙ ap (meaning.bits_downward o (meaning.integer_of s v (tree_of a.value))) (is_n ∙ ap (λ z. taken_at s (select_of z)) i)
        ∙ sym (ap (λ z. bits_at s v o (select_of z)) i)
