-- The expression of each form of node computes the node's tree.
use Rattle.std.proofs.Common.{◌≡◌, ℕ, false, List, [], ◌∷◌, Some, refl, sym}
use Rattle.std.specs.Prelude.{⊤, slice_index}
use Rattle.std.proofs.lemmas.Bool.{false≢true}
use Rattle.wb_values.specs.Value.{word, memory, as_words, Valuation}
use Rattle.wb_values.specs.Number.{word_neg, word_add, word_sub, word_mul, word_shl, word_lshr, word_ashr, word_ult, word_ule, word_slt, word_sle}
use Rattle.model_meaning.specs.Term.{sort_of, val}
use Rattle.verilog_trees.specs.Syntax.{unary, minus, binary, add, subtract, multiply, shift, left, right, comparison, less, less_or_equal}
use Rattle.verilog_meaning.specs.Expression.{Scope}
use Rattle.verilog_meaning.specs.Settled.{whole_name}
use Rattle.term_expressions.specs.Expressions.{IsWorth, arithmetic_shift, signed_comparison}
use Rattle.term_expressions.proofs.Forms.{minus_is_neg, sum_is_add, difference_is_sub, product_is_mul}
use Rattle.term_expressions.proofs.Shifts.{shift_left_is_shl, shift_right_is_lshr, arithmetic_shift_is_ashr}
use Rattle.term_expressions.proofs.Tests.{less_is_ult, less_or_equal_is_ule, signed_less_is_slt, signed_less_or_equal_is_sle}
use Rattle.wb_terms.specs.declared.nodes.TermId.{TermId}
use Rattle.wb_terms.specs.declared.nodes.Node.{Node}
use Rattle.wb_terms.specs.declared.nodes.Node.TheVariants.{Name as Named, Truth, Const, Not, And, Or, Xor, Neg, Add, Sub, Mul, Shl, Lshr, Ashr, Eq, Ult, Ule, Slt, Sle, Concat, Extract, Zext, Sext, Ite, Load, Store}
use Rattle.wb_terms.specs.Graph.{Graph, tree, tree_of_node, operands_of}
use Rattle.emitted_modules.specs.Nodes.{operand, bits_of_operand, word_of, expression_of, is_leaf, wire_name_of}
use Rattle.emitted_modules.proofs.Computed.{Worth, of_word, of_words, of_test, of_complement, of_and, of_or, of_xor, of_eq}
use Rattle.emitted_modules.proofs.Joined.{Given, given_of, SlicedBy, of_concat, of_extract, of_zext, of_sext, of_ite, of_store}
use Rattle.emitted_modules.proofs.WordReads.{of_load}

module _ (s : Scope) (v : Valuation) (g : Graph) (point : Valuation) where
  -- The operand for a term is worth the term's value, and so are its bits.
  abbrev pub IsDone : ℕ → Type 0
  IsDone j =
      Worth s v (operand g j) (sort_of (tree g j)) (val (tree g j) point)
      × SlicedBy s v (bits_of_operand g j) (sort_of (tree g j)) (val (tree g j) point)

  abbrev pub AreDone : List ℕ → Type 0
  AreDone [] = ⊤
  AreDone (j ∷ js) = IsDone j × AreDone js

  abbrev Made : ℕ → Node → Type 0
  Made k n = Given s v (expression_of g k n) (sort_of (tree_of_node g n)) (val (tree_of_node g n) point)

  -- where a node is a load, its word is the memory's at the address
  abbrev pub IsLoaded : ℕ → Node → Type 0
  IsLoaded k n =
      (m i : TermId) → n ≡ Load m i → (a d x : ℕ) → sort_of (tree g m.0) ≡ Some (memory a d) → sort_of (tree g i.0) ≡ Some (word a)
      → IsWorth s v (operand g i.0) a x → IsWorth s v (word_of g k (operand g i.0) m.0) d (slice_index (as_words (val (tree g m.0) point)) x)

  pub formed : (k : ℕ) (n : Node) → is_leaf n ≡ false → IsLoaded k n → AreDone (operands_of n) → Made k n
  formed k (Named i) h r d = absurd (false≢true (sym h))
  formed k (Truth b) h r d = absurd (false≢true (sym h))
  formed k (Const w x) h r d = absurd (false≢true (sym h))
  formed k (Not x) h r d = given_of s v _ _ _ (of_complement s v (operand g x.0) (sort_of (tree g x.0)) (val (tree g x.0) point) d.0.0)
  formed k (Neg x) h r d = given_of s v _ _ _ (of_word s v (unary minus) word_neg minus_is_neg (operand g x.0) (sort_of (tree g x.0)) (val (tree g x.0) point) d.0.0)
  formed k (And x y) h r d = given_of s v _ _ _ (of_and s v (operand g x.0) (operand g y.0) (sort_of (tree g x.0)) (sort_of (tree g y.0)) (val (tree g x.0) point) (val (tree g y.0) point) d.0.0 d.1.0.0)
  formed k (Or x y) h r d = given_of s v _ _ _ (of_or s v (operand g x.0) (operand g y.0) (sort_of (tree g x.0)) (sort_of (tree g y.0)) (val (tree g x.0) point) (val (tree g y.0) point) d.0.0 d.1.0.0)
  formed k (Xor x y) h r d = given_of s v _ _ _ (of_xor s v (operand g x.0) (operand g y.0) (sort_of (tree g x.0)) (sort_of (tree g y.0)) (val (tree g x.0) point) (val (tree g y.0) point) d.0.0 d.1.0.0)
  formed k (Add x y) h r d = given_of s v _ _ _ (of_words s v (binary add) word_add sum_is_add (operand g x.0) (operand g y.0) (sort_of (tree g x.0)) (sort_of (tree g y.0)) (val (tree g x.0) point) (val (tree g y.0) point) d.0.0 d.1.0.0)
  formed k (Sub x y) h r d = given_of s v _ _ _ (of_words s v (binary subtract) word_sub difference_is_sub (operand g x.0) (operand g y.0) (sort_of (tree g x.0)) (sort_of (tree g y.0)) (val (tree g x.0) point) (val (tree g y.0) point) d.0.0 d.1.0.0)
  formed k (Mul x y) h r d = given_of s v _ _ _ (of_words s v (binary multiply) word_mul product_is_mul (operand g x.0) (operand g y.0) (sort_of (tree g x.0)) (sort_of (tree g y.0)) (val (tree g x.0) point) (val (tree g y.0) point) d.0.0 d.1.0.0)
  formed k (Shl x y) h r d = given_of s v _ _ _ (of_words s v (shift left) word_shl shift_left_is_shl (operand g x.0) (operand g y.0) (sort_of (tree g x.0)) (sort_of (tree g y.0)) (val (tree g x.0) point) (val (tree g y.0) point) d.0.0 d.1.0.0)
  formed k (Lshr x y) h r d = given_of s v _ _ _ (of_words s v (shift right) word_lshr shift_right_is_lshr (operand g x.0) (operand g y.0) (sort_of (tree g x.0)) (sort_of (tree g y.0)) (val (tree g x.0) point) (val (tree g y.0) point) d.0.0 d.1.0.0)
  formed k (Ashr x y) h r d = given_of s v _ _ _ (of_words s v arithmetic_shift word_ashr arithmetic_shift_is_ashr (operand g x.0) (operand g y.0) (sort_of (tree g x.0)) (sort_of (tree g y.0)) (val (tree g x.0) point) (val (tree g y.0) point) d.0.0 d.1.0.0)
  formed k (Eq x y) h r d = given_of s v _ _ _ (of_eq s v (operand g x.0) (operand g y.0) (sort_of (tree g x.0)) (sort_of (tree g y.0)) (val (tree g x.0) point) (val (tree g y.0) point) d.0.0 d.1.0.0)
  formed k (Ult x y) h r d = given_of s v _ _ _ (of_test s v (comparison less) (λ w a b. word_ult a b) less_is_ult (operand g x.0) (operand g y.0) (sort_of (tree g x.0)) (sort_of (tree g y.0)) (val (tree g x.0) point) (val (tree g y.0) point) d.0.0 d.1.0.0)
  formed k (Ule x y) h r d = given_of s v _ _ _ (of_test s v (comparison less_or_equal) (λ w a b. word_ule a b) less_or_equal_is_ule (operand g x.0) (operand g y.0) (sort_of (tree g x.0)) (sort_of (tree g y.0)) (val (tree g x.0) point) (val (tree g y.0) point) d.0.0 d.1.0.0)
  formed k (Slt x y) h r d = given_of s v _ _ _ (of_test s v (signed_comparison less) word_slt signed_less_is_slt (operand g x.0) (operand g y.0) (sort_of (tree g x.0)) (sort_of (tree g y.0)) (val (tree g x.0) point) (val (tree g y.0) point) d.0.0 d.1.0.0)
  formed k (Sle x y) h r d = given_of s v _ _ _ (of_test s v (signed_comparison less_or_equal) word_sle signed_less_or_equal_is_sle (operand g x.0) (operand g y.0) (sort_of (tree g x.0)) (sort_of (tree g y.0)) (val (tree g x.0) point) (val (tree g y.0) point) d.0.0 d.1.0.0)
  formed k (Concat x y) h r d = given_of s v _ _ _ (of_concat s v (operand g x.0) (operand g y.0) (sort_of (tree g x.0)) (sort_of (tree g y.0)) (val (tree g x.0) point) (val (tree g y.0) point) d.0.0 d.1.0.0)
  formed k (Extract i l x) h r d = given_of s v _ _ _ (of_extract s v (bits_of_operand g x.0) i l (sort_of (tree g x.0)) (val (tree g x.0) point) d.0.1)
  formed k (Zext n x) h r d = given_of s v _ _ _ (of_zext s v n (operand g x.0) (sort_of (tree g x.0)) (val (tree g x.0) point) d.0.0)
  formed k (Sext n x) h r d = of_sext s v n (operand g x.0) (sort_of (tree g x.0)) (val (tree g x.0) point) d.0.0
  formed k (Ite c x y) h r d = given_of s v _ _ _ (of_ite s v (operand g c.0) (operand g x.0) (operand g y.0) (sort_of (tree g c.0)) (sort_of (tree g x.0)) (sort_of (tree g y.0)) (val (tree g c.0) point) (val (tree g x.0) point) (val (tree g y.0) point) d.0.0 d.1.0.0 d.1.1.0.0)
  formed k (Load m i) h r d =
      given_of s v _ _ _
      (of_load s v (operand g i.0) (word_of g k (operand g i.0) m.0) (sort_of (tree g m.0)) (sort_of (tree g i.0)) (val (tree g m.0) point)
      (val (tree g i.0) point) d.1.0.0 (r m i refl))
  formed k (Store m i x) h r d =
      given_of s v _ _ _
      (of_store s v (operand g m.0) (operand g i.0) (operand g x.0) (whole_name (wire_name_of k)) (sort_of (tree g m.0)) (sort_of (tree g i.0))
      (sort_of (tree g x.0)) (val (tree g m.0) point) (val (tree g i.0) point) (val (tree g x.0) point) d.0.0 d.1.0.0 d.1.1.0.0)
