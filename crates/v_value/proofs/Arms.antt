-- What each form of an expression asks of its parts, and its value by theirs: e is the expression, x the operand
-- and ls the chain as calls were given them, and r what was returned.
use Rattle.std.proofs.Common.{◌≡◌, ◌≤◌, ◌<◌, ℕ, ◌*◌, ◌^◌, ◌∙◌, refl, ap, sym, subst, Bool, true, false, cond, max, List, [], ◌∷◌, Some, None, unwrap_or, arith}
use Rattle.std.specs.Borrow.{Bor}
use Rattle.std.specs.declared.boxed.Box.{Box}
use Rattle.std.specs.declared.vec.Vec.{Vec}
use Rattle.std.specs.declared.alloc.Global.{Global}
use Rattle.wb_values.specs.Value.{Valuation}
use Rattle.verilog_trees.specs.Syntax as pure
use Rattle.verilog_trees.specs.Syntax.{name, concatenation, replication}
use Rattle.verilog_meaning.specs.Expression as meaning
use Rattle.verilog_meaning.specs.Expression.{Scope, widened, bit}
use Rattle.v_syntax.specs.declared.tree.Number.{Number as CodeNumber}
use Rattle.v_syntax.specs.declared.tree.PrefixOperator.{PrefixOperator}
use Rattle.v_syntax.specs.declared.tree.BinaryLink.{BinaryLink}
use Rattle.v_syntax.specs.declared.tree.TestLink.{TestLink}
use Rattle.v_syntax.specs.declared.tree.Choice.{Choice}
use Rattle.v_syntax.specs.declared.tree.Selects.{Selects}
use Rattle.v_syntax.specs.declared.tree.Expression.{Expression, Number, Name, Concatenation, Replication, AsSigned, AsUnsigned, Prefix, Binary, Test, Conditional}
use Rattle.v_syntax.specs.Tree.{tree_of, selects_of, all_prefixed, expressions_of}
use Rattle.v_value.specs.Narrow.{IsWidth, HasNarrowObjects, IsNarrow, AreNarrow, AreSelectsNarrow}
use Rattle.v_value.specs.Links.{has_reduction, AreLinksNarrow, AreTestsNarrow, AreChoicesNarrow}
use Rattle.v_value.specs.Evaluation.{width_at, sign_at, value_at, self_at, count_at, selects_width_at, selected_at, is_logical, prefixes_value, links_value, AreLinksWithin, tests_value, context_width, context_sign, choices_value, AreChoicesWithin, parts_width, parts_value}
use Rattle.v_syntax.proofs.Trees.{tree_of-Concatenation, tree_of-Replication, tree_of-Binary, tree_of-Test, tree_of-Conditional}
use Rattle.v_value.proofs.Narrows as narrow
use Rattle.v_value.proofs.Narrows.{narrow_width}
use Rattle.v_value.proofs.Values.{bit_fits, prefixes-unary, prefixes-reduced, run-width, run-unary, value-all_prefixed, value-linked, within-linked, value-test_linked, within-test_linked, value-chosen, within-chosen, widths-parts, joined-parts, width-repeated, value-repeated, some_left, some_right, most_right}

pub some_bits : (s : Scope) (e : Expression) (w : ℕ) → IsNarrow s (tree_of e) → width_at s (tree_of e) ≤ w → 1 ≤ w
unfolding width_at
some_bits s e w n h = omega (arith, (narrow_width s (tree_of e) n).0, h)

-- without an operator that makes one bit the whole is as wide as the operand
unreduced : (s : Scope) (os : List PrefixOperator) (x : pure.Expression) → has_reduction os ≡ false → width_at s (all_prefixed os x) ≡ width_at s x
unreduced s os x q = run-width s os x ∙ run-unary os (width_at s x) q

module _ (s : Scope) (v : Valuation) (e : Expression) (w : ℕ) (t : Bool) (r : ℕ) (n : IsNarrow s (tree_of e)) (h : width_at s (tree_of e) ≤ w) where
  -- numbers
  pub number-within : (k : CodeNumber) → e ≡ Number k → k.width ≤ w
  unfolding width_at
  number-within k i = subst (λ x. width_at s (tree_of x) ≤ w) i h

  pub number-value : (k : CodeNumber) → e ≡ Number k → r ≡ widened t k.width w k.value → r ≡ value_at s v (tree_of e) w t
  unfolding value_at
  number-value k i g = g ∙ sym (ap (λ x. value_at s v (tree_of x) w t) i)

  -- names
  pub name-narrow : (m : Bor (List ℕ)) (x : Selects) → e ≡ Name m x → AreSelectsNarrow s (selects_of x)
  name-narrow m x i = (subst (λ y. IsNarrow s (tree_of y)) i n).1

  pub name-width : (m : Bor (List ℕ)) (x : Selects) → e ≡ Name m x → IsWidth (selects_width_at s m.now (selects_of x))
  unfolding selects_width_at
  name-width m x i = (subst (λ y. IsNarrow s (tree_of y)) i n).0

  pub name-within : (m : Bor (List ℕ)) (x : Selects) → e ≡ Name m x → selects_width_at s m.now (selects_of x) ≤ w
  unfolding width_at selects_width_at
  name-within m x i = subst (λ y. width_at s (tree_of y) ≤ w) i h

  pub name-value : (m : Bor (List ℕ)) (x : Selects) → e ≡ Name m x → (u y : ℕ) → u ≡ selects_width_at s m.now (selects_of x) → y ≡ selected_at s v m.now (selects_of x) → r ≡ widened t u w y → r ≡ value_at s v (tree_of e) w t
  unfolding value_at selects_width_at selected_at
  name-value m x i u y j k g =
      g ∙ ap (λ a. widened t a w y) j ∙ ap (λ b. widened t (selects_width_at s m.now (selects_of x)) w b) k ∙ sym (ap (λ z. value_at s v (tree_of z) w t) i)

  -- concatenations
  pub parts-narrow : (a : Vec Expression Global) → e ≡ Concatenation a → (es : List Expression) → es ≡ a.items → AreNarrow s (expressions_of es)
  parts-narrow a i es j = subst (λ l. AreNarrow s (expressions_of l)) (sym j) (narrow.of-Concatenation s e n a i).1

  pub parts-some : (a : Vec Expression Global) → e ≡ Concatenation a → (es : List Expression) → es ≡ a.items → 1 ≤ parts_width s es
  parts-some a i es j = subst (λ l. 1 ≤ parts_width s l) (sym j) (subst (λ u. 1 ≤ u) (widths-parts s a.items) (narrow.of-Concatenation s e n a i).0.0)

  pub parts-most : (a : Vec Expression Global) → e ≡ Concatenation a → (es : List Expression) → es ≡ a.items → parts_width s es ≤ 128
  parts-most a i es j = subst (λ l. parts_width s l ≤ 128) (sym j) (subst (λ u. u ≤ 128) (widths-parts s a.items) (narrow.of-Concatenation s e n a i).0.1)

  concatenation-tree : (a : Vec Expression Global) → e ≡ Concatenation a → tree_of e ≡ concatenation (expressions_of a.items)
  concatenation-tree a i = ap tree_of i ∙ tree_of-Concatenation a

  pub parts-within : (a : Vec Expression Global) → e ≡ Concatenation a → (es : List Expression) → es ≡ a.items → parts_width s es ≤ w
  unfolding width_at
  parts-within a i es j = subst (λ l. parts_width s l ≤ w) (sym j) (subst (λ u. u ≤ w) (widths-parts s a.items) (subst (λ x. width_at s x ≤ w) (concatenation-tree a i) h))

  pub parts-value : (a : Vec Expression Global) → e ≡ Concatenation a → (es : List Expression) → es ≡ a.items → (u y : ℕ) → u ≡ parts_width s es → y ≡ parts_value s v es → r ≡ widened t u w y → r ≡ value_at s v (tree_of e) w t
  unfolding value_at
  parts-value a i es j u y k l g =
      g ∙ ap (λ b. widened t b w y) (k ∙ ap (parts_width s) j ∙ sym (widths-parts s a.items))
      ∙ ap (widened t (meaning.widths_of s (expressions_of a.items)) w) (l ∙ ap (parts_value s v) j ∙ sym (joined-parts s v a.items))
      ∙ sym (ap (λ z. value_at s v z w t) (concatenation-tree a i))

  -- $signed and $unsigned
  pub signed-narrow : (b : Box Expression Global) → e ≡ AsSigned b → (x : Expression) → x ≡ b.value → IsNarrow s (tree_of x)
  signed-narrow b i x j = subst (λ y. IsNarrow s (tree_of y)) (sym j) (subst (λ y. IsNarrow s (tree_of y)) i n)

  pub signed-within : (b : Box Expression Global) → e ≡ AsSigned b → (x : Expression) → x ≡ b.value → width_at s (tree_of x) ≤ w
  unfolding width_at
  signed-within b i x j = subst (λ y. width_at s (tree_of y) ≤ w) (sym j) (subst (λ y. width_at s (tree_of y) ≤ w) i h)

  pub signed-value : (b : Box Expression Global) → e ≡ AsSigned b → (x : Expression) → x ≡ b.value → (u y : ℕ) → u ≡ width_at s (tree_of x) → y ≡ self_at s v (tree_of x) → r ≡ widened t u w y → r ≡ value_at s v (tree_of e) w t
  unfolding value_at width_at self_at
  signed-value b i x j u y k l g =
      g ∙ ap (λ c. widened t c w y) (k ∙ ap (λ z. width_at s (tree_of z)) j) ∙ ap (widened t (width_at s (tree_of b.value)) w) (l ∙ ap (λ z. self_at s v (tree_of z)) j) ∙ sym (ap (λ z. value_at s v (tree_of z) w t) i)

  pub unsigned-narrow : (b : Box Expression Global) → e ≡ AsUnsigned b → (x : Expression) → x ≡ b.value → IsNarrow s (tree_of x)
  unsigned-narrow b i x j = subst (λ y. IsNarrow s (tree_of y)) (sym j) (subst (λ y. IsNarrow s (tree_of y)) i n)

  pub unsigned-within : (b : Box Expression Global) → e ≡ AsUnsigned b → (x : Expression) → x ≡ b.value → width_at s (tree_of x) ≤ w
  unfolding width_at
  unsigned-within b i x j = subst (λ y. width_at s (tree_of y) ≤ w) (sym j) (subst (λ y. width_at s (tree_of y) ≤ w) i h)

  pub unsigned-value : (b : Box Expression Global) → e ≡ AsUnsigned b → (x : Expression) → x ≡ b.value → (u y : ℕ) → u ≡ width_at s (tree_of x) → y ≡ self_at s v (tree_of x) → r ≡ widened t u w y → r ≡ value_at s v (tree_of e) w t
  unfolding value_at width_at self_at
  unsigned-value b i x j u y k l g =
      g ∙ ap (λ c. widened t c w y) (k ∙ ap (λ z. width_at s (tree_of z)) j) ∙ ap (widened t (width_at s (tree_of b.value)) w) (l ∙ ap (λ z. self_at s v (tree_of z)) j) ∙ sym (ap (λ z. value_at s v (tree_of z) w t) i)

  -- replications
  repeated-tree : (b : Box Expression Global) (a : Vec Expression Global) → e ≡ Replication b a → tree_of e ≡ replication (tree_of b.value) (expressions_of a.items)
  repeated-tree b a i = ap tree_of i ∙ tree_of-Replication b a

  repeated-width : (b : Box Expression Global) (a : Vec Expression Global) → e ≡ Replication b a → IsWidth (count_at s (tree_of b.value) * parts_width s a.items)
  repeated-width b a i = subst IsWidth (width-repeated s (tree_of b.value) a.items) (narrow.of-Replication s e n b a i).0

  pub repeated-objects : (b : Box Expression Global) (a : Vec Expression Global) → e ≡ Replication b a → HasNarrowObjects s
  repeated-objects b a i = (narrow.of-Replication s e n b a i).1

  pub count-narrow : (b : Box Expression Global) (a : Vec Expression Global) → e ≡ Replication b a → (x : Expression) → x ≡ b.value → IsNarrow s (tree_of x)
  count-narrow b a i x j = subst (λ y. IsNarrow s (tree_of y)) (sym j) (narrow.of-Replication s e n b a i).2

  pub repeated-narrow : (b : Box Expression Global) (a : Vec Expression Global) → e ≡ Replication b a → (es : List Expression) → es ≡ a.items → AreNarrow s (expressions_of es)
  repeated-narrow b a i es j = subst (λ l. AreNarrow s (expressions_of l)) (sym j) (narrow.of-Replication s e n b a i).3

  pub repeated-some : (b : Box Expression Global) (a : Vec Expression Global) → e ≡ Replication b a → (es : List Expression) → es ≡ a.items → 1 ≤ parts_width s es
  repeated-some b a i es j = subst (λ l. 1 ≤ parts_width s l) (sym j) (some_right _ _ (repeated-width b a i).0)

  pub repeated-most : (b : Box Expression Global) (a : Vec Expression Global) → e ≡ Replication b a → (es : List Expression) → es ≡ a.items → parts_width s es ≤ 128
  repeated-most b a i es j =
      let bounds = repeated-width b a i in
      let more : parts_width s a.items ≤ count_at s (tree_of b.value) * parts_width s a.items = most_right _ _ bounds.0 in
      subst (λ l. parts_width s l ≤ 128) (sym j) (omega (arith, more, bounds.1))

  repeated-is : (b : Box Expression Global) (a : Vec Expression Global) → e ≡ Replication b a → (x : Expression) → x ≡ b.value → (m : ℕ) → m ≡ count_at s (tree_of x) → (es : List Expression) → es ≡ a.items → (u : ℕ) → u ≡ parts_width s es → m * u ≡ count_at s (tree_of b.value) * parts_width s a.items
  repeated-is b a i x j m is_m es k u is_u = ap (λ z. z * u) (is_m ∙ ap (λ z. count_at s (tree_of z)) j) ∙ ap (λ z. count_at s (tree_of b.value) * z) (is_u ∙ ap (parts_width s) k)

  pub count-some : (b : Box Expression Global) (a : Vec Expression Global) → e ≡ Replication b a → (x : Expression) → x ≡ b.value → (m : ℕ) → m ≡ count_at s (tree_of x) → 1 ≤ m
  count-some b a i x j m is_m = subst (λ z. 1 ≤ z) (sym (is_m ∙ ap (λ z. count_at s (tree_of z)) j)) (some_left _ _ (repeated-width b a i).0)

  pub copies-most : (b : Box Expression Global) (a : Vec Expression Global) → e ≡ Replication b a → (x : Expression) → x ≡ b.value → (m : ℕ) → m ≡ count_at s (tree_of x) → (es : List Expression) → es ≡ a.items → (u : ℕ) → u ≡ parts_width s es → m * u ≤ 128
  copies-most b a i x j m is_m es k u is_u = subst (λ z. z ≤ 128) (sym (repeated-is b a i x j m is_m es k u is_u)) (repeated-width b a i).1

  pub copies-within : (b : Box Expression Global) (a : Vec Expression Global) → e ≡ Replication b a → (x : Expression) → x ≡ b.value → (m : ℕ) → m ≡ count_at s (tree_of x) → (es : List Expression) → es ≡ a.items → (u : ℕ) → u ≡ parts_width s es → m * u ≤ w
  unfolding width_at
  copies-within b a i x j m is_m es k u is_u =
      subst (λ z. z ≤ w) (sym (repeated-is b a i x j m is_m es k u is_u)) (subst (λ z. z ≤ w) (ap (meaning.width_of s) (repeated-tree b a i) ∙ width-repeated s (tree_of b.value) a.items) h)

  pub copies-value : (b : Box Expression Global) (a : Vec Expression Global) → e ≡ Replication b a → (x : Expression) → x ≡ b.value → (m : ℕ) → m ≡ count_at s (tree_of x) → (es : List Expression) → es ≡ a.items → (u y : ℕ) → u ≡ parts_width s es → y ≡ parts_value s v es →
      (p q : ℕ) → p ≡ m * u → q ≡ meaning.side_by_side m u y → r ≡ widened t p w q → r ≡ value_at s v (tree_of e) w t
  copies-value b a i x j m is_m es k u y is_u is_y p q is_p is_q g =
      let own_m : m ≡ count_at s (tree_of b.value) = is_m ∙ ap (λ z. count_at s (tree_of z)) j in
      let own_u : u ≡ parts_width s a.items = is_u ∙ ap (parts_width s) k in
      let own_y : y ≡ parts_value s v a.items = is_y ∙ ap (parts_value s v) k in
      g ∙ ap (λ z. widened t z w q) is_p ∙ ap (widened t (m * u) w) is_q
      ∙ ap (λ z. widened t (z * u) w (meaning.side_by_side z u y)) own_m
      ∙ ap (λ z. widened t (count_at s (tree_of b.value) * z) w (meaning.side_by_side (count_at s (tree_of b.value)) z y)) own_u
      ∙ ap (λ z. widened t (count_at s (tree_of b.value) * parts_width s a.items) w (meaning.side_by_side (count_at s (tree_of b.value)) (parts_width s a.items) z)) own_y
      ∙ sym (ap (λ z. value_at s v z w t) (repeated-tree b a i) ∙ value-repeated s v (tree_of b.value) a.items w t)

  -- operators before an operand
  pub prefix-narrow : (os : Vec PrefixOperator Global) (b : Box Expression Global) → e ≡ Prefix os b → (x : Expression) → x ≡ b.value → IsNarrow s (tree_of x)
  prefix-narrow os b i x j = subst (λ y. IsNarrow s (tree_of y)) (sym j) (narrow.of-Prefix s e n os b i)

  pub prefix-within : (os : Vec PrefixOperator Global) (b : Box Expression Global) → e ≡ Prefix os b → (x : Expression) → x ≡ b.value → (ls : List PrefixOperator) → ls ≡ os.items → has_reduction ls ≡ false → width_at s (tree_of x) ≤ w
  prefix-within os b i x j ls k q =
      let f : has_reduction os.items ≡ false = subst (λ l. has_reduction l ≡ false) k q in
      let p : width_at s (all_prefixed os.items (tree_of b.value)) ≤ w = subst (λ y. width_at s (tree_of y) ≤ w) i h in
      subst (λ y. width_at s (tree_of y) ≤ w) (sym j) (subst (λ u. u ≤ w) (unreduced s os.items (tree_of b.value) f) p)

  pub prefix-value : (os : Vec PrefixOperator Global) (b : Box Expression Global) → e ≡ Prefix os b → (x : Expression) → x ≡ b.value → (ls : List PrefixOperator) → ls ≡ os.items →
      r ≡ prefixes_value ls w (value_at s v (tree_of x) w t) (width_at s (tree_of x)) (self_at s v (tree_of x)) → r ≡ value_at s v (tree_of e) w t
  prefix-value os b i x j ls k g =
      g ∙ ap (λ l. prefixes_value l w (value_at s v (tree_of x) w t) (width_at s (tree_of x)) (self_at s v (tree_of x))) k
      ∙ ap (λ y. prefixes_value os.items w (value_at s v (tree_of y) w t) (width_at s (tree_of y)) (self_at s v (tree_of y))) j
      ∙ sym (ap (λ y. value_at s v (tree_of y) w t) i ∙ value-all_prefixed s v os.items (tree_of b.value) w t)

  -- chains of operators
  binary-within : (b : Box Expression Global) (a : Vec BinaryLink Global) → e ≡ Binary b a → (width_at s (tree_of b.value) ≤ w) × AreLinksWithin s w a.items
  binary-within b a i = within-linked s a.items (tree_of b.value) w (subst (λ y. width_at s y ≤ w) (ap tree_of i ∙ tree_of-Binary b a) h)

  pub first-narrow : (b : Box Expression Global) (a : Vec BinaryLink Global) → e ≡ Binary b a → (x : Expression) → x ≡ b.value → IsNarrow s (tree_of x)
  first-narrow b a i x j = subst (λ y. IsNarrow s (tree_of y)) (sym j) (narrow.of-Binary s e n b a i).0

  pub first-within : (b : Box Expression Global) (a : Vec BinaryLink Global) → e ≡ Binary b a → (x : Expression) → x ≡ b.value → width_at s (tree_of x) ≤ w
  first-within b a i x j = subst (λ y. width_at s (tree_of y) ≤ w) (sym j) (binary-within b a i).0

  pub links-narrow : (b : Box Expression Global) (a : Vec BinaryLink Global) → e ≡ Binary b a → (ls : List BinaryLink) → ls ≡ a.items → AreLinksNarrow s ls
  links-narrow b a i ls j = subst (AreLinksNarrow s) (sym j) (narrow.of-Binary s e n b a i).1

  pub links-within : (b : Box Expression Global) (a : Vec BinaryLink Global) → e ≡ Binary b a → (ls : List BinaryLink) → ls ≡ a.items → AreLinksWithin s w ls
  links-within b a i ls j = subst (AreLinksWithin s w) (sym j) (binary-within b a i).1

  pub links-value : (b : Box Expression Global) (a : Vec BinaryLink Global) → e ≡ Binary b a → (x : Expression) → x ≡ b.value → (ls : List BinaryLink) → ls ≡ a.items → (y : ℕ) → y ≡ value_at s v (tree_of x) w t →
      r ≡ links_value s v w t y ls → r ≡ value_at s v (tree_of e) w t
  links-value b a i x j ls k y f g =
      g ∙ ap (links_value s v w t y) k ∙ ap (λ z. links_value s v w t z a.items) (f ∙ ap (λ z. value_at s v (tree_of z) w t) j)
      ∙ sym (ap (λ z. value_at s v (tree_of z) w t) i ∙ ap (λ z. value_at s v z w t) (tree_of-Binary b a) ∙ value-linked s v a.items (tree_of b.value) w t)

  -- chains of tests
  pub test-narrow : (b : Box Expression Global) (a : Vec TestLink Global) → e ≡ Test b a → (x : Expression) → x ≡ b.value → IsNarrow s (tree_of x)
  test-narrow b a i x j = subst (λ y. IsNarrow s (tree_of y)) (sym j) (narrow.of-Test s e n b a i).0

  pub tests-narrow : (b : Box Expression Global) (a : Vec TestLink Global) → e ≡ Test b a → (ls : List TestLink) → ls ≡ a.items → AreTestsNarrow s ls
  tests-narrow b a i ls j = subst (AreTestsNarrow s) (sym j) (narrow.of-Test s e n b a i).1

  pub test-within : (b : Box Expression Global) (a : Vec TestLink Global) → e ≡ Test b a → (x : Expression) → x ≡ b.value → (ls : List TestLink) → ls ≡ a.items → width_at s (tree_of x) ≤ context_width s (width_at s (tree_of x)) ls w
  test-within b a i x j ls k =
      subst (λ y. width_at s (tree_of y) ≤ context_width s (width_at s (tree_of y)) ls w) (sym j)
      (subst (λ l. width_at s (tree_of b.value) ≤ context_width s (width_at s (tree_of b.value)) l w) (sym k)
      (within-test_linked s a.items (tree_of b.value) w (subst (λ y. width_at s y ≤ w) (ap tree_of i ∙ tree_of-Test b a) h)))

  pub tests-value : (b : Box Expression Global) (a : Vec TestLink Global) → e ≡ Test b a → (x : Expression) → x ≡ b.value → (ls : List TestLink) → ls ≡ a.items →
      r ≡ tests_value s v (width_at s (tree_of x)) (sign_at s (tree_of x)) (value_at s v (tree_of x) (context_width s (width_at s (tree_of x)) ls w) (context_sign s (sign_at s (tree_of x)) ls t)) ls →
      r ≡ value_at s v (tree_of e) w t
  tests-value b a i x j ls k g =
      g ∙ ap (λ y. tests_value s v (width_at s (tree_of y)) (sign_at s (tree_of y)) (value_at s v (tree_of y) (context_width s (width_at s (tree_of y)) ls w) (context_sign s (sign_at s (tree_of y)) ls t)) ls) j
      ∙ ap (λ l. tests_value s v (width_at s (tree_of b.value)) (sign_at s (tree_of b.value)) (value_at s v (tree_of b.value) (context_width s (width_at s (tree_of b.value)) l w) (context_sign s (sign_at s (tree_of b.value)) l t)) l) k
      ∙ sym (ap (λ z. value_at s v (tree_of z) w t) i ∙ ap (λ z. value_at s v z w t) (tree_of-Test b a) ∙ value-test_linked s v a.items (tree_of b.value) w t)

  -- conditionals
  conditional-within : (a : Vec Choice Global) (b : Box Expression Global) → e ≡ Conditional a b → AreChoicesWithin s w a.items × (width_at s (tree_of b.value) ≤ w)
  conditional-within a b i = within-chosen s a.items (tree_of b.value) w (subst (λ y. width_at s y ≤ w) (ap tree_of i ∙ tree_of-Conditional a b) h)

  pub choices-narrow : (a : Vec Choice Global) (b : Box Expression Global) → e ≡ Conditional a b → (cs : List Choice) → cs ≡ a.items → AreChoicesNarrow s cs
  choices-narrow a b i cs j = subst (AreChoicesNarrow s) (sym j) (narrow.of-Conditional s e n a b i).0

  pub choices-within : (a : Vec Choice Global) (b : Box Expression Global) → e ≡ Conditional a b → (cs : List Choice) → cs ≡ a.items → AreChoicesWithin s w cs
  choices-within a b i cs j = subst (AreChoicesWithin s w) (sym j) (conditional-within a b i).0

  pub last-narrow : (a : Vec Choice Global) (b : Box Expression Global) → e ≡ Conditional a b → (x : Expression) → x ≡ b.value → IsNarrow s (tree_of x)
  last-narrow a b i x j = subst (λ y. IsNarrow s (tree_of y)) (sym j) (narrow.of-Conditional s e n a b i).1

  pub last-within : (a : Vec Choice Global) (b : Box Expression Global) → e ≡ Conditional a b → (x : Expression) → x ≡ b.value → width_at s (tree_of x) ≤ w
  last-within a b i x j = subst (λ y. width_at s (tree_of y) ≤ w) (sym j) (conditional-within a b i).1

  conditional-value : (a : Vec Choice Global) (b : Box Expression Global) → e ≡ Conditional a b → value_at s v (tree_of e) w t ≡ unwrap_or (choices_value s v a.items w t) (value_at s v (tree_of b.value) w t)
  conditional-value a b i = ap (λ z. value_at s v (tree_of z) w t) i ∙ ap (λ z. value_at s v z w t) (tree_of-Conditional a b) ∙ value-chosen s v a.items (tree_of b.value) w t

  pub some-value : (a : Vec Choice Global) (b : Box Expression Global) → e ≡ Conditional a b → (cs : List Choice) → cs ≡ a.items → Some r ≡ choices_value s v cs w t → r ≡ value_at s v (tree_of e) w t
  some-value a b i cs j g = ap (λ o. unwrap_or o (value_at s v (tree_of b.value) w t)) (g ∙ ap (λ l. choices_value s v l w t) j) ∙ sym (conditional-value a b i)

  pub none-value : (a : Vec Choice Global) (b : Box Expression Global) → e ≡ Conditional a b → (cs : List Choice) → cs ≡ a.items → None ≡ choices_value s v cs w t → (x : Expression) → x ≡ b.value → r ≡ value_at s v (tree_of x) w t → r ≡ value_at s v (tree_of e) w t
  none-value a b i cs j g x k f =
      f ∙ ap (λ z. value_at s v (tree_of z) w t) k ∙ ap (λ o. unwrap_or o (value_at s v (tree_of b.value) w t)) (g ∙ ap (λ l. choices_value s v l w t) j) ∙ sym (conditional-value a b i)

-- chains of tests, over what the calls before them returned: the operand's width p and sign q, its context's width u and sign z,
-- and its value y there
context_most : (s : Scope) (own : ℕ) (ls : List TestLink) (w : ℕ) → AreTestsNarrow s ls → own ≤ 128 → w ≤ 128 → context_width s own ls w ≤ 128
unfolding width_at
context_most s own [] w n h k = k
context_most s own (l ∷ ls) w n h k =
    let f : width_at s (tree_of l.operand) ≤ 128 = (narrow_width s (tree_of l.operand) n.0).1 in
    elim (is_logical l.operator) as (λ b. cond b own (max own (width_at s (tree_of l.operand))) ≤ 128) [ true ↦ h | false ↦ omega (arith, h, f) ]

module _ (s : Scope) (v : Valuation) (e : Expression) (w : ℕ) (t : Bool) (n : IsNarrow s (tree_of e)) (h : width_at s (tree_of e) ≤ w) (b : Box Expression Global) (a : Vec TestLink Global) (i : e ≡ Test b a)
    (x1 : Expression) (p : ℕ) (j1 : x1 ≡ b.value) (is_p : p ≡ width_at s (tree_of x1)) (ls3 : List TestLink) (k3 : ls3 ≡ a.items) (u : ℕ) (is_u : u ≡ context_width s p ls3 w) where
  is_own : p ≡ width_at s (tree_of b.value)
  is_own = is_p ∙ ap (λ y. width_at s (tree_of y)) j1

  is_context : u ≡ context_width s (width_at s (tree_of b.value)) a.items w
  is_context = is_u ∙ ap (λ l. context_width s p l w) k3 ∙ ap (λ m. context_width s m a.items w) is_own

  pub context-within : (x5 : Expression) → x5 ≡ b.value → width_at s (tree_of x5) ≤ u
  context-within x5 j = subst (λ y. width_at s (tree_of y) ≤ u) (sym j) (subst (λ m. width_at s (tree_of b.value) ≤ m) (sym is_context) (test-within s v e w t 0 n h b a i b.value refl a.items refl))

  pub context-most : p ≤ 128 → w ≤ 128 → u ≤ 128
  context-most f g = subst (λ m. m ≤ 128) (sym is_u) (context_most s p ls3 w (tests-narrow s v e w t 0 n h b a i ls3 k3) f g)

  pub context-fits : (ls6 : List TestLink) → ls6 ≡ a.items → (y : ℕ) → y < 2 ^ u → y < 2 ^ context_width s p ls6 w
  context-fits ls6 k y g = subst (λ m. y < 2 ^ m) (is_u ∙ ap (λ l. context_width s p l w) (k3 ∙ sym k)) g

  pub chain-value : (x2 : Expression) → x2 ≡ b.value → (q : Bool) → q ≡ sign_at s (tree_of x2) → (ls4 : List TestLink) → ls4 ≡ a.items → (z : Bool) → z ≡ context_sign s q ls4 t →
      (x5 : Expression) → x5 ≡ b.value → (y : ℕ) → y ≡ value_at s v (tree_of x5) u z → (ls6 : List TestLink) → ls6 ≡ a.items → (r : ℕ) → r ≡ tests_value s v p q y ls6 → r ≡ value_at s v (tree_of e) w t
  chain-value x2 j2 q is_q ls4 k4 z is_z x5 j5 y is_y ls6 k6 r is_r =
      let own_q : q ≡ sign_at s (tree_of b.value) = is_q ∙ ap (λ f. sign_at s (tree_of f)) j2 in
      let own_z : z ≡ context_sign s (sign_at s (tree_of b.value)) a.items t = is_z ∙ ap (λ l. context_sign s q l t) k4 ∙ ap (λ m. context_sign s m a.items t) own_q in
      let own_y : y ≡ value_at s v (tree_of b.value) (context_width s (width_at s (tree_of b.value)) a.items w) (context_sign s (sign_at s (tree_of b.value)) a.items t) =
      is_y ∙ ap (λ f. value_at s v (tree_of f) u z) j5 ∙ ap (λ m. value_at s v (tree_of b.value) m z) is_context ∙ ap (value_at s v (tree_of b.value) (context_width s (width_at s (tree_of b.value)) a.items w)) own_z in
      tests-value s v e w t r n h b a i b.value refl a.items refl
      (is_r ∙ ap (tests_value s v p q y) k6 ∙ ap (λ m. tests_value s v m q y a.items) is_own ∙ ap (λ m. tests_value s v (width_at s (tree_of b.value)) m y a.items) own_q
      ∙ ap (λ m. tests_value s v (width_at s (tree_of b.value)) (sign_at s (tree_of b.value)) m a.items) own_y)

-- operators before an operand, over what the calls returned
pub reduced-value : (s : Scope) (v : Valuation) (x : pure.Expression) (w : ℕ) (t : Bool) (os : List PrefixOperator) → (g : Bool) → g ≡ true → g ≡ has_reduction os → (u y : ℕ) → u ≡ width_at s x → y ≡ self_at s v x → (r : ℕ) → r ≡ prefixes_value os w 0 u y →
    r ≡ prefixes_value os w (value_at s v x w t) (width_at s x) (self_at s v x)
reduced-value s v x w t os g f k u y i j r h =
    h ∙ ap (λ a. prefixes_value os w 0 a y) i ∙ ap (prefixes_value os w 0 (width_at s x)) j ∙ prefixes-reduced os w 0 (value_at s v x w t) (width_at s x) (self_at s v x) (sym k ∙ f)

pub unreduced-value : (s : Scope) (v : Valuation) (x : pure.Expression) (w : ℕ) (t : Bool) (os : List PrefixOperator) → (g : Bool) → g ≡ false → g ≡ has_reduction os → (z : ℕ) → z ≡ value_at s v x w t → (u y r : ℕ) → r ≡ prefixes_value os w z u y →
    r ≡ prefixes_value os w (value_at s v x w t) (width_at s x) (self_at s v x)
unreduced-value s v x w t os g f k z i u y r h =
    h ∙ ap (λ a. prefixes_value os w a u y) i ∙ prefixes-unary os w (value_at s v x w t) u y (width_at s x) (self_at s v x) (sym k ∙ f)

-- A bit fits any context.
pub bit-context : (s : Scope) (ls : List TestLink) (w : ℕ) (b : Bool) → 1 ≤ w → bit b < 2 ^ context_width s 1 ls w
bit-context s [] w b h = bit_fits b w h
bit-context s (l ∷ ls) w b h =
    elim (is_logical l.operator) as (λ c. bit b < 2 ^ cond c 1 (max 1 (width_at s (tree_of l.operand)))) [ true ↦ bit_fits b 1 (omega arith) | false ↦ bit_fits b (max 1 (width_at s (tree_of l.operand))) (omega arith) ]
