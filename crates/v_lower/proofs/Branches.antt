-- What each form of an expression asks of its parts, and what it is lowered to by theirs: e is the expression, x the operand
-- and ls the chain as calls were given them.
use Rattle.std.proofs.Common.{◌≡◌, ◌∙◌, ◌≤◌, ◌*◌, ℕ, refl, sym, ap, subst, Bool, true, false, List, [], ◌∷◌, arith}
use Rattle.std.specs.Borrow.{Bor}
use Rattle.std.specs.declared.boxed.Box.{Box}
use Rattle.std.specs.declared.vec.Vec.{Vec}
use Rattle.std.specs.declared.alloc.Global.{Global}
use Rattle.verilog_trees.specs.Syntax as pure
use Rattle.verilog_trees.specs.Syntax.{number, name, concatenation, replication, as_signed, as_unsigned}
use Rattle.verilog_meaning.specs.Expression.{Scope}
use Rattle.wb_terms.specs.Graph.{Graph}
use Rattle.v_syntax.specs.declared.tree.Number.{Number as CodeNumber}
use Rattle.v_syntax.specs.declared.tree.PrefixOperator.{PrefixOperator}
use Rattle.v_syntax.specs.declared.tree.BinaryLink.{BinaryLink}
use Rattle.v_syntax.specs.declared.tree.TestLink.{TestLink}
use Rattle.v_syntax.specs.declared.tree.Choice.{Choice}
use Rattle.v_syntax.specs.declared.tree.Selects.{Selects}
use Rattle.v_syntax.specs.declared.tree.Expression.{Expression, Number, Name, Concatenation, Replication, AsSigned, AsUnsigned, Prefix, Binary, Test, Conditional}
use Rattle.v_syntax.specs.Tree.{tree_of, selects_of, number_of, all_prefixed, expressions_of}
use Rattle.v_syntax.specs.Chain.{linked, test_linked, chosen}
use Rattle.v_syntax.proofs.Trees.{tree_of-Concatenation, tree_of-Replication, tree_of-Binary, tree_of-Test, tree_of-Conditional}
use Rattle.v_value.specs.Narrow.{IsWidth, IsNarrow, HasNarrowObjects}
use Rattle.v_lower.specs.Lowered.{Images, IsLowered}
use Rattle.v_lower.specs.Walking.{IsSound, IsNameSound, AreLinksSound, AreTestsSound, AreChoicesSound, ArePartsSound}
use Rattle.v_lower.proofs.Soundness.{sound-narrow, sound-signed, sound-unsigned, sound-all_prefixed, sound-linked, sound-test_linked, sound-chosen, sound-concatenation, sound-replication, sound-name}

-- ---- what the parts are

module _ (s : Scope) (e : Expression) (h : IsSound s (tree_of e)) where
  pub number-fits : (k : CodeNumber) → HasNarrowObjects s → e ≡ Number k → IsNarrow s (number (number_of k))
  number-fits k o i = subst (λ x. IsNarrow s (tree_of x)) i (sound-narrow s (tree_of e) o h)

  pub name-sound : (m : Bor (List ℕ)) (x : Selects) → HasNarrowObjects s → e ≡ Name m x → IsNameSound s m.now (selects_of x)
  name-sound m x o i = sound-name s m.now (selects_of x) o (subst (λ y. IsSound s (tree_of y)) i h)

  pub parts-sound : (a : Vec Expression Global) → e ≡ Concatenation a → (es : List Expression) → es ≡ a.items → ArePartsSound s es
  parts-sound a i es j = subst (ArePartsSound s) (sym j) (sound-concatenation s a.items (subst (IsSound s) (ap tree_of i ∙ tree_of-Concatenation a) h))

  pub repeated-sound : (b : Box Expression Global) (a : Vec Expression Global) → e ≡ Replication b a → (es : List Expression) → es ≡ a.items → ArePartsSound s es
  repeated-sound b a i es j = subst (ArePartsSound s) (sym j) (sound-replication s (tree_of b.value) a.items (subst (IsSound s) (ap tree_of i ∙ tree_of-Replication b a) h))

  pub signed-sound : (b : Box Expression Global) → e ≡ AsSigned b → (x : Expression) → x ≡ b.value → IsSound s (tree_of x)
  signed-sound b i x j = subst (λ y. IsSound s (tree_of y)) (sym j) (sound-signed s (tree_of b.value) (subst (λ y. IsSound s (tree_of y)) i h))

  pub unsigned-sound : (b : Box Expression Global) → e ≡ AsUnsigned b → (x : Expression) → x ≡ b.value → IsSound s (tree_of x)
  unsigned-sound b i x j = subst (λ y. IsSound s (tree_of y)) (sym j) (sound-unsigned s (tree_of b.value) (subst (λ y. IsSound s (tree_of y)) i h))

  pub prefix-sound : (os : Vec PrefixOperator Global) (b : Box Expression Global) → e ≡ Prefix os b → (x : Expression) → x ≡ b.value → IsSound s (tree_of x)
  prefix-sound os b i x j = subst (λ y. IsSound s (tree_of y)) (sym j) (sound-all_prefixed s os.items (tree_of b.value) (subst (λ y. IsSound s (tree_of y)) i h))

  pub first-sound : (b : Box Expression Global) (a : Vec BinaryLink Global) → e ≡ Binary b a → (x : Expression) → x ≡ b.value → IsSound s (tree_of x)
  first-sound b a i x j = subst (λ y. IsSound s (tree_of y)) (sym j) (sound-linked s a.items (tree_of b.value) (subst (IsSound s) (ap tree_of i ∙ tree_of-Binary b a) h)).0

  pub links-sound : (b : Box Expression Global) (a : Vec BinaryLink Global) → e ≡ Binary b a → (ls : List BinaryLink) → ls ≡ a.items → AreLinksSound s ls
  links-sound b a i ls j = subst (AreLinksSound s) (sym j) (sound-linked s a.items (tree_of b.value) (subst (IsSound s) (ap tree_of i ∙ tree_of-Binary b a) h)).1

  pub test-sound : (b : Box Expression Global) (a : Vec TestLink Global) → e ≡ Test b a → (x : Expression) → x ≡ b.value → IsSound s (tree_of x)
  test-sound b a i x j = subst (λ y. IsSound s (tree_of y)) (sym j) (sound-test_linked s a.items (tree_of b.value) (subst (IsSound s) (ap tree_of i ∙ tree_of-Test b a) h)).0

  pub tests-sound : (b : Box Expression Global) (a : Vec TestLink Global) → e ≡ Test b a → (ls : List TestLink) → ls ≡ a.items → AreTestsSound s ls
  tests-sound b a i ls j = subst (AreTestsSound s) (sym j) (sound-test_linked s a.items (tree_of b.value) (subst (IsSound s) (ap tree_of i ∙ tree_of-Test b a) h)).1

  pub choices-sound : (a : Vec Choice Global) (b : Box Expression Global) → e ≡ Conditional a b → (cs : List Choice) → cs ≡ a.items → AreChoicesSound s cs
  choices-sound a b i cs j = subst (AreChoicesSound s) (sym j) (sound-chosen s a.items (tree_of b.value) (subst (IsSound s) (ap tree_of i ∙ tree_of-Conditional a b) h)).0

  pub last-sound : (a : Vec Choice Global) (b : Box Expression Global) → e ≡ Conditional a b → (x : Expression) → x ≡ b.value → IsSound s (tree_of x)
  last-sound a b i x j = subst (λ y. IsSound s (tree_of y)) (sym j) (sound-chosen s a.items (tree_of b.value) (subst (IsSound s) (ap tree_of i ∙ tree_of-Conditional a b) h)).1

-- ---- what the whole is

module _ (s : Scope) (im : Images) (g : Graph) (e : Expression) (w : ℕ) (t : Bool) (id : ℕ) where
  pub number-whole : (k : CodeNumber) → e ≡ Number k → IsLowered s im g (number (number_of k)) w t id → IsLowered s im g (tree_of e) w t id
  number-whole k i l = subst (λ x. IsLowered s im g (tree_of x) w t id) (sym i) l

  pub name-whole : (m : Bor (List ℕ)) (x : Selects) → e ≡ Name m x → IsLowered s im g (name m.now (selects_of x)) w t id → IsLowered s im g (tree_of e) w t id
  name-whole m x i l = subst (λ x. IsLowered s im g (tree_of x) w t id) (sym i) l

  pub parts-whole : (a : Vec Expression Global) → e ≡ Concatenation a → (es : List Expression) → es ≡ a.items → IsLowered s im g (concatenation (expressions_of es)) w t id → IsLowered s im g (tree_of e) w t id
  parts-whole a i es j l =
      subst (λ x. IsLowered s im g x w t id) (sym (ap tree_of i ∙ tree_of-Concatenation a)) (subst (λ xs. IsLowered s im g (concatenation (expressions_of xs)) w t id) j l)

  pub repeated-whole : (b : Box Expression Global) (a : Vec Expression Global) → e ≡ Replication b a → (x : Expression) → x ≡ b.value → (es : List Expression) → es ≡ a.items
      → IsLowered s im g (replication (tree_of x) (expressions_of es)) w t id → IsLowered s im g (tree_of e) w t id
  repeated-whole b a i x j es k l =
      subst (λ x. IsLowered s im g x w t id) (sym (ap tree_of i ∙ tree_of-Replication b a))
      (subst (λ y. IsLowered s im g (replication (tree_of y) (expressions_of a.items)) w t id) j (subst (λ xs. IsLowered s im g (replication (tree_of x) (expressions_of xs)) w t id) k l))

  pub signed-whole : (b : Box Expression Global) → e ≡ AsSigned b → (x : Expression) → x ≡ b.value → IsLowered s im g (as_signed (tree_of x)) w t id → IsLowered s im g (tree_of e) w t id
  signed-whole b i x j l = subst (λ x. IsLowered s im g (tree_of x) w t id) (sym i) (subst (λ y. IsLowered s im g (as_signed (tree_of y)) w t id) j l)

  pub unsigned-whole : (b : Box Expression Global) → e ≡ AsUnsigned b → (x : Expression) → x ≡ b.value → IsLowered s im g (as_unsigned (tree_of x)) w t id → IsLowered s im g (tree_of e) w t id
  unsigned-whole b i x j l = subst (λ x. IsLowered s im g (tree_of x) w t id) (sym i) (subst (λ y. IsLowered s im g (as_unsigned (tree_of y)) w t id) j l)

  pub prefix-whole : (os : Vec PrefixOperator Global) (b : Box Expression Global) → e ≡ Prefix os b → (x : Expression) → x ≡ b.value → (ls : List PrefixOperator) → ls ≡ os.items
      → IsLowered s im g (all_prefixed ls (tree_of x)) w t id → IsLowered s im g (tree_of e) w t id
  prefix-whole os b i x j ls k l =
      subst (λ x. IsLowered s im g (tree_of x) w t id) (sym i)
      (subst (λ y. IsLowered s im g (all_prefixed os.items (tree_of y)) w t id) j (subst (λ xs. IsLowered s im g (all_prefixed xs (tree_of x)) w t id) k l))

  pub binary-whole : (b : Box Expression Global) (a : Vec BinaryLink Global) → e ≡ Binary b a → (x : Expression) → x ≡ b.value → (ls : List BinaryLink) → ls ≡ a.items
      → IsLowered s im g (linked ls (tree_of x)) w t id → IsLowered s im g (tree_of e) w t id
  binary-whole b a i x j ls k l =
      subst (λ x. IsLowered s im g x w t id) (sym (ap tree_of i ∙ tree_of-Binary b a))
      (subst (λ y. IsLowered s im g (linked a.items (tree_of y)) w t id) j (subst (λ xs. IsLowered s im g (linked xs (tree_of x)) w t id) k l))

  pub test-whole : (b : Box Expression Global) (a : Vec TestLink Global) → e ≡ Test b a → (x : Expression) → x ≡ b.value → (ls : List TestLink) → ls ≡ a.items
      → IsLowered s im g (test_linked ls (tree_of x)) w t id → IsLowered s im g (tree_of e) w t id
  test-whole b a i x j ls k l =
      subst (λ x. IsLowered s im g x w t id) (sym (ap tree_of i ∙ tree_of-Test b a))
      (subst (λ y. IsLowered s im g (test_linked a.items (tree_of y)) w t id) j (subst (λ xs. IsLowered s im g (test_linked xs (tree_of x)) w t id) k l))

  pub choices-whole : (a : Vec Choice Global) (b : Box Expression Global) → e ≡ Conditional a b → (x : Expression) → x ≡ b.value → (cs : List Choice) → cs ≡ a.items
      → IsLowered s im g (chosen cs (tree_of x)) w t id → IsLowered s im g (tree_of e) w t id
  choices-whole a b i x j cs k l =
      subst (λ x. IsLowered s im g x w t id) (sym (ap tree_of i ∙ tree_of-Conditional a b))
      (subst (λ y. IsLowered s im g (chosen a.items (tree_of y)) w t id) j (subst (λ xs. IsLowered s im g (chosen xs (tree_of x)) w t id) k l))
