-- What a narrow expression says of its parts, as the calls are given them.
use Rattle.std.proofs.Common.{◌≡◌, sym, subst, List}
use Rattle.std.specs.declared.boxed.Box.{Box}
use Rattle.std.specs.declared.vec.Vec.{Vec}
use Rattle.std.specs.declared.alloc.Global.{Global}
use Rattle.std.specs.Borrow.{Bor}
use Rattle.std.specs.Prelude.{ℕ}
use Rattle.verilog_trees.specs.Syntax as pure
use Rattle.verilog_meaning.specs.Expression.{Scope}
use Rattle.v_syntax.specs.declared.tree.PrefixOperator.{PrefixOperator}
use Rattle.v_syntax.specs.declared.tree.BinaryLink.{BinaryLink}
use Rattle.v_syntax.specs.declared.tree.TestLink.{TestLink}
use Rattle.v_syntax.specs.declared.tree.Choice.{Choice}
use Rattle.v_syntax.specs.declared.tree.Expression.{Expression, Name, Concatenation, Replication, AsSigned, AsUnsigned, Prefix, Binary, Test, Conditional}
use Rattle.v_syntax.specs.declared.tree.Select.{Select, Index, PartUp, PartDown}
use Rattle.v_syntax.specs.declared.tree.Selects.{Selects, One, Two}
use Rattle.v_syntax.specs.Tree.{tree_of, select_of, selects_of, expressions_of}
use Rattle.v_value.specs.Narrow.{IsNarrow, AreNarrow, IsSelectNarrow, AreSelectsNarrow}
use Rattle.v_value.specs.Links.{AreLinksNarrow, AreTestsNarrow, AreChoicesNarrow}
use Rattle.v_value.proofs.Narrows as narrow

module _ (s : Scope) (e : Expression) (h : IsNarrow s (tree_of e)) where
  pub of-Name : (m : Bor (List ℕ)) (x : Selects) → e ≡ Name m x → IsNarrow s (pure.name m.now (selects_of x))
  of-Name m x i = subst (λ y. IsNarrow s (tree_of y)) i h

  pub of-Concatenation : (v : Vec Expression Global) → e ≡ Concatenation v → (es : List Expression) → es ≡ v.items → AreNarrow s (expressions_of es)
  of-Concatenation v i es j = subst (λ l. AreNarrow s (expressions_of l)) (sym j) (narrow.of-Concatenation s e h v i).1

  pub of-Replication : (b : Box Expression Global) (v : Vec Expression Global) → e ≡ Replication b v → (es : List Expression) → es ≡ v.items → AreNarrow s (expressions_of es)
  of-Replication b v i es j = subst (λ l. AreNarrow s (expressions_of l)) (sym j) (narrow.of-Replication s e h b v i).3

  pub of-AsSigned : (b : Box Expression Global) → e ≡ AsSigned b → (x : Expression) → x ≡ b.value → IsNarrow s (tree_of x)
  of-AsSigned b i x j = subst (λ y. IsNarrow s (tree_of y)) (sym j) (subst (λ y. IsNarrow s (tree_of y)) i h)

  pub of-AsUnsigned : (b : Box Expression Global) → e ≡ AsUnsigned b → (x : Expression) → x ≡ b.value → IsNarrow s (tree_of x)
  of-AsUnsigned b i x j = subst (λ y. IsNarrow s (tree_of y)) (sym j) (subst (λ y. IsNarrow s (tree_of y)) i h)

  pub of-Prefix : (os : Vec PrefixOperator Global) (b : Box Expression Global) → e ≡ Prefix os b → (x : Expression) → x ≡ b.value → IsNarrow s (tree_of x)
  of-Prefix os b i x j = subst (λ y. IsNarrow s (tree_of y)) (sym j) (narrow.of-Prefix s e h os b i)

  pub of-Binary : (b : Box Expression Global) (v : Vec BinaryLink Global) → e ≡ Binary b v → (x : Expression) → x ≡ b.value → IsNarrow s (tree_of x)
  of-Binary b v i x j = subst (λ y. IsNarrow s (tree_of y)) (sym j) (narrow.of-Binary s e h b v i).0

  pub links-Binary : (b : Box Expression Global) (v : Vec BinaryLink Global) → e ≡ Binary b v → (ls : List BinaryLink) → ls ≡ v.items → AreLinksNarrow s ls
  links-Binary b v i ls j = subst (AreLinksNarrow s) (sym j) (narrow.of-Binary s e h b v i).1

  pub of-Test : (b : Box Expression Global) (v : Vec TestLink Global) → e ≡ Test b v → (x : Expression) → x ≡ b.value → IsNarrow s (tree_of x)
  of-Test b v i x j = subst (λ y. IsNarrow s (tree_of y)) (sym j) (narrow.of-Test s e h b v i).0

  pub links-Test : (b : Box Expression Global) (v : Vec TestLink Global) → e ≡ Test b v → (ls : List TestLink) → ls ≡ v.items → AreTestsNarrow s ls
  links-Test b v i ls j = subst (AreTestsNarrow s) (sym j) (narrow.of-Test s e h b v i).1

  pub choices-Conditional : (v : Vec Choice Global) (b : Box Expression Global) → e ≡ Conditional v b → (cs : List Choice) → cs ≡ v.items → AreChoicesNarrow s cs
  choices-Conditional v b i cs j = subst (AreChoicesNarrow s) (sym j) (narrow.of-Conditional s e h v b i).0

  pub of-Conditional : (v : Vec Choice Global) (b : Box Expression Global) → e ≡ Conditional v b → (x : Expression) → x ≡ b.value → IsNarrow s (tree_of x)
  of-Conditional v b i x j = subst (λ y. IsNarrow s (tree_of y)) (sym j) (narrow.of-Conditional s e h v b i).1

module _ (s : Scope) (y : Select) (h : IsSelectNarrow s (select_of y)) where
  pub of-Index : (b : Box Expression Global) → y ≡ Index b → (x : Expression) → x ≡ b.value → IsNarrow s (tree_of x)
  of-Index b i x j = subst (λ z. IsNarrow s (tree_of z)) (sym j) (subst (λ z. IsSelectNarrow s (select_of z)) i h)

  pub of-PartUp : (b n : Box Expression Global) → y ≡ PartUp b n → (x : Expression) → x ≡ b.value → IsNarrow s (tree_of x)
  of-PartUp b n i x j = subst (λ z. IsNarrow s (tree_of z)) (sym j) (subst (λ z. IsSelectNarrow s (select_of z)) i h).1

  pub of-PartDown : (b n : Box Expression Global) → y ≡ PartDown b n → (x : Expression) → x ≡ b.value → IsNarrow s (tree_of x)
  of-PartDown b n i x j = subst (λ z. IsNarrow s (tree_of z)) (sym j) (subst (λ z. IsSelectNarrow s (select_of z)) i h).1

module _ (s : Scope) (y : Selects) (h : AreSelectsNarrow s (selects_of y)) where
  pub of-One : (x : Select) → y ≡ One x → IsSelectNarrow s (select_of x)
  of-One x i = subst (λ z. AreSelectsNarrow s (selects_of z)) i h

  pub of-Two : (x z : Select) → y ≡ Two x z → IsSelectNarrow s (select_of x) × IsSelectNarrow s (select_of z)
  of-Two x z i = subst (λ w. AreSelectsNarrow s (selects_of w)) i h
