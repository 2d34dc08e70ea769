-- A chain with one link more.
use Rattle.std.proofs.Common.{◌≡◌, List, [], ◌∷◌, ◌++◌, refl, ap, ◌∙◌}
use Rattle.std.specs.declared.vec.Vec.{Vec}
use Rattle.std.specs.declared.boxed.Box.{Box}
use Rattle.std.specs.declared.alloc.Global.{Global}
use Rattle.v_syntax.specs.declared.tree.Expression.{Expression, Binary, Test}
use Rattle.v_syntax.specs.declared.tree.BinaryLink.{BinaryLink}
use Rattle.v_syntax.specs.declared.tree.TestLink.{TestLink}
use Rattle.verilog_trees.specs.Syntax as pure
use Rattle.v_syntax.specs.Tree.{tree_of, combined, tested}
use Rattle.v_syntax.specs.Chain.{linked, test_linked}
use Rattle.v_syntax.proofs.Trees.{tree_of-Binary, tree_of-Test}

linked-push : (ls : List BinaryLink) (l : BinaryLink) (x : pure.Expression) → linked (ls ++ l ∷ []) x ≡ linked (l ∷ []) (linked ls x)
linked-push [] l x = refl
linked-push (k ∷ ls) l x = linked-push ls l (combined k.operator x (tree_of k.operand))

test_linked-push : (ls : List TestLink) (l : TestLink) (x : pure.Expression) → test_linked (ls ++ l ∷ []) x ≡ test_linked (l ∷ []) (test_linked ls x)
test_linked-push [] l x = refl
test_linked-push (k ∷ ls) l x = test_linked-push ls l (tested k.operator x (tree_of k.operand))

pub one_link : (b : Box Expression Global) (v : Vec BinaryLink Global) (ls : List BinaryLink) (l : BinaryLink) (x : Expression)
    → v.items ≡ ls ++ l ∷ [] → linked ls (tree_of b.value) ≡ tree_of x → tree_of (Binary b v) ≡ linked (l ∷ []) (tree_of x)
one_link b v ls l x pushed so_far =
    tree_of-Binary b v ∙ ap (λ ks. linked ks (tree_of b.value)) pushed ∙ linked-push ls l (tree_of b.value) ∙ ap (linked (l ∷ [])) so_far

pub one_test : (b : Box Expression Global) (v : Vec TestLink Global) (ls : List TestLink) (l : TestLink) (x : Expression)
    → v.items ≡ ls ++ l ∷ [] → test_linked ls (tree_of b.value) ≡ tree_of x → tree_of (Test b v) ≡ test_linked (l ∷ []) (tree_of x)
one_test b v ls l x pushed so_far =
    tree_of-Test b v ∙ ap (λ ks. test_linked ks (tree_of b.value)) pushed ∙ test_linked-push ls l (tree_of b.value) ∙ ap (test_linked (l ∷ [])) so_far
