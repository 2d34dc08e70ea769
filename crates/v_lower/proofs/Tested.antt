-- Chains of tests, from their first.
use Rattle.std.proofs.Common.{◌≡◌, ◌∙◌, ◌<◌, ◌==◌, refl, sym, ap, true, false, List, [], ◌∷◌, length, get_or, arith}
use Rattle.std.proofs.lemmas.Bool.{false≢true, eqb-true}
use Rattle.std.specs.declared.boxed.Box.{Box}
use Rattle.std.specs.declared.vec.Vec.{Vec}
use Rattle.std.specs.declared.alloc.Global.{Global}
use Rattle.verilog_meaning.specs.Expression.{Scope}
use Rattle.v_syntax.specs.declared.tree.TestLink.{TestLink}
use Rattle.v_syntax.specs.declared.tree.Expression.{Expression, Test}
use Rattle.v_syntax.specs.Tree.{tree_of}
use Rattle.v_syntax.specs.Chain.{test_linked}
use Rattle.v_syntax.proofs.Trees.{tree_of-Test}
use Rattle.v_lower.specs.Lowered.{Images}
use Rattle.v_lower.specs.Walking.{IsSound, AreTestsSound}
use Rattle.v_lower.proofs.Turns.{drop_item, test-sound}

pub no_tests : (ls : List TestLink) → (length ls == 0) ≡ true → ls ≡ []
no_tests [] h = refl
no_tests (l ∷ ls) h = absurd (omega (arith, eqb-true (length (l ∷ ls)) 0 h))

pub some_tests : (ls : List TestLink) → (length ls == 0) ≡ false → 0 < length ls
some_tests [] h = absurd (false≢true (sym h))
some_tests (l ∷ ls) h = omega arith

-- without a test the whole is its operand
pub only-first : (e : Expression) (b : Box Expression Global) (a : Vec TestLink Global) → e ≡ Test b a → (x : Expression) → x ≡ b.value → a.items ≡ [] → tree_of e ≡ tree_of x
only-first e b a i x j k = ap tree_of i ∙ (tree_of-Test b a ∙ (ap (λ ls. test_linked ls (tree_of b.value)) k ∙ ap tree_of (sym j)))

pub first-test-sound : (s : Scope) (im : Images) (ls : List TestLink) (l : TestLink) → 0 < length ls → l ≡ get_or ls 0 l → AreTestsSound s ls → IsSound s (tree_of l.operand)
first-test-sound s im ls l some is h = test-sound s im ls 0 l (drop_item ls 0 l l some is) h
