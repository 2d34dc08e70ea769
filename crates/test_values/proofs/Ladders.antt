-- A ladder with an arm more at its end fits words where the rest does.
use Rattle.std.proofs.Common.{◌≡◌, ℕ, refl, ap, sym, subst, List, [], ◌∷◌, ◌++◌, Option, Some, None}
use Rattle.verilog_trees.specs.Syntax as pure
use Rattle.verilog_meaning.specs.Expression.{Scope}
use Rattle.v_syntax.specs.declared.tree.Arm.{Arm}
use Rattle.v_syntax.specs.declared.tree.Expression.{Expression}
use Rattle.std.specs.Borrow.{Bor}
use Rattle.std.specs.declared.boxed.Box.{Box}
use Rattle.std.specs.declared.alloc.Global.{Global}
use Rattle.v_syntax.specs.declared.tree.Selects.{Whole}
use Rattle.v_syntax.specs.declared.tree.Target.{Target, Place}
use Rattle.v_syntax.specs.declared.tree.Statement.{Blocking}
use Rattle.v_syntax.specs.Tree.{tree_of, target_of, statement_of, arm_before, or_empty}
use Rattle.v_value.specs.Narrow.{IsNarrow, HasNarrowObjects}
use Rattle.v_statement.specs.Statements.{IsNarrowStatement, IsNarrowTarget, arm_list}
use Rattle.test_values.specs.Small.{IsSmall, IsSmallStatement}

-- What stands behind the arms may be anything small.
abbrev pub AreSmallArms : List Arm → Type 0
AreSmallArms as_ = (s : Scope) (y : Option pure.Statement) → HasNarrowObjects s → IsNarrowStatement s (or_empty y) → IsNarrowStatement s (or_empty (arm_list as_ y))

arm_list-push : (as_ : List Arm) (a : Arm) (y : Option pure.Statement)
    → arm_list (as_ ++ a ∷ []) y ≡ arm_list as_ (Some (arm_before (tree_of a.condition) (statement_of a.statement) y))
arm_list-push [] a y = refl
arm_list-push (b ∷ as_) a y = ap (λ o. Some (arm_before (tree_of b.condition) (statement_of b.statement) o)) (arm_list-push as_ a y)

narrow_arm : (s : Scope) (c : pure.Expression) (x : pure.Statement) (y : Option pure.Statement)
    → IsNarrow s c → IsNarrowStatement s x → IsNarrowStatement s (or_empty y) → IsNarrowStatement s (arm_before c x y)
narrow_arm s c x None h k n = (h, k)
narrow_arm s c x (Some y) h k n = (h, k, n)

pub one_more_arm : (as_ : List Arm) (a : Arm) → AreSmallArms as_ → IsSmall a.condition → IsSmallStatement a.statement
    → AreSmallArms (as_ ++ a ∷ [])
one_more_arm as_ a h i k = λ s y o n.
    subst (λ z. IsNarrowStatement s (or_empty z)) (sym (arm_list-push as_ a y))
    (h s (Some (arm_before (tree_of a.condition) (statement_of a.statement) y)) o (narrow_arm s (tree_of a.condition) (statement_of a.statement) y (i s) (k s o) n))

-- an assignment to a whole name
pub small_assignment : (n : Bor (List ℕ)) (t : Box Target Global) (e : Expression) → t.value ≡ Place n Whole → IsSmall e → IsSmallStatement (Blocking t e)
small_assignment n t e is h = λ s o. (subst (λ x. IsNarrowTarget s (target_of x)) (sym is) (tt, (o n.now).0), h s)
