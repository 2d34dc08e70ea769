-- Flat targets and statements from flat parts.
use Rattle.std.proofs.Common.{◌≡◌, List, [], ◌∷◌, Option, Some, None, ℕ, sym, subst}
use Rattle.std.specs.declared.boxed.Box.{Box}
use Rattle.std.specs.declared.vec.Vec.{Vec}
use Rattle.std.specs.declared.alloc.Global.{Global}
use Rattle.std.specs.Borrow.{Bor}
use Rattle.v_syntax.specs.declared.tree.Target.{Target, Joined, Row_of-Target, end_of-Target, more_of-Target, items-the_row-Target, items_hidden-the_row-Target-0}
use Rattle.v_syntax.specs.declared.tree.Target.TheBlock.{hidden-the_row-Target-0}
use Rattle.v_syntax.specs.declared.tree.Statement.{Statement, If, Case, Block, Row_of-Arm, end_of-Arm, more_of-Arm, items-the_row-Arm, items_hidden-the_row-Arm-0, Row_of-CaseItem, end_of-CaseItem, more_of-CaseItem, items-the_row-CaseItem, items_hidden-the_row-CaseItem-1, Row_of-Statement, end_of-Statement, more_of-Statement, items-the_row-Statement, items_hidden-the_row-Statement-2}
use Rattle.v_syntax.specs.declared.tree.CaseItem.TheBlock.{hidden-the_row-Arm-0, hidden-the_row-CaseItem-1, hidden-the_row-Statement-2}
use Rattle.v_syntax.specs.declared.tree.Arm.{Arm}
use Rattle.v_syntax.specs.declared.tree.CaseItem.{CaseItem, Values, Default}
use Rattle.v_syntax.specs.declared.tree.CaseKind.{CaseKind}
use Rattle.v_syntax.specs.declared.tree.Expression.{Expression}
use Rattle.v_expr.specs.Flat.{IsFlat, IsNotEmpty, Each}
use Rattle.v_body.specs.Flat.{IsFlatTarget, AreFlatTargets, IsNoIf, HasArms, IsFlatStatement, IsFlatElse, AreFlatArms, AreFlatItems, AreFlatStatements, IsFlatArm, IsFlatCaseItem}
use mathlib.Core.Former as Former

targets-row : (n : Former.Count) (k : Row_of-Target n) → Each IsFlatTarget (items-the_row-Target n k) → AreFlatTargets k
targets-row n end_of-Target h = tt
targets-row n (more_of-Target t k) h = (h.0, targets-row _ k h.1)

pub flat-Joined : (v : Vec Target Global) → Each IsFlatTarget v.items → IsFlatTarget (Joined v)
flat-Joined v h = targets-row _ (hidden-the_row-Target-0 v) (subst (Each IsFlatTarget) (sym (items_hidden-the_row-Target-0 v)) h)

arms-row : (n : Former.Count) (k : Row_of-Arm n) → Each IsFlatArm (items-the_row-Arm n k) → AreFlatArms k
arms-row n end_of-Arm h = tt
arms-row n (more_of-Arm c x k) h = (h.0.0, h.0.1, arms-row _ k h.1)

some-arms : (n : Former.Count) (k : Row_of-Arm n) → IsNotEmpty (items-the_row-Arm n k) → HasArms k
some-arms n end_of-Arm h = h
some-arms n (more_of-Arm c x k) h = tt

items-row : (n : Former.Count) (k : Row_of-CaseItem n) → Each IsFlatCaseItem (items-the_row-CaseItem n k) → AreFlatItems k
items-row n end_of-CaseItem h = tt
items-row n (more_of-CaseItem (Values es x) k) h = (h.0.0, h.0.1, items-row _ k h.1)
items-row n (more_of-CaseItem (Default x) k) h = (h.0, items-row _ k h.1)

statements-row : (n : Former.Count) (k : Row_of-Statement n) → Each IsFlatStatement (items-the_row-Statement n k) → AreFlatStatements k
statements-row n end_of-Statement h = tt
statements-row n (more_of-Statement x k) h = (h.0, statements-row _ k h.1)

pub flat-Alone : (v : Vec Arm Global) → IsNotEmpty v.items → Each IsFlatArm v.items → IsFlatStatement (If v None)
flat-Alone v some arms = (
  some-arms _ (hidden-the_row-Arm-0 v) (subst IsNotEmpty (sym (items_hidden-the_row-Arm-0 v)) some),
  arms-row _ (hidden-the_row-Arm-0 v) (subst (Each IsFlatArm) (sym (items_hidden-the_row-Arm-0 v)) arms),
  tt,
)

pub flat-If : (v : Vec Arm Global) (b : Box Statement Global) (last : Statement) → b.value ≡ last → IsNotEmpty v.items → Each IsFlatArm v.items → IsNoIf last → IsFlatStatement last → IsFlatStatement (If v (Some b))
flat-If v b last is some arms none flat = (
  some-arms _ (hidden-the_row-Arm-0 v) (subst IsNotEmpty (sym (items_hidden-the_row-Arm-0 v)) some),
  arms-row _ (hidden-the_row-Arm-0 v) (subst (Each IsFlatArm) (sym (items_hidden-the_row-Arm-0 v)) arms),
  (subst IsNoIf (sym is) none, subst IsFlatStatement (sym is) flat),
)

pub flat-Case : (k : CaseKind) (e : Expression) (v : Vec CaseItem Global) → IsFlat e → Each IsFlatCaseItem v.items → IsFlatStatement (Case k e v)
flat-Case k e v subject items = (subject, items-row _ (hidden-the_row-CaseItem-1 v) (subst (Each IsFlatCaseItem) (sym (items_hidden-the_row-CaseItem-1 v)) items))

pub flat-Block : (n : Option (Bor (List ℕ))) (v : Vec Statement Global) → Each IsFlatStatement v.items → IsFlatStatement (Block n v)
flat-Block n v h = statements-row _ (hidden-the_row-Statement-2 v) (subst (Each IsFlatStatement) (sym (items_hidden-the_row-Statement-2 v)) h)
