-- The trees that the code's nodes stand for, over the lists of their parts.
use Rattle.std.proofs.Common.{◌≡◌, ◌∙◌, refl, sym, ap, List, [], ◌∷◌, map, Option, Some, None, ℕ}
use Rattle.std.specs.declared.boxed.Box.{Box}
use Rattle.std.specs.declared.vec.Vec.{Vec}
use Rattle.std.specs.declared.alloc.Global.{Global}
use Rattle.std.specs.Borrow.{Bor}
use Rattle.verilog_trees.specs.Syntax as pure
use Rattle.v_syntax.specs.declared.tree.Target.{Target, Joined, Row_of-Target, end_of-Target, more_of-Target, items-the_row-Target, items_hidden-the_row-Target-0}
use Rattle.v_syntax.specs.declared.tree.Target.TheBlock.{hidden-the_row-Target-0}
use Rattle.v_syntax.specs.declared.tree.Statement.{Statement, If, Case, Block, Row_of-Arm, end_of-Arm, more_of-Arm, items-the_row-Arm, items_hidden-the_row-Arm-0, Row_of-CaseItem, end_of-CaseItem, more_of-CaseItem, items-the_row-CaseItem, items_hidden-the_row-CaseItem-1, Row_of-Statement, end_of-Statement, more_of-Statement, items-the_row-Statement, items_hidden-the_row-Statement-2}
use Rattle.v_syntax.specs.declared.tree.CaseItem.TheBlock.{hidden-the_row-Arm-0, hidden-the_row-CaseItem-1, hidden-the_row-Statement-2}
use Rattle.v_syntax.specs.declared.tree.Arm.{Arm}
use Rattle.v_syntax.specs.declared.tree.CaseItem.{CaseItem, Values, Default}
use Rattle.v_syntax.specs.declared.tree.CaseKind.{CaseKind as CodeKind}
use Rattle.v_syntax.specs.declared.tree.Expression.{Expression as CodeExpression}
use Rattle.v_syntax.specs.Tree.{tree_of, target_of, targets_of, statement_of, arms_before, statements_of, items_of, arm_before, or_empty, name_of_option, case_kind_of, expressions_of}
use Rattle.verilog_text.specs.Token.{left_brace, right_brace, Token}
use Rattle.v_expr.specs.Repeat.{Read}
use Rattle.v_expr.specs.Reading.{after_mark, as_expressions}
use Rattle.v_expr.proofs.Repeat.{some}
use Rattle.v_body.specs.Words.{listed_at}
use Rattle.v_body.specs.Targets.{as_targets, joined_at, outer_target_at}
use Rattle.v_body.specs.Statements.{as_items, as_statements}
use Rattle.v_body.specs.View.{arm_of, item_of, ladder_of}
use mathlib.Core.Former as Former

targets-row : (n : Former.Count) (k : Row_of-Target n) → targets_of k ≡ as_targets (map target_of (items-the_row-Target n k))
targets-row n end_of-Target = refl
targets-row n (more_of-Target t k) = ap (pure.target (target_of t)) (targets-row _ k)

pub target_of-Joined : (v : Vec Target Global) → target_of (Joined v) ≡ pure.joined (as_targets (map target_of v.items))
target_of-Joined v = ap pure.joined (targets-row _ (hidden-the_row-Target-0 v) ∙ ap (λ (ts : List Target). as_targets (map target_of ts)) (items_hidden-the_row-Target-0 v))

pub joined_read : (one : List Token → Read Token pure.Target) (ts inside : List Token) (v : Vec Target Global) (rest : List Token) → after_mark left_brace ts ≡ Some inside
    → listed_at right_brace one inside ≡ Some (map target_of v.items, rest) → outer_target_at one ts ≡ Some (target_of (Joined v), rest)
unfolding outer_target_at joined_at
joined_read one ts inside v rest e f =
    let here : outer_target_at one ts ≡ Some (pure.joined (as_targets (map target_of v.items)), rest) = rw (e, f) refl in
    here ∙ ap (λ (t : pure.Target). some (t, rest)) (sym (target_of-Joined v))

-- ---- statements

arms-row : (n : Former.Count) (k : Row_of-Arm n) (y : Option pure.Statement) → arms_before k y ≡ ladder_of (map arm_of (items-the_row-Arm n k)) y
arms-row n end_of-Arm y = refl
arms-row n (more_of-Arm c x k) y = ap (λ (o : Option pure.Statement). Some (arm_before (tree_of c) (statement_of x) o)) (arms-row _ k y)

statements-row : (n : Former.Count) (k : Row_of-Statement n) → statements_of k ≡ as_statements (map statement_of (items-the_row-Statement n k))
statements-row n end_of-Statement = refl
statements-row n (more_of-Statement x k) = ap (pure.statement (statement_of x)) (statements-row _ k)

values-list : (es : List CodeExpression) → expressions_of es ≡ as_expressions (map tree_of es)
values-list [] = refl
values-list (e ∷ es) = ap (pure.expression (tree_of e)) (values-list es)

items-row : (n : Former.Count) (k : Row_of-CaseItem n) → items_of k ≡ as_items (map item_of (items-the_row-CaseItem n k))
items-row n end_of-CaseItem = refl
items-row n (more_of-CaseItem (Values es x) k) =
    ap (λ (vs : pure.Expressions). pure.arm vs (statement_of x) (items_of k)) (values-list es.items) ∙ ap (pure.arm (as_expressions (map tree_of es.items)) (statement_of x)) (items-row _ k)
items-row n (more_of-CaseItem (Default x) k) = ap (pure.default_arm (statement_of x)) (items-row _ k)

pub statement_of-Alone : (v : Vec Arm Global) → statement_of (If v None) ≡ or_empty (ladder_of (map arm_of v.items) None)
statement_of-Alone v = ap or_empty (arms-row _ (hidden-the_row-Arm-0 v) None ∙ ap (λ (gs : List Arm). ladder_of (map arm_of gs) None) (items_hidden-the_row-Arm-0 v))

pub statement_of-If : (v : Vec Arm Global) (b : Box Statement Global) → statement_of (If v (Some b)) ≡ or_empty (ladder_of (map arm_of v.items) (Some (statement_of b.value)))
statement_of-If v b =
    ap or_empty (arms-row _ (hidden-the_row-Arm-0 v) (Some (statement_of b.value)) ∙ ap (λ (gs : List Arm). ladder_of (map arm_of gs) (Some (statement_of b.value))) (items_hidden-the_row-Arm-0 v))

pub statement_of-Case : (k : CodeKind) (e : CodeExpression) (v : Vec CaseItem Global) → statement_of (Case k e v) ≡ pure.case (case_kind_of k) (tree_of e) (as_items (map item_of v.items))
statement_of-Case k e v =
    ap (pure.case (case_kind_of k) (tree_of e)) (items-row _ (hidden-the_row-CaseItem-1 v) ∙ ap (λ (is : List CaseItem). as_items (map item_of is)) (items_hidden-the_row-CaseItem-1 v))

pub statement_of-Block : (n : Option (Bor (List ℕ))) (v : Vec Statement Global) → statement_of (Block n v) ≡ pure.block (name_of_option n) (as_statements (map statement_of v.items))
statement_of-Block n v =
    ap (pure.block (name_of_option n)) (statements-row _ (hidden-the_row-Statement-2 v) ∙ ap (λ (ss : List Statement). as_statements (map statement_of ss)) (items_hidden-the_row-Statement-2 v))
