-- Whether each name in a target or a statement may be used, from what is said of its parts, form by form.
use Rattle.std.proofs.Common.{◌≡◌, ◌∙◌, refl, ap, sym, ℕ, Bool, true, ◌&&◌, List, ◌++◌, Option, Some, None}
use Rattle.std.specs.declared.boxed.Box.{Box}
use Rattle.std.specs.declared.vec.Vec.{Vec}
use Rattle.std.specs.declared.alloc.Global.{Global}
use Rattle.std.specs.Borrow.{Bor}
use Rattle.wb_values.specs.Value.{Name}
use Rattle.verilog_trees.specs.Syntax as pure
use Rattle.verilog_designs.specs.Names.{names_in, names_in_all, names_in_target, names_in_targets, names_in_statement, names_in_statements, names_in_items}
use Rattle.v_syntax.specs.declared.tree.Expression.{Expression}
use Rattle.v_syntax.specs.declared.tree.Selects.{Selects}
use Rattle.v_syntax.specs.declared.tree.Target.{Target, Place, Joined, Row_of-Target, end_of-Target, more_of-Target, items-the_row-Target, items_hidden-the_row-Target-0}
use Rattle.v_syntax.specs.declared.tree.Target.TheBlock.{hidden-the_row-Target-0}
use Rattle.v_syntax.specs.declared.tree.Statement.{Statement, Empty, Blocking, Nonblocking, If, Case, Block, Row_of-Arm, end_of-Arm, more_of-Arm, items-the_row-Arm, items_hidden-the_row-Arm-0, Row_of-CaseItem, end_of-CaseItem, more_of-CaseItem, items-the_row-CaseItem, items_hidden-the_row-CaseItem-1, Row_of-Statement, end_of-Statement, more_of-Statement, items-the_row-Statement, items_hidden-the_row-Statement-2}
use Rattle.v_syntax.specs.declared.tree.CaseItem.TheBlock.{hidden-the_row-Arm-0, hidden-the_row-CaseItem-1, hidden-the_row-Statement-2}
use Rattle.v_syntax.specs.declared.tree.Arm.{Arm}
use Rattle.v_syntax.specs.declared.tree.CaseItem.{CaseItem, Values, Default}
use Rattle.v_syntax.specs.declared.tree.CaseKind.{CaseKind as CodeKind}
use Rattle.v_syntax.specs.Tree.{tree_of, selects_of, target_of, targets_of, statement_of, arms_before, statements_of, items_of, arm_before, or_empty, expressions_of}
use Rattle.v_hier.specs.Reading.{all_known, expression_known, selects_known, target_known, statement_known, parts_known, targets_known, arms_known, statements_known, item_known, items_known}
use Rattle.v_hier.proofs.Listed.{and-true, and-assoc, known-append, known-both}
use Rattle.v_hier.proofs.Arms.{all_parts}
use mathlib.Core.Former as Former

-- ---- targets

targets-row : (k : Name → Bool) (n : Former.Count) (r : Row_of-Target n) → all_known k (names_in_targets (targets_of r)) ≡ targets_known k (items-the_row-Target n r)
unfolding target_known
targets-row k n end_of-Target = refl
targets-row k n (more_of-Target t r) = known-both k (names_in_target (target_of t)) _ _ _ refl (targets-row k _ r)

-- t is the target, and r the result
module _ (k : Name → Bool) (t : Target) (r : Bool) where
  pub at-Place : (m : Bor (List ℕ)) (x : Selects) → t ≡ Place m x → (u w : Bool) → u ≡ k m.now → w ≡ selects_known k (selects_of x) → r ≡ u && w → r ≡ target_known k (target_of t)
  unfolding target_known selects_known
  at-Place m x i u w is_u is_w h = h ∙ ap (λ b. b && w) is_u ∙ ap (λ b. k m.now && b) is_w ∙ sym (ap (λ y. target_known k (target_of y)) i)

  pub at-Joined : (v : Vec Target Global) → t ≡ Joined v → (ts : List Target) → ts ≡ v.items → r ≡ targets_known k ts → r ≡ target_known k (target_of t)
  unfolding target_known
  at-Joined v i ts j h =
      h ∙ ap (targets_known k) (j ∙ sym (items_hidden-the_row-Target-0 v)) ∙ sym (targets-row k _ (hidden-the_row-Target-0 v))
      ∙ sym (ap (λ y. target_known k (target_of y)) i)

pub assignment-known : (k : Name → Bool) (t : pure.Target) (e : pure.Expression) (u w : Bool) → u ≡ target_known k t → w ≡ expression_known k e
    → (u && w) ≡ all_known k (names_in_target t ++ names_in e)
unfolding target_known expression_known
assignment-known k t e u w is_u is_w = sym (known-both k (names_in_target t) (names_in e) u w (sym is_u) (sym is_w))

-- ---- statements

statements-row : (k : Name → Bool) (n : Former.Count) (r : Row_of-Statement n) → all_known k (names_in_statements (statements_of r)) ≡ statements_known k (items-the_row-Statement n r)
unfolding statement_known
statements-row k n end_of-Statement = refl
statements-row k n (more_of-Statement x r) = known-both k (names_in_statement (statement_of x)) _ _ _ refl (statements-row k _ r)

items-row : (k : Name → Bool) (n : Former.Count) (r : Row_of-CaseItem n) → all_known k (names_in_items (items_of r)) ≡ items_known k (items-the_row-CaseItem n r)
unfolding statement_known
items-row k n end_of-CaseItem = refl
items-row k n (more_of-CaseItem (Values es x) r) =
    known-both k (names_in_all (expressions_of es.items) ++ names_in_statement (statement_of x)) _ _ _
    (known-both k (names_in_all (expressions_of es.items)) (names_in_statement (statement_of x)) _ _ (all_parts k es.items) refl) (items-row k _ r)
items-row k n (more_of-CaseItem (Default x) r) = known-both k (names_in_statement (statement_of x)) _ _ _ refl (items-row k _ r)

before-known : (k : Name → Bool) (c : pure.Expression) (x : pure.Statement) (o : Option pure.Statement)
    → statement_known k (arm_before c x o) ≡ (expression_known k c && statement_known k x) && statement_known k (or_empty o)
unfolding statement_known expression_known
before-known k c x None = known-append k (names_in c) (names_in_statement x) ∙ sym (and-true _)
before-known k c x (Some y) = known-both k (names_in c ++ names_in_statement x) (names_in_statement y) _ _ (known-append k (names_in c) (names_in_statement x)) refl

arms-row : (k : Name → Bool) (n : Former.Count) (r : Row_of-Arm n) (y : Option pure.Statement)
    → statement_known k (or_empty (arms_before r y)) ≡ arms_known k (items-the_row-Arm n r) && statement_known k (or_empty y)
arms-row k n end_of-Arm y = refl
arms-row k n (more_of-Arm c x r) y =
    before-known k (tree_of c) (statement_of x) (arms_before r y)
    ∙ ap (λ b. (expression_known k (tree_of c) && statement_known k (statement_of x)) && b) (arms-row k _ r y)
    ∙ sym (and-assoc (expression_known k (tree_of c) && statement_known k (statement_of x)) _ _)

empty-known : (k : Name → Bool) → statement_known k (or_empty None) ≡ true
unfolding statement_known
empty-known k = refl

-- x is the statement, and r the result
module _ (k : Name → Bool) (x : Statement) (r : Bool) where
  pub at-Empty : x ≡ Empty → r ≡ true → r ≡ statement_known k (statement_of x)
  unfolding statement_known
  at-Empty i h = h ∙ sym (ap (λ y. statement_known k (statement_of y)) i)

  pub at-Blocking : (t : Box Target Global) (e : Expression) → x ≡ Blocking t e → (u : Target) → u ≡ t.value → r ≡ all_known k (names_in_target (target_of u) ++ names_in (tree_of e)) → r ≡ statement_known k (statement_of x)
  unfolding statement_known
  at-Blocking t e i u j h = h ∙ ap (λ z. all_known k (names_in_target (target_of z) ++ names_in (tree_of e))) j ∙ sym (ap (λ y. statement_known k (statement_of y)) i)

  pub at-Nonblocking : (t : Box Target Global) (e : Expression) → x ≡ Nonblocking t e → (u : Target) → u ≡ t.value → r ≡ all_known k (names_in_target (target_of u) ++ names_in (tree_of e)) → r ≡ statement_known k (statement_of x)
  unfolding statement_known
  at-Nonblocking t e i u j h = h ∙ ap (λ z. all_known k (names_in_target (target_of z) ++ names_in (tree_of e))) j ∙ sym (ap (λ y. statement_known k (statement_of y)) i)

  -- with nothing after the last else
  pub at-If-alone : (v : Vec Arm Global) (o : Option (Box Statement Global)) → x ≡ If v o → o ≡ None → (arms : List Arm) → arms ≡ v.items → r ≡ arms_known k arms && true → r ≡ statement_known k (statement_of x)
  at-If-alone v o i none arms j h =
      h ∙ ap (λ b. arms_known k arms && b) (sym (empty-known k)) ∙ ap (λ as_. arms_known k as_ && statement_known k (or_empty None)) (j ∙ sym (items_hidden-the_row-Arm-0 v))
      ∙ sym (arms-row k _ (hidden-the_row-Arm-0 v) None) ∙ sym (ap (λ y. statement_known k (statement_of y)) (i ∙ ap (If v) none))

  -- w is what is said of the statement after the last else
  pub at-If : (v : Vec Arm Global) (o : Option (Box Statement Global)) → x ≡ If v o → (b : Box Statement Global) → o ≡ Some b → (arms : List Arm) → arms ≡ v.items
      → (y : Statement) → y ≡ b.value → (w : Bool) → w ≡ statement_known k (statement_of y) → r ≡ arms_known k arms && w → r ≡ statement_known k (statement_of x)
  at-If v o i b some arms j y l w is_w h =
      h ∙ ap (λ z. arms_known k arms && z) (is_w ∙ ap (λ z. statement_known k (statement_of z)) l)
      ∙ ap (λ as_. arms_known k as_ && statement_known k (statement_of b.value)) (j ∙ sym (items_hidden-the_row-Arm-0 v))
      ∙ sym (arms-row k _ (hidden-the_row-Arm-0 v) (Some (statement_of b.value))) ∙ sym (ap (λ y. statement_known k (statement_of y)) (i ∙ ap (If v) some))

  pub at-Case : (kind : CodeKind) (e : Expression) (v : Vec CaseItem Global) → x ≡ Case kind e v → (items : List CaseItem) → items ≡ v.items
      → (u w : Bool) → u ≡ expression_known k (tree_of e) → w ≡ items_known k items → r ≡ u && w → r ≡ statement_known k (statement_of x)
  unfolding statement_known expression_known
  at-Case kind e v i items j u w is_u is_w h =
      h ∙ sym (known-both k (names_in (tree_of e)) (names_in_items (items_of (hidden-the_row-CaseItem-1 v))) u w (sym is_u)
      (items-row k _ (hidden-the_row-CaseItem-1 v) ∙ ap (items_known k) (items_hidden-the_row-CaseItem-1 v ∙ sym j) ∙ sym is_w))
      ∙ sym (ap (λ y. statement_known k (statement_of y)) i)

  pub at-Block : (m : Option (Bor (List ℕ))) (v : Vec Statement Global) → x ≡ Block m v → (xs : List Statement) → xs ≡ v.items → r ≡ statements_known k xs → r ≡ statement_known k (statement_of x)
  unfolding statement_known
  at-Block m v i xs j h =
      h ∙ ap (statements_known k) (j ∙ sym (items_hidden-the_row-Statement-2 v)) ∙ sym (statements-row k _ (hidden-the_row-Statement-2 v))
      ∙ sym (ap (λ y. statement_known k (statement_of y)) i)

-- i is the item of a case, and r the result
module _ (k : Name → Bool) (i : CaseItem) (r : Bool) where
  pub at-Values : (v : Vec Expression Global) (x : Statement) → i ≡ Values v x → (es : List Expression) → es ≡ v.items
      → (u w : Bool) → u ≡ parts_known k es → w ≡ statement_known k (statement_of x) → r ≡ u && w → r ≡ item_known k i
  at-Values v x is es j u w is_u is_w h =
      h ∙ ap (λ b. b && w) (is_u ∙ ap (parts_known k) j) ∙ ap (λ b. parts_known k v.items && b) is_w ∙ sym (ap (item_known k) is)

  pub at-Default : (x : Statement) → i ≡ Default x → r ≡ statement_known k (statement_of x) → r ≡ item_known k i
  at-Default x is h = h ∙ sym (ap (item_known k) is)
