-- What the rules say of statements, from what they say of their parts.
use Rattle.std.proofs.Common.{◌≡◌, ◌∙◌, refl, ap, sym, Bool, List, [], ◌∷◌, Option, Some, None}
use Rattle.std.specs.Prelude.{ℕ}
use Rattle.std.specs.declared.boxed.Box.{Box}
use Rattle.std.specs.declared.vec.Vec.{Vec}
use Rattle.std.specs.declared.alloc.Global.{Global}
use Rattle.std.specs.Borrow.{Bor}
use Rattle.verilog_trees.specs.Syntax as pure
use Rattle.verilog_meaning.specs.Expression.{Scope}
use Rattle.verilog_designs.specs.Expressions as designs
use Rattle.v_syntax.specs.declared.tree.Expression.{Expression}
use Rattle.v_syntax.specs.declared.tree.Target.{Target}
use Rattle.v_syntax.specs.declared.tree.Statement.{Statement, Empty, Blocking, Nonblocking, If, Case, Block, Row_of-Arm, end_of-Arm, more_of-Arm, items-the_row-Arm, items_hidden-the_row-Arm-0, Row_of-CaseItem, end_of-CaseItem, more_of-CaseItem, items-the_row-CaseItem, items_hidden-the_row-CaseItem-1, Row_of-Statement, end_of-Statement, more_of-Statement, items-the_row-Statement, items_hidden-the_row-Statement-2}
use Rattle.v_syntax.specs.declared.tree.CaseItem.TheBlock.{hidden-the_row-Arm-0, hidden-the_row-CaseItem-1, hidden-the_row-Statement-2}
use Rattle.v_syntax.specs.declared.tree.Arm.{Arm}
use Rattle.v_syntax.specs.declared.tree.CaseItem.{CaseItem, Values, Default}
use Rattle.v_syntax.specs.declared.tree.CaseKind.{CaseKind as CodeKind}
use Rattle.v_syntax.specs.Tree.{tree_of, target_of, statement_of, arms_before, statements_of, items_of, arm_before, or_empty, expressions_of, case_kind_of}
use Rattle.v_size.specs.declared.rule.Broken.{Broken}
use Rattle.v_size.specs.Rule.{coded, both}
use Rattle.v_size.proofs.Chains.{both-none, both-assoc}
use Rattle.v_rules.specs.Judging.{none, broken_at, value_at, values_from}
use Rattle.v_rules.specs.Targets.{block_target_at}
use Rattle.v_rules.specs.Statements.{statement_at, statements_from, ladder_from, item_at, items_from}
use mathlib.Core.Former as Former

values-broken : (s : Scope) (kind : pure.CaseKind) (es : List Expression) (a : Broken) → values_from s kind a es ≡ both a (coded (designs.broken_items s kind (expressions_of es)))
unfolding value_at
values-broken s kind [] a = both-none a
values-broken s kind (e ∷ es) a =
    values-broken s kind es (both a (coded (designs.broken_item s kind (tree_of e))))
    ∙ sym (both-assoc a (coded (designs.broken_item s kind (tree_of e))) (coded (designs.broken_items s kind (expressions_of es))))

module _ (s : Scope) (c : Bool) where
  statements-row : (n : Former.Count) (r : Row_of-Statement n) (a : Broken) → statements_from s c a (items-the_row-Statement n r) ≡ both a (coded (designs.broken_statements s c (statements_of r)))
  unfolding statement_at
  statements-row n end_of-Statement a = both-none a
  statements-row n (more_of-Statement x r) a =
      statements-row _ r (both a (coded (designs.broken_statement s c (statement_of x))))
      ∙ sym (both-assoc a (coded (designs.broken_statement s c (statement_of x))) (coded (designs.broken_statements s c (statements_of r))))

  -- an arm before what stands after it
  before : (e : pure.Expression) (x : pure.Statement) (o : Option pure.Statement)
      → both (both (broken_at s e) (statement_at s c x)) (statement_at s c (or_empty o)) ≡ statement_at s c (arm_before e x o)
  unfolding broken_at statement_at
  before e x None = sym (both-none (both (broken_at s e) (statement_at s c x)))
  before e x (Some y) = sym (both-assoc (broken_at s e) (statement_at s c x) (statement_at s c y))

  ladder-row : (n : Former.Count) (r : Row_of-Arm n) (y : Option pure.Statement) (a : Broken)
      → both (ladder_from s c a (items-the_row-Arm n r)) (statement_at s c (or_empty y)) ≡ both a (statement_at s c (or_empty (arms_before r y)))
  ladder-row n end_of-Arm y a = refl
  ladder-row n (more_of-Arm e x r) y a =
      let b : Broken = both (broken_at s (tree_of e)) (statement_at s c (statement_of x)) in
      ladder-row _ r y (both a b)
      ∙ sym (both-assoc a b (statement_at s c (or_empty (arms_before r y))))
      ∙ ap (both a) (before (tree_of e) (statement_of x) (arms_before r y))

  items-row : (kind : pure.CaseKind) (n : Former.Count) (r : Row_of-CaseItem n) (a : Broken) → items_from s c kind a (items-the_row-CaseItem n r) ≡ both a (coded (designs.broken_arms s c kind (items_of r)))
  unfolding statement_at
  items-row kind n end_of-CaseItem a = both-none a
  items-row kind n (more_of-CaseItem (Values es x) r) a =
      let v : Broken = coded (designs.broken_items s kind (expressions_of es.items)) in
      let y : Broken = coded (designs.broken_statement s c (statement_of x)) in
      let l : Broken = coded (designs.broken_arms s c kind (items_of r)) in
      items-row kind _ r (both a (both (values_from s kind none es.items) y))
      ∙ ap (λ z. both (both a (both z y)) l) (values-broken s kind es.items none)
      ∙ sym (both-assoc a (both v y) l)
      ∙ ap (both a) (sym (both-assoc v y l))
  items-row kind n (more_of-CaseItem (Default x) r) a =
      let y : Broken = coded (designs.broken_statement s c (statement_of x)) in
      let l : Broken = coded (designs.broken_arms s c kind (items_of r)) in
      items-row kind _ r (both a y) ∙ sym (both-assoc a y l)

  nothing-broken : none ≡ statement_at s c (or_empty None)
  unfolding statement_at
  nothing-broken = refl

  assigned : (t : pure.Target) (e : pure.Expression) → both (block_target_at s c t) (broken_at s e) ≡ statement_at s c (pure.blocking t e)
  unfolding block_target_at broken_at statement_at
  assigned t e = refl

  assigned-later : (t : pure.Target) (e : pure.Expression) → both (block_target_at s c t) (broken_at s e) ≡ statement_at s c (pure.nonblocking t e)
  unfolding block_target_at broken_at statement_at
  assigned-later t e = refl

  -- x is the statement, and r the result
  module _ (x : Statement) (r : Broken) where
    pub at-Empty : x ≡ Empty → r ≡ none → r ≡ statement_at s c (statement_of x)
    at-Empty i h = h ∙ nothing-broken ∙ sym (ap (λ z. statement_at s c (statement_of z)) i)

    pub at-Blocking : (t : Box Target Global) (e : Expression) → x ≡ Blocking t e → (u : Target) → u ≡ t.value → r ≡ both (block_target_at s c (target_of u)) (broken_at s (tree_of e)) → r ≡ statement_at s c (statement_of x)
    at-Blocking t e i u is h = h ∙ ap (λ z. both (block_target_at s c (target_of z)) (broken_at s (tree_of e))) is ∙ assigned (target_of t.value) (tree_of e) ∙ sym (ap (λ z. statement_at s c (statement_of z)) i)

    pub at-Nonblocking : (t : Box Target Global) (e : Expression) → x ≡ Nonblocking t e → (u : Target) → u ≡ t.value → r ≡ both (block_target_at s c (target_of u)) (broken_at s (tree_of e)) → r ≡ statement_at s c (statement_of x)
    at-Nonblocking t e i u is h = h ∙ ap (λ z. both (block_target_at s c (target_of z)) (broken_at s (tree_of e))) is ∙ assigned-later (target_of t.value) (tree_of e) ∙ sym (ap (λ z. statement_at s c (statement_of z)) i)

    -- with nothing after the last else
    pub at-If-alone : (v : Vec Arm Global) (o : Option (Box Statement Global)) → x ≡ If v o → o ≡ None → (arms : List Arm) → arms ≡ v.items
        → (w : Broken) → w ≡ none → r ≡ both (ladder_from s c none arms) w → r ≡ statement_at s c (statement_of x)
    at-If-alone v o i alone arms j w is_w h =
        h ∙ ap (both (ladder_from s c none arms)) (is_w ∙ nothing-broken)
        ∙ ap (λ as_. both (ladder_from s c none as_) (statement_at s c (or_empty None))) (j ∙ sym (items_hidden-the_row-Arm-0 v))
        ∙ ladder-row _ (hidden-the_row-Arm-0 v) None none ∙ sym (ap (λ z. statement_at s c (statement_of z)) (i ∙ ap (If v) alone))

    -- w is what the statement after the last else breaks
    pub at-If : (v : Vec Arm Global) (o : Option (Box Statement Global)) → x ≡ If v o → (b : Box Statement Global) → o ≡ Some b → (arms : List Arm) → arms ≡ v.items
        → (y : Statement) → y ≡ b.value → (w : Broken) → w ≡ statement_at s c (statement_of y) → r ≡ both (ladder_from s c none arms) w → r ≡ statement_at s c (statement_of x)
    at-If v o i b some arms j y l w is_w h =
        h ∙ ap (both (ladder_from s c none arms)) (is_w ∙ ap (λ z. statement_at s c (statement_of z)) l)
        ∙ ap (λ as_. both (ladder_from s c none as_) (statement_at s c (statement_of b.value))) (j ∙ sym (items_hidden-the_row-Arm-0 v))
        ∙ ladder-row _ (hidden-the_row-Arm-0 v) (Some (statement_of b.value)) none ∙ sym (ap (λ z. statement_at s c (statement_of z)) (i ∙ ap (If v) some))

    pub at-Case : (kind : CodeKind) (e : Expression) (v : Vec CaseItem Global) → x ≡ Case kind e v → (items : List CaseItem) → items ≡ v.items
        → (u w : Broken) → u ≡ broken_at s (tree_of e) → w ≡ items_from s c (case_kind_of kind) none items → r ≡ both u w → r ≡ statement_at s c (statement_of x)
    unfolding broken_at statement_at
    at-Case kind e v i items j u w is_u is_w h =
        h ∙ ap (λ z. both z w) is_u
        ∙ ap (both (broken_at s (tree_of e))) (is_w ∙ ap (items_from s c (case_kind_of kind) none) (j ∙ sym (items_hidden-the_row-CaseItem-1 v)) ∙ items-row (case_kind_of kind) _ (hidden-the_row-CaseItem-1 v) none)
        ∙ sym (ap (λ z. statement_at s c (statement_of z)) i)

    pub at-Block : (m : Option (Bor (List ℕ))) (v : Vec Statement Global) → x ≡ Block m v → (xs : List Statement) → xs ≡ v.items → r ≡ statements_from s c none xs → r ≡ statement_at s c (statement_of x)
    unfolding statement_at
    at-Block m v i xs j h =
        h ∙ ap (statements_from s c none) (j ∙ sym (items_hidden-the_row-Statement-2 v)) ∙ statements-row _ (hidden-the_row-Statement-2 v) none
        ∙ sym (ap (λ z. statement_at s c (statement_of z)) i)

  -- i is the item of a case, and r the result
  module _ (kind : pure.CaseKind) (i : CaseItem) (r : Broken) where
    pub at-Values : (v : Vec Expression Global) (x : Statement) → i ≡ Values v x → (es : List Expression) → es ≡ v.items
        → (u w : Broken) → u ≡ values_from s kind none es → w ≡ statement_at s c (statement_of x) → r ≡ both u w → r ≡ item_at s c kind i
    at-Values v x is es j u w is_u is_w h =
        h ∙ ap (λ z. both z w) (is_u ∙ ap (values_from s kind none) j) ∙ ap (both (values_from s kind none v.items)) is_w ∙ sym (ap (item_at s c kind) is)

    pub at-Default : (x : Statement) → i ≡ Default x → r ≡ statement_at s c (statement_of x) → r ≡ item_at s c kind i
    at-Default x is h = h ∙ sym (ap (item_at s c kind) is)
