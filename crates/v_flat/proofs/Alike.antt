-- Functions that replace each name of a tree alike make one tree of it.
use Rattle.std.proofs.Common.{◌≡◌, refl}
use Rattle.wb_values.specs.Value.{Name}
use Rattle.verilog_trees.specs.Syntax.{Expression, number, name, concatenation, replication, as_signed, as_unsigned, unary, reduction, binary, shift, power, comparison, logical, conditional, Expressions, no_expressions, expression, Select, index, part, part_up, part_down, Selects, whole, one, two, Target, place, joined, Targets, no_targets, target, Statement, empty, blocking, nonblocking, if_then, if_else, case, block, Statements, no_statements, statement, CaseItems, no_items, arm, default_arm}
use Rattle.verilog_renamed.specs.Renamed.{renamed_expression, renamed_expressions, renamed_select, renamed_selects, renamed_target, renamed_targets, renamed_statement, renamed_statements, renamed_case_items, renamed_assignment}
use Rattle.verilog_renamed.specs.EachName.{EachIn, EachInAll, EachInSelect, EachInSelects, EachInTarget, EachInTargets, EachInStatement, EachInStatements, EachInItems}

module _ (f g : Name → Name) where
  abbrev pub Alike : Name → Type 0
  Alike n = f n ≡ g n

  mutual
    pub expression_alike : (e : Expression) → EachIn Alike e → renamed_expression f e ≡ renamed_expression g e
    expression_alike (number k) a = refl
    expression_alike (name n x) a = λ i. name (a.0 i) (selects_alike x a.1 i)
    expression_alike (concatenation es) a = λ i. concatenation (expressions_alike es a i)
    expression_alike (replication k es) a = λ i. replication (expression_alike k a.0 i) (expressions_alike es a.1 i)
    expression_alike (as_signed x) a = λ i. as_signed (expression_alike x a i)
    expression_alike (as_unsigned x) a = λ i. as_unsigned (expression_alike x a i)
    expression_alike (unary op x) a = λ i. unary op (expression_alike x a i)
    expression_alike (reduction op x) a = λ i. reduction op (expression_alike x a i)
    expression_alike (binary op x y) a = λ i. binary op (expression_alike x a.0 i) (expression_alike y a.1 i)
    expression_alike (shift op x n) a = λ i. shift op (expression_alike x a.0 i) (expression_alike n a.1 i)
    expression_alike (power x n) a = λ i. power (expression_alike x a.0 i) (expression_alike n a.1 i)
    expression_alike (comparison op x y) a = λ i. comparison op (expression_alike x a.0 i) (expression_alike y a.1 i)
    expression_alike (logical op x y) a = λ i. logical op (expression_alike x a.0 i) (expression_alike y a.1 i)
    expression_alike (conditional c x y) a = λ i. conditional (expression_alike c a.0 i) (expression_alike x a.1 i) (expression_alike y a.2 i)

    pub expressions_alike : (es : Expressions) → EachInAll Alike es → renamed_expressions f es ≡ renamed_expressions g es
    expressions_alike no_expressions a = refl
    expressions_alike (expression e es) a = λ i. expression (expression_alike e a.0 i) (expressions_alike es a.1 i)

    pub select_alike : (x : Select) → EachInSelect Alike x → renamed_select f x ≡ renamed_select g x
    select_alike (index e) a = λ i. index (expression_alike e a i)
    select_alike (part h l) a = λ i. part (expression_alike h a.0 i) (expression_alike l a.1 i)
    select_alike (part_up b n) a = λ i. part_up (expression_alike b a.0 i) (expression_alike n a.1 i)
    select_alike (part_down b n) a = λ i. part_down (expression_alike b a.0 i) (expression_alike n a.1 i)

    pub selects_alike : (x : Selects) → EachInSelects Alike x → renamed_selects f x ≡ renamed_selects g x
    selects_alike whole a = refl
    selects_alike (one x) a = λ i. one (select_alike x a i)
    selects_alike (two x y) a = λ i. two (select_alike x a.0 i) (select_alike y a.1 i)

  mutual
    pub target_alike : (t : Target) → EachInTarget Alike t → renamed_target f t ≡ renamed_target g t
    target_alike (place n x) a = λ i. place (a.0 i) (selects_alike x a.1 i)
    target_alike (joined ts) a = λ i. joined (targets_alike ts a i)

    pub targets_alike : (ts : Targets) → EachInTargets Alike ts → renamed_targets f ts ≡ renamed_targets g ts
    targets_alike no_targets a = refl
    targets_alike (target t ts) a = λ i. target (target_alike t a.0 i) (targets_alike ts a.1 i)

  mutual
    pub statement_alike : (x : Statement) → EachInStatement Alike x → renamed_statement f x ≡ renamed_statement g x
    statement_alike empty a = refl
    statement_alike (blocking t e) a = λ i. blocking (target_alike t a.0 i) (expression_alike e a.1 i)
    statement_alike (nonblocking t e) a = λ i. nonblocking (target_alike t a.0 i) (expression_alike e a.1 i)
    statement_alike (if_then c x) a = λ i. if_then (expression_alike c a.0 i) (statement_alike x a.1 i)
    statement_alike (if_else c x y) a = λ i. if_else (expression_alike c a.0 i) (statement_alike x a.1 i) (statement_alike y a.2 i)
    statement_alike (case k e items) a = λ i. case k (expression_alike e a.0 i) (items_alike items a.1 i)
    statement_alike (block n xs) a = λ i. block n (statements_alike xs a i)

    pub statements_alike : (xs : Statements) → EachInStatements Alike xs → renamed_statements f xs ≡ renamed_statements g xs
    statements_alike no_statements a = refl
    statements_alike (statement x xs) a = λ i. statement (statement_alike x a.0 i) (statements_alike xs a.1 i)

    pub items_alike : (items : CaseItems) → EachInItems Alike items → renamed_case_items f items ≡ renamed_case_items g items
    items_alike no_items a = refl
    items_alike (arm es x items) a = λ i. arm (expressions_alike es a.0 i) (statement_alike x a.1 i) (items_alike items a.2 i)
    items_alike (default_arm x items) a = λ i. default_arm (statement_alike x a.0 i) (items_alike items a.1 i)

  pub assignment_alike : (a : Target × Expression) → EachInTarget Alike a.0 → EachIn Alike a.1 → renamed_assignment f a ≡ renamed_assignment g a
  assignment_alike a t e = λ i. (target_alike a.0 t i, expression_alike a.1 e i)
