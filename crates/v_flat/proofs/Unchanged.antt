-- A tree whose names are replaced by themselves is the same.
use Rattle.std.proofs.Common.{◌≡◌, refl, List, [], ◌∷◌}
use Rattle.verilog_trees.specs.Syntax.{Expression, number, name, concatenation, replication, as_signed, as_unsigned, unary, reduction, binary, shift, power, comparison, logical, conditional, Expressions, no_expressions, expression, Select, index, part, part_up, part_down, Selects, whole, one, two, Target, place, joined, Targets, no_targets, target, Statement, empty, blocking, nonblocking, if_then, if_else, case, block, Statements, no_statements, statement, CaseItems, no_items, arm, default_arm}
use Rattle.verilog_renamed.specs.Renamed.{renamed_expression, renamed_expressions, renamed_select, renamed_selects, renamed_target, renamed_targets, renamed_statement, renamed_statements, renamed_case_items, renamed_assignment, renamed_assignments, renamed_blocks}
use Rattle.v_flat.specs.Outputs.{same_names}

mutual
  pub expression_same : (e : Expression) → renamed_expression same_names e ≡ e
  expression_same (number k) = refl
  expression_same (name n x) = λ i. name n (selects_same x i)
  expression_same (concatenation es) = λ i. concatenation (expressions_same es i)
  expression_same (replication k es) = λ i. replication (expression_same k i) (expressions_same es i)
  expression_same (as_signed x) = λ i. as_signed (expression_same x i)
  expression_same (as_unsigned x) = λ i. as_unsigned (expression_same x i)
  expression_same (unary op x) = λ i. unary op (expression_same x i)
  expression_same (reduction op x) = λ i. reduction op (expression_same x i)
  expression_same (binary op x y) = λ i. binary op (expression_same x i) (expression_same y i)
  expression_same (shift op x n) = λ i. shift op (expression_same x i) (expression_same n i)
  expression_same (power x n) = λ i. power (expression_same x i) (expression_same n i)
  expression_same (comparison op x y) = λ i. comparison op (expression_same x i) (expression_same y i)
  expression_same (logical op x y) = λ i. logical op (expression_same x i) (expression_same y i)
  expression_same (conditional c x y) = λ i. conditional (expression_same c i) (expression_same x i) (expression_same y i)

  pub expressions_same : (es : Expressions) → renamed_expressions same_names es ≡ es
  expressions_same no_expressions = refl
  expressions_same (expression e es) = λ i. expression (expression_same e i) (expressions_same es i)

  pub select_same : (x : Select) → renamed_select same_names x ≡ x
  select_same (index e) = λ i. index (expression_same e i)
  select_same (part h l) = λ i. part (expression_same h i) (expression_same l i)
  select_same (part_up b n) = λ i. part_up (expression_same b i) (expression_same n i)
  select_same (part_down b n) = λ i. part_down (expression_same b i) (expression_same n i)

  pub selects_same : (x : Selects) → renamed_selects same_names x ≡ x
  selects_same whole = refl
  selects_same (one x) = λ i. one (select_same x i)
  selects_same (two x y) = λ i. two (select_same x i) (select_same y i)

mutual
  pub target_same : (t : Target) → renamed_target same_names t ≡ t
  target_same (place n x) = λ i. place n (selects_same x i)
  target_same (joined ts) = λ i. joined (targets_same ts i)

  pub targets_same : (ts : Targets) → renamed_targets same_names ts ≡ ts
  targets_same no_targets = refl
  targets_same (target t ts) = λ i. target (target_same t i) (targets_same ts i)

mutual
  pub statement_same : (x : Statement) → renamed_statement same_names x ≡ x
  statement_same empty = refl
  statement_same (blocking t e) = λ i. blocking (target_same t i) (expression_same e i)
  statement_same (nonblocking t e) = λ i. nonblocking (target_same t i) (expression_same e i)
  statement_same (if_then c x) = λ i. if_then (expression_same c i) (statement_same x i)
  statement_same (if_else c x y) = λ i. if_else (expression_same c i) (statement_same x i) (statement_same y i)
  statement_same (case k e items) = λ i. case k (expression_same e i) (items_same items i)
  statement_same (block n xs) = λ i. block n (statements_same xs i)

  pub statements_same : (xs : Statements) → renamed_statements same_names xs ≡ xs
  statements_same no_statements = refl
  statements_same (statement x xs) = λ i. statement (statement_same x i) (statements_same xs i)

  pub items_same : (items : CaseItems) → renamed_case_items same_names items ≡ items
  items_same no_items = refl
  items_same (arm es x items) = λ i. arm (expressions_same es i) (statement_same x i) (items_same items i)
  items_same (default_arm x items) = λ i. default_arm (statement_same x i) (items_same items i)

pub assignment_same : (a : Target × Expression) → renamed_assignment same_names a ≡ a
assignment_same a = λ i. (target_same a.0 i, expression_same a.1 i)

pub assignments_same : (as_ : List (Target × Expression)) → renamed_assignments same_names as_ ≡ as_
assignments_same [] = refl
assignments_same (a ∷ as_) = λ i. assignment_same a i ∷ assignments_same as_ i

pub blocks_same : (xs : List Statement) → renamed_blocks same_names xs ≡ xs
blocks_same [] = refl
blocks_same (x ∷ xs) = λ i. statement_same x i ∷ blocks_same xs i
