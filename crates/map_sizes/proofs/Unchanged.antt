-- An expression whose names are replaced by themselves is the same.
use Rattle.std.proofs.Common.{◌≡◌, refl}
use Rattle.wb_values.specs.Value.{Name}
use Rattle.verilog_trees.specs.Syntax.{Expression, number, name, concatenation, replication, as_signed, as_unsigned, unary, reduction, binary, shift, power, comparison, logical, conditional, Expressions, no_expressions, expression, Select, index, part, part_up, part_down, Selects, whole, one, two}
use Rattle.verilog_renamed.specs.Renamed.{renamed_expression, renamed_expressions, renamed_select, renamed_selects}

abbrev pub itself : Name → Name
itself n = n

mutual
  pub expression_same : (e : Expression) → renamed_expression itself e ≡ e
  expression_same (number k) = refl
  expression_same (name n x) = λ i. name n (selects_same x i)
  expression_same (concatenation es) = λ i. concatenation (expressions_same es i)
  expression_same (replication k es) = λ i. replication (expression_same k i) (expressions_same es i)
  expression_same (as_signed x) = λ i. as_signed (expression_same x i)
  expression_same (as_unsigned x) = λ i. as_unsigned (expression_same x i)
  expression_same (unary op x) = λ i. unary op (expression_same x i)
  expression_same (reduction op x) = λ i. reduction op (expression_same x i)
  expression_same (binary op x y) = λ i. binary op (expression_same x i) (expression_same y i)
  expression_same (shift op x n) = λ i. shift op (expression_same x i) (expression_same n i)
  expression_same (power x n) = λ i. power (expression_same x i) (expression_same n i)
  expression_same (comparison op x y) = λ i. comparison op (expression_same x i) (expression_same y i)
  expression_same (logical op x y) = λ i. logical op (expression_same x i) (expression_same y i)
  expression_same (conditional c x y) = λ i. conditional (expression_same c i) (expression_same x i) (expression_same y i)

  expressions_same : (es : Expressions) → renamed_expressions itself es ≡ es
  expressions_same no_expressions = refl
  expressions_same (expression e es) = λ i. expression (expression_same e i) (expressions_same es i)

  select_same : (x : Select) → renamed_select itself x ≡ x
  select_same (index e) = λ i. index (expression_same e i)
  select_same (part h l) = λ i. part (expression_same h i) (expression_same l i)
  select_same (part_up b n) = λ i. part_up (expression_same b i) (expression_same n i)
  select_same (part_down b n) = λ i. part_down (expression_same b i) (expression_same n i)

  selects_same : (x : Selects) → renamed_selects itself x ≡ x
  selects_same whole = refl
  selects_same (one x) = λ i. one (select_same x i)
  selects_same (two x y) = λ i. two (select_same x i) (select_same y i)
