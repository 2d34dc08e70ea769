-- The pure trees that the code's flat expressions, targets and statements stand for.
use Rattle.std.specs.Prelude.{ℕ, List, [], ◌∷◌, Option, Some, None}
use Rattle.std.specs.Borrow.{Bor}
use Rattle.wb_values.specs.Value.{Name}
use Rattle.verilog_trees.specs.Syntax as pure
use Rattle.verilog_trees.specs.Syntax.{number, name, concatenation, replication, as_signed, as_unsigned, unary, reduction, binary, shift, power, comparison, logical, conditional, no_expressions, expression, index, part, part_up, part_down, whole, one, two, place, joined, no_targets, target, exact_case, wild_case, empty, blocking, nonblocking, if_then, if_else, case, block, no_statements, statement, no_items, arm, default_arm}
use Rattle.v_syntax.specs.declared.tree.Number.{Number as CodeNumber}
use Rattle.v_syntax.specs.declared.tree.PrefixOperator.{PrefixOperator}
use Rattle.v_syntax.specs.declared.tree.PrefixOperator.TheVariants.{Plus, Minus, Complement, IsZero, AllOnes, NotAllOnes, AnyOne, NoOne, OddOnes, EvenOnes}
use Rattle.v_syntax.specs.declared.tree.BinaryOperator.{BinaryOperator}
use Rattle.v_syntax.specs.declared.tree.BinaryOperator.TheVariants.{Power, Multiply, Divide, Modulo, Add, Subtract, ShiftLeft, ShiftRight, ArithmeticShiftRight, And, Xor, Xnor, Or}
use Rattle.v_syntax.specs.declared.tree.TestOperator.{TestOperator}
use Rattle.v_syntax.specs.declared.tree.TestOperator.TheVariants.{Less, LessOrEqual, Greater, GreaterOrEqual, Equal, NotEqual, Both, Either}
use Rattle.v_syntax.specs.declared.tree.Expression.{Expression, Number, Name as NameOf, Concatenation', Replication', AsSigned', AsUnsigned', Prefix', Binary', Test', Conditional', Row_of-Expression, end_of-Expression, more_of-Expression, Row_of-BinaryLink, end_of-BinaryLink, more_of-BinaryLink, Row_of-TestLink, end_of-TestLink, more_of-TestLink, Row_of-Choice, end_of-Choice, more_of-Choice}
use Rattle.v_syntax.specs.declared.tree.Select.{Select, Index', Part', PartUp', PartDown'}
use Rattle.v_syntax.specs.declared.tree.Selects.{Selects, Whole, One, Two}
use Rattle.v_syntax.specs.declared.tree.Target.{Target, Place, Joined', Row_of-Target, end_of-Target, more_of-Target}
use Rattle.v_syntax.specs.declared.tree.CaseKind.{CaseKind}
use Rattle.v_syntax.specs.declared.tree.CaseKind.TheVariants.{Exact, Wild}
use Rattle.v_syntax.specs.declared.tree.CaseItem.{Values, Default}
use Rattle.v_syntax.specs.declared.tree.Statement.{Statement, Empty, Blocking, Nonblocking, If', Case', Block', Row_of-Arm, end_of-Arm, more_of-Arm, Held-Statement-If-1, None', Some', Row_of-CaseItem, end_of-CaseItem, more_of-CaseItem, Row_of-Statement, end_of-Statement, more_of-Statement}

abbrev pub number_of : CodeNumber → pure.Number
number_of n = record { width = n.width; sized = n.sized; signed = n.signed; value = n.value; unknown = n.unknown; wild = n.wild; has_unknown = n.has_unknown; has_wild = n.has_wild }

-- an operator before an operand
abbrev pub prefixed : PrefixOperator → pure.Expression → pure.Expression
prefixed Plus e = unary pure.plus e
prefixed Minus e = unary pure.minus e
prefixed Complement e = unary pure.complement e
prefixed IsZero e = reduction pure.is_zero e
prefixed AllOnes e = reduction pure.all_ones e
prefixed NotAllOnes e = reduction pure.not_all_ones e
prefixed AnyOne e = reduction pure.any_one e
prefixed NoOne e = reduction pure.no_one e
prefixed OddOnes e = reduction pure.odd_ones e
prefixed EvenOnes e = reduction pure.even_ones e

-- operators before an operand, the outermost first
abbrev pub all_prefixed : List PrefixOperator → pure.Expression → pure.Expression
all_prefixed [] e = e
all_prefixed (o ∷ os) e = prefixed o (all_prefixed os e)

-- an operator between two operands
abbrev pub combined : BinaryOperator → pure.Expression → pure.Expression → pure.Expression
combined Power x y = power x y
combined Multiply x y = binary pure.multiply x y
combined Divide x y = binary pure.divide x y
combined Modulo x y = binary pure.modulo x y
combined Add x y = binary pure.add x y
combined Subtract x y = binary pure.subtract x y
combined ShiftLeft x y = shift pure.left x y
combined ShiftRight x y = shift pure.right x y
combined ArithmeticShiftRight x y = shift pure.arithmetic_right x y
combined And x y = binary pure.bitwise_and x y
combined Xor x y = binary pure.bitwise_xor x y
combined Xnor x y = binary pure.bitwise_xnor x y
combined Or x y = binary pure.bitwise_or x y

abbrev pub tested : TestOperator → pure.Expression → pure.Expression → pure.Expression
tested Less x y = comparison pure.less x y
tested LessOrEqual x y = comparison pure.less_or_equal x y
tested Greater x y = comparison pure.greater x y
tested GreaterOrEqual x y = comparison pure.greater_or_equal x y
tested Equal x y = comparison pure.equal x y
tested NotEqual x y = comparison pure.not_equal x y
tested Both x y = logical pure.both x y
tested Either x y = logical pure.either x y

abbrev mutual
  pub tree_of : Expression → pure.Expression
  tree_of (Number n) = number (number_of n)
  tree_of (NameOf n x) = name n.now (selects_of x)
  tree_of (Concatenation' _ es) = concatenation (parts_of es)
  tree_of (Replication' _ k _ es) = replication (tree_of k) (parts_of es)
  tree_of (AsSigned' _ x) = as_signed (tree_of x)
  tree_of (AsUnsigned' _ x) = as_unsigned (tree_of x)
  tree_of (Prefix' os _ x) = all_prefixed os.items (tree_of x)
  tree_of (Binary' _ x _ links) = links_onto links (tree_of x)
  tree_of (Test' _ x _ links) = tests_onto links (tree_of x)
  tree_of (Conditional' _ choices _ x) = choices_before choices (tree_of x)

  pub parts_of : {m : _} → Row_of-Expression m → pure.Expressions
  parts_of end_of-Expression = no_expressions
  parts_of (more_of-Expression e es) = expression (tree_of e) (parts_of es)

  -- links behind an operand, grouped to the left
  pub links_onto : {m : _} → Row_of-BinaryLink m → pure.Expression → pure.Expression
  links_onto end_of-BinaryLink x = x
  links_onto (more_of-BinaryLink o y links) x = links_onto links (combined o x (tree_of y))

  pub tests_onto : {m : _} → Row_of-TestLink m → pure.Expression → pure.Expression
  tests_onto end_of-TestLink x = x
  tests_onto (more_of-TestLink o y links) x = tests_onto links (tested o x (tree_of y))

  -- conditions with values before a last value, grouped to the right
  pub choices_before : {m : _} → Row_of-Choice m → pure.Expression → pure.Expression
  choices_before end_of-Choice y = y
  choices_before (more_of-Choice c x choices) y = conditional (tree_of c) (tree_of x) (choices_before choices y)

  pub select_of : Select → pure.Select
  select_of (Index' _ i) = index (tree_of i)
  select_of (Part' _ l _ r) = part (tree_of l) (tree_of r)
  select_of (PartUp' _ b _ w) = part_up (tree_of b) (tree_of w)
  select_of (PartDown' _ b _ w) = part_down (tree_of b) (tree_of w)

  pub selects_of : Selects → pure.Selects
  selects_of Whole = whole
  selects_of (One x) = one (select_of x)
  selects_of (Two x y) = two (select_of x) (select_of y)

abbrev pub expressions_of : List Expression → pure.Expressions
expressions_of [] = no_expressions
expressions_of (e ∷ es) = expression (tree_of e) (expressions_of es)

abbrev mutual
  pub target_of : Target → pure.Target
  target_of (Place n x) = place n.now (selects_of x)
  target_of (Joined' _ ts) = joined (targets_of ts)

  pub targets_of : {m : _} → Row_of-Target m → pure.Targets
  targets_of end_of-Target = no_targets
  targets_of (more_of-Target t ts) = target (target_of t) (targets_of ts)

abbrev pub case_kind_of : CaseKind → pure.CaseKind
case_kind_of Exact = exact_case
case_kind_of Wild = wild_case

abbrev pub name_of_option : Option (Bor (List ℕ)) → Option Name
name_of_option None = None
name_of_option (Some n) = Some n.now

-- an arm of an if before what stands behind its else, if anything does
abbrev pub arm_before : pure.Expression → pure.Statement → Option pure.Statement → pure.Statement
arm_before c x None = if_then c x
arm_before c x (Some y) = if_else c x y

abbrev pub or_empty : Option pure.Statement → pure.Statement
or_empty None = empty
or_empty (Some x) = x

abbrev mutual
  pub statement_of : Statement → pure.Statement
  statement_of Empty = empty
  statement_of (Blocking t e) = blocking (target_of t.value) (tree_of e)
  statement_of (Nonblocking t e) = nonblocking (target_of t.value) (tree_of e)
  statement_of (If' _ arms y) = or_empty (arms_before arms (last_of y))
  statement_of (Case' k e _ items) = case (case_kind_of k) (tree_of e) (items_of items)
  statement_of (Block' n _ xs) = block (name_of_option n) (statements_of xs)

  pub last_of : Held-Statement-If-1 → Option pure.Statement
  last_of None' = None
  last_of (Some' _ x) = Some (statement_of x)

  -- the arms of a ladder before what stands behind its last else
  pub arms_before : {m : _} → Row_of-Arm m → Option pure.Statement → Option pure.Statement
  arms_before end_of-Arm y = y
  arms_before (more_of-Arm c x arms) y = Some (arm_before (tree_of c) (statement_of x) (arms_before arms y))

  pub statements_of : {m : _} → Row_of-Statement m → pure.Statements
  statements_of end_of-Statement = no_statements
  statements_of (more_of-Statement x xs) = statement (statement_of x) (statements_of xs)

  pub items_of : {m : _} → Row_of-CaseItem m → pure.CaseItems
  items_of end_of-CaseItem = no_items
  items_of (more_of-CaseItem (Values es x) items) = arm (expressions_of es.items) (statement_of x) (items_of items)
  items_of (more_of-CaseItem (Default x) items) = default_arm (statement_of x) (items_of items)
