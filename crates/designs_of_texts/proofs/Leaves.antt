-- In what can be printed numbers fit their widths.
use Rattle.std.proofs.Common.{◌≡◌, ◌<◌, ◌≤◌, ◌^◌, ℕ, min, arith}
use Rattle.std.proofs.Math.Pow.{pow_mono}
use Rattle.wb_values.specs.Value.{Name}
use Rattle.verilog_trees.specs.Syntax as tree
use Rattle.verilog_trees.specs.Syntax.{Number, Expression, Expressions, no_expressions, expression, Select, Selects, whole, one, two, Target, Targets, no_targets, target, Statement, Statements, no_statements, statement, CaseItems, no_items, arm, default_arm}
use Rattle.verilog_text.specs.Spelling.{kept_width}
use Rattle.v_print.specs.Printable.{IsPrintableNumber, IsPrintable, ArePrintable, IsPrintableSelect, ArePrintableSelects, IsPrintableTarget, ArePrintableTargets, IsPrintableStatement, ArePrintableStatements, ArePrintableItems}
use Rattle.wb_laws.specs.Settled as values
use Rattle.verilog_settled.specs.Locality.{LeavesAre, AllLeavesAre, SelectIs, SelectsAre, IndexesAre, AllIndexesAre, StatementIs, StatementsAre, ItemsAre}
use Rattle.verilog_unique.specs.Unique.{AnyName}

fits : (k : Number) → IsPrintableNumber k → k.value < 2 ^ k.width
fits k h =
    let kept : kept_width k.width ≤ k.width = omega arith in
    let more : 2 ^ kept_width k.width ≤ 2 ^ k.width = pow_mono kept in
    omega (arith, h.value_fits, more)

-- those whose bits may come into the value
mutual
  pub fitting : (e : Expression) → IsPrintable e → values.HasNumbersThatFit e
  fitting (tree.number k) h = fits k h
  fitting (tree.name n x) h = tt
  fitting (tree.concatenation es) h = all_fitting es h.1
  fitting (tree.replication k es) h = all_fitting es h.2
  fitting (tree.as_signed x) h = fitting x h
  fitting (tree.as_unsigned x) h = fitting x h
  fitting (tree.unary op x) h = fitting x h
  fitting (tree.reduction op x) h = tt
  fitting (tree.binary op x y) h = (fitting x h.0, fitting y h.1)
  fitting (tree.shift op x n) h = fitting x h.0
  fitting (tree.power x n) h = tt
  fitting (tree.comparison op x y) h = tt
  fitting (tree.logical op x y) h = tt
  fitting (tree.conditional c x y) h = (fitting x h.1, fitting y h.2)

  all_fitting : (es : Expressions) → ArePrintable es → values.AllNamesAre AnyName es
  all_fitting no_expressions h = tt
  all_fitting (expression e es) h = (fitting e h.0, all_fitting es h.1)

-- all but those of counts and bounds
mutual
  pub leaves : (e : Expression) → IsPrintable e → LeavesAre AnyName e
  leaves (tree.number k) h = fits k h
  leaves (tree.name n x) h = (tt, selects x h.1)
  leaves (tree.concatenation es) h = all_leaves es h.1
  leaves (tree.replication k es) h = all_leaves es h.2
  leaves (tree.as_signed x) h = leaves x h
  leaves (tree.as_unsigned x) h = leaves x h
  leaves (tree.unary op x) h = leaves x h
  leaves (tree.reduction op x) h = leaves x h
  leaves (tree.binary op x y) h = (leaves x h.0, leaves y h.1)
  leaves (tree.shift op x n) h = (leaves x h.0, leaves n h.1)
  leaves (tree.power x n) h = (leaves x h.0, leaves n h.1)
  leaves (tree.comparison op x y) h = (leaves x h.0, leaves y h.1)
  leaves (tree.logical op x y) h = (leaves x h.0, leaves y h.1)
  leaves (tree.conditional c x y) h = (leaves c h.0, leaves x h.1, leaves y h.2)

  pub all_leaves : (es : Expressions) → ArePrintable es → AllLeavesAre AnyName es
  all_leaves no_expressions h = tt
  all_leaves (expression e es) h = (leaves e h.0, all_leaves es h.1)

  select : (x : Select) → IsPrintableSelect x → SelectIs AnyName x
  select (tree.index i) h = leaves i h
  select (tree.part x y) h = tt
  select (tree.part_up b n) h = leaves b h.0
  select (tree.part_down b n) h = leaves b h.0

  selects : (x : Selects) → ArePrintableSelects x → SelectsAre AnyName x
  selects whole h = tt
  selects (one x) h = select x h
  selects (two x y) h = (select x h.0, select y h.1)

mutual
  indexes : (t : Target) → IsPrintableTarget t → IndexesAre AnyName t
  indexes (tree.place n x) h = selects x h.1
  indexes (tree.joined ts) h = all_indexes ts h.1

  all_indexes : (ts : Targets) → ArePrintableTargets ts → AllIndexesAre AnyName ts
  all_indexes no_targets h = tt
  all_indexes (target t ts) h = (indexes t h.0, all_indexes ts h.1)

mutual
  pub statements : (x : Statement) → IsPrintableStatement x → StatementIs AnyName x
  statements tree.empty h = tt
  statements (tree.blocking t e) h = (indexes t h.0, leaves e h.1)
  statements (tree.nonblocking t e) h = (indexes t h.0, leaves e h.1)
  statements (tree.if_then c x) h = (leaves c h.0, statements x h.1)
  statements (tree.if_else c x y) h = (leaves c h.0, statements x h.1, statements y h.2)
  statements (tree.case k e items) h = (leaves e h.0, arms items h.2)
  statements (tree.block n xs) h = all_statements xs h.1

  all_statements : (xs : Statements) → ArePrintableStatements xs → StatementsAre AnyName xs
  all_statements no_statements h = tt
  all_statements (statement x xs) h = (statements x h.0, all_statements xs h.1)

  arms : (items : CaseItems) → ArePrintableItems items → ItemsAre AnyName items
  arms no_items h = tt
  arms (arm es x items) h = (all_leaves es h.1, statements x h.2, arms items h.3)
  arms (default_arm x items) h = (statements x h.0, arms items h.1)
