-- Something holds of each name that stands in a tree, as the name of a net, variable, memory or parameter: those in indexes, counts,
-- bounds and widths of selects among them. The names of blocks are none of these.
use Rattle.std.specs.Prelude.{List, [], ◌∷◌, ⊤}
use Rattle.wb_values.specs.Value.{Name}
use Rattle.verilog_trees.specs.Syntax.{Expression, number, name, concatenation, replication, as_signed, as_unsigned, unary, reduction, binary, shift, power, comparison, logical, conditional, Expressions, no_expressions, expression, Select, index, part, part_up, part_down, Selects, whole, one, two, Target, place, joined, Targets, no_targets, target, Statement, empty, blocking, nonblocking, if_then, if_else, case, block, Statements, no_statements, statement, CaseItems, no_items, arm, default_arm}
use Rattle.verilog_meaning.specs.Statement.{Place, Update}

-- ---- trees

abbrev mutual
  pub EachIn : (Name → Type 0) → Expression → Type 0
  EachIn P (number k) = ⊤
  EachIn P (name n x) = P n × EachInSelects P x
  EachIn P (concatenation es) = EachInAll P es
  EachIn P (replication k es) = EachIn P k × EachInAll P es
  EachIn P (as_signed x) = EachIn P x
  EachIn P (as_unsigned x) = EachIn P x
  EachIn P (unary op x) = EachIn P x
  EachIn P (reduction op x) = EachIn P x
  EachIn P (binary op x y) = EachIn P x × EachIn P y
  EachIn P (shift op x n) = EachIn P x × EachIn P n
  EachIn P (power x n) = EachIn P x × EachIn P n
  EachIn P (comparison op x y) = EachIn P x × EachIn P y
  EachIn P (logical op x y) = EachIn P x × EachIn P y
  EachIn P (conditional c x y) = EachIn P c × EachIn P x × EachIn P y

  pub EachInAll : (Name → Type 0) → Expressions → Type 0
  EachInAll P no_expressions = ⊤
  EachInAll P (expression e es) = EachIn P e × EachInAll P es

  pub EachInSelect : (Name → Type 0) → Select → Type 0
  EachInSelect P (index i) = EachIn P i
  EachInSelect P (part h l) = EachIn P h × EachIn P l
  EachInSelect P (part_up b n) = EachIn P b × EachIn P n
  EachInSelect P (part_down b n) = EachIn P b × EachIn P n

  pub EachInSelects : (Name → Type 0) → Selects → Type 0
  EachInSelects P whole = ⊤
  EachInSelects P (one x) = EachInSelect P x
  EachInSelects P (two x y) = EachInSelect P x × EachInSelect P y

abbrev mutual
  pub EachInTarget : (Name → Type 0) → Target → Type 0
  EachInTarget P (place n x) = P n × EachInSelects P x
  EachInTarget P (joined ts) = EachInTargets P ts

  pub EachInTargets : (Name → Type 0) → Targets → Type 0
  EachInTargets P no_targets = ⊤
  EachInTargets P (target t ts) = EachInTarget P t × EachInTargets P ts

abbrev mutual
  pub EachInStatement : (Name → Type 0) → Statement → Type 0
  EachInStatement P empty = ⊤
  EachInStatement P (blocking t e) = EachInTarget P t × EachIn P e
  EachInStatement P (nonblocking t e) = EachInTarget P t × EachIn P e
  EachInStatement P (if_then c x) = EachIn P c × EachInStatement P x
  EachInStatement P (if_else c x y) = EachIn P c × EachInStatement P x × EachInStatement P y
  EachInStatement P (case kind e items) = EachIn P e × EachInItems P items
  EachInStatement P (block n xs) = EachInStatements P xs

  pub EachInStatements : (Name → Type 0) → Statements → Type 0
  EachInStatements P no_statements = ⊤
  EachInStatements P (statement x xs) = EachInStatement P x × EachInStatements P xs

  pub EachInItems : (Name → Type 0) → CaseItems → Type 0
  EachInItems P no_items = ⊤
  EachInItems P (arm es x items) = EachInAll P es × EachInStatement P x × EachInItems P items
  EachInItems P (default_arm x items) = EachInStatement P x × EachInItems P items

-- assignments, and the statements of several blocks
abbrev pub EachInAssignments : (Name → Type 0) → List (Target × Expression) → Type 0
EachInAssignments P [] = ⊤
EachInAssignments P (a ∷ rest) = (EachInTarget P a.0 × EachIn P a.1) × EachInAssignments P rest

abbrev pub EachInBlocks : (Name → Type 0) → List Statement → Type 0
EachInBlocks P [] = ⊤
EachInBlocks P (x ∷ xs) = EachInStatement P x × EachInBlocks P xs

-- ---- places and updates

abbrev pub EachPlaced : (Name → Type 0) → List Place → Type 0
EachPlaced P [] = ⊤
EachPlaced P (p ∷ ps) = P p.of_name × EachPlaced P ps

abbrev pub EachUpdated : (Name → Type 0) → List Update → Type 0
EachUpdated P [] = ⊤
EachUpdated P (u ∷ us) = EachPlaced P u.places × EachUpdated P us
