-- Trees whose names were replaced: each name n of a net, variable, memory or parameter by f n. The names of blocks are none of these
-- and stay as they are.
use Rattle.std.specs.Prelude.{List, map}
use Rattle.wb_values.specs.Value.{Name}
use Rattle.verilog_trees.specs.Syntax.{Expression, number, name, concatenation, replication, as_signed, as_unsigned, unary, reduction, binary, shift, power, comparison, logical, conditional, Expressions, no_expressions, expression, Select, index, part, part_up, part_down, Selects, whole, one, two, Target, place, joined, Targets, no_targets, target, Statement, empty, blocking, nonblocking, if_then, if_else, case, block, Statements, no_statements, statement, CaseItems, no_items, arm, default_arm}
use Rattle.verilog_meaning.specs.Statement.{Place, Update}
use Rattle.verilog_designs.specs.Dependence.{Bit}

-- ---- trees

abbrev mutual
  pub renamed_expression : (Name → Name) → Expression → Expression
  renamed_expression f (number k) = number k
  renamed_expression f (name n x) = name (f n) (renamed_selects f x)
  renamed_expression f (concatenation es) = concatenation (renamed_expressions f es)
  renamed_expression f (replication k es) = replication (renamed_expression f k) (renamed_expressions f es)
  renamed_expression f (as_signed x) = as_signed (renamed_expression f x)
  renamed_expression f (as_unsigned x) = as_unsigned (renamed_expression f x)
  renamed_expression f (unary op x) = unary op (renamed_expression f x)
  renamed_expression f (reduction op x) = reduction op (renamed_expression f x)
  renamed_expression f (binary op x y) = binary op (renamed_expression f x) (renamed_expression f y)
  renamed_expression f (shift op x n) = shift op (renamed_expression f x) (renamed_expression f n)
  renamed_expression f (power x n) = power (renamed_expression f x) (renamed_expression f n)
  renamed_expression f (comparison op x y) = comparison op (renamed_expression f x) (renamed_expression f y)
  renamed_expression f (logical op x y) = logical op (renamed_expression f x) (renamed_expression f y)
  renamed_expression f (conditional c x y) = conditional (renamed_expression f c) (renamed_expression f x) (renamed_expression f y)

  pub renamed_expressions : (Name → Name) → Expressions → Expressions
  renamed_expressions f no_expressions = no_expressions
  renamed_expressions f (expression e es) = expression (renamed_expression f e) (renamed_expressions f es)

  pub renamed_select : (Name → Name) → Select → Select
  renamed_select f (index i) = index (renamed_expression f i)
  renamed_select f (part h l) = part (renamed_expression f h) (renamed_expression f l)
  renamed_select f (part_up b n) = part_up (renamed_expression f b) (renamed_expression f n)
  renamed_select f (part_down b n) = part_down (renamed_expression f b) (renamed_expression f n)

  pub renamed_selects : (Name → Name) → Selects → Selects
  renamed_selects f whole = whole
  renamed_selects f (one x) = one (renamed_select f x)
  renamed_selects f (two x y) = two (renamed_select f x) (renamed_select f y)

abbrev mutual
  pub renamed_target : (Name → Name) → Target → Target
  renamed_target f (place n x) = place (f n) (renamed_selects f x)
  renamed_target f (joined ts) = joined (renamed_targets f ts)

  pub renamed_targets : (Name → Name) → Targets → Targets
  renamed_targets f no_targets = no_targets
  renamed_targets f (target t ts) = target (renamed_target f t) (renamed_targets f ts)

abbrev mutual
  pub renamed_statement : (Name → Name) → Statement → Statement
  renamed_statement f empty = empty
  renamed_statement f (blocking t e) = blocking (renamed_target f t) (renamed_expression f e)
  renamed_statement f (nonblocking t e) = nonblocking (renamed_target f t) (renamed_expression f e)
  renamed_statement f (if_then c x) = if_then (renamed_expression f c) (renamed_statement f x)
  renamed_statement f (if_else c x y) = if_else (renamed_expression f c) (renamed_statement f x) (renamed_statement f y)
  renamed_statement f (case kind e items) = case kind (renamed_expression f e) (renamed_case_items f items)
  renamed_statement f (block n xs) = block n (renamed_statements f xs)

  pub renamed_statements : (Name → Name) → Statements → Statements
  renamed_statements f no_statements = no_statements
  renamed_statements f (statement x xs) = statement (renamed_statement f x) (renamed_statements f xs)

  pub renamed_case_items : (Name → Name) → CaseItems → CaseItems
  renamed_case_items f no_items = no_items
  renamed_case_items f (arm es x items) = arm (renamed_expressions f es) (renamed_statement f x) (renamed_case_items f items)
  renamed_case_items f (default_arm x items) = default_arm (renamed_statement f x) (renamed_case_items f items)

-- an assignment: its target and its right side
abbrev pub renamed_assignment : (Name → Name) → Target × Expression → Target × Expression
renamed_assignment f a = (renamed_target f a.0, renamed_expression f a.1)

abbrev pub renamed_assignments : (Name → Name) → List (Target × Expression) → List (Target × Expression)
renamed_assignments f as_ = map (renamed_assignment f) as_

-- the statements of several blocks
abbrev pub renamed_blocks : (Name → Name) → List Statement → List Statement
renamed_blocks f xs = map (renamed_statement f) xs

-- ---- what trees name

-- the same bits of the same cell under the new name
abbrev pub renamed_place : (Name → Name) → Place → Place
renamed_place f p = record { of_name = f p.of_name; cell = p.cell; bits = p.bits }

abbrev pub renamed_places : (Name → Name) → List Place → List Place
renamed_places f ps = map (renamed_place f) ps

abbrev pub renamed_update : (Name → Name) → Update → Update
renamed_update f u = record { places = renamed_places f u.places; value = u.value }

abbrev pub renamed_updates : (Name → Name) → List Update → List Update
renamed_updates f us = map (renamed_update f) us

abbrev pub renamed_bit : (Name → Name) → Bit → Bit
renamed_bit f u = record { of_name = f u.of_name; word = u.word; place = u.place }
