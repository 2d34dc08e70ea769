-- Reading statements from tokens, from left to right: each function gives what stands at the front, and the rest.
use Rattle.std.specs.Prelude.{◌≡◌, ℕ, zero, suc, Bool, true, false, cond, nat_le, List, [], ◌∷◌, length, codes, Option, Some, None, is_none}
use Rattle.wb_values.specs.Value.{Name}
use Rattle.verilog_text.specs.Token.{left_parenthesis, right_parenthesis, colon, semicolon, equals, less_equals, Token}
use Rattle.verilog_trees.specs.Syntax as tree
use Rattle.verilog_trees.specs.Syntax.{Expression, Expressions, CaseKind, exact_case, wild_case, Statement, Statements, no_statements, statement, CaseItems, no_items, arm, default_arm}
use Rattle.verilog_text.specs.Grammar.{has_open_if, count_defaults}
use Rattle.v_expr.specs.Repeat.{◌>>=◌, choose, Read, repeated}
use Rattle.v_expr.specs.Reading.{after_mark, as_expressions}
use Rattle.v_expr.specs.Whole.{whole_at}
use Rattle.v_body.specs.Words.{after_word, name_at, listed_at}
use Rattle.v_body.specs.Targets.{target_at}

-- a reader of one statement
abbrev pub Reader : Type 0
Reader = List Token → Read Token Statement

-- no else stands behind the statement that would belong to an if of it
abbrev pub IsNearest : Statement → List Token → Type 0
IsNearest s rest = has_open_if s ≡ true → after_word (codes "else") rest ≡ None

-- (e)
unfoldable pub condition_at : List Token → Read Token Expression
condition_at ts = do
  inside ← after_mark left_parenthesis ts
  e ← whole_at inside
  rest ← after_mark right_parenthesis e.1
  Some (e.0, rest)

-- ---- assignments

-- a value and its semicolon
unfoldable pub value_at : List Token → Read Token Expression
value_at ts = do
  e ← whole_at ts
  rest ← after_mark semicolon e.1
  Some (e.0, rest)

unfoldable pub blocking_at : tree.Target → List Token → Read Token Statement
blocking_at t ts = value_at ts >>= λ e. Some (tree.blocking t e.0, e.1)

unfoldable pub nonblocking_at : tree.Target → List Token → Read Token Statement
nonblocking_at t ts = value_at ts >>= λ e. Some (tree.nonblocking t e.0, e.1)

unfoldable pub assigning_at : List Token → Read Token Statement
assigning_at ts = do
  t ← target_at ts
  choose (after_mark equals t.1) (blocking_at t.0) (after_mark less_equals t.1 >>= nonblocking_at t.0)

-- ---- if

-- the condition behind if, and its statement
unfoldable pub guarded_at : Reader → List Token → Read Token (Expression × Statement)
guarded_at one ts = do
  c ← condition_at ts
  s ← one c.1
  Some ((c.0, s.0), s.1)

-- Conditions with their statements, behind each else if, and perhaps a statement behind the last else. At most so many turns.
unfoldable pub ladder_at : Reader → ℕ → List Token → Read Token Statement
ladder_at one zero ts = None
ladder_at one (suc n) ts = do
  g ← guarded_at one ts
  choose (after_word (codes "else") g.1)
      (λ other. choose (after_word (codes "if") other) (ladder_at one n) (one other) >>= λ t. Some (tree.if_else g.0.0 g.0.1 t.0, t.1))
      (Some (tree.if_then g.0.0 g.0.1, g.1))

-- behind if, as many turns as there can be
unfoldable pub conditional_at : Reader → List Token → Read Token Statement
conditional_at one ts = ladder_at one (suc (length ts)) ts

-- ---- case

-- an item: its values, none for default, and its statement
abbrev pub CaseItem : Type 0
CaseItem = Option Expressions × Statement

abbrev pub item_before : Option Expressions → Statement → CaseItems → CaseItems
item_before (Some es) s items = arm es s items
item_before None s items = default_arm s items

-- items as the tree has them
abbrev pub as_items : List CaseItem → CaseItems
as_items [] = no_items
as_items (i ∷ items) = item_before i.0 i.1 (as_items items)

-- what stands behind a colon, where one stands in front
unfoldable pub behind_perhaps_colon : List Token → List Token
behind_perhaps_colon ts = choose (after_mark colon ts) (λ rest. rest) ts

-- behind default
unfoldable pub default_at : Reader → List Token → Read Token CaseItem
default_at one ts = one (behind_perhaps_colon ts) >>= λ s. Some ((None, s.0), s.1)

-- values, a colon, a statement
unfoldable pub arm_at : Reader → List Token → Read Token CaseItem
arm_at one ts = do
  es ← listed_at colon whole_at ts
  s ← one es.1
  Some ((Some (as_expressions es.0), s.0), s.1)

unfoldable pub item_at : Reader → List Token → Read Token CaseItem
item_at one ts = choose (after_word (codes "default") ts) (default_at one) (arm_at one ts)

-- items up to endcase, which is passed
unfoldable pub items_at : Reader → List Token → Read Token (List CaseItem)
items_at one ts = repeated (after_word (codes "endcase")) (item_at one) ts

abbrev pub is_default : CaseItem → Bool
is_default i = is_none i.0

-- no more than one default, where one was met or not
abbrev pub has_few_defaults : (met : Bool) → List CaseItem → Bool
has_few_defaults met [] = true
has_few_defaults met (i ∷ items) = cond (is_default i) (cond met false (has_few_defaults true items)) (has_few_defaults met items)

-- one item at least, and one default at most
abbrev pub are_items_of_case : CaseItems → Bool
are_items_of_case no_items = false
are_items_of_case items = nat_le (count_defaults items) 1

-- behind case or casez
unfoldable pub case_at : Reader → CaseKind → List Token → Read Token Statement
case_at one k ts = do
  e ← condition_at ts
  items ← items_at one e.1
  cond (are_items_of_case (as_items items.0)) (Some (tree.case k e.0 (as_items items.0), items.1)) None

-- ---- blocks

-- statements as the tree has them
abbrev pub as_statements : List Statement → Statements
as_statements [] = no_statements
as_statements (s ∷ ss) = statement s (as_statements ss)

-- the name of a block, which may be left out
unfoldable pub block_name_at : List Token → Read Token (Option Name)
block_name_at ts = choose (after_mark colon ts) (λ named. name_at named >>= λ n. Some (Some n.0, n.1)) (Some (None, ts))

-- behind begin, up to end, which is passed
unfoldable pub block_at : Reader → List Token → Read Token Statement
block_at one ts = do
  n ← block_name_at ts
  ss ← repeated (after_word (codes "end")) one n.1
  Some (tree.block n.0 (as_statements ss.0), ss.1)

-- ---- statements

-- a statement whose parts are read by a reader of one
unfoldable pub outer_statement_at : Reader → List Token → Read Token Statement
outer_statement_at one ts =
    choose (after_mark semicolon ts) (λ rest. Some (tree.empty, rest)) (
    choose (after_word (codes "if") ts) (conditional_at one) (
    choose (after_word (codes "begin") ts) (block_at one) (
    choose (after_word (codes "case") ts) (case_at one exact_case) (
    choose (after_word (codes "casez") ts) (case_at one wild_case) (
    assigning_at ts)))))

-- a statement with at most so many levels, where an else if is no level
unfoldable pub statement_in : ℕ → Reader
statement_in zero ts = None
statement_in (suc d) ts = outer_statement_at (statement_in d) ts

-- each level takes a token, so there are no more levels than tokens
unfoldable pub statement_at : Reader
statement_at ts = statement_in (length ts) ts
