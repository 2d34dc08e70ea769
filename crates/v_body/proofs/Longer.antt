-- A target, a statement and an item each have at least one token, so each turn of a loop takes something.
use Rattle.std.proofs.Common.{◌≡◌, ℕ, suc, ◌<◌, ◌≤◌, List, ◌∷◌, length, Option, ap, arith}
use Rattle.std.specs.Prelude.{codes}
use Rattle.wb_values.specs.Value.{Name}
use Rattle.verilog_text.specs.Token.{Mark, right_parenthesis, right_brace, comma, semicolon, colon, equals, less_equals, Token, word, mark}
use Rattle.verilog_trees.specs.Syntax as tree
use Rattle.verilog_trees.specs.Syntax.{Expression, Expressions, Target, Targets, Statement, Statements, CaseItems, no_items}
use Rattle.verilog_text.specs.Spelling.{a_name, AreExpressions, last_one, and_more}
use Rattle.verilog_text.specs.Grammar.{IsTarget, a_place, some_joined, AreTargets, last_target, and_targets, IsAssignment, assigned, IsBlockName, unnamed, named, IsPerhapsColon, with_colon, without_colon, IsStatement, nothing, blocks, waits, tested, decided, selected, in_block, AreStatements, no_statement, and_statements, IsItemBefore, for_values, for_others, AreItems, last_item, and_items}
use Rattle.v_expr.proofs.Repeat.{Shrinks}
use Rattle.v_expr.proofs.Grow.{longer}
use Rattle.v_body.specs.Targets.{target_in, target_at, assignment_at}
use Rattle.v_body.specs.Statements.{Reader, item_at, statement_in, statement_at, guarded_at}
use Rattle.v_body.proofs.Spelled.{target_in_spelled, target_spelled, assignment_spelled, Spells, item_spelled, statement_in_spelled, statement_spelled, guarded_spelled}

pub expressions_longer : (es : Expressions) (text rest : List Token) → AreExpressions es text rest → length rest < length text
expressions_longer _ _ _ (last_one e text rest d) = longer 0 e text rest d
expressions_longer _ _ _ (and_more e es text more rest d ds) = omega (arith, longer 0 e text (mark comma ∷ more) d, expressions_longer es more rest ds)

mutual
  pub target_longer : (t : Target) (text rest : List Token) → IsTarget t text rest → length rest < length text
  target_longer _ _ _ (a_place n s text rest free d) = omega (arith, longer 13 (tree.name n s) (word n ∷ text) rest (a_name n s text rest free d))
  target_longer _ _ _ (some_joined ts text rest d) = omega (arith, targets_longer ts text (mark right_brace ∷ rest) d)

  pub targets_longer : (ts : Targets) (text rest : List Token) → AreTargets ts text rest → length rest < length text
  targets_longer _ _ _ (last_target t text rest d) = target_longer t text rest d
  targets_longer _ _ _ (and_targets t ts text more rest d ds) = omega (arith, target_longer t text (mark comma ∷ more) d, targets_longer ts more rest ds)

pub assignment_longer : (sign : Mark) (x : Target × Expression) (text rest : List Token) → IsAssignment sign x text rest → length rest < length text
assignment_longer sign _ _ _ (assigned t e text value rest dt de) = omega (arith, target_longer t text (mark sign ∷ value) dt, longer 0 e value rest de)

pub name_longer : (n : Option Name) (text rest : List Token) → IsBlockName n text rest → length rest ≤ length text
name_longer _ _ _ (unnamed rest) = omega arith
name_longer _ _ _ (named n rest h) = omega arith

pub colon_longer : (text rest : List Token) → IsPerhapsColon text rest → length rest ≤ length text
colon_longer _ _ (with_colon rest) = omega arith
colon_longer _ _ (without_colon rest) = omega arith

mutual
  pub statement_longer : (s : Statement) (text rest : List Token) → IsStatement s text rest → length rest < length text
  statement_longer _ _ _ (nothing rest) = omega arith
  statement_longer _ _ _ (blocks t e text rest d) = omega (arith, assignment_longer equals (t, e) text (mark semicolon ∷ rest) d)
  statement_longer _ _ _ (waits t e text rest d) = omega (arith, assignment_longer less_equals (t, e) text (mark semicolon ∷ rest) d)
  statement_longer _ _ _ (tested c s text more rest dc ds) = omega (arith, longer 0 c text (mark right_parenthesis ∷ more) dc, statement_longer s more rest ds)
  statement_longer _ _ _ (decided c s t text more other rest dc ds closed dt) =
      omega (arith, longer 0 c text (mark right_parenthesis ∷ more) dc, statement_longer s more (word (codes "else") ∷ other) ds, statement_longer t other rest dt)
  statement_longer _ _ _ (selected k e items text more rest de di few) =
      omega (arith, longer 0 e text (mark right_parenthesis ∷ more) de, items_longer items more (word (codes "endcase") ∷ rest) di)
  statement_longer _ _ _ (in_block n ss text more rest dn ds) = omega (arith, name_longer n text more dn, statements_longer ss more (word (codes "end") ∷ rest) ds)

  pub statements_longer : (ss : Statements) (text rest : List Token) → AreStatements ss text rest → length rest ≤ length text
  statements_longer _ _ _ (no_statement rest) = omega arith
  statements_longer _ _ _ (and_statements s ss text more rest d ds) = omega (arith, statement_longer s text more d, statements_longer ss more rest ds)

  pub item_longer : (before items : CaseItems) (text rest : List Token) → IsItemBefore before items text rest → length rest < length text
  item_longer _ _ _ _ (for_values es s items text more rest de ds) = omega (arith, expressions_longer es text (mark colon ∷ more) de, statement_longer s more rest ds)
  item_longer _ _ _ _ (for_others s items text more rest dc ds) = omega (arith, colon_longer text more dc, statement_longer s more rest ds)

  pub items_longer : (items : CaseItems) (text rest : List Token) → AreItems items text rest → length rest < length text
  items_longer _ _ _ (last_item items text rest d) = item_longer no_items items text rest d
  items_longer _ _ _ (and_items items more_items text more rest d ds) = omega (arith, item_longer more_items items text more d, items_longer more_items more rest ds)

-- ---- each reading takes something

pub target_in_shrinks : (d : ℕ) → Shrinks (target_in d)
target_in_shrinks d ts x rest e = target_longer x ts rest (target_in_spelled d ts (x, rest) e)

pub target_shrinks : Shrinks target_at
target_shrinks ts x rest e = target_longer x ts rest (target_spelled ts (x, rest) e)

pub assignment_shrinks : (sign : Mark) → Shrinks (assignment_at sign)
assignment_shrinks sign ts x rest e = assignment_longer sign x ts rest (assignment_spelled sign ts (x, rest) e)

pub reader_shrinks : (one : Reader) → Spells one → Shrinks one
reader_shrinks one hyp ts x rest e = statement_longer x ts rest (hyp ts (x, rest) e).is_spelled

pub statement_in_shrinks : (d : ℕ) → Shrinks (statement_in d)
statement_in_shrinks d = reader_shrinks (statement_in d) (statement_in_spelled d)

pub statement_shrinks : Shrinks statement_at
statement_shrinks ts x rest e = statement_longer x ts rest (statement_spelled ts (x, rest) e)

pub item_shrinks : (d : ℕ) → Shrinks (item_at (statement_in d))
item_shrinks d ts x rest e = item_longer no_items _ ts rest (item_spelled (statement_in d) (statement_in_spelled d) ts (x, rest) e no_items)

pub guarded_shrinks : (d : ℕ) → Shrinks (guarded_at (statement_in d))
guarded_shrinks d ts x rest e =
    let g = guarded_spelled (statement_in d) (statement_in_spelled d) ts (x, rest) e in
    let parts : length ts ≡ suc (length g.condition.text) = ap (λ (us : List Token). length us) g.condition.parts in
    let condition : length (mark right_parenthesis ∷ g.more) < length g.condition.text = longer 0 x.0 g.condition.text (mark right_parenthesis ∷ g.more) g.condition.is_whole in
    let body : length rest < length g.more = statement_longer x.1 g.more rest g.body.is_spelled in
    omega (arith, parts, condition, body)
