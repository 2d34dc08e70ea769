-- Printable targets and statements are spelled by their printed tokens.
use Rattle.std.proofs.Common.{Bool, true, false, List, ◌∷◌, Option, Some, None}
use Rattle.std.specs.Prelude.{codes}
use Rattle.wb_values.specs.Value.{Name}
use Rattle.verilog_text.specs.Token.{Mark, right_parenthesis, right_brace, comma, semicolon, colon, equals, less_equals, Token, word, mark}
use Rattle.verilog_trees.specs.Syntax as tree
use Rattle.verilog_trees.specs.Syntax.{Expression, Expressions, Target, Targets, no_targets, target, Statement, Statements, no_statements, statement, CaseItems, no_items, arm, default_arm}
use Rattle.verilog_text.specs.Grammar.{IsWhole, IsTarget, a_place, some_joined, AreTargets, last_target, and_targets, IsAssignment, assigned, IsBlockName, unnamed, named, IsPerhapsColon, with_colon, without_colon, IsStatement, nothing, blocks, waits, tested, decided, selected, in_block, AreStatements, no_statement, and_statements, for_values, for_others, AreItems, last_item, and_items}
use Rattle.v_print.specs.Spelled.{level_of, bare, bare_parts, bare_selects}
use Rattle.v_print.specs.Bodies.{bare_target, bare_targets, assignment_before, block_name_before, colon_if, bare_statement, bare_statements, bare_items}
use Rattle.v_print.specs.Printable.{IsPrintable, AreSomeTargets, IsPrintableTarget, ArePrintableTargets, IsPrintableBlockName, AreSomeItems, IsPrintableStatement, ArePrintableStatements, ArePrintableItems}
use Rattle.v_print.proofs.Expressions.{whole_of, bare_spelled, parts_spelled, selects_spelled}

pub whole_spelled : (e : Expression) → IsPrintable e → (r : List Token) → IsWhole e (bare e r) r
whole_spelled e p r = whole_of (level_of e) e (bare e) (bare_spelled e p) r

mutual
  pub target_spelled : (t : Target) → IsPrintableTarget t → (r : List Token) → IsTarget t (bare_target t r) r
  target_spelled (tree.place n s) p r = a_place n s (bare_selects s r) r p.0.is_free (selects_spelled s p.1 r)
  target_spelled (tree.joined ts) p r = some_joined ts (bare_targets false ts (mark right_brace ∷ r)) r (targets_spelled ts p.0 p.1 (mark right_brace ∷ r))

  targets_spelled : (ts : Targets) → AreSomeTargets ts → ArePrintableTargets ts → (r : List Token) → AreTargets ts (bare_targets false ts r) r
  targets_spelled no_targets some p r = absurd some
  targets_spelled (target t no_targets) some p r = last_target t (bare_target t r) r (target_spelled t p.0 r)
  targets_spelled (target t (target u ts)) some p r =
      and_targets t (target u ts) (bare_targets false (target t (target u ts)) r) (bare_targets false (target u ts) r) r
      (target_spelled t p.0 (mark comma ∷ bare_targets false (target u ts) r)) (targets_spelled (target u ts) tt p.1 r)

pub assignment_spelled : (m : Mark) (t : Target) (e : Expression) → IsPrintableTarget t → IsPrintable e → (r : List Token) → IsAssignment m (t, e) (assignment_before m t e r) r
assignment_spelled m t e p q r = assigned t e (assignment_before m t e r) (bare e r) r (target_spelled t p (mark m ∷ bare e r)) (whole_spelled e q r)

block_name_spelled : (n : Option Name) → IsPrintableBlockName n → (r : List Token) → IsBlockName n (block_name_before n r) r
block_name_spelled None p r = unnamed r
block_name_spelled (Some n) p r = named n r p.is_free

colon_spelled : (c : Bool) (r : List Token) → IsPerhapsColon (colon_if c r) r
colon_spelled true r = with_colon r
colon_spelled false r = without_colon r

mutual
  pub statement_spelled : (c : Bool) (s : Statement) → IsPrintableStatement s → (r : List Token) → IsStatement s (bare_statement c s r) r
  statement_spelled c tree.empty p r = nothing r
  statement_spelled c (tree.blocking t e) p r = blocks t e (assignment_before equals t e (mark semicolon ∷ r)) r (assignment_spelled equals t e p.0 p.1 (mark semicolon ∷ r))
  statement_spelled c (tree.nonblocking t e) p r = waits t e (assignment_before less_equals t e (mark semicolon ∷ r)) r (assignment_spelled less_equals t e p.0 p.1 (mark semicolon ∷ r))
  statement_spelled c (tree.if_then e s) p r =
      tested e s (bare e (mark right_parenthesis ∷ bare_statement c s r)) (bare_statement c s r) r
      (whole_spelled e p.0 (mark right_parenthesis ∷ bare_statement c s r)) (statement_spelled c s p.1 r)
  statement_spelled c (tree.if_else e s t) p r =
      let other = bare_statement c t r in
      let more = bare_statement c s (word (codes "else") ∷ other) in
      decided e s t (bare e (mark right_parenthesis ∷ more)) more other r (whole_spelled e p.0 (mark right_parenthesis ∷ more))
      (statement_spelled c s p.1 (word (codes "else") ∷ other)) p.3 (statement_spelled c t p.2 r)
  statement_spelled c (tree.case k e items) p r =
      let more = bare_items c items (word (codes "endcase") ∷ r) in
      selected k e items (bare e (mark right_parenthesis ∷ more)) more r (whole_spelled e p.0 (mark right_parenthesis ∷ more))
      (items_spelled c items p.1 p.2 (word (codes "endcase") ∷ r)) p.3
  statement_spelled c (tree.block n ss) p r =
      let more = bare_statements c ss (word (codes "end") ∷ r) in
      in_block n ss (block_name_before n more) more r (block_name_spelled n p.0 more) (statements_spelled c ss p.1 (word (codes "end") ∷ r))

  statements_spelled : (c : Bool) (ss : Statements) → ArePrintableStatements ss → (r : List Token) → AreStatements ss (bare_statements c ss r) r
  statements_spelled c no_statements p r = no_statement r
  statements_spelled c (statement s ss) p r =
      and_statements s ss (bare_statement c s (bare_statements c ss r)) (bare_statements c ss r) r (statement_spelled c s p.0 (bare_statements c ss r)) (statements_spelled c ss p.1 r)

  items_spelled : (c : Bool) (items : CaseItems) → AreSomeItems items → ArePrintableItems items → (r : List Token) → AreItems items (bare_items c items r) r
  items_spelled c no_items some p r = absurd some
  items_spelled c (arm es s no_items) some p r =
      last_item (arm es s no_items) (bare_items c (arm es s no_items) r) r
      (for_values es s no_items (bare_parts false es (mark colon ∷ bare_statement c s r)) (bare_statement c s r) r
      (parts_spelled es p.0 p.1 (mark colon ∷ bare_statement c s r)) (statement_spelled c s p.2 r))
  items_spelled c (default_arm s no_items) some p r =
      last_item (default_arm s no_items) (bare_items c (default_arm s no_items) r) r
      (for_others s no_items (colon_if c (bare_statement c s r)) (bare_statement c s r) r (colon_spelled c (bare_statement c s r)) (statement_spelled c s p.0 r))
  items_spelled c (arm es s (arm fs u items)) some p r =
      let more = bare_items c (arm fs u items) r in
      and_items (arm es s (arm fs u items)) (arm fs u items) (bare_items c (arm es s (arm fs u items)) r) more r
      (for_values es s (arm fs u items) (bare_parts false es (mark colon ∷ bare_statement c s more)) (bare_statement c s more) more
      (parts_spelled es p.0 p.1 (mark colon ∷ bare_statement c s more)) (statement_spelled c s p.2 more))
      (items_spelled c (arm fs u items) tt p.3 r)
  items_spelled c (arm es s (default_arm u items)) some p r =
      let more = bare_items c (default_arm u items) r in
      and_items (arm es s (default_arm u items)) (default_arm u items) (bare_items c (arm es s (default_arm u items)) r) more r
      (for_values es s (default_arm u items) (bare_parts false es (mark colon ∷ bare_statement c s more)) (bare_statement c s more) more
      (parts_spelled es p.0 p.1 (mark colon ∷ bare_statement c s more)) (statement_spelled c s p.2 more))
      (items_spelled c (default_arm u items) tt p.3 r)
  items_spelled c (default_arm s (arm fs u items)) some p r =
      let more = bare_items c (arm fs u items) r in
      and_items (default_arm s (arm fs u items)) (arm fs u items) (bare_items c (default_arm s (arm fs u items)) r) more r
      (for_others s (arm fs u items) (colon_if c (bare_statement c s more)) (bare_statement c s more) more (colon_spelled c (bare_statement c s more)) (statement_spelled c s p.0 more))
      (items_spelled c (arm fs u items) tt p.1 r)
  items_spelled c (default_arm s (default_arm u items)) some p r =
      let more = bare_items c (default_arm u items) r in
      and_items (default_arm s (default_arm u items)) (default_arm u items) (bare_items c (default_arm s (default_arm u items)) r) more r
      (for_others s (default_arm u items) (colon_if c (bare_statement c s more)) (bare_statement c s more) more (colon_spelled c (bare_statement c s more)) (statement_spelled c s p.0 more))
      (items_spelled c (default_arm u items) tt p.1 r)
