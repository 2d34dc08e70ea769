-- Expressions, targets and statements that are spelled by tokens as texts have them can be printed.
use Rattle.std.proofs.Common.{◌≡◌, ℕ, suc, List, ◌∷◌, Option, Some, None, subst}
use Rattle.std.specs.Prelude.{codes}
use Rattle.wb_values.specs.Value.{Name}
use Rattle.verilog_text.specs.Token.{Mark, left_parenthesis, right_parenthesis, left_bracket, right_bracket, left_brace, right_brace, comma, semicolon, colon, question, plus_colon, minus_colon, plus, minus, star, double_star, slash, percent, exclamation, tilde, ampersand, tilde_ampersand, bar, tilde_bar, caret, tilde_caret, caret_tilde, double_ampersand, double_bar, less, less_equals, greater, greater_equals, double_less, double_greater, triple_less, triple_greater, double_equals, exclamation_equals, triple_equals, exclamation_double_equals, equals, Token, word, system, mark}
use Rattle.verilog_trees.specs.Syntax as tree
use Rattle.verilog_trees.specs.Syntax.{Expression, Expressions, Select, Selects, Target, Targets, Statement, Statements, CaseItems, no_items}
use Rattle.verilog_text.specs.Spelling.{prefix_of, Operator, operator_of, IsExpression, tighter, chosen, joined, prefixed, a_number, a_name, bracketed, concatenated, replicated, made_signed, made_unsigned, AreExpressions, last_one, and_more, IsSelect, by_index, by_part, by_part_up, by_part_down, AreSelects, no_select, one_select, two_selects}
use Rattle.verilog_text.specs.Grammar.{IsTarget, a_place, some_joined, AreTargets, last_target, and_targets, IsAssignment, assigned, case_word, IsBlockName, unnamed, named, IsPerhapsColon, with_colon, without_colon, IsStatement, nothing, blocks, waits, tested, decided, selected, in_block, AreStatements, no_statement, and_statements, IsItemBefore, for_values, for_others, AreItems, last_item, and_items}
use Rattle.v_print.specs.Printable.{AreSome, IsPrintable, ArePrintable, IsPrintableSelect, ArePrintableSelects, AreSomeTargets, IsPrintableTarget, ArePrintableTargets, IsPrintableBlockName, AreSomeItems, IsPrintableStatement, ArePrintableStatements, ArePrintableItems}
use Rattle.v_print_source.proofs.Lexed.{AreLexed, behind, Leaves}
use Rattle.v_print_source.proofs.Worth.{number_printable}

-- ---- operators

abbrev JoinsPrintable : Option Operator → Type 0
JoinsPrintable None = Unit {0}
JoinsPrintable (Some o) = (a b : Expression) → IsPrintable a → IsPrintable b → IsPrintable (o.joins a b)

all_join : (m : Mark) → JoinsPrintable (operator_of m)
all_join double_bar = λ a b p q. (p, q)
all_join double_ampersand = λ a b p q. (p, q)
all_join bar = λ a b p q. (p, q)
all_join caret = λ a b p q. (p, q)
all_join caret_tilde = λ a b p q. (p, q)
all_join tilde_caret = λ a b p q. (p, q)
all_join ampersand = λ a b p q. (p, q)
all_join double_equals = λ a b p q. (p, q)
all_join triple_equals = λ a b p q. (p, q)
all_join exclamation_equals = λ a b p q. (p, q)
all_join exclamation_double_equals = λ a b p q. (p, q)
all_join less = λ a b p q. (p, q)
all_join less_equals = λ a b p q. (p, q)
all_join greater = λ a b p q. (p, q)
all_join greater_equals = λ a b p q. (p, q)
all_join double_less = λ a b p q. (p, q)
all_join triple_less = λ a b p q. (p, q)
all_join double_greater = λ a b p q. (p, q)
all_join triple_greater = λ a b p q. (p, q)
all_join plus = λ a b p q. (p, q)
all_join minus = λ a b p q. (p, q)
all_join star = λ a b p q. (p, q)
all_join slash = λ a b p q. (p, q)
all_join percent = λ a b p q. (p, q)
all_join double_star = λ a b p q. (p, q)
all_join _ = tt

operator_printable : (m : Mark) (o : Operator) → operator_of m ≡ Some o → (a b : Expression) → IsPrintable a → IsPrintable b → IsPrintable (o.joins a b)
operator_printable m o known = subst JoinsPrintable known (all_join m)

abbrev PrefixPrintable : Option (Expression → Expression) → Type 0
PrefixPrintable None = Unit {0}
PrefixPrintable (Some f) = (a : Expression) → IsPrintable a → IsPrintable (f a)

all_prefix : (m : Mark) → PrefixPrintable (prefix_of m)
all_prefix plus = λ a p. p
all_prefix minus = λ a p. p
all_prefix tilde = λ a p. p
all_prefix exclamation = λ a p. p
all_prefix ampersand = λ a p. p
all_prefix tilde_ampersand = λ a p. p
all_prefix bar = λ a p. p
all_prefix tilde_bar = λ a p. p
all_prefix caret = λ a p. p
all_prefix tilde_caret = λ a p. p
all_prefix caret_tilde = λ a p. p
all_prefix _ = tt

prefix_printable : (m : Mark) (f : Expression → Expression) → prefix_of m ≡ Some f → (a : Expression) → IsPrintable a → IsPrintable (f a)
prefix_printable m f known = subst PrefixPrintable known (all_prefix m)

-- ---- expressions

mutual
  pub printable : (k : ℕ) (e : Expression) (text rest : List Token) → IsExpression k e text rest → AreLexed text → Leaves (IsPrintable e) rest
  printable _ _ _ _ (tighter k e text rest d) l = printable (suc k) e text rest d l
  printable _ _ _ _ (chosen c x y text value other rest dc dx dy) l =
      let a = printable 1 c text (mark question ∷ value) dc l in
      let b = printable 0 x value (mark colon ∷ other) dx (behind (mark question) value a.lexed) in
      let d = printable 0 y other rest dy (behind (mark colon) other b.lexed) in
      record { is = (a.is, b.is, d.is); lexed = d.lexed }
  printable _ _ _ _ (joined m o a b text more rest known da db) l =
      let x = printable o.level a text (mark m ∷ more) da l in
      let y = printable (suc o.level) b more rest db (behind (mark m) more x.lexed) in
      record { is = operator_printable m o known a b x.is y.is; lexed = y.lexed }
  printable _ _ _ _ (prefixed m f a text rest known d) l =
      let x = printable 12 a text rest d (behind (mark m) text l) in
      record { is = prefix_printable m f known a x.is; lexed = x.lexed }
  printable _ _ _ _ (a_number n text rest d) l = number_printable n text rest d l
  printable _ _ _ _ (a_name n s text rest free d) l =
      let x = selects_printable s text rest d (behind (word n) text l) in
      record { is = (record { is_written = l.0; is_free = free }, x.is); lexed = x.lexed }
  printable _ _ _ _ (bracketed e text rest d) l =
      let x = printable 0 e text (mark right_parenthesis ∷ rest) d (behind (mark left_parenthesis) text l) in
      record { is = x.is; lexed = behind (mark right_parenthesis) rest x.lexed }
  printable _ _ _ _ (concatenated es text rest d) l =
      let x = parts_printable es text (mark right_brace ∷ rest) d (behind (mark left_brace) text l) in
      record { is = (x.is.0, x.is.1); lexed = behind (mark right_brace) rest x.lexed }
  printable _ _ _ _ (replicated n es text parts rest dn d) l =
      let a = printable 0 n text (mark left_brace ∷ parts) dn (behind (mark left_brace) text l) in
      let x = parts_printable es parts (mark right_brace ∷ mark right_brace ∷ rest) d (behind (mark left_brace) parts a.lexed) in
      record { is = (a.is, x.is.0, x.is.1); lexed = behind (mark right_brace) rest (behind (mark right_brace) (mark right_brace ∷ rest) x.lexed) }
  printable _ _ _ _ (made_signed e text rest d) l =
      let x = printable 0 e text (mark right_parenthesis ∷ rest) d (behind (mark left_parenthesis) text (behind (system (codes "$signed")) (mark left_parenthesis ∷ text) l)) in
      record { is = x.is; lexed = behind (mark right_parenthesis) rest x.lexed }
  printable _ _ _ _ (made_unsigned e text rest d) l =
      let x = printable 0 e text (mark right_parenthesis ∷ rest) d (behind (mark left_parenthesis) text (behind (system (codes "$unsigned")) (mark left_parenthesis ∷ text) l)) in
      record { is = x.is; lexed = behind (mark right_parenthesis) rest x.lexed }

  pub parts_printable : (es : Expressions) (text rest : List Token) → AreExpressions es text rest → AreLexed text → Leaves (AreSome es × ArePrintable es) rest
  parts_printable _ _ _ (last_one e text rest d) l =
      let x = printable 0 e text rest d l in
      record { is = (tt, (x.is, tt)); lexed = x.lexed }
  parts_printable _ _ _ (and_more e es text more rest d ds) l =
      let x = printable 0 e text (mark comma ∷ more) d l in
      let y = parts_printable es more rest ds (behind (mark comma) more x.lexed) in
      record { is = (tt, (x.is, y.is.1)); lexed = y.lexed }

  select_printable : (s : Select) (text rest : List Token) → IsSelect s text rest → AreLexed text → Leaves (IsPrintableSelect s) rest
  select_printable _ _ _ (by_index e text rest d) l =
      let x = printable 0 e text (mark right_bracket ∷ rest) d (behind (mark left_bracket) text l) in
      record { is = x.is; lexed = behind (mark right_bracket) rest x.lexed }
  select_printable _ _ _ (by_part a b text more rest da db) l =
      let x = printable 0 a text (mark colon ∷ more) da (behind (mark left_bracket) text l) in
      let y = printable 0 b more (mark right_bracket ∷ rest) db (behind (mark colon) more x.lexed) in
      record { is = (x.is, y.is); lexed = behind (mark right_bracket) rest y.lexed }
  select_printable _ _ _ (by_part_up a b text more rest da db) l =
      let x = printable 0 a text (mark plus_colon ∷ more) da (behind (mark left_bracket) text l) in
      let y = printable 0 b more (mark right_bracket ∷ rest) db (behind (mark plus_colon) more x.lexed) in
      record { is = (x.is, y.is); lexed = behind (mark right_bracket) rest y.lexed }
  select_printable _ _ _ (by_part_down a b text more rest da db) l =
      let x = printable 0 a text (mark minus_colon ∷ more) da (behind (mark left_bracket) text l) in
      let y = printable 0 b more (mark right_bracket ∷ rest) db (behind (mark minus_colon) more x.lexed) in
      record { is = (x.is, y.is); lexed = behind (mark right_bracket) rest y.lexed }

  pub selects_printable : (s : Selects) (text rest : List Token) → AreSelects s text rest → AreLexed text → Leaves (ArePrintableSelects s) rest
  selects_printable _ _ _ (no_select rest) l = record { is = tt; lexed = l }
  selects_printable _ _ _ (one_select s text rest d) l = select_printable s text rest d l
  selects_printable _ _ _ (two_selects s t text more rest d e) l =
      let x = select_printable s text more d l in
      let y = select_printable t more rest e x.lexed in
      record { is = (x.is, y.is); lexed = y.lexed }

-- ---- targets

mutual
  pub target_printable : (t : Target) (text rest : List Token) → IsTarget t text rest → AreLexed text → Leaves (IsPrintableTarget t) rest
  target_printable _ _ _ (a_place n s text rest free d) l =
      let x = selects_printable s text rest d (behind (word n) text l) in
      record { is = (record { is_written = l.0; is_free = free }, x.is); lexed = x.lexed }
  target_printable _ _ _ (some_joined ts text rest d) l =
      let x = targets_printable ts text (mark right_brace ∷ rest) d (behind (mark left_brace) text l) in
      record { is = (x.is.0, x.is.1); lexed = behind (mark right_brace) rest x.lexed }

  targets_printable : (ts : Targets) (text rest : List Token) → AreTargets ts text rest → AreLexed text → Leaves (AreSomeTargets ts × ArePrintableTargets ts) rest
  targets_printable _ _ _ (last_target t text rest d) l =
      let x = target_printable t text rest d l in
      record { is = (tt, (x.is, tt)); lexed = x.lexed }
  targets_printable _ _ _ (and_targets t ts text more rest d ds) l =
      let x = target_printable t text (mark comma ∷ more) d l in
      let y = targets_printable ts more rest ds (behind (mark comma) more x.lexed) in
      record { is = (tt, (x.is, y.is.1)); lexed = y.lexed }

pub assignment_printable : (m : Mark) (a : Target × Expression) (text rest : List Token) → IsAssignment m a text rest → AreLexed text → Leaves (IsPrintableTarget a.0 × IsPrintable a.1) rest
assignment_printable m _ _ _ (assigned t e text value rest dt de) l =
    let x = target_printable t text (mark m ∷ value) dt l in
    let y = printable 0 e value rest de (behind (mark m) value x.lexed) in
    record { is = (x.is, y.is); lexed = y.lexed }

-- ---- statements

block_name_printable : (n : Option Name) (text rest : List Token) → IsBlockName n text rest → AreLexed text → Leaves (IsPrintableBlockName n) rest
block_name_printable _ _ _ (unnamed rest) l = record { is = tt; lexed = l }
block_name_printable _ _ _ (named n rest free) l =
    let k = behind (mark colon) (word n ∷ rest) l in
    record { is = record { is_written = k.0; is_free = free }; lexed = behind (word n) rest k }

colon_passed : (text rest : List Token) → IsPerhapsColon text rest → AreLexed text → AreLexed rest
colon_passed _ _ (with_colon rest) l = behind (mark colon) rest l
colon_passed _ _ (without_colon rest) l = l

mutual
  pub statement_printable : (s : Statement) (text rest : List Token) → IsStatement s text rest → AreLexed text → Leaves (IsPrintableStatement s) rest
  statement_printable _ _ _ (nothing rest) l = record { is = tt; lexed = behind (mark semicolon) rest l }
  statement_printable _ _ _ (blocks t e text rest d) l =
      let x = assignment_printable equals (t, e) text (mark semicolon ∷ rest) d l in
      record { is = (x.is.0, x.is.1); lexed = behind (mark semicolon) rest x.lexed }
  statement_printable _ _ _ (waits t e text rest d) l =
      let x = assignment_printable less_equals (t, e) text (mark semicolon ∷ rest) d l in
      record { is = (x.is.0, x.is.1); lexed = behind (mark semicolon) rest x.lexed }
  statement_printable _ _ _ (tested c s text more rest dc ds) l =
      let x = printable 0 c text (mark right_parenthesis ∷ more) dc (behind (mark left_parenthesis) text (behind (word (codes "if")) (mark left_parenthesis ∷ text) l)) in
      let y = statement_printable s more rest ds (behind (mark right_parenthesis) more x.lexed) in
      record { is = (x.is, y.is); lexed = y.lexed }
  statement_printable _ _ _ (decided c s t text more other rest dc ds ended dt) l =
      let x = printable 0 c text (mark right_parenthesis ∷ more) dc (behind (mark left_parenthesis) text (behind (word (codes "if")) (mark left_parenthesis ∷ text) l)) in
      let y = statement_printable s more (word (codes "else") ∷ other) ds (behind (mark right_parenthesis) more x.lexed) in
      let z = statement_printable t other rest dt (behind (word (codes "else")) other y.lexed) in
      record { is = (x.is, y.is, z.is, ended); lexed = z.lexed }
  statement_printable _ _ _ (selected k e items text more rest de ds few) l =
      let x = printable 0 e text (mark right_parenthesis ∷ more) de (behind (mark left_parenthesis) text (behind (word (case_word k)) (mark left_parenthesis ∷ text) l)) in
      let y = items_printable items more (word (codes "endcase") ∷ rest) ds (behind (mark right_parenthesis) more x.lexed) in
      record { is = (x.is, y.is.0, y.is.1, few); lexed = behind (word (codes "endcase")) rest y.lexed }
  statement_printable _ _ _ (in_block n ss text more rest dn ds) l =
      let x = block_name_printable n text more dn (behind (word (codes "begin")) text l) in
      let y = statements_printable ss more (word (codes "end") ∷ rest) ds x.lexed in
      record { is = (x.is, y.is); lexed = behind (word (codes "end")) rest y.lexed }

  statements_printable : (ss : Statements) (text rest : List Token) → AreStatements ss text rest → AreLexed text → Leaves (ArePrintableStatements ss) rest
  statements_printable _ _ _ (no_statement rest) l = record { is = tt; lexed = l }
  statements_printable _ _ _ (and_statements s ss text more rest d ds) l =
      let x = statement_printable s text more d l in
      let y = statements_printable ss more rest ds x.lexed in
      record { is = (x.is, y.is); lexed = y.lexed }

  item_printable : (after items : CaseItems) (text rest : List Token) → IsItemBefore after items text rest → AreLexed text
      → Leaves (ArePrintableItems after → AreSomeItems items × ArePrintableItems items) rest
  item_printable _ _ _ _ (for_values es s items text more rest des ds) l =
      let x = parts_printable es text (mark colon ∷ more) des l in
      let y = statement_printable s more rest ds (behind (mark colon) more x.lexed) in
      record { is = λ p. (tt, (x.is.0, x.is.1, y.is, p)); lexed = y.lexed }
  item_printable _ _ _ _ (for_others s items text more rest dc ds) l =
      let y = statement_printable s more rest ds (colon_passed text more dc (behind (word (codes "default")) text l)) in
      record { is = λ p. (tt, (y.is, p)); lexed = y.lexed }

  items_printable : (items : CaseItems) (text rest : List Token) → AreItems items text rest → AreLexed text → Leaves (AreSomeItems items × ArePrintableItems items) rest
  items_printable _ _ _ (last_item items text rest d) l =
      let x = item_printable no_items items text rest d l in
      record { is = x.is tt; lexed = x.lexed }
  items_printable _ _ _ (and_items items others text more rest d ds) l =
      let x = item_printable others items text more d l in
      let y = items_printable others more rest ds x.lexed in
      record { is = x.is y.is.1; lexed = y.lexed }
