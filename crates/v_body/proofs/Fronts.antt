-- What stands at the front of expressions, targets, statements and items: no word of the grammar but those that they begin with.
use Rattle.std.proofs.Common.{◌≡◌, ℕ, suc, true, false, List, ◌∷◌, None, refl}
use Rattle.std.specs.Prelude.{codes}
use Rattle.std.specs.Str.{bytes_eq}
use Rattle.wb_values.specs.Value.{Name}
use Rattle.wb_values.specs.ReservedWords.{is_reserved}
use Rattle.verilog_text.specs.Token.{Mark, left_parenthesis, left_brace, comma, semicolon, colon, question, equals, less_equals, Token, based, mark}
use Rattle.verilog_trees.specs.Syntax.{Expression, Expressions, Target, Statement, Statements, CaseItems, exact_case, wild_case}
use Rattle.verilog_text.specs.Spelling.{plain, unsized, of_size, IsExpression, tighter, chosen, joined, prefixed, a_number, a_name, bracketed, concatenated, replicated, made_signed, made_unsigned, AreExpressions, last_one, and_more}
use Rattle.verilog_text.specs.Grammar.{IsTarget, a_place, some_joined, IsAssignment, assigned, IsStatement, nothing, blocks, waits, tested, decided, selected, in_block, IsItemBefore, for_values, for_others, AreItems, last_item, and_items, AreStatements, no_statement, and_statements}
use Rattle.v_expr.specs.Ending.{is_same_mark}
use Rattle.v_expr.specs.Reading.{after_mark}
use Rattle.v_expr.proofs.Places.{other_mark}
use Rattle.v_body.specs.Words.{after_word}
use Rattle.v_body.proofs.Words.{other_word, no_word_at_mark, no_word_at_system, no_word_at_decimal, no_word_at_based, no_mark_at_word, not_reserved, else_reserved, end_reserved}

-- ---- expressions

-- no reserved word begins an expression
pub expression_front : (w : Name) → is_reserved w ≡ true → (k : ℕ) (e : Expression) (text rest : List Token) → IsExpression k e text rest → after_word w text ≡ None
expression_front w taken _ _ _ _ (tighter k e text rest d) = expression_front w taken (suc k) e text rest d
expression_front w taken _ _ _ _ (chosen c x y text value other rest dc dx dy) = expression_front w taken 1 c text (mark question ∷ value) dc
expression_front w taken _ _ _ _ (joined m o a b text more rest known da db) = expression_front w taken o.level a text (mark m ∷ more) da
expression_front w taken _ _ _ _ (prefixed m f a text rest known d) = no_word_at_mark w m text
expression_front w taken _ _ _ _ (a_number _ _ _ (plain text rest)) = no_word_at_decimal w text rest
expression_front w taken _ _ _ _ (a_number _ _ _ (unsized text rest)) = no_word_at_based w text rest
expression_front w taken _ _ _ _ (a_number _ _ _ (of_size size text rest)) = no_word_at_decimal w size (based text ∷ rest)
expression_front w taken _ _ _ _ (a_name n s text rest named d) = other_word w n text (not_reserved n w named taken)
expression_front w taken _ _ _ _ (bracketed e text rest d) = no_word_at_mark w left_parenthesis text
expression_front w taken _ _ _ _ (concatenated es text rest d) = no_word_at_mark w left_brace text
expression_front w taken _ _ _ _ (replicated n es text parts rest dn d) = no_word_at_mark w left_brace text
expression_front w taken _ _ _ _ (made_signed e text rest d) = no_word_at_system w (codes "$signed") (mark left_parenthesis ∷ text)
expression_front w taken _ _ _ _ (made_unsigned e text rest d) = no_word_at_system w (codes "$unsigned") (mark left_parenthesis ∷ text)

pub expressions_front : (w : Name) → is_reserved w ≡ true → (es : Expressions) (text rest : List Token) → AreExpressions es text rest → after_word w text ≡ None
expressions_front w taken _ _ _ (last_one e text rest d) = expression_front w taken 0 e text rest d
expressions_front w taken _ _ _ (and_more e es text more rest d ds) = expression_front w taken 0 e text (mark comma ∷ more) d

-- ---- targets

pub target_front : (w : Name) → is_reserved w ≡ true → (t : Target) (text rest : List Token) → IsTarget t text rest → after_word w text ≡ None
target_front w taken _ _ _ (a_place n s text rest named d) = other_word w n text (not_reserved n w named taken)
target_front w taken _ _ _ (some_joined ts text rest d) = no_word_at_mark w left_brace text

pub target_mark : (m : Mark) → is_same_mark left_brace m ≡ false → (t : Target) (text rest : List Token) → IsTarget t text rest → after_mark m text ≡ None
target_mark m apart _ _ _ (a_place n s text rest named d) = no_mark_at_word m n text
target_mark m apart _ _ _ (some_joined ts text rest d) = other_mark m left_brace text apart

pub assignment_front : (w : Name) → is_reserved w ≡ true → (sign : Mark) (x : Target × Expression) (text rest : List Token) → IsAssignment sign x text rest → after_word w text ≡ None
assignment_front w taken sign _ _ _ (assigned t e text value rest dt de) = target_front w taken t text (mark sign ∷ value) dt

pub assignment_mark : (m : Mark) → is_same_mark left_brace m ≡ false → (sign : Mark) (x : Target × Expression) (text rest : List Token) → IsAssignment sign x text rest → after_mark m text ≡ None
assignment_mark m apart sign _ _ _ (assigned t e text value rest dt de) = target_mark m apart t text (mark sign ∷ value) dt

-- ---- statements

-- a reserved word that begins no statement
pub record BeginsNone (w : Name) : Type 0 where
  pub is_taken : is_reserved w ≡ true
  pub no_if : bytes_eq (codes "if") w ≡ false
  pub no_begin : bytes_eq (codes "begin") w ≡ false
  pub no_case : bytes_eq (codes "case") w ≡ false
  pub no_casez : bytes_eq (codes "casez") w ≡ false

pub else_begins_none : BeginsNone (codes "else")
else_begins_none = record { is_taken = else_reserved; no_if = refl; no_begin = refl; no_case = refl; no_casez = refl }

pub end_begins_none : BeginsNone (codes "end")
end_begins_none = record { is_taken = end_reserved; no_if = refl; no_begin = refl; no_case = refl; no_casez = refl }

pub statement_front : (w : Name) → BeginsNone w → (s : Statement) (text rest : List Token) → IsStatement s text rest → after_word w text ≡ None
statement_front w b _ _ _ (nothing rest) = no_word_at_mark w semicolon rest
statement_front w b _ _ _ (blocks t e text rest d) = assignment_front w b.is_taken equals (t, e) text (mark semicolon ∷ rest) d
statement_front w b _ _ _ (waits t e text rest d) = assignment_front w b.is_taken less_equals (t, e) text (mark semicolon ∷ rest) d
statement_front w b _ _ _ (tested c s text more rest dc ds) = other_word w (codes "if") (mark left_parenthesis ∷ text) b.no_if
statement_front w b _ _ _ (decided c s t text more other rest dc ds closed dt) = other_word w (codes "if") (mark left_parenthesis ∷ text) b.no_if
statement_front w b _ _ _ (selected exact_case e items text more rest de di few) = other_word w (codes "case") (mark left_parenthesis ∷ text) b.no_case
statement_front w b _ _ _ (selected wild_case e items text more rest de di few) = other_word w (codes "casez") (mark left_parenthesis ∷ text) b.no_casez
statement_front w b _ _ _ (in_block n ss text more rest dn ds) = other_word w (codes "begin") text b.no_begin

pub statement_mark : (m : Mark) → is_same_mark left_brace m ≡ false → is_same_mark semicolon m ≡ false → (s : Statement) (text rest : List Token) → IsStatement s text rest → after_mark m text ≡ None
statement_mark m apart other _ _ _ (nothing rest) = other_mark m semicolon rest other
statement_mark m apart other _ _ _ (blocks t e text rest d) = assignment_mark m apart equals (t, e) text (mark semicolon ∷ rest) d
statement_mark m apart other _ _ _ (waits t e text rest d) = assignment_mark m apart less_equals (t, e) text (mark semicolon ∷ rest) d
statement_mark m apart other _ _ _ (tested c s text more rest dc ds) = no_mark_at_word m (codes "if") (mark left_parenthesis ∷ text)
statement_mark m apart other _ _ _ (decided c s t text more after rest dc ds closed dt) = no_mark_at_word m (codes "if") (mark left_parenthesis ∷ text)
statement_mark m apart other _ _ _ (selected exact_case e items text more rest de di few) = no_mark_at_word m (codes "case") (mark left_parenthesis ∷ text)
statement_mark m apart other _ _ _ (selected wild_case e items text more rest de di few) = no_mark_at_word m (codes "casez") (mark left_parenthesis ∷ text)
statement_mark m apart other _ _ _ (in_block n ss text more rest dn ds) = no_mark_at_word m (codes "begin") text

-- what follows statements, or stands in front of them, is no else
pub statements_front : (w : Name) → BeginsNone w → (ss : Statements) (text rest : List Token) → AreStatements ss text rest → after_word w rest ≡ None → after_word w text ≡ None
statements_front w b _ _ _ (no_statement rest) h = h
statements_front w b _ _ _ (and_statements s ss text more rest d ds) h = statement_front w b s text more d

-- ---- items

pub item_front : (w : Name) → is_reserved w ≡ true → bytes_eq (codes "default") w ≡ false → (before items : CaseItems) (text rest : List Token) → IsItemBefore before items text rest → after_word w text ≡ None
item_front w taken apart _ _ _ _ (for_values es s items text more rest de ds) = expressions_front w taken es text (mark colon ∷ more) de
item_front w taken apart _ _ _ _ (for_others s items text more rest dc ds) = other_word w (codes "default") text apart

pub items_front : (w : Name) → is_reserved w ≡ true → bytes_eq (codes "default") w ≡ false → (items : CaseItems) (text rest : List Token) → AreItems items text rest → after_word w text ≡ None
items_front w taken apart _ _ _ (last_item items text rest d) = item_front w taken apart _ items text rest d
items_front w taken apart _ _ _ (and_items items more_items text more rest d ds) = item_front w taken apart more_items items text more d
