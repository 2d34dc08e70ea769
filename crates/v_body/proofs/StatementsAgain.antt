-- A statement that is spelled so, with no else behind it that would belong to it, is read.
use Rattle.std.proofs.Common.{◌≡◌, ℕ, zero, suc, ◌<◌, ◌≤◌, true, false, List, [], ◌∷◌, length, Option, Some, None, refl, sym, ap, ◌∙◌, subst, arith}
use Rattle.std.specs.Prelude.{codes}
use Rattle.std.proofs.lemmas.Bool.Decides.{nat_tests}
use Rattle.wb_values.specs.Value.{Name}
use Rattle.verilog_text.specs.Token.{left_parenthesis, right_parenthesis, comma, colon, semicolon, equals, less_equals, Token, word, mark}
use Rattle.verilog_trees.specs.Syntax as tree
use Rattle.verilog_trees.specs.Syntax.{Expression, Expressions, expression, Target, CaseKind, exact_case, wild_case, Statement, Statements, statement, CaseItems, no_items, arm, default_arm}
use Rattle.verilog_text.specs.Spelling.{AreExpressions, last_one, and_more}
use Rattle.verilog_text.specs.Grammar.{IsWhole, IsTarget, assigned, has_open_if, count_defaults, IsBlockName, unnamed, named, IsPerhapsColon, with_colon, without_colon, IsStatement, nothing, blocks, waits, tested, decided, selected, in_block, AreStatements, no_statement, and_statements, IsItemBefore, for_values, for_others, AreItems, last_item, and_items}
use Rattle.v_expr.specs.Ending.{Ends}
use Rattle.v_expr.specs.Repeat.{choose, repeated}
use Rattle.v_expr.specs.Reading.{after_mark, as_expressions}
use Rattle.v_expr.specs.Whole.{whole_at}
use Rattle.v_expr.proofs.Repeat.{some_is, Chain, many_of_chain}
use Rattle.v_expr.proofs.Places.{mark_again, other_mark}
use Rattle.v_expr.proofs.Grow.{longer}
use Rattle.v_expr.proofs.Whole.{whole_again, whole_shrinks}
use Rattle.v_body.specs.Words.{after_word, listed_at}
use Rattle.v_body.specs.Statements.{Reader, IsNearest, condition_at, value_at, blocking_at, nonblocking_at, assigning_at, guarded_at, ladder_at, conditional_at, CaseItem, item_before, as_items, behind_perhaps_colon, default_at, arm_at, item_at, items_at, are_items_of_case, case_at, as_statements, block_name_at, block_at, outer_statement_at, statement_in, statement_at}
use Rattle.v_body.proofs.Words.{word_spelled, word_again, other_word, no_word_at_mark, no_mark_at_word, name_again, else_reserved, endcase_reserved, default_reserved, if_reserved, begin_reserved, case_reserved, casez_reserved}
use Rattle.v_body.proofs.Lists.{Listed, listed_last, listed_more, listed_again}
use Rattle.v_body.proofs.Fronts.{expressions_front, target_front, target_mark, else_begins_none, end_begins_none, statement_front, statement_mark, statements_front, item_front, items_front}
use Rattle.v_body.proofs.Longer.{expressions_longer, colon_longer, name_longer, statement_longer, item_longer, statement_in_shrinks, item_shrinks}
use Rattle.v_body.proofs.TargetsAgain.{target_again}

-- ---- the parts of a statement

condition_again : (e : Expression) (text rest : List Token) → IsWhole e text (mark right_parenthesis ∷ rest) → condition_at (mark left_parenthesis ∷ text) ≡ Some (e, rest)
unfolding condition_at
condition_again e text rest d = rw (mark_again left_parenthesis text, whole_again e text (mark right_parenthesis ∷ rest) d (tt, refl, λ _. refl), mark_again right_parenthesis rest) refl

value_again : (e : Expression) (text rest : List Token) → IsWhole e text (mark semicolon ∷ rest) → value_at text ≡ Some (e, rest)
unfolding value_at
value_again e text rest d = rw (whole_again e text (mark semicolon ∷ rest) d (tt, refl, λ _. refl), mark_again semicolon rest) refl

blocking_again : (t : Target) (e : Expression) (text value rest : List Token) → IsTarget t text (mark equals ∷ value) → IsWhole e value (mark semicolon ∷ rest) → assigning_at text ≡ Some (tree.blocking t e, rest)
unfolding assigning_at blocking_at
blocking_again t e text value rest dt de = rw (target_again 0 t text (mark equals ∷ value) dt (tt, refl, λ _. refl), mark_again equals value, value_again e value rest de) refl

nonblocking_again : (t : Target) (e : Expression) (text value rest : List Token) → IsTarget t text (mark less_equals ∷ value) → IsWhole e value (mark semicolon ∷ rest) → assigning_at text ≡ Some (tree.nonblocking t e, rest)
unfolding assigning_at nonblocking_at
nonblocking_again t e text value rest dt de =
    rw (target_again 7 t text (mark less_equals ∷ value) dt (omega arith, refl, λ z. absurd (omega (arith, z))), other_mark equals less_equals value refl, mark_again less_equals value, value_again e value rest de) refl

guarded_again : (one : Reader) (c : Expression) (s : Statement) (text more rest : List Token) → IsWhole c text (mark right_parenthesis ∷ more) → one more ≡ Some (s, rest)
    → guarded_at one (mark left_parenthesis ∷ text) ≡ Some ((c, s), rest)
unfolding guarded_at
guarded_again one c s text more rest dc h = rw (condition_again c text more dc, h) refl

alone_again : (one : Reader) (n : ℕ) (c : Expression) (s : Statement) (ts rest : List Token) → guarded_at one ts ≡ Some ((c, s), rest) → after_word (codes "else") rest ≡ None
    → ladder_at one (suc n) ts ≡ Some (tree.if_then c s, rest)
unfolding ladder_at
alone_again one n c s ts rest h e = rw (h, e) refl

with_else_again : (one : Reader) (n : ℕ) (c : Expression) (s t : Statement) (ts other rest : List Token) → guarded_at one ts ≡ Some ((c, s), word (codes "else") ∷ other)
    → choose (after_word (codes "if") other) (ladder_at one n) (one other) ≡ Some (t, rest) → ladder_at one (suc n) ts ≡ Some (tree.if_else c s t, rest)
unfolding ladder_at
with_else_again one n c s t ts other rest h e = rw (h, word_again (codes "else") other, e) refl

block_name_again : (n : Option Name) (text more : List Token) → IsBlockName n text more → after_mark colon more ≡ None → block_name_at text ≡ Some (n, more)
unfolding block_name_at
block_name_again _ _ _ (unnamed rest) h = rw h refl
block_name_again _ _ _ (named n rest free) h = rw (mark_again colon (word n ∷ rest), name_again n rest free) refl

colon_again : (text more : List Token) → IsPerhapsColon text more → after_mark colon more ≡ None → behind_perhaps_colon text ≡ more
unfolding behind_perhaps_colon
colon_again _ _ (with_colon rest) h = rw (mark_again colon rest) refl
colon_again _ _ (without_colon rest) h = rw h refl

-- ---- which statement stands in front

is_empty : (one : Reader) (rest : List Token) → outer_statement_at one (mark semicolon ∷ rest) ≡ Some (tree.empty, rest)
unfolding outer_statement_at
is_empty one rest = rw (mark_again semicolon rest) refl

is_conditional : (one : Reader) (ts : List Token) → outer_statement_at one (word (codes "if") ∷ ts) ≡ ladder_at one (suc (length ts)) ts
unfolding outer_statement_at conditional_at
is_conditional one ts = rw (no_mark_at_word semicolon (codes "if") ts, word_again (codes "if") ts) refl

is_block : (one : Reader) (ts : List Token) → outer_statement_at one (word (codes "begin") ∷ ts) ≡ block_at one ts
unfolding outer_statement_at
is_block one ts = rw (no_mark_at_word semicolon (codes "begin") ts, other_word (codes "if") (codes "begin") ts refl, word_again (codes "begin") ts) refl

is_case : (one : Reader) (ts : List Token) → outer_statement_at one (word (codes "case") ∷ ts) ≡ case_at one exact_case ts
unfolding outer_statement_at
is_case one ts =
    rw (no_mark_at_word semicolon (codes "case") ts, other_word (codes "if") (codes "case") ts refl, other_word (codes "begin") (codes "case") ts refl, word_again (codes "case") ts) refl

is_wild_case : (one : Reader) (ts : List Token) → outer_statement_at one (word (codes "casez") ∷ ts) ≡ case_at one wild_case ts
unfolding outer_statement_at
is_wild_case one ts =
    rw (no_mark_at_word semicolon (codes "casez") ts, other_word (codes "if") (codes "casez") ts refl, other_word (codes "begin") (codes "casez") ts refl, other_word (codes "case") (codes "casez") ts refl, word_again (codes "casez") ts) refl

is_assigning : (one : Reader) (t : Target) (text rest : List Token) → IsTarget t text rest → outer_statement_at one text ≡ assigning_at text
unfolding outer_statement_at
is_assigning one t text rest d =
    rw (target_mark semicolon refl t text rest d, target_front (codes "if") if_reserved t text rest d, target_front (codes "begin") begin_reserved t text rest d, target_front (codes "case") case_reserved t text rest d, target_front (codes "casez") casez_reserved t text rest d) refl

-- ---- lists of values

record AreValuesRead (es : Expressions) (text rest : List Token) : Type 0 where
  list : List Expression
  are : as_expressions list ≡ es
  readings : Listed colon whole_at list text rest

values_again : (es : Expressions) (text stop rest : List Token) → AreExpressions es text stop → after_mark colon stop ≡ Some rest → Ends 0 stop → AreValuesRead es text rest
values_again _ _ _ rest (last_one e text stop d) closes ends = record {
  list = e ∷ [];
  are = refl;
  readings = listed_last colon whole_at e text stop rest (whole_again e text stop d ends) closes;
}
values_again _ _ _ rest (and_more e es text more stop d ds) closes ends =
    let others = values_again es more stop rest ds closes ends in
    record {
      list = e ∷ others.list;
      are = ap (expression e) others.are;
      readings = listed_more colon whole_at e others.list text more rest refl (whole_again e text (mark comma ∷ more) d (tt, refl, λ _. refl)) others.readings;
    }

-- ---- what is read again

-- A statement is read again, alone and as the last part of a ladder, at any depth that its tokens can have.
record IsReadAgain (s : Statement) (text rest : List Token) : Type 0 where
  outer : (d : ℕ) → length text ≤ suc d → IsNearest s rest → outer_statement_at (statement_in d) text ≡ Some (s, rest)
  ladder : (d n : ℕ) (more : List Token) → after_word (codes "if") text ≡ Some more → length more ≤ d → length more < n → IsNearest s rest → ladder_at (statement_in d) n more ≡ Some (s, rest)

inner : (s : Statement) (text rest : List Token) → length rest < length text → IsReadAgain s text rest → (d : ℕ) → length text ≤ d → IsNearest s rest → statement_in d text ≡ Some (s, rest)
unfolding statement_in
inner s text rest some p zero low near = absurd (omega (arith, some, low))
inner s text rest some p (suc d) low near = p.outer d low near

-- no ladder
not_if : (s : Statement) (text rest : List Token) → after_word (codes "if") text ≡ None
    → ((d : ℕ) → length text ≤ suc d → IsNearest s rest → outer_statement_at (statement_in d) text ≡ Some (s, rest)) → IsReadAgain s text rest
not_if s text rest none p = record { outer = p; ladder = λ d n more e low turns near. absurd cc }

by_ladder : (s : Statement) (ts rest : List Token) → ((d n : ℕ) → length ts ≤ d → length ts < n → IsNearest s rest → ladder_at (statement_in d) n ts ≡ Some (s, rest))
    → IsReadAgain s (word (codes "if") ∷ ts) rest
by_ladder s ts rest p = record {
  outer = λ d low near. is_conditional (statement_in d) ts ∙ p d (suc (length ts)) (omega (arith, low)) (omega arith) near;
  ladder = λ d n more e low turns near.
      let same : ts ≡ more = some_is ts more (sym (word_again (codes "if") ts) ∙ e) in
      subst (λ (us : List Token). length us ≤ d → length us < n → ladder_at (statement_in d) n us ≡ Some (s, rest)) same (λ l m. p d n l m near) low turns;
}

-- the last part of a ladder
last_by : (d n : ℕ) (t : Statement) (other rest : List Token) → length rest < length other → IsReadAgain t other rest → length other ≤ d → length other ≤ n → IsNearest t rest
    → (o : Option (List Token)) → after_word (codes "if") other ≡ o → choose o (ladder_at (statement_in d) n) (statement_in d other) ≡ Some (t, rest)
last_by d n t other rest some p low turns near (Some more) e =
    let parts : length other ≡ suc (length more) = ap (λ (us : List Token). length us) (word_spelled (codes "if") e) in
    p.ladder d n more e (omega (arith, parts, low)) (omega (arith, parts, turns)) near
last_by d n t other rest some p low turns near None e = inner t other rest some p d low near

alone_ladder : (c : Expression) (s : Statement) (text more rest : List Token) → IsWhole c text (mark right_parenthesis ∷ more) → IsStatement s more rest → IsReadAgain s more rest
    → (d n : ℕ) → length (mark left_parenthesis ∷ text) ≤ d → length (mark left_parenthesis ∷ text) < n → IsNearest (tree.if_then c s) rest
    → ladder_at (statement_in d) n (mark left_parenthesis ∷ text) ≡ Some (tree.if_then c s, rest)
alone_ladder c s text more rest dc ds p d zero low turns near = absurd (omega (arith, turns))
alone_ladder c s text more rest dc ds p d (suc n) low turns near =
    let shorter : length (mark right_parenthesis ∷ more) < length text = longer 0 c text (mark right_parenthesis ∷ more) dc in
    alone_again (statement_in d) n c s (mark left_parenthesis ∷ text) rest
    (guarded_again (statement_in d) c s text more rest dc (inner s more rest (statement_longer s more rest ds) p d (omega (arith, low, shorter)) (λ _. near refl))) (near refl)

closed_near : (s : Statement) (rest : List Token) → has_open_if s ≡ false → IsNearest s rest
closed_near s rest closed o = absurd cc

with_else_ladder : (c : Expression) (s t : Statement) (text more other rest : List Token) → IsWhole c text (mark right_parenthesis ∷ more) → IsStatement s more (word (codes "else") ∷ other)
    → has_open_if s ≡ false → IsStatement t other rest → IsReadAgain s more (word (codes "else") ∷ other) → IsReadAgain t other rest
    → (d n : ℕ) → length (mark left_parenthesis ∷ text) ≤ d → length (mark left_parenthesis ∷ text) < n → IsNearest (tree.if_else c s t) rest
    → ladder_at (statement_in d) n (mark left_parenthesis ∷ text) ≡ Some (tree.if_else c s t, rest)
with_else_ladder c s t text more other rest dc ds closed dt p q d zero low turns near = absurd (omega (arith, turns))
with_else_ladder c s t text more other rest dc ds closed dt p q d (suc n) low turns near =
    let condition : length (mark right_parenthesis ∷ more) < length text = longer 0 c text (mark right_parenthesis ∷ more) dc in
    let body : length (word (codes "else") ∷ other) < length more = statement_longer s more (word (codes "else") ∷ other) ds in
    let last = statement_longer t other rest dt in
    with_else_again (statement_in d) n c s t (mark left_parenthesis ∷ text) other rest
    (guarded_again (statement_in d) c s text more (word (codes "else") ∷ other) dc
    (inner s more (word (codes "else") ∷ other) body p d (omega (arith, low, condition)) (closed_near s (word (codes "else") ∷ other) closed)))
    (last_by d n t other rest last q (omega (arith, low, condition, body)) (omega (arith, turns, condition, body)) near (after_word (codes "if") other) refl)

-- ---- blocks

record AreStatementsRead (one : Reader) (ss : Statements) (text rest : List Token) : Type 0 where
  list : List Statement
  are : as_statements list ≡ ss
  readings : Chain (after_word (codes "end")) one list text rest

statements_mark : (ss : Statements) (text rest : List Token) → AreStatements ss text rest → after_mark colon rest ≡ None → after_mark colon text ≡ None
statements_mark _ _ _ (no_statement rest) h = h
statements_mark _ _ _ (and_statements s ss text more rest d ds) h = statement_mark colon refl refl s text more d

block_again : (d : ℕ) (n : Option Name) (ss : Statements) (text more rest : List Token) → IsBlockName n text more → after_mark colon more ≡ None → AreStatementsRead (statement_in d) ss more rest
    → block_at (statement_in d) text ≡ Some (tree.block n ss, rest)
unfolding block_at repeated
block_again d n ss text more rest dn none p =
    let now : block_at (statement_in d) text ≡ Some (tree.block n (as_statements p.list), rest) =
    rw (block_name_again n text more dn none, many_of_chain (after_word (codes "end")) (statement_in d) (statement_in_shrinks d) (suc (length more)) p.list more rest (omega arith) p.readings) refl in
    now ∙ ap (λ (xs : Statements). Some (tree.block n xs, rest)) p.are

-- ---- items

record IsItemRead (one : Reader) (before items : CaseItems) (text rest : List Token) : Type 0 where
  item : CaseItem
  made : item_before item.0 item.1 before ≡ items
  reading : item_at one text ≡ Some (item, rest)

record AreItemsRead (one : Reader) (items : CaseItems) (text rest : List Token) : Type 0 where
  list : List CaseItem
  are : as_items list ≡ items
  readings : Chain (after_word (codes "endcase")) (item_at one) list text rest

is_arm : (one : Reader) (s : Statement) (text more rest : List Token) → after_word (codes "default") text ≡ None → (list : List Expression) → listed_at colon whole_at text ≡ Some (list, more) → one more ≡ Some (s, rest)
    → item_at one text ≡ Some ((Some (as_expressions list), s), rest)
unfolding item_at arm_at
is_arm one s text more rest none list read h = rw (none, read, h) refl

arm_again : (one : Reader) (es : Expressions) (s : Statement) (before : CaseItems) (text more rest : List Token) → AreExpressions es text (mark colon ∷ more) → one more ≡ Some (s, rest)
    → IsItemRead one before (arm es s before) text rest
arm_again one es s before text more rest de h =
    let p = values_again es text (mark colon ∷ more) more de (mark_again colon more) (tt, refl, λ _. refl) in
    record {
      item = (Some (as_expressions p.list), s);
      made = ap (λ (xs : Expressions). arm xs s before) p.are;
      reading = is_arm one s text more rest (expressions_front (codes "default") default_reserved es text (mark colon ∷ more) de) p.list (listed_again colon whole_at whole_shrinks p.list text more p.readings) h;
    }

default_again : (one : Reader) (s : Statement) (text more rest : List Token) → behind_perhaps_colon text ≡ more → one more ≡ Some (s, rest) → item_at one (word (codes "default") ∷ text) ≡ Some ((None, s), rest)
unfolding item_at default_at
default_again one s text more rest e h = rw (word_again (codes "default") text, e, h) refl

few_again : (before : CaseItems) (o : Option Expressions) (s : Statement) → count_defaults (item_before o s before) ≤ 1 → are_items_of_case (item_before o s before) ≡ true
few_again before (Some es) s h = grind (arith, nat_tests)
few_again before None s h = grind (arith, nat_tests)

few_items : (items : CaseItems) (text rest : List Token) → AreItems items text rest → count_defaults items ≤ 1 → are_items_of_case items ≡ true
few_items _ _ _ (last_item _ _ _ (for_values es s items text more rest de ds)) h = few_again items (Some es) s h
few_items _ _ _ (last_item _ _ _ (for_others s items text more rest dc ds)) h = few_again items None s h
few_items _ _ _ (and_items _ _ _ _ last (for_values es s items text more rest de ds) more_items) h = few_again items (Some es) s h
few_items _ _ _ (and_items _ _ _ _ last (for_others s items text more rest dc ds) more_items) h = few_again items None s h

case_again : (d : ℕ) (k : CaseKind) (e : Expression) (items : CaseItems) (text more rest : List Token) → IsWhole e text (mark right_parenthesis ∷ more) → are_items_of_case items ≡ true
    → AreItemsRead (statement_in d) items more rest → case_at (statement_in d) k (mark left_parenthesis ∷ text) ≡ Some (tree.case k e items, rest)
unfolding case_at items_at repeated
case_again d k e items text more rest de right p =
    let few : are_items_of_case (as_items p.list) ≡ true = ap are_items_of_case p.are ∙ right in
    let now : case_at (statement_in d) k (mark left_parenthesis ∷ text) ≡ Some (tree.case k e (as_items p.list), rest) =
    rw (condition_again e text more de, many_of_chain (after_word (codes "endcase")) (item_at (statement_in d)) (item_shrinks d) (suc (length more)) p.list more rest (omega arith) p.readings, few) refl in
    now ∙ ap (λ (xs : CaseItems). Some (tree.case k e xs, rest)) p.are

-- ---- all statements

mutual
  again : (s : Statement) (text rest : List Token) → IsStatement s text rest → IsReadAgain s text rest
  again _ _ _ (nothing rest) = not_if tree.empty (mark semicolon ∷ rest) rest (no_word_at_mark (codes "if") semicolon rest) (λ d low near. is_empty (statement_in d) rest)
  again _ _ _ (blocks _ _ _ rest (assigned t e text value _ dt de)) =
      not_if (tree.blocking t e) text rest (target_front (codes "if") if_reserved t text (mark equals ∷ value) dt)
      (λ d low near. is_assigning (statement_in d) t text (mark equals ∷ value) dt ∙ blocking_again t e text value rest dt de)
  again _ _ _ (waits _ _ _ rest (assigned t e text value _ dt de)) =
      not_if (tree.nonblocking t e) text rest (target_front (codes "if") if_reserved t text (mark less_equals ∷ value) dt)
      (λ d low near. is_assigning (statement_in d) t text (mark less_equals ∷ value) dt ∙ nonblocking_again t e text value rest dt de)
  again _ _ _ (tested c s text more rest dc ds) =
      by_ladder (tree.if_then c s) (mark left_parenthesis ∷ text) rest (alone_ladder c s text more rest dc ds (again s more rest ds))
  again _ _ _ (decided c s t text more other rest dc ds closed dt) =
      by_ladder (tree.if_else c s t) (mark left_parenthesis ∷ text) rest
      (with_else_ladder c s t text more other rest dc ds closed dt (again s more (word (codes "else") ∷ other) ds) (again t other rest dt))
  again _ _ _ (selected exact_case e items text more rest de di few) =
      not_if (tree.case exact_case e items) (word (codes "case") ∷ mark left_parenthesis ∷ text) rest (other_word (codes "if") (codes "case") (mark left_parenthesis ∷ text) refl)
      (λ d low near. is_case (statement_in d) (mark left_parenthesis ∷ text)
      ∙ case_again d exact_case e items text more rest de (few_items items more (word (codes "endcase") ∷ rest) di few)
      (items_again d items more (word (codes "endcase") ∷ rest) rest di (let shorter = longer 0 e text (mark right_parenthesis ∷ more) de in omega (arith, low, shorter))
      (word_again (codes "endcase") rest) (other_word (codes "else") (codes "endcase") rest refl)))
  again _ _ _ (selected wild_case e items text more rest de di few) =
      not_if (tree.case wild_case e items) (word (codes "casez") ∷ mark left_parenthesis ∷ text) rest (other_word (codes "if") (codes "casez") (mark left_parenthesis ∷ text) refl)
      (λ d low near. is_wild_case (statement_in d) (mark left_parenthesis ∷ text)
      ∙ case_again d wild_case e items text more rest de (few_items items more (word (codes "endcase") ∷ rest) di few)
      (items_again d items more (word (codes "endcase") ∷ rest) rest di (let shorter = longer 0 e text (mark right_parenthesis ∷ more) de in omega (arith, low, shorter))
      (word_again (codes "endcase") rest) (other_word (codes "else") (codes "endcase") rest refl)))
  again _ _ _ (in_block n ss text more rest dn ds) =
      not_if (tree.block n ss) (word (codes "begin") ∷ text) rest (other_word (codes "if") (codes "begin") text refl)
      (λ d low near. is_block (statement_in d) text
      ∙ block_again d n ss text more rest dn (statements_mark ss more (word (codes "end") ∷ rest) ds (no_mark_at_word colon (codes "end") rest))
      (statements_again d ss more (word (codes "end") ∷ rest) rest ds (let shorter = name_longer n text more dn in omega (arith, low, shorter))
      (word_again (codes "end") rest) (other_word (codes "else") (codes "end") rest refl)))

  statements_again : (d : ℕ) (ss : Statements) (text stop rest : List Token) → AreStatements ss text stop → length text ≤ d → after_word (codes "end") stop ≡ Some rest → after_word (codes "else") stop ≡ None
      → AreStatementsRead (statement_in d) ss text rest
  statements_again d _ _ _ rest (no_statement stop) low closes no_else = record { list = []; are = refl; readings = closes }
  statements_again d _ _ _ rest (and_statements s ss text more stop p ps) low closes no_else =
      let shorter : length more < length text = statement_longer s text more p in
      let others = statements_again d ss more stop rest ps (omega (arith, low, shorter)) closes no_else in
      record {
        list = s ∷ others.list;
        are = ap (statement s) others.are;
        readings = (
          more,
          statement_front (codes "end") end_begins_none s text more p,
          inner s text more shorter (again s text more p) d low (λ _. statements_front (codes "else") else_begins_none ss more stop ps no_else),
          others.readings,
        );
      }

  item_again : (d : ℕ) (before items : CaseItems) (text rest : List Token) → IsItemBefore before items text rest → length text ≤ d → after_word (codes "else") rest ≡ None
      → IsItemRead (statement_in d) before items text rest
  item_again d _ _ _ _ (for_values es s before text more rest de ds) low no_else =
      let shorter : length (mark colon ∷ more) < length text = expressions_longer es text (mark colon ∷ more) de in
      arm_again (statement_in d) es s before text more rest de (inner s more rest (statement_longer s more rest ds) (again s more rest ds) d (omega (arith, low, shorter)) (λ _. no_else))
  item_again d _ _ _ _ (for_others s before text more rest dc ds) low no_else =
      let shorter : length more ≤ length text = colon_longer text more dc in
      record {
        item = (None, s);
        made = refl;
        reading = default_again (statement_in d) s text more rest (colon_again text more dc (statement_mark colon refl refl s more rest ds))
            (inner s more rest (statement_longer s more rest ds) (again s more rest ds) d (omega (arith, low, shorter)) (λ _. no_else));
      }

  items_again : (d : ℕ) (items : CaseItems) (text stop rest : List Token) → AreItems items text stop → length text ≤ d → after_word (codes "endcase") stop ≡ Some rest → after_word (codes "else") stop ≡ None
      → AreItemsRead (statement_in d) items text rest
  items_again d _ _ _ rest (last_item items text stop p) low closes no_else =
      let i = item_again d no_items items text stop p low no_else in
      record {
        list = i.item ∷ [];
        are = i.made;
        readings = (stop, item_front (codes "endcase") endcase_reserved refl no_items items text stop p, i.reading, closes);
      }
  items_again d _ _ _ rest (and_items items others text more stop p ps) low closes no_else =
      let shorter : length more < length text = item_longer others items text more p in
      let i = item_again d others items text more p low (items_front (codes "else") else_reserved refl others more stop ps) in
      let o = items_again d others more stop rest ps (omega (arith, low, shorter)) closes no_else in
      record {
        list = i.item ∷ o.list;
        are = ap (item_before i.item.0 i.item.1) o.are ∙ i.made;
        readings = (more, item_front (codes "endcase") endcase_reserved refl others items text more p, i.reading, o.readings);
      }

pub statement_again : (s : Statement) (text rest : List Token) → IsStatement s text rest → IsNearest s rest → statement_at text ≡ Some (s, rest)
unfolding statement_at
statement_again s text rest d near = inner s text rest (statement_longer s text rest d) (again s text rest d) (length text) (omega arith) near
