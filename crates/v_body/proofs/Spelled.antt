-- What is read from tokens is spelled so, and an else behind a statement belongs to no if of it.
use Rattle.std.proofs.Common.{◌≡◌, ℕ, zero, suc, ◌≤◌, Bool, true, false, cond, List, [], ◌∷◌, length, Option, Some, None, refl, sym, ap, ◌∙◌, subst, arith}
use Rattle.std.specs.Prelude.{codes}
use Rattle.std.proofs.lemmas.Bool.Decides.{nat_tests}
use Rattle.wb_values.specs.Value.{Name}
use Rattle.verilog_text.specs.Token.{Mark, left_parenthesis, right_parenthesis, left_brace, right_brace, comma, colon, semicolon, equals, less_equals, Token, word, mark}
use Rattle.verilog_trees.specs.Syntax as tree
use Rattle.verilog_trees.specs.Syntax.{Expression, Expressions, Target, CaseKind, exact_case, wild_case, Statement, Statements, CaseItems, no_items, arm, default_arm}
use Rattle.verilog_text.specs.Spelling.{AreExpressions, last_one, and_more}
use Rattle.verilog_text.specs.Grammar.{IsWhole, IsTarget, a_place, some_joined, AreTargets, last_target, and_targets, IsAssignment, assigned, has_open_if, case_word, count_defaults, IsBlockName, unnamed, named, IsPerhapsColon, with_colon, without_colon, IsStatement, nothing, blocks, waits, tested, decided, selected, in_block, AreStatements, no_statement, and_statements, IsItemBefore, for_values, for_others, AreItems, last_item, and_items}
use Rattle.v_expr.specs.Repeat.{choose, Read, repeated}
use Rattle.v_expr.specs.Reading.{after_mark, as_expressions}
use Rattle.v_expr.specs.Whole.{whole_at}
use Rattle.v_expr.proofs.Repeat.{some_is, Chain, chain_of}
use Rattle.v_expr.proofs.Places.{mark_spelled}
use Rattle.v_expr.proofs.Spelled.{bound, either_way, lands}
use Rattle.v_expr.proofs.Whole.{whole_spelled, whole_selects_spelled}
use Rattle.v_body.specs.Words.{after_word}
use Rattle.v_body.specs.Targets.{as_targets, place_at, joined_at, outer_target_at, target_in, target_at, assignment_at}
use Rattle.v_body.specs.Statements.{Reader, IsNearest, condition_at, value_at, blocking_at, nonblocking_at, assigning_at, guarded_at, ladder_at, conditional_at, CaseItem, item_before, as_items, behind_perhaps_colon, default_at, arm_at, item_at, items_at, are_items_of_case, case_at, as_statements, block_name_at, block_at, outer_statement_at, statement_in, statement_at}
use Rattle.v_body.proofs.Words.{word_spelled, is_false, name_spelled}
use Rattle.v_body.proofs.Lists.{Listed, listed_of, listed_fact}

-- in front of a mark, or of a word
past_mark : (m : Mark) (P : List Token → Type 0) {ts rest : List Token} → after_mark m ts ≡ Some rest → P ts → P (mark m ∷ rest)
past_mark m P h d = subst P (mark_spelled m h) d

past_word : (w : Name) (P : List Token → Type 0) {ts rest : List Token} → after_word w ts ≡ Some rest → P ts → P (word w ∷ rest)
past_word w P h d = subst P (word_spelled w h) d

-- behind a mark, or behind a word
from_mark : (m : Mark) (P : List Token → Type 0) {ts rest : List Token} → after_mark m ts ≡ Some rest → P (mark m ∷ rest) → P ts
from_mark m P h d = subst P (sym (mark_spelled m h)) d

from_word : (w : Name) (P : List Token → Type 0) {ts rest : List Token} → after_word w ts ≡ Some rest → P (word w ∷ rest) → P ts
from_word w P h d = subst P (sym (word_spelled w h)) d

-- ---- targets

abbrev pub SpellsTargets : (List Token → Read Token Target) → Type 0
SpellsTargets one = (ts : List Token) (y : Target × List Token) → one ts ≡ Some y → IsTarget y.0 ts y.1

place_spelled : SpellsTargets place_at
unfolding place_at
place_spelled ts y h =
    let n = bound h in
    let s = bound n.2 in
    let name = name_spelled ts n.0 n.1 in
    let d : IsTarget (tree.place n.0.0 s.0.0) ts s.0.1 =
    subst (λ (us : List Token). IsTarget (tree.place n.0.0 s.0.0) us s.0.1) (sym name.parts) (a_place n.0.0 s.0.0 n.0.1 s.0.1 name.is_identifier (whole_selects_spelled n.0.1 s.0 s.1)) in
    lands (λ (t : Target) (rest : List Token). IsTarget t ts rest) s.2 d

targets_spelled : (one : List Token → Read Token Target) → SpellsTargets one → (rest : List Token) (xs : List Target) (text : List Token) → Listed right_brace one xs text rest
    → AreTargets (as_targets xs) text (mark right_brace ∷ rest)
targets_spelled one hyp rest xs text l =
    listed_fact right_brace one (λ (us : List Target) (ts : List Token). AreTargets (as_targets us) ts (mark right_brace ∷ rest)) rest
    (λ x ts e. last_target x ts (mark right_brace ∷ rest) (hyp ts (x, mark right_brace ∷ rest) e))
    (λ x us ts more e p. and_targets x (as_targets us) ts more (mark right_brace ∷ rest) (hyp ts (x, mark comma ∷ more) e) p) xs text l

outer_target_spelled : (one : List Token → Read Token Target) → SpellsTargets one → SpellsTargets (outer_target_at one)
unfolding outer_target_at joined_at
outer_target_spelled one hyp ts y h = either_way h
    (λ w.
    let p = bound w.2 in
    let d : IsTarget (tree.joined (as_targets p.0.0)) (mark left_brace ∷ w.0) p.0.1 =
    some_joined (as_targets p.0.0) w.0 p.0.1 (targets_spelled one hyp p.0.1 p.0.0 w.0 (listed_of right_brace one w.0 p.0 p.1)) in
    lands (λ (t : Target) (rest : List Token). IsTarget t ts rest) p.2 (from_mark left_brace (λ (us : List Token). IsTarget (tree.joined (as_targets p.0.0)) us p.0.1) w.1 d))
    (λ w. place_spelled ts y w.1)

pub target_in_spelled : (d : ℕ) → SpellsTargets (target_in d)
unfolding target_in
target_in_spelled zero ts y h = absurd cc
target_in_spelled (suc d) ts y h = outer_target_spelled (target_in d) (target_in_spelled d) ts y h

pub target_spelled : SpellsTargets target_at
unfolding target_at
target_spelled ts y h = target_in_spelled (length ts) ts y h

pub assignment_spelled : (sign : Mark) (ts : List Token) (y : (Target × Expression) × List Token) → assignment_at sign ts ≡ Some y → IsAssignment sign y.0 ts y.1
unfolding assignment_at
assignment_spelled sign ts y h =
    let t = bound h in
    let v = bound t.2 in
    let e = bound v.2 in
    let d : IsTarget t.0.0 ts (mark sign ∷ v.0) = past_mark sign (IsTarget t.0.0 ts) v.1 (target_spelled ts t.0 t.1) in
    lands (λ (x : Target × Expression) (rest : List Token). IsAssignment sign x ts rest) e.2 (assigned t.0.0 e.0.0 ts v.0 e.0.1 d (whole_spelled v.0 e.0 e.1))

-- ---- statements

pub record IsStatementThen (ts : List Token) (z : Statement × List Token) : Type 0 where
  pub is_spelled : IsStatement z.0 ts z.1
  pub is_nearest : IsNearest z.0 z.1

abbrev pub Spells : Reader → Type 0
Spells one = (ts : List Token) (y : Statement × List Token) → one ts ≡ Some y → IsStatementThen ts y

lands_then : {ts : List Token} {x y : Statement × List Token} → Some x ≡ Some y → IsStatementThen ts x → IsStatementThen ts y
lands_then {ts = ts} {x = x} {y = y} e p = subst (IsStatementThen ts) (some_is x y e) p

value_spelled : (ts : List Token) (y : Expression × List Token) → value_at ts ≡ Some y → IsWhole y.0 ts (mark semicolon ∷ y.1)
unfolding value_at
value_spelled ts y h =
    let e = bound h in
    let r = bound e.2 in
    lands (λ (x : Expression) (rest : List Token). IsWhole x ts (mark semicolon ∷ rest)) r.2 (past_mark semicolon (IsWhole e.0.0 ts) r.1 (whole_spelled ts e.0 e.1))

-- a target and its sign
blocking_spelled : (t : Target) (ts behind value : List Token) (y : Statement × List Token) → IsTarget t ts behind → after_mark equals behind ≡ Some value → blocking_at t value ≡ Some y → IsStatementThen ts y
unfolding blocking_at
blocking_spelled t ts behind value y d s h =
    let e = bound h in
    lands_then e.2 (record {
      is_spelled = blocks t e.0.0 ts e.0.1 (assigned t e.0.0 ts value (mark semicolon ∷ e.0.1) (past_mark equals (IsTarget t ts) s d) (value_spelled value e.0 e.1));
      is_nearest = λ o. absurd cc;
    })

nonblocking_spelled : (t : Target) (ts behind value : List Token) (y : Statement × List Token) → IsTarget t ts behind → after_mark less_equals behind ≡ Some value → nonblocking_at t value ≡ Some y → IsStatementThen ts y
unfolding nonblocking_at
nonblocking_spelled t ts behind value y d s h =
    let e = bound h in
    lands_then e.2 (record {
      is_spelled = waits t e.0.0 ts e.0.1 (assigned t e.0.0 ts value (mark semicolon ∷ e.0.1) (past_mark less_equals (IsTarget t ts) s d) (value_spelled value e.0 e.1));
      is_nearest = λ o. absurd cc;
    })

assigning_spelled : Spells assigning_at
unfolding assigning_at
assigning_spelled ts y h =
    let t = bound h in
    let d = target_spelled ts t.0 t.1 in
    either_way t.2
    (λ w. blocking_spelled t.0.0 ts t.0.1 w.0 y d w.1 w.2)
    (λ w. let v = bound w.1 in nonblocking_spelled t.0.0 ts t.0.1 v.0 y d v.1 v.2)

-- an expression in parentheses
pub record IsCondition (ts : List Token) (y : Expression × List Token) : Type 0 where
  pub text : List Token
  pub parts : ts ≡ mark left_parenthesis ∷ text
  pub is_whole : IsWhole y.0 text (mark right_parenthesis ∷ y.1)

condition_spelled : (ts : List Token) (y : Expression × List Token) → condition_at ts ≡ Some y → IsCondition ts y
unfolding condition_at
condition_spelled ts y h =
    let i = bound h in
    let e = bound i.2 in
    let r = bound e.2 in
    subst (IsCondition ts) (some_is (e.0.0, r.0) y r.2) (record {
      text = i.0;
      parts = mark_spelled left_parenthesis i.1;
      is_whole = past_mark right_parenthesis (IsWhole e.0.0 i.0) r.1 (whole_spelled i.0 e.0 e.1);
    })

-- behind if
pub record IsGuarded (ts : List Token) (g : (Expression × Statement) × List Token) : Type 0 where
  pub more : List Token
  pub condition : IsCondition ts (g.0.0, more)
  pub body : IsStatementThen more (g.0.1, g.1)

pub guarded_spelled : (one : Reader) → Spells one → (ts : List Token) (g : (Expression × Statement) × List Token) → guarded_at one ts ≡ Some g → IsGuarded ts g
unfolding guarded_at
guarded_spelled one hyp ts g h =
    let c = bound h in
    let s = bound c.2 in
    subst (IsGuarded ts) (some_is ((c.0.0, s.0.0), s.0.1) g s.2) (record { more = c.0.1; condition = condition_spelled ts c.0 c.1; body = hyp c.0.1 s.0 s.1 })

-- with no else behind it
alone : (ts : List Token) (g : (Expression × Statement) × List Token) → IsGuarded ts g → after_word (codes "else") g.1 ≡ None → IsStatementThen (word (codes "if") ∷ ts) (tree.if_then g.0.0 g.0.1, g.1)
alone ts g p e = record {
  is_spelled = subst (λ (us : List Token). IsStatement (tree.if_then g.0.0 g.0.1) (word (codes "if") ∷ us) g.1) (sym p.condition.parts)
      (tested g.0.0 g.0.1 p.condition.text p.more g.1 p.condition.is_whole p.body.is_spelled);
  is_nearest = λ _. e;
}

-- with an else behind it
with_else : (ts : List Token) (g : (Expression × Statement) × List Token) (other : List Token) (t : Statement × List Token) → IsGuarded ts g → after_word (codes "else") g.1 ≡ Some other → IsStatementThen other t
    → IsStatementThen (word (codes "if") ∷ ts) (tree.if_else g.0.0 g.0.1 t.0, t.1)
with_else ts g other t p e q =
    let closed : has_open_if g.0.1 ≡ false = is_false (has_open_if g.0.1) (λ o. let none = p.body.is_nearest o in cc) in
    let body : IsStatement g.0.1 p.more (word (codes "else") ∷ other) = past_word (codes "else") (IsStatement g.0.1 p.more) e p.body.is_spelled in
    record {
      is_spelled = subst (λ (us : List Token). IsStatement (tree.if_else g.0.0 g.0.1 t.0) (word (codes "if") ∷ us) t.1) (sym p.condition.parts)
          (decided g.0.0 g.0.1 t.0 p.condition.text p.more other t.1 p.condition.is_whole body closed q.is_spelled);
      is_nearest = q.is_nearest;
    }

ladder_spelled : (one : Reader) → Spells one → (n : ℕ) (ts : List Token) (y : Statement × List Token) → ladder_at one n ts ≡ Some y → IsStatementThen (word (codes "if") ∷ ts) y
unfolding ladder_at
ladder_spelled one hyp zero ts y h = absurd cc
ladder_spelled one hyp (suc n) ts y h =
    let g = bound h in
    let p = guarded_spelled one hyp ts g.0 g.1 in
    either_way g.2
    (λ w.
    let t = bound w.2 in
    let q : IsStatementThen w.0 t.0 = either_way t.1
    (λ v. from_word (codes "if") (λ (us : List Token). IsStatementThen us t.0) v.1 (ladder_spelled one hyp n v.0 t.0 v.2))
    (λ v. hyp w.0 t.0 v.1) in
    lands_then t.2 (with_else ts g.0 w.0 t.0 p w.1 q))
    (λ w. lands_then w.1 (alone ts g.0 p w.0))

-- ---- case

-- an item, whatever items follow
abbrev IsItem : List Token → CaseItem × List Token → Type 0
IsItem ts y = (items : CaseItems) → IsItemBefore items (item_before y.0.0 y.0.1 items) ts y.1

values_spelled : (rest : List Token) (xs : List Expression) (text : List Token) → Listed colon whole_at xs text rest → AreExpressions (as_expressions xs) text (mark colon ∷ rest)
values_spelled rest xs text l =
    listed_fact colon whole_at (λ (us : List Expression) (ts : List Token). AreExpressions (as_expressions us) ts (mark colon ∷ rest)) rest
    (λ x ts e. last_one x ts (mark colon ∷ rest) (whole_spelled ts (x, mark colon ∷ rest) e))
    (λ x us ts more e p. and_more x (as_expressions us) ts more (mark colon ∷ rest) (whole_spelled ts (x, mark comma ∷ more) e) p) xs text l

arm_spelled : (one : Reader) → Spells one → (ts : List Token) (y : CaseItem × List Token) → arm_at one ts ≡ Some y → IsItem ts y
unfolding arm_at
arm_spelled one hyp ts y h items =
    let es = bound h in
    let s = bound es.2 in
    subst (λ (z : CaseItem × List Token). IsItemBefore items (item_before z.0.0 z.0.1 items) ts z.1) (some_is ((Some (as_expressions es.0.0), s.0.0), s.0.1) y s.2)
    (for_values (as_expressions es.0.0) s.0.0 items ts es.0.1 s.0.1 (values_spelled es.0.1 es.0.0 ts (listed_of colon whole_at ts es.0 es.1)) (hyp es.0.1 s.0 s.1).is_spelled)

colon_by : (ts : List Token) (o : Option (List Token)) → after_mark colon ts ≡ o → IsPerhapsColon ts (choose o (λ rest. rest) ts)
colon_by ts (Some rest) e = from_mark colon (λ (us : List Token). IsPerhapsColon us rest) e (with_colon rest)
colon_by ts None e = without_colon ts

colon_spelled : (ts : List Token) → IsPerhapsColon ts (behind_perhaps_colon ts)
unfolding behind_perhaps_colon
colon_spelled ts = colon_by ts (after_mark colon ts) refl

default_spelled : (one : Reader) → Spells one → (ts : List Token) (y : CaseItem × List Token) → default_at one ts ≡ Some y → IsItem (word (codes "default") ∷ ts) y
unfolding default_at
default_spelled one hyp ts y h items =
    let s = bound h in
    subst (λ (z : CaseItem × List Token). IsItemBefore items (item_before z.0.0 z.0.1 items) (word (codes "default") ∷ ts) z.1) (some_is ((None, s.0.0), s.0.1) y s.2)
    (for_others s.0.0 items ts (behind_perhaps_colon ts) s.0.1 (colon_spelled ts) (hyp (behind_perhaps_colon ts) s.0 s.1).is_spelled)

pub item_spelled : (one : Reader) → Spells one → (ts : List Token) (y : CaseItem × List Token) → item_at one ts ≡ Some y → (items : CaseItems) → IsItemBefore items (item_before y.0.0 y.0.1 items) ts y.1
unfolding item_at
item_spelled one hyp ts y h items = either_way h
    (λ w. from_word (codes "default") (λ (us : List Token). IsItemBefore items (item_before y.0.0 y.0.1 items) us y.1) w.1 (default_spelled one hyp w.0 y w.2 items))
    (λ w. arm_spelled one hyp ts y w.1 items)

items_chain : (one : Reader) → Spells one → (x : CaseItem) (xs : List CaseItem) (ts rest : List Token) → Chain (after_word (codes "endcase")) (item_at one) (x ∷ xs) ts rest
    → AreItems (as_items (x ∷ xs)) ts (word (codes "endcase") ∷ rest)
items_chain one hyp x [] ts rest c =
    let d = item_spelled one hyp ts (x, c.0) c.2 no_items in
    last_item (as_items (x ∷ [])) ts (word (codes "endcase") ∷ rest) (past_word (codes "endcase") (IsItemBefore no_items (as_items (x ∷ [])) ts) c.3 d)
items_chain one hyp x (y ∷ ys) ts rest c =
    and_items (as_items (x ∷ y ∷ ys)) (as_items (y ∷ ys)) ts c.0 (word (codes "endcase") ∷ rest) (item_spelled one hyp ts (x, c.0) c.2 (as_items (y ∷ ys)))
    (items_chain one hyp y ys c.0 rest c.3)

few_by : (items : CaseItems) → are_items_of_case items ≡ true → count_defaults items ≤ 1
few_by no_items h = absurd cc
few_by (arm es s items) h = grind (arith, nat_tests)
few_by (default_arm s items) h = grind (arith, nat_tests)

some_items : (one : Reader) → Spells one → (xs : List CaseItem) (ts rest : List Token) → are_items_of_case (as_items xs) ≡ true → Chain (after_word (codes "endcase")) (item_at one) xs ts rest
    → AreItems (as_items xs) ts (word (codes "endcase") ∷ rest)
some_items one hyp [] ts rest h c = absurd cc
some_items one hyp (x ∷ xs) ts rest h c = items_chain one hyp x xs ts rest c

case_by : (one : Reader) → Spells one → (k : CaseKind) (before ts : List Token) (e : Expression × List Token) (items : List CaseItem × List Token) (y : Statement × List Token) (b : Bool)
    → before ≡ word (case_word k) ∷ ts → IsCondition ts e → Chain (after_word (codes "endcase")) (item_at one) items.0 e.1 items.1 → are_items_of_case (as_items items.0) ≡ b
    → cond b (Some (tree.case k e.0 (as_items items.0), items.1)) None ≡ Some y → IsStatementThen before y
case_by one hyp k before ts e items y false behind p c right h = absurd cc
case_by one hyp k before ts e items y true behind p c right h =
    let parts : before ≡ word (case_word k) ∷ mark left_parenthesis ∷ p.text = behind ∙ ap (λ (us : List Token). word (case_word k) ∷ us) p.parts in
    lands_then h (record {
      is_spelled = subst (λ (us : List Token). IsStatement (tree.case k e.0 (as_items items.0)) us items.1) (sym parts)
          (selected k e.0 (as_items items.0) p.text e.1 items.1 p.is_whole (some_items one hyp items.0 e.1 items.1 right c) (few_by (as_items items.0) right));
      is_nearest = λ o. absurd cc;
    })

case_spelled : (one : Reader) → Spells one → (k : CaseKind) (before ts : List Token) (y : Statement × List Token) → before ≡ word (case_word k) ∷ ts → case_at one k ts ≡ Some y → IsStatementThen before y
unfolding case_at items_at repeated
case_spelled one hyp k before ts y behind h =
    let e = bound h in
    let items = bound e.2 in
    case_by one hyp k before ts e.0 items.0 y (are_items_of_case (as_items items.0.0)) behind (condition_spelled ts e.0 e.1)
    (chain_of (after_word (codes "endcase")) (item_at one) (suc (length e.0.1)) e.0.1 items.0 items.1) refl items.2

-- ---- blocks

block_name_spelled : (ts : List Token) (y : Option Name × List Token) → block_name_at ts ≡ Some y → IsBlockName y.0 ts y.1
unfolding block_name_at
block_name_spelled ts y h = either_way h
    (λ w.
    let n = bound w.2 in
    let name = name_spelled w.0 n.0 n.1 in
    let parts : ts ≡ mark colon ∷ word n.0.0 ∷ n.0.1 = mark_spelled colon w.1 ∙ ap (λ (us : List Token). mark colon ∷ us) name.parts in
    lands (λ (o : Option Name) (rest : List Token). IsBlockName o ts rest) n.2
    (subst (λ (us : List Token). IsBlockName (Some n.0.0) us n.0.1) (sym parts) (named n.0.0 n.0.1 name.is_identifier)))
    (λ w. lands (λ (o : Option Name) (rest : List Token). IsBlockName o ts rest) w.1 (unnamed ts))

statements_chain : (one : Reader) → Spells one → (xs : List Statement) (ts rest : List Token) → Chain (after_word (codes "end")) one xs ts rest → AreStatements (as_statements xs) ts (word (codes "end") ∷ rest)
statements_chain one hyp [] ts rest c = from_word (codes "end") (λ (us : List Token). AreStatements (as_statements []) us (word (codes "end") ∷ rest)) c (no_statement (word (codes "end") ∷ rest))
statements_chain one hyp (x ∷ xs) ts rest c =
    and_statements x (as_statements xs) ts c.0 (word (codes "end") ∷ rest) (hyp ts (x, c.0) c.2).is_spelled (statements_chain one hyp xs c.0 rest c.3)

block_spelled : (one : Reader) → Spells one → (ts : List Token) (y : Statement × List Token) → block_at one ts ≡ Some y → IsStatementThen (word (codes "begin") ∷ ts) y
unfolding block_at repeated
block_spelled one hyp ts y h =
    let n = bound h in
    let ss = bound n.2 in
    lands_then ss.2 (record {
      is_spelled = in_block n.0.0 (as_statements ss.0.0) ts n.0.1 ss.0.1 (block_name_spelled ts n.0 n.1)
          (statements_chain one hyp ss.0.0 n.0.1 ss.0.1 (chain_of (after_word (codes "end")) one (suc (length n.0.1)) n.0.1 ss.0 ss.1));
      is_nearest = λ o. absurd cc;
    })

-- ---- all statements

outer_statement_spelled : (one : Reader) → Spells one → Spells (outer_statement_at one)
unfolding outer_statement_at conditional_at
outer_statement_spelled one hyp ts y h = either_way h
    (λ w. lands_then w.2 (record { is_spelled = from_mark semicolon (λ (us : List Token). IsStatement tree.empty us w.0) w.1 (nothing w.0); is_nearest = λ o. absurd cc }))
    (λ n. either_way n.1
    (λ w. from_word (codes "if") (λ (us : List Token). IsStatementThen us y) w.1 (ladder_spelled one hyp (suc (length w.0)) w.0 y w.2))
    (λ n. either_way n.1
    (λ w. from_word (codes "begin") (λ (us : List Token). IsStatementThen us y) w.1 (block_spelled one hyp w.0 y w.2))
    (λ n. either_way n.1
    (λ w. case_spelled one hyp exact_case ts w.0 y (word_spelled (codes "case") w.1) w.2)
    (λ n. either_way n.1
    (λ w. case_spelled one hyp wild_case ts w.0 y (word_spelled (codes "casez") w.1) w.2)
    (λ n. assigning_spelled ts y n.1)))))

pub statement_in_spelled : (d : ℕ) → Spells (statement_in d)
unfolding statement_in
statement_in_spelled zero ts y h = absurd cc
statement_in_spelled (suc d) ts y h = outer_statement_spelled (statement_in d) (statement_in_spelled d) ts y h

pub statement_spelled : (ts : List Token) (y : Statement × List Token) → statement_at ts ≡ Some y → IsStatement y.0 ts y.1
unfolding statement_at
statement_spelled ts y h = (statement_in_spelled (length ts) ts y h).is_spelled

pub statement_nearest : (ts : List Token) (y : Statement × List Token) → statement_at ts ≡ Some y → IsNearest y.0 y.1
unfolding statement_at
statement_nearest ts y h = (statement_in_spelled (length ts) ts y h).is_nearest
