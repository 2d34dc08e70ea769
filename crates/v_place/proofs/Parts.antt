-- Tokens that are expected one after another: statements.
use Rattle.std.proofs.Common.{◌≡◌, ℕ, zero, suc, ◌+◌, ◌≤◌, Bool, true, false, cond, List, [], ◌∷◌, ◌++◌, Option, Some, None, refl, sym, ap, ◌∙◌, subst, append_assoc, arith}
use Rattle.std.specs.Prelude.{codes}
use Rattle.wb_values.specs.Value.{Name}
use Rattle.wb_values.specs.ReservedWords.{is_reserved}
use Rattle.verilog_text.specs.Token.{Mark, left_parenthesis, right_parenthesis, left_bracket, right_bracket, left_brace, right_brace, comma, semicolon, colon, dot, hash, at, equals, star, less_equals, Token, word, system, decimal, based, mark}
use Rattle.verilog_trees.specs.Syntax as tree
use Rattle.verilog_trees.specs.Syntax.{Expression, Expressions, Target, Statement, Statements, CaseKind, exact_case, wild_case, CaseItems, Event, Events, Range, Direction, NetKind, PortDeclaration, ParameterDeclaration, Connections, Item, Ports, Module, Source}
use Rattle.verilog_text.specs.Spelling as spelled
use Rattle.verilog_text.specs.Spelling.{IsIdentifier, AreExpressions, last_one, and_more}
use Rattle.verilog_text.specs.Grammar.{IsWhole, assigned, has_open_if, case_word, count_defaults, IsBlockName, unnamed, named, IsPerhapsColon, with_colon, without_colon, IsStatement, nothing, blocks, waits, tested, decided, selected, in_block, AreStatements, no_statement, and_statements, for_values, for_others, AreItems, last_item, and_items}
use Rattle.v_place.specs.Table.{Symbol, token, whole, operand, operand_rest, digits, selects, second_select, limit, braces_rest, more_parts, target, more_targets, statement, assignment_rest, else_part, block_name, statements, first_item, case_items, last_items, more_values, more_last_values, perhaps_colon, net_kind, sign, range, perhaps_value, more_names, more_settings, more_nets, more_variables, more_assignments, overrides, connections, entry, more_named, more_entries, more_instances, control, first_event, event, more_events, items, header_parameters, more_parameters, next_parameter, header_ports, first_port, more_listed, more_ports, next_port, modules, rules, leads, is_optional, matches, by_rule, behind_token, expected_after, Terminal, a_name, a_decimal, a_based, a_conversion, a_prefix, an_operator, the_word, the_mark}
use Rattle.v_place.proofs.Terminals.{word_is, mark_is}
use Rattle.v_place.proofs.Firsts as firsts
use Rattle.v_place.proofs.Runs.{Runs, takes, passes, skips, led, led_by_operand, whole_runs, mark_taken, EndsAll, no_rest, at_right_parenthesis, at_comma, at_semicolon, at_colon, expression_runs, whole_and, target_runs}

-- ---- what may be left out

by_mark : (m : Mark) (new : List Symbol) (t : Token) (found : List Symbol) (b : Bool) → matches (the_mark m) t ≡ b → cond b (Some new) None ≡ Some found → t ≡ mark m
by_mark m new t found true e h = mark_is m t e
by_mark m new t found false e h = absurd cc

by_word : (w : Name) (new : List Symbol) (t : Token) (found : List Symbol) (b : Bool) → matches (the_word w) t ≡ b → cond b (Some new) None ≡ Some found → t ≡ word w
by_word w new t found true e h = word_is w t e
by_word w new t found false e h = absurd cc

-- left out before what no such mark, or word, goes on with
pub no_mark : (s : Symbol) (m : Mark) (new : List Symbol) → ((t : Token) → behind_token s t ≡ cond (matches (the_mark m) t) (Some new) None) → is_optional s ≡ true
    → (ss : List Symbol) (text : List Token) → expected_after ss (mark m) ≡ None → Runs text ss → Runs text (s ∷ ss)
no_mark s m new is o ss text none r =
    skips s ss text o (λ t found e. subst (λ (u : Token). expected_after ss u ≡ None) (sym (by_mark m new t found (matches (the_mark m) t) refl (sym (is t) ∙ e))) none) r

pub no_word : (s : Symbol) (w : Name) (new : List Symbol) → ((t : Token) → behind_token s t ≡ cond (matches (the_word w) t) (Some new) None) → is_optional s ≡ true
    → (ss : List Symbol) (text : List Token) → expected_after ss (word w) ≡ None → Runs text ss → Runs text (s ∷ ss)
no_word s w new is o ss text none r =
    skips s ss text o (λ t found e. subst (λ (u : Token). expected_after ss u ≡ None) (sym (by_word w new t found (matches (the_word w) t) refl (sym (is t) ∙ e))) none) r

pub no-block_name : (ss : List Symbol) (text : List Token) → expected_after ss (mark colon) ≡ None → Runs text ss → Runs text (block_name ∷ ss)
unfolding behind_token rules leads is_optional
no-block_name ss text none r = no_mark block_name colon (token a_name ∷ []) (λ t. refl) refl ss text none r

pub no-perhaps_colon : (ss : List Symbol) (text : List Token) → expected_after ss (mark colon) ≡ None → Runs text ss → Runs text (perhaps_colon ∷ ss)
unfolding behind_token rules leads is_optional
no-perhaps_colon ss text none r = no_mark perhaps_colon colon ([]) (λ t. refl) refl ss text none r

pub no-range : (ss : List Symbol) (text : List Token) → expected_after ss (mark left_bracket) ≡ None → Runs text ss → Runs text (range ∷ ss)
unfolding behind_token rules leads is_optional
no-range ss text none r = no_mark range left_bracket (whole ∷ token (the_mark colon) ∷ whole ∷ token (the_mark right_bracket) ∷ []) (λ t. refl) refl ss text none r

pub no-overrides : (ss : List Symbol) (text : List Token) → expected_after ss (mark hash) ≡ None → Runs text ss → Runs text (overrides ∷ ss)
unfolding behind_token rules leads is_optional
no-overrides ss text none r = no_mark overrides hash (token (the_mark left_parenthesis) ∷ connections ∷ []) (λ t. refl) refl ss text none r

pub no-header_parameters : (ss : List Symbol) (text : List Token) → expected_after ss (mark hash) ≡ None → Runs text ss → Runs text (header_parameters ∷ ss)
unfolding behind_token rules leads is_optional
no-header_parameters ss text none r = no_mark header_parameters hash (token (the_mark left_parenthesis) ∷ token (the_word (codes "parameter")) ∷ sign ∷ range ∷ token a_name ∷ token (the_mark equals) ∷ whole ∷ more_parameters ∷ []) (λ t. refl) refl ss text none r

pub no-header_ports : (ss : List Symbol) (text : List Token) → expected_after ss (mark left_parenthesis) ≡ None → Runs text ss → Runs text (header_ports ∷ ss)
unfolding behind_token rules leads is_optional
no-header_ports ss text none r = no_mark header_ports left_parenthesis (first_port ∷ []) (λ t. refl) refl ss text none r

pub no-sign : (ss : List Symbol) (text : List Token) → expected_after ss (word (codes "signed")) ≡ None → Runs text ss → Runs text (sign ∷ ss)
unfolding behind_token rules leads is_optional
no-sign ss text none r = no_word sign (codes "signed") ([]) (λ t. refl) refl ss text none r

-- No else stands in front.
abbrev pub HasNoElse : List Token → Type 0
HasNoElse [] = Unit {0}
HasNoElse (t ∷ ts) = matches (the_word (codes "else")) t ≡ false

no_else_part : (text : List Token) (ss : List Symbol) → HasNoElse text → Runs text ss → Runs text (else_part ∷ ss)
unfolding behind_token rules leads is_optional
no_else_part [] ss h r = tt
no_else_part (t ∷ ts) ss h r = passes else_part ss t ts refl (rw h refl) r

no_else_by : (t : Token) (ts : List Token) (ss : List Symbol) (b : Bool) → matches (the_word (codes "else")) t ≡ b → expected_after ss (word (codes "else")) ≡ None → Runs (t ∷ ts) ss → b ≡ false
no_else_by t ts ss true e none r =
    let f : expected_after ss t ≡ None = subst (λ (u : Token). expected_after ss u ≡ None) (sym (word_is (codes "else") t e)) none in
    let g : expected_after ss t ≡ Some r.0 = r.1 in
    absurd cc
no_else_by t ts ss false e none r = refl

-- nothing that is expected begins with an else
pub no_else : (text : List Token) (ss : List Symbol) → expected_after ss (word (codes "else")) ≡ None → Runs text ss → HasNoElse text
no_else [] ss none r = tt
no_else (t ∷ ts) ss none r = no_else_by t ts ss (matches (the_word (codes "else")) t) refl none r

else_in_statements : (ss : List Symbol) → expected_after (statements ∷ ss) (word (codes "else")) ≡ None
unfolding expected_after behind_token rules leads is_optional is_reserved
else_in_statements ss = refl

else_in_items : (ss : List Symbol) → expected_after (case_items ∷ ss) (word (codes "else")) ≡ None
unfolding expected_after behind_token rules leads is_optional is_reserved
else_in_items ss = refl

else_in_last_items : (ss : List Symbol) → expected_after (last_items ∷ ss) (word (codes "else")) ≡ None
unfolding expected_after behind_token rules leads is_optional is_reserved
else_in_last_items ss = refl

colon_in_statements : (ss : List Symbol) → expected_after (statements ∷ ss) (mark colon) ≡ None
unfolding expected_after behind_token rules leads is_optional
colon_in_statements ss = refl

colon_in_statement : (ss : List Symbol) → expected_after (statement ∷ ss) (mark colon) ≡ None
unfolding expected_after behind_token rules leads is_optional
colon_in_statement ss = refl

endcase_is_no_else : matches (the_word (codes "else")) (word (codes "endcase")) ≡ false
endcase_is_no_else = refl

-- ---- statements

-- Behind a value, up to the colon and the statement.
values_run : {es : Expressions} {text more : List Token} → AreExpressions es text (mark colon ∷ more) → (s t : Symbol) → behind_token s (mark comma) ≡ Some (whole ∷ s ∷ [])
    → behind_token s (mark colon) ≡ Some (statement ∷ t ∷ []) → (ss : List Symbol) → Runs more (statement ∷ t ∷ ss) → Runs text (operand ∷ operand_rest ∷ s ∷ ss)
values_run {more = more} (last_one e text _ d) s t k c ss r = expression_runs d refl (s ∷ ss) (no_rest colon more (s ∷ ss) at_colon (takes _ _ _ ss more c r))
values_run (and_more e es text more _ d ds) s t k c ss r =
    expression_runs d refl (s ∷ ss) (no_rest comma more (s ∷ ss) at_comma (takes _ _ _ ss more k (whole_runs more (s ∷ ss) (values_run ds s t k c ss r))))

name_runs : {n : Option Name} {text more : List Token} → IsBlockName n text more → (ss : List Symbol) → Runs more (statements ∷ ss) → Runs text (block_name ∷ statements ∷ ss)
name_runs (unnamed more) ss r = no-block_name (statements ∷ ss) more (colon_in_statements ss) r
name_runs (named n more free) ss r = takes _ _ _ (statements ∷ ss) (word n ∷ more) firsts.block_name-colon (takes _ _ _ (statements ∷ ss) more (firsts.token_name n free) r)

colon_runs : {text more : List Token} → IsPerhapsColon text more → (ss : List Symbol) → Runs more (statement ∷ ss) → Runs text (perhaps_colon ∷ statement ∷ ss)
colon_runs (with_colon more) ss r = takes _ _ _ (statement ∷ ss) more firsts.perhaps_colon-colon r
colon_runs (without_colon more) ss r = no-perhaps_colon (statement ∷ ss) more (colon_in_statement ss) r

case_first : (k : CaseKind) → behind_token statement (word (case_word k)) ≡ Some (token (the_mark left_parenthesis) ∷ whole ∷ token (the_mark right_parenthesis) ∷ first_item ∷ [])
case_first exact_case = firsts.statement-case
case_first wild_case = firsts.statement-casez

-- ( expression )
pub parenthesis_runs : {e : Expression} {text more : List Token} → IsWhole e text (mark right_parenthesis ∷ more) → (ss : List Symbol) → Runs more ss
    → Runs (mark left_parenthesis ∷ text) (token (the_mark left_parenthesis) ∷ whole ∷ token (the_mark right_parenthesis) ∷ ss)
parenthesis_runs {text = text} d ss r = takes _ _ _ (whole ∷ token (the_mark right_parenthesis) ∷ ss) text (mark_taken left_parenthesis) (whole_and right_parenthesis at_right_parenthesis d ss r)

-- An else after the statement would not belong to an if of it.
abbrev IsNear : Statement → List Token → Type 0
IsNear s rest = has_open_if s ≡ true → HasNoElse rest

all_near : (s : Statement) (rest : List Token) → has_open_if s ≡ false → IsNear s rest
all_near s rest closed pending = absurd cc

leads_items : leads case_items ≡ Some (operand, operand_rest ∷ more_values ∷ [])
unfolding leads
leads_items = refl

leads_first : leads first_item ≡ Some (operand, operand_rest ∷ more_values ∷ [])
unfolding leads
leads_first = refl

leads_last : leads last_items ≡ Some (operand, operand_rest ∷ more_last_values ∷ [])
unfolding leads
leads_last = refl

led_statements : (text : List Token) (ss : List Symbol) → Runs text (statement ∷ statements ∷ ss) → Runs text (statements ∷ ss)
unfolding leads is_optional
led_statements text ss r = led statements statement (statements ∷ []) ss text refl refl refl r

mutual
  pub statement_runs : {s : Statement} {text rest : List Token} → IsStatement s text rest → IsNear s rest → (ss : List Symbol) → Runs rest ss → Runs text (statement ∷ ss)
  statement_runs (nothing rest) near ss r = takes _ _ _ ss rest firsts.statement-semicolon r
  statement_runs (blocks t e text rest (assigned _ _ _ value _ dt de)) near ss r =
      target_runs dt refl statement (assignment_rest ∷ []) firsts.statement-a_name firsts.statement-left_brace ss
      (takes _ _ _ ss value firsts.assignment_rest-equals (whole_and semicolon at_semicolon de ss r))
  statement_runs (waits t e text rest (assigned _ _ _ value _ dt de)) near ss r =
      target_runs dt refl statement (assignment_rest ∷ []) firsts.statement-a_name firsts.statement-left_brace ss
      (takes _ _ _ ss value firsts.assignment_rest-less_equals (whole_and semicolon at_semicolon de ss r))
  statement_runs (tested c s text more rest dc ds) near ss r =
      takes _ _ _ ss (mark left_parenthesis ∷ text) firsts.statement-if (parenthesis_runs dc (statement ∷ else_part ∷ ss)
      (statement_runs ds (λ h. near refl) (else_part ∷ ss) (no_else_part rest ss (near refl) r)))
  statement_runs (decided c s t text more other rest dc ds closed dt) near ss r =
      takes _ _ _ ss (mark left_parenthesis ∷ text) firsts.statement-if (parenthesis_runs dc (statement ∷ else_part ∷ ss)
      (statement_runs ds (all_near s (word (codes "else") ∷ other) closed) (else_part ∷ ss) (takes _ _ _ ss other firsts.else_part-else (statement_runs dt near ss r))))
  statement_runs (selected k e is text more rest de ds few) near ss r =
      takes _ _ _ ss (mark left_parenthesis ∷ text) (case_first k) (parenthesis_runs de (first_item ∷ ss) (items_run ds few first_item leads_first firsts.first_item-default ss r))
  statement_runs (in_block n xs text more rest dn ds) near ss r = takes _ _ _ ss text firsts.statement-begin (name_runs dn ss (statements_run ds ss r))

  statements_run : {xs : Statements} {text rest : List Token} → AreStatements xs text (word (codes "end") ∷ rest) → (ss : List Symbol) → Runs rest ss → Runs text (statements ∷ ss)
  statements_run {rest = rest} (no_statement _) ss r = takes _ _ _ ss rest firsts.statements-end r
  statements_run (and_statements x xs text more _ d ds) ss r =
      let others = statements_run ds ss r in
      led_statements text ss (statement_runs d (λ h. no_else more (statements ∷ ss) (else_in_statements ss) others) (statements ∷ ss) others)

  -- the items of a case, with one default at most, at one of the two places where there may be one
  items_run : {is : CaseItems} {text rest : List Token} → AreItems is text (word (codes "endcase") ∷ rest) → count_defaults is ≤ 1 → (s : Symbol)
      → leads s ≡ Some (operand, operand_rest ∷ more_values ∷ []) → behind_token s (word (codes "default")) ≡ Some (perhaps_colon ∷ statement ∷ last_items ∷ [])
      → (ss : List Symbol) → Runs rest ss → Runs text (s ∷ ss)
  items_run {rest = rest} (last_item is text _ (for_values es x _ _ more _ de dx)) few s l f ss r =
      led_by_operand s more_values text ss l (values_run de more_values case_items firsts.more_values-comma firsts.more_values-colon ss
      (statement_runs dx (λ h. endcase_is_no_else) (case_items ∷ ss) (takes _ _ _ ss rest firsts.case_items-endcase r)))
  items_run {rest = rest} (last_item is _ _ (for_others x _ text more _ dc dx)) few s l f ss r =
      takes _ _ _ ss text f (colon_runs dc (last_items ∷ ss) (statement_runs dx (λ h. endcase_is_no_else) (last_items ∷ ss) (takes _ _ _ ss rest firsts.last_items-endcase r)))
  items_run (and_items is others text inner _ (for_values es x _ _ more _ de dx) ds) few s l f ss r =
      let behind = items_run ds few case_items leads_items firsts.case_items-default ss r in
      led_by_operand s more_values text ss l (values_run de more_values case_items firsts.more_values-comma firsts.more_values-colon ss
      (statement_runs dx (λ h. no_else inner (case_items ∷ ss) (else_in_items ss) behind) (case_items ∷ ss) behind))
  items_run (and_items is others _ inner _ (for_others x _ text more _ dc dx) ds) few s l f ss r =
      let behind = last_items_run ds (omega (arith, few)) ss r in
      takes _ _ _ ss text f (colon_runs dc (last_items ∷ ss) (statement_runs dx (λ h. no_else inner (last_items ∷ ss) (else_in_last_items ss) behind) (last_items ∷ ss) behind))

  -- without a default
  last_items_run : {is : CaseItems} {text rest : List Token} → AreItems is text (word (codes "endcase") ∷ rest) → count_defaults is ≤ 0 → (ss : List Symbol) → Runs rest ss → Runs text (last_items ∷ ss)
  last_items_run {rest = rest} (last_item is text _ (for_values es x _ _ more _ de dx)) few ss r =
      led_by_operand last_items more_last_values text ss leads_last (values_run de more_last_values last_items firsts.more_last_values-comma firsts.more_last_values-colon ss
      (statement_runs dx (λ h. endcase_is_no_else) (last_items ∷ ss) (takes _ _ _ ss rest firsts.last_items-endcase r)))
  last_items_run (last_item is _ _ (for_others x _ text more _ dc dx)) few ss r = absurd (omega (arith, few))
  last_items_run (and_items is others text inner _ (for_values es x _ _ more _ de dx) ds) few ss r =
      let behind = last_items_run ds few ss r in
      led_by_operand last_items more_last_values text ss leads_last (values_run de more_last_values last_items firsts.more_last_values-comma firsts.more_last_values-colon ss
      (statement_runs dx (λ h. no_else inner (last_items ∷ ss) (else_in_last_items ss) behind) (last_items ∷ ss) behind))
  last_items_run (and_items is others _ inner _ (for_others x _ text more _ dc dx) ds) few ss r = absurd (omega (arith, few))
