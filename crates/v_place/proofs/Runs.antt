-- Tokens that are expected one after another: expressions and targets.
use Rattle.std.proofs.Common.{◌≡◌, ℕ, Bool, true, false, cond, List, [], ◌∷◌, ◌++◌, Option, Some, None, refl, sym, ap, ◌∙◌, subst, append_assoc}
use Rattle.std.specs.Prelude.{◌==◌, codes}
use Rattle.std.proofs.lemmas.Bool.{eq-eqb}
use Rattle.wb_values.specs.Value.{Name}
use Rattle.verilog_text.specs.Token.{Mark, left_parenthesis, right_parenthesis, left_bracket, right_bracket, left_brace, right_brace, comma, semicolon, colon, dot, hash, at, question, equals, plus_colon, minus_colon, plus, minus, star, double_star, slash, percent, exclamation, tilde, ampersand, tilde_ampersand, bar, tilde_bar, caret, tilde_caret, caret_tilde, double_ampersand, double_bar, less, less_equals, greater, greater_equals, double_less, double_greater, triple_less, triple_greater, double_equals, exclamation_equals, triple_equals, exclamation_double_equals, Token, word, system, decimal, based, mark}
use Rattle.verilog_trees.specs.Syntax.{Number, Expression, Expressions, Select, Selects, Target, Targets}
use Rattle.verilog_text.specs.Spelling as spelled
use Rattle.verilog_text.specs.Spelling.{IsIdentifier, Operator, operator_of, IsNumber, plain, unsized, of_size, IsExpression, tighter, chosen, joined, prefixed, a_number, bracketed, concatenated, replicated, made_signed, made_unsigned, AreExpressions, last_one, and_more, IsSelect, by_index, by_part, by_part_up, by_part_down, AreSelects, no_select, one_select, two_selects}
use Rattle.verilog_text.specs.Grammar.{IsWhole, IsTarget, a_place, some_joined, AreTargets, last_target, and_targets}
use Rattle.v_place.specs.Table.{Symbol, token, whole, operand, operand_rest, digits, selects, second_select, limit, braces_rest, more_parts, target, more_targets, rules, leads, is_optional, by_rule, or_else, and_then, led_by, behind_token, expected_after, Terminal, a_name, the_word, the_mark, number_of_mark, matches}
use Rattle.v_place.proofs.Terminals.{word_is, mark_is}
use Rattle.v_place.proofs.Steps.{same_some}
use Rattle.v_place.proofs.Firsts as firsts

-- The tokens are expected, one after another, where these are expected before them.
abbrev pub Runs : List Token → List Symbol → Type 0
Runs [] ss = Unit {0}
Runs (t ∷ ts) ss = (next : List Symbol) × (expected_after ss t ≡ Some next) × Runs ts next

pub takes : (s : Symbol) (t : Token) (new : List Symbol) (ss : List Symbol) (ts : List Token) → behind_token s t ≡ Some new → Runs ts (new ++ ss) → Runs (t ∷ ts) (s ∷ ss)
unfolding expected_after
takes s t new ss ts e r = (new ++ ss, rw e refl, r)

-- what may be left out is passed at a token at which it does not begin
pub passes : (s : Symbol) (ss : List Symbol) (t : Token) (ts : List Token) → is_optional s ≡ true → behind_token s t ≡ None → Runs (t ∷ ts) ss → Runs (t ∷ ts) (s ∷ ss)
unfolding expected_after
passes s ss t ts o e r = (r.0, rw (e, o) (r.1), r.2)

skips_by : (s : Symbol) (ss : List Symbol) (t : Token) (ts : List Token) → is_optional s ≡ true → ((new : List Symbol) → behind_token s t ≡ Some new → expected_after ss t ≡ None)
    → (b : Option (List Symbol)) → behind_token s t ≡ b → Runs (t ∷ ts) ss → Runs (t ∷ ts) (s ∷ ss)
skips_by s ss t ts o none (Some new) e r = let f : expected_after ss t ≡ None = none new e in let g : expected_after ss t ≡ Some r.0 = r.1 in absurd cc
skips_by s ss t ts o none None e r = passes s ss t ts o e r

-- and before what no such token goes on with
pub skips : (s : Symbol) (ss : List Symbol) (text : List Token) → is_optional s ≡ true → ((t : Token) (new : List Symbol) → behind_token s t ≡ Some new → expected_after ss t ≡ None)
    → Runs text ss → Runs text (s ∷ ss)
skips s ss [] o none r = tt
skips s ss (t ∷ ts) o none r = skips_by s ss t ts o (none t) (behind_token s t) refl r

-- a symbol that begins with another one
led_by_rule : (s x : Symbol) (more ss : List Symbol) (t : Token) (ts : List Token) → leads s ≡ Some (x, more) → leads x ≡ None → is_optional x ≡ false
    → (o : Option (List Symbol)) → by_rule (rules x) t ≡ o → Runs (t ∷ ts) (x ∷ (more ++ ss)) → Runs (t ∷ ts) (s ∷ ss)
unfolding expected_after behind_token
led_by_rule s x more ss t ts l none o (Some a) e r =
    let next : expected_after (x ∷ (more ++ ss)) t ≡ Some (a ++ (more ++ ss)) = rw (none, e) refl in
    let same : r.0 ≡ a ++ (more ++ ss) = same_some r.0 (a ++ (more ++ ss)) (sym r.1 ∙ next) in
    ((a ++ more) ++ ss, rw (l, e) refl, subst (λ (us : List Symbol). Runs ts us) (same ∙ sym (append_assoc a more ss)) r.2)
led_by_rule s x more ss t ts l none o None e r =
    let next : expected_after (x ∷ (more ++ ss)) t ≡ None = rw (none, e, o) refl in
    let other : expected_after (x ∷ (more ++ ss)) t ≡ Some r.0 = r.1 in
    absurd cc

pub led : (s x : Symbol) (more ss : List Symbol) (text : List Token) → leads s ≡ Some (x, more) → leads x ≡ None → is_optional x ≡ false → Runs text (x ∷ (more ++ ss)) → Runs text (s ∷ ss)
led s x more ss [] l none o r = tt
led s x more ss (t ∷ ts) l none o r = led_by_rule s x more ss t ts l none o (by_rule (rules x) t) refl r

pub whole_runs : (text : List Token) (ss : List Symbol) → Runs text (operand ∷ operand_rest ∷ ss) → Runs text (whole ∷ ss)
unfolding leads is_optional
whole_runs text ss r = led whole operand (operand_rest ∷ []) ss text refl refl refl r

pub led_by_operand : (s y : Symbol) (text : List Token) (ss : List Symbol) → leads s ≡ Some (operand, operand_rest ∷ y ∷ []) → Runs text (operand ∷ operand_rest ∷ y ∷ ss) → Runs text (s ∷ ss)
unfolding leads is_optional
led_by_operand s y text ss l r = led s operand (operand_rest ∷ y ∷ []) ss text l refl refl r

pub mark_taken : (m : Mark) → behind_token (token (the_mark m)) (mark m) ≡ Some []
unfolding behind_token rules leads
mark_taken m = let e : (number_of_mark m == number_of_mark m) ≡ true = eq-eqb (number_of_mark m) (number_of_mark m) refl in rw e refl

-- ---- what follows an expression

-- It is no [, and no digits of a number.
abbrev pub IsPlain : List Token → Type 0
IsPlain [] = Unit {0}
IsPlain (word n ∷ ts) = Unit {0}
IsPlain (system n ∷ ts) = Unit {0}
IsPlain (decimal d ∷ ts) = Unit {0}
IsPlain (based d ∷ ts) = ⊥
IsPlain (mark m ∷ ts) = (number_of_mark m == 2) ≡ false

no_selects : (text : List Token) (ss : List Symbol) → IsPlain text → Runs text ss → Runs text (selects ∷ ss)
unfolding behind_token rules leads is_optional
no_selects [] ss p r = tt
no_selects (word n ∷ ts) ss p r = passes selects ss (word n) ts refl refl r
no_selects (system n ∷ ts) ss p r = passes selects ss (system n) ts refl refl r
no_selects (decimal n ∷ ts) ss p r = passes selects ss (decimal n) ts refl refl r
no_selects (based n ∷ ts) ss p r = absurd p
no_selects (mark m ∷ ts) ss p r = passes selects ss (mark m) ts refl (rw p refl) r

no_second_select : (text : List Token) (ss : List Symbol) → IsPlain text → Runs text ss → Runs text (second_select ∷ ss)
unfolding behind_token rules leads is_optional
no_second_select [] ss p r = tt
no_second_select (word n ∷ ts) ss p r = passes second_select ss (word n) ts refl refl r
no_second_select (system n ∷ ts) ss p r = passes second_select ss (system n) ts refl refl r
no_second_select (decimal n ∷ ts) ss p r = passes second_select ss (decimal n) ts refl refl r
no_second_select (based n ∷ ts) ss p r = absurd p
no_second_select (mark m ∷ ts) ss p r = passes second_select ss (mark m) ts refl (rw p refl) r

no_digits : (text : List Token) (ss : List Symbol) → IsPlain text → Runs text ss → Runs text (digits ∷ ss)
unfolding behind_token rules leads is_optional
no_digits [] ss p r = tt
no_digits (word n ∷ ts) ss p r = passes digits ss (word n) ts refl refl r
no_digits (system n ∷ ts) ss p r = passes digits ss (system n) ts refl refl r
no_digits (decimal n ∷ ts) ss p r = passes digits ss (decimal n) ts refl refl r
no_digits (based n ∷ ts) ss p r = absurd p
no_digits (mark m ∷ ts) ss p r = passes digits ss (mark m) ts refl refl r

-- A mark that ends an expression.
pub record EndsAll (m : Mark) : Type 0 where
  pub no_bracket : (number_of_mark m == 2) ≡ false
  pub no_operator : behind_token operand_rest (mark m) ≡ None

pub no_rest : (m : Mark) (ts : List Token) (ss : List Symbol) → EndsAll m → Runs (mark m ∷ ts) ss → Runs (mark m ∷ ts) (operand_rest ∷ ss)
unfolding is_optional
no_rest m ts ss e r = passes operand_rest ss (mark m) ts refl e.no_operator r

closing : (m : Mark) (ts : List Token) (ss : List Symbol) → EndsAll m → Runs ts ss → Runs (mark m ∷ ts) (operand_rest ∷ token (the_mark m) ∷ ss)
closing m ts ss e r = no_rest m ts (token (the_mark m) ∷ ss) e (takes _ _ _ ss ts (mark_taken m) r)

pub at_right_parenthesis : EndsAll right_parenthesis
unfolding behind_token rules leads
at_right_parenthesis = record { no_bracket = refl; no_operator = refl }

pub at_right_bracket : EndsAll right_bracket
unfolding behind_token rules leads
at_right_bracket = record { no_bracket = refl; no_operator = refl }

pub at_right_brace : EndsAll right_brace
unfolding behind_token rules leads
at_right_brace = record { no_bracket = refl; no_operator = refl }

pub at_left_brace : EndsAll left_brace
unfolding behind_token rules leads
at_left_brace = record { no_bracket = refl; no_operator = refl }

pub at_comma : EndsAll comma
unfolding behind_token rules leads
at_comma = record { no_bracket = refl; no_operator = refl }

pub at_semicolon : EndsAll semicolon
unfolding behind_token rules leads
at_semicolon = record { no_bracket = refl; no_operator = refl }

pub at_colon : EndsAll colon
unfolding behind_token rules leads
at_colon = record { no_bracket = refl; no_operator = refl }

pub at_plus_colon : EndsAll plus_colon
unfolding behind_token rules leads
at_plus_colon = record { no_bracket = refl; no_operator = refl }

pub at_minus_colon : EndsAll minus_colon
unfolding behind_token rules leads
at_minus_colon = record { no_bracket = refl; no_operator = refl }

operator_plain : (m : Mark) (o : Operator) → operator_of m ≡ Some o → (number_of_mark m == 2) ≡ false
operator_plain left_parenthesis o e = absurd cc
operator_plain right_parenthesis o e = absurd cc
operator_plain left_bracket o e = absurd cc
operator_plain right_bracket o e = absurd cc
operator_plain left_brace o e = absurd cc
operator_plain right_brace o e = absurd cc
operator_plain comma o e = absurd cc
operator_plain semicolon o e = absurd cc
operator_plain colon o e = absurd cc
operator_plain dot o e = absurd cc
operator_plain hash o e = absurd cc
operator_plain at o e = absurd cc
operator_plain question o e = absurd cc
operator_plain equals o e = absurd cc
operator_plain plus_colon o e = absurd cc
operator_plain minus_colon o e = absurd cc
operator_plain plus o e = refl
operator_plain minus o e = refl
operator_plain star o e = refl
operator_plain double_star o e = refl
operator_plain slash o e = refl
operator_plain percent o e = refl
operator_plain exclamation o e = absurd cc
operator_plain tilde o e = absurd cc
operator_plain ampersand o e = refl
operator_plain tilde_ampersand o e = absurd cc
operator_plain bar o e = refl
operator_plain tilde_bar o e = absurd cc
operator_plain caret o e = refl
operator_plain tilde_caret o e = refl
operator_plain caret_tilde o e = refl
operator_plain double_ampersand o e = refl
operator_plain double_bar o e = refl
operator_plain less o e = refl
operator_plain less_equals o e = refl
operator_plain greater o e = refl
operator_plain greater_equals o e = refl
operator_plain double_less o e = refl
operator_plain double_greater o e = refl
operator_plain triple_less o e = refl
operator_plain triple_greater o e = refl
operator_plain double_equals o e = refl
operator_plain exclamation_equals o e = refl
operator_plain triple_equals o e = refl
operator_plain exclamation_double_equals o e = refl

-- ---- expressions

number_runs : {n : Number} {text rest : List Token} → IsNumber n text rest → IsPlain rest → (ss : List Symbol) → Runs rest ss → Runs text (operand ∷ ss)
number_runs (plain d rest) p ss r = takes _ _ _ ss rest (firsts.operand-a_decimal d) (no_digits rest ss p r)
number_runs (unsized d rest) p ss r = takes _ _ _ ss rest (firsts.operand-a_based d) r
number_runs (of_size d b rest) p ss r = takes _ _ _ ss (based b ∷ rest) (firsts.operand-a_decimal d) (takes _ _ _ ss rest (firsts.digits-a_based b) r)

mutual
  pub expression_runs : {k : ℕ} {e : Expression} {text rest : List Token} → IsExpression k e text rest → IsPlain rest → (ss : List Symbol) → Runs rest (operand_rest ∷ ss)
      → Runs text (operand ∷ operand_rest ∷ ss)
  expression_runs (tighter _ _ _ _ d) p ss r = expression_runs d p ss r
  expression_runs (chosen c x y text first second rest dc dx dy) p ss r =
      expression_runs dc refl ss (takes _ _ _ ss first firsts.operand_rest-question (whole_runs first (token (the_mark colon) ∷ whole ∷ ss)
      (expression_runs dx refl (token (the_mark colon) ∷ whole ∷ ss) (closing colon second (whole ∷ ss) at_colon (whole_runs second ss (expression_runs dy p ss r))))))
  expression_runs (joined m o a b text more rest i da db) p ss r =
      expression_runs da (operator_plain m o i) ss (takes _ _ _ ss more (firsts.operand_rest-an_operator m o i) (expression_runs db p ss r))
  expression_runs (prefixed m f a text rest i d) p ss r = takes _ _ _ (operand_rest ∷ ss) text (firsts.operand-a_prefix m f i) (expression_runs d p ss r)
  expression_runs (a_number n text rest d) p ss r = number_runs d p (operand_rest ∷ ss) r
  expression_runs (spelled.a_name n s text rest free d) p ss r = takes _ _ _ (operand_rest ∷ ss) text (firsts.operand-a_name n free) (selects_run d p (operand_rest ∷ ss) r)
  expression_runs (bracketed e text rest d) p ss r =
      takes _ _ _ (operand_rest ∷ ss) text firsts.operand-left_parenthesis (whole_runs text (token (the_mark right_parenthesis) ∷ operand_rest ∷ ss)
      (expression_runs d refl (token (the_mark right_parenthesis) ∷ operand_rest ∷ ss) (closing right_parenthesis rest (operand_rest ∷ ss) at_right_parenthesis r)))
  expression_runs (concatenated es text rest d) p ss r =
      takes _ _ _ (operand_rest ∷ ss) text firsts.operand-left_brace (parts_run d braces_rest firsts.braces_rest-comma firsts.braces_rest-right_brace (operand_rest ∷ ss) r)
  expression_runs (replicated n es text parts rest dn d) p ss r =
      takes _ _ _ (operand_rest ∷ ss) text firsts.operand-left_brace (whole_runs text (braces_rest ∷ operand_rest ∷ ss)
      (expression_runs dn refl (braces_rest ∷ operand_rest ∷ ss) (no_rest left_brace parts (braces_rest ∷ operand_rest ∷ ss) at_left_brace
      (takes _ _ _ (operand_rest ∷ ss) parts firsts.braces_rest-left_brace
      (parts_run d more_parts firsts.more_parts-comma firsts.more_parts-right_brace (token (the_mark right_brace) ∷ operand_rest ∷ ss) (takes _ _ _ (operand_rest ∷ ss) rest (mark_taken right_brace) r))))))
  expression_runs (made_signed e text rest d) p ss r =
      takes _ _ _ (operand_rest ∷ ss) (mark left_parenthesis ∷ text) (firsts.operand-a_conversion (codes "$signed") refl)
      (takes _ _ _ (whole ∷ token (the_mark right_parenthesis) ∷ operand_rest ∷ ss) text (mark_taken left_parenthesis) (whole_runs text (token (the_mark right_parenthesis) ∷ operand_rest ∷ ss)
      (expression_runs d refl (token (the_mark right_parenthesis) ∷ operand_rest ∷ ss) (closing right_parenthesis rest (operand_rest ∷ ss) at_right_parenthesis r))))
  expression_runs (made_unsigned e text rest d) p ss r =
      takes _ _ _ (operand_rest ∷ ss) (mark left_parenthesis ∷ text) (firsts.operand-a_conversion (codes "$unsigned") refl)
      (takes _ _ _ (whole ∷ token (the_mark right_parenthesis) ∷ operand_rest ∷ ss) text (mark_taken left_parenthesis) (whole_runs text (token (the_mark right_parenthesis) ∷ operand_rest ∷ ss)
      (expression_runs d refl (token (the_mark right_parenthesis) ∷ operand_rest ∷ ss) (closing right_parenthesis rest (operand_rest ∷ ss) at_right_parenthesis r))))

  -- up to the closing brace
  parts_run : {es : Expressions} {text rest : List Token} → AreExpressions es text (mark right_brace ∷ rest) → (s : Symbol) → behind_token s (mark comma) ≡ Some (whole ∷ more_parts ∷ [])
      → behind_token s (mark right_brace) ≡ Some [] → (ss : List Symbol) → Runs rest ss → Runs text (whole ∷ s ∷ ss)
  parts_run {rest = rest} (last_one e text _ d) s c b ss r =
      whole_runs text (s ∷ ss) (expression_runs d refl (s ∷ ss) (no_rest right_brace rest (s ∷ ss) at_right_brace (takes _ _ _ ss rest b r)))
  parts_run (and_more e es text more _ d ds) s c b ss r =
      whole_runs text (s ∷ ss) (expression_runs d refl (s ∷ ss) (no_rest comma more (s ∷ ss) at_comma
      (takes _ _ _ ss more c (parts_run ds more_parts firsts.more_parts-comma firsts.more_parts-right_brace ss r))))

  select_runs : {i : Select} {text rest : List Token} → IsSelect i text rest → (s : Symbol) (new : List Symbol) → behind_token s (mark left_bracket) ≡ Some (whole ∷ limit ∷ new) → (ss : List Symbol)
      → Runs rest (new ++ ss) → Runs text (s ∷ ss)
  select_runs (by_index e text rest d) s new b ss r =
      takes _ _ _ ss text b (whole_runs text (limit ∷ (new ++ ss)) (expression_runs d refl (limit ∷ (new ++ ss)) (no_rest right_bracket rest (limit ∷ (new ++ ss)) at_right_bracket
      (takes _ _ _ (new ++ ss) rest firsts.limit-right_bracket r))))
  select_runs (by_part x y text more rest dx dy) s new b ss r =
      takes _ _ _ ss text b (whole_runs text (limit ∷ (new ++ ss)) (expression_runs dx refl (limit ∷ (new ++ ss)) (no_rest colon more (limit ∷ (new ++ ss)) at_colon
      (takes _ _ _ (new ++ ss) more firsts.limit-colon (whole_runs more (token (the_mark right_bracket) ∷ (new ++ ss))
      (expression_runs dy refl (token (the_mark right_bracket) ∷ (new ++ ss)) (closing right_bracket rest (new ++ ss) at_right_bracket r)))))))
  select_runs (by_part_up x y text more rest dx dy) s new b ss r =
      takes _ _ _ ss text b (whole_runs text (limit ∷ (new ++ ss)) (expression_runs dx refl (limit ∷ (new ++ ss)) (no_rest plus_colon more (limit ∷ (new ++ ss)) at_plus_colon
      (takes _ _ _ (new ++ ss) more firsts.limit-plus_colon (whole_runs more (token (the_mark right_bracket) ∷ (new ++ ss))
      (expression_runs dy refl (token (the_mark right_bracket) ∷ (new ++ ss)) (closing right_bracket rest (new ++ ss) at_right_bracket r)))))))
  select_runs (by_part_down x y text more rest dx dy) s new b ss r =
      takes _ _ _ ss text b (whole_runs text (limit ∷ (new ++ ss)) (expression_runs dx refl (limit ∷ (new ++ ss)) (no_rest minus_colon more (limit ∷ (new ++ ss)) at_minus_colon
      (takes _ _ _ (new ++ ss) more firsts.limit-minus_colon (whole_runs more (token (the_mark right_bracket) ∷ (new ++ ss))
      (expression_runs dy refl (token (the_mark right_bracket) ∷ (new ++ ss)) (closing right_bracket rest (new ++ ss) at_right_bracket r)))))))

  pub selects_run : {s : Selects} {text rest : List Token} → AreSelects s text rest → IsPlain rest → (ss : List Symbol) → Runs rest ss → Runs text (selects ∷ ss)
  selects_run (no_select rest) p ss r = no_selects rest ss p r
  selects_run (one_select s text rest d) p ss r = select_runs d selects (second_select ∷ []) firsts.selects-left_bracket ss (no_second_select rest ss p r)
  selects_run (two_selects s t text more rest d e) p ss r =
      select_runs d selects (second_select ∷ []) firsts.selects-left_bracket ss (select_runs e second_select [] firsts.second_select-left_bracket ss r)

pub whole_before : (m : Mark) → EndsAll m → {e : Expression} {text rest : List Token} → IsWhole e text (mark m ∷ rest) → (ss : List Symbol) → Runs (mark m ∷ rest) ss → Runs text (whole ∷ ss)
whole_before m ends {text = text} {rest = rest} d ss r = whole_runs text ss (expression_runs d ends.no_bracket ss (no_rest m rest ss ends r))

-- with the mark
pub whole_and : (m : Mark) → EndsAll m → {e : Expression} {text rest : List Token} → IsWhole e text (mark m ∷ rest) → (ss : List Symbol) → Runs rest ss → Runs text (whole ∷ token (the_mark m) ∷ ss)
whole_and m ends {rest = rest} d ss r = whole_before m ends d (token (the_mark m) ∷ ss) (takes _ _ _ ss rest (mark_taken m) r)

-- ---- targets

mutual
  pub target_runs : {t : Target} {text rest : List Token} → IsTarget t text rest → IsPlain rest → (s : Symbol) (new : List Symbol)
      → ((n : Name) → IsIdentifier n → behind_token s (word n) ≡ Some (selects ∷ new)) → behind_token s (mark left_brace) ≡ Some (target ∷ more_targets ∷ new) → (ss : List Symbol)
      → Runs rest (new ++ ss) → Runs text (s ∷ ss)
  target_runs (a_place n x text rest free d) p s new f b ss r = takes _ _ _ ss text (f n free) (selects_run d p (new ++ ss) r)
  target_runs (some_joined ts text rest d) p s new f b ss r = takes _ _ _ ss text b (targets_run d (new ++ ss) r)

  targets_run : {ts : Targets} {text rest : List Token} → AreTargets ts text (mark right_brace ∷ rest) → (ss : List Symbol) → Runs rest ss → Runs text (target ∷ more_targets ∷ ss)
  targets_run {rest = rest} (last_target t text _ d) ss r =
      target_runs d refl target [] firsts.target-a_name firsts.target-left_brace (more_targets ∷ ss) (takes _ _ _ ss rest firsts.more_targets-right_brace r)
  targets_run (and_targets t ts text more _ d ds) ss r =
      target_runs d refl target [] firsts.target-a_name firsts.target-left_brace (more_targets ∷ ss) (takes _ _ _ ss more firsts.more_targets-comma (targets_run ds ss r))
