-- Each rule of the table is one of the grammar.
use Rattle.std.proofs.Common.{◌≡◌, ℕ, zero, suc, ◌+◌, ◌≤◌, Bool, true, false, List, [], ◌∷◌, Option, Some, None, refl, sym, ap, ◌∙◌, subst, arith}
use Rattle.std.specs.Prelude.{◌-◌, ◌||◌, codes}
use Rattle.std.specs.Str.{bytes_eq}
use Rattle.std.proofs.lemmas.Slice.Eq.{bytes_eq-Decides}
use Rattle.wb_values.specs.Value.{Name}
use Rattle.verilog_text.specs.Token.{Mark, left_parenthesis, right_parenthesis, left_bracket, right_bracket, left_brace, right_brace, comma, semicolon, colon, dot, hash, at, question, equals, plus_colon, minus_colon, plus, minus, star, double_star, slash, percent, exclamation, tilde, ampersand, tilde_ampersand, bar, tilde_bar, caret, tilde_caret, caret_tilde, double_ampersand, double_bar, less, less_equals, greater, greater_equals, double_less, double_greater, triple_less, triple_greater, double_equals, exclamation_equals, triple_equals, exclamation_double_equals, Token, word, system, decimal, based, mark}
use Rattle.verilog_trees.specs.Syntax as tree
use Rattle.verilog_trees.specs.Syntax.{Expression, Expressions, no_expressions, expression, Range, Direction, NetKind, PortDeclaration, ParameterDeclaration, Statement, CaseItems, no_items, exact_case, wild_case}
use Rattle.verilog_text.specs.Spelling as spelled
use Rattle.verilog_text.specs.Spelling.{IsIdentifier, Operator, operator_of, based_number, decimal_value, IsExpression, tighter, AreExpressions}
use Rattle.verilog_text.specs.Grammar as grammar
use Rattle.verilog_text.specs.Grammar.{AreParted, and_parts, last_part, IsWhole, IsFlag, IsPerhapsRange, IsNetKind, IsName, IsStatement, tested, decided, has_open_if, count_defaults, IsPerhapsColon, AreItems, last_item, and_items, for_values, for_others, IsItem, IsHeaderParameter, IsPort, direction_word, IsSetting}
use Rattle.v_place.specs.Table.{Symbol, token, whole, operand, operand_rest, digits, selects, second_select, limit, braces_rest, more_parts, target, more_targets, statement, assignment_rest, else_part, block_name, statements, first_item, case_items, last_items, more_values, more_last_values, perhaps_colon, net_kind, sign, range, perhaps_value, more_names, more_settings, more_nets, more_variables, more_assignments, overrides, connections, entry, more_named, more_entries, more_instances, control, first_event, event, more_events, items, header_parameters, more_parameters, next_parameter, header_ports, first_port, more_listed, more_ports, next_port, modules, Rule, rules, leads, Terminal, a_name, a_decimal, a_based, a_conversion, a_prefix, an_operator, the_word, the_mark}
use Rattle.v_place.proofs.Terminals.{Before}
use Rattle.v_place.proofs.Meaning.{IsRestOfItems, no_item, some_items, IsValuesItem, MoreOf, IsParametersRest, no_parameter, another_parameter, AreSettingsThen, IsPortsRest, no_port, another_port, AreNamesThen, Means, At, Under}

-- ---- expressions

pub some_same : {A : Type 0} (P : A → Type 0) (x y : A) → Some x ≡ Some y → P x → P y
some_same P x y e p = subst P (let e2 : x ≡ y = cc in e2) p

pub low_level : (m : Mark) (o : Operator) → operator_of m ≡ Some o → o.level ≤ 11
low_level left_parenthesis o e = absurd cc
low_level right_parenthesis o e = absurd cc
low_level left_bracket o e = absurd cc
low_level right_bracket o e = absurd cc
low_level left_brace o e = absurd cc
low_level right_brace o e = absurd cc
low_level comma o e = absurd cc
low_level semicolon o e = absurd cc
low_level colon o e = absurd cc
low_level dot o e = absurd cc
low_level hash o e = absurd cc
low_level at o e = absurd cc
low_level question o e = absurd cc
low_level equals o e = absurd cc
low_level plus_colon o e = absurd cc
low_level minus_colon o e = absurd cc
low_level plus o e = some_same (λ (p : Operator). p.level ≤ 11) _ o e (omega arith)
low_level minus o e = some_same (λ (p : Operator). p.level ≤ 11) _ o e (omega arith)
low_level star o e = some_same (λ (p : Operator). p.level ≤ 11) _ o e (omega arith)
low_level double_star o e = some_same (λ (p : Operator). p.level ≤ 11) _ o e (omega arith)
low_level slash o e = some_same (λ (p : Operator). p.level ≤ 11) _ o e (omega arith)
low_level percent o e = some_same (λ (p : Operator). p.level ≤ 11) _ o e (omega arith)
low_level exclamation o e = absurd cc
low_level tilde o e = absurd cc
low_level ampersand o e = some_same (λ (p : Operator). p.level ≤ 11) _ o e (omega arith)
low_level tilde_ampersand o e = absurd cc
low_level bar o e = some_same (λ (p : Operator). p.level ≤ 11) _ o e (omega arith)
low_level tilde_bar o e = absurd cc
low_level caret o e = some_same (λ (p : Operator). p.level ≤ 11) _ o e (omega arith)
low_level tilde_caret o e = some_same (λ (p : Operator). p.level ≤ 11) _ o e (omega arith)
low_level caret_tilde o e = some_same (λ (p : Operator). p.level ≤ 11) _ o e (omega arith)
low_level double_ampersand o e = some_same (λ (p : Operator). p.level ≤ 11) _ o e (omega arith)
low_level double_bar o e = some_same (λ (p : Operator). p.level ≤ 11) _ o e (omega arith)
low_level less o e = some_same (λ (p : Operator). p.level ≤ 11) _ o e (omega arith)
low_level less_equals o e = some_same (λ (p : Operator). p.level ≤ 11) _ o e (omega arith)
low_level greater o e = some_same (λ (p : Operator). p.level ≤ 11) _ o e (omega arith)
low_level greater_equals o e = some_same (λ (p : Operator). p.level ≤ 11) _ o e (omega arith)
low_level double_less o e = some_same (λ (p : Operator). p.level ≤ 11) _ o e (omega arith)
low_level double_greater o e = some_same (λ (p : Operator). p.level ≤ 11) _ o e (omega arith)
low_level triple_less o e = some_same (λ (p : Operator). p.level ≤ 11) _ o e (omega arith)
low_level triple_greater o e = some_same (λ (p : Operator). p.level ≤ 11) _ o e (omega arith)
low_level double_equals o e = some_same (λ (p : Operator). p.level ≤ 11) _ o e (omega arith)
low_level exclamation_equals o e = some_same (λ (p : Operator). p.level ≤ 11) _ o e (omega arith)
low_level triple_equals o e = some_same (λ (p : Operator). p.level ≤ 11) _ o e (omega arith)
low_level exclamation_double_equals o e = some_same (λ (p : Operator). p.level ≤ 11) _ o e (omega arith)

pub raised : (d k : ℕ) (e : Expression) (text rest : List Token) → IsExpression (d + k) e text rest → IsExpression k e text rest
raised zero k e text rest h = let none : 0 + k ≡ k = omega arith in subst (λ (l : ℕ). IsExpression l e text rest) none h
raised (suc d) k e text rest h =
    let more : suc d + k ≡ suc (d + k) = omega arith in
    raised d k e text rest (tighter (d + k) e text rest (subst (λ (l : ℕ). IsExpression l e text rest) more h))

pub at_one : (e : Expression) (text rest : List Token) → IsExpression 12 e text rest → IsExpression 1 e text rest
at_one e text rest h = raised 11 1 e text rest h

-- An operand after an operator goes into the expression before it where the operator's level says.
pub join_here : (m : Mark) (o : Operator) (k : ℕ) (e b : Expression) (text more rest : List Token) → o.level ≡ k → operator_of m ≡ Some o → IsExpression k e text (mark m ∷ more)
    → IsExpression 12 b more rest → (f : Expression) × IsExpression k f text rest
join_here m o k e b text more rest same is d db =
    let low : o.level ≤ 11 = low_level m o is in
    let twelve : 11 - o.level + suc o.level ≡ 12 = omega (arith, low) in
    let right : IsExpression (suc o.level) b more rest = raised (11 - o.level) (suc o.level) b more rest (subst (λ (l : ℕ). IsExpression l b more rest) (sym twelve) db) in (
      o.joins e b,
      subst (λ (l : ℕ). IsExpression l (o.joins e b) text rest) same
          (spelled.joined m o e b text more rest is (subst (λ (l : ℕ). IsExpression l e text (mark m ∷ more)) (sym same) d) right),
    )

pub joined_with : (gap : ℕ) (m : Mark) (o : Operator) (b : Expression) (more rest : List Token) → operator_of m ≡ Some o → IsExpression 12 b more rest
    → (k : ℕ) (e : Expression) (text : List Token) → 1 ≤ k → o.level ≡ gap + k → IsExpression k e text (mark m ∷ more) → (f : Expression) × IsExpression k f text rest
joined_with zero m o b more rest is db k e text low same d = join_here m o k e b text more rest (let now : o.level ≡ k = omega (arith, same) in now) is d db
joined_with (suc gap) m o b more rest is db k e text low same (tighter _ _ _ _ d) =
    let f = joined_with gap m o b more rest is db (suc k) e text (omega arith) (omega (arith, same)) d in
    (f.0, tighter k f.0 text rest f.1)
joined_with (suc gap) m o b more rest is db _ _ text low same (spelled.joined n p x y _ inner _ i dx dy) =
    let f = joined_with gap m o b more rest is db (suc p.level) y inner (omega arith) (omega (arith, same)) dy in
    (p.joins x f.0, spelled.joined n p x f.0 text inner rest i dx f.1)
joined_with (suc gap) m o b more rest is db _ _ text low same (spelled.chosen _ _ _ _ _ _ _ _ _ _) = absurd (omega (arith, low))
joined_with (suc gap) m o b more rest is db _ _ text low same (spelled.prefixed _ _ _ _ _ _ _) = absurd (omega (arith, same, low_level m o is))
joined_with (suc gap) m o b more rest is db _ _ text low same (spelled.a_number _ _ _ _) = absurd (omega (arith, same, low_level m o is))
joined_with (suc gap) m o b more rest is db _ _ text low same (spelled.a_name _ _ _ _ _ _) = absurd (omega (arith, same, low_level m o is))
joined_with (suc gap) m o b more rest is db _ _ text low same (spelled.bracketed _ _ _ _) = absurd (omega (arith, same, low_level m o is))
joined_with (suc gap) m o b more rest is db _ _ text low same (spelled.concatenated _ _ _ _) = absurd (omega (arith, same, low_level m o is))
joined_with (suc gap) m o b more rest is db _ _ text low same (spelled.replicated _ _ _ _ _ _ _) = absurd (omega (arith, same, low_level m o is))
joined_with (suc gap) m o b more rest is db _ _ text low same (spelled.made_signed _ _ _ _) = absurd (omega (arith, same, low_level m o is))
joined_with (suc gap) m o b more rest is db _ _ text low same (spelled.made_unsigned _ _ _ _) = absurd (omega (arith, same, low_level m o is))

pub high_level : (m : Mark) (o : Operator) → operator_of m ≡ Some o → 1 ≤ o.level
high_level left_parenthesis o e = absurd cc
high_level right_parenthesis o e = absurd cc
high_level left_bracket o e = absurd cc
high_level right_bracket o e = absurd cc
high_level left_brace o e = absurd cc
high_level right_brace o e = absurd cc
high_level comma o e = absurd cc
high_level semicolon o e = absurd cc
high_level colon o e = absurd cc
high_level dot o e = absurd cc
high_level hash o e = absurd cc
high_level at o e = absurd cc
high_level question o e = absurd cc
high_level equals o e = absurd cc
high_level plus_colon o e = absurd cc
high_level minus_colon o e = absurd cc
high_level plus o e = some_same (λ (p : Operator). 1 ≤ p.level) _ o e (omega arith)
high_level minus o e = some_same (λ (p : Operator). 1 ≤ p.level) _ o e (omega arith)
high_level star o e = some_same (λ (p : Operator). 1 ≤ p.level) _ o e (omega arith)
high_level double_star o e = some_same (λ (p : Operator). 1 ≤ p.level) _ o e (omega arith)
high_level slash o e = some_same (λ (p : Operator). 1 ≤ p.level) _ o e (omega arith)
high_level percent o e = some_same (λ (p : Operator). 1 ≤ p.level) _ o e (omega arith)
high_level exclamation o e = absurd cc
high_level tilde o e = absurd cc
high_level ampersand o e = some_same (λ (p : Operator). 1 ≤ p.level) _ o e (omega arith)
high_level tilde_ampersand o e = absurd cc
high_level bar o e = some_same (λ (p : Operator). 1 ≤ p.level) _ o e (omega arith)
high_level tilde_bar o e = absurd cc
high_level caret o e = some_same (λ (p : Operator). 1 ≤ p.level) _ o e (omega arith)
high_level tilde_caret o e = some_same (λ (p : Operator). 1 ≤ p.level) _ o e (omega arith)
high_level caret_tilde o e = some_same (λ (p : Operator). 1 ≤ p.level) _ o e (omega arith)
high_level double_ampersand o e = some_same (λ (p : Operator). 1 ≤ p.level) _ o e (omega arith)
high_level double_bar o e = some_same (λ (p : Operator). 1 ≤ p.level) _ o e (omega arith)
high_level less o e = some_same (λ (p : Operator). 1 ≤ p.level) _ o e (omega arith)
high_level less_equals o e = some_same (λ (p : Operator). 1 ≤ p.level) _ o e (omega arith)
high_level greater o e = some_same (λ (p : Operator). 1 ≤ p.level) _ o e (omega arith)
high_level greater_equals o e = some_same (λ (p : Operator). 1 ≤ p.level) _ o e (omega arith)
high_level double_less o e = some_same (λ (p : Operator). 1 ≤ p.level) _ o e (omega arith)
high_level double_greater o e = some_same (λ (p : Operator). 1 ≤ p.level) _ o e (omega arith)
high_level triple_less o e = some_same (λ (p : Operator). 1 ≤ p.level) _ o e (omega arith)
high_level triple_greater o e = some_same (λ (p : Operator). 1 ≤ p.level) _ o e (omega arith)
high_level double_equals o e = some_same (λ (p : Operator). 1 ≤ p.level) _ o e (omega arith)
high_level exclamation_equals o e = some_same (λ (p : Operator). 1 ≤ p.level) _ o e (omega arith)
high_level triple_equals o e = some_same (λ (p : Operator). 1 ≤ p.level) _ o e (omega arith)
high_level exclamation_double_equals o e = some_same (λ (p : Operator). 1 ≤ p.level) _ o e (omega arith)

pub with_operand : (m : Mark) (o : Operator) (b e : Expression) (before more rest : List Token) → operator_of m ≡ Some o → IsExpression 12 b more rest → IsExpression 1 e before (mark m ∷ more)
    → (f : Expression) × IsExpression 1 f before rest
with_operand m o b e before more rest is db d =
    let high : 1 ≤ o.level = high_level m o is in
    let same : o.level ≡ (o.level - 1) + 1 = omega (arith, high) in
    joined_with (o.level - 1) m o b more rest is db 1 e before (omega arith) same d

pub converted : (n : Name) (e : Expression) (text rest : List Token) (b : Bool) → bytes_eq n (codes "$signed") ≡ b → (b || bytes_eq n (codes "$unsigned")) ≡ true
    → IsWhole e text (mark right_parenthesis ∷ rest) → (f : Expression) × IsExpression 12 f (system n ∷ mark left_parenthesis ∷ text) rest
converted n e text rest true is h d =
    let same : n ≡ codes "$signed" = (bytes_eq-Decides n (codes "$signed")).0 is in
    (tree.as_signed e, subst (λ (w : Name). IsExpression 12 (tree.as_signed e) (system w ∷ mark left_parenthesis ∷ text) rest) (sym same) (tighter 12 _ _ _ (spelled.made_signed e text rest d)))
converted n e text rest false is h d =
    let same : n ≡ codes "$unsigned" = (bytes_eq-Decides n (codes "$unsigned")).0 h in
    (tree.as_unsigned e, subst (λ (w : Name). IsExpression 12 (tree.as_unsigned e) (system w ∷ mark left_parenthesis ∷ text) rest) (sym same) (tighter 12 _ _ _ (spelled.made_unsigned e text rest d)))

-- ---- lists

pub more_comma : {A : Type 0} (Is : A → List Token → List Token → Type 0) (m : Mark) (text rest : List Token) → MoreOf Is m text rest → (y : A) (inner : List Token) → Is y inner text
    → MoreOf Is m (mark comma ∷ inner) rest
more_comma Is m text rest h y inner dy x before d = let ys = h y inner dy in (x ∷ ys.0, and_parts x ys.0 before inner (mark m ∷ rest) d ys.1)

pub more_end : {A : Type 0} (Is : A → List Token → List Token → Type 0) (m : Mark) (rest : List Token) → MoreOf Is m (mark m ∷ rest) rest
more_end Is m rest x before d = (x ∷ [], last_part x before (mark m ∷ rest) d)

-- ---- statements

pub by_opening : (c : Expression) (s u : Statement) (before more other rest : List Token) → IsWhole c before (mark right_parenthesis ∷ more) → IsStatement s more (word (codes "else") ∷ other)
    → IsStatement u other rest → (b : Bool) → has_open_if s ≡ b → (has_open_if s ≡ true → (v : Statement) × IsStatement v more rest)
    → (v : Statement) × IsStatement v (word (codes "if") ∷ mark left_parenthesis ∷ before) rest
by_opening c s u before more other rest dc ds du true pending into = let v = into pending in (tree.if_then c v.0, tested c v.0 before more rest dc v.1)
by_opening c s u before more other rest dc ds du false closed into = (tree.if_else c s u, decided c s u before more other rest dc ds closed du)

-- an else goes to the last if that has none
pub attached : (u : Statement) (other rest : List Token) → IsStatement u other rest → (s : Statement) (text : List Token) → IsStatement s text (word (codes "else") ∷ other) → has_open_if s ≡ true
    → (v : Statement) × IsStatement v text rest
attached u other rest du _ _ (tested c s before more _ dc ds) pending =
    by_opening c s u before more other rest dc ds du (has_open_if s) refl (λ h. attached u other rest du s more ds h)
attached u other rest du _ _ (decided c s t before more inner _ dc ds closed dt) pending =
    let v = attached u other rest du t inner dt pending in
    (tree.if_else c s v.0, decided c s v.0 before more inner rest dc ds closed v.1)
attached u other rest du _ _ (grammar.nothing _) pending = absurd cc
attached u other rest du _ _ (grammar.blocks _ _ _ _ _) pending = absurd cc
attached u other rest du _ _ (grammar.waits _ _ _ _ _) pending = absurd cc
attached u other rest du _ _ (grammar.selected _ _ _ _ _ _ _ _ _) pending = absurd cc
attached u other rest du _ _ (grammar.in_block _ _ _ _ _ _ _) pending = absurd cc

pub with_else : (c : Expression) (s u : Statement) (before more other rest : List Token) → IsWhole c before (mark right_parenthesis ∷ more) → IsStatement s more (word (codes "else") ∷ other)
    → IsStatement u other rest → (v : Statement) × IsStatement v (word (codes "if") ∷ mark left_parenthesis ∷ before) rest
with_else c s u before more other rest dc ds du = by_opening c s u before more other rest dc ds du (has_open_if s) refl (λ h. attached u other rest du s more ds h)

-- what a case has after its parenthesis
abbrev pub HasItems : ℕ → (text rest : List Token) → Type 0
HasItems n text rest = (is : CaseItems) × AreItems is text (word (codes "endcase") ∷ rest) × (count_defaults is ≤ n)

pub default_item : (s : Statement) (text more others rest : List Token) → IsPerhapsColon text more → IsStatement s more others → IsRestOfItems 0 others rest
    → HasItems 1 (word (codes "default") ∷ text) rest
default_item s text more _ _ dc ds (no_item rest) =
    (tree.default_arm s no_items, last_item _ _ _ (for_others s no_items text more (word (codes "endcase") ∷ rest) dc ds), omega arith)
default_item s text more others rest dc ds (some_items is _ _ d few) =
    (tree.default_arm s is, and_items _ is (word (codes "default") ∷ text) others (word (codes "endcase") ∷ rest) (for_others s is text more others dc ds) d, omega (arith, few))

pub values_then : (n : ℕ) (es : Expressions) (s : Statement) (text more others rest : List Token) → AreExpressions es text (mark colon ∷ more) → IsStatement s more others → IsRestOfItems n others rest
    → HasItems n text rest
values_then n es s text more _ _ de ds (no_item rest) =
    (tree.arm es s no_items, last_item _ _ _ (for_values es s no_items text more (word (codes "endcase") ∷ rest) de ds), omega arith)
values_then n es s text more others rest de ds (some_items is _ _ d few) =
    (tree.arm es s is, and_items _ is text others (word (codes "endcase") ∷ rest) (for_values es s is text more others de ds) d, few)

pub values_item : (n : ℕ) (text rest : List Token) → IsValuesItem n text rest → HasItems n text rest
values_item n text rest i = values_then n i.values i.body text i.more i.others rest i.are_values i.is_body i.are_others

pub rest_of : (n : ℕ) (text rest : List Token) → HasItems n text rest → IsRestOfItems n text rest
rest_of n text rest h = some_items h.0 text rest h.1 h.2

pub value_more : (n : ℕ) (x : Expression) (text before rest : List Token) → IsWhole x before (mark comma ∷ text) → IsValuesItem n text rest → IsValuesItem n before rest
value_more n x text before rest d i = record {
  values = expression x i.values;
  body = i.body;
  more = i.more;
  others = i.others;
  are_values = spelled.and_more x i.values before text (mark colon ∷ i.more) d i.are_values;
  is_body = i.is_body;
  are_others = i.are_others;
}

pub value_last : (n : ℕ) (x : Expression) (s : Statement) (text others before rest : List Token) → IsWhole x before (mark colon ∷ text) → IsStatement s text others → IsRestOfItems n others rest
    → IsValuesItem n before rest
value_last n x s text others before rest d ds is = record {
  values = expression x no_expressions;
  body = s;
  more = text;
  others = others;
  are_values = spelled.last_one x before (mark colon ∷ text) d;
  is_body = ds;
  are_others = is;
}

-- ---- declarations

abbrev pub port_with : Direction → Option NetKind → Bool → Option Range → List Name → PortDeclaration
port_with d k s r ns = record { direction = d; kind = k; signed = s; range = r; names = ns }

pub header_then : (s : Bool) (r : Option Range) (vs : List (Name × Expression)) (text sized values more rest : List Token) → IsFlag (codes "signed") s text sized → IsPerhapsRange r sized values
    → AreParted IsSetting vs values more → IsParametersRest more rest
    → (ps : List ParameterDeclaration) × AreParted IsHeaderParameter ps (word (codes "parameter") ∷ text) (mark right_parenthesis ∷ rest)
header_then s r vs text sized values _ _ ds dr dv (no_parameter rest) =
    let p : ParameterDeclaration = record { is_local = false; signed = s; range = r; values = vs } in
    (p ∷ [], last_part p _ _ (grammar.in_header p _ _ (grammar.a_parameter false s r vs text sized values (mark right_parenthesis ∷ rest) ds dr dv) refl))
header_then s r vs text sized values _ _ ds dr dv (another_parameter ps more rest d) =
    let p : ParameterDeclaration = record { is_local = false; signed = s; range = r; values = vs } in
    (p ∷ ps, and_parts p ps _ more (mark right_parenthesis ∷ rest) (grammar.in_header p _ _ (grammar.a_parameter false s r vs text sized values (mark comma ∷ more) ds dr dv) refl) d)

pub header_parameter : (s : Bool) (r : Option Range) (text sized values rest : List Token) → IsFlag (codes "signed") s text sized → IsPerhapsRange r sized values → AreSettingsThen values rest
    → (ps : List ParameterDeclaration) × AreParted IsHeaderParameter ps (word (codes "parameter") ∷ text) (mark right_parenthesis ∷ rest)
header_parameter s r text sized values rest ds dr v = header_then s r v.values text sized values v.more rest ds dr v.are_values v.are_others

pub port_then : (d : Direction) (k : Option NetKind) (s : Bool) (r : Option Range) (ns : List Name) (text signed sized names more rest : List Token) → IsNetKind k text signed
    → IsFlag (codes "signed") s signed sized → IsPerhapsRange r sized names → AreParted IsName ns names more → IsPortsRest more rest
    → (ps : List PortDeclaration) × AreParted IsPort ps (word (direction_word d) ∷ text) (mark right_parenthesis ∷ rest)
port_then d k s r ns text signed sized names _ _ dk ds dr dn (no_port rest) =
    let p : PortDeclaration = record { direction = d; kind = k; signed = s; range = r; names = ns } in
    (p ∷ [], last_part p _ _ (grammar.a_port d k s r ns text signed sized names (mark right_parenthesis ∷ rest) dk ds dr dn))
port_then d k s r ns text signed sized names _ _ dk ds dr dn (another_port ps more rest dp) =
    let p : PortDeclaration = record { direction = d; kind = k; signed = s; range = r; names = ns } in
    (p ∷ ps, and_parts p ps _ more (mark right_parenthesis ∷ rest) (grammar.a_port d k s r ns text signed sized names (mark comma ∷ more) dk ds dr dn) dp)

pub header_port : (d : Direction) (k : Option NetKind) (s : Bool) (r : Option Range) (text signed sized names rest : List Token) → IsNetKind k text signed
    → IsFlag (codes "signed") s signed sized → IsPerhapsRange r sized names → AreNamesThen names rest
    → (ps : List PortDeclaration) × AreParted IsPort ps (word (direction_word d) ∷ text) (mark right_parenthesis ∷ rest)
header_port d k s r text signed sized names rest dk ds dr n = port_then d k s r n.names text signed sized names n.more rest dk ds dr n.are_names n.are_others

pub setting_more : (x : Name × Expression) (before inner rest : List Token) → IsSetting x before (mark comma ∷ inner) → AreSettingsThen inner rest → AreSettingsThen before rest
setting_more x before inner rest d v = record {
  values = x ∷ v.values;
  more = v.more;
  are_values = and_parts x v.values before inner v.more d v.are_values;
  are_others = v.are_others;
}

pub setting_last : (x : Name × Expression) (before more rest : List Token) → IsSetting x before more → IsParametersRest more rest → AreSettingsThen before rest
setting_last x before more rest d others = record { values = x ∷ []; more = more; are_values = last_part x before more d; are_others = others }

pub name_more : (x : Name) (before inner rest : List Token) → IsName x before (mark comma ∷ inner) → AreNamesThen inner rest → AreNamesThen before rest
name_more x before inner rest d v = record {
  names = x ∷ v.names;
  more = v.more;
  are_names = and_parts x v.names before inner v.more d v.are_names;
  are_others = v.are_others;
}

pub name_last : (x : Name) (before more rest : List Token) → IsName x before more → IsPortsRest more rest → AreNamesThen before rest
name_last x before more rest d others = record { names = x ∷ []; more = more; are_names = last_part x before more d; are_others = others }

pub item_more : (i : tree.Item) (text mid rest : List Token) → IsItem i text mid → Means items mid rest → Means items text rest
item_more i text mid rest d is = (i ∷ is.0, grammar.one_more i is.0 text mid (word (codes "endmodule") ∷ rest) d is.1)

-- ---- the rules

abbrev pub IsSound : Symbol → Rule → Type 0
IsSound s r = (rest : List Token) → Under r.1 rest (λ inner. Before r.0 inner (λ text. At s text rest))

abbrev pub AreSound : Symbol → List Rule → Type 0
AreSound s [] = Unit {0}
AreSound s (r ∷ rs) = IsSound s r × AreSound s rs

abbrev pub IsLeadSound : Symbol → Option (Symbol × List Symbol) → Type 0
IsLeadSound s None = Unit {0}
IsLeadSound s (Some l) = (rest : List Token) → Under (l.0 ∷ l.1) rest (λ text. At s text rest)
