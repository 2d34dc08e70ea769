-- Tokens that are expected one after another: declarations, instances, events, items, modules, sources.
use Rattle.std.proofs.Common.{◌≡◌, ℕ, zero, suc, ◌+◌, ◌≤◌, Bool, true, false, cond, List, [], ◌∷◌, ◌++◌, Option, Some, None, refl, sym, ap, ◌∙◌, subst, append_assoc, arith}
use Rattle.std.specs.Prelude.{codes}
use Rattle.std.specs.Str.{bytes_eq}
use Rattle.std.proofs.lemmas.Slice.Eq.{bytes_eq-Decides}
use Rattle.wb_values.specs.Value.{Name}
use Rattle.wb_values.specs.ReservedWords.{is_reserved}
use Rattle.verilog_text.specs.Token.{Mark, left_parenthesis, right_parenthesis, left_bracket, right_bracket, left_brace, right_brace, comma, semicolon, colon, dot, hash, at, equals, star, less_equals, Token, word, system, decimal, based, mark}
use Rattle.verilog_trees.specs.Syntax as tree
use Rattle.verilog_trees.specs.Syntax.{Expression, Expressions, Target, Statement, Statements, CaseKind, exact_case, wild_case, CaseItems, Event, Events, Range, Direction, NetKind, PortDeclaration, ParameterDeclaration, Connections, Item, Ports, Module, Source}
use Rattle.verilog_text.specs.Spelling as spelled
use Rattle.verilog_text.specs.Spelling.{IsIdentifier, AreExpressions, last_one, and_more}
use Rattle.verilog_text.specs.Grammar as grammar
use Rattle.verilog_text.specs.Grammar.{AreParted, last_part, and_parts, AreInRow, no_more, one_more, IsPerhaps, left_out, given, IsFlag, absent, present, IsName, IsWhole, IsRange, bounds, IsPerhapsRange, IsAssignment, assigned, direction_word, IsNetKind, no_kind, a_wire, a_variable, IsPort, a_port, IsSetting, set_to, parameter_word, IsParameter, IsWire, net, IsVariable, variable, IsEntry, empty_entry, an_entry, IsNamedEntry, under_name, AreConnections, named_entries, entries, IsInstance, an_instance, AreOverrides, no_overrides, edge_words, IsEvent, AreEvents, last_event, or_event, comma_event, IsControl, by_star, by_star_in_parentheses, by_events, IsItem, a_port_item, a_parameter_item, some_wires, some_variables, some_assignments, a_block, some_instances, IsHeaderParameter, in_header, AreHeaderParameters, no_parameters, some_parameters, ArePorts, none_listed, empty_list, names_listed, ports_declared, IsModule, a_module, IsSource}
use Rattle.v_place.specs.Table.{Symbol, token, whole, operand, operand_rest, digits, selects, second_select, limit, braces_rest, more_parts, target, more_targets, statement, assignment_rest, else_part, block_name, statements, first_item, case_items, last_items, more_values, more_last_values, perhaps_colon, net_kind, sign, range, perhaps_value, more_names, more_settings, more_nets, more_variables, more_assignments, overrides, connections, entry, more_named, more_entries, more_instances, control, first_event, event, more_events, items, header_parameters, more_parameters, next_parameter, header_ports, first_port, more_listed, more_ports, next_port, modules, rules, leads, is_optional, matches, by_rule, behind_token, expected_after, Terminal, a_name, a_decimal, a_based, a_conversion, a_prefix, an_operator, the_word, the_mark}
use Rattle.v_place.proofs.Terminals.{word_is, mark_is}
use Rattle.v_place.proofs.Firsts as firsts
use Rattle.v_place.proofs.Runs.{Runs, takes, passes, skips, led, led_by_operand, mark_taken, EndsAll, no_rest, at_right_parenthesis, at_comma, at_semicolon, at_colon, at_right_bracket, expression_runs, whole_before, whole_and, target_runs}
use Rattle.v_place.proofs.Parts.{no-range, no-overrides, no-header_parameters, no-header_ports, no-sign, HasNoElse, no_else, statement_runs}

-- ---- marks between parts

-- A mark after a part of a list: none of what may be left out begins with it.
record Separates (m : Mark) : Type 0 where
  ends : EndsAll m
  no_value : behind_token perhaps_value (mark m) ≡ None
  no_range : behind_token range (mark m) ≡ None
  no_entry : behind_token entry (mark m) ≡ None

comma_separates : Separates comma
unfolding behind_token rules leads
comma_separates = record { ends = at_comma; no_value = refl; no_range = refl; no_entry = refl }

semicolon_separates : Separates semicolon
unfolding behind_token rules leads
semicolon_separates = record { ends = at_semicolon; no_value = refl; no_range = refl; no_entry = refl }

parenthesis_separates : Separates right_parenthesis
unfolding behind_token rules leads
parenthesis_separates = record { ends = at_right_parenthesis; no_value = refl; no_range = refl; no_entry = refl }

-- what goes before the tokens of a part is expected in front of each part
abbrev RunsPart : {A : Type 0} → (A → List Token → List Token → Type 0) → List Symbol → Type 0
RunsPart {A} Is part = (x : A) (text : List Token) (m : Mark) (rest : List Token) (ss : List Symbol) → Separates m → Is x text (mark m ∷ rest) → Runs (mark m ∷ rest) ss → Runs text (part ++ ss)

parted_runs : {A : Type 0} (Is : A → List Token → List Token → Type 0) (part : List Symbol) (more : Symbol) (m : Mark) → Separates m → behind_token more (mark comma) ≡ Some (part ++ more ∷ [])
    → behind_token more (mark m) ≡ Some [] → RunsPart Is part → {xs : List A} {text rest : List Token} → AreParted Is xs text (mark m ∷ rest) → (ss : List Symbol) → Runs rest ss
    → Runs text (part ++ (more ∷ ss))
parted_runs Is part more m sep c e one {rest = rest} (last_part x text _ d) ss r = one x text m rest (more ∷ ss) sep d (takes _ _ _ ss rest e r)
parted_runs Is part more m sep c e one (and_parts x xs text inner _ d ds) ss r =
    one x text comma inner (more ∷ ss) comma_separates d
    (takes _ _ _ ss inner c (subst (λ (us : List Symbol). Runs inner us) (sym (append_assoc part (more ∷ []) ss)) (parted_runs Is part more m sep c e one ds ss r)))

-- ---- declarations

range_runs : {r : Range} {text rest : List Token} → IsRange r text rest → (ss : List Symbol) → Runs rest ss → Runs text (whole ∷ token (the_mark colon) ∷ whole ∷ token (the_mark right_bracket) ∷ ss)
range_runs (bounds x y text more rest dx dy) ss r =
    whole_and colon at_colon dx (whole ∷ token (the_mark right_bracket) ∷ ss) (whole_and right_bracket at_right_bracket dy ss r)

perhaps_range_runs : {r : Option Range} {text rest : List Token} → IsPerhapsRange r text rest → (ss : List Symbol) → expected_after ss (mark left_bracket) ≡ None → Runs rest ss → Runs text (range ∷ ss)
perhaps_range_runs (left_out rest) ss none r = no-range ss rest none r
perhaps_range_runs (given x text rest d) ss none r = takes _ _ _ ss text firsts.range-left_bracket (range_runs d ss r)

sign_runs : {s : Bool} {text rest : List Token} → IsFlag (codes "signed") s text rest → (ss : List Symbol) → expected_after ss (word (codes "signed")) ≡ None → Runs rest ss → Runs text (sign ∷ ss)
sign_runs (absent rest) ss none r = no-sign ss rest none r
sign_runs (present rest) ss none r = takes _ _ _ ss rest firsts.sign-signed r

kind_word_by : (t : Token) (found : List Symbol) (b c : Bool) → matches (the_word (codes "wire")) t ≡ b → matches (the_word (codes "reg")) t ≡ c → cond b (Some []) (cond c (Some []) None) ≡ Some found
    → (P : Token → Type 0) → P (word (codes "wire")) → P (word (codes "reg")) → P t
kind_word_by t found true c e f h P p q = subst P (sym (word_is (codes "wire") t e)) p
kind_word_by t found false true e f h P p q = subst P (sym (word_is (codes "reg") t f)) q
kind_word_by t found false false e f h P p q = absurd cc

no_net_kind : (ss : List Symbol) (text : List Token) → expected_after ss (word (codes "wire")) ≡ None → expected_after ss (word (codes "reg")) ≡ None → Runs text ss → Runs text (net_kind ∷ ss)
unfolding behind_token rules leads is_optional
no_net_kind ss text p q r =
    skips net_kind ss text refl (λ t found e. kind_word_by t found (matches (the_word (codes "wire")) t) (matches (the_word (codes "reg")) t) refl refl e (λ (u : Token). expected_after ss u ≡ None) p q) r

kind_runs : {k : Option NetKind} {text rest : List Token} → IsNetKind k text rest → (ss : List Symbol) → expected_after ss (word (codes "wire")) ≡ None → expected_after ss (word (codes "reg")) ≡ None
    → Runs rest ss → Runs text (net_kind ∷ ss)
kind_runs (no_kind rest) ss p q r = no_net_kind ss rest p q r
kind_runs (a_wire rest) ss p q r = takes _ _ _ ss rest firsts.net_kind-wire r
kind_runs (a_variable rest) ss p q r = takes _ _ _ ss rest firsts.net_kind-reg r

bracket_in_name : (ss : List Symbol) → expected_after (token a_name ∷ ss) (mark left_bracket) ≡ None
unfolding expected_after behind_token rules leads is_optional
bracket_in_name ss = refl

signed_in_range : (ss : List Symbol) → expected_after (range ∷ token a_name ∷ ss) (word (codes "signed")) ≡ None
unfolding expected_after behind_token rules leads is_optional is_reserved
signed_in_range ss = refl

wire_in_sign : (ss : List Symbol) → expected_after (sign ∷ range ∷ token a_name ∷ ss) (word (codes "wire")) ≡ None
unfolding expected_after behind_token rules leads is_optional is_reserved
wire_in_sign ss = refl

reg_in_sign : (ss : List Symbol) → expected_after (sign ∷ range ∷ token a_name ∷ ss) (word (codes "reg")) ≡ None
unfolding expected_after behind_token rules leads is_optional is_reserved
reg_in_sign ss = refl

-- signed, range, up to a name
sized_runs : {s : Bool} {r : Option Range} {text sized names : List Token} → IsFlag (codes "signed") s text sized → IsPerhapsRange r sized names → (ss : List Symbol) → Runs names (token a_name ∷ ss)
    → Runs text (sign ∷ range ∷ token a_name ∷ ss)
sized_runs ds dr ss r = sign_runs ds (range ∷ token a_name ∷ ss) (signed_in_range ss) (perhaps_range_runs dr (token a_name ∷ ss) (bracket_in_name ss) r)

port_body_runs : {k : Option NetKind} {s : Bool} {r : Option Range} {text signed sized names : List Token} → IsNetKind k text signed → IsFlag (codes "signed") s signed sized → IsPerhapsRange r sized names
    → (ss : List Symbol) → Runs names (token a_name ∷ ss) → Runs text (net_kind ∷ sign ∷ range ∷ token a_name ∷ ss)
port_body_runs dk ds dr ss r = kind_runs dk (sign ∷ range ∷ token a_name ∷ ss) (wire_in_sign ss) (reg_in_sign ss) (sized_runs ds dr ss r)

one_name : RunsPart IsName (token a_name ∷ [])
one_name _ _ m rest ss sep (grammar.a_name n _ free) r = takes _ _ _ ss (mark m ∷ rest) (firsts.token_name n free) r

one_setting : RunsPart IsSetting (token a_name ∷ token (the_mark equals) ∷ whole ∷ [])
one_setting _ _ m rest ss sep (set_to n e text _ free d) r =
    takes _ _ _ (token (the_mark equals) ∷ whole ∷ ss) (mark equals ∷ text) (firsts.token_name n free) (takes _ _ _ (whole ∷ ss) text (mark_taken equals) (whole_before m sep.ends d ss r))

perhaps_value_runs : {e : Option Expression} {text : List Token} (m : Mark) (rest : List Token) → Separates m → IsPerhaps (mark equals) IsWhole e text (mark m ∷ rest) → (ss : List Symbol)
    → Runs (mark m ∷ rest) ss → Runs text (perhaps_value ∷ ss)
unfolding is_optional
perhaps_value_runs m rest sep (left_out _) ss r = passes perhaps_value ss (mark m) rest refl sep.no_value r
perhaps_value_runs m rest sep (given x text _ d) ss r = takes _ _ _ ss text firsts.perhaps_value-equals (whole_before m sep.ends d ss r)

one_wire : RunsPart IsWire (token a_name ∷ perhaps_value ∷ [])
one_wire _ _ m rest ss sep (net n e text _ free d) r = takes _ _ _ (perhaps_value ∷ ss) text (firsts.token_name n free) (perhaps_value_runs m rest sep d ss r)

variable_range_runs : {e : Option Range} {text : List Token} (m : Mark) (rest : List Token) → Separates m → IsPerhapsRange e text (mark m ∷ rest) → (ss : List Symbol)
    → Runs (mark m ∷ rest) ss → Runs text (range ∷ ss)
unfolding is_optional
variable_range_runs m rest sep (left_out _) ss r = passes range ss (mark m) rest refl sep.no_range r
variable_range_runs m rest sep (given x text _ d) ss r = takes _ _ _ ss text firsts.range-left_bracket (range_runs d ss r)

one_variable : RunsPart IsVariable (token a_name ∷ range ∷ [])
one_variable _ _ m rest ss sep (variable n e text _ free d) r = takes _ _ _ (range ∷ ss) text (firsts.token_name n free) (variable_range_runs m rest sep d ss r)

one_assignment : RunsPart (IsAssignment equals) (target ∷ token (the_mark equals) ∷ whole ∷ [])
one_assignment _ _ m rest ss sep (assigned t e text value _ dt de) r =
    target_runs dt refl target [] firsts.target-a_name firsts.target-left_brace (token (the_mark equals) ∷ whole ∷ ss) (takes _ _ _ (whole ∷ ss) value (mark_taken equals) (whole_before m sep.ends de ss r))

-- ---- instances

entry_leads : (text : List Token) (ss : List Symbol) → Runs text (operand ∷ operand_rest ∷ ss) → Runs text (entry ∷ ss)
unfolding leads is_optional
entry_leads text ss r = led entry operand (operand_rest ∷ []) ss text refl refl refl r

one_entry : RunsPart IsEntry (entry ∷ [])
unfolding is_optional
one_entry _ _ m rest ss sep (empty_entry _) r = passes entry ss (mark m) rest refl sep.no_entry r
one_entry _ _ m rest ss sep (an_entry e text _ d) r = entry_leads text ss (expression_runs d sep.ends.no_bracket ss (no_rest m rest ss sep.ends r))

-- after the dot
named_rest_runs : (n : Name) {e : Option Expression} {text rest : List Token} → IsIdentifier n → IsEntry e text (mark right_parenthesis ∷ rest) → (ss : List Symbol) → Runs rest ss
    → Runs (word n ∷ mark left_parenthesis ∷ text) (token a_name ∷ token (the_mark left_parenthesis) ∷ entry ∷ token (the_mark right_parenthesis) ∷ ss)
named_rest_runs n {e = e} {text = text} {rest = rest} free d ss r =
    takes _ _ _ (token (the_mark left_parenthesis) ∷ entry ∷ token (the_mark right_parenthesis) ∷ ss) (mark left_parenthesis ∷ text) (firsts.token_name n free)
    (takes _ _ _ (entry ∷ token (the_mark right_parenthesis) ∷ ss) text (mark_taken left_parenthesis)
    (one_entry e text right_parenthesis rest (token (the_mark right_parenthesis) ∷ ss) parenthesis_separates d (takes _ _ _ ss rest (mark_taken right_parenthesis) r)))

named_runs : {es : List (Name × Option Expression)} {text rest : List Token} → AreParted IsNamedEntry es text (mark right_parenthesis ∷ rest) → (s : Symbol) (new ys ss : List Symbol)
    → behind_token s (mark dot) ≡ Some new → new ++ ys ≡ token a_name ∷ token (the_mark left_parenthesis) ∷ entry ∷ token (the_mark right_parenthesis) ∷ more_named ∷ ss → Runs rest ss → Runs text (s ∷ ys)
named_runs {rest = rest} (last_part _ _ _ (under_name n e text _ free d)) s new ys ss b same r =
    takes _ _ _ ys (word n ∷ mark left_parenthesis ∷ text) b (subst (λ (us : List Symbol). Runs (word n ∷ mark left_parenthesis ∷ text) us) (sym same)
    (named_rest_runs n free d (more_named ∷ ss) (takes _ _ _ ss rest firsts.more_named-right_parenthesis r)))
named_runs (and_parts _ xs _ more _ (under_name n e text _ free d) ds) s new ys ss b same r =
    takes _ _ _ ys (word n ∷ mark left_parenthesis ∷ text) b (subst (λ (us : List Symbol). Runs (word n ∷ mark left_parenthesis ∷ text) us) (sym same)
    (named_rest_runs n free d (more_named ∷ ss) (takes _ _ _ ss more firsts.more_named-comma
    (named_runs ds (token (the_mark dot)) [] (token a_name ∷ token (the_mark left_parenthesis) ∷ entry ∷ token (the_mark right_parenthesis) ∷ more_named ∷ ss) ss (mark_taken dot) refl r))))

leads_connections : leads connections ≡ Some (operand, operand_rest ∷ more_entries ∷ [])
unfolding leads
leads_connections = refl

more_entries_run : {es : List (Option Expression)} {text rest : List Token} → AreParted IsEntry es text (mark right_parenthesis ∷ rest) → (ss : List Symbol) → Runs rest ss → Runs text (entry ∷ more_entries ∷ ss)
more_entries_run d ss r =
    parted_runs IsEntry (entry ∷ []) more_entries right_parenthesis parenthesis_separates firsts.more_entries-comma firsts.more_entries-right_parenthesis one_entry d ss r

entries_run : {es : List (Option Expression)} {text rest : List Token} → AreParted IsEntry es text (mark right_parenthesis ∷ rest) → (ss : List Symbol) → Runs rest ss → Runs text (connections ∷ ss)
entries_run {rest = rest} (last_part _ _ _ (empty_entry _)) ss r = takes _ _ _ ss rest firsts.connections-right_parenthesis r
entries_run {rest = rest} (last_part _ _ _ (an_entry e text _ d)) ss r =
    led_by_operand connections more_entries text ss leads_connections (expression_runs d refl (more_entries ∷ ss) (no_rest right_parenthesis rest (more_entries ∷ ss) at_right_parenthesis
    (takes _ _ _ ss rest firsts.more_entries-right_parenthesis r)))
entries_run (and_parts _ xs _ more _ (empty_entry _) ds) ss r = takes _ _ _ ss more firsts.connections-comma (more_entries_run ds ss r)
entries_run (and_parts _ xs _ more _ (an_entry e text _ d) ds) ss r =
    led_by_operand connections more_entries text ss leads_connections (expression_runs d refl (more_entries ∷ ss) (no_rest comma more (more_entries ∷ ss) at_comma
    (takes _ _ _ ss more firsts.more_entries-comma (more_entries_run ds ss r))))

connections_run : {c : Connections} {text rest : List Token} → AreConnections c text rest → (ss : List Symbol) → Runs rest ss → Runs text (connections ∷ ss)
connections_run (named_entries es text rest d) ss r =
    named_runs d connections (token a_name ∷ token (the_mark left_parenthesis) ∷ entry ∷ token (the_mark right_parenthesis) ∷ more_named ∷ []) ss ss firsts.connections-dot refl r
connections_run (entries es text rest d) ss r = entries_run d ss r

one_instance : RunsPart IsInstance (token a_name ∷ token (the_mark left_parenthesis) ∷ connections ∷ [])
one_instance _ _ m rest ss sep (an_instance n c text _ free d) r =
    takes _ _ _ (token (the_mark left_parenthesis) ∷ connections ∷ ss) (mark left_parenthesis ∷ text) (firsts.token_name n free) (takes _ _ _ (connections ∷ ss) text (mark_taken left_parenthesis) (connections_run d ss r))

hash_in_name : (ss : List Symbol) → expected_after (token a_name ∷ ss) (mark hash) ≡ None
unfolding expected_after behind_token rules leads is_optional
hash_in_name ss = refl

overrides_run : {c : Connections} {text rest : List Token} → AreOverrides c text rest → (ss : List Symbol) → Runs rest (token a_name ∷ ss) → Runs text (overrides ∷ token a_name ∷ ss)
overrides_run (no_overrides rest) ss r = no-overrides (token a_name ∷ ss) rest (hash_in_name ss) r
overrides_run (grammar.overrides c text rest d) ss r =
    takes _ _ _ (token a_name ∷ ss) (mark left_parenthesis ∷ text) firsts.overrides-hash
    (takes _ _ _ (connections ∷ token a_name ∷ ss) text (mark_taken left_parenthesis) (connections_run d (token a_name ∷ ss) r))

-- ---- events

event_runs : {e : Event} {text rest : List Token} → IsEvent e text rest → (s : Symbol) (new : List Symbol) → ((n : Name) → IsIdentifier n → behind_token s (word n) ≡ Some new)
    → behind_token s (word (codes "posedge")) ≡ Some (token a_name ∷ new) → behind_token s (word (codes "negedge")) ≡ Some (token a_name ∷ new) → (ss : List Symbol) → Runs rest (new ++ ss)
    → Runs text (s ∷ ss)
event_runs (grammar.an_event tree.any_edge n rest free) s new f p q ss r = takes _ _ _ ss rest (f n free) r
event_runs (grammar.an_event tree.posedge n rest free) s new f p q ss r = takes _ _ _ ss (word n ∷ rest) p (takes _ _ _ (new ++ ss) rest (firsts.token_name n free) r)
event_runs (grammar.an_event tree.negedge n rest free) s new f p q ss r = takes _ _ _ ss (word n ∷ rest) q (takes _ _ _ (new ++ ss) rest (firsts.token_name n free) r)

one_event_runs : {e : Event} {text rest : List Token} → IsEvent e text rest → (ss : List Symbol) → Runs rest ss → Runs text (event ∷ ss)
one_event_runs d ss r = event_runs d event [] firsts.event-a_name firsts.event-posedge firsts.event-negedge ss r

more_events_run : {es : List Event} {text rest : List Token} → AreEvents es text rest → (ss : List Symbol) → Runs rest ss → Runs text (event ∷ more_events ∷ ss)
more_events_run (last_event e text rest d) ss r = one_event_runs d (more_events ∷ ss) (takes _ _ _ ss rest firsts.more_events-right_parenthesis r)
more_events_run (or_event e es text more rest d ds) ss r = one_event_runs d (more_events ∷ ss) (takes _ _ _ ss more firsts.more_events-or (more_events_run ds ss r))
more_events_run (comma_event e es text more rest d ds) ss r = one_event_runs d (more_events ∷ ss) (takes _ _ _ ss more firsts.more_events-comma (more_events_run ds ss r))

first_event_runs : {e : Event} {text rest : List Token} → IsEvent e text rest → (ss : List Symbol) → Runs rest (more_events ∷ ss) → Runs text (first_event ∷ ss)
first_event_runs d ss r = event_runs d first_event (more_events ∷ []) firsts.first_event-a_name firsts.first_event-posedge firsts.first_event-negedge ss r

events_run : {es : List Event} {text rest : List Token} → AreEvents es text rest → (ss : List Symbol) → Runs rest ss → Runs text (first_event ∷ ss)
events_run (last_event e text rest d) ss r = first_event_runs d ss (takes _ _ _ ss rest firsts.more_events-right_parenthesis r)
events_run (or_event e es text more rest d ds) ss r = first_event_runs d ss (takes _ _ _ ss more firsts.more_events-or (more_events_run ds ss r))
events_run (comma_event e es text more rest d ds) ss r = first_event_runs d ss (takes _ _ _ ss more firsts.more_events-comma (more_events_run ds ss r))

control_runs : {es : Events} {text rest : List Token} → IsControl es text rest → (ss : List Symbol) → Runs rest ss → Runs text (control ∷ ss)
control_runs (by_star rest) ss r = takes _ _ _ ss rest firsts.control-star r
control_runs (by_star_in_parentheses rest) ss r =
    takes _ _ _ ss (mark star ∷ mark right_parenthesis ∷ rest) firsts.control-left_parenthesis (takes _ _ _ ss (mark right_parenthesis ∷ rest) firsts.first_event-star (takes _ _ _ ss rest (mark_taken right_parenthesis) r))
control_runs (by_events es text rest d) ss r = takes _ _ _ ss text firsts.control-left_parenthesis (events_run d ss r)

-- ---- items

else_in_module : (ss : List Symbol) → expected_after (items ∷ ss) (word (codes "else")) ≡ None
unfolding expected_after behind_token rules leads is_optional is_reserved
else_in_module ss = refl

no_else_in_items : (text : List Token) (ss : List Symbol) → Runs text (items ∷ ss) → HasNoElse text
no_else_in_items text ss q = no_else text (items ∷ ss) (else_in_module ss) q

port_first : (d : Direction) → behind_token items (word (direction_word d)) ≡ Some (net_kind ∷ sign ∷ range ∷ token a_name ∷ more_names ∷ items ∷ [])
port_first tree.input = firsts.items-input
port_first tree.output = firsts.items-output

parameter_first : (l : Bool) → behind_token items (word (parameter_word l)) ≡ Some (sign ∷ range ∷ token a_name ∷ token (the_mark equals) ∷ whole ∷ more_settings ∷ items ∷ [])
parameter_first true = firsts.items-localparam
parameter_first false = firsts.items-parameter

item_runs : {i : Item} {text rest : List Token} → IsItem i text rest → (ss : List Symbol) → Runs rest (items ∷ ss) → Runs text (items ∷ ss)
item_runs (a_port_item _ _ rest (a_port d k s r ns kind sign_text sized names _ dk ds dr dn)) ss q =
    takes _ _ _ ss kind (port_first d) (port_body_runs dk ds dr (more_names ∷ items ∷ ss)
    (parted_runs IsName (token a_name ∷ []) more_names semicolon semicolon_separates firsts.more_names-comma firsts.more_names-semicolon one_name dn (items ∷ ss) q))
item_runs (a_parameter_item _ _ rest (grammar.a_parameter l s r vs sign_text sized values _ ds dr dv)) ss q =
    takes _ _ _ ss sign_text (parameter_first l) (sized_runs ds dr (token (the_mark equals) ∷ whole ∷ more_settings ∷ items ∷ ss)
    (parted_runs IsSetting (token a_name ∷ token (the_mark equals) ∷ whole ∷ []) more_settings semicolon semicolon_separates firsts.more_settings-comma firsts.more_settings-semicolon one_setting dv (items ∷ ss) q))
item_runs (some_wires s r ws sign_text sized names rest ds dr dw) ss q =
    takes _ _ _ ss sign_text firsts.items-wire (sized_runs ds dr (perhaps_value ∷ more_nets ∷ items ∷ ss)
    (parted_runs IsWire (token a_name ∷ perhaps_value ∷ []) more_nets semicolon semicolon_separates firsts.more_nets-comma firsts.more_nets-semicolon one_wire dw (items ∷ ss) q))
item_runs (some_variables s r vs sign_text sized names rest ds dr dv) ss q =
    takes _ _ _ ss sign_text firsts.items-reg (sized_runs ds dr (range ∷ more_variables ∷ items ∷ ss)
    (parted_runs IsVariable (token a_name ∷ range ∷ []) more_variables semicolon semicolon_separates firsts.more_variables-comma firsts.more_variables-semicolon one_variable dv (items ∷ ss) q))
item_runs (some_assignments xs text rest d) ss q =
    takes _ _ _ ss text firsts.items-assign
    (parted_runs (IsAssignment equals) (target ∷ token (the_mark equals) ∷ whole ∷ []) more_assignments semicolon semicolon_separates firsts.more_assignments-comma firsts.more_assignments-semicolon one_assignment d (items ∷ ss) q)
item_runs (a_block es s text more rest de ds) ss q =
    takes _ _ _ ss (mark at ∷ text) firsts.items-always (takes _ _ _ (control ∷ statement ∷ items ∷ ss) text (mark_taken at)
    (control_runs de (statement ∷ items ∷ ss) (statement_runs ds (λ h. no_else_in_items rest ss q) (items ∷ ss) q)))
item_runs (some_instances m c is text more rest free dc di) ss q =
    takes _ _ _ ss text (firsts.items-a_name m free) (overrides_run dc (token (the_mark left_parenthesis) ∷ connections ∷ more_instances ∷ items ∷ ss)
    (parted_runs IsInstance (token a_name ∷ token (the_mark left_parenthesis) ∷ connections ∷ []) more_instances semicolon semicolon_separates firsts.more_instances-comma firsts.more_instances-semicolon one_instance di (items ∷ ss) q))

items_run : {is : List Item} {text rest : List Token} → AreInRow IsItem is text (word (codes "endmodule") ∷ rest) → (ss : List Symbol) → Runs rest ss → Runs text (items ∷ ss)
items_run {rest = rest} (no_more _) ss q = takes _ _ _ ss rest firsts.items-endmodule q
items_run (one_more i is text more _ d ds) ss q = item_runs d ss (items_run ds ss q)

-- ---- headers

-- settings of a header, up to the mark after them
header_settings_run : {vs : List (Name × Expression)} {text : List Token} (m : Mark) (rest : List Token) → Separates m → AreParted IsSetting vs text (mark m ∷ rest) → (ss : List Symbol)
    → Runs (mark m ∷ rest) (more_parameters ∷ ss) → (s : Symbol) (new ys : List Symbol) → ((n : Name) → IsIdentifier n → behind_token s (word n) ≡ Some new)
    → new ++ ys ≡ token (the_mark equals) ∷ whole ∷ more_parameters ∷ ss → Runs text (s ∷ ys)
header_settings_run m rest sep (last_part _ _ _ (set_to n e text _ free d)) ss q s new ys f same =
    takes _ _ _ ys (mark equals ∷ text) (f n free) (subst (λ (us : List Symbol). Runs (mark equals ∷ text) us) (sym same)
    (takes _ _ _ (whole ∷ more_parameters ∷ ss) text (mark_taken equals) (whole_before m sep.ends d (more_parameters ∷ ss) q)))
header_settings_run m rest sep (and_parts _ xs _ more _ (set_to n e text _ free d) ds) ss q s new ys f same =
    takes _ _ _ ys (mark equals ∷ text) (f n free) (subst (λ (us : List Symbol). Runs (mark equals ∷ text) us) (sym same)
    (takes _ _ _ (whole ∷ more_parameters ∷ ss) text (mark_taken equals) (whole_before comma at_comma d (more_parameters ∷ ss)
    (takes _ _ _ ss more firsts.more_parameters-comma
    (header_settings_run m rest sep ds ss q next_parameter (token (the_mark equals) ∷ whole ∷ more_parameters ∷ []) ss firsts.next_parameter-a_name refl)))))

token_word : (w : Name) → behind_token (token (the_word w)) (word w) ≡ Some []
unfolding behind_token rules leads
token_word w = let e : bytes_eq w w ≡ true = (bytes_eq-Decides w w).1 refl in rw e refl

header_parameter_runs : {p : ParameterDeclaration} {text : List Token} (m : Mark) (rest : List Token) → Separates m → IsHeaderParameter p text (mark m ∷ rest) → (ss : List Symbol)
    → Runs (mark m ∷ rest) (more_parameters ∷ ss) → (s : Symbol) (new ys : List Symbol) → behind_token s (word (codes "parameter")) ≡ Some new
    → new ++ ys ≡ sign ∷ range ∷ token a_name ∷ token (the_mark equals) ∷ whole ∷ more_parameters ∷ ss → Runs text (s ∷ ys)
header_parameter_runs m rest sep (in_header _ _ _ (grammar.a_parameter true s r vs sign_text sized values _ ds dr dv) mine) ss q x new ys b same = absurd cc
header_parameter_runs m rest sep (in_header _ _ _ (grammar.a_parameter false s r vs sign_text sized values _ ds dr dv) mine) ss q x new ys b same =
    takes _ _ _ ys sign_text b (subst (λ (us : List Symbol). Runs sign_text us) (sym same) (sized_runs ds dr (token (the_mark equals) ∷ whole ∷ more_parameters ∷ ss)
    (header_settings_run m rest sep dv ss q (token a_name) [] (token (the_mark equals) ∷ whole ∷ more_parameters ∷ ss) firsts.token_name refl)))

parameters_run : {ps : List ParameterDeclaration} {text rest : List Token} → AreParted IsHeaderParameter ps text (mark right_parenthesis ∷ rest) → (ss : List Symbol) → Runs rest ss
    → (s : Symbol) (new ys : List Symbol) → behind_token s (word (codes "parameter")) ≡ Some new
    → new ++ ys ≡ sign ∷ range ∷ token a_name ∷ token (the_mark equals) ∷ whole ∷ more_parameters ∷ ss → Runs text (s ∷ ys)
parameters_run {rest = rest} (last_part p text _ d) ss q s new ys b same =
    header_parameter_runs right_parenthesis rest parenthesis_separates d ss (takes _ _ _ ss rest firsts.more_parameters-right_parenthesis q) s new ys b same
parameters_run (and_parts p ps text more _ d ds) ss q s new ys b same =
    header_parameter_runs comma more comma_separates d ss (takes _ _ _ ss more firsts.more_parameters-comma
    (parameters_run ds ss q next_parameter (sign ∷ range ∷ token a_name ∷ token (the_mark equals) ∷ whole ∷ more_parameters ∷ []) ss firsts.next_parameter-parameter refl)) s new ys b same

hash_in_ports : (ss : List Symbol) → expected_after (header_ports ∷ token (the_mark semicolon) ∷ ss) (mark hash) ≡ None
unfolding expected_after behind_token rules leads is_optional
hash_in_ports ss = refl

header_parameters_run : {ps : List ParameterDeclaration} {text rest : List Token} → AreHeaderParameters ps text rest → (ss : List Symbol) → Runs rest (header_ports ∷ token (the_mark semicolon) ∷ ss)
    → Runs text (header_parameters ∷ header_ports ∷ token (the_mark semicolon) ∷ ss)
header_parameters_run (no_parameters rest) ss q = no-header_parameters (header_ports ∷ token (the_mark semicolon) ∷ ss) rest (hash_in_ports ss) q
header_parameters_run (some_parameters ps text rest d) ss q =
    let behind = header_ports ∷ token (the_mark semicolon) ∷ ss in
    let body = sign ∷ range ∷ token a_name ∷ token (the_mark equals) ∷ whole ∷ more_parameters ∷ behind in
    takes _ _ _ behind (mark left_parenthesis ∷ text) firsts.header_parameters-hash (takes _ _ _ (token (the_word (codes "parameter")) ∷ body) text (mark_taken left_parenthesis)
    (parameters_run d behind q (token (the_word (codes "parameter"))) [] body (token_word (codes "parameter")) refl))

port_names_run : {ns : List Name} {text : List Token} (m : Mark) (rest : List Token) → AreParted IsName ns text (mark m ∷ rest) → (ss : List Symbol) → Runs (mark m ∷ rest) (more_ports ∷ ss)
    → (s : Symbol) (new ys : List Symbol) → ((n : Name) → IsIdentifier n → behind_token s (word n) ≡ Some new) → new ++ ys ≡ more_ports ∷ ss → Runs text (s ∷ ys)
port_names_run m rest (last_part _ _ _ (grammar.a_name n _ free)) ss q s new ys f same =
    takes _ _ _ ys (mark m ∷ rest) (f n free) (subst (λ (us : List Symbol). Runs (mark m ∷ rest) us) (sym same) q)
port_names_run m rest (and_parts _ xs _ more _ (grammar.a_name n _ free) ds) ss q s new ys f same =
    takes _ _ _ ys (mark comma ∷ more) (f n free) (subst (λ (us : List Symbol). Runs (mark comma ∷ more) us) (sym same)
    (takes _ _ _ ss more firsts.more_ports-comma (port_names_run m rest ds ss q next_port (more_ports ∷ []) ss firsts.next_port-a_name refl)))

header_port_runs : {p : PortDeclaration} {text : List Token} (m : Mark) (rest : List Token) → IsPort p text (mark m ∷ rest) → (ss : List Symbol) → Runs (mark m ∷ rest) (more_ports ∷ ss)
    → (s : Symbol) → ((d : Direction) → behind_token s (word (direction_word d)) ≡ Some (net_kind ∷ sign ∷ range ∷ token a_name ∷ more_ports ∷ [])) → Runs text (s ∷ ss)
header_port_runs m rest (a_port d k s r ns kind sign_text sized names _ dk ds dr dn) ss q x f =
    takes _ _ _ ss kind (f d) (port_body_runs dk ds dr (more_ports ∷ ss) (port_names_run m rest dn ss q (token a_name) [] (more_ports ∷ ss) firsts.token_name refl))

next_port_first : (d : Direction) → behind_token next_port (word (direction_word d)) ≡ Some (net_kind ∷ sign ∷ range ∷ token a_name ∷ more_ports ∷ [])
next_port_first tree.input = firsts.next_port-input
next_port_first tree.output = firsts.next_port-output

first_port_first : (d : Direction) → behind_token first_port (word (direction_word d)) ≡ Some (net_kind ∷ sign ∷ range ∷ token a_name ∷ more_ports ∷ [])
first_port_first tree.input = firsts.first_port-input
first_port_first tree.output = firsts.first_port-output

port_list_runs : {ps : List PortDeclaration} {text rest : List Token} → AreParted IsPort ps text (mark right_parenthesis ∷ rest) → (ss : List Symbol) → Runs rest ss
    → (s : Symbol) → ((d : Direction) → behind_token s (word (direction_word d)) ≡ Some (net_kind ∷ sign ∷ range ∷ token a_name ∷ more_ports ∷ [])) → Runs text (s ∷ ss)
port_list_runs {rest = rest} (last_part p text _ d) ss q s f = header_port_runs right_parenthesis rest d ss (takes _ _ _ ss rest firsts.more_ports-right_parenthesis q) s f
port_list_runs (and_parts p ps text more _ d ds) ss q s f = header_port_runs comma more d ss (takes _ _ _ ss more firsts.more_ports-comma (port_list_runs ds ss q next_port next_port_first)) s f

listed_runs : {ns : List Name} {text rest : List Token} → AreParted IsName ns text (mark right_parenthesis ∷ rest) → (ss : List Symbol) → Runs rest ss → Runs text (first_port ∷ ss)
listed_runs {rest = rest} (last_part _ _ _ (grammar.a_name n _ free)) ss q =
    takes _ _ _ ss (mark right_parenthesis ∷ rest) (firsts.first_port-a_name n free) (takes _ _ _ ss rest firsts.more_listed-right_parenthesis q)
listed_runs (and_parts _ xs _ more _ (grammar.a_name n _ free) ds) ss q =
    takes _ _ _ ss (mark comma ∷ more) (firsts.first_port-a_name n free) (takes _ _ _ ss more firsts.more_listed-comma
    (parted_runs IsName (token a_name ∷ []) more_listed right_parenthesis parenthesis_separates firsts.more_listed-comma firsts.more_listed-right_parenthesis one_name ds ss q))

parenthesis_in_body : (ss : List Symbol) → expected_after (token (the_mark semicolon) ∷ ss) (mark left_parenthesis) ≡ None
unfolding expected_after behind_token rules leads is_optional
parenthesis_in_body ss = refl

header_ports_run : {p : Ports} {text rest : List Token} → ArePorts p text rest → (ss : List Symbol) → Runs rest (token (the_mark semicolon) ∷ ss) → Runs text (header_ports ∷ token (the_mark semicolon) ∷ ss)
header_ports_run (none_listed rest) ss q = no-header_ports (token (the_mark semicolon) ∷ ss) rest (parenthesis_in_body ss) q
header_ports_run (empty_list rest) ss q =
    takes _ _ _ (token (the_mark semicolon) ∷ ss) (mark right_parenthesis ∷ rest) firsts.header_ports-left_parenthesis (takes _ _ _ (token (the_mark semicolon) ∷ ss) rest firsts.first_port-right_parenthesis q)
header_ports_run (names_listed ns text rest d) ss q = takes _ _ _ (token (the_mark semicolon) ∷ ss) text firsts.header_ports-left_parenthesis (listed_runs d (token (the_mark semicolon) ∷ ss) q)
header_ports_run (ports_declared ps text rest d) ss q =
    takes _ _ _ (token (the_mark semicolon) ∷ ss) text firsts.header_ports-left_parenthesis (port_list_runs d (token (the_mark semicolon) ∷ ss) q first_port first_port_first)

-- ---- modules

module_runs : {m : Module} {text rest : List Token} → IsModule m text rest → (ss : List Symbol) → Runs rest (modules ∷ ss) → Runs text (modules ∷ ss)
module_runs (a_module n ps p is parameters ports body rest free dps dp di) ss q =
    takes _ _ _ ss (word n ∷ parameters) firsts.modules-module
    (takes _ _ _ (header_parameters ∷ header_ports ∷ token (the_mark semicolon) ∷ items ∷ modules ∷ ss) parameters (firsts.token_name n free)
    (header_parameters_run dps (items ∷ modules ∷ ss) (header_ports_run dp (items ∷ modules ∷ ss)
    (takes _ _ _ (items ∷ modules ∷ ss) body (mark_taken semicolon) (items_run di (modules ∷ ss) q)))))

pub source_runs : {ms : Source} {text : List Token} → IsSource ms text → Runs text (modules ∷ [])
source_runs (no_more _) = tt
source_runs (one_more m ms text more _ d ds) = module_runs d [] (source_runs ds)
