-- What is expected after each token at which a symbol begins.
use Rattle.std.proofs.Common.{◌≡◌, ℕ, true, false, List, [], ◌∷◌, Option, Some, None, refl}
use Rattle.std.specs.Prelude.{◌||◌, codes}
use Rattle.std.specs.Str.{bytes_eq}
use Rattle.wb_values.specs.Value.{Name}
use Rattle.wb_values.specs.ReservedWords.{is_reserved}
use Rattle.verilog_text.specs.Token.{Mark, left_parenthesis, right_parenthesis, left_bracket, right_bracket, left_brace, right_brace, comma, semicolon, colon, dot, hash, at, question, equals, plus_colon, minus_colon, plus, minus, star, double_star, slash, percent, exclamation, tilde, ampersand, tilde_ampersand, bar, tilde_bar, caret, tilde_caret, caret_tilde, double_ampersand, double_bar, less, less_equals, greater, greater_equals, double_less, double_greater, triple_less, triple_greater, double_equals, exclamation_equals, triple_equals, exclamation_double_equals, Token, word, system, decimal, based, mark}
use Rattle.verilog_trees.specs.Syntax.{Expression}
use Rattle.verilog_text.specs.Spelling.{IsIdentifier, prefix_of, Operator, operator_of}
use Rattle.v_place.specs.Table.{Symbol, token, whole, operand, operand_rest, digits, selects, second_select, limit, braces_rest, more_parts, target, more_targets, statement, assignment_rest, else_part, block_name, statements, first_item, case_items, last_items, more_values, more_last_values, perhaps_colon, net_kind, sign, range, perhaps_value, more_names, more_settings, more_nets, more_variables, more_assignments, overrides, connections, entry, more_named, more_entries, more_instances, control, first_event, event, more_events, items, header_parameters, more_parameters, next_parameter, header_ports, first_port, more_listed, more_ports, next_port, modules, rules, leads, is_optional, behind_token, Terminal, a_name, a_decimal, a_based, a_conversion, a_prefix, an_operator, the_word, the_mark}

pub token_name : (n : Name) → IsIdentifier n → behind_token (token a_name) (word n) ≡ Some []
unfolding behind_token rules leads
token_name n free = rw free refl

pub operand-a_name : (n : Name) → IsIdentifier n → behind_token operand (word n) ≡ Some (selects ∷ [])
unfolding behind_token rules leads
operand-a_name n free = rw free refl

pub operand-a_decimal : (d : List ℕ) → behind_token operand (decimal d) ≡ Some (digits ∷ [])
unfolding behind_token rules leads
operand-a_decimal d = refl

pub operand-a_based : (d : List ℕ) → behind_token operand (based d) ≡ Some ([])
unfolding behind_token rules leads
operand-a_based d = refl

pub operand-a_prefix : (m : Mark) (f : Expression → Expression) → prefix_of m ≡ Some f → behind_token operand (mark m) ≡ Some (operand ∷ [])
unfolding behind_token rules leads
operand-a_prefix m f e = rw e refl

pub operand-left_parenthesis : behind_token operand (mark left_parenthesis) ≡ Some (whole ∷ token (the_mark right_parenthesis) ∷ [])
unfolding behind_token rules leads
operand-left_parenthesis = refl

pub operand-left_brace : behind_token operand (mark left_brace) ≡ Some (whole ∷ braces_rest ∷ [])
unfolding behind_token rules leads
operand-left_brace = refl

pub operand-a_conversion : (n : Name) → (bytes_eq n (codes "$signed") || bytes_eq n (codes "$unsigned")) ≡ true → behind_token operand (system n) ≡ Some (token (the_mark left_parenthesis) ∷ whole ∷ token (the_mark right_parenthesis) ∷ [])
unfolding behind_token rules leads
operand-a_conversion n c = rw c refl

pub operand_rest-an_operator : (m : Mark) (o : Operator) → operator_of m ≡ Some o → behind_token operand_rest (mark m) ≡ Some (operand ∷ operand_rest ∷ [])
unfolding behind_token rules leads
operand_rest-an_operator m o e = rw e refl

pub operand_rest-question : behind_token operand_rest (mark question) ≡ Some (whole ∷ token (the_mark colon) ∷ whole ∷ [])
unfolding behind_token rules leads
operand_rest-question = refl

pub digits-a_based : (d : List ℕ) → behind_token digits (based d) ≡ Some ([])
unfolding behind_token rules leads
digits-a_based d = refl

pub selects-left_bracket : behind_token selects (mark left_bracket) ≡ Some (whole ∷ limit ∷ second_select ∷ [])
unfolding behind_token rules leads
selects-left_bracket = refl

pub second_select-left_bracket : behind_token second_select (mark left_bracket) ≡ Some (whole ∷ limit ∷ [])
unfolding behind_token rules leads
second_select-left_bracket = refl

pub limit-right_bracket : behind_token limit (mark right_bracket) ≡ Some ([])
unfolding behind_token rules leads
limit-right_bracket = refl

pub limit-colon : behind_token limit (mark colon) ≡ Some (whole ∷ token (the_mark right_bracket) ∷ [])
unfolding behind_token rules leads
limit-colon = refl

pub limit-plus_colon : behind_token limit (mark plus_colon) ≡ Some (whole ∷ token (the_mark right_bracket) ∷ [])
unfolding behind_token rules leads
limit-plus_colon = refl

pub limit-minus_colon : behind_token limit (mark minus_colon) ≡ Some (whole ∷ token (the_mark right_bracket) ∷ [])
unfolding behind_token rules leads
limit-minus_colon = refl

pub braces_rest-left_brace : behind_token braces_rest (mark left_brace) ≡ Some (whole ∷ more_parts ∷ token (the_mark right_brace) ∷ [])
unfolding behind_token rules leads
braces_rest-left_brace = refl

pub braces_rest-comma : behind_token braces_rest (mark comma) ≡ Some (whole ∷ more_parts ∷ [])
unfolding behind_token rules leads
braces_rest-comma = refl

pub braces_rest-right_brace : behind_token braces_rest (mark right_brace) ≡ Some ([])
unfolding behind_token rules leads
braces_rest-right_brace = refl

pub more_parts-comma : behind_token more_parts (mark comma) ≡ Some (whole ∷ more_parts ∷ [])
unfolding behind_token rules leads
more_parts-comma = refl

pub more_parts-right_brace : behind_token more_parts (mark right_brace) ≡ Some ([])
unfolding behind_token rules leads
more_parts-right_brace = refl

pub target-a_name : (n : Name) → IsIdentifier n → behind_token target (word n) ≡ Some (selects ∷ [])
unfolding behind_token rules leads
target-a_name n free = rw free refl

pub target-left_brace : behind_token target (mark left_brace) ≡ Some (target ∷ more_targets ∷ [])
unfolding behind_token rules leads
target-left_brace = refl

pub more_targets-comma : behind_token more_targets (mark comma) ≡ Some (target ∷ more_targets ∷ [])
unfolding behind_token rules leads
more_targets-comma = refl

pub more_targets-right_brace : behind_token more_targets (mark right_brace) ≡ Some ([])
unfolding behind_token rules leads
more_targets-right_brace = refl

pub statement-a_name : (n : Name) → IsIdentifier n → behind_token statement (word n) ≡ Some (selects ∷ assignment_rest ∷ [])
unfolding behind_token rules leads
statement-a_name n free = rw free refl

pub statement-left_brace : behind_token statement (mark left_brace) ≡ Some (target ∷ more_targets ∷ assignment_rest ∷ [])
unfolding behind_token rules leads
statement-left_brace = refl

pub statement-semicolon : behind_token statement (mark semicolon) ≡ Some ([])
unfolding behind_token rules leads
statement-semicolon = refl

pub statement-if : behind_token statement (word (codes "if")) ≡ Some (token (the_mark left_parenthesis) ∷ whole ∷ token (the_mark right_parenthesis) ∷ statement ∷ else_part ∷ [])
unfolding behind_token rules leads is_reserved
statement-if = refl

pub statement-begin : behind_token statement (word (codes "begin")) ≡ Some (block_name ∷ statements ∷ [])
unfolding behind_token rules leads is_reserved
statement-begin = refl

pub statement-case : behind_token statement (word (codes "case")) ≡ Some (token (the_mark left_parenthesis) ∷ whole ∷ token (the_mark right_parenthesis) ∷ first_item ∷ [])
unfolding behind_token rules leads is_reserved
statement-case = refl

pub statement-casez : behind_token statement (word (codes "casez")) ≡ Some (token (the_mark left_parenthesis) ∷ whole ∷ token (the_mark right_parenthesis) ∷ first_item ∷ [])
unfolding behind_token rules leads is_reserved
statement-casez = refl

pub assignment_rest-equals : behind_token assignment_rest (mark equals) ≡ Some (whole ∷ token (the_mark semicolon) ∷ [])
unfolding behind_token rules leads
assignment_rest-equals = refl

pub assignment_rest-less_equals : behind_token assignment_rest (mark less_equals) ≡ Some (whole ∷ token (the_mark semicolon) ∷ [])
unfolding behind_token rules leads
assignment_rest-less_equals = refl

pub else_part-else : behind_token else_part (word (codes "else")) ≡ Some (statement ∷ [])
unfolding behind_token rules leads is_reserved
else_part-else = refl

pub block_name-colon : behind_token block_name (mark colon) ≡ Some (token a_name ∷ [])
unfolding behind_token rules leads
block_name-colon = refl

pub statements-end : behind_token statements (word (codes "end")) ≡ Some ([])
unfolding behind_token rules leads is_reserved
statements-end = refl

pub first_item-default : behind_token first_item (word (codes "default")) ≡ Some (perhaps_colon ∷ statement ∷ last_items ∷ [])
unfolding behind_token rules leads is_reserved
first_item-default = refl

pub case_items-default : behind_token case_items (word (codes "default")) ≡ Some (perhaps_colon ∷ statement ∷ last_items ∷ [])
unfolding behind_token rules leads is_reserved
case_items-default = refl

pub case_items-endcase : behind_token case_items (word (codes "endcase")) ≡ Some ([])
unfolding behind_token rules leads is_reserved
case_items-endcase = refl

pub last_items-endcase : behind_token last_items (word (codes "endcase")) ≡ Some ([])
unfolding behind_token rules leads is_reserved
last_items-endcase = refl

pub more_values-comma : behind_token more_values (mark comma) ≡ Some (whole ∷ more_values ∷ [])
unfolding behind_token rules leads
more_values-comma = refl

pub more_values-colon : behind_token more_values (mark colon) ≡ Some (statement ∷ case_items ∷ [])
unfolding behind_token rules leads
more_values-colon = refl

pub more_last_values-comma : behind_token more_last_values (mark comma) ≡ Some (whole ∷ more_last_values ∷ [])
unfolding behind_token rules leads
more_last_values-comma = refl

pub more_last_values-colon : behind_token more_last_values (mark colon) ≡ Some (statement ∷ last_items ∷ [])
unfolding behind_token rules leads
more_last_values-colon = refl

pub perhaps_colon-colon : behind_token perhaps_colon (mark colon) ≡ Some ([])
unfolding behind_token rules leads
perhaps_colon-colon = refl

pub net_kind-wire : behind_token net_kind (word (codes "wire")) ≡ Some ([])
unfolding behind_token rules leads is_reserved
net_kind-wire = refl

pub net_kind-reg : behind_token net_kind (word (codes "reg")) ≡ Some ([])
unfolding behind_token rules leads is_reserved
net_kind-reg = refl

pub sign-signed : behind_token sign (word (codes "signed")) ≡ Some ([])
unfolding behind_token rules leads is_reserved
sign-signed = refl

pub range-left_bracket : behind_token range (mark left_bracket) ≡ Some (whole ∷ token (the_mark colon) ∷ whole ∷ token (the_mark right_bracket) ∷ [])
unfolding behind_token rules leads
range-left_bracket = refl

pub perhaps_value-equals : behind_token perhaps_value (mark equals) ≡ Some (whole ∷ [])
unfolding behind_token rules leads
perhaps_value-equals = refl

pub more_names-comma : behind_token more_names (mark comma) ≡ Some (token a_name ∷ more_names ∷ [])
unfolding behind_token rules leads
more_names-comma = refl

pub more_names-semicolon : behind_token more_names (mark semicolon) ≡ Some ([])
unfolding behind_token rules leads
more_names-semicolon = refl

pub more_settings-comma : behind_token more_settings (mark comma) ≡ Some (token a_name ∷ token (the_mark equals) ∷ whole ∷ more_settings ∷ [])
unfolding behind_token rules leads
more_settings-comma = refl

pub more_settings-semicolon : behind_token more_settings (mark semicolon) ≡ Some ([])
unfolding behind_token rules leads
more_settings-semicolon = refl

pub more_nets-comma : behind_token more_nets (mark comma) ≡ Some (token a_name ∷ perhaps_value ∷ more_nets ∷ [])
unfolding behind_token rules leads
more_nets-comma = refl

pub more_nets-semicolon : behind_token more_nets (mark semicolon) ≡ Some ([])
unfolding behind_token rules leads
more_nets-semicolon = refl

pub more_variables-comma : behind_token more_variables (mark comma) ≡ Some (token a_name ∷ range ∷ more_variables ∷ [])
unfolding behind_token rules leads
more_variables-comma = refl

pub more_variables-semicolon : behind_token more_variables (mark semicolon) ≡ Some ([])
unfolding behind_token rules leads
more_variables-semicolon = refl

pub more_assignments-comma : behind_token more_assignments (mark comma) ≡ Some (target ∷ token (the_mark equals) ∷ whole ∷ more_assignments ∷ [])
unfolding behind_token rules leads
more_assignments-comma = refl

pub more_assignments-semicolon : behind_token more_assignments (mark semicolon) ≡ Some ([])
unfolding behind_token rules leads
more_assignments-semicolon = refl

pub overrides-hash : behind_token overrides (mark hash) ≡ Some (token (the_mark left_parenthesis) ∷ connections ∷ [])
unfolding behind_token rules leads
overrides-hash = refl

pub connections-dot : behind_token connections (mark dot) ≡ Some (token a_name ∷ token (the_mark left_parenthesis) ∷ entry ∷ token (the_mark right_parenthesis) ∷ more_named ∷ [])
unfolding behind_token rules leads
connections-dot = refl

pub connections-comma : behind_token connections (mark comma) ≡ Some (entry ∷ more_entries ∷ [])
unfolding behind_token rules leads
connections-comma = refl

pub connections-right_parenthesis : behind_token connections (mark right_parenthesis) ≡ Some ([])
unfolding behind_token rules leads
connections-right_parenthesis = refl

pub more_named-comma : behind_token more_named (mark comma) ≡ Some (token (the_mark dot) ∷ token a_name ∷ token (the_mark left_parenthesis) ∷ entry ∷ token (the_mark right_parenthesis) ∷ more_named ∷ [])
unfolding behind_token rules leads
more_named-comma = refl

pub more_named-right_parenthesis : behind_token more_named (mark right_parenthesis) ≡ Some ([])
unfolding behind_token rules leads
more_named-right_parenthesis = refl

pub more_entries-comma : behind_token more_entries (mark comma) ≡ Some (entry ∷ more_entries ∷ [])
unfolding behind_token rules leads
more_entries-comma = refl

pub more_entries-right_parenthesis : behind_token more_entries (mark right_parenthesis) ≡ Some ([])
unfolding behind_token rules leads
more_entries-right_parenthesis = refl

pub more_instances-comma : behind_token more_instances (mark comma) ≡ Some (token a_name ∷ token (the_mark left_parenthesis) ∷ connections ∷ more_instances ∷ [])
unfolding behind_token rules leads
more_instances-comma = refl

pub more_instances-semicolon : behind_token more_instances (mark semicolon) ≡ Some ([])
unfolding behind_token rules leads
more_instances-semicolon = refl

pub control-star : behind_token control (mark star) ≡ Some ([])
unfolding behind_token rules leads
control-star = refl

pub control-left_parenthesis : behind_token control (mark left_parenthesis) ≡ Some (first_event ∷ [])
unfolding behind_token rules leads
control-left_parenthesis = refl

pub first_event-star : behind_token first_event (mark star) ≡ Some (token (the_mark right_parenthesis) ∷ [])
unfolding behind_token rules leads
first_event-star = refl

pub first_event-a_name : (n : Name) → IsIdentifier n → behind_token first_event (word n) ≡ Some (more_events ∷ [])
unfolding behind_token rules leads
first_event-a_name n free = rw free refl

pub first_event-posedge : behind_token first_event (word (codes "posedge")) ≡ Some (token a_name ∷ more_events ∷ [])
unfolding behind_token rules leads is_reserved
first_event-posedge = refl

pub first_event-negedge : behind_token first_event (word (codes "negedge")) ≡ Some (token a_name ∷ more_events ∷ [])
unfolding behind_token rules leads is_reserved
first_event-negedge = refl

pub event-a_name : (n : Name) → IsIdentifier n → behind_token event (word n) ≡ Some ([])
unfolding behind_token rules leads
event-a_name n free = rw free refl

pub event-posedge : behind_token event (word (codes "posedge")) ≡ Some (token a_name ∷ [])
unfolding behind_token rules leads is_reserved
event-posedge = refl

pub event-negedge : behind_token event (word (codes "negedge")) ≡ Some (token a_name ∷ [])
unfolding behind_token rules leads is_reserved
event-negedge = refl

pub more_events-or : behind_token more_events (word (codes "or")) ≡ Some (event ∷ more_events ∷ [])
unfolding behind_token rules leads is_reserved
more_events-or = refl

pub more_events-comma : behind_token more_events (mark comma) ≡ Some (event ∷ more_events ∷ [])
unfolding behind_token rules leads
more_events-comma = refl

pub more_events-right_parenthesis : behind_token more_events (mark right_parenthesis) ≡ Some ([])
unfolding behind_token rules leads
more_events-right_parenthesis = refl

pub items-a_name : (n : Name) → IsIdentifier n → behind_token items (word n) ≡ Some (overrides ∷ token a_name ∷ token (the_mark left_parenthesis) ∷ connections ∷ more_instances ∷ items ∷ [])
unfolding behind_token rules leads
items-a_name n free = rw free refl

pub items-wire : behind_token items (word (codes "wire")) ≡ Some (sign ∷ range ∷ token a_name ∷ perhaps_value ∷ more_nets ∷ items ∷ [])
unfolding behind_token rules leads is_reserved
items-wire = refl

pub items-reg : behind_token items (word (codes "reg")) ≡ Some (sign ∷ range ∷ token a_name ∷ range ∷ more_variables ∷ items ∷ [])
unfolding behind_token rules leads is_reserved
items-reg = refl

pub items-assign : behind_token items (word (codes "assign")) ≡ Some (target ∷ token (the_mark equals) ∷ whole ∷ more_assignments ∷ items ∷ [])
unfolding behind_token rules leads is_reserved
items-assign = refl

pub items-always : behind_token items (word (codes "always")) ≡ Some (token (the_mark at) ∷ control ∷ statement ∷ items ∷ [])
unfolding behind_token rules leads is_reserved
items-always = refl

pub items-input : behind_token items (word (codes "input")) ≡ Some (net_kind ∷ sign ∷ range ∷ token a_name ∷ more_names ∷ items ∷ [])
unfolding behind_token rules leads is_reserved
items-input = refl

pub items-output : behind_token items (word (codes "output")) ≡ Some (net_kind ∷ sign ∷ range ∷ token a_name ∷ more_names ∷ items ∷ [])
unfolding behind_token rules leads is_reserved
items-output = refl

pub items-parameter : behind_token items (word (codes "parameter")) ≡ Some (sign ∷ range ∷ token a_name ∷ token (the_mark equals) ∷ whole ∷ more_settings ∷ items ∷ [])
unfolding behind_token rules leads is_reserved
items-parameter = refl

pub items-localparam : behind_token items (word (codes "localparam")) ≡ Some (sign ∷ range ∷ token a_name ∷ token (the_mark equals) ∷ whole ∷ more_settings ∷ items ∷ [])
unfolding behind_token rules leads is_reserved
items-localparam = refl

pub items-endmodule : behind_token items (word (codes "endmodule")) ≡ Some ([])
unfolding behind_token rules leads is_reserved
items-endmodule = refl

pub header_parameters-hash : behind_token header_parameters (mark hash) ≡ Some (token (the_mark left_parenthesis) ∷ token (the_word (codes "parameter")) ∷ sign ∷ range ∷ token a_name ∷ token (the_mark equals) ∷ whole ∷ more_parameters ∷ [])
unfolding behind_token rules leads
header_parameters-hash = refl

pub more_parameters-comma : behind_token more_parameters (mark comma) ≡ Some (next_parameter ∷ [])
unfolding behind_token rules leads
more_parameters-comma = refl

pub more_parameters-right_parenthesis : behind_token more_parameters (mark right_parenthesis) ≡ Some ([])
unfolding behind_token rules leads
more_parameters-right_parenthesis = refl

pub next_parameter-a_name : (n : Name) → IsIdentifier n → behind_token next_parameter (word n) ≡ Some (token (the_mark equals) ∷ whole ∷ more_parameters ∷ [])
unfolding behind_token rules leads
next_parameter-a_name n free = rw free refl

pub next_parameter-parameter : behind_token next_parameter (word (codes "parameter")) ≡ Some (sign ∷ range ∷ token a_name ∷ token (the_mark equals) ∷ whole ∷ more_parameters ∷ [])
unfolding behind_token rules leads is_reserved
next_parameter-parameter = refl

pub header_ports-left_parenthesis : behind_token header_ports (mark left_parenthesis) ≡ Some (first_port ∷ [])
unfolding behind_token rules leads
header_ports-left_parenthesis = refl

pub first_port-right_parenthesis : behind_token first_port (mark right_parenthesis) ≡ Some ([])
unfolding behind_token rules leads
first_port-right_parenthesis = refl

pub first_port-a_name : (n : Name) → IsIdentifier n → behind_token first_port (word n) ≡ Some (more_listed ∷ [])
unfolding behind_token rules leads
first_port-a_name n free = rw free refl

pub first_port-input : behind_token first_port (word (codes "input")) ≡ Some (net_kind ∷ sign ∷ range ∷ token a_name ∷ more_ports ∷ [])
unfolding behind_token rules leads is_reserved
first_port-input = refl

pub first_port-output : behind_token first_port (word (codes "output")) ≡ Some (net_kind ∷ sign ∷ range ∷ token a_name ∷ more_ports ∷ [])
unfolding behind_token rules leads is_reserved
first_port-output = refl

pub more_listed-comma : behind_token more_listed (mark comma) ≡ Some (token a_name ∷ more_listed ∷ [])
unfolding behind_token rules leads
more_listed-comma = refl

pub more_listed-right_parenthesis : behind_token more_listed (mark right_parenthesis) ≡ Some ([])
unfolding behind_token rules leads
more_listed-right_parenthesis = refl

pub more_ports-comma : behind_token more_ports (mark comma) ≡ Some (next_port ∷ [])
unfolding behind_token rules leads
more_ports-comma = refl

pub more_ports-right_parenthesis : behind_token more_ports (mark right_parenthesis) ≡ Some ([])
unfolding behind_token rules leads
more_ports-right_parenthesis = refl

pub next_port-a_name : (n : Name) → IsIdentifier n → behind_token next_port (word n) ≡ Some (more_ports ∷ [])
unfolding behind_token rules leads
next_port-a_name n free = rw free refl

pub next_port-input : behind_token next_port (word (codes "input")) ≡ Some (net_kind ∷ sign ∷ range ∷ token a_name ∷ more_ports ∷ [])
unfolding behind_token rules leads is_reserved
next_port-input = refl

pub next_port-output : behind_token next_port (word (codes "output")) ≡ Some (net_kind ∷ sign ∷ range ∷ token a_name ∷ more_ports ∷ [])
unfolding behind_token rules leads is_reserved
next_port-output = refl

pub modules-module : behind_token modules (word (codes "module")) ≡ Some (token a_name ∷ header_parameters ∷ header_ports ∷ token (the_mark semicolon) ∷ items ∷ modules ∷ [])
unfolding behind_token rules leads is_reserved
modules-module = refl
