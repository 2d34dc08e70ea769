-- The grammar as a table: what may stand at each place, told by one token, and what is expected after that token.
use Prim.Native.Char.{code}
use Rattle.std.specs.Prelude.{ℕ, suc, Bool, true, false, cond, not, ◌||◌, ◌==◌, List, [], ◌∷◌, ◌++◌, length, map, codes, Option, Some, None, is_some}
use Rattle.std.specs.Str.{bytes_eq}
use Rattle.wb_values.specs.Value.{Name}
use Rattle.wb_values.specs.ReservedWords.{is_reserved}
use Rattle.verilog_text.specs.Token.{Mark, left_parenthesis, right_parenthesis, left_bracket, right_bracket, left_brace, right_brace, comma, semicolon, colon, dot, hash, at, question, equals, plus_colon, minus_colon, plus, minus, star, double_star, slash, percent, exclamation, tilde, ampersand, tilde_ampersand, bar, tilde_bar, caret, tilde_caret, caret_tilde, double_ampersand, double_bar, less, less_equals, greater, greater_equals, double_less, double_greater, triple_less, triple_greater, double_equals, exclamation_equals, triple_equals, exclamation_double_equals, Token, word, system, decimal, based, mark}
use Rattle.verilog_text.specs.Spelling.{prefix_of, operator_of}

-- what one token may be
pub data Terminal : Type 0 where
  -- an identifier; a number's parts; $signed or $unsigned; an operator before an operand, or between two
  a_name a_decimal a_based a_conversion a_prefix an_operator : Terminal
  the_word : Name → Terminal
  the_mark : Mark → Terminal

abbrev pub number_of_mark : Mark → ℕ
number_of_mark left_parenthesis = 0
number_of_mark right_parenthesis = 1
number_of_mark left_bracket = 2
number_of_mark right_bracket = 3
number_of_mark left_brace = 4
number_of_mark right_brace = 5
number_of_mark comma = 6
number_of_mark semicolon = 7
number_of_mark colon = 8
number_of_mark dot = 9
number_of_mark hash = 10
number_of_mark at = 11
number_of_mark question = 12
number_of_mark equals = 13
number_of_mark plus_colon = 14
number_of_mark minus_colon = 15
number_of_mark plus = 16
number_of_mark minus = 17
number_of_mark star = 18
number_of_mark double_star = 19
number_of_mark slash = 20
number_of_mark percent = 21
number_of_mark exclamation = 22
number_of_mark tilde = 23
number_of_mark ampersand = 24
number_of_mark tilde_ampersand = 25
number_of_mark bar = 26
number_of_mark tilde_bar = 27
number_of_mark caret = 28
number_of_mark tilde_caret = 29
number_of_mark caret_tilde = 30
number_of_mark double_ampersand = 31
number_of_mark double_bar = 32
number_of_mark less = 33
number_of_mark less_equals = 34
number_of_mark greater = 35
number_of_mark greater_equals = 36
number_of_mark double_less = 37
number_of_mark double_greater = 38
number_of_mark triple_less = 39
number_of_mark triple_greater = 40
number_of_mark double_equals = 41
number_of_mark exclamation_equals = 42
number_of_mark triple_equals = 43
number_of_mark exclamation_double_equals = 44

abbrev pub matches : Terminal → Token → Bool
matches a_name (word n) = not (is_reserved n)
matches a_decimal (decimal text) = true
matches a_based (based text) = true
matches a_conversion (system n) = bytes_eq n (codes "$signed") || bytes_eq n (codes "$unsigned")
matches a_prefix (mark m) = is_some (prefix_of m)
matches an_operator (mark m) = is_some (operator_of m)
matches (the_word w) (word n) = bytes_eq n w
matches (the_mark m) (mark f) = number_of_mark f == number_of_mark m
matches _ _ = false

-- What is expected at a place.
pub data Symbol : Type 0 where
  -- one token
  token : Terminal → Symbol
  -- an expression; what an operator has before or after it; what may stand after that; the digits of a number after a decimal
  whole operand operand_rest digits : Symbol
  -- the selects after a name; the second one; what stands after the first expression of a select, up to its bracket
  selects second_select limit : Symbol
  -- what stands after the first expression in braces; after a part in braces
  braces_rest more_parts : Symbol
  target more_targets : Symbol
  -- a statement; after its target; after the statement of an if; after begin; up to end
  statement assignment_rest else_part block_name statements : Symbol
  -- the items of a case: the first one; the others up to endcase, and those after default; after a value of such items
  first_item case_items last_items more_values more_last_values perhaps_colon : Symbol
  -- what declarations may have; after a name, or a name and its value, of each kind of declaration, up to the semicolon
  net_kind sign range perhaps_value : Symbol
  more_names more_settings more_nets more_variables more_assignments : Symbol
  -- of instances: their parameters; what stands after the opening parenthesis; an expression that may be left out; after each entry
  overrides connections entry more_named more_entries more_instances : Symbol
  -- after @; after @(; an event; after an event
  control first_event event more_events : Symbol
  -- up to endmodule
  items : Symbol
  -- of a header: its parameters and ports; after a parameter's value, or a port's name, and after the comma there
  header_parameters more_parameters next_parameter header_ports first_port more_listed more_ports next_port : Symbol
  -- up to the end
  modules : Symbol

-- a token that may come, and what is expected after it
abbrev pub Rule : Type 0
Rule = Terminal × List Symbol

abbrev pub comma_then : List Symbol → Rule
comma_then ss = (the_mark comma, ss)

abbrev closes : Mark → Rule
closes m = (the_mark m, [])

abbrev expects : Mark → Symbol
expects m = token (the_mark m)

abbrev name : Symbol
name = token a_name

-- ( expression )
abbrev in_parentheses : List Symbol → List Symbol
in_parentheses ss = expects left_parenthesis ∷ whole ∷ expects right_parenthesis ∷ ss

-- signed, range, name, up to more
abbrev declared : List Symbol → List Symbol
declared ss = sign ∷ range ∷ name ∷ ss

abbrev declared_value : Symbol → List Symbol → List Symbol
declared_value more ss = declared (expects equals ∷ whole ∷ more ∷ ss)

abbrev declared_port : Symbol → List Symbol → List Symbol
declared_port more ss = net_kind ∷ declared (more ∷ ss)

unfoldable pub rules : Symbol → List Rule
rules (token t) = (t, []) ∷ []
rules whole = []
rules operand =
    (a_name, selects ∷ []) ∷ (a_decimal, digits ∷ []) ∷ (a_based, []) ∷ (a_prefix, operand ∷ [])
    ∷ (the_mark left_parenthesis, whole ∷ expects right_parenthesis ∷ []) ∷ (the_mark left_brace, whole ∷ braces_rest ∷ [])
    ∷ (a_conversion, in_parentheses []) ∷ []
rules operand_rest = (an_operator, operand ∷ operand_rest ∷ []) ∷ (the_mark question, whole ∷ expects colon ∷ whole ∷ []) ∷ []
rules digits = (a_based, []) ∷ []
rules selects = (the_mark left_bracket, whole ∷ limit ∷ second_select ∷ []) ∷ []
rules second_select = (the_mark left_bracket, whole ∷ limit ∷ []) ∷ []
rules limit =
    closes right_bracket ∷ (the_mark colon, whole ∷ expects right_bracket ∷ []) ∷ (the_mark plus_colon, whole ∷ expects right_bracket ∷ [])
    ∷ (the_mark minus_colon, whole ∷ expects right_bracket ∷ []) ∷ []
rules braces_rest =
    (the_mark left_brace, whole ∷ more_parts ∷ expects right_brace ∷ []) ∷ comma_then (whole ∷ more_parts ∷ []) ∷ closes right_brace ∷ []
rules more_parts = comma_then (whole ∷ more_parts ∷ []) ∷ closes right_brace ∷ []
rules target = (a_name, selects ∷ []) ∷ (the_mark left_brace, target ∷ more_targets ∷ []) ∷ []
rules more_targets = comma_then (target ∷ more_targets ∷ []) ∷ closes right_brace ∷ []
rules statement =
    (a_name, selects ∷ assignment_rest ∷ []) ∷ (the_mark left_brace, target ∷ more_targets ∷ assignment_rest ∷ []) ∷ closes semicolon
    ∷ (the_word (codes "if"), in_parentheses (statement ∷ else_part ∷ [])) ∷ (the_word (codes "begin"), block_name ∷ statements ∷ [])
    ∷ (the_word (codes "case"), in_parentheses (first_item ∷ [])) ∷ (the_word (codes "casez"), in_parentheses (first_item ∷ [])) ∷ []
rules assignment_rest = (the_mark equals, whole ∷ expects semicolon ∷ []) ∷ (the_mark less_equals, whole ∷ expects semicolon ∷ []) ∷ []
rules else_part = (the_word (codes "else"), statement ∷ []) ∷ []
rules block_name = (the_mark colon, name ∷ []) ∷ []
rules statements = (the_word (codes "end"), []) ∷ []
rules first_item = (the_word (codes "default"), perhaps_colon ∷ statement ∷ last_items ∷ []) ∷ []
rules case_items = (the_word (codes "default"), perhaps_colon ∷ statement ∷ last_items ∷ []) ∷ (the_word (codes "endcase"), []) ∷ []
rules last_items = (the_word (codes "endcase"), []) ∷ []
rules more_values = comma_then (whole ∷ more_values ∷ []) ∷ (the_mark colon, statement ∷ case_items ∷ []) ∷ []
rules more_last_values = comma_then (whole ∷ more_last_values ∷ []) ∷ (the_mark colon, statement ∷ last_items ∷ []) ∷ []
rules perhaps_colon = closes colon ∷ []
rules net_kind = (the_word (codes "wire"), []) ∷ (the_word (codes "reg"), []) ∷ []
rules sign = (the_word (codes "signed"), []) ∷ []
rules range = (the_mark left_bracket, whole ∷ expects colon ∷ whole ∷ expects right_bracket ∷ []) ∷ []
rules perhaps_value = (the_mark equals, whole ∷ []) ∷ []
rules more_names = comma_then (name ∷ more_names ∷ []) ∷ closes semicolon ∷ []
rules more_settings = comma_then (name ∷ expects equals ∷ whole ∷ more_settings ∷ []) ∷ closes semicolon ∷ []
rules more_nets = comma_then (name ∷ perhaps_value ∷ more_nets ∷ []) ∷ closes semicolon ∷ []
rules more_variables = comma_then (name ∷ range ∷ more_variables ∷ []) ∷ closes semicolon ∷ []
rules more_assignments = comma_then (target ∷ expects equals ∷ whole ∷ more_assignments ∷ []) ∷ closes semicolon ∷ []
rules overrides = (the_mark hash, expects left_parenthesis ∷ connections ∷ []) ∷ []
rules connections =
    (the_mark dot, name ∷ expects left_parenthesis ∷ entry ∷ expects right_parenthesis ∷ more_named ∷ []) ∷ comma_then (entry ∷ more_entries ∷ [])
    ∷ closes right_parenthesis ∷ []
rules entry = []
rules more_named =
    comma_then (expects dot ∷ name ∷ expects left_parenthesis ∷ entry ∷ expects right_parenthesis ∷ more_named ∷ []) ∷ closes right_parenthesis ∷ []
rules more_entries = comma_then (entry ∷ more_entries ∷ []) ∷ closes right_parenthesis ∷ []
rules more_instances = comma_then (name ∷ expects left_parenthesis ∷ connections ∷ more_instances ∷ []) ∷ closes semicolon ∷ []
rules control = closes star ∷ (the_mark left_parenthesis, first_event ∷ []) ∷ []
rules first_event =
    (the_mark star, expects right_parenthesis ∷ []) ∷ (a_name, more_events ∷ []) ∷ (the_word (codes "posedge"), name ∷ more_events ∷ [])
    ∷ (the_word (codes "negedge"), name ∷ more_events ∷ []) ∷ []
rules event = (a_name, []) ∷ (the_word (codes "posedge"), name ∷ []) ∷ (the_word (codes "negedge"), name ∷ []) ∷ []
rules more_events = (the_word (codes "or"), event ∷ more_events ∷ []) ∷ comma_then (event ∷ more_events ∷ []) ∷ closes right_parenthesis ∷ []
rules items =
    (a_name, overrides ∷ name ∷ expects left_parenthesis ∷ connections ∷ more_instances ∷ items ∷ [])
    ∷ (the_word (codes "wire"), declared (perhaps_value ∷ more_nets ∷ items ∷ [])) ∷ (the_word (codes "reg"), declared (range ∷ more_variables ∷ items ∷ []))
    ∷ (the_word (codes "assign"), target ∷ expects equals ∷ whole ∷ more_assignments ∷ items ∷ [])
    ∷ (the_word (codes "always"), expects at ∷ control ∷ statement ∷ items ∷ []) ∷ (the_word (codes "input"), declared_port more_names (items ∷ []))
    ∷ (the_word (codes "output"), declared_port more_names (items ∷ [])) ∷ (the_word (codes "parameter"), declared_value more_settings (items ∷ []))
    ∷ (the_word (codes "localparam"), declared_value more_settings (items ∷ [])) ∷ (the_word (codes "endmodule"), []) ∷ []
rules header_parameters =
    (the_mark hash, expects left_parenthesis ∷ token (the_word (codes "parameter")) ∷ declared_value more_parameters []) ∷ []
rules more_parameters = comma_then (next_parameter ∷ []) ∷ closes right_parenthesis ∷ []
rules next_parameter =
    (a_name, expects equals ∷ whole ∷ more_parameters ∷ []) ∷ (the_word (codes "parameter"), declared_value more_parameters []) ∷ []
rules header_ports = (the_mark left_parenthesis, first_port ∷ []) ∷ []
rules first_port =
    closes right_parenthesis ∷ (a_name, more_listed ∷ []) ∷ (the_word (codes "input"), declared_port more_ports [])
    ∷ (the_word (codes "output"), declared_port more_ports []) ∷ []
rules more_listed = comma_then (name ∷ more_listed ∷ []) ∷ closes right_parenthesis ∷ []
rules more_ports = comma_then (next_port ∷ []) ∷ closes right_parenthesis ∷ []
rules next_port =
    (a_name, more_ports ∷ []) ∷ (the_word (codes "input"), declared_port more_ports []) ∷ (the_word (codes "output"), declared_port more_ports []) ∷ []
rules modules = (the_word (codes "module"), name ∷ header_parameters ∷ header_ports ∷ expects semicolon ∷ items ∷ modules ∷ []) ∷ []

-- What it may begin with besides: another symbol, by its rules, and what is expected after that.
unfoldable pub leads : Symbol → Option (Symbol × List Symbol)
leads whole = Some (operand, operand_rest ∷ [])
leads entry = Some (operand, operand_rest ∷ [])
leads connections = Some (operand, operand_rest ∷ more_entries ∷ [])
leads first_item = Some (operand, operand_rest ∷ more_values ∷ [])
leads case_items = Some (operand, operand_rest ∷ more_values ∷ [])
leads last_items = Some (operand, operand_rest ∷ more_last_values ∷ [])
leads statements = Some (statement, statements ∷ [])
leads _ = None

-- what may be left out
unfoldable pub is_optional : Symbol → Bool
is_optional operand_rest = true
is_optional digits = true
is_optional selects = true
is_optional second_select = true
is_optional else_part = true
is_optional block_name = true
is_optional perhaps_colon = true
is_optional net_kind = true
is_optional sign = true
is_optional range = true
is_optional perhaps_value = true
is_optional overrides = true
is_optional entry = true
is_optional header_parameters = true
is_optional header_ports = true
is_optional modules = true
is_optional _ = false

-- ---- one token more

-- what is expected after a token by the first rule for it
abbrev pub by_rule : List Rule → Token → Option (List Symbol)
by_rule [] t = None
by_rule (r ∷ rs) t = cond (matches r.0 t) (Some r.1) (by_rule rs t)

abbrev pub or_else : Option (List Symbol) → Option (List Symbol) → Option (List Symbol)
or_else (Some ss) other = Some ss
or_else None other = other

-- with more expected after it
abbrev pub and_then : Option (List Symbol) → List Symbol → Option (List Symbol)
and_then (Some ss) more = Some (ss ++ more)
and_then None more = None

abbrev pub led_by : Option (Symbol × List Symbol) → Token → Option (List Symbol)
led_by (Some l) t = and_then (by_rule (rules l.0) t) l.1
led_by None t = None

-- what is expected after a token at which the symbol begins
unfoldable pub behind_token : Symbol → Token → Option (List Symbol)
behind_token s t = or_else (led_by (leads s) t) (by_rule (rules s) t)

-- What is expected after a token where these are expected before it: of what may be left out each symbol is passed that does not
-- begin with the token.
unfoldable pub expected_after : List Symbol → Token → Option (List Symbol)
expected_after [] t = None
expected_after (s ∷ ss) t = or_else (and_then (behind_token s t) ss) (cond (is_optional s) (expected_after ss t) None)

abbrev pub left_behind : (List Symbol → ℕ) → ℕ → Option (List Symbol) → ℕ
left_behind count n (Some ss) = count ss
left_behind count n None = n

-- how many tokens are left at the first one that is not expected
unfoldable pub left_from : List Token → List Symbol → ℕ
left_from [] ss = 0
left_from (t ∷ ts) ss = left_behind (left_from ts) (suc (length ts)) (expected_after ss t)
