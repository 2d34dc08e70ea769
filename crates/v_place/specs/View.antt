-- What the code's table and its stack stand for.
use Prim.Native.Char.{code}
use Rattle.std.specs.Prelude.{List, [], ◌∷◌, ◌++◌, map, reverse, codes, Option, Some, None}
use Rattle.std.specs.Borrow.{Bor}
use Rattle.verilog_text.specs.Token as pure
use Rattle.v_token.specs.View.{mark_of}
use Rattle.v_place.specs.Table as table
use Rattle.v_place.specs.declared.symbols.Terminal.{Terminal}
use Rattle.v_place.specs.declared.symbols.Terminal.TheVariants as terminals
use Rattle.v_place.specs.declared.symbols.Symbol.{Symbol}
use Rattle.v_place.specs.declared.symbols.Symbol.TheVariants as symbols

abbrev pub terminal_of : Terminal → table.Terminal
terminal_of terminals.AName = table.a_name
terminal_of terminals.ADecimal = table.a_decimal
terminal_of terminals.ABased = table.a_based
terminal_of terminals.AConversion = table.a_conversion
terminal_of terminals.APrefix = table.a_prefix
terminal_of terminals.AnOperator = table.an_operator
terminal_of (terminals.TheWord w) = table.the_word w.now
terminal_of (terminals.TheMark m) = table.the_mark (mark_of m)

abbrev pub symbol_of : Symbol → table.Symbol
symbol_of symbols.Name = table.token table.a_name
symbol_of symbols.ParameterWord = table.token (table.the_word (codes "parameter"))
symbol_of symbols.LeftParenthesis = table.token (table.the_mark pure.left_parenthesis)
symbol_of symbols.RightParenthesis = table.token (table.the_mark pure.right_parenthesis)
symbol_of symbols.RightBracket = table.token (table.the_mark pure.right_bracket)
symbol_of symbols.RightBrace = table.token (table.the_mark pure.right_brace)
symbol_of symbols.Colon = table.token (table.the_mark pure.colon)
symbol_of symbols.Semicolon = table.token (table.the_mark pure.semicolon)
symbol_of symbols.Equals = table.token (table.the_mark pure.equals)
symbol_of symbols.Dot = table.token (table.the_mark pure.dot)
symbol_of symbols.At = table.token (table.the_mark pure.at)
symbol_of symbols.Whole = table.whole
symbol_of symbols.Operand = table.operand
symbol_of symbols.OperandRest = table.operand_rest
symbol_of symbols.Digits = table.digits
symbol_of symbols.Selects = table.selects
symbol_of symbols.SecondSelect = table.second_select
symbol_of symbols.Limit = table.limit
symbol_of symbols.BracesRest = table.braces_rest
symbol_of symbols.MoreParts = table.more_parts
symbol_of symbols.Target = table.target
symbol_of symbols.MoreTargets = table.more_targets
symbol_of symbols.Statement = table.statement
symbol_of symbols.AssignmentRest = table.assignment_rest
symbol_of symbols.ElsePart = table.else_part
symbol_of symbols.BlockName = table.block_name
symbol_of symbols.Statements = table.statements
symbol_of symbols.FirstItem = table.first_item
symbol_of symbols.CaseItems = table.case_items
symbol_of symbols.LastItems = table.last_items
symbol_of symbols.MoreValues = table.more_values
symbol_of symbols.MoreLastValues = table.more_last_values
symbol_of symbols.PerhapsColon = table.perhaps_colon
symbol_of symbols.NetKind = table.net_kind
symbol_of symbols.Sign = table.sign
symbol_of symbols.Range = table.range
symbol_of symbols.PerhapsValue = table.perhaps_value
symbol_of symbols.MoreNames = table.more_names
symbol_of symbols.MoreSettings = table.more_settings
symbol_of symbols.MoreNets = table.more_nets
symbol_of symbols.MoreVariables = table.more_variables
symbol_of symbols.MoreAssignments = table.more_assignments
symbol_of symbols.Overrides = table.overrides
symbol_of symbols.Connections = table.connections
symbol_of symbols.Entry = table.entry
symbol_of symbols.MoreNamed = table.more_named
symbol_of symbols.MoreEntries = table.more_entries
symbol_of symbols.MoreInstances = table.more_instances
symbol_of symbols.Control = table.control
symbol_of symbols.FirstEvent = table.first_event
symbol_of symbols.Event = table.event
symbol_of symbols.MoreEvents = table.more_events
symbol_of symbols.Items = table.items
symbol_of symbols.HeaderParameters = table.header_parameters
symbol_of symbols.MoreParameters = table.more_parameters
symbol_of symbols.NextParameter = table.next_parameter
symbol_of symbols.HeaderPorts = table.header_ports
symbol_of symbols.FirstPort = table.first_port
symbol_of symbols.MoreListed = table.more_listed
symbol_of symbols.MorePorts = table.more_ports
symbol_of symbols.NextPort = table.next_port
symbol_of symbols.Modules = table.modules

abbrev pub symbols_of : List Symbol → List table.Symbol
symbols_of ss = map symbol_of ss

abbrev pub rule_of : Terminal × Bor (List Symbol) → table.Rule
rule_of r = (terminal_of r.0, symbols_of r.1.now)

abbrev pub lead_of : Symbol × Bor (List Symbol) → table.Symbol × List table.Symbol
lead_of l = (symbol_of l.0, symbols_of l.1.now)

-- what is expected after a token: first these, then those
abbrev pub after_of : Bor (List Symbol) × Bor (List Symbol) → List table.Symbol
after_of a = symbols_of a.0.now ++ symbols_of a.1.now

-- The stack has what is expected first on top, which is the last of its list.
abbrev pub expected_of : List Symbol → List table.Symbol
expected_of ss = reverse (symbols_of ss)

abbrev pub first_in : {A : Type 0} → List A → Option A
first_in [] = None
first_in (x ∷ xs) = Some x

abbrev pub without_first : {A : Type 0} → List A → List A
without_first [] = []
without_first (x ∷ xs) = xs
