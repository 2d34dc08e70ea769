-- The printed tokens of each part of a source, opened only where a proof asks for it. `c` says whether the word default has its colon
-- behind it.
use Rattle.std.specs.Prelude.{Bool, true, false, cond, List, [], ◌∷◌, Option, codes}
use Rattle.wb_values.specs.Value.{Name}
use Rattle.verilog_text.specs.Token.{Mark, left_parenthesis, right_parenthesis, colon, Token, word, mark}
use Rattle.verilog_trees.specs.Syntax as tree
use Rattle.verilog_trees.specs.Syntax.{Expression, Range, Connections, PortDeclaration, ParameterDeclaration, Item, Ports, Module, Source}
use Rattle.v_syntax.specs.declared.tree.Arm.{Arm}
use Rattle.v_syntax.specs.declared.tree.CaseItem.{CaseItem, Values, Default}
use Rattle.v_syntax.specs.declared.tree.Statement.{Statement}
use Rattle.v_syntax.specs.Tree.{tree_of, statement_of, expressions_of}
use Rattle.v_print.specs.Spelled.{bare, bare_parts}
use Rattle.v_print.specs.Bodies.{bare_target, bare_targets, assignment_before, colon_if, bare_statement, range_before, value_before, setting_before, wire_before, variable_before, port_before, parameter_before, entry_before, named_before, connections_before, overrides_before, instance_before, continuous_before, item_before, header_before, ports_before, module_before, source_before}

-- ---- targets and statements

unfoldable pub printed_target : tree.Target → List Token → List Token
printed_target t r = bare_target t r

unfoldable pub printed_targets : Bool → tree.Targets → List Token → List Token
printed_targets b ts r = bare_targets b ts r

unfoldable pub printed_assignment : Mark → tree.Target → Expression → List Token → List Token
printed_assignment m t e r = assignment_before m t e r

unfoldable pub printed_statement : Bool → tree.Statement → List Token → List Token
printed_statement c s r = bare_statement c s r

abbrev pub else_if : Bool → List Token → List Token
else_if b r = cond b (word (codes "else") ∷ r) r

-- a condition with its statement, in front of its else
abbrev pub arm_front : Bool → Arm → List Token → List Token
arm_front c a r = word (codes "if") ∷ mark left_parenthesis ∷ bare (tree_of a.condition) (mark right_parenthesis ∷ bare_statement c (statement_of a.statement) r)

abbrev pub arms_front : Bool → Bool → List Arm → List Token → List Token
arms_front c b [] r = r
arms_front c b (a ∷ arms) r = else_if b (arm_front c a (arms_front c true arms r))

abbrev pub case_item_front : Bool → CaseItem → List Token → List Token
case_item_front c (Values es s) r = bare_parts false (expressions_of es.items) (mark colon ∷ bare_statement c (statement_of s) r)
case_item_front c (Default s) r = word (codes "default") ∷ colon_if c (bare_statement c (statement_of s) r)

abbrev pub case_items_front : Bool → List CaseItem → List Token → List Token
case_items_front c [] r = r
case_items_front c (i ∷ items) r = case_item_front c i (case_items_front c items r)

abbrev pub statements_front : Bool → List Statement → List Token → List Token
statements_front c [] r = r
statements_front c (s ∷ ss) r = bare_statement c (statement_of s) (statements_front c ss r)

unfoldable pub printed_arm : Bool → Arm → List Token → List Token
printed_arm c a r = arm_front c a r

unfoldable pub printed_arms : Bool → Bool → List Arm → List Token → List Token
printed_arms c b arms r = arms_front c b arms r

unfoldable pub printed_case_item : Bool → CaseItem → List Token → List Token
printed_case_item c i r = case_item_front c i r

unfoldable pub printed_case_items : Bool → List CaseItem → List Token → List Token
printed_case_items c items r = case_items_front c items r

unfoldable pub printed_statements : Bool → List Statement → List Token → List Token
printed_statements c ss r = statements_front c ss r

-- ---- declarations

unfoldable pub printed_range : Option Range → List Token → List Token
printed_range g r = range_before g r

unfoldable pub printed_value : Option Expression → List Token → List Token
printed_value e r = value_before e r

unfoldable pub printed_setting : (Name × Expression) → List Token → List Token
printed_setting v r = setting_before v r

unfoldable pub printed_wire : (Name × Option Expression) → List Token → List Token
printed_wire w r = wire_before w r

unfoldable pub printed_variable : (Name × Option Range) → List Token → List Token
printed_variable v r = variable_before v r

unfoldable pub printed_port : PortDeclaration → List Token → List Token
printed_port p r = port_before p r

unfoldable pub printed_parameter : ParameterDeclaration → List Token → List Token
printed_parameter p r = parameter_before p r

-- ---- instances

unfoldable pub printed_entry : Option Expression → List Token → List Token
printed_entry e r = entry_before e r

unfoldable pub printed_named : (Name × Option Expression) → List Token → List Token
printed_named c r = named_before c r

unfoldable pub printed_connections : Connections → List Token → List Token
printed_connections c r = connections_before c r

unfoldable pub printed_overrides : Connections → List Token → List Token
printed_overrides c r = overrides_before c r

unfoldable pub printed_instance : (Name × Connections) → List Token → List Token
printed_instance i r = instance_before i r

-- ---- items and modules

unfoldable pub printed_continuous : (tree.Target × Expression) → List Token → List Token
printed_continuous a r = continuous_before a r

unfoldable pub printed_item : Bool → Item → List Token → List Token
printed_item c i r = item_before c i r

unfoldable pub printed_header : List ParameterDeclaration → List Token → List Token
printed_header ps r = header_before ps r

unfoldable pub printed_ports : Ports → List Token → List Token
printed_ports p r = ports_before p r

unfoldable pub printed_module : Bool → Module → List Token → List Token
printed_module c m r = module_before c m r

unfoldable pub printed_modules : Bool → Source → List Token → List Token
printed_modules c ms r = source_before c ms r
