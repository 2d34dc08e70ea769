-- What the symbols of the table mean in the grammar.
use Rattle.std.proofs.Common.{◌≡◌, ℕ, ◌≤◌, Bool, true, false, List, [], ◌∷◌, ◌++◌, Option, Some, None, refl, sym, ap, ◌∙◌, subst}
use Rattle.std.specs.Prelude.{codes}
use Rattle.wb_values.specs.Value.{Name}
use Rattle.verilog_text.specs.Token.{Mark, left_parenthesis, right_parenthesis, left_bracket, right_bracket, left_brace, right_brace, comma, semicolon, colon, equals, Token, word, decimal, mark}
use Rattle.verilog_trees.specs.Syntax.{Number, Expression, Expressions, Select, Selects, Target, Targets, Statement, Statements, CaseItems, Event, Events, Range, NetKind, PortDeclaration, ParameterDeclaration, Connections, Item, Ports, Module, Source}
use Rattle.verilog_text.specs.Spelling.{IsNumber, IsExpression, AreExpressions, IsSelect, AreSelects}
use Rattle.verilog_text.specs.Grammar.{AreParted, AreInRow, IsPerhaps, IsFlag, IsName, IsWhole, IsPerhapsRange, IsTarget, AreTargets, IsAssignment, count_defaults, IsBlockName, IsPerhapsColon, IsStatement, AreStatements, AreItems, IsNetKind, IsPort, IsSetting, IsWire, IsVariable, IsEntry, IsNamedEntry, AreConnections, IsInstance, AreOverrides, IsEvent, AreEvents, IsControl, IsItem, IsHeaderParameter, AreHeaderParameters, ArePorts, IsModule}
use Rattle.v_place.specs.Table.{Terminal, Symbol, token, whole, operand, operand_rest, digits, selects, second_select, limit, braces_rest, more_parts, target, more_targets, statement, assignment_rest, else_part, block_name, statements, first_item, case_items, last_items, more_values, more_last_values, perhaps_colon, net_kind, sign, range, perhaps_value, more_names, more_settings, more_nets, more_variables, more_assignments, overrides, connections, entry, more_named, more_entries, more_instances, control, first_event, event, more_events, items, header_parameters, more_parameters, next_parameter, header_ports, first_port, more_listed, more_ports, next_port, modules}
use Rattle.v_place.proofs.Terminals.{IsToken, Before, token_before}

-- ---- what goes on with something

-- the items of a case after one, up to endcase, with so many defaults at most
pub data IsRestOfItems (n : ℕ) : (text rest : List Token) → Type 0 where
  no_item : (rest : List Token) → IsRestOfItems n (word (codes "endcase") ∷ rest) rest
  some_items : (items : CaseItems) (text rest : List Token) → AreItems items text (word (codes "endcase") ∷ rest) → count_defaults items ≤ n → IsRestOfItems n text rest

pub record IsValuesItem (n : ℕ) (text rest : List Token) : Type 0 where
  pub values : Expressions
  pub body : Statement
  pub more : List Token
  pub others : List Token
  pub are_values : AreExpressions values text (mark colon ∷ more)
  pub is_body : IsStatement body more others
  pub are_others : IsRestOfItems n others rest

-- after one of a list, up to its end
abbrev pub MoreOf : {A : Type 0} → (A → List Token → List Token → Type 0) → Mark → (text rest : List Token) → Type 0
MoreOf {A} Is m text rest = (x : A) (before : List Token) → Is x before text → (xs : List A) × AreParted Is xs before (mark m ∷ rest)

-- after a parameter of the header
pub data IsParametersRest : (text rest : List Token) → Type 0 where
  no_parameter : (rest : List Token) → IsParametersRest (mark right_parenthesis ∷ rest) rest
  another_parameter : (ps : List ParameterDeclaration) (text rest : List Token) → AreParted IsHeaderParameter ps text (mark right_parenthesis ∷ rest)
      → IsParametersRest (mark comma ∷ text) rest

pub record AreSettingsThen (text rest : List Token) : Type 0 where
  pub values : List (Name × Expression)
  pub more : List Token
  pub are_values : AreParted IsSetting values text more
  pub are_others : IsParametersRest more rest

-- after a port of the header
pub data IsPortsRest : (text rest : List Token) → Type 0 where
  no_port : (rest : List Token) → IsPortsRest (mark right_parenthesis ∷ rest) rest
  another_port : (ps : List PortDeclaration) (text rest : List Token) → AreParted IsPort ps text (mark right_parenthesis ∷ rest)
      → IsPortsRest (mark comma ∷ text) rest

pub record AreNamesThen (text rest : List Token) : Type 0 where
  pub names : List Name
  pub more : List Token
  pub are_names : AreParted IsName names text more
  pub are_others : IsPortsRest more rest

-- ---- what each symbol means: it is a part of the grammar, or it goes on with one that stands before it

abbrev pub Means : Symbol → (text rest : List Token) → Type 0
Means (token x) text rest = ⊥
Means whole text rest = (e : Expression) × IsWhole e text rest
Means operand text rest = (e : Expression) × IsExpression 12 e text rest
Means operand_rest text rest = (e : Expression) (before : List Token) → IsExpression 1 e before text → (f : Expression) × IsWhole f before rest
Means digits text rest = (d : List ℕ) → (n : Number) × IsNumber n (decimal d ∷ text) rest
Means selects text rest = (s : Selects) × AreSelects s text rest
Means second_select text rest = (s : Select) (before : List Token) → IsSelect s before text → (ss : Selects) × AreSelects ss before rest
Means limit text rest = (e : Expression) (before : List Token) → IsWhole e before text → (s : Select) × IsSelect s (mark left_bracket ∷ before) rest
Means braces_rest text rest = (e : Expression) (before : List Token) → IsWhole e before text → (f : Expression) × IsExpression 13 f (mark left_brace ∷ before) rest
Means more_parts text rest = (e : Expression) (before : List Token) → IsWhole e before text → (es : Expressions) × AreExpressions es before (mark right_brace ∷ rest)
Means target text rest = (t : Target) × IsTarget t text rest
Means more_targets text rest = (t : Target) (before : List Token) → IsTarget t before text → (ts : Targets) × AreTargets ts before (mark right_brace ∷ rest)
Means statement text rest = (s : Statement) × IsStatement s text rest
Means assignment_rest text rest = (t : Target) (before : List Token) → IsTarget t before text → (s : Statement) × IsStatement s before rest
Means else_part text rest =
    (c : Expression) (s : Statement) (before more : List Token) → IsWhole c before (mark right_parenthesis ∷ more) → IsStatement s more text
    → (u : Statement) × IsStatement u (word (codes "if") ∷ mark left_parenthesis ∷ before) rest
Means block_name text rest = (n : Option Name) × IsBlockName n text rest
Means statements text rest = (ss : Statements) × AreStatements ss text (word (codes "end") ∷ rest)
Means first_item text rest = (items : CaseItems) × AreItems items text (word (codes "endcase") ∷ rest) × (count_defaults items ≤ 1)
Means case_items text rest = IsRestOfItems 1 text rest
Means last_items text rest = IsRestOfItems 0 text rest
Means more_values text rest = (e : Expression) (before : List Token) → IsWhole e before text → IsValuesItem 1 before rest
Means more_last_values text rest = (e : Expression) (before : List Token) → IsWhole e before text → IsValuesItem 0 before rest
Means perhaps_colon text rest = IsPerhapsColon text rest
Means net_kind text rest = (k : Option NetKind) × IsNetKind k text rest
Means sign text rest = (s : Bool) × IsFlag (codes "signed") s text rest
Means range text rest = (r : Option Range) × IsPerhapsRange r text rest
Means perhaps_value text rest = (e : Option Expression) × IsPerhaps (mark equals) IsWhole e text rest
Means more_names text rest = MoreOf IsName semicolon text rest
Means more_settings text rest = MoreOf IsSetting semicolon text rest
Means more_nets text rest = MoreOf IsWire semicolon text rest
Means more_variables text rest = MoreOf IsVariable semicolon text rest
Means more_assignments text rest = MoreOf (IsAssignment equals) semicolon text rest
Means overrides text rest = (c : Connections) × AreOverrides c text rest
Means connections text rest = (c : Connections) × AreConnections c text rest
Means entry text rest = (e : Option Expression) × IsEntry e text rest
Means more_named text rest = MoreOf IsNamedEntry right_parenthesis text rest
Means more_entries text rest = MoreOf IsEntry right_parenthesis text rest
Means more_instances text rest = MoreOf IsInstance semicolon text rest
Means control text rest = (es : Events) × IsControl es text rest
Means first_event text rest = (es : Events) × IsControl es (mark left_parenthesis ∷ text) rest
Means event text rest = (e : Event) × IsEvent e text rest
Means more_events text rest = (e : Event) (before : List Token) → IsEvent e before text → (es : List Event) × AreEvents es before rest
Means items text rest = (is : List Item) × AreInRow IsItem is text (word (codes "endmodule") ∷ rest)
Means header_parameters text rest = (ps : List ParameterDeclaration) × AreHeaderParameters ps text rest
Means more_parameters text rest = (x : Name × Expression) (before : List Token) → IsSetting x before text → AreSettingsThen before rest
Means next_parameter text rest = (x : Name × Expression) (before : List Token) → IsSetting x before (mark comma ∷ text) → AreSettingsThen before rest
Means header_ports text rest = (p : Ports) × ArePorts p text rest
Means first_port text rest = (p : Ports) × ArePorts p (mark left_parenthesis ∷ text) rest
Means more_listed text rest = MoreOf IsName right_parenthesis text rest
Means more_ports text rest = (n : Name) (before : List Token) → IsName n before text → AreNamesThen before rest
Means next_port text rest = (n : Name) (before : List Token) → IsName n before (mark comma ∷ text) → AreNamesThen before rest
Means modules text rest = (ms : Source) × AreInRow IsModule ms text rest

-- ---- some symbols in a row

abbrev pub as_terminal : Symbol → Option Terminal
as_terminal (token x) = Some x
as_terminal _ = None

abbrev pub AtBy : Option Terminal → Symbol → (text rest : List Token) → Type 0
AtBy (Some x) s text rest = IsToken x text rest
AtBy None s text rest = Means s text rest

-- The text up to the rest is of that symbol.
abbrev pub At : Symbol → (text rest : List Token) → Type 0
At s text rest = AtBy (as_terminal s) s text rest

abbrev pub Spells : List Symbol → (text rest : List Token) → Type 0
Spells [] text rest = text ≡ rest
Spells (s ∷ ss) text rest = (mid : List Token) × At s text mid × Spells ss mid rest

abbrev pub AheadBy : Option Terminal → Symbol → List Token → (List Token → Type 0) → Type 0
AheadBy (Some x) s mid P = Before x mid P
AheadBy None s mid P = (text : List Token) → Means s text mid → P text

-- Each text of these symbols up to the rest has it.
abbrev pub Under : List Symbol → List Token → (List Token → Type 0) → Type 0
Under [] rest P = P rest
Under (s ∷ ss) rest P = Under ss rest (λ mid. AheadBy (as_terminal s) s mid P)

ahead : (o : Option Terminal) (s : Symbol) (mid : List Token) (P : List Token → Type 0) → AheadBy o s mid P → (text : List Token) → AtBy o s text mid → P text
ahead (Some x) s mid P h text a = token_before x mid P h text a
ahead None s mid P h text a = h text a

pub under : (ss : List Symbol) (rest : List Token) (P : List Token → Type 0) → Under ss rest P → (text : List Token) → Spells ss text rest → P text
under [] rest P h text e = subst P (sym e) h
under (s ∷ ss) rest P h text (mid, a, b) =
    ahead (as_terminal s) s mid P (under ss rest (λ (m : List Token). AheadBy (as_terminal s) s m P) h mid b) text a

pub parted_text : (ss more : List Symbol) (text rest : List Token) → Spells (ss ++ more) text rest → (mid : List Token) × Spells ss text mid × Spells more mid rest
parted_text [] more text rest h = (text, refl, h)
parted_text (s ∷ ss) more text rest (mid, a, b) = let p = parted_text ss more mid rest b in (p.0, (mid, a, p.1), p.2)
