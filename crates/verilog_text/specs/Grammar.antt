-- The grammar of targets, statements, module items and modules: which tokens, in front of those that follow, spell each (IEEE
-- 1364-2005, annex A).
use Prim.Native.Char.{code}
use Rattle.std.specs.Prelude.{◌≡◌, ℕ, suc, ◌≤◌, Bool, true, false, cond, List, [], ◌∷◌, ◌++◌, codes, Option, Some, None, Ok}
use Rattle.wb_values.specs.Value.{Name}
use Rattle.wb_values.specs.ReservedWords.{is_reserved}
use Rattle.verilog_text.specs.Token.{Mark, left_parenthesis, right_parenthesis, left_bracket, right_bracket, left_brace, right_brace, comma, semicolon, colon, dot, hash, at, equals, star, less_equals, Token, word, mark}
use Rattle.verilog_text.specs.Text.{tokens_in}
use Rattle.verilog_trees.specs.Syntax as tree
use Rattle.verilog_trees.specs.Syntax.{Expression, Expressions, Selects, Target, Targets, no_targets, target, CaseKind, exact_case, wild_case, Statement, Statements, no_statements, statement, CaseItems, no_items, arm, default_arm, EdgeKind, Event, Events, any_change, on_events, Range, Direction, NetKind, PortDeclaration, ParameterDeclaration, Connections, by_name, by_order, Item, Ports, no_ports, listed, declared, Module, Source}
use Rattle.verilog_text.specs.Spelling.{IsIdentifier, IsExpression, AreExpressions, AreSelects}

-- ---- lists and what may be left out

-- one or more of a kind, with commas between them
pub data AreParted {A : Type 0} (Is : A → List Token → List Token → Type 0) : List A → (text rest : List Token) → Type 0 where
  last_part : (x : A) (text rest : List Token) → Is x text rest → AreParted Is (x ∷ []) text rest
  and_parts : (x : A) (xs : List A) (text more rest : List Token) → Is x text (mark comma ∷ more) → AreParted Is xs more rest
      → AreParted Is (x ∷ xs) text rest

-- any number of a kind, one behind the other
pub data AreInRow {A : Type 0} (Is : A → List Token → List Token → Type 0) : List A → (text rest : List Token) → Type 0 where
  no_more : (rest : List Token) → AreInRow Is [] rest rest
  one_more : (x : A) (xs : List A) (text more rest : List Token) → Is x text more → AreInRow Is xs more rest → AreInRow Is (x ∷ xs) text rest

-- one of a kind behind a token, or nothing
pub data IsPerhaps {A : Type 0} (t : Token) (Is : A → List Token → List Token → Type 0) : Option A → (text rest : List Token) → Type 0 where
  left_out : (rest : List Token) → IsPerhaps t Is None rest rest
  given : (x : A) (text rest : List Token) → Is x text rest → IsPerhaps t Is (Some x) (t ∷ text) rest

-- a word that says something, or nothing
pub data IsFlag (w : Name) : Bool → (text rest : List Token) → Type 0 where
  absent : (rest : List Token) → IsFlag w false rest rest
  present : (rest : List Token) → IsFlag w true (word w ∷ rest) rest

pub data IsName : Name → (text rest : List Token) → Type 0 where
  a_name : (n : Name) (rest : List Token) → IsIdentifier n → IsName n (word n ∷ rest) rest

-- a whole expression
abbrev pub IsWhole : Expression → (text rest : List Token) → Type 0
IsWhole e text rest = IsExpression 0 e text rest

-- [left:right], behind its bracket
pub data IsRange : Range → (text rest : List Token) → Type 0 where
  bounds : (l r : Expression) (text more rest : List Token) → IsWhole l text (mark colon ∷ more) → IsWhole r more (mark right_bracket ∷ rest)
      → IsRange (record { left = l; right = r }) text rest

abbrev pub IsPerhapsRange : Option Range → (text rest : List Token) → Type 0
IsPerhapsRange r text rest = IsPerhaps (mark left_bracket) IsRange r text rest

-- ---- targets (A.8.5)

mutual
  pub data IsTarget : Target → (text rest : List Token) → Type 0 where
    a_place : (n : Name) (s : Selects) (text rest : List Token) → IsIdentifier n → AreSelects s text rest
        → IsTarget (tree.place n s) (word n ∷ text) rest
    some_joined : (ts : Targets) (text rest : List Token) → AreTargets ts text (mark right_brace ∷ rest)
        → IsTarget (tree.joined ts) (mark left_brace ∷ text) rest

  pub data AreTargets : Targets → (text rest : List Token) → Type 0 where
    last_target : (t : Target) (text rest : List Token) → IsTarget t text rest → AreTargets (target t no_targets) text rest
    and_targets : (t : Target) (ts : Targets) (text more rest : List Token) → IsTarget t text (mark comma ∷ more) → AreTargets ts more rest
        → AreTargets (target t ts) text rest

-- target, sign, value
pub data IsAssignment (sign : Mark) : (Target × Expression) → (text rest : List Token) → Type 0 where
  assigned : (t : Target) (e : Expression) (text value rest : List Token) → IsTarget t text (mark sign ∷ value) → IsWhole e value rest
      → IsAssignment sign (t, e) text rest

-- ---- statements (A.6.4)

-- The last part of the statement is an if without else, which an else behind it would belong to (9.4).
abbrev pub has_open_if : Statement → Bool
has_open_if tree.empty = false
has_open_if (tree.blocking t e) = false
has_open_if (tree.nonblocking t e) = false
has_open_if (tree.if_then c s) = true
has_open_if (tree.if_else c s t) = has_open_if t
has_open_if (tree.case k e items) = false
has_open_if (tree.block n ss) = false

abbrev pub case_word : CaseKind → Name
case_word exact_case = codes "case"
case_word wild_case = codes "casez"

abbrev pub count_defaults : CaseItems → ℕ
count_defaults no_items = 0
count_defaults (arm es s items) = count_defaults items
count_defaults (default_arm s items) = suc (count_defaults items)

-- the name of a block, which means nothing
pub data IsBlockName : Option Name → (text rest : List Token) → Type 0 where
  unnamed : (rest : List Token) → IsBlockName None rest rest
  named : (n : Name) (rest : List Token) → IsIdentifier n → IsBlockName (Some n) (mark colon ∷ word n ∷ rest) rest

-- a colon that may be left out
pub data IsPerhapsColon : (text rest : List Token) → Type 0 where
  with_colon : (rest : List Token) → IsPerhapsColon (mark colon ∷ rest) rest
  without_colon : (rest : List Token) → IsPerhapsColon rest rest

mutual
  pub data IsStatement : Statement → (text rest : List Token) → Type 0 where
    nothing : (rest : List Token) → IsStatement tree.empty (mark semicolon ∷ rest) rest
    blocks : (t : Target) (e : Expression) (text rest : List Token) → IsAssignment equals (t, e) text (mark semicolon ∷ rest)
        → IsStatement (tree.blocking t e) text rest
    waits : (t : Target) (e : Expression) (text rest : List Token) → IsAssignment less_equals (t, e) text (mark semicolon ∷ rest)
        → IsStatement (tree.nonblocking t e) text rest
    -- if (c) s
    tested : (c : Expression) (s : Statement) (text more rest : List Token) → IsWhole c text (mark right_parenthesis ∷ more)
        → IsStatement s more rest → IsStatement (tree.if_then c s) (word (codes "if") ∷ mark left_parenthesis ∷ text) rest
    -- if (c) s else t, where the else belongs to no if inside s
    decided : (c : Expression) (s t : Statement) (text more other rest : List Token) → IsWhole c text (mark right_parenthesis ∷ more)
        → IsStatement s more (word (codes "else") ∷ other) → has_open_if s ≡ false → IsStatement t other rest
        → IsStatement (tree.if_else c s t) (word (codes "if") ∷ mark left_parenthesis ∷ text) rest
    -- case (e) items endcase, with one item at least and one default at most
    selected : (k : CaseKind) (e : Expression) (items : CaseItems) (text more rest : List Token) → IsWhole e text (mark right_parenthesis ∷ more)
        → AreItems items more (word (codes "endcase") ∷ rest) → count_defaults items ≤ 1
        → IsStatement (tree.case k e items) (word (case_word k) ∷ mark left_parenthesis ∷ text) rest
    -- begin statements end
    in_block : (n : Option Name) (ss : Statements) (text more rest : List Token) → IsBlockName n text more
        → AreStatements ss more (word (codes "end") ∷ rest) → IsStatement (tree.block n ss) (word (codes "begin") ∷ text) rest

  pub data AreStatements : Statements → (text rest : List Token) → Type 0 where
    no_statement : (rest : List Token) → AreStatements no_statements rest rest
    and_statements : (s : Statement) (ss : Statements) (text more rest : List Token) → IsStatement s text more → AreStatements ss more rest
        → AreStatements (statement s ss) text rest

  -- one item
  pub data IsItemBefore : CaseItems → CaseItems → (text rest : List Token) → Type 0 where
    -- e, f : s
    for_values : (es : Expressions) (s : Statement) (items : CaseItems) (text more rest : List Token) → AreExpressions es text (mark colon ∷ more)
        → IsStatement s more rest → IsItemBefore items (arm es s items) text rest
    -- default : s
    for_others : (s : Statement) (items : CaseItems) (text more rest : List Token) → IsPerhapsColon text more → IsStatement s more rest
        → IsItemBefore items (default_arm s items) (word (codes "default") ∷ text) rest

  -- one or more
  pub data AreItems : CaseItems → (text rest : List Token) → Type 0 where
    last_item : (items : CaseItems) (text rest : List Token) → IsItemBefore no_items items text rest → AreItems items text rest
    and_items : (items more_items : CaseItems) (text more rest : List Token) → IsItemBefore more_items items text more → AreItems more_items more rest
        → AreItems items text rest

-- ---- declarations (A.2)

abbrev pub direction_word : Direction → Name
direction_word tree.input = codes "input"
direction_word tree.output = codes "output"

pub data IsNetKind : Option NetKind → (text rest : List Token) → Type 0 where
  no_kind : (rest : List Token) → IsNetKind None rest rest
  a_wire : (rest : List Token) → IsNetKind (Some tree.wire) (word (codes "wire") ∷ rest) rest
  a_variable : (rest : List Token) → IsNetKind (Some tree.reg) (word (codes "reg") ∷ rest) rest

-- input or output, perhaps wire or reg, perhaps signed, perhaps a range, names
pub data IsPort : PortDeclaration → (text rest : List Token) → Type 0 where
  a_port : (d : Direction) (k : Option NetKind) (s : Bool) (r : Option Range) (ns : List Name) (kind sign range names rest : List Token)
      → IsNetKind k kind sign → IsFlag (codes "signed") s sign range → IsPerhapsRange r range names → AreParted IsName ns names rest
      → IsPort (record { direction = d; kind = k; signed = s; range = r; names = ns }) (word (direction_word d) ∷ kind) rest

-- name = value
pub data IsSetting : (Name × Expression) → (text rest : List Token) → Type 0 where
  set_to : (n : Name) (e : Expression) (text rest : List Token) → IsIdentifier n → IsWhole e text rest
      → IsSetting (n, e) (word n ∷ mark equals ∷ text) rest

abbrev pub parameter_word : (is_local : Bool) → Name
parameter_word l = cond l (codes "localparam") (codes "parameter")

-- parameter or localparam, perhaps signed, perhaps a range, names with values
pub data IsParameter : ParameterDeclaration → (text rest : List Token) → Type 0 where
  a_parameter : (l s : Bool) (r : Option Range) (vs : List (Name × Expression)) (sign range values rest : List Token)
      → IsFlag (codes "signed") s sign range → IsPerhapsRange r range values → AreParted IsSetting vs values rest
      → IsParameter (record { is_local = l; signed = s; range = r; values = vs }) (word (parameter_word l) ∷ sign) rest

-- a net, perhaps with what it is assigned
pub data IsWire : (Name × Option Expression) → (text rest : List Token) → Type 0 where
  net : (n : Name) (e : Option Expression) (text rest : List Token) → IsIdentifier n → IsPerhaps (mark equals) IsWhole e text rest
      → IsWire (n, e) (word n ∷ text) rest

-- a variable, or with a range behind its name a memory
pub data IsVariable : (Name × Option Range) → (text rest : List Token) → Type 0 where
  variable : (n : Name) (r : Option Range) (text rest : List Token) → IsIdentifier n → IsPerhapsRange r text rest
      → IsVariable (n, r) (word n ∷ text) rest

-- ---- instances (A.4.1)

-- an expression that may be left out
pub data IsEntry : Option Expression → (text rest : List Token) → Type 0 where
  empty_entry : (rest : List Token) → IsEntry None rest rest
  an_entry : (e : Expression) (text rest : List Token) → IsWhole e text rest → IsEntry (Some e) text rest

-- .name(value)
pub data IsNamedEntry : (Name × Option Expression) → (text rest : List Token) → Type 0 where
  under_name : (n : Name) (e : Option Expression) (text rest : List Token) → IsIdentifier n → IsEntry e text (mark right_parenthesis ∷ rest)
      → IsNamedEntry (n, e) (mark dot ∷ word n ∷ mark left_parenthesis ∷ text) rest

-- connections, up to the closing parenthesis, which is passed
pub data AreConnections : Connections → (text rest : List Token) → Type 0 where
  named_entries : (es : List (Name × Option Expression)) (text rest : List Token) → AreParted IsNamedEntry es text (mark right_parenthesis ∷ rest)
      → AreConnections (by_name es) text rest
  entries : (es : List (Option Expression)) (text rest : List Token) → AreParted IsEntry es text (mark right_parenthesis ∷ rest)
      → AreConnections (by_order es) text rest

-- name (connections)
pub data IsInstance : (Name × Connections) → (text rest : List Token) → Type 0 where
  an_instance : (n : Name) (c : Connections) (text rest : List Token) → IsIdentifier n → AreConnections c text rest
      → IsInstance (n, c) (word n ∷ mark left_parenthesis ∷ text) rest

-- #(connections), or nothing, which is no connection
pub data AreOverrides : Connections → (text rest : List Token) → Type 0 where
  no_overrides : (rest : List Token) → AreOverrides (by_order []) rest rest
  overrides : (c : Connections) (text rest : List Token) → AreConnections c text rest
      → AreOverrides c (mark hash ∷ mark left_parenthesis ∷ text) rest

-- ---- module items (A.1.4)

abbrev pub edge_words : EdgeKind → List Token → List Token
edge_words tree.posedge ts = word (codes "posedge") ∷ ts
edge_words tree.negedge ts = word (codes "negedge") ∷ ts
edge_words tree.any_edge ts = ts

pub data IsEvent : Event → (text rest : List Token) → Type 0 where
  an_event : (k : EdgeKind) (n : Name) (rest : List Token) → IsIdentifier n
      → IsEvent (record { edge = k; signal = n }) (edge_words k (word n ∷ rest)) rest

-- one or more events, with `or` or a comma between them, up to the closing parenthesis, which is passed
pub data AreEvents : List Event → (text rest : List Token) → Type 0 where
  last_event : (e : Event) (text rest : List Token) → IsEvent e text (mark right_parenthesis ∷ rest) → AreEvents (e ∷ []) text rest
  or_event : (e : Event) (es : List Event) (text more rest : List Token) → IsEvent e text (word (codes "or") ∷ more) → AreEvents es more rest
      → AreEvents (e ∷ es) text rest
  comma_event : (e : Event) (es : List Event) (text more rest : List Token) → IsEvent e text (mark comma ∷ more) → AreEvents es more rest
      → AreEvents (e ∷ es) text rest

-- behind the @
pub data IsControl : Events → (text rest : List Token) → Type 0 where
  by_star : (rest : List Token) → IsControl any_change (mark star ∷ rest) rest
  by_star_in_parentheses : (rest : List Token) → IsControl any_change (mark left_parenthesis ∷ mark star ∷ mark right_parenthesis ∷ rest) rest
  by_events : (es : List Event) (text rest : List Token) → AreEvents es text rest → IsControl (on_events es) (mark left_parenthesis ∷ text) rest

pub data IsItem : Item → (text rest : List Token) → Type 0 where
  a_port_item : (p : PortDeclaration) (text rest : List Token) → IsPort p text (mark semicolon ∷ rest) → IsItem (tree.port p) text rest
  a_parameter_item : (p : ParameterDeclaration) (text rest : List Token) → IsParameter p text (mark semicolon ∷ rest)
      → IsItem (tree.parameter p) text rest
  some_wires : (s : Bool) (r : Option Range) (ws : List (Name × Option Expression)) (sign range names rest : List Token)
      → IsFlag (codes "signed") s sign range → IsPerhapsRange r range names → AreParted IsWire ws names (mark semicolon ∷ rest)
      → IsItem (tree.wires s r ws) (word (codes "wire") ∷ sign) rest
  some_variables : (s : Bool) (r : Option Range) (vs : List (Name × Option Range)) (sign range names rest : List Token)
      → IsFlag (codes "signed") s sign range → IsPerhapsRange r range names → AreParted IsVariable vs names (mark semicolon ∷ rest)
      → IsItem (tree.variables s r vs) (word (codes "reg") ∷ sign) rest
  some_assignments : (xs : List (Target × Expression)) (text rest : List Token) → AreParted (IsAssignment equals) xs text (mark semicolon ∷ rest)
      → IsItem (tree.assign xs) (word (codes "assign") ∷ text) rest
  a_block : (es : Events) (s : Statement) (text more rest : List Token) → IsControl es text more → IsStatement s more rest
      → IsItem (tree.always es s) (word (codes "always") ∷ mark at ∷ text) rest
  some_instances : (m : Name) (c : Connections) (is : List (Name × Connections)) (text more rest : List Token) → IsIdentifier m
      → AreOverrides c text more → AreParted IsInstance is more (mark semicolon ∷ rest) → IsItem (tree.instances m c is) (word m ∷ text) rest

-- ---- modules (A.1.2)

-- a parameter of the header
pub data IsHeaderParameter : ParameterDeclaration → (text rest : List Token) → Type 0 where
  in_header : (p : ParameterDeclaration) (text rest : List Token) → IsParameter p text rest → p.is_local ≡ false → IsHeaderParameter p text rest

-- #(parameters), or nothing, which is no parameter
pub data AreHeaderParameters : List ParameterDeclaration → (text rest : List Token) → Type 0 where
  no_parameters : (rest : List Token) → AreHeaderParameters [] rest rest
  some_parameters : (ps : List ParameterDeclaration) (text rest : List Token) → AreParted IsHeaderParameter ps text (mark right_parenthesis ∷ rest)
      → AreHeaderParameters ps (mark hash ∷ mark left_parenthesis ∷ text) rest

pub data ArePorts : Ports → (text rest : List Token) → Type 0 where
  none_listed : (rest : List Token) → ArePorts no_ports rest rest
  empty_list : (rest : List Token) → ArePorts (listed []) (mark left_parenthesis ∷ mark right_parenthesis ∷ rest) rest
  names_listed : (ns : List Name) (text rest : List Token) → AreParted IsName ns text (mark right_parenthesis ∷ rest)
      → ArePorts (listed ns) (mark left_parenthesis ∷ text) rest
  ports_declared : (ps : List PortDeclaration) (text rest : List Token) → AreParted IsPort ps text (mark right_parenthesis ∷ rest)
      → ArePorts (declared ps) (mark left_parenthesis ∷ text) rest

pub data IsModule : Module → (text rest : List Token) → Type 0 where
  a_module : (n : Name) (ps : List ParameterDeclaration) (p : Ports) (items : List Item) (parameters ports body rest : List Token) → IsIdentifier n
      → AreHeaderParameters ps parameters ports → ArePorts p ports (mark semicolon ∷ body) → AreInRow IsItem items body (word (codes "endmodule") ∷ rest)
      → IsModule (record { module_name = n; parameters = ps; ports = p; items = items }) (word (codes "module") ∷ word n ∷ parameters) rest

-- The tokens are spelled by the source, all of them.
abbrev pub IsSource : Source → List Token → Type 0
IsSource ms text = AreInRow IsModule ms text []

-- The files have this tree.
pub record IsTreeOf (files : List (List ℕ)) (ms : Source) : Type 0 where
  pub tokens : List Token
  pub are_tokens : tokens_in files ≡ Ok tokens
  pub is_source : IsSource ms tokens

-- ---- expressions of maps

-- Identifiers with dots between them are one name, the path of a net below the top. The first argument is the name that is open.
abbrev pub dotted_from : Option Name → List Token → List Token
dotted_from None [] = []
dotted_from (Some n) [] = word n ∷ []
dotted_from None (word m ∷ rest) = cond (is_reserved m) (word m ∷ dotted_from None rest) (dotted_from (Some m) rest)
dotted_from None (t ∷ rest) = t ∷ dotted_from None rest
dotted_from (Some n) (mark dot ∷ word m ∷ rest) =
    cond (is_reserved m) (word n ∷ mark dot ∷ word m ∷ dotted_from None rest) (dotted_from (Some (n ++ code "." ∷ m)) rest)
dotted_from (Some n) (word m ∷ rest) = word n ∷ cond (is_reserved m) (word m ∷ dotted_from None rest) (dotted_from (Some m) rest)
dotted_from (Some n) (t ∷ rest) = word n ∷ t ∷ dotted_from None rest

abbrev pub with_dotted_names : List Token → List Token
with_dotted_names text = dotted_from None text

-- The tokens, all of them, spell one expression with dotted names.
abbrev pub IsDottedExpression : Expression → List Token → Type 0
IsDottedExpression e text = IsWhole e (with_dotted_names text) []
