-- Items, modules and sources: what is spelled so is read.
use Rattle.std.proofs.Common.{◌≡◌, Bool, true, false, List, [], ◌∷◌, Option, Some, None, refl, sym, ◌∙◌}
use Rattle.std.specs.Prelude.{codes, ◌↔◌}
use Rattle.std.proofs.lemmas.Bool.{false≢true}
use Rattle.wb_values.specs.Value.{Name}
use Rattle.wb_values.specs.ReservedWords.{is_reserved}
use Rattle.verilog_text.specs.Token.{left_parenthesis, right_parenthesis, comma, semicolon, hash, at, Token, word, mark}
use Rattle.verilog_trees.specs.Syntax as tree
use Rattle.verilog_trees.specs.Syntax.{Expression, Direction, Range, PortDeclaration, ParameterDeclaration, Item, Ports, Module, Source}
use Rattle.verilog_text.specs.Spelling.{IsIdentifier}
use Rattle.verilog_text.specs.Grammar.{AreParted, AreInRow, IsFlag, IsPerhapsRange, IsName, IsPort, a_port, direction_word, IsSetting, IsParameter, a_parameter, parameter_word, IsInstance, IsItem, a_port_item, a_parameter_item, some_wires, some_variables, some_assignments, a_block, some_instances, IsWire, IsVariable, IsHeaderParameter, in_header, AreHeaderParameters, no_parameters, some_parameters, ArePorts, none_listed, empty_list, names_listed, ports_declared, IsModule, a_module, IsSource}
use Rattle.v_expr.specs.Reading.{after_mark}
use Rattle.v_expr.specs.Ending.{Ends}
use Rattle.v_expr.proofs.Repeat.{some, some_is}
use Rattle.v_expr.proofs.Places.{mark_again, other_mark}
use Rattle.v_body.specs.Words.{after_word}
use Rattle.v_body.proofs.Words.{word_again, name_again, no_mark_at_word, else_reserved}
use Rattle.v_body.proofs.StatementsAgain.{statement_again}
use Rattle.v_parse.specs.Lists.{at_end, before_name}
use Rattle.v_parse.specs.Reading.{direction_at, parameter_word_at, port_item_at, parameter_item_at, wires_item_at, variables_item_at, assign_item_at, always_item_at, instances_item_at, declared_item_at, item_at, port_at, header_parameter_at, parameter_list_at, some_parameters_at, header_parameters_at, port_list_at, declared_ports_at, listed_ports_at, some_ports_at, ports_at, items_at, module_at, modules_at, source_at}
use Rattle.v_parse.proofs.Words.{other_word}
use Rattle.v_parse.proofs.Lists.{keeps, first_part, row_again}
use Rattle.v_parse.proofs.Spelled.{port_keeps}
use Rattle.v_parse.proofs.SpelledItems.{header_parameter_read, item_read, module_read, source_spelled}
use Rattle.v_parse.proofs.Begins.{wire_reserved, reg_reserved, input_reserved, output_reserved, parameter_reserved, localparam_reserved, assign_reserved, always_reserved, endmodule_reserved, BeginsWithName, named_front, name_begins, wire_begins, variable_begins, instance_begins, begins_no_mark, before_word, before_mark, direction_reserved, ports_no_hash}
use Rattle.v_parse.proofs.Again.{commas_again, direction_again, names_again, signed_again, range_before_name, declared_port_again, port_again, parameter_word_again, declared_parameter_again, wires_again, variables_again, assignments_again, instances_again, overrides_again, control_again}

-- ---- items

no_direction : (n : Name) (rest : List Token) → IsIdentifier n → direction_at (word n ∷ rest) ≡ None
unfolding direction_at
no_direction n rest named = rw (other_word (codes "input") n rest named input_reserved, other_word (codes "output") n rest named output_reserved) refl

no_parameter_word : (n : Name) (rest : List Token) → IsIdentifier n → parameter_word_at (word n ∷ rest) ≡ None
unfolding parameter_word_at
no_parameter_word n rest named = rw (other_word (codes "localparam") n rest named localparam_reserved, other_word (codes "parameter") n rest named parameter_reserved) refl

parameter_no_direction : (l : Bool) (rest : List Token) → direction_at (word (parameter_word l) ∷ rest) ≡ None
unfolding direction_at after_word
parameter_no_direction true rest = refl
parameter_no_direction false rest = refl

direction_declares : (d : Direction) (rest : List Token) → item_at (word (direction_word d) ∷ rest) ≡ port_item_at d rest
unfolding item_at declared_item_at after_word
direction_declares tree.input rest = rw (direction_again tree.input rest) refl
direction_declares tree.output rest = rw (direction_again tree.output rest) refl

parameter_declares : (l : Bool) (rest : List Token) → item_at (word (parameter_word l) ∷ rest) ≡ parameter_item_at l rest
unfolding item_at declared_item_at after_word
parameter_declares true rest = rw (parameter_no_direction true rest, parameter_word_again true rest) refl
parameter_declares false rest = rw (parameter_no_direction false rest, parameter_word_again false rest) refl

name_declares : (n : Name) (rest : List Token) → IsIdentifier n → item_at (word n ∷ rest) ≡ instances_item_at (word n ∷ rest)
unfolding item_at declared_item_at
name_declares n rest named =
    rw (
      other_word (codes "wire") n rest named wire_reserved,
      other_word (codes "reg") n rest named reg_reserved,
      other_word (codes "assign") n rest named assign_reserved,
      other_word (codes "always") n rest named always_reserved,
      no_direction n rest named,
      no_parameter_word n rest named,
    ) refl

port_item_again : (p : PortDeclaration) (text rest : List Token) → IsPort p text (mark semicolon ∷ rest) → item_at text ≡ Some (tree.port p, rest)
unfolding port_item_at
port_item_again p text rest d = by p text (mark semicolon ∷ rest) d (before_mark semicolon rest refl) rest (mark_again semicolon rest)
  where
    by : (p : PortDeclaration) (text behind : List Token) → IsPort p text behind → before_name behind ≡ None → (rest : List Token) → after_mark semicolon behind ≡ Some rest → item_at text ≡ Some (tree.port p, rest)
    by _ _ _ (a_port d k s r ns kind sign range names behind dk ds dr dn) ends rest over =
        let now : port_item_at d kind ≡ Some (tree.port (record { direction = d; kind = k; signed = s; range = r; names = ns }), rest) = rw (declared_port_again d k s r ns kind sign range names behind dk ds dr dn ends, over) refl in
        direction_declares d kind ∙ now

parameter_item_again : (p : ParameterDeclaration) (text rest : List Token) → IsParameter p text (mark semicolon ∷ rest) → item_at text ≡ Some (tree.parameter p, rest)
unfolding parameter_item_at
parameter_item_again p text rest d = by p text (mark semicolon ∷ rest) d (tt, refl, λ _. refl) (before_mark semicolon rest refl) rest (mark_again semicolon rest)
  where
    by : (p : ParameterDeclaration) (text behind : List Token) → IsParameter p text behind → Ends 0 behind → before_name behind ≡ None → (rest : List Token) → after_mark semicolon behind ≡ Some rest → item_at text ≡ Some (tree.parameter p, rest)
    by _ _ _ (a_parameter l s r vs sign range values behind ds dr dv) fits ends rest over =
        let now : parameter_item_at l sign ≡ Some (tree.parameter (record { is_local = l; signed = s; range = r; values = vs }), rest) = rw (declared_parameter_again l s r vs sign range values behind ds dr dv fits ends, over) refl in
        parameter_declares l sign ∙ now

wires_item_again : (s : Bool) (r : Option Range) (ws : List (Name × Option Expression)) (sign range names rest : List Token) → IsFlag (codes "signed") s sign range → IsPerhapsRange r range names
    → AreParted IsWire ws names (mark semicolon ∷ rest) → item_at (word (codes "wire") ∷ sign) ≡ Some (tree.wires s r ws, rest)
unfolding item_at wires_item_at
wires_item_again s r ws sign range names rest ds dr d =
    let begins = first_part IsWire BeginsWithName wire_begins ws names (mark semicolon ∷ rest) d in
    rw (word_again (codes "wire") sign, signed_again s r sign range names ds dr begins, range_before_name r range names dr begins, wires_again ws names rest d, mark_again semicolon rest) refl

reg_declares : (rest : List Token) → item_at (word (codes "reg") ∷ rest) ≡ variables_item_at rest
unfolding item_at after_word
reg_declares rest = refl

assign_declares : (rest : List Token) → item_at (word (codes "assign") ∷ rest) ≡ assign_item_at rest
unfolding item_at after_word
assign_declares rest = refl

always_declares : (rest : List Token) → item_at (word (codes "always") ∷ rest) ≡ always_item_at rest
unfolding item_at after_word
always_declares rest = refl

variables_item_again : (s : Bool) (r : Option Range) (vs : List (Name × Option Range)) (sign range names rest : List Token) → IsFlag (codes "signed") s sign range → IsPerhapsRange r range names
    → AreParted IsVariable vs names (mark semicolon ∷ rest) → variables_item_at sign ≡ Some (tree.variables s r vs, rest)
unfolding variables_item_at
variables_item_again s r vs sign range names rest ds dr d =
    let begins = first_part IsVariable BeginsWithName variable_begins vs names (mark semicolon ∷ rest) d in
    rw (signed_again s r sign range names ds dr begins, range_before_name r range names dr begins, variables_again vs names rest d, mark_again semicolon rest) refl

-- no item begins with else, and so none goes on with a statement before it
abbrev NoElse : List Token → Type 0
NoElse text = after_word (codes "else") text ≡ None

item_again : (i : Item) (text rest : List Token) → IsItem i text rest → NoElse rest → item_at text ≡ Some (i, rest)
unfolding assign_item_at always_item_at instances_item_at
item_again _ _ _ (a_port_item p text rest d) ends = port_item_again p text rest d
item_again _ _ _ (a_parameter_item p text rest d) ends = parameter_item_again p text rest d
item_again _ _ _ (some_wires s r ws sign range names rest ds dr d) ends = wires_item_again s r ws sign range names rest ds dr d
item_again _ _ _ (some_variables s r vs sign range names rest ds dr d) ends = reg_declares sign ∙ variables_item_again s r vs sign range names rest ds dr d
item_again _ _ _ (some_assignments xs text rest d) ends =
    let now : assign_item_at text ≡ Some (tree.assign xs, rest) = rw (assignments_again xs text rest d, mark_again semicolon rest) refl in
    assign_declares text ∙ now
item_again _ _ _ (a_block es s text more rest de ds) ends =
    let now : always_item_at (mark at ∷ text) ≡ Some (tree.always es s, rest) = rw (mark_again at text, control_again es text more de, statement_again s more rest ds (λ _. ends)) refl in
    always_declares (mark at ∷ text) ∙ now
item_again _ _ _ (some_instances m c is text more rest named dc d) ends =
    let begins = first_part IsInstance BeginsWithName instance_begins is more (mark semicolon ∷ rest) d in
    let now : instances_item_at (word m ∷ text) ≡ Some (tree.instances m c is, rest) =
    rw (name_again m text named, overrides_again c text more dc (begins_no_mark hash more begins), instances_again is more rest d, mark_again semicolon rest) refl in
    name_declares m text named ∙ now

-- neither else nor endmodule begins an item
abbrev BeginsItem : List Token → Type 0
BeginsItem text = (after_word (codes "else") text ≡ None) × (after_word (codes "endmodule") text ≡ None)

direction_begins : (d : Direction) (rest : List Token) → BeginsItem (word (direction_word d) ∷ rest)
unfolding after_word
direction_begins tree.input rest = (refl, refl)
direction_begins tree.output rest = (refl, refl)

parameter_begins : (l : Bool) (rest : List Token) → BeginsItem (word (parameter_word l) ∷ rest)
unfolding after_word
parameter_begins true rest = (refl, refl)
parameter_begins false rest = (refl, refl)

port_begins : (p : PortDeclaration) (text rest : List Token) → IsPort p text rest → BeginsItem text
port_begins _ _ _ (a_port d k s r ns kind sign range names rest dk ds dr dn) = direction_begins d kind

parameter_item_begins : (p : ParameterDeclaration) (text rest : List Token) → IsParameter p text rest → BeginsItem text
parameter_item_begins _ _ _ (a_parameter l s r vs sign range values rest ds dr dv) = parameter_begins l sign

item_begins : (i : Item) (text rest : List Token) → IsItem i text rest → BeginsItem text
unfolding after_word
item_begins _ _ _ (a_port_item p text rest d) = port_begins p text (mark semicolon ∷ rest) d
item_begins _ _ _ (a_parameter_item p text rest d) = parameter_item_begins p text (mark semicolon ∷ rest) d
item_begins _ _ _ (some_wires s r ws sign range names rest ds dr d) = (refl, refl)
item_begins _ _ _ (some_variables s r vs sign range names rest ds dr d) = (refl, refl)
item_begins _ _ _ (some_assignments xs text rest d) = (refl, refl)
item_begins _ _ _ (a_block es s text more rest de ds) = (refl, refl)
item_begins _ _ _ (some_instances m c is text more rest named dc d) = (other_word (codes "else") m text named else_reserved, other_word (codes "endmodule") m text named endmodule_reserved)

endmodule_no_else : (rest : List Token) → NoElse (word (codes "endmodule") ∷ rest)
unfolding after_word
endmodule_no_else rest = refl

items_again : (is : List Item) (text rest : List Token) → AreInRow IsItem is text (word (codes "endmodule") ∷ rest) → items_at text ≡ Some (is, rest)
unfolding items_at
items_again is text rest d =
    row_again IsItem (after_word (codes "endmodule")) item_at NoElse item_read item_again (λ i us vs p. (item_begins i us vs p).0) (λ i us vs p. (item_begins i us vs p).1)
    is text (word (codes "endmodule") ∷ rest) rest d (endmodule_no_else rest) (word_again (codes "endmodule") rest)

-- ---- modules

-- what may follow a parameter of the header
abbrev EndsParameter : List Token → Type 0
EndsParameter rest = Ends 0 rest × (before_name rest ≡ None)

header_by : (l s : Bool) (r : Option Range) (vs : List (Name × Expression)) (sign range values rest : List Token) → IsFlag (codes "signed") s sign range → IsPerhapsRange r range values
    → AreParted IsSetting vs values rest → l ≡ false → EndsParameter rest
    → header_parameter_at (word (parameter_word l) ∷ sign) ≡ Some (record { is_local = l; signed = s; range = r; values = vs }, rest)
unfolding header_parameter_at
header_by true s r vs sign range values rest ds dr dv not_local ends = absurd (false≢true (sym not_local))
header_by false s r vs sign range values rest ds dr dv not_local ends =
    rw (word_again (codes "parameter") sign, declared_parameter_again false s r vs sign range values rest ds dr dv ends.0 ends.1) refl

parameter_in_header : (p : ParameterDeclaration) (text rest : List Token) → IsParameter p text rest → p.is_local ≡ false → EndsParameter rest → header_parameter_at text ≡ Some (p, rest)
parameter_in_header _ _ _ (a_parameter l s r vs sign range values rest ds dr dv) not_local ends = header_by l s r vs sign range values rest ds dr dv not_local ends

header_parameter_again : (p : ParameterDeclaration) (text rest : List Token) → IsHeaderParameter p text rest → EndsParameter rest → header_parameter_at text ≡ Some (p, rest)
header_parameter_again _ _ _ (in_header p text rest d not_local) ends = parameter_in_header p text rest d not_local ends

word_reserved : (l : Bool) → is_reserved (parameter_word l) ≡ true
word_reserved true = localparam_reserved
word_reserved false = parameter_reserved

before_parameter_by : (p : ParameterDeclaration) (text rest : List Token) → IsParameter p text rest → EndsParameter (mark comma ∷ text)
before_parameter_by _ _ _ (a_parameter l s r vs sign range values rest ds dr dv) = ((tt, refl, λ _. refl), before_word (parameter_word l) sign (word_reserved l))

before_parameter : (p : ParameterDeclaration) (text rest : List Token) → IsHeaderParameter p text rest → EndsParameter (mark comma ∷ text)
before_parameter _ _ _ (in_header p text rest d not_local) = before_parameter_by p text rest d

parameter_list_again : (ps : List ParameterDeclaration) (text rest : List Token) → AreParted IsHeaderParameter ps text (mark right_parenthesis ∷ rest) → parameter_list_at text ≡ Some (ps, mark right_parenthesis ∷ rest)
unfolding parameter_list_at
parameter_list_again ps text rest d =
    commas_again IsHeaderParameter header_parameter_at EndsParameter (keeps IsHeaderParameter header_parameter_read) header_parameter_again before_parameter ps text (mark right_parenthesis ∷ rest) d
    ((tt, refl, λ _. refl), before_mark right_parenthesis rest refl) (other_mark comma right_parenthesis rest refl)

header_parameters_again : (ps : List ParameterDeclaration) (text rest : List Token) → AreHeaderParameters ps text rest → after_mark hash rest ≡ None → header_parameters_at text ≡ Some (ps, rest)
unfolding header_parameters_at some_parameters_at
header_parameters_again _ _ _ (no_parameters rest) ends = rw ends refl
header_parameters_again _ _ _ (some_parameters ps text rest d) ends =
    rw (mark_again hash (mark left_parenthesis ∷ text), mark_again left_parenthesis text, parameter_list_again ps text rest d, mark_again right_parenthesis rest) refl

before_port : (p : PortDeclaration) (text rest : List Token) → IsPort p text rest → before_name (mark comma ∷ text) ≡ None
before_port _ _ _ (a_port d k s r ns kind sign range names rest dk ds dr dn) = before_word (direction_word d) kind (direction_reserved d)

port_list_again : (ps : List PortDeclaration) (text rest : List Token) → AreParted IsPort ps text (mark right_parenthesis ∷ rest) → port_list_at text ≡ Some (ps, mark right_parenthesis ∷ rest)
unfolding port_list_at
port_list_again ps text rest d =
    commas_again IsPort port_at (λ us. before_name us ≡ None) port_keeps port_again before_port ps text (mark right_parenthesis ∷ rest) d
    (before_mark right_parenthesis rest refl) (other_mark comma right_parenthesis rest refl)

-- a direction in front
abbrev BeginsWithDirection : List Token → Type 0
BeginsWithDirection text = (d : Direction × List Token) × (direction_at text ≡ Some d) × (after_mark right_parenthesis text ≡ None)

direction_in_front : (p : PortDeclaration) (text rest : List Token) → IsPort p text rest → BeginsWithDirection text
direction_in_front _ _ _ (a_port d k s r ns kind sign range names rest dk ds dr dn) = ((d, kind), direction_again d kind, no_mark_at_word right_parenthesis (direction_word d) kind)

name_no_direction : (text : List Token) → BeginsWithName text → direction_at text ≡ None
name_no_direction _ (named_front n rest named) = no_direction n rest named

ports_again : (p : Ports) (text rest : List Token) → ArePorts p text rest → after_mark left_parenthesis rest ≡ None → ports_at text ≡ Some (p, rest)
unfolding ports_at some_ports_at declared_ports_at listed_ports_at
ports_again _ _ _ (none_listed rest) ends = rw ends refl
ports_again _ _ _ (empty_list rest) ends = rw (mark_again left_parenthesis (mark right_parenthesis ∷ rest), mark_again right_parenthesis rest) refl
ports_again _ _ _ (names_listed ns text rest d) ends =
    let begins = first_part IsName BeginsWithName name_begins ns text (mark right_parenthesis ∷ rest) d in
    rw (mark_again left_parenthesis text, begins_no_mark right_parenthesis text begins, name_no_direction text begins, names_again ns text (mark right_parenthesis ∷ rest) d (before_mark right_parenthesis rest refl), mark_again right_parenthesis rest) refl
ports_again _ _ _ (ports_declared ps text rest d) ends =
    let front = first_part IsPort BeginsWithDirection direction_in_front ps text (mark right_parenthesis ∷ rest) d in
    rw (mark_again left_parenthesis text, front.2, front.1, port_list_again ps text rest d, mark_again right_parenthesis rest) refl

pub module_again : (m : Module) (text rest : List Token) → IsModule m text rest → Unit {0} → module_at text ≡ Some (m, rest)
unfolding module_at
module_again _ _ _ (a_module n ps p items parameters ports body rest named dps dp ds) _ =
    rw (
      word_again (codes "module") (word n ∷ parameters),
      name_again n parameters named,
      header_parameters_again ps parameters ports dps (ports_no_hash p ports body dp),
      ports_again p ports (mark semicolon ∷ body) dp (other_mark left_parenthesis semicolon body refl),
      mark_again semicolon body,
      items_again items body rest ds,
    ) refl

not_at_end : (m : Module) (text rest : List Token) → IsModule m text rest → at_end text ≡ None
unfolding at_end
not_at_end _ _ _ (a_module n ps p items parameters ports body rest named dps dp ds) = refl

the_end : at_end [] ≡ Some []
unfolding at_end
the_end = refl

-- What is spelled so is read.
pub source_again : (ms : Source) (text : List Token) → IsSource ms text → source_at text ≡ Some ms
unfolding source_at modules_at
source_again ms text d =
    let all = row_again IsModule at_end module_at (λ _. Unit {0}) module_read module_again (λ m us vs p. tt) not_at_end ms text [] [] d tt the_end in
    rw all refl

pub a_source : (ms : Source) (text : List Token) → (source_at text ≡ Some ms) ↔ IsSource ms text
a_source ms text = (source_spelled ms text, source_again ms text)

-- Tokens spell at most one source.
pub one_source : (ms ns : Source) (text : List Token) → IsSource ms text → IsSource ns text → ms ≡ ns
one_source ms ns text d e = some_is ms ns (sym (source_again ms text d) ∙ source_again ns text e)

-- What is refused is spelled by no source.
pub no_source : (text : List Token) → source_at text ≡ None → (ms : Source) → IsSource ms text → ⊥
no_source text none ms d = let clash : some ms ≡ None = sym (source_again ms text d) ∙ none in absurd cc
