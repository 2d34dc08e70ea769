-- Sources that are spelled by tokens as texts have them can be printed.
use Rattle.std.proofs.Common.{Bool, List, [], ◌∷◌, Option}
use Rattle.std.specs.Prelude.{codes}
use Rattle.wb_values.specs.Value.{Name}
use Rattle.verilog_text.specs.Token.{left_parenthesis, right_parenthesis, left_bracket, right_bracket, comma, semicolon, colon, dot, hash, at, equals, star, Token, word, mark}
use Rattle.verilog_trees.specs.Syntax as tree
use Rattle.verilog_trees.specs.Syntax.{EdgeKind, Event, Range, NetKind, ParameterDeclaration, Connections, by_order, Source}
use Rattle.verilog_text.specs.Grammar.{direction_word, parameter_word, edge_words, AreParted, last_part, and_parts, AreInRow, no_more, one_more, IsPerhaps, left_out, given, IsFlag, absent, present, IsName, a_name, IsWhole, IsRange, bounds, IsPerhapsRange, IsAssignment, IsNetKind, no_kind, a_wire, a_variable, IsPort, a_port, IsSetting, set_to, IsParameter, a_parameter, IsWire, net, IsVariable, variable, IsEntry, empty_entry, an_entry, IsNamedEntry, under_name, AreConnections, named_entries, entries, IsInstance, an_instance, AreOverrides, no_overrides, overrides, IsEvent, an_event, AreEvents, last_event, or_event, comma_event, IsControl, by_star, by_star_in_parentheses, by_events, IsItem, a_port_item, a_parameter_item, some_wires, some_variables, some_assignments, a_block, some_instances, IsHeaderParameter, in_header, AreHeaderParameters, no_parameters, some_parameters, ArePorts, none_listed, empty_list, names_listed, ports_declared, IsModule, a_module, IsSource}
use Rattle.v_print.specs.Printable.{IsPrintableName, IsPrintable, IsPrintableOptional, Each, EachOfSome, IsPrintableRange, IsPrintablePort, IsPrintableSetting, IsPrintableParameter, IsPrintableWire, IsPrintableVariable, ArePrintableConnections, IsPrintableInstance, ArePrintableOverrides, IsPrintableEvent, ArePrintableEvents, IsPrintableAssignment, IsPrintableItem, IsPrintableHeader, ArePrintablePorts, IsPrintableModule, IsPrintableSource}
use Rattle.v_print_source.proofs.Lexed.{AreLexed, behind, Leaves}
use Rattle.v_print_source.proofs.Derived.{printable, assignment_printable, statement_printable}

-- ---- lists

-- what is spelled so is of a kind, and leaves tokens as texts have them
abbrev Gives : {A : Type 0} → (A → List Token → List Token → Type 0) → (A → Type 0) → Type 0
Gives {A = A} Is P = (x : A) (text rest : List Token) → Is x text rest → AreLexed text → Leaves (P x) rest

each_of : {A : Type 0} (P : A → Type 0) (xs : List A) → EachOfSome P xs → Each P xs
each_of P [] h = absurd h
each_of P (x ∷ xs) h = h

parted_printable : {A : Type 0} (Is : A → List Token → List Token → Type 0) (P : A → Type 0) → Gives Is P → (xs : List A) (text rest : List Token) → AreParted Is xs text rest → AreLexed text → Leaves (EachOfSome P xs) rest
parted_printable Is P one _ _ _ (last_part x text rest d) l =
    let a = one x text rest d l in
    record { is = (a.is, tt); lexed = a.lexed }
parted_printable Is P one _ _ _ (and_parts x xs text more rest d ds) l =
    let a = one x text (mark comma ∷ more) d l in
    let b = parted_printable Is P one xs more rest ds (behind (mark comma) more a.lexed) in
    record { is = (a.is, each_of P xs b.is); lexed = b.lexed }

row_printable : {A : Type 0} (Is : A → List Token → List Token → Type 0) (P : A → Type 0) → Gives Is P → (xs : List A) (text rest : List Token) → AreInRow Is xs text rest → AreLexed text → Leaves (Each P xs) rest
row_printable Is P one _ _ _ (no_more rest) l = record { is = tt; lexed = l }
row_printable Is P one _ _ _ (one_more x xs text more rest d ds) l =
    let a = one x text more d l in
    let b = row_printable Is P one xs more rest ds a.lexed in
    record { is = (a.is, b.is); lexed = b.lexed }

-- ---- declarations

flag_passed : (w : Name) (b : Bool) (text rest : List Token) → IsFlag w b text rest → AreLexed text → AreLexed rest
flag_passed w _ _ _ (absent rest) l = l
flag_passed w _ _ _ (present rest) l = behind (word w) rest l

name_printable : Gives IsName IsPrintableName
name_printable _ _ _ (a_name n rest free) l = record { is = record { is_written = l.0; is_free = free }; lexed = behind (word n) rest l }

bounds_printable : (g : Range) (text rest : List Token) → IsRange g text rest → AreLexed text → Leaves (IsPrintable g.left × IsPrintable g.right) rest
bounds_printable _ _ _ (bounds a b text more rest da db) l =
    let x = printable 0 a text (mark colon ∷ more) da l in
    let y = printable 0 b more (mark right_bracket ∷ rest) db (behind (mark colon) more x.lexed) in
    record { is = (x.is, y.is); lexed = behind (mark right_bracket) rest y.lexed }

range_printable : Gives IsPerhapsRange IsPrintableRange
range_printable _ _ _ (left_out rest) l = record { is = tt; lexed = l }
range_printable _ _ _ (given g text rest d) l =
    let x = bounds_printable g text rest d (behind (mark left_bracket) text l) in
    record { is = (x.is.0, x.is.1); lexed = x.lexed }

kind_passed : (k : Option NetKind) (text rest : List Token) → IsNetKind k text rest → AreLexed text → AreLexed rest
kind_passed _ _ _ (no_kind rest) l = l
kind_passed _ _ _ (a_wire rest) l = behind (word (codes "wire")) rest l
kind_passed _ _ _ (a_variable rest) l = behind (word (codes "reg")) rest l

port_printable : Gives IsPort IsPrintablePort
port_printable _ _ _ (a_port d k s r ns kind sign range names rest dk ds dr dn) l =
    let signed = kind_passed k kind sign dk (behind (word (direction_word d)) kind l) in
    let x = range_printable r range names dr (flag_passed (codes "signed") s sign range ds signed) in
    let y = parted_printable IsName IsPrintableName name_printable ns names rest dn x.lexed in
    record { is = (x.is, y.is); lexed = y.lexed }

setting_printable : Gives IsSetting IsPrintableSetting
setting_printable _ _ _ (set_to n e text rest free d) l =
    let x = printable 0 e text rest d (behind (mark equals) text (behind (word n) (mark equals ∷ text) l)) in
    record { is = (record { is_written = l.0; is_free = free }, x.is); lexed = x.lexed }

parameter_printable : Gives IsParameter IsPrintableParameter
parameter_printable _ _ _ (a_parameter p s r vs sign range values rest ds dr dv) l =
    let x = range_printable r range values dr (flag_passed (codes "signed") s sign range ds (behind (word (parameter_word p)) sign l)) in
    let y = parted_printable IsSetting IsPrintableSetting setting_printable vs values rest dv x.lexed in
    record { is = (x.is, y.is); lexed = y.lexed }

value_printable : Gives (IsPerhaps (mark equals) IsWhole) IsPrintableOptional
value_printable _ _ _ (left_out rest) l = record { is = tt; lexed = l }
value_printable _ _ _ (given e text rest d) l = printable 0 e text rest d (behind (mark equals) text l)

wire_printable : Gives IsWire IsPrintableWire
wire_printable _ _ _ (net n e text rest free d) l =
    let x = value_printable e text rest d (behind (word n) text l) in
    record { is = (record { is_written = l.0; is_free = free }, x.is); lexed = x.lexed }

variable_printable : Gives IsVariable IsPrintableVariable
variable_printable _ _ _ (variable n r text rest free d) l =
    let x = range_printable r text rest d (behind (word n) text l) in
    record { is = (record { is_written = l.0; is_free = free }, x.is); lexed = x.lexed }

-- ---- instances

entry_printable : Gives IsEntry IsPrintableOptional
entry_printable _ _ _ (empty_entry rest) l = record { is = tt; lexed = l }
entry_printable _ _ _ (an_entry e text rest d) l = printable 0 e text rest d l

named_printable : Gives IsNamedEntry IsPrintableWire
named_printable _ _ _ (under_name n e text rest free d) l =
    let k = behind (mark dot) (word n ∷ mark left_parenthesis ∷ text) l in
    let x = entry_printable e text (mark right_parenthesis ∷ rest) d (behind (mark left_parenthesis) text (behind (word n) (mark left_parenthesis ∷ text) k)) in
    record { is = (record { is_written = k.0; is_free = free }, x.is); lexed = behind (mark right_parenthesis) rest x.lexed }

connections_printable : Gives AreConnections ArePrintableConnections
connections_printable _ _ _ (named_entries es text rest d) l =
    let x = parted_printable IsNamedEntry IsPrintableWire named_printable es text (mark right_parenthesis ∷ rest) d l in
    record { is = x.is; lexed = behind (mark right_parenthesis) rest x.lexed }
connections_printable _ _ _ (entries es text rest d) l =
    let x = parted_printable IsEntry IsPrintableOptional entry_printable es text (mark right_parenthesis ∷ rest) d l in
    record { is = x.is; lexed = behind (mark right_parenthesis) rest x.lexed }

instance_printable : Gives IsInstance IsPrintableInstance
instance_printable _ _ _ (an_instance n c text rest free d) l =
    let x = connections_printable c text rest d (behind (mark left_parenthesis) text (behind (word n) (mark left_parenthesis ∷ text) l)) in
    record { is = (record { is_written = l.0; is_free = free }, x.is); lexed = x.lexed }

overriding : (c : Connections) → ArePrintableConnections c → ArePrintableOverrides c
overriding (tree.by_name es) p = p
overriding (tree.by_order es) p = each_of IsPrintableOptional es p

overrides_printable : Gives AreOverrides ArePrintableOverrides
overrides_printable _ _ _ (no_overrides rest) l = record { is = tt; lexed = l }
overrides_printable _ _ _ (overrides c text rest d) l =
    let x = connections_printable c text rest d (behind (mark left_parenthesis) text (behind (mark hash) (mark left_parenthesis ∷ text) l)) in
    record { is = overriding c x.is; lexed = x.lexed }

-- ---- items

edge_passed : (k : EdgeKind) (ts : List Token) → AreLexed (edge_words k ts) → AreLexed ts
edge_passed tree.posedge ts l = behind (word (codes "posedge")) ts l
edge_passed tree.negedge ts l = behind (word (codes "negedge")) ts l
edge_passed tree.any_edge ts l = l

event_printable : Gives IsEvent IsPrintableEvent
event_printable _ _ _ (an_event k n rest free) l =
    let m = edge_passed k (word n ∷ rest) l in
    record { is = record { is_written = m.0; is_free = free }; lexed = behind (word n) rest m }

events_printable : (es : List Event) (text rest : List Token) → AreEvents es text rest → AreLexed text → Leaves (EachOfSome IsPrintableEvent es) rest
events_printable _ _ _ (last_event e text rest d) l =
    let a = event_printable e text (mark right_parenthesis ∷ rest) d l in
    record { is = (a.is, tt); lexed = behind (mark right_parenthesis) rest a.lexed }
events_printable _ _ _ (or_event e es text more rest d ds) l =
    let a = event_printable e text (word (codes "or") ∷ more) d l in
    let b = events_printable es more rest ds (behind (word (codes "or")) more a.lexed) in
    record { is = (a.is, each_of IsPrintableEvent es b.is); lexed = b.lexed }
events_printable _ _ _ (comma_event e es text more rest d ds) l =
    let a = event_printable e text (mark comma ∷ more) d l in
    let b = events_printable es more rest ds (behind (mark comma) more a.lexed) in
    record { is = (a.is, each_of IsPrintableEvent es b.is); lexed = b.lexed }

control_printable : Gives IsControl ArePrintableEvents
control_printable _ _ _ (by_star rest) l = record { is = tt; lexed = behind (mark star) rest l }
control_printable _ _ _ (by_star_in_parentheses rest) l =
    record { is = tt; lexed = behind (mark right_parenthesis) rest (behind (mark star) (mark right_parenthesis ∷ rest) (behind (mark left_parenthesis) (mark star ∷ mark right_parenthesis ∷ rest) l)) }
control_printable _ _ _ (by_events es text rest d) l = events_printable es text rest d (behind (mark left_parenthesis) text l)

continuous_printable : Gives (IsAssignment equals) IsPrintableAssignment
continuous_printable a text rest d l =
    let x = assignment_printable equals a text rest d l in
    record { is = (x.is.0, x.is.1); lexed = x.lexed }

item_printable : Gives IsItem IsPrintableItem
item_printable _ _ _ (a_port_item p text rest d) l =
    let x = port_printable p text (mark semicolon ∷ rest) d l in
    record { is = (x.is.0, x.is.1); lexed = behind (mark semicolon) rest x.lexed }
item_printable _ _ _ (a_parameter_item p text rest d) l =
    let x = parameter_printable p text (mark semicolon ∷ rest) d l in
    record { is = (x.is.0, x.is.1); lexed = behind (mark semicolon) rest x.lexed }
item_printable _ _ _ (some_wires s r ws sign range names rest ds dr dw) l =
    let x = range_printable r range names dr (flag_passed (codes "signed") s sign range ds (behind (word (codes "wire")) sign l)) in
    let y = parted_printable IsWire IsPrintableWire wire_printable ws names (mark semicolon ∷ rest) dw x.lexed in
    record { is = (x.is, y.is); lexed = behind (mark semicolon) rest y.lexed }
item_printable _ _ _ (some_variables s r vs sign range names rest ds dr dv) l =
    let x = range_printable r range names dr (flag_passed (codes "signed") s sign range ds (behind (word (codes "reg")) sign l)) in
    let y = parted_printable IsVariable IsPrintableVariable variable_printable vs names (mark semicolon ∷ rest) dv x.lexed in
    record { is = (x.is, y.is); lexed = behind (mark semicolon) rest y.lexed }
item_printable _ _ _ (some_assignments xs text rest d) l =
    let x = parted_printable (IsAssignment equals) IsPrintableAssignment continuous_printable xs text (mark semicolon ∷ rest) d (behind (word (codes "assign")) text l) in
    record { is = x.is; lexed = behind (mark semicolon) rest x.lexed }
item_printable _ _ _ (a_block es s text more rest de ds) l =
    let x = control_printable es text more de (behind (mark at) text (behind (word (codes "always")) (mark at ∷ text) l)) in
    let y = statement_printable s more rest ds x.lexed in
    record { is = (x.is, y.is); lexed = y.lexed }
item_printable _ _ _ (some_instances m c is text more rest free dc di) l =
    let x = overrides_printable c text more dc (behind (word m) text l) in
    let y = parted_printable IsInstance IsPrintableInstance instance_printable is more (mark semicolon ∷ rest) di x.lexed in
    record { is = (record { is_written = l.0; is_free = free }, x.is, y.is); lexed = behind (mark semicolon) rest y.lexed }

-- ---- modules

header_parameter_printable : Gives IsHeaderParameter IsPrintableHeader
header_parameter_printable _ _ _ (in_header p text rest d not_local) l =
    let x = parameter_printable p text rest d l in
    record { is = (x.is, not_local); lexed = x.lexed }

header_printable : (ps : List ParameterDeclaration) (text rest : List Token) → AreHeaderParameters ps text rest → AreLexed text → Leaves (Each IsPrintableHeader ps) rest
header_printable _ _ _ (no_parameters rest) l = record { is = tt; lexed = l }
header_printable _ _ _ (some_parameters ps text rest d) l =
    let x = parted_printable IsHeaderParameter IsPrintableHeader header_parameter_printable ps text (mark right_parenthesis ∷ rest) d (behind (mark left_parenthesis) text (behind (mark hash) (mark left_parenthesis ∷ text) l)) in
    record { is = each_of IsPrintableHeader ps x.is; lexed = behind (mark right_parenthesis) rest x.lexed }

ports_printable : Gives ArePorts ArePrintablePorts
ports_printable _ _ _ (none_listed rest) l = record { is = tt; lexed = l }
ports_printable _ _ _ (empty_list rest) l = record { is = tt; lexed = behind (mark right_parenthesis) rest (behind (mark left_parenthesis) (mark right_parenthesis ∷ rest) l) }
ports_printable _ _ _ (names_listed ns text rest d) l =
    let x = parted_printable IsName IsPrintableName name_printable ns text (mark right_parenthesis ∷ rest) d (behind (mark left_parenthesis) text l) in
    record { is = each_of IsPrintableName ns x.is; lexed = behind (mark right_parenthesis) rest x.lexed }
ports_printable _ _ _ (ports_declared ps text rest d) l =
    let x = parted_printable IsPort IsPrintablePort port_printable ps text (mark right_parenthesis ∷ rest) d (behind (mark left_parenthesis) text l) in
    record { is = x.is; lexed = behind (mark right_parenthesis) rest x.lexed }

module_printable : Gives IsModule IsPrintableModule
module_printable _ _ _ (a_module n ps p items parameters ports body rest free dh dp di) l =
    let k = behind (word (codes "module")) (word n ∷ parameters) l in
    let x = header_printable ps parameters ports dh (behind (word n) parameters k) in
    let y = ports_printable p ports (mark semicolon ∷ body) dp x.lexed in
    let z = row_printable IsItem IsPrintableItem item_printable items body (word (codes "endmodule") ∷ rest) di (behind (mark semicolon) body y.lexed) in
    record { is = (record { is_written = k.0; is_free = free }, x.is, y.is, z.is); lexed = behind (word (codes "endmodule")) rest z.lexed }

pub source_printable : (ms : Source) (text : List Token) → IsSource ms text → AreLexed text → IsPrintableSource ms
source_printable ms text d l = (row_printable IsModule IsPrintableModule module_printable ms text [] d l).is
