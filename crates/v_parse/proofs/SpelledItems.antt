-- Items, modules and sources: what is read is spelled so.
use Rattle.std.proofs.Common.{◌≡◌, suc, ◌<◌, ◌≤◌, Bool, false, List, [], ◌∷◌, length, Some, refl, sym, ap, subst, arith}
use Rattle.std.specs.Prelude.{codes}
use Rattle.wb_values.specs.Value.{Name}
use Rattle.verilog_text.specs.Token.{left_parenthesis, right_parenthesis, comma, semicolon, hash, at, equals, Token, word, mark}
use Rattle.verilog_trees.specs.Syntax as tree
use Rattle.verilog_trees.specs.Syntax.{Direction, ParameterDeclaration, Connections, Item, Ports, Source}
use Rattle.verilog_text.specs.Grammar.{AreParted, AreInRow, IsName, a_name, IsPort, direction_word, IsParameter, parameter_word, IsAssignment, IsInstance, AreOverrides, IsItem, a_port_item, a_parameter_item, some_wires, some_variables, some_assignments, a_block, some_instances, IsWire, IsVariable, IsHeaderParameter, in_header, AreHeaderParameters, no_parameters, some_parameters, ArePorts, none_listed, empty_list, names_listed, ports_declared, IsModule, a_module, IsSource, IsStatement}
use Rattle.v_expr.specs.Reading.{after_mark}
use Rattle.v_expr.proofs.Repeat.{some_is}
use Rattle.v_expr.proofs.Places.{mark_spelled}
use Rattle.v_expr.proofs.Spelled.{bound, either_way, lands}
use Rattle.v_body.specs.Words.{after_word}
use Rattle.v_body.specs.Statements.{statement_at}
use Rattle.v_body.proofs.Words.{word_spelled}
use Rattle.v_body.proofs.Spelled.{statement_spelled}
use Rattle.v_body.proofs.Longer.{statement_shrinks}
use Rattle.v_parse.specs.Lists.{at_end}
use Rattle.v_parse.specs.Reading.{direction_at, port_item_at, parameter_item_at, wires_item_at, variables_item_at, assign_item_at, always_item_at, instances_item_at, declared_item_at, item_at, port_at, header_parameter_at, parameter_list_at, some_parameters_at, header_parameters_at, port_list_at, declared_ports_at, listed_ports_at, some_ports_at, ports_at, items_at, module_at, modules_at, source_at}
use Rattle.v_parse.proofs.Words.{word_length, mark_length}
use Rattle.v_parse.proofs.Lists.{Reads, Takes, is_read, either, before, from_mark, from_word, name_read, flag_read, parted_read, row_read}
use Rattle.v_parse.proofs.Spelled.{comma_passed, perhaps_range_read, direction_read, names_read, declared_port_read, port_read, parameter_word_read, declared_parameter_read, wires_read, variables_read, assignments_read, instances_read, overrides_read, control_read}

statement_read : Reads statement_at IsStatement
statement_read ts y h = (statement_spelled ts y h, let shorter : length y.1 < length ts = statement_shrinks ts y.0 y.1 h in omega (arith, shorter))

-- ---- items behind their first words

port_item_read : (d : Direction) → Reads (port_item_at d) (λ i us. IsItem i (word (direction_word d) ∷ us))
unfolding port_item_at
port_item_read d ts y h =
    let p = bound h in
    let r = bound p.2 in
    let port = declared_port_read d ts p.0 p.1 in
    is_read (λ i us. IsItem i (word (direction_word d) ∷ us)) ts r.2
    (a_port_item p.0.0 (word (direction_word d) ∷ ts) r.0 (before IsPort semicolon r.1 port.0)) (omega (arith, port.1, mark_length semicolon p.0.1 r.1))

parameter_item_read : (l : Bool) → Reads (parameter_item_at l) (λ i us. IsItem i (word (parameter_word l) ∷ us))
unfolding parameter_item_at
parameter_item_read l ts y h =
    let p = bound h in
    let r = bound p.2 in
    let parameter = declared_parameter_read l ts p.0 p.1 in
    is_read (λ i us. IsItem i (word (parameter_word l) ∷ us)) ts r.2
    (a_parameter_item p.0.0 (word (parameter_word l) ∷ ts) r.0 (before IsParameter semicolon r.1 parameter.0.0)) (omega (arith, parameter.1, mark_length semicolon p.0.1 r.1))

wires_item_read : Reads wires_item_at (λ i us. IsItem i (word (codes "wire") ∷ us))
unfolding wires_item_at
wires_item_read ts y h =
    let s = bound h in
    let r = bound s.2 in
    let w = bound r.2 in
    let m = bound w.2 in
    let sign = flag_read (codes "signed") ts s.0 s.1 in
    let range = perhaps_range_read s.0.1 r.0 r.1 in
    let all = wires_read r.0.1 w.0 w.1 in
    is_read (λ i us. IsItem i (word (codes "wire") ∷ us)) ts m.2
    (some_wires s.0.0 r.0.0 w.0.0 ts s.0.1 r.0.1 m.0 sign.0 range.0 (before (AreParted IsWire) semicolon m.1 all.0))
    (omega (arith, sign.1, range.1, all.1, mark_length semicolon w.0.1 m.1))

variables_item_read : Reads variables_item_at (λ i us. IsItem i (word (codes "reg") ∷ us))
unfolding variables_item_at
variables_item_read ts y h =
    let s = bound h in
    let r = bound s.2 in
    let v = bound r.2 in
    let m = bound v.2 in
    let sign = flag_read (codes "signed") ts s.0 s.1 in
    let range = perhaps_range_read s.0.1 r.0 r.1 in
    let all = variables_read r.0.1 v.0 v.1 in
    is_read (λ i us. IsItem i (word (codes "reg") ∷ us)) ts m.2
    (some_variables s.0.0 r.0.0 v.0.0 ts s.0.1 r.0.1 m.0 sign.0 range.0 (before (AreParted IsVariable) semicolon m.1 all.0))
    (omega (arith, sign.1, range.1, all.1, mark_length semicolon v.0.1 m.1))

assign_item_read : Reads assign_item_at (λ i us. IsItem i (word (codes "assign") ∷ us))
unfolding assign_item_at
assign_item_read ts y h =
    let x = bound h in
    let m = bound x.2 in
    let all = assignments_read ts x.0 x.1 in
    is_read (λ i us. IsItem i (word (codes "assign") ∷ us)) ts m.2
    (some_assignments x.0.0 ts m.0 (before (AreParted (IsAssignment equals)) semicolon m.1 all.0)) (omega (arith, all.1, mark_length semicolon x.0.1 m.1))

always_item_read : Reads always_item_at (λ i us. IsItem i (word (codes "always") ∷ us))
unfolding always_item_at
always_item_read ts y h =
    let a = bound h in
    let e = bound a.2 in
    let s = bound e.2 in
    let events = control_read a.0 e.0 e.1 in
    let body = statement_read e.0.1 s.0 s.1 in
    is_read (λ i us. IsItem i (word (codes "always") ∷ us)) ts s.2
    (from_mark (λ i us. IsItem i (word (codes "always") ∷ us)) at a.1 (a_block e.0.0 s.0.0 a.0 e.0.1 s.0.1 events.0 body.0))
    (omega (arith, events.1, body.1, mark_length at ts a.1))

instances_of : (m : Name) (c : Connections) (is : List (Name × Connections)) (ts text more rest : List Token) → IsName m ts text × (length text ≤ length ts) → AreOverrides c text more
    → AreParted IsInstance is more (mark semicolon ∷ rest) → IsItem (tree.instances m c is) ts rest × (length text < length ts)
instances_of m c is ts text more rest n d ds = elim_name m ts text n.0 c is more rest d ds
  where
    elim_name : (m : Name) (ts text : List Token) → IsName m ts text → (c : Connections) (is : List (Name × Connections)) (more rest : List Token) → AreOverrides c text more
        → AreParted IsInstance is more (mark semicolon ∷ rest) → IsItem (tree.instances m c is) ts rest × (length text < length ts)
    elim_name _ _ _ (a_name m text named) c is more rest d ds = (some_instances m c is text more rest named d ds, omega arith)

instances_item_read : Takes instances_item_at IsItem
unfolding instances_item_at
instances_item_read ts y h =
    let m = bound h in
    let c = bound m.2 in
    let i = bound c.2 in
    let r = bound i.2 in
    let parameters = overrides_read m.0.1 c.0 c.1 in
    let all = instances_read c.0.1 i.0 i.1 in
    let item = instances_of m.0.0 c.0.0 i.0.0 ts m.0.1 c.0.1 r.0 (name_read ts m.0 m.1) parameters.0 (before (AreParted IsInstance) semicolon r.1 all.0) in
    lands (λ x us. IsItem x ts us × (length us < length ts)) r.2 (item.0, omega (arith, item.1, parameters.1, all.1, mark_length semicolon i.0.1 r.1))

-- an item behind its word
behind : (w : Name) {ts more : List Token} {y : Item × List Token} → after_word w ts ≡ Some more → IsItem y.0 (word w ∷ more) y.1 × (length y.1 ≤ length more)
    → IsItem y.0 ts y.1 × (length y.1 < length ts)
behind w {ts = ts} {more = more} {y = y} e d = let taken : length ts ≡ suc (length more) = word_length w ts e in (from_word IsItem w e d.0, omega (arith, d.1, taken))

declared_item_read : Takes declared_item_at IsItem
unfolding declared_item_at
declared_item_read ts y h =
    either_way h
    (λ w.
    let d = direction_read ts w.0 w.1 in
    let p = port_item_read w.0.0 w.0.1 y w.2 in
    (subst (λ us. IsItem y.0 us y.1) (sym d.0) p.0, omega (arith, d.1, p.1)))
    (λ no_port. either_way no_port.1
    (λ w.
    let l = parameter_word_read ts w.0 w.1 in
    let p = parameter_item_read w.0.0 w.0.1 y w.2 in
    (subst (λ us. IsItem y.0 us y.1) (sym l.0) p.0, omega (arith, l.1, p.1)))
    (λ w. instances_item_read ts y w.1))

pub item_read : Takes item_at IsItem
unfolding item_at
item_read ts y h =
    either_way h
    (λ w. behind (codes "wire") w.1 (wires_item_read w.0 y w.2))
    (λ no_wire. either_way no_wire.1
    (λ w. behind (codes "reg") w.1 (variables_item_read w.0 y w.2))
    (λ no_reg. either_way no_reg.1
    (λ w. behind (codes "assign") w.1 (assign_item_read w.0 y w.2))
    (λ no_assign. either_way no_assign.1
    (λ w. behind (codes "always") w.1 (always_item_read w.0 y w.2))
    (λ w. declared_item_read ts y w.1))))

-- ---- modules

pub header_parameter_read : Reads header_parameter_at IsHeaderParameter
unfolding header_parameter_at
header_parameter_read ts y h =
    let w = bound h in
    let p = declared_parameter_read false w.0 y w.2 in
    (in_header y.0 ts y.1 (from_word IsParameter (codes "parameter") w.1 p.0.0) p.0.1, omega (arith, p.1, word_length (codes "parameter") ts w.1))

parameter_list_read : Reads parameter_list_at (AreParted IsHeaderParameter)
unfolding parameter_list_at
parameter_list_read = parted_read IsHeaderParameter (after_mark comma) header_parameter_at header_parameter_read comma_passed

header_parameters_read : Reads header_parameters_at AreHeaderParameters
unfolding header_parameters_at some_parameters_at
header_parameters_read ts y h =
    either_way h
    (λ w.
    let i = bound w.2 in
    let p = bound i.2 in
    let r = bound p.2 in
    let all = parameter_list_read i.0 p.0 p.1 in
    is_read AreHeaderParameters ts r.2
    (from_mark AreHeaderParameters hash w.1 (from_mark (λ ps us. AreHeaderParameters ps (mark hash ∷ us)) left_parenthesis i.1
    (some_parameters p.0.0 i.0 r.0 (before (AreParted IsHeaderParameter) right_parenthesis r.1 all.0))))
    (omega (arith, all.1, mark_length hash ts w.1, mark_length left_parenthesis w.0 i.1, mark_length right_parenthesis p.0.1 r.1)))
    (λ w. is_read AreHeaderParameters ts w.1 (no_parameters ts) (omega arith))

port_list_read : Reads port_list_at (AreParted IsPort)
unfolding port_list_at
port_list_read = parted_read IsPort (after_mark comma) port_at (λ ts y h. let p = port_read ts y h in (p.0, omega (arith, p.1))) comma_passed

some_ports_read : Reads some_ports_at (λ p us. ArePorts p (mark left_parenthesis ∷ us))
unfolding some_ports_at declared_ports_at listed_ports_at
some_ports_read ts y h =
    either_way h
    (λ w. is_read (λ p us. ArePorts p (mark left_parenthesis ∷ us)) ts w.2
    (from_mark (λ p us. ArePorts p (mark left_parenthesis ∷ us)) right_parenthesis w.1 (empty_list w.0)) (omega (arith, mark_length right_parenthesis ts w.1)))
    (λ some_stand. either (direction_at ts) some_stand.1
    (λ d is read.
    let p = bound read in
    let r = bound p.2 in
    let all = port_list_read ts p.0 p.1 in
    is_read (λ p us. ArePorts p (mark left_parenthesis ∷ us)) ts r.2
    (ports_declared p.0.0 ts r.0 (before (AreParted IsPort) right_parenthesis r.1 all.0)) (omega (arith, all.1, mark_length right_parenthesis p.0.1 r.1)))
    (λ is read.
    let n = bound read in
    let r = bound n.2 in
    let all = names_read ts n.0 n.1 in
    is_read (λ p us. ArePorts p (mark left_parenthesis ∷ us)) ts r.2
    (names_listed n.0.0 ts r.0 (before (AreParted IsName) right_parenthesis r.1 all.0)) (omega (arith, all.1, mark_length right_parenthesis n.0.1 r.1))))

ports_read : Reads ports_at ArePorts
unfolding ports_at
ports_read ts y h =
    either_way h
    (λ w.
    let p = some_ports_read w.0 y w.2 in
    (from_mark ArePorts left_parenthesis w.1 p.0, omega (arith, p.1, mark_length left_parenthesis ts w.1)))
    (λ w. is_read ArePorts ts w.1 (none_listed ts) (omega arith))

items_read : (ts : List Token) (y : List Item × List Token) → items_at ts ≡ Some y → AreInRow IsItem y.0 ts (word (codes "endmodule") ∷ y.1) × (length y.1 ≤ length ts)
unfolding items_at
items_read ts y h =
    row_read IsItem (after_word (codes "endmodule")) item_at (λ us. word (codes "endmodule") ∷ us) item_read
    (λ us rest e. (word_spelled (codes "endmodule") e, let taken : length us ≡ suc (length rest) = word_length (codes "endmodule") us e in omega (arith, taken))) ts y h

module_of : (n : Name) (ps : List ParameterDeclaration) (p : Ports) (items : List Item) (start parameters ports behind body rest : List Token) → IsName n start parameters × (length parameters ≤ length start)
    → AreHeaderParameters ps parameters ports → ArePorts p ports behind → behind ≡ mark semicolon ∷ body → AreInRow IsItem items body (word (codes "endmodule") ∷ rest)
    → IsModule (record { module_name = n; parameters = ps; ports = p; items = items }) (word (codes "module") ∷ start) rest
module_of n ps p items start parameters ports behind body rest named dps dp same ds = elim_name n start parameters named.0 dps
  where
    elim_name : (n : Name) (start parameters : List Token) → IsName n start parameters → AreHeaderParameters ps parameters ports
        → IsModule (record { module_name = n; parameters = ps; ports = p; items = items }) (word (codes "module") ∷ start) rest
    elim_name _ _ _ (a_name n parameters named) dps = a_module n ps p items parameters ports body rest named dps (subst (ArePorts p ports) same dp) ds

pub module_read : Takes module_at IsModule
unfolding module_at
module_read ts y h =
    let w = bound h in
    let n = bound w.2 in
    let ps = bound n.2 in
    let p = bound ps.2 in
    let b = bound p.2 in
    let i = bound b.2 in
    let name = name_read w.0 n.0 n.1 in
    let parameters = header_parameters_read n.0.1 ps.0 ps.1 in
    let ports = ports_read ps.0.1 p.0 p.1 in
    let items = items_read b.0 i.0 i.1 in
    lands (λ m us. IsModule m ts us × (length us < length ts)) i.2 (
      from_word IsModule (codes "module") w.1 (module_of n.0.0 ps.0.0 p.0.0 i.0.0 w.0 n.0.1 ps.0.1 p.0.1 b.0 i.0.1 name parameters.0 ports.0 (mark_spelled semicolon b.1) items.0),
      omega (arith, name.1, parameters.1, ports.1, items.1, word_length (codes "module") ts w.1, mark_length semicolon p.0.1 b.1),
    )

at_end_is : (ts rest : List Token) → at_end ts ≡ Some rest → (ts ≡ []) × (length rest ≤ length ts)
unfolding at_end
at_end_is [] rest e = (refl, let same : [] ≡ rest = some_is [] rest e in omega (arith, ap (λ (us : List Token). length us) same))
at_end_is (t ∷ ts) rest e = absurd cc

-- What is read is spelled so.
pub source_spelled : (ms : Source) (text : List Token) → source_at text ≡ Some ms → IsSource ms text
unfolding source_at modules_at
source_spelled ms text h =
    let m = bound h in
    let all = row_read IsModule at_end module_at (λ us. []) module_read at_end_is text m.0 m.1 in
    subst (λ ns. IsSource ns text) (some_is m.0.0 ms m.2) all.0
