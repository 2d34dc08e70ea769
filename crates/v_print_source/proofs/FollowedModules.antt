-- Printed sources are no deeper than any tokens that spell them; and no more, where no colon stands behind default.
use Rattle.std.proofs.Common.{◌≡◌, ℕ, suc, ◌+◌, ◌≤◌, Bool, true, false, List, [], ◌∷◌, length, Option, refl, sym, ap, arith}
use Rattle.std.specs.Prelude.{codes}
use Rattle.wb_values.specs.Value.{Name}
use Rattle.verilog_text.specs.Token.{left_parenthesis, right_parenthesis, semicolon, comma, hash, at, equals, star, Token, word, mark}
use Rattle.verilog_text.specs.Text.{Opening, in_parentheses, stays, step_of_word, step_of, is_too_deep}
use Rattle.verilog_text.specs.Grammar as grammar
use Rattle.verilog_text.specs.Grammar.{edge_words, AreInRow, no_more, one_more, IsName, IsWire, IsVariable, IsAssignment, IsPort, IsInstance, AreOverrides, no_overrides, overrides, IsEvent, an_event, AreEvents, last_event, or_event, comma_event, IsControl, by_star, by_star_in_parentheses, by_events, IsItem, a_port_item, a_parameter_item, some_wires, some_variables, some_assignments, a_block, some_instances, IsHeaderParameter, in_header, AreHeaderParameters, no_parameters, some_parameters, ArePorts, none_listed, empty_list, names_listed, ports_declared, IsModule, a_module, IsSource}
use Rattle.verilog_trees.specs.Syntax as tree
use Rattle.verilog_trees.specs.Syntax.{Expression, EdgeKind, Event, Events, ParameterDeclaration, Connections, Item, Ports, Module, Source}
use Rattle.v_print.specs.Bodies.{bare_statement, parts_before, row_before, name_before, flag_before, range_before, port_before, parameter_before, wire_before, variable_before, connections_before, instance_before, overrides_before, event_before, events_before, control_before, continuous_before, item_before, header_before, ports_before, module_before, source_before}
use Rattle.v_print.specs.Printable.{IsPrintableName, Each, EachOfSome, IsPrintablePort, IsPrintableWire, IsPrintableVariable, ArePrintableConnections, IsPrintableOptional, IsPrintableInstance, ArePrintableOverrides, IsPrintableAssignment, IsPrintableItem, IsPrintableHeader, ArePrintablePorts, IsPrintableModule, IsPrintableSource}
use Rattle.v_print.proofs.Open.{IsShallow, name_stays, mark_stays}
use Rattle.v_print_source.proofs.Within.{behind_stays, behind_opens, behind_closes}
use Rattle.v_print_source.proofs.Kept.{Keeps, kept_as, nothing_kept, then_kept, other_kept, token_kept, after_token, pair_kept, assignment_kept, KeepsEach, some_kept, parted_kept, name_kept, flag_kept, range_kept, port_kept, parameter_kept, net_kept, variable_kept, connections_kept, instance_kept}
use Rattle.v_print_source.proofs.Followed.{IsOver, at_base, nothing_base, Follows, nothing_follows, kept_then, then_follows, ended_follows, statement_follows}

-- ---- words

wire_stays : step_of (word (codes "wire")) ≡ stays
unfolding step_of_word
wire_stays = refl

reg_stays : step_of (word (codes "reg")) ≡ stays
unfolding step_of_word
reg_stays = refl

assign_stays : step_of (word (codes "assign")) ≡ stays
unfolding step_of_word
assign_stays = refl

always_stays : step_of (word (codes "always")) ≡ stays
unfolding step_of_word
always_stays = refl

or_stays : step_of (word (codes "or")) ≡ stays
unfolding step_of_word
or_stays = refl

posedge_stays : step_of (word (codes "posedge")) ≡ stays
unfolding step_of_word
posedge_stays = refl

negedge_stays : step_of (word (codes "negedge")) ≡ stays
unfolding step_of_word
negedge_stays = refl

module_stays : step_of (word (codes "module")) ≡ stays
unfolding step_of_word
module_stays = refl

endmodule_stays : step_of (word (codes "endmodule")) ≡ stays
unfolding step_of_word
endmodule_stays = refl

-- ---- items

edge_kept : (k : EdgeKind) (n : Name) (rest : List Token) → step_of (word n) ≡ stays → (xs : List Opening) → IsShallow xs (edge_words k (word n ∷ rest)) → Keeps xs (edge_words k (word n ∷ rest)) rest (λ q. edge_words k (word n ∷ q))
edge_kept tree.posedge n rest e xs s = after_token (word (codes "posedge")) xs (word n ∷ rest) rest (λ q. word n ∷ q) posedge_stays s (λ h. token_kept (word n) xs rest e h)
edge_kept tree.negedge n rest e xs s = after_token (word (codes "negedge")) xs (word n ∷ rest) rest (λ q. word n ∷ q) negedge_stays s (λ h. token_kept (word n) xs rest e h)
edge_kept tree.any_edge n rest e xs s = token_kept (word n) xs rest e s

event_kept : (e : Event) (text rest : List Token) → IsEvent e text rest → (xs : List Opening) → IsShallow xs text → Keeps xs text rest (event_before e)
event_kept _ _ _ (an_event k n rest free) xs s = edge_kept k n rest (name_stays n free) xs s

or_front : (es : List Event) (text rest : List Token) → AreEvents es text rest → (q : List Token) → events_before true es q ≡ word (codes "or") ∷ events_before false es q
or_front _ _ _ (last_event e text rest d) q = refl
or_front _ _ _ (or_event e es text more rest d ds) q = refl
or_front _ _ _ (comma_event e es text more rest d ds) q = refl

-- events, with the bracket that closes behind them
events_kept : (es : List Event) (text rest : List Token) → AreEvents es text rest → (xs : List Opening) → IsShallow (in_parentheses ∷ xs) text
    → (more : List Token) → Keeps (in_parentheses ∷ xs) text (mark right_parenthesis ∷ rest) (events_before false es)
events_kept _ _ _ (last_event e text rest d) xs s more = event_kept e text (mark right_parenthesis ∷ rest) d (in_parentheses ∷ xs) s
events_kept _ _ _ (or_event e es text others rest d ds) xs s more =
    let a = event_kept e text (word (codes "or") ∷ others) d (in_parentheses ∷ xs) s in
    let b = token_kept (word (codes "or")) (in_parentheses ∷ xs) others or_stays a.shallow in
    kept_as (in_parentheses ∷ xs) text (mark right_parenthesis ∷ rest) (λ q. event_before e (word (codes "or") ∷ events_before false es q)) (events_before false (e ∷ es)) (λ q. ap (event_before e) (sym (or_front es others rest ds q)))
    (then_kept (in_parentheses ∷ xs) text (word (codes "or") ∷ others) (mark right_parenthesis ∷ rest) (event_before e) (λ q. word (codes "or") ∷ events_before false es q) a
    (then_kept (in_parentheses ∷ xs) (word (codes "or") ∷ others) others (mark right_parenthesis ∷ rest) (λ q. word (codes "or") ∷ q) (events_before false es) b (events_kept es others rest ds xs b.shallow more)))
events_kept _ _ _ (comma_event e es text others rest d ds) xs s more =
    let a = event_kept e text (mark comma ∷ others) d (in_parentheses ∷ xs) s in
    let b = other_kept (mark comma) (word (codes "or")) (in_parentheses ∷ xs) others refl or_stays a.shallow in
    kept_as (in_parentheses ∷ xs) text (mark right_parenthesis ∷ rest) (λ q. event_before e (word (codes "or") ∷ events_before false es q)) (events_before false (e ∷ es)) (λ q. ap (event_before e) (sym (or_front es others rest ds q)))
    (then_kept (in_parentheses ∷ xs) text (mark comma ∷ others) (mark right_parenthesis ∷ rest) (event_before e) (λ q. word (codes "or") ∷ events_before false es q) a
    (then_kept (in_parentheses ∷ xs) (mark comma ∷ others) others (mark right_parenthesis ∷ rest) (λ q. word (codes "or") ∷ q) (events_before false es) b (events_kept es others rest ds xs b.shallow more)))

-- * in brackets, for which * alone is printed
star_kept : (xs : List Opening) (rest : List Token) → IsShallow xs (mark left_parenthesis ∷ mark star ∷ mark right_parenthesis ∷ rest) → Keeps xs (mark left_parenthesis ∷ mark star ∷ mark right_parenthesis ∷ rest) rest (λ q. mark star ∷ q)
star_kept xs rest s =
    let a = behind_opens in_parentheses (mark left_parenthesis) xs (mark star ∷ mark right_parenthesis ∷ rest) refl s in
    let b = behind_stays (mark star) (in_parentheses ∷ xs) (mark right_parenthesis ∷ rest) refl a.1 in
    let c = behind_closes in_parentheses (mark right_parenthesis) xs rest refl b.1 in
    record { shallow = c.1; fits = λ q h. mark_stays star xs q refl c.0 h; count = λ q. fewer (length q) (length rest) }
  where
    fewer : (q r : ℕ) → suc q + r ≤ suc (suc (suc r)) + q
    fewer q r = omega arith

control_kept : (es : Events) (text rest : List Token) → IsControl es text rest → (xs : List Opening) → IsShallow xs text → Keeps xs text rest (control_before es)
control_kept _ _ _ (by_star rest) xs s = token_kept (mark star) xs rest refl s
control_kept _ _ _ (by_star_in_parentheses rest) xs s = star_kept xs rest s
control_kept _ _ _ (by_events es text rest d) xs s =
    pair_kept in_parentheses (mark left_parenthesis) (mark right_parenthesis) xs text rest (events_before false es) refl refl s (λ h. events_kept es text rest d xs h rest)

continuous_kept : KeepsEach (IsAssignment equals) IsPrintableAssignment continuous_before
continuous_kept a text rest d p xs s = assignment_kept equals a text rest d refl p.0 p.1 xs s

overridden : (c : Connections) → ArePrintableOverrides c → ArePrintableConnections c → (q : List Token) → mark hash ∷ mark left_parenthesis ∷ connections_before c q ≡ overrides_before c q
overridden (tree.by_name es) o p q = refl
overridden (tree.by_order []) o p q = absurd p
overridden (tree.by_order (e ∷ es)) o p q = refl

-- what is printed of parameters is printable where they were spelled
spelled_connections : (c : Connections) (text rest : List Token) → grammar.AreConnections c text rest → ArePrintableOverrides c → ArePrintableConnections c
spelled_connections _ _ _ (grammar.named_entries es text rest d) p = p
spelled_connections _ _ _ (grammar.entries es text rest d) p = some_entries es text (mark right_parenthesis ∷ rest) d p
  where
    some_entries : (es : List (Option Expression)) (text rest : List Token) → grammar.AreParted grammar.IsEntry es text rest → Each IsPrintableOptional es → EachOfSome IsPrintableOptional es
    some_entries _ _ _ (grammar.last_part e text rest d) p = p
    some_entries _ _ _ (grammar.and_parts e es text more rest d ds) p = p

overrides_kept : (c : Connections) (text rest : List Token) → AreOverrides c text rest → ArePrintableOverrides c → (xs : List Opening) → IsShallow xs text → Keeps xs text rest (overrides_before c)
overrides_kept _ _ _ (no_overrides rest) p xs s = nothing_kept xs rest s
overrides_kept _ _ _ (overrides c text rest d) p xs s =
    let r = spelled_connections c text rest d p in
    kept_as xs (mark hash ∷ mark left_parenthesis ∷ text) rest (λ q. mark hash ∷ mark left_parenthesis ∷ connections_before c q) (overrides_before c) (overridden c p r)
    (after_token (mark hash) xs (mark left_parenthesis ∷ text) rest (λ q. mark left_parenthesis ∷ connections_before c q) refl s (λ h. connections_kept c text rest d r xs h))

-- what keeps what is open, with the mark that ends it
ended_by : (c : Bool) (xs : List Opening) (text rest : List Token) (f : List Token → List Token) → IsOver [] xs → Keeps xs text (mark semicolon ∷ rest) f → Follows c [] xs text rest (λ q. f (mark semicolon ∷ q))
ended_by c xs text rest f o a = kept_then c [] xs text (mark semicolon ∷ rest) rest f (λ q. mark semicolon ∷ q) a (ended_follows c [] xs rest nothing_base o a.shallow)

item_follows : (c : Bool) (i : Item) (text rest : List Token) → IsItem i text rest → IsPrintableItem i → (xs : List Opening) → IsOver [] xs → IsShallow xs text → Follows c [] xs text rest (item_before c i)
item_follows c _ _ _ (a_port_item p text rest d) q xs o s = ended_by c xs text rest (port_before p) o (port_kept p text (mark semicolon ∷ rest) d q xs s)
item_follows c _ _ _ (a_parameter_item p text rest d) q xs o s = ended_by c xs text rest (parameter_before p) o (parameter_kept p text (mark semicolon ∷ rest) d q xs s)
item_follows c _ _ _ (some_wires b r ws sign range names rest ds dr dw) q xs o s =
    ended_by c xs (word (codes "wire") ∷ sign) rest (λ t. word (codes "wire") ∷ flag_before (codes "signed") b (range_before r (parts_before wire_before false ws t))) o
    (after_token (word (codes "wire")) xs sign (mark semicolon ∷ rest) (λ t. flag_before (codes "signed") b (range_before r (parts_before wire_before false ws t))) wire_stays s (λ h.
    let y = flag_kept b sign range ds xs h in
    let z = range_kept r range names dr q.0 xs y.shallow in
    then_kept xs sign range (mark semicolon ∷ rest) (flag_before (codes "signed") b) (λ t. range_before r (parts_before wire_before false ws t)) y
    (then_kept xs range names (mark semicolon ∷ rest) (range_before r) (parts_before wire_before false ws) z (some_kept IsWire IsPrintableWire wire_before net_kept ws names (mark semicolon ∷ rest) dw q.1 xs z.shallow))))
item_follows c _ _ _ (some_variables b r vs sign range names rest ds dr dv) q xs o s =
    ended_by c xs (word (codes "reg") ∷ sign) rest (λ t. word (codes "reg") ∷ flag_before (codes "signed") b (range_before r (parts_before variable_before false vs t))) o
    (after_token (word (codes "reg")) xs sign (mark semicolon ∷ rest) (λ t. flag_before (codes "signed") b (range_before r (parts_before variable_before false vs t))) reg_stays s (λ h.
    let y = flag_kept b sign range ds xs h in
    let z = range_kept r range names dr q.0 xs y.shallow in
    then_kept xs sign range (mark semicolon ∷ rest) (flag_before (codes "signed") b) (λ t. range_before r (parts_before variable_before false vs t)) y
    (then_kept xs range names (mark semicolon ∷ rest) (range_before r) (parts_before variable_before false vs) z (some_kept IsVariable IsPrintableVariable variable_before variable_kept vs names (mark semicolon ∷ rest) dv q.1 xs z.shallow))))
item_follows c _ _ _ (some_assignments as_ text rest d) q xs o s =
    ended_by c xs (word (codes "assign") ∷ text) rest (λ t. word (codes "assign") ∷ parts_before continuous_before false as_ t) o
    (after_token (word (codes "assign")) xs text (mark semicolon ∷ rest) (parts_before continuous_before false as_) assign_stays s (λ h. some_kept (IsAssignment equals) IsPrintableAssignment continuous_before continuous_kept as_ text (mark semicolon ∷ rest) d q xs h))
item_follows c _ _ _ (a_block es b text more rest de db) q xs o s =
    let a = after_token (word (codes "always")) xs (mark at ∷ text) more (λ t. mark at ∷ control_before es t) always_stays s (λ h. after_token (mark at) xs text more (control_before es) refl h (λ k. control_kept es text more de xs k)) in
    kept_then c [] xs (word (codes "always") ∷ mark at ∷ text) more rest (λ t. word (codes "always") ∷ mark at ∷ control_before es t) (bare_statement c b) a
    (statement_follows c [] nothing_base b more rest db q.1 xs o a.shallow)
item_follows c _ _ _ (some_instances m v is text more rest free dc di) q xs o s =
    ended_by c xs (word m ∷ text) rest (λ t. word m ∷ overrides_before v (parts_before instance_before false is t)) o
    (after_token (word m) xs text (mark semicolon ∷ rest) (λ t. overrides_before v (parts_before instance_before false is t)) (name_stays m free) s (λ h.
    let z = overrides_kept v text more dc q.1 xs h in
    then_kept xs text more (mark semicolon ∷ rest) (overrides_before v) (parts_before instance_before false is) z (some_kept IsInstance IsPrintableInstance instance_before instance_kept is more (mark semicolon ∷ rest) di q.2 xs z.shallow)))

items_follow : (c : Bool) (is : List Item) (text rest : List Token) → AreInRow IsItem is text rest → Each IsPrintableItem is → (xs : List Opening) → IsOver [] xs → IsShallow xs text → Follows c [] xs text rest (row_before (item_before c) is)
items_follow c _ _ _ (no_more rest) p xs o s = nothing_follows c [] xs rest o s
items_follow c _ _ _ (one_more i is text more rest d ds) p xs o s =
    then_follows c [] xs text more rest (item_before c i) (row_before (item_before c) is) (item_follows c i text more d p.0 xs o s) (λ ys over h. items_follow c is more rest ds p.1 ys over h)

-- ---- modules

header_parameter_kept : KeepsEach IsHeaderParameter IsPrintableHeader parameter_before
header_parameter_kept _ _ _ (in_header p text rest d own) q xs s = parameter_kept p text rest d q.0 xs s

header_front : (ps : List ParameterDeclaration) → EachOfSome IsPrintableHeader ps → (q : List Token) → mark hash ∷ mark left_parenthesis ∷ parts_before parameter_before false ps (mark right_parenthesis ∷ q) ≡ header_before ps q
header_front [] p q = absurd p
header_front (x ∷ ps) p q = refl

some_of : (ps : List ParameterDeclaration) (text rest : List Token) → grammar.AreParted IsHeaderParameter ps text rest → Each IsPrintableHeader ps → EachOfSome IsPrintableHeader ps
some_of _ _ _ (grammar.last_part x text rest d) p = p
some_of _ _ _ (grammar.and_parts x ps text more rest d ds) p = p

header_kept : (ps : List ParameterDeclaration) (text rest : List Token) → AreHeaderParameters ps text rest → Each IsPrintableHeader ps → (xs : List Opening) → IsShallow xs text → Keeps xs text rest (header_before ps)
header_kept _ _ _ (no_parameters rest) p xs s = nothing_kept xs rest s
header_kept _ _ _ (some_parameters ps text rest d) p xs s =
    kept_as xs (mark hash ∷ mark left_parenthesis ∷ text) rest (λ q. mark hash ∷ mark left_parenthesis ∷ parts_before parameter_before false ps (mark right_parenthesis ∷ q)) (header_before ps)
    (header_front ps (some_of ps text (mark right_parenthesis ∷ rest) d p))
    (after_token (mark hash) xs (mark left_parenthesis ∷ text) rest (λ q. mark left_parenthesis ∷ parts_before parameter_before false ps (mark right_parenthesis ∷ q)) refl s (λ h.
    pair_kept in_parentheses (mark left_parenthesis) (mark right_parenthesis) xs text rest (parts_before parameter_before false ps) refl refl h (λ k.
    parted_kept IsHeaderParameter IsPrintableHeader parameter_before header_parameter_kept ps text (mark right_parenthesis ∷ rest) d p (in_parentheses ∷ xs) k)))

ports_kept : (p : Ports) (text rest : List Token) → ArePorts p text rest → ArePrintablePorts p → (xs : List Opening) → IsShallow xs text → Keeps xs text rest (ports_before p)
ports_kept _ _ _ (none_listed rest) p xs s = nothing_kept xs rest s
ports_kept _ _ _ (empty_list rest) p xs s =
    pair_kept in_parentheses (mark left_parenthesis) (mark right_parenthesis) xs (mark right_parenthesis ∷ rest) rest (λ q. q) refl refl s (λ k. nothing_kept (in_parentheses ∷ xs) (mark right_parenthesis ∷ rest) k)
ports_kept _ _ _ (names_listed ns text rest d) p xs s =
    pair_kept in_parentheses (mark left_parenthesis) (mark right_parenthesis) xs text rest (parts_before name_before false ns) refl refl s (λ k.
    parted_kept IsName IsPrintableName name_before name_kept ns text (mark right_parenthesis ∷ rest) d p (in_parentheses ∷ xs) k)
ports_kept _ _ _ (ports_declared ps text rest d) p xs s =
    pair_kept in_parentheses (mark left_parenthesis) (mark right_parenthesis) xs text rest (parts_before port_before false ps) refl refl s (λ k.
    some_kept IsPort IsPrintablePort port_before port_kept ps text (mark right_parenthesis ∷ rest) d p (in_parentheses ∷ xs) k)

module_follows : (c : Bool) (m : Module) (text rest : List Token) → IsModule m text rest → IsPrintableModule m → (xs : List Opening) → IsOver [] xs → IsShallow xs text → Follows c [] xs text rest (module_before c m)
module_follows c _ _ _ (a_module n ps p items parameters ports body rest free dh dp di) q xs o s =
    let a =
    after_token (word (codes "module")) xs (word n ∷ parameters) (mark semicolon ∷ body) (λ t. word n ∷ header_before ps (ports_before p t)) module_stays s (λ h.
    after_token (word n) xs parameters (mark semicolon ∷ body) (λ t. header_before ps (ports_before p t)) (name_stays n free) h (λ k.
    let x = header_kept ps parameters ports dh q.1 xs k in
    then_kept xs parameters ports (mark semicolon ∷ body) (header_before ps) (ports_before p) x (ports_kept p ports (mark semicolon ∷ body) dp q.2 xs x.shallow))) in
    then_follows c [] xs (word (codes "module") ∷ word n ∷ parameters) body rest (λ t. word (codes "module") ∷ word n ∷ header_before ps (ports_before p (mark semicolon ∷ t))) (λ t. row_before (item_before c) items (word (codes "endmodule") ∷ t))
    (ended_by c xs (word (codes "module") ∷ word n ∷ parameters) body (λ t. word (codes "module") ∷ word n ∷ header_before ps (ports_before p t)) o a)
    (λ ys over h. then_follows c [] ys body (word (codes "endmodule") ∷ rest) rest (row_before (item_before c) items) (λ t. word (codes "endmodule") ∷ t)
    (items_follow c items body (word (codes "endmodule") ∷ rest) di q.3 ys over h)
    (λ zs above k. kept_then c [] zs (word (codes "endmodule") ∷ rest) rest rest (λ t. word (codes "endmodule") ∷ t) (λ t. t) (token_kept (word (codes "endmodule")) zs rest endmodule_stays k)
    (nothing_follows c [] zs rest above (behind_stays (word (codes "endmodule")) zs rest endmodule_stays k).1)))

modules_follow : (c : Bool) (ms : Source) (text rest : List Token) → AreInRow IsModule ms text rest → Each IsPrintableModule ms → (xs : List Opening) → IsOver [] xs → IsShallow xs text → Follows c [] xs text rest (row_before (module_before c) ms)
modules_follow c _ _ _ (no_more rest) p xs o s = nothing_follows c [] xs rest o s
modules_follow c _ _ _ (one_more m ms text more rest d ds) p xs o s =
    then_follows c [] xs text more rest (module_before c m) (row_before (module_before c) ms) (module_follows c m text more d p.0 xs o s) (λ ys over h. modules_follow c ms more rest ds p.1 ys over h)

-- ---- whole sources

nothing_deep : (xs : List Opening) → IsShallow xs []
unfolding is_too_deep
nothing_deep xs = refl

pub source_shallow : (c : Bool) (ms : Source) (ts : List Token) → IsSource ms ts → IsPrintableSource ms → IsShallow [] ts → IsShallow [] (source_before c ms [])
source_shallow c ms ts d p s =
    let f = modules_follow c ms ts [] d p [] at_base s in
    f.fits [] (nothing_deep f.after)

pub source_small : (ms : Source) (ts : List Token) → IsSource ms ts → IsPrintableSource ms → IsShallow [] ts → length (source_before false ms []) ≤ length ts
source_small ms ts d p s =
    let f = modules_follow false ms ts [] d p [] at_base s in
    by (length (source_before false ms [])) (length ts) (f.count refl [])
  where
    by : (a t : ℕ) → a + 0 ≤ t + 0 → a ≤ t
    by a t h = omega (arith, h)
