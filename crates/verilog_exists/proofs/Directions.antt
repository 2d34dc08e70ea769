-- The direction of a port is that of what is declared of its name.
use Rattle.std.proofs.Common.{◌≡◌, Bool, true, false, cond, List, [], ◌∷◌, ◌++◌, refl, sym, ap, ◌∙◌, Option, Some, None}
use Rattle.std.specs.Prelude.{IsTrue, is_some, ◌||◌}
use Rattle.wb_values.specs.Value.{Name, same_name, Entries, entry_of}
use Rattle.wb_values.specs.Choice.{first_of}
use Rattle.verilog_trees.specs.Syntax.{Expression, Range, Direction, input, output, PortDeclaration, Item, port, parameter, wires, variables, assign, always, instances, Module}
use Rattle.verilog_meaning.specs.Hierarchy.{Declaration, and_later, declaration_of, declarations, each_port, port_declarations, wire_declarations, variable_declarations, item_declarations, header_ports}
use Rattle.verilog_meaning.specs.Settled.{is_declared_among, named_ports, declared_ports, item_ports, port_directions, HasPort}
use Rattle.verilog_designs.specs.Ports.{is_input}
use Rattle.verilog_designs.specs.Drivers.{is_declared_reg, is_declared_input}

abbrev direction_in : Option Declaration → Option Direction
direction_in None = None
direction_in (Some d) = d.direction

abbrev direction_of : List Declaration → Name → Option Direction
direction_of ds n = direction_in (declaration_of ds n)

first_assoc : {A : Type 0} (x y z : Option A) → first_of (first_of x y) z ≡ first_of x (first_of y z)
first_assoc None y z = refl
first_assoc (Some a) y z = refl

one_more : (b : Bool) (d : Declaration) (x : Option Declaration)
    → direction_in (cond b (Some (and_later d x)) x) ≡ first_of (cond b d.direction None) (direction_in x)
one_more true d None = plain d.direction
  where
    plain : (x : Option Direction) → x ≡ first_of x None
    plain None = refl
    plain (Some y) = refl
one_more true d (Some e) = refl
one_more false d x = refl

declared_append : (ds es : List Declaration) (n : Name) → direction_of (ds ++ es) n ≡ first_of (direction_of ds n) (direction_of es n)
declared_append [] es n = refl
declared_append (d ∷ ds) es n =
    one_more (same_name d.of_name n) d (declaration_of (ds ++ es) n)
    ∙ ap (first_of (cond (same_name d.of_name n) d.direction None)) (declared_append ds es n)
    ∙ sym (first_assoc (cond (same_name d.of_name n) d.direction None) (direction_of ds n) (direction_of es n))
    ∙ ap (λ x. first_of x (direction_of es n)) (sym (one_more (same_name d.of_name n) d (declaration_of ds n)))

first_cond : (b : Bool) (y : Direction) (rest : Option Direction) → first_of (cond b (Some y) None) rest ≡ cond b (Some y) rest
first_cond true y rest = refl
first_cond false y rest = refl

entry_cond : (b : Bool) (y : Direction) (x z : Option Direction) → cond b (Some y) (first_of x z) ≡ first_of (cond b (Some y) x) z
entry_cond true y x z = refl
entry_cond false y x z = refl

entries_append : (es fs : Entries Direction) (n : Name) → entry_of (es ++ fs) n ≡ first_of (entry_of es n) (entry_of fs n)
entries_append [] fs n = refl
entries_append (e ∷ es) fs n =
    ap (cond (same_name e.0 n) (Some e.1)) (entries_append es fs n) ∙ entry_cond (same_name e.0 n) e.1 (entry_of es n) (entry_of fs n)

of_port : (d : PortDeclaration) (ns : List Name) (n : Name) → direction_of (each_port d ns) n ≡ entry_of (named_ports d.direction ns) n
of_port d [] n = refl
of_port d (m ∷ ns) n =
    one_more (same_name m n) (record { of_name = m; direction = Some d.direction; kind = d.kind; signed = d.signed; range = d.range; addresses = None }) (declaration_of (each_port d ns) n)
    ∙ ap (first_of (cond (same_name m n) (Some d.direction) None)) (of_port d ns n)
    ∙ first_cond (same_name m n) d.direction (entry_of (named_ports d.direction ns) n)

of_ports : (ds : List PortDeclaration) (n : Name) → direction_of (port_declarations ds) n ≡ entry_of (declared_ports ds) n
of_ports [] n = refl
of_ports (d ∷ ds) n =
    declared_append (each_port d d.names) (port_declarations ds) n
    ∙ ap (λ x. first_of x (direction_of (port_declarations ds) n)) (of_port d d.names n)
    ∙ ap (first_of (entry_of (named_ports d.direction d.names) n)) (of_ports ds n)
    ∙ sym (entries_append (named_ports d.direction d.names) (declared_ports ds) n)

none_first : (b : Bool) (x : Option Direction) → first_of (cond b None None) x ≡ x
none_first true x = refl
none_first false x = refl

of_wires : (signed : Bool) (r : Option Range) (ws : List (Name × Option Expression)) (n : Name) → direction_of (wire_declarations signed r ws) n ≡ None
of_wires signed r [] n = refl
of_wires signed r (w ∷ ws) n =
    one_more (same_name w.0 n) (record { of_name = w.0; direction = None; kind = _; signed = signed; range = r; addresses = None })
    (declaration_of (wire_declarations signed r ws) n)
    ∙ none_first (same_name w.0 n) (direction_of (wire_declarations signed r ws) n) ∙ of_wires signed r ws n

of_variables : (signed : Bool) (r : Option Range) (vs : List (Name × Option Range)) (n : Name) → direction_of (variable_declarations signed r vs) n ≡ None
of_variables signed r [] n = refl
of_variables signed r (v ∷ vs) n =
    one_more (same_name v.0 n) (record { of_name = v.0; direction = None; kind = _; signed = signed; range = r; addresses = v.1 })
    (declaration_of (variable_declarations signed r vs) n)
    ∙ none_first (same_name v.0 n) (direction_of (variable_declarations signed r vs) n) ∙ of_variables signed r vs n

of_items : (items : List Item) (n : Name) → direction_of (item_declarations items) n ≡ entry_of (item_ports items) n
of_items [] n = refl
of_items (port d ∷ items) n =
    declared_append (each_port d d.names) (item_declarations items) n
    ∙ ap (λ x. first_of x (direction_of (item_declarations items) n)) (of_port d d.names n)
    ∙ ap (first_of (entry_of (named_ports d.direction d.names) n)) (of_items items n)
    ∙ sym (entries_append (named_ports d.direction d.names) (item_ports items) n)
of_items (parameter d ∷ items) n = of_items items n
of_items (wires signed r ws ∷ items) n =
    declared_append (wire_declarations signed r ws) (item_declarations items) n
    ∙ ap (λ x. first_of x (direction_of (item_declarations items) n)) (of_wires signed r ws n) ∙ of_items items n
of_items (variables signed r vs ∷ items) n =
    declared_append (variable_declarations signed r vs) (item_declarations items) n
    ∙ ap (λ x. first_of x (direction_of (item_declarations items) n)) (of_variables signed r vs n) ∙ of_items items n
of_items (assign ts ∷ items) n = of_items items n
of_items (always es x ∷ items) n = of_items items n
of_items (instances m given is ∷ items) n = of_items items n

directions : (m : Module) (n : Name) → direction_of (declarations m) n ≡ entry_of (port_directions m) n
directions m n =
    declared_append (port_declarations (header_ports m.ports)) (item_declarations m.items) n
    ∙ ap (λ x. first_of x (direction_of (item_declarations m.items) n)) (of_ports (header_ports m.ports) n)
    ∙ ap (first_of (entry_of (declared_ports (header_ports m.ports)) n)) (of_items m.items n)
    ∙ sym (entries_append (declared_ports (header_ports m.ports)) (item_ports m.items) n)

-- an input port is declared as an input
pub input_declared : (m : Module) (n : Name) → HasPort m n input → is_declared_input (declaration_of (declarations m) n) ≡ true
input_declared m n h = found (declaration_of (declarations m) n) (directions m n ∙ h)
  where
    found : (x : Option Declaration) → direction_in x ≡ Some input → is_declared_input x ≡ true
    found None e = cc
    found (Some d) e = way d.direction e
      where
        way : (y : Option Direction) → y ≡ Some input → is_input y ≡ true
        way None f = cc
        way (Some input) f = refl
        way (Some output) f = cc

-- what something is declared of is declared
pub something_declared : (ds : List Declaration) (n : Name) → IsTrue (is_some (declaration_of ds n)) → IsTrue (is_declared_among ds n)
something_declared [] n t = cc
something_declared (d ∷ ds) n t = chosen (same_name d.of_name n) (something_declared ds n) t
  where
    chosen : (b : Bool) → (IsTrue (is_some (declaration_of ds n)) → IsTrue (is_declared_among ds n))
        → IsTrue (is_some (cond b (Some (and_later d (declaration_of ds n))) (declaration_of ds n))) → IsTrue (b || is_declared_among ds n)
    chosen true f h = refl
    chosen false f h = f h

pub variable_declared : (ds : List Declaration) (n : Name) → is_declared_reg (declaration_of ds n) ≡ true → IsTrue (is_declared_among ds n)
variable_declared ds n e = something_declared ds n (found (declaration_of ds n) e)
  where
    found : (x : Option Declaration) → is_declared_reg x ≡ true → IsTrue (is_some x)
    found None f = cc
    found (Some d) f = refl
