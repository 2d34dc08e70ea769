-- Outputs are declared.
use Rattle.std.proofs.Common.{◌≡◌, Bool, true, false, cond, ◌||◌, List, [], ◌∷◌, ◌++◌, Option, Some, None, is_some, ◌⊎◌, inl, inr, refl}
use Rattle.std.proofs.lemmas.Bool.{false≢true}
use Rattle.wb_values.specs.Value.{Name, same_name, Entries, entry_of}
use Rattle.verilog_trees.specs.Syntax.{Direction, PortDeclaration, Item, port, parameter, wires, variables, assign, always, instances, Module}
use Rattle.verilog_meaning.specs.Hierarchy.{Declaration, each_port, port_declarations, item_declarations, header_ports, declarations, wire_declarations, variable_declarations}
use Rattle.verilog_meaning.specs.Settled.{is_declared_among, named_ports, declared_ports, item_ports, port_directions}
use Rattle.verilog_registers.specs.Outputs.{is_output}

-- each name of the entries is declared
abbrev Covers : Entries Direction → List Declaration → Type 0
Covers es ds = (n : Name) → is_some (entry_of es n) ≡ true → is_declared_among ds n ≡ true

more : (cs ds : List Declaration) (n : Name) → is_declared_among ds n ≡ true → is_declared_among (cs ++ ds) n ≡ true
more [] ds n h = h
more (c ∷ cs) ds n h = either (same_name c.of_name n) (is_declared_among (cs ++ ds) n) (more cs ds n h)
  where
    either : (a b : Bool) → b ≡ true → (a || b) ≡ true
    either true b h = refl
    either false b h = h

first : (cs ds : List Declaration) (n : Name) → is_declared_among cs n ≡ true → is_declared_among (cs ++ ds) n ≡ true
first [] ds n h = absurd (false≢true h)
first (c ∷ cs) ds n h = one (same_name c.of_name n) h (first cs ds n)
  where
    one : (t : Bool) → (t || is_declared_among cs n) ≡ true → (is_declared_among cs n ≡ true → is_declared_among (cs ++ ds) n ≡ true) → (t || is_declared_among (cs ++ ds) n) ≡ true
    one true g r = refl
    one false g r = r g

found : (es fs : Entries Direction) (n : Name) → is_some (entry_of (es ++ fs) n) ≡ true → (is_some (entry_of es n) ≡ true) ⊎ (is_some (entry_of fs n) ≡ true)
found [] fs n p = inr p
found (x ∷ es) fs n p = one (same_name x.0 n) p (found es fs n)
  where
    one : (t : Bool) → is_some (cond t (Some x.1) (entry_of (es ++ fs) n)) ≡ true
        → (is_some (entry_of (es ++ fs) n) ≡ true → (is_some (entry_of es n) ≡ true) ⊎ (is_some (entry_of fs n) ≡ true))
        → (is_some (cond t (Some x.1) (entry_of es n)) ≡ true) ⊎ (is_some (entry_of fs n) ≡ true)
    one true q r = inl refl
    one false q r = r q

both : (es fs : Entries Direction) (cs ds : List Declaration) → Covers es cs → Covers fs ds → Covers (es ++ fs) (cs ++ ds)
both es fs cs ds h g n p = one (found es fs n p)
  where
    one : (is_some (entry_of es n) ≡ true) ⊎ (is_some (entry_of fs n) ≡ true) → is_declared_among (cs ++ ds) n ≡ true
    one (inl q) = first cs ds n (h n q)
    one (inr q) = more cs ds n (g n q)

none : (ds : List Declaration) → Covers [] ds
none ds n p = absurd (false≢true p)

ports_covered : (d : PortDeclaration) (ns : List Name) → Covers (named_ports d.direction ns) (each_port d ns)
ports_covered d [] n p = absurd (false≢true p)
ports_covered d (m ∷ ns) n p = one (same_name m n) p (ports_covered d ns n)
  where
    one : (t : Bool) → is_some (cond t (Some d.direction) (entry_of (named_ports d.direction ns) n)) ≡ true
        → (is_some (entry_of (named_ports d.direction ns) n) ≡ true → is_declared_among (each_port d ns) n ≡ true) → (t || is_declared_among (each_port d ns) n) ≡ true
    one true q r = refl
    one false q r = r q

header_covered : (ds : List PortDeclaration) → Covers (declared_ports ds) (port_declarations ds)
header_covered [] = none []
header_covered (d ∷ ds) = both (named_ports d.direction d.names) (declared_ports ds) (each_port d d.names) (port_declarations ds) (ports_covered d d.names) (header_covered ds)

items_covered : (items : List Item) → Covers (item_ports items) (item_declarations items)
items_covered [] = none []
items_covered (port d ∷ items) = both (named_ports d.direction d.names) (item_ports items) (each_port d d.names) (item_declarations items) (ports_covered d d.names) (items_covered items)
items_covered (parameter d ∷ items) = items_covered items
items_covered (wires signed r ws ∷ items) = λ n p. more (wire_declarations signed r ws) (item_declarations items) n (items_covered items n p)
items_covered (variables signed r vs ∷ items) = λ n p. more (variable_declarations signed r vs) (item_declarations items) n (items_covered items n p)
items_covered (assign ts ∷ items) = items_covered items
items_covered (always es x ∷ items) = items_covered items
items_covered (instances m given is ∷ items) = items_covered items

pub port_declared : (m : Module) (n : Name) → is_some (entry_of (port_directions m) n) ≡ true → is_declared_among (declarations m) n ≡ true
port_declared m =
    both (declared_ports (header_ports m.ports)) (item_ports m.items) (port_declarations (header_ports m.ports)) (item_declarations m.items)
    (header_covered (header_ports m.ports)) (items_covered m.items)

some_output : (o : Option Direction) → is_output o ≡ true → is_some o ≡ true
some_output None h = absurd (false≢true h)
some_output (Some w) h = refl

pub output_declared : (m : Module) (n : Name) → is_output (entry_of (port_directions m) n) ≡ true → is_declared_among (declarations m) n ≡ true
output_declared m n h = port_declared m n (some_output (entry_of (port_directions m) n) h)
