-- A port of a module is declared in it.
use Rattle.std.proofs.Common.{◌≡◌, Bool, true, false, cond, List, [], ◌∷◌, ◌++◌, ◌⊎◌, inl, inr, refl, Option, Some, None}
use Rattle.std.specs.Prelude.{IsTrue, is_some, ◌||◌}
use Rattle.wb_values.specs.Value.{Name, same_name, Entries, entry_of}
use Rattle.verilog_trees.specs.Syntax.{Direction, PortDeclaration, Item, port, parameter, wires, variables, assign, always, instances}
use Rattle.verilog_meaning.specs.Hierarchy.{Declaration, each_port, port_declarations, wire_declarations, variable_declarations, item_declarations, header_ports, Placed}
use Rattle.verilog_meaning.specs.Settled.{is_declared_among, IsDeclared, named_ports, declared_ports, item_ports, port_directions, HasPort}

abbrev HasEntry : Entries Direction → Name → Type 0
HasEntry es n = IsTrue (is_some (entry_of es n))

abbrev Declares : List Declaration → Name → Type 0
Declares ds n = IsTrue (is_declared_among ds n)

entry_either : (es fs : Entries Direction) (n : Name) → HasEntry (es ++ fs) n → HasEntry es n ⊎ HasEntry fs n
entry_either [] fs n h = inr h
entry_either (x ∷ es) fs n h = chosen (same_name x.0 n) (entry_either es fs n) h
  where
    chosen : (b : Bool) → (HasEntry (es ++ fs) n → HasEntry es n ⊎ HasEntry fs n) → IsTrue (is_some (cond b (Some x.1) (entry_of (es ++ fs) n)))
        → IsTrue (is_some (cond b (Some x.1) (entry_of es n))) ⊎ HasEntry fs n
    chosen true g f = inl refl
    chosen false g f = g f

declares_left : (ds es : List Declaration) (n : Name) → Declares ds n → Declares (ds ++ es) n
declares_left [] es n h = cc
declares_left (d ∷ ds) es n h = chosen (same_name d.of_name n) (declares_left ds es n) h
  where
    chosen : (b : Bool) → (Declares ds n → Declares (ds ++ es) n) → IsTrue (b || is_declared_among ds n) → IsTrue (b || is_declared_among (ds ++ es) n)
    chosen true g f = refl
    chosen false g f = g f

declares_right : (ds es : List Declaration) (n : Name) → Declares es n → Declares (ds ++ es) n
declares_right [] es n h = h
declares_right (d ∷ ds) es n h = chosen (same_name d.of_name n) (declares_right ds es n h)
  where
    chosen : (b : Bool) → Declares (ds ++ es) n → IsTrue (b || is_declared_among (ds ++ es) n)
    chosen true f = refl
    chosen false f = f

port_named : (d : PortDeclaration) (ns : List Name) (n : Name) → HasEntry (named_ports d.direction ns) n → Declares (each_port d ns) n
port_named d [] n h = cc
port_named d (m ∷ ns) n h = chosen (same_name m n) (port_named d ns n) h
  where
    chosen : (b : Bool) → (HasEntry (named_ports d.direction ns) n → Declares (each_port d ns) n)
        → IsTrue (is_some (cond b (Some d.direction) (entry_of (named_ports d.direction ns) n))) → IsTrue (b || is_declared_among (each_port d ns) n)
    chosen true g f = refl
    chosen false g f = g f

header_port : (ds : List PortDeclaration) (n : Name) → HasEntry (declared_ports ds) n → Declares (port_declarations ds) n
header_port [] n h = cc
header_port (d ∷ ds) n h =
    elim (entry_either (named_ports d.direction d.names) (declared_ports ds) n h) as (λ _. Declares (each_port d d.names ++ port_declarations ds) n) [
      | inl k ↦ declares_left (each_port d d.names) (port_declarations ds) n (port_named d d.names n k)
      | inr k ↦ declares_right (each_port d d.names) (port_declarations ds) n (header_port ds n k)
    ]

item_port : (items : List Item) (n : Name) → HasEntry (item_ports items) n → Declares (item_declarations items) n
item_port [] n h = cc
item_port (port d ∷ items) n h =
    elim (entry_either (named_ports d.direction d.names) (item_ports items) n h) as (λ _. Declares (each_port d d.names ++ item_declarations items) n) [
      | inl k ↦ declares_left (each_port d d.names) (item_declarations items) n (port_named d d.names n k)
      | inr k ↦ declares_right (each_port d d.names) (item_declarations items) n (item_port items n k)
    ]
item_port (parameter d ∷ items) n h = item_port items n h
item_port (wires signed r ws ∷ items) n h = declares_right (wire_declarations signed r ws) (item_declarations items) n (item_port items n h)
item_port (variables signed r vs ∷ items) n h = declares_right (variable_declarations signed r vs) (item_declarations items) n (item_port items n h)
item_port (assign ts ∷ items) n h = item_port items n h
item_port (always es x ∷ items) n h = item_port items n h
item_port (instances m given is ∷ items) n h = item_port items n h

pub port_is_declared : (p : Placed) (n : Name) (way : Direction) → HasPort p.of_module n way → IsDeclared p n
port_is_declared p n way h =
    elim (entry_either (declared_ports (header_ports p.of_module.ports)) (item_ports p.of_module.items) n (there (entry_of (port_directions p.of_module) n) h))
    as (λ _. Declares (port_declarations (header_ports p.of_module.ports) ++ item_declarations p.of_module.items) n) [
      | inl k ↦ declares_left (port_declarations (header_ports p.of_module.ports)) (item_declarations p.of_module.items) n
          (header_port (header_ports p.of_module.ports) n k)
      | inr k ↦ declares_right (port_declarations (header_ports p.of_module.ports)) (item_declarations p.of_module.items) n
          (item_port p.of_module.items n k)
    ]
  where
    there : (x : Option Direction) → x ≡ Some way → IsTrue (is_some x)
    there None e = cc
    there (Some w) e = refl
