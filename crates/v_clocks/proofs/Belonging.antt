-- The instances of a module and what is connected to them: a connection of the module is one of its instance, and the other way round.
use Rattle.std.proofs.Common.{◌≡◌, ℕ, suc, false, List, [], ◌∷◌, ◌++◌, inl, inr, sym, ap, ◌∙◌, subst, Option, Some, None}
use Rattle.wb_values.specs.Value.{Name}
use Rattle.verilog_trees.specs.Syntax.{Expression, Connections, by_name, by_order, Item, port, parameter, wires, variables, assign, always, instances, Module}
use Rattle.verilog_meaning.specs.Hierarchy.{Instance, instance_named}
use Rattle.verilog_meaning.specs.Settled.{Connection, PortPlace, port_named, port_numbered, connection_if_any, named_connections, ordered_connections, instance_connections, connections_of_each, port_connections}
use Rattle.verilog_designs.specs.Names.{has_duplicate}
use Rattle.verilog_unique.proofs.Descent.{IsAmong, among_left, among_right, among_either}
use Rattle.verilog_unique.proofs.Instances.{Belongs, belongs}
use Rattle.v_places.specs.Below.{each_instance, all_instances}
use Rattle.v_places.proofs.Spots.{named_there, there_named, same_some}

-- ---- the instance that a connection is of

if_any_of : (u : Name) (q : PortPlace) (o : Option Expression) (c : Connection) → IsAmong (connection_if_any u q o) c → u ≡ c.of_instance
if_any_of u q None c h = absurd h
if_any_of u q (Some e) c (inl h) = ap (λ (z : Connection). z.of_instance) h
if_any_of u q (Some e) c (inr h) = absurd h

named_of : (u : Name) (cs : List (Name × Option Expression)) (c : Connection) → IsAmong (named_connections u cs) c → u ≡ c.of_instance
named_of u [] c h = absurd h
named_of u (x ∷ cs) c h =
    elim (among_either (connection_if_any u (port_named x.0) x.1) (named_connections u cs) c h) as (λ _. u ≡ c.of_instance)
    [ inl k ↦ if_any_of u (port_named x.0) x.1 c k | inr k ↦ named_of u cs c k ]

ordered_of : (u : Name) (i : ℕ) (es : List (Option Expression)) (c : Connection) → IsAmong (ordered_connections u i es) c → u ≡ c.of_instance
ordered_of u i [] c h = absurd h
ordered_of u i (x ∷ es) c h =
    elim (among_either (connection_if_any u (port_numbered i) x) (ordered_connections u (suc i) es) c h) as (λ _. u ≡ c.of_instance)
    [ inl k ↦ if_any_of u (port_numbered i) x c k | inr k ↦ ordered_of u (suc i) es c k ]

pub instance_of : (u : Name) (cs : Connections) (c : Connection) → IsAmong (instance_connections u cs) c → u ≡ c.of_instance
instance_of u (by_name cs) c h = named_of u cs c h
instance_of u (by_order es) c h = ordered_of u 0 es c h

-- ---- the connections of an instance among those of the module

each_listed : (m : Name) (given : Connections) (is : List (Name × Connections)) (u : Name) (i : Instance) (c : Connection)
    → IsAmong (each_instance m given is) (u, i) → IsAmong (instance_connections u i.connections) c → IsAmong (connections_of_each is) c
each_listed m given [] u i c h k = absurd h
each_listed m given (x ∷ is) u i c (inl e) k =
    among_left (instance_connections x.0 x.1) (connections_of_each is) c
    (subst (λ (z : Name × Instance). IsAmong (instance_connections z.0 z.1.connections) c) (sym e) k)
each_listed m given (x ∷ is) u i c (inr h) k = among_right (instance_connections x.0 x.1) (connections_of_each is) c (each_listed m given is u i c h k)

all_listed : (items : List Item) (u : Name) (i : Instance) (c : Connection) → IsAmong (all_instances items) (u, i)
    → IsAmong (instance_connections u i.connections) c → IsAmong (port_connections items) c
all_listed [] u i c h k = absurd h
all_listed (port d ∷ items) u i c h k = all_listed items u i c h k
all_listed (parameter d ∷ items) u i c h k = all_listed items u i c h k
all_listed (wires s r ws ∷ items) u i c h k = all_listed items u i c h k
all_listed (variables s r vs ∷ items) u i c h k = all_listed items u i c h k
all_listed (assign ts ∷ items) u i c h k = all_listed items u i c h k
all_listed (always es x ∷ items) u i c h k = all_listed items u i c h k
all_listed (instances m given is ∷ items) u i c h k =
    elim (among_either (each_instance m given is) (all_instances items) (u, i) h) as (λ _. IsAmong (connections_of_each is ++ port_connections items) c) [
      | inl g ↦ among_left (connections_of_each is) (port_connections items) c (each_listed m given is u i c g k)
      | inr g ↦ among_right (connections_of_each is) (port_connections items) c (all_listed items u i c g k)
    ]

pub connected_listed : (m : Module) (u : Name) (i : Instance) (c : Connection) → instance_named m.items u ≡ Some i
    → IsAmong (instance_connections u i.connections) c → IsAmong (port_connections m.items) c
connected_listed m u i c h k = all_listed m.items u i c (there_named m u i h) k

-- ---- and the other way

each_there : (m : Name) (given : Connections) (is : List (Name × Connections)) (u : Name) (cs : Connections) → IsAmong is (u, cs)
    → IsAmong (each_instance m given is) (u, record { of_module = m; parameters = given; connections = cs })
each_there m given [] u cs h = absurd h
each_there m given (x ∷ is) u cs (inl e) = inl (ap (λ (z : Name × Connections). (z.0, record { of_module = m; parameters = given; connections = z.1 })) e)
each_there m given (x ∷ is) u cs (inr h) = inr (each_there m given is u cs h)

module _ (m : Name) (given : Connections) (each : List (Name × Connections)) (e : Name × Instance) (h : IsAmong (each_instance m given each) e) where
  all_there : (items : List Item) → IsAmong items (instances m given each) → IsAmong (all_instances items) e
  all_there [] k = absurd k
  all_there (i ∷ items) (inl k) =
      subst (λ (z : Item). IsAmong (all_instances (z ∷ items)) e) (sym k) (among_left (each_instance m given each) (all_instances items) e h)
  all_there (i ∷ items) (inr k) = later i (all_there items k)
    where
      later : (z : Item) → IsAmong (all_instances items) e → IsAmong (all_instances (z ∷ items)) e
      later (port d) g = g
      later (parameter d) g = g
      later (wires s r ws) g = g
      later (variables s r vs) g = g
      later (assign ts) g = g
      later (always es x) g = g
      later (instances o gs js) g = among_right (each_instance o gs js) (all_instances items) e g

-- the instance to which a connection belongs is the one of its name
pub instance_there : (m : Module) (c : Connection) → has_duplicate m ≡ false → (b : Belongs m.items c)
    → instance_named m.items c.of_instance ≡ Some (record { of_module = b.of_module; parameters = b.given; connections = b.connections })
instance_there m c once b =
    let e : Name × Instance = (c.of_instance, record { of_module = b.of_module; parameters = b.given; connections = b.connections }) in
    let there : IsAmong (all_instances m.items) e
    = all_there b.of_module b.given b.each e (each_there b.of_module b.given b.each c.of_instance b.connections b.is_instance) m.items b.is_item in
    named_there m e once there

-- the connection is among those of the one instance of its name
pub listed_connected : (m : Module) (c : Connection) (i : Instance) → has_duplicate m ≡ false → IsAmong (port_connections m.items) c
    → instance_named m.items c.of_instance ≡ Some i → IsAmong (instance_connections c.of_instance i.connections) c
listed_connected m c i once h named =
    let b = belongs m.items c h in
    let own : Instance = record { of_module = b.of_module; parameters = b.given; connections = b.connections } in
    let same : own ≡ i = same_some own i (sym (instance_there m c once b) ∙ named) in
    subst (λ (z : Instance). IsAmong (instance_connections c.of_instance z.connections) c) same b.is_one
