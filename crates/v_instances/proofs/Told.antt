-- What the rules say of overrides and connections, one after the other, is what they say of them together.
use Rattle.std.proofs.Common.{◌≡◌, ◌∙◌, refl, ap, sym, ℕ, suc, ◌+◌, Bool, true, false, cond, List, [], ◌∷◌, ◌++◌, Option, Some, None, arith}
use Rattle.wb_values.specs.Value.{Name}
use Rattle.verilog_trees.specs.Syntax.{Expression, Connections, by_name, by_order, Item, port, parameter, wires, variables, assign, always, instances, Module, Source}
use Rattle.verilog_meaning.specs.Expression.{Scope}
use Rattle.verilog_meaning.specs.Hierarchy.{module_named}
use Rattle.verilog_meaning.specs.Settled.{as_target, PortPlace, port_named, port_numbered, port_meant, Connection, connection_if_any, named_connections, ordered_connections, instance_connections}
use Rattle.verilog_designs.specs.Ports.{is_output, port_direction}
use Rattle.verilog_rules.specs.Expression.{broken, anywhere}
use Rattle.verilog_designs.specs.Expressions.{broken_output, broken_connection, broken_connections, broken_instances, broken_named_values, broken_ordered_values, broken_overrides}
use Rattle.v_size.specs.declared.rule.Broken.{Broken}
use Rattle.v_size.specs.Rule.{coded, both}
use Rattle.v_size.proofs.Chains.{both-none, both-assoc}
use Rattle.v_instances.specs.declared.interface.Interface.{Interface}
use Rattle.v_instances.specs.declared.interface.Interfaces.{Interfaces}
use Rattle.v_instances.specs.Interface.{IsInterfaceIfAny, interface_in, AreInterfacesOf}
use Rattle.v_instances.specs.Outputs.{none, expression_at, output_at, constant_at}
use Rattle.v_instances.specs.Connected.{is_output_to, connected_at, connection_at, named_from, ordered_from, connections_at, instances_from, named_values_from, ordered_values_from, overrides_at, instance_item_at, instance_items_from}
use Rattle.v_instances.specs.Rules.{broken_instance_item, broken_instance_items}
use Rattle.v_instances.proofs.Fitting.{output_so}

abbrev connection : Name → PortPlace → Expression → Connection
connection u q e = record { of_instance = u; to_port = q; expression = e }

module _ (s : Scope) where
  -- ---- overrides

  named-values : (cs : List (Name × Option Expression)) (a : Broken) → named_values_from s a cs ≡ both a (coded (broken_named_values s cs))
  unfolding constant_at
  named-values [] a = both-none a
  named-values ((n, None) ∷ cs) a = named-values cs (both a none) ∙ ap (λ z. both z (coded (broken_named_values s cs))) (sym (both-none a))
  named-values ((n, Some e) ∷ cs) a = named-values cs (both a (constant_at s e)) ∙ sym (both-assoc a (constant_at s e) (coded (broken_named_values s cs)))

  ordered-values : (es : List (Option Expression)) (a : Broken) → ordered_values_from s a es ≡ both a (coded (broken_ordered_values s es))
  unfolding constant_at
  ordered-values [] a = both-none a
  ordered-values (None ∷ es) a = ordered-values es (both a none) ∙ ap (λ z. both z (coded (broken_ordered_values s es))) (sym (both-none a))
  ordered-values (Some e ∷ es) a = ordered-values es (both a (constant_at s e)) ∙ sym (both-assoc a (constant_at s e) (coded (broken_ordered_values s es)))

  overrides-told : (c : Connections) → overrides_at s c ≡ coded (broken_overrides s c)
  overrides-told (by_name cs) = named-values cs none
  overrides-told (by_order es) = ordered-values es none

  -- ---- connections of instances of a module, if there is one

  connected-told : (d : Bool) (e : Expression) → connected_at s d e ≡ coded (cond d (broken_output s e (as_target e)) (broken s anywhere e))
  unfolding expression_at output_at
  connected-told true e = refl
  connected-told false e = refl

  chosen : (b : Bool) (u : Name) (q : PortPlace) (m : Module) (e : Expression) → b ≡ is_output (port_direction m (port_meant m q))
      → connected_at s b e ≡ coded (broken_connection s (Some m) (connection u q e))
  chosen b u q m e h = ap (λ z. connected_at s z e) h ∙ connected-told (is_output (port_direction m (port_meant m q))) e

  one-told : (o : Option Interface) (p : Option Module) → IsInterfaceIfAny o p → (u : Name) (q : PortPlace) (e : Expression)
      → connected_at s (is_output_to o q) e ≡ coded (broken_connection s p (connection u q e))
  unfolding expression_at
  one-told None None h u q e = refl
  one-told None (Some m) h u q e = absurd h
  one-told (Some i) None h u q e = absurd h
  one-told (Some i) (Some m) h u q e = chosen (is_output_to (Some i) q) u q m e (output_so i m h q)

  module _ (o : Option Interface) (p : Option Module) (so : IsInterfaceIfAny o p) where
    step : (u : Name) (q : PortPlace) (x : Option Expression) (rest : List Connection) (a : Broken)
        → both (both a (connection_at s o q x)) (coded (broken_connections s p rest)) ≡ both a (coded (broken_connections s p (connection_if_any u q x ++ rest)))
    step u q None rest a = ap (λ z. both z (coded (broken_connections s p rest))) (sym (both-none a))
    step u q (Some e) rest a =
        ap (λ z. both (both a z) (coded (broken_connections s p rest))) (one-told o p so u q e)
        ∙ sym (both-assoc a (coded (broken_connection s p (connection u q e))) (coded (broken_connections s p rest)))

    named-told : (u : Name) (cs : List (Name × Option Expression)) (a : Broken) → named_from s o a cs ≡ both a (coded (broken_connections s p (named_connections u cs)))
    named-told u [] a = both-none a
    named-told u (c ∷ cs) a = named-told u cs (both a (connection_at s o (port_named c.0) c.1)) ∙ step u (port_named c.0) c.1 (named_connections u cs) a

    ordered-told : (u : Name) (k : ℕ) (es : List (Option Expression)) (a : Broken) → ordered_from s o k a es ≡ both a (coded (broken_connections s p (ordered_connections u k es)))
    ordered-told u k [] a = both-none a
    ordered-told u k (e ∷ es) a =
        let next : k + 1 ≡ suc k = omega arith in
        ap (λ j. ordered_from s o j (both a (connection_at s o (port_numbered k) e)) es) next
        ∙ ordered-told u (suc k) es (both a (connection_at s o (port_numbered k) e)) ∙ step u (port_numbered k) e (ordered_connections u (suc k) es) a

    connections-told : (u : Name) (c : Connections) → connections_at s o c ≡ coded (broken_connections s p (instance_connections u c))
    connections-told u (by_name cs) = named-told u cs none
    connections-told u (by_order es) = ordered-told u 0 es none

    instances-told : (us : List (Name × Connections)) (a : Broken) → instances_from s o a us ≡ both a (coded (broken_instances s p us))
    instances-told [] a = both-none a
    instances-told (u ∷ us) a =
        instances-told us (both a (connections_at s o u.1))
        ∙ ap (λ z. both (both a z) (coded (broken_instances s p us))) (connections-told u.0 u.1)
        ∙ sym (both-assoc a (coded (broken_connections s p (instance_connections u.0 u.1))) (coded (broken_instances s p us)))

  -- ---- items

  module _ (t : Interfaces) (source : Source) (so : AreInterfacesOf t source) where
    item-told : (i : Item) → instance_item_at s (interface_in t) i ≡ coded (broken_instance_item source s i)
    item-told (port d) = refl
    item-told (parameter d) = refl
    item-told (wires signed r ws) = refl
    item-told (variables signed r vs) = refl
    item-told (assign ts) = refl
    item-told (always es x) = refl
    item-told (instances n given us) = λ j. both (overrides-told given j) (instances-told (interface_in t n) (module_named source n) (so n) us none j)

    pub items-told : (items : List Item) (a : Broken) → instance_items_from s (interface_in t) a items ≡ both a (coded (broken_instance_items source s items))
    items-told [] a = both-none a
    items-told (i ∷ items) a =
        items-told items (both a (instance_item_at s (interface_in t) i))
        ∙ ap (λ z. both (both a z) (coded (broken_instance_items source s items))) (item-told i)
        ∙ sym (both-assoc a (coded (broken_instance_item source s i)) (coded (broken_instance_items source s items)))
