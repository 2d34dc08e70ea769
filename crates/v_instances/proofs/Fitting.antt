-- What does not fit by the interfaces does not fit by the modules.
use Rattle.std.proofs.Common.{◌≡◌, ◌∙◌, refl, ap, ℕ, suc, ◌+◌, not, ◌&&◌, ◌||◌, List, [], ◌∷◌, ◌++◌, Option, Some, None, arith}
use Rattle.std.specs.Prelude.{is_some, is_none, slice_get}
use Rattle.std.specs.List.{list_any}
use Rattle.wb_values.specs.Value.{Name}
use Rattle.verilog_trees.specs.Syntax.{Expression, Connections, by_name, by_order, Item, port, parameter, wires, variables, assign, always, instances, Module, Source}
use Rattle.verilog_meaning.specs.Hierarchy.{module_named}
use Rattle.verilog_meaning.specs.Settled.{as_target, PortPlace, port_named, port_numbered, port_meant, Connection, connection_if_any, named_connections, ordered_connections, instance_connections}
use Rattle.verilog_designs.specs.Names.{is_among}
use Rattle.verilog_designs.specs.Ports.{is_output, port_direction, is_bad_output, are_bad_connections, is_badly_connected, are_badly_connected, has_bad_instance, connected_names}
use Rattle.v_instances.specs.declared.interface.Interface.{Interface}
use Rattle.v_instances.specs.declared.interface.Interfaces.{Interfaces}
use Rattle.v_instances.specs.Interface.{IsInterfaceOf, IsInterfaceIfAny, interface_in, AreInterfacesOf}
use Rattle.v_instances.specs.Connections.{direction_at, meant_by, is_output_of, is_target, are_bad_names, is_bad_at, one_bad_named, one_bad_ordered, one_bad, is_bad_to, one_bad_to, are_bad_to, one_bad_item}
use Rattle.v_instances.proofs.Repeats.{repeated_so}

none-not : (e : Expression) → not (is_target e) ≡ is_none (as_target e)
unfolding is_target
none-not e = by_value (as_target e)
  where
    by_value : {A : Type 0} (o : Option A) → not (is_some o) ≡ is_none o
    by_value None = refl
    by_value (Some x) = refl

pub names_bad : (these : List Name) (cs : List (Name × Option Expression)) → are_bad_names these (connected_names cs) ≡ are_bad_connections these (by_name cs)
names_bad these cs = ap (λ b. list_any (λ n. not (is_among these n)) (connected_names cs) || b) (repeated_so (connected_names cs))

module _ (i : Interface) (m : Module) (so : IsInterfaceOf i m) where
  meant_so : (q : PortPlace) → meant_by i q ≡ port_meant m q
  meant_so (port_named n) = refl
  meant_so (port_numbered k) = ap (λ ns. slice_get ns k) so.ports

  direction_so : (o : Option Name) → direction_at i o ≡ port_direction m o
  direction_so None = refl
  direction_so (Some n) = so.directions n

  pub output_so : (q : PortPlace) → is_output_of i q ≡ is_output (port_direction m (port_meant m q))
  output_so q = ap (λ o. is_output (direction_at i o)) (meant_so q) ∙ ap is_output (direction_so (port_meant m q))

  bad_so : (u : Name) (q : PortPlace) (o : Option Expression) (rest : List Connection)
      → (is_bad_at i q o || list_any (is_bad_output m) rest) ≡ list_any (is_bad_output m) (connection_if_any u q o ++ rest)
  bad_so u q None rest = refl
  bad_so u q (Some e) rest = λ j. (output_so q j && none-not e j) || list_any (is_bad_output m) rest

  named_so : (u : Name) (cs : List (Name × Option Expression)) → one_bad_named i cs ≡ list_any (is_bad_output m) (named_connections u cs)
  named_so u [] = refl
  named_so u (c ∷ cs) = ap (λ b. is_bad_at i (port_named c.0) c.1 || b) (named_so u cs) ∙ bad_so u (port_named c.0) c.1 (named_connections u cs)

  ordered_so : (u : Name) (k : ℕ) (es : List (Option Expression)) → one_bad_ordered i k es ≡ list_any (is_bad_output m) (ordered_connections u k es)
  ordered_so u k [] = refl
  ordered_so u k (e ∷ es) =
      let next : k + 1 ≡ suc k = omega arith in
      ap (λ b. is_bad_at i (port_numbered k) e || b) (ap (λ j. one_bad_ordered i j es) next ∙ ordered_so u (suc k) es)
      ∙ bad_so u (port_numbered k) e (ordered_connections u (suc k) es)

  one_so : (u : Name) (c : Connections) → one_bad i c ≡ list_any (is_bad_output m) (instance_connections u c)
  one_so u (by_name cs) = named_so u cs
  one_so u (by_order es) = ordered_so u 0 es

  to_so : (u : Name × Connections) → is_bad_to i u ≡ is_badly_connected m u
  to_so u = λ j. are_bad_connections (so.ports j) u.1 || one_so u.0 u.1 j

  all_so : (us : List (Name × Connections)) → one_bad_to i us ≡ list_any (is_badly_connected m) us
  all_so [] = refl
  all_so (u ∷ us) = λ j. to_so u j || all_so us j

any_so : (given : Connections) (us : List (Name × Connections)) (o : Option Interface) (p : Option Module) → IsInterfaceIfAny o p → are_bad_to o given us ≡ are_badly_connected p given us
any_so given us None None h = refl
any_so given us None (Some m) h = absurd h
any_so given us (Some i) None h = absurd h
any_so given us (Some i) (Some m) h = λ j. are_bad_connections (h.parameters j) given || all_so i m h us j

pub items_bad : (t : Interfaces) (source : Source) → AreInterfacesOf t source → (items : List Item) → one_bad_item (interface_in t) items ≡ has_bad_instance source items
items_bad t source so [] = refl
items_bad t source so (port d ∷ items) = items_bad t source so items
items_bad t source so (parameter d ∷ items) = items_bad t source so items
items_bad t source so (wires signed r ws ∷ items) = items_bad t source so items
items_bad t source so (variables signed r vs ∷ items) = items_bad t source so items
items_bad t source so (assign ts ∷ items) = items_bad t source so items
items_bad t source so (always es x ∷ items) = items_bad t source so items
items_bad t source so (instances n given us ∷ items) = λ j. any_so given us (interface_in t n) (module_named source n) (so n) j || items_bad t source so items j
