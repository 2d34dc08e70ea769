-- The names that stand in a module but for events, and whether a clock is one of them.
use Rattle.std.proofs.Common.{◌≡◌, ◌∙◌, refl, ap, sym, Bool, true, false, true≢false, not, ◌&&◌, ◌||◌, List, [], ◌∷◌, ◌++◌, Option, Some, None}
use Rattle.std.specs.List.{list_any}
use Rattle.wb_values.specs.Value.{Name}
use Rattle.verilog_trees.specs.Syntax.{Expression, Item, port, parameter, wires, variables, assign, always, instances, ParameterDeclaration, Module}
use Rattle.verilog_meaning.specs.Hierarchy.{header_ports}
use Rattle.verilog_meaning.specs.Settled.{wire_assignments}
use Rattle.verilog_designs.specs.Names.{names_in, names_in_range, names_in_values, names_in_parameters, names_in_ports, names_in_assignments}
use Rattle.verilog_designs.specs.Clocks.{names_in_item, names_in_module_items, names_in_module}
use Rattle.v_hier.specs.Reading.{all_known, expression_known, ports_known, statement_known}
use Rattle.v_hier.specs.Clock.{values_known, parameter_known, parameters_known, wire_known, wires_known, item_names_known, items_names_known, module_names_known}
use Rattle.v_hier.proofs.Listed.{known-both}
use Rattle.v_hier.proofs.Texts.{range-known, addresses-known, assignments-known, connections-known, ports-known}

values-known : (k : Name → Bool) (vs : List (Name × Expression)) → all_known k (names_in_values vs) ≡ values_known k vs
unfolding expression_known
values-known k [] = refl
values-known k (v ∷ vs) = known-both k (names_in v.1) _ _ _ refl (values-known k vs)

parameter-known : (k : Name → Bool) (d : ParameterDeclaration) → all_known k (names_in_range d.range ++ names_in_values d.values) ≡ parameter_known k d
parameter-known k d = known-both k (names_in_range d.range) _ _ _ (range-known k d.range) (values-known k d.values)

parameters-known : (k : Name → Bool) (ds : List ParameterDeclaration) → all_known k (names_in_parameters ds) ≡ parameters_known k ds
parameters-known k [] = refl
parameters-known k (d ∷ ds) =
    known-both k (names_in_range d.range ++ names_in_values d.values) _ _ _ (parameter-known k d) (parameters-known k ds)

wires-known : (k : Name → Bool) (ws : List (Name × Option Expression)) → all_known k (names_in_assignments (wire_assignments ws)) ≡ wires_known k ws
unfolding expression_known
wires-known k [] = refl
wires-known k (w ∷ ws) = by_value w.0 w.1 (wires-known k ws)
  where
    by_value : (n : Name) (e : Option Expression) → all_known k (names_in_assignments (wire_assignments ws)) ≡ wires_known k ws
        → all_known k (names_in_assignments (wire_assignments ((n, e) ∷ ws))) ≡ (wire_known k n e && wires_known k ws)
    by_value n None h = h
    by_value n (Some e) h = known-both k (n ∷ names_in e) _ _ _ refl h

item-names-known : (k : Name → Bool) (i : Item) → all_known k (names_in_item i) ≡ item_names_known k i
unfolding statement_known
item-names-known k (port d) = range-known k d.range
item-names-known k (parameter d) = parameter-known k d
item-names-known k (wires signed r ws) = known-both k (names_in_range r) _ _ _ (range-known k r) (wires-known k ws)
item-names-known k (variables signed r vs) = known-both k (names_in_range r) _ _ _ (range-known k r) (addresses-known k vs)
item-names-known k (assign ts) = assignments-known k ts
item-names-known k (always es x) = refl
item-names-known k (instances m given is) = connections-known k given

items-names-known : (k : Name → Bool) (items : List Item) → all_known k (names_in_module_items items) ≡ items_names_known k items
items-names-known k [] = refl
items-names-known k (i ∷ items) = known-both k (names_in_item i) _ _ _ (item-names-known k i) (items-names-known k items)

module-names-known : (k : Name → Bool) (m : Module) → all_known k (names_in_module m) ≡ module_names_known k m
module-names-known k m =
    known-both k (names_in_parameters m.parameters ++ names_in_ports (header_ports m.ports)) _ _ _
    (known-both k (names_in_parameters m.parameters) _ _ _ (parameters-known k m.parameters) (ports-known k (header_ports m.ports)))
    (items-names-known k m.items)
    ∙ grouped (parameters_known k m.parameters) (ports_known k (header_ports m.ports)) (items_names_known k m.items)
  where
    grouped : (a b c : Bool) → ((a && b) && c) ≡ (a && (b && c))
    grouped true b c = refl
    grouped false b c = refl

-- all are names that are not of the set, or one of them is in it
others : (k h : Name → Bool) → ((q : Name) → k q ≡ not (h q)) → (ns : List Name) → not (all_known k ns) ≡ list_any h ns
others k h e [] = refl
others k h e (m ∷ ns) = turn (k m) (h m) (all_known k ns) (list_any h ns) (e m) (others k h e ns)
  where
    turn : (a b c d : Bool) → a ≡ not b → not c ≡ d → not (a && c) ≡ (b || d)
    turn true true c d e f = absurd (true≢false e)
    turn true false c d e f = f
    turn false true c d e f = refl
    turn false false c d e f = absurd (true≢false (sym e))

pub clocks-among : (k h : Name → Bool) (m : Module) (b : Bool) → ((q : Name) → k q ≡ not (h q)) → b ≡ module_names_known k m
    → not b ≡ list_any h (names_in_module m)
clocks-among k h m b e f = ap not (f ∙ sym (module-names-known k m)) ∙ others k h e (names_in_module m)
