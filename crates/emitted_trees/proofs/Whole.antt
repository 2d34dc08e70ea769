-- The module from its parts, and parts from loops.
use Rattle.std.proofs.Common.{◌≡◌, ℕ, ◌+◌, Bool, List, [], ◌∷◌, ◌++◌, map, drop, Option, Some, option_map, slice_get, refl, sym, ◌∙◌, ap, subst}
use Rattle.std.proofs.lemmas.List.{append_assoc, map-append}
use Rattle.wb_values.specs.Value.{Name, Sort}
use Rattle.model_meaning.specs.Model.{StateDeclaration, InputDeclaration}
use Rattle.verilog_trees.specs.Syntax.{PortDeclaration, ParameterDeclaration, input, declared, Item, always, Module}
use Rattle.ila_model.specs.declared.parts.Parts.{Parts}
use Rattle.ila_model.specs.Meaning.{declared_states, model_from}
use Rattle.emitted_modules.specs.Rtl.{Wire, wire_item, register_item, port_of, port_list, input_port, at_clock}
use Rattle.emitted_modules.specs.Module.{decode_wires, decodes_of, all_ways, memories_from, ready_of, emitted_module}
use Rattle.emitted_modules.specs.Nodes.{node_wires}
use Rattle.emitted_trees.specs.Items.{register_named}
use Rattle.emitted_trees.specs.Emitted.{start_items, clocked_for, items_for}
use Rattle.emitted_names.proofs.Turns.{ap2, onward, found, same_at}

in_order : (a : List Item) (b c d : List Wire) (s t : List Item)
    → (a ++ map wire_item b) ++ (map wire_item c ++ map wire_item d) ++ s ++ t ≡ a ++ (map wire_item (b ++ (c ++ d)) ++ (s ++ t))
in_order a b c d s t =
    append_assoc ((a ++ map wire_item b) ++ (map wire_item c ++ map wire_item d)) s t
    ∙ ap (λ r. r ++ (s ++ t)) (append_assoc a (map wire_item b) (map wire_item c ++ map wire_item d))
    ∙ ap (λ m. (a ++ m) ++ (s ++ t)) (ap (λ m. map wire_item b ++ m) (sym (map-append wire_item c d)) ∙ sym (map-append wire_item b (c ++ d)))
    ∙ append_assoc a (map wire_item (b ++ (c ++ d))) (s ++ t)

items_are : (name : Name) (p : Parts) (keep : ℕ → Bool) → items_for p keep ≡ (emitted_module name p keep).items
items_are name p keep =
    in_order (map register_item (declared_states p.terms.names p.initial_values.items)) (node_wires p.terms keep 0 p.terms.nodes)
    (decode_wires (decodes_of p.terms p.instructions.items)) (all_ways p.terms (memories_from p.terms 0 p.instructions.items)) (start_items (ready_of p))
    (always at_clock (clocked_for p) ∷ [])

pub module_is : (name called : Name) (p : Parts) (keep : ℕ → Bool) (ps : List ParameterDeclaration) (ports : List PortDeclaration) (items : List Item)
    → called ≡ name → ps ≡ [] → ports ≡ port_list (model_from name p).inputs → items ≡ items_for p keep
    → record { module_name = called; parameters = ps; ports = declared ports; items = items } ≡ emitted_module name p keep
module_is name called p keep ps ports items a b c d =
    let e = d ∙ items_are name p keep in λ i. record { module_name = a i; parameters = b i; ports = declared (c i); items = e i }

-- ---- declarations

pub input_more : (is : List InputDeclaration) (i : ℕ) (n : Name) (t : Sort) (all done new : List PortDeclaration)
    → option_map (λ s. s.input_name) (slice_get is i) ≡ Some n → option_map (λ s. s.sort) (slice_get is i) ≡ Some t
    → done ++ map input_port (drop i is) ≡ all → new ≡ done ++ port_of input n t ∷ [] → new ++ map input_port (drop (i + 1) is) ≡ all
input_more is i n t all done new called sorted before made =
    let s = found (λ (x : InputDeclaration). x.input_name) is i n called in
    let sort = same_at (λ (x : InputDeclaration). x.sort) is i s.0 t s.1 sorted in
    onward input_port is i s.0 all done new (port_of input n t) s.1 before (sym (ap2 (port_of input) s.2 sort)) made

pub register_more : (ss : List StateDeclaration) (i : ℕ) (n : Name) (t : Sort) (all done new : List Item) (made : Item)
    → option_map (λ s. s.state_name) (slice_get ss i) ≡ Some n → option_map (λ s. s.sort) (slice_get ss i) ≡ Some t
    → done ++ map register_item (drop i ss) ≡ all → made ≡ register_named n t → new ≡ done ++ made ∷ [] → new ++ map register_item (drop (i + 1) ss) ≡ all
register_more ss i n t all done new made called sorted before is pushed =
    let s = found (λ (x : StateDeclaration). x.state_name) ss i n called in
    let sort = same_at (λ (x : StateDeclaration). x.sort) ss i s.0 t s.1 sorted in
    onward register_item ss i s.0 all done new made s.1 before (is ∙ sym (ap2 register_named s.2 sort)) pushed

pub ports_joined : (front inputs : List PortDeclaration) (x y : PortDeclaration) (a b c d : List PortDeclaration) → a ≡ front → b ≡ a ++ inputs → c ≡ b ++ x ∷ [] → d ≡ c ++ y ∷ []
    → d ≡ front ++ (inputs ++ x ∷ y ∷ [])
ports_joined front inputs x y a b c d e f g h =
    h
    ∙ ap (λ zs. zs ++ y ∷ []) (g ∙ ap (λ zs. zs ++ x ∷ []) (f ∙ ap (λ zs. zs ++ inputs) e))
    ∙ append_assoc (front ++ inputs) (x ∷ []) (y ∷ [])
    ∙ append_assoc front inputs (x ∷ y ∷ [])
