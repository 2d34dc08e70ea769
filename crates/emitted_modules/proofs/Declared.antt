-- What such a module declares, and its scope.
use Rattle.std.proofs.Common.{◌≡◌, Bool, true, false, cond, inl, inr, List, [], ◌∷◌, ◌++◌, map, Option, Some, None, refl, sym, ◌∙◌, ap, subst}
use Rattle.std.specs.Prelude.{option_map}
use Rattle.std.proofs.lemmas.Bool.{false≢true}
use Rattle.wb_values.specs.Value.{Name, same_name, Sort, truth}
use Rattle.wb_values.specs.Choice.{first_of}
use Rattle.model_meaning.specs.Model.{StateDeclaration, InputDeclaration}
use Rattle.verilog_trees.specs.Syntax.{Direction, input, output, NetKind, wire, reg, Item}
use Rattle.verilog_meaning.specs.Expression.{Scope, scope_of, object_or_undeclared}
use Rattle.verilog_meaning.specs.Hierarchy.{Declaration, declarations, port_declarations, item_declarations, body_parameters, constants_of, no_overrides, with_parameters, declaration_of, and_later, declared_object, module_scope, placed_scope}
use Rattle.emitted_designs.specs.Names.{clock_name, reset_name, go_name, start_name, commit_name}
use Rattle.emitted_designs.specs.Module.{top_of}
use Rattle.emitted_designs.proofs.Named.{same_of, same_if}
use Rattle.emitted_modules.specs.Rtl.{Wire, Rtl, range_of_sort, addresses_of_sort, port_of, input_port, register_item, wire_item, module_items, module_of}
use Rattle.emitted_modules.proofs.Names.{Among, among_map, AreDistinct, differs_in}

-- ---- the declarations

abbrev net_of : Option Direction → Option NetKind → Name → Sort → Declaration
net_of d k n t = record { of_name = n; direction = d; kind = k; signed = false; range = range_of_sort t; addresses = None }

abbrev pub input_net : Name → Sort → Declaration
input_net n t = net_of (Some input) None n t

abbrev pub output_net : Name → Declaration
output_net n = net_of (Some output) None n truth

abbrev pub given_net : InputDeclaration → Declaration
given_net i = input_net i.input_name i.sort

abbrev pub register_net : StateDeclaration → Declaration
register_net d = record { of_name = d.state_name; direction = None; kind = Some reg; signed = false; range = range_of_sort d.sort; addresses = addresses_of_sort d.sort }

abbrev pub wire_net : Wire → Declaration
wire_net w = net_of None (Some wire) w.wire_name w.sort

abbrev port_nets : List InputDeclaration → List Declaration
port_nets is =
    input_net clock_name truth ∷ input_net reset_name truth ∷ input_net go_name truth
    ∷ (map given_net is ++ output_net start_name ∷ output_net commit_name ∷ [])

abbrev own_nets : Rtl → List Declaration
own_nets r = map register_net r.registers ++ map wire_net r.wires

abbrev pub nets : Rtl → List Declaration
nets r = port_nets r.inputs ++ own_nets r

ports_declared : (is : List InputDeclaration)
    → port_declarations (map input_port is ++ port_of output start_name truth ∷ port_of output commit_name truth ∷ [])
    ≡ map given_net is ++ output_net start_name ∷ output_net commit_name ∷ []
ports_declared [] = refl
ports_declared (i ∷ is) = ap (λ ds. given_net i ∷ ds) (ports_declared is)

wires_declared : (ws : List Wire) (rest : List Item) → item_declarations rest ≡ []
    → item_declarations (map wire_item ws ++ rest) ≡ map wire_net ws
wires_declared [] rest e = e
wires_declared (w ∷ ws) rest e = ap (λ ds. wire_net w ∷ ds) (wires_declared ws rest e)

registers_declared : (ss : List StateDeclaration) (rest : List Item) (ds : List Declaration) → item_declarations rest ≡ ds
    → item_declarations (map register_item ss ++ rest) ≡ map register_net ss ++ ds
registers_declared [] rest ds e = e
registers_declared (s ∷ ss) rest ds e = ap (λ es. register_net s ∷ es) (registers_declared ss rest ds e)

pub are_declared : (r : Rtl) → declarations (module_of r) ≡ nets r
are_declared r =
    ap
    (λ ds. (input_net clock_name truth ∷ input_net reset_name truth ∷ input_net go_name truth ∷ ds)
    ++ item_declarations (module_items r))
    (ports_declared r.inputs)
    ∙ ap (λ ds. port_nets r.inputs ++ ds)
    (registers_declared r.registers _ (map wire_net r.wires) (wires_declared r.wires _ refl))

-- ---- parameters: there are none

no_wire_parameters : (ws : List Wire) (rest : List Item) → body_parameters rest ≡ [] → body_parameters (map wire_item ws ++ rest) ≡ []
no_wire_parameters [] rest e = e
no_wire_parameters (w ∷ ws) rest e = no_wire_parameters ws rest e

no_parameters : (ss : List StateDeclaration) (rest : List Item) → body_parameters rest ≡ [] → body_parameters (map register_item ss ++ rest) ≡ []
no_parameters [] rest e = e
no_parameters (s ∷ ss) rest e = no_parameters ss rest e

pub no_constants : (r : Rtl) → constants_of (module_of r) no_overrides ≡ []
no_constants r =
    ap (λ ds. with_parameters ds no_overrides []) (no_parameters r.registers _ (no_wire_parameters r.wires _ refl))

-- ---- look-ups

no_declaration : (ds : List Declaration) (n : Name) → ((d : Declaration) → Among d ds → same_name d.of_name n ≡ false) → declaration_of ds n ≡ None
no_declaration [] n h = refl
no_declaration (d ∷ ds) n h =
    ap (λ b. cond b (Some (and_later d (declaration_of ds n))) (declaration_of ds n)) (h d (inl refl)) ∙ no_declaration ds n (λ e g. h e (inr g))

declaration_is : (ds : List Declaration) (d : Declaration) → AreDistinct (map (λ e. e.of_name) ds) → Among d ds
    → declaration_of ds d.of_name ≡ Some d
declaration_is [] d a h = absurd h
declaration_is (e ∷ ds) d a (inl f) =
    ap (λ b. cond b (Some (and_later e (declaration_of ds d.of_name))) (declaration_of ds d.of_name)) (same_of e.of_name d.of_name (ap (λ x. x.of_name) f))
    ∙ (ap (λ o. Some (and_later e o))
    (no_declaration ds d.of_name (λ x g. subst (λ n. same_name x.of_name n ≡ false) (ap (λ y. y.of_name) f) (turned x g)))
    ∙ ap Some f)
  where
    turned : (x : Declaration) → Among x ds → same_name x.of_name e.of_name ≡ false
    turned x g = by_test (same_name x.of_name e.of_name) refl
      where
        by_test : (b : Bool) → same_name x.of_name e.of_name ≡ b → b ≡ false
        by_test true same =
            absurd
            (false≢true
            (sym (differs_in e.of_name x.of_name (map (λ y. y.of_name) ds) a.0 (among_map (λ y. y.of_name) x ds g))
            ∙ same_of e.of_name x.of_name (sym (same_if x.of_name e.of_name same))))
        by_test false other = refl
declaration_is (e ∷ ds) d a (inr h) =
    ap (λ b. cond b (Some (and_later e (declaration_of ds d.of_name))) (declaration_of ds d.of_name))
    (differs_in e.of_name d.of_name (map (λ y. y.of_name) ds) a.0 (among_map (λ y. y.of_name) d ds h))
    ∙ declaration_is ds d a.1 h

-- the names that such a module declares are all different
abbrev pub HasOwnNames : Rtl → Type 0
HasOwnNames r = AreDistinct (map (λ d. d.of_name) (nets r))

abbrev pub scope_in : Rtl → Scope
scope_in r = placed_scope (top_of (module_of r))

abbrev pub nothing_known : Scope
nothing_known = scope_of []

pub object_is : (r : Rtl) (d : Declaration) → HasOwnNames r → Among d (nets r) → scope_in r d.of_name ≡ declared_object nothing_known d
object_is r d own h =
    ap (λ known. module_scope (module_of r) known d.of_name) (no_constants r)
    ∙ (ap (λ ds. object_or_undeclared (first_of None (option_map (declared_object nothing_known) (declaration_of ds d.of_name)))) (are_declared r)
    ∙ ap (λ o. object_or_undeclared (first_of None (option_map (declared_object nothing_known) o))) (declaration_is (nets r) d own h))
