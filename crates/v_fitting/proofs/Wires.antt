-- Where a module declares no name twice, what it declares as a wire is no memory.
use Rattle.std.proofs.Common.{◌≡◌, ◌≤◌, ◌+◌, ℕ, Bool, true, false, cond, refl, sym, ap, ◌∙◌, subst, arith, ◌⊎◌, inl, inr, List, [], ◌∷◌, ◌++◌, Option, Some, None, is_some}
use Rattle.std.specs.Prelude.{option_map, option_and_then}
use Rattle.std.proofs.lemmas.Bool.{false≢true}
use Rattle.wb_values.specs.Value.{Name, same_name}
use Rattle.wb_values.specs.Choice.{first_of}
use Rattle.verilog_trees.specs.Syntax.{Expression, Range, wire, PortDeclaration, Item, port, parameter, wires, variables, assign, always, instances, Module}
use Rattle.verilog_meaning.specs.Expression.{Object, Scope, undeclared, object_or_undeclared, scope_of, is_memory}
use Rattle.verilog_meaning.specs.Hierarchy.{Declaration, declarations, declaration_of, and_later, port_declarations, header_ports, each_port, wire_declarations, variable_declarations, item_declarations}
use Rattle.verilog_designs.specs.Known.{with_range, known_range, known_object, with_known_addresses, known_declaration, known_module_scope}
use Rattle.verilog_designs.specs.Names.{count_of, names_where, is_net_alone, has_duplicate}
use Rattle.verilog_unique.proofs.Options.{is_same, split}
use Rattle.verilog_unique.proofs.Descent.{IsAmong, among_left, among_right}
use Rattle.verilog_exists.proofs.Memories.{net_count, one_net}
use Rattle.v_fitting.specs.Wires.{AreNoMemories, HavePlainWires}

-- ---- what has no addresses is no memory

abbrev addresses-in : Option Declaration → Option Range
addresses-in None = None
addresses-in (Some d) = d.addresses

unaddressed : (s : Scope) (a : Option Range) (o : Object) → o.addresses ≡ None → a ≡ None → is_memory (with_known_addresses s a o) ≡ false
unaddressed s None o e h = ap is_some e
unaddressed s (Some r) o e h = cc

ranged-plain : (s : Scope) (b : Option (ℕ × ℕ)) (signed : Bool) (a : Option Range) → a ≡ None
    → is_memory (object_or_undeclared (option_map (with_known_addresses s a) (option_map (with_range signed) b))) ≡ false
ranged-plain s None signed a h = refl
ranged-plain s (Some b) signed a h = unaddressed s a (with_range signed b) refl h

object-plain : (s : Scope) (signed : Bool) (r a : Option Range) → a ≡ None
    → is_memory (object_or_undeclared (option_map (with_known_addresses s a) (known_object s signed r))) ≡ false
object-plain s signed None a h = unaddressed s a (record undeclared { is_declared = true; signed = signed }) refl h
object-plain s signed (Some r) a h = ranged-plain s (known_range s r) signed a h

declared-plain : (s : Scope) (d : Option Declaration) → addresses-in d ≡ None → is_memory (object_or_undeclared (option_and_then (known_declaration s) d)) ≡ false
declared-plain s None h = refl
declared-plain s (Some d) h = object-plain s d.signed d.range d.addresses h

-- ---- addresses stand in declarations of nets and variables that are no ports

abbrev AreInNets : List Declaration → Type 0
AreInNets [] = Unit {0}
AreInNets (d ∷ ds) = ((d.addresses ≡ None) ⊎ (is_net_alone d ≡ true)) × AreInNets ds

nets-append : (ds es : List Declaration) → AreInNets ds → AreInNets es → AreInNets (ds ++ es)
nets-append [] es h g = g
nets-append (d ∷ ds) es h g = (h.0, nets-append ds es h.1 g)

nets-port : (d : PortDeclaration) (ns : List Name) → AreInNets (each_port d ns)
nets-port d [] = tt
nets-port d (n ∷ ns) = (inl refl, nets-port d ns)

nets-ports : (ds : List PortDeclaration) → AreInNets (port_declarations ds)
nets-ports [] = tt
nets-ports (d ∷ ds) = nets-append (each_port d d.names) (port_declarations ds) (nets-port d d.names) (nets-ports ds)

nets-wires : (signed : Bool) (r : Option Range) (ws : List (Name × Option Expression)) → AreInNets (wire_declarations signed r ws)
nets-wires signed r [] = tt
nets-wires signed r (w ∷ ws) = (inl refl, nets-wires signed r ws)

nets-variables : (signed : Bool) (r : Option Range) (vs : List (Name × Option Range)) → AreInNets (variable_declarations signed r vs)
nets-variables signed r [] = tt
nets-variables signed r (v ∷ vs) = (inr refl, nets-variables signed r vs)

nets-items : (items : List Item) → AreInNets (item_declarations items)
nets-items [] = tt
nets-items (port d ∷ items) = nets-append (each_port d d.names) (item_declarations items) (nets-port d d.names) (nets-items items)
nets-items (parameter d ∷ items) = nets-items items
nets-items (wires signed r ws ∷ items) = nets-append (wire_declarations signed r ws) (item_declarations items) (nets-wires signed r ws) (nets-items items)
nets-items (variables signed r vs ∷ items) = nets-append (variable_declarations signed r vs) (item_declarations items) (nets-variables signed r vs) (nets-items items)
nets-items (assign links ∷ items) = nets-items items
nets-items (always es x ∷ items) = nets-items items
nets-items (instances m given is ∷ items) = nets-items items

nets-module : (m : Module) → AreInNets (declarations m)
nets-module m = nets-append (port_declarations (header_ports m.ports)) (item_declarations m.items) (nets-ports (header_ports m.ports)) (nets-items m.items)

-- ---- how often a name is declared so

abbrev share : Bool → Bool → ℕ
share a b = cond a (cond b 1 0) 0

one-share : (a b : Bool) → a ≡ true → b ≡ true → share a b ≡ 1
one-share true true e f = refl
one-share true false e f = absurd (false≢true f)
one-share false b e f = absurd (false≢true e)

one-name : (n : Name) (b : Bool) (m : Name) (ns : List Name) → count_of n (cond b (m ∷ []) [] ++ ns) ≡ share b (same_name m n) + count_of n ns
one-name n true m ns = refl
one-name n false m ns = omega arith

counted : (n : Name) (d : Declaration) (ds : List Declaration) → net_count n (d ∷ ds) ≡ share (is_net_alone d) (same_name d.of_name n) + net_count n ds
counted n d ds = one-name n (is_net_alone d) d.of_name (names_where is_net_alone ds)

-- one declaration more, which says nothing of addresses where it is of this name
one-more : (b : Bool) (d : Declaration) (x : Option Declaration) → (b ≡ true → d.addresses ≡ None) → addresses-in x ≡ None
    → addresses-in (cond b (Some (and_later d x)) x) ≡ None
one-more true d None f e = f refl
one-more true d (Some y) f e = both d.addresses y.addresses (f refl) e
  where
    both : (a c : Option Range) → a ≡ None → c ≡ None → first_of a c ≡ None
    both None c g h = h
    both (Some r) c g h = cc
one-more false d x f e = e

unless-alone : (d : Declaration) → is_net_alone d ≡ false → (d.addresses ≡ None) ⊎ (is_net_alone d ≡ true) → d.addresses ≡ None
unless-alone d e (inl h) = h
unless-alone d e (inr h) = absurd (false≢true (sym e ∙ h))

-- no net or variable has the name
none-left : (n : Name) (ds : List Declaration) → AreInNets ds → net_count n ds ≡ 0 → addresses-in (declaration_of ds n) ≡ None
none-left n [] h e = refl
none-left n (d ∷ ds) h e =
    let sum = counted n d ds in
    one-more (same_name d.of_name n) d (declaration_of ds n) (λ t. here t (split (is_net_alone d))) (none-left n ds h.1 (omega (arith, e, sum)))
  where
    here : same_name d.of_name n ≡ true → (is_net_alone d ≡ true) ⊎ (is_net_alone d ≡ false) → d.addresses ≡ None
    here t (inl g) =
        let one = one-share (is_net_alone d) (same_name d.of_name n) g t in
        let sum = counted n d ds in
        absurd (omega (arith, e, sum, one))
    here t (inr g) = unless-alone d g h.0

-- a net without addresses
record IsWire (n : Name) (w : Declaration) : Type 0 where
  is_named : w.of_name ≡ n
  is_alone : is_net_alone w ≡ true
  has_none : w.addresses ≡ None

named-so : (n : Name) (w d : Declaration) → IsWire n w → d ≡ w → same_name d.of_name n ≡ true
named-so n w d is_wire e =
    subst (λ (x : Declaration). same_name x.of_name n ≡ true) (sym e) (subst (λ m. same_name m n ≡ true) (sym is_wire.is_named) (is_same n))

alone-so : (n : Name) (w d : Declaration) → IsWire n w → d ≡ w → is_net_alone d ≡ true
alone-so n w d is_wire e = subst (λ (x : Declaration). is_net_alone x ≡ true) (sym e) is_wire.is_alone

at-least-one : (n : Name) (w : Declaration) (ds : List Declaration) → IsWire n w → IsAmong ds w → 1 ≤ net_count n ds
at-least-one n w [] is_wire h = absurd h
at-least-one n w (d ∷ ds) is_wire (inl e) =
    let one = one-share (is_net_alone d) (same_name d.of_name n) (alone-so n w d is_wire e) (named-so n w d is_wire e) in
    let sum = counted n d ds in
    omega (arith, sum, one)
at-least-one n w (d ∷ ds) is_wire (inr h) =
    let sum = counted n d ds in
    let more = at-least-one n w ds is_wire h in
    omega (arith, sum, more)

-- that net alone has it
one-left : (n : Name) (w : Declaration) (ds : List Declaration) → AreInNets ds → IsWire n w → IsAmong ds w → net_count n ds ≤ 1
    → addresses-in (declaration_of ds n) ≡ None
one-left n w [] h is_wire k l = absurd k
one-left n w (d ∷ ds) h is_wire (inl e) l =
    let one = one-share (is_net_alone d) (same_name d.of_name n) (alone-so n w d is_wire e) (named-so n w d is_wire e) in
    let sum = counted n d ds in
    one-more (same_name d.of_name n) d (declaration_of ds n) (λ t. subst (λ (x : Declaration). x.addresses ≡ None) (sym e) is_wire.has_none)
    (none-left n ds h.1 (omega (arith, l, sum, one)))
one-left n w (d ∷ ds) h is_wire (inr k) l =
    let sum = counted n d ds in
    one-more (same_name d.of_name n) d (declaration_of ds n) (λ t. here t (split (is_net_alone d))) (one-left n w ds h.1 is_wire k (omega (arith, l, sum)))
  where
    here : same_name d.of_name n ≡ true → (is_net_alone d ≡ true) ⊎ (is_net_alone d ≡ false) → d.addresses ≡ None
    here t (inl g) =
        let one = one-share (is_net_alone d) (same_name d.of_name n) g t in
        let sum = counted n d ds in
        let more = at-least-one n w ds is_wire k in
        absurd (omega (arith, l, sum, one, more))
    here t (inr g) = unless-alone d g h.0

-- ---- all wires of a module

module _ (m : Module) (once : has_duplicate m ≡ false) where
  abbrev s : Scope
  s = known_module_scope m []

  wire-plain : (n : Name) (w : Declaration) → IsWire n w → IsAmong (declarations m) w → is_memory (s n) ≡ false
  wire-plain n w is_wire h =
      declared-plain (scope_of []) (declaration_of (declarations m) n)
      (one-left n w (declarations m) (nets-module m) is_wire h (subst (λ k. net_count k (declarations m) ≤ 1) is_wire.is_named (one_net m w once h)))

  each-plain : (signed : Bool) (r : Option Range) (ws : List (Name × Option Expression))
      → ((w : Declaration) → IsAmong (wire_declarations signed r ws) w → IsAmong (declarations m) w) → AreNoMemories s ws
  each-plain signed r [] f = tt
  each-plain signed r (v ∷ ws) f =
      let w : Declaration = record { of_name = v.0; direction = None; kind = Some wire; signed = signed; range = r; addresses = None } in
      (wire-plain v.0 w (record { is_named = refl; is_alone = refl; has_none = refl }) (f w (inl refl)), each-plain signed r ws (λ x h. f x (inr h)))

  all-plain : (items : List Item) → ((w : Declaration) → IsAmong (item_declarations items) w → IsAmong (declarations m) w) → HavePlainWires s items
  all-plain [] f = tt
  all-plain (port d ∷ items) f = (tt, all-plain items (λ w h. f w (among_right (each_port d d.names) (item_declarations items) w h)))
  all-plain (parameter d ∷ items) f = (tt, all-plain items f)
  all-plain (wires signed r ws ∷ items) f = (
    each-plain signed r ws (λ w h. f w (among_left (wire_declarations signed r ws) (item_declarations items) w h)),
    all-plain items (λ w h. f w (among_right (wire_declarations signed r ws) (item_declarations items) w h)),
  )
  all-plain (variables signed r vs ∷ items) f =
      (tt, all-plain items (λ w h. f w (among_right (variable_declarations signed r vs) (item_declarations items) w h)))
  all-plain (assign links ∷ items) f = (tt, all-plain items f)
  all-plain (always es x ∷ items) f = (tt, all-plain items f)
  all-plain (instances k given is ∷ items) f = (tt, all-plain items f)

  pub wires-plain : HavePlainWires (known_module_scope m []) m.items
  wires-plain = all-plain m.items (λ w h. among_right (port_declarations (header_ports m.ports)) (item_declarations m.items) w h)
