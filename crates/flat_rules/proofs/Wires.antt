-- Where a module declares no name twice, what it declares as a wire is no memory.
use Rattle.std.proofs.Common.{◌≡◌, ◌≤◌, ◌+◌, ℕ, Bool, true, false, cond, refl, sym, ap, ◌∙◌, subst, arith, ◌⊎◌, inl, inr, List, [], ◌∷◌, ◌++◌, Option, Some, None}
use Rattle.std.proofs.lemmas.Bool.{false≢true}
use Rattle.wb_values.specs.Value.{Name, same_name}
use Rattle.wb_values.specs.Choice.{first_of}
use Rattle.verilog_trees.specs.Syntax.{Expression, Range, wire, PortDeclaration, Item, port, parameter, wires, variables, assign, always, instances, Module}
use Rattle.verilog_meaning.specs.Hierarchy.{Declaration, declarations, declaration_of, and_later, port_declarations, header_ports, each_port, wire_declarations, variable_declarations, item_declarations}
use Rattle.verilog_designs.specs.Names.{count_of, names_where, is_net_alone, has_duplicate}
use Rattle.verilog_unique.proofs.Options.{is_same, split}
use Rattle.verilog_unique.proofs.Descent.{IsAmong, among_left, among_right}
use Rattle.verilog_exists.proofs.Memories.{net_count, one_net}

abbrev pub addresses_in : Option Declaration → Option Range
addresses_in None = None
addresses_in (Some d) = d.addresses

-- ---- addresses stand in declarations of nets and variables that are no ports

abbrev AreInNets : List Declaration → Type 0
AreInNets [] = Unit {0}
AreInNets (d ∷ ds) = ((d.addresses ≡ None) ⊎ (is_net_alone d ≡ true)) × AreInNets ds

nets_append : (ds es : List Declaration) → AreInNets ds → AreInNets es → AreInNets (ds ++ es)
nets_append [] es h g = g
nets_append (d ∷ ds) es h g = (h.0, nets_append ds es h.1 g)

nets_port : (d : PortDeclaration) (ns : List Name) → AreInNets (each_port d ns)
nets_port d [] = tt
nets_port d (n ∷ ns) = (inl refl, nets_port d ns)

nets_ports : (ds : List PortDeclaration) → AreInNets (port_declarations ds)
nets_ports [] = tt
nets_ports (d ∷ ds) = nets_append (each_port d d.names) (port_declarations ds) (nets_port d d.names) (nets_ports ds)

nets_wires : (signed : Bool) (r : Option Range) (ws : List (Name × Option Expression)) → AreInNets (wire_declarations signed r ws)
nets_wires signed r [] = tt
nets_wires signed r (w ∷ ws) = (inl refl, nets_wires signed r ws)

nets_variables : (signed : Bool) (r : Option Range) (vs : List (Name × Option Range)) → AreInNets (variable_declarations signed r vs)
nets_variables signed r [] = tt
nets_variables signed r (v ∷ vs) = (inr refl, nets_variables signed r vs)

nets_items : (items : List Item) → AreInNets (item_declarations items)
nets_items [] = tt
nets_items (port d ∷ items) = nets_append (each_port d d.names) (item_declarations items) (nets_port d d.names) (nets_items items)
nets_items (parameter d ∷ items) = nets_items items
nets_items (wires signed r ws ∷ items) = nets_append (wire_declarations signed r ws) (item_declarations items) (nets_wires signed r ws) (nets_items items)
nets_items (variables signed r vs ∷ items) = nets_append (variable_declarations signed r vs) (item_declarations items) (nets_variables signed r vs) (nets_items items)
nets_items (assign links ∷ items) = nets_items items
nets_items (always es x ∷ items) = nets_items items
nets_items (instances m given is ∷ items) = nets_items items

nets_module : (m : Module) → AreInNets (declarations m)
nets_module m = nets_append (port_declarations (header_ports m.ports)) (item_declarations m.items) (nets_ports (header_ports m.ports)) (nets_items m.items)

-- ---- how often a name is declared so

abbrev share : Bool → Bool → ℕ
share a b = cond a (cond b 1 0) 0

one_share : (a b : Bool) → a ≡ true → b ≡ true → share a b ≡ 1
one_share true true e f = refl
one_share true false e f = absurd (false≢true f)
one_share false b e f = absurd (false≢true e)

one_name : (n : Name) (b : Bool) (m : Name) (ns : List Name) → count_of n (cond b (m ∷ []) [] ++ ns) ≡ share b (same_name m n) + count_of n ns
one_name n true m ns = refl
one_name n false m ns = omega arith

counted : (n : Name) (d : Declaration) (ds : List Declaration) → net_count n (d ∷ ds) ≡ share (is_net_alone d) (same_name d.of_name n) + net_count n ds
counted n d ds = one_name n (is_net_alone d) d.of_name (names_where is_net_alone ds)

-- one declaration more, which says nothing of addresses where it is of this name
one_more : (b : Bool) (d : Declaration) (x : Option Declaration) → (b ≡ true → d.addresses ≡ None) → addresses_in x ≡ None
    → addresses_in (cond b (Some (and_later d x)) x) ≡ None
one_more true d None f e = f refl
one_more true d (Some y) f e = both d.addresses y.addresses (f refl) e
  where
    both : (a c : Option Range) → a ≡ None → c ≡ None → first_of a c ≡ None
    both None c g h = h
    both (Some r) c g h = cc
one_more false d x f e = e

unless_alone : (d : Declaration) → is_net_alone d ≡ false → (d.addresses ≡ None) ⊎ (is_net_alone d ≡ true) → d.addresses ≡ None
unless_alone d e (inl h) = h
unless_alone d e (inr h) = absurd (false≢true (sym e ∙ h))

-- no net or variable has the name
none_left : (n : Name) (ds : List Declaration) → AreInNets ds → net_count n ds ≡ 0 → addresses_in (declaration_of ds n) ≡ None
none_left n [] h e = refl
none_left n (d ∷ ds) h e =
    let sum = counted n d ds in
    one_more (same_name d.of_name n) d (declaration_of ds n) (λ t. here t (split (is_net_alone d))) (none_left n ds h.1 (omega (arith, e, sum)))
  where
    here : same_name d.of_name n ≡ true → (is_net_alone d ≡ true) ⊎ (is_net_alone d ≡ false) → d.addresses ≡ None
    here t (inl g) =
        let one = one_share (is_net_alone d) (same_name d.of_name n) g t in
        let sum = counted n d ds in
        absurd (omega (arith, e, sum, one))
    here t (inr g) = unless_alone d g h.0

-- a net without addresses
record IsWire (n : Name) (w : Declaration) : Type 0 where
  is_named : w.of_name ≡ n
  is_alone : is_net_alone w ≡ true
  has_none : w.addresses ≡ None

named_so : (n : Name) (w d : Declaration) → IsWire n w → d ≡ w → same_name d.of_name n ≡ true
named_so n w d is_wire e =
    subst (λ (x : Declaration). same_name x.of_name n ≡ true) (sym e) (subst (λ m. same_name m n ≡ true) (sym is_wire.is_named) (is_same n))

alone_so : (n : Name) (w d : Declaration) → IsWire n w → d ≡ w → is_net_alone d ≡ true
alone_so n w d is_wire e = subst (λ (x : Declaration). is_net_alone x ≡ true) (sym e) is_wire.is_alone

at_least_one : (n : Name) (w : Declaration) (ds : List Declaration) → IsWire n w → IsAmong ds w → 1 ≤ net_count n ds
at_least_one n w [] is_wire h = absurd h
at_least_one n w (d ∷ ds) is_wire (inl e) =
    let one = one_share (is_net_alone d) (same_name d.of_name n) (alone_so n w d is_wire e) (named_so n w d is_wire e) in
    let sum = counted n d ds in
    omega (arith, sum, one)
at_least_one n w (d ∷ ds) is_wire (inr h) =
    let sum = counted n d ds in
    let more = at_least_one n w ds is_wire h in
    omega (arith, sum, more)

-- that net alone has it
one_left : (n : Name) (w : Declaration) (ds : List Declaration) → AreInNets ds → IsWire n w → IsAmong ds w → net_count n ds ≤ 1
    → addresses_in (declaration_of ds n) ≡ None
one_left n w [] h is_wire k l = absurd k
one_left n w (d ∷ ds) h is_wire (inl e) l =
    let one = one_share (is_net_alone d) (same_name d.of_name n) (alone_so n w d is_wire e) (named_so n w d is_wire e) in
    let sum = counted n d ds in
    one_more (same_name d.of_name n) d (declaration_of ds n) (λ t. subst (λ (x : Declaration). x.addresses ≡ None) (sym e) is_wire.has_none)
    (none_left n ds h.1 (omega (arith, l, sum, one)))
one_left n w (d ∷ ds) h is_wire (inr k) l =
    let sum = counted n d ds in
    one_more (same_name d.of_name n) d (declaration_of ds n) (λ t. here t (split (is_net_alone d))) (one_left n w ds h.1 is_wire k (omega (arith, l, sum)))
  where
    here : same_name d.of_name n ≡ true → (is_net_alone d ≡ true) ⊎ (is_net_alone d ≡ false) → d.addresses ≡ None
    here t (inl g) =
        let one = one_share (is_net_alone d) (same_name d.of_name n) g t in
        let sum = counted n d ds in
        let more = at_least_one n w ds is_wire k in
        absurd (omega (arith, l, sum, one, more))
    here t (inr g) = unless_alone d g h.0

-- ---- all wires of a module

wire_among : (signed : Bool) (r : Option Range) (ws : List (Name × Option Expression)) (w : Name × Option Expression) → IsAmong ws w
    → IsAmong (wire_declarations signed r ws) (record { of_name = w.0; direction = None; kind = Some wire; signed = signed; range = r; addresses = None })
wire_among signed r [] w h = absurd h
wire_among signed r (x ∷ ws) w (inl e) =
    inl (ap (λ (y : Name × Option Expression). record { of_name = y.0; direction = None; kind = Some wire; signed = signed; range = r; addresses = None }) e)
wire_among signed r (x ∷ ws) w (inr h) = inr (wire_among signed r ws w h)

item_wire : (items : List Item) (signed : Bool) (r : Option Range) (ws : List (Name × Option Expression)) (d : Declaration)
    → IsAmong items (wires signed r ws) → IsAmong (wire_declarations signed r ws) d → IsAmong (item_declarations items) d
item_wire [] signed r ws d h k = absurd h
item_wire (port x ∷ items) signed r ws d (inl e) k = cc
item_wire (port x ∷ items) signed r ws d (inr h) k = among_right (each_port x x.names) (item_declarations items) d (item_wire items signed r ws d h k)
item_wire (parameter x ∷ items) signed r ws d (inl e) k = cc
item_wire (parameter x ∷ items) signed r ws d (inr h) k = item_wire items signed r ws d h k
item_wire (wires g q us ∷ items) signed r ws d (inl e) k =
    let one : g ≡ signed = cc in
    let two : q ≡ r = cc in
    let three : us ≡ ws = cc in
    among_left (wire_declarations g q us) (item_declarations items) d
    (subst (λ a. IsAmong (wire_declarations a q us) d) (sym one)
    (subst (λ b. IsAmong (wire_declarations signed b us) d) (sym two) (subst (λ c. IsAmong (wire_declarations signed r c) d) (sym three) k)))
item_wire (wires g q us ∷ items) signed r ws d (inr h) k =
    among_right (wire_declarations g q us) (item_declarations items) d (item_wire items signed r ws d h k)
item_wire (variables g q vs ∷ items) signed r ws d (inl e) k = cc
item_wire (variables g q vs ∷ items) signed r ws d (inr h) k =
    among_right (variable_declarations g q vs) (item_declarations items) d (item_wire items signed r ws d h k)
item_wire (assign ts ∷ items) signed r ws d (inl e) k = cc
item_wire (assign ts ∷ items) signed r ws d (inr h) k = item_wire items signed r ws d h k
item_wire (always es x ∷ items) signed r ws d (inl e) k = cc
item_wire (always es x ∷ items) signed r ws d (inr h) k = item_wire items signed r ws d h k
item_wire (instances m given is ∷ items) signed r ws d (inl e) k = cc
item_wire (instances m given is ∷ items) signed r ws d (inr h) k = item_wire items signed r ws d h k

-- No addresses are declared of a wire.
pub wire_unaddressed : (m : Module) → has_duplicate m ≡ false → (signed : Bool) (r : Option Range) (ws : List (Name × Option Expression)) (w : Name × Option Expression)
    → IsAmong m.items (wires signed r ws) → IsAmong ws w → addresses_in (declaration_of (declarations m) w.0) ≡ None
wire_unaddressed m once signed r ws w h k =
    let x : Declaration = record { of_name = w.0; direction = None; kind = Some wire; signed = signed; range = r; addresses = None } in
    let among : IsAmong (declarations m) x =
    among_right (port_declarations (header_ports m.ports)) (item_declarations m.items) x (item_wire m.items signed r ws x h (wire_among signed r ws w k)) in
    one_left w.0 x (declarations m) (nets_module m) (record { is_named = refl; is_alone = refl; has_none = refl }) among (one_net m x once among)
