-- The ports of a module, as the definitions have them.
use Rattle.std.proofs.Common.{◌≡◌, ◌∙◌, refl, ap, sym, Bool, true, false, cond, ◌||◌, List, [], ◌∷◌, ◌++◌, append_assoc, Option, Some, None}
use Rattle.wb_values.specs.Value.{Name, same_name, Entries, entry_of}
use Rattle.wb_values.specs.Choice.{first_of}
use Rattle.verilog_trees.specs.Syntax.{Direction, PortDeclaration, Ports, no_ports, listed, declared, Item, port, parameter, wires, variables, assign, always, instances, Module}
use Rattle.verilog_meaning.specs.Hierarchy.{header_ports}
use Rattle.verilog_meaning.specs.Settled.{named_ports, declared_ports, item_ports, port_directions, names_of, header_names}
use Rattle.verilog_designs.specs.Names.{is_among}
use Rattle.v_scopes.specs.Ports.{is_port_of, is_listed, direction_among, direction_in}

-- ---- lists of names and of ports

or_assoc : (a b c : Bool) → ((a || b) || c) ≡ (a || (b || c))
or_assoc true b c = refl
or_assoc false b c = refl

among_ports : (w : Direction) (ns : List Name) (es : Entries Direction) (n : Name) → is_among (names_of (named_ports w ns ++ es)) n ≡ (is_among ns n || is_among (names_of es) n)
among_ports w [] es n = refl
among_ports w (m ∷ ns) es n = ap (λ b. same_name m n || b) (among_ports w ns es n) ∙ sym (or_assoc (same_name m n) (is_among ns n) (is_among (names_of es) n))

port-of : (n : Name) (ds : List PortDeclaration) → is_port_of n ds ≡ is_among (names_of (declared_ports ds)) n
port-of n [] = refl
port-of n (d ∷ ds) = ap (λ b. is_among d.names n || b) (port-of n ds) ∙ sym (among_ports d.direction d.names (declared_ports ds) n)

pub listed-so : (n : Name) (ps : Ports) → is_listed n ps ≡ is_among (header_names ps) n
listed-so n no_ports = refl
listed-so n (listed ns) = refl
listed-so n (declared ds) = port-of n ds

cond_or : {A : Type 0} (a b : Bool) (x y : A) → cond a x (cond b x y) ≡ cond (a || b) x y
cond_or true b x y = refl
cond_or false b x y = refl

entry-ports : (w : Direction) (ns : List Name) (es : Entries Direction) (n : Name) → entry_of (named_ports w ns ++ es) n ≡ cond (is_among ns n) (Some w) (entry_of es n)
entry-ports w [] es n = refl
entry-ports w (m ∷ ns) es n =
    ap (λ o. cond (same_name m n) (Some w) o) (entry-ports w ns es n) ∙ cond_or (same_name m n) (is_among ns n) (Some w) (entry_of es n)

first_cond : {A : Type 0} (b : Bool) (x : A) (o : Option A) → first_of (cond b (Some x) None) o ≡ cond b (Some x) o
first_cond true x o = refl
first_cond false x o = refl

first_past : {A : Type 0} (b : Bool) (x : A) (o p : Option A) → first_of (cond b (Some x) o) p ≡ cond b (Some x) (first_of o p)
first_past true x o p = refl
first_past false x o p = refl

direction-in : (n : Name) (items : List Item) → direction_in n items ≡ entry_of (item_ports items) n
direction-in n [] = refl
direction-in n (port d ∷ items) =
    first_cond (is_among d.names n) d.direction (direction_in n items)
    ∙ (ap (λ o. cond (is_among d.names n) (Some d.direction) o) (direction-in n items) ∙ sym (entry-ports d.direction d.names (item_ports items) n))
direction-in n (parameter d ∷ items) = direction-in n items
direction-in n (wires signed r ws ∷ items) = direction-in n items
direction-in n (variables signed r vs ∷ items) = direction-in n items
direction-in n (assign ts ∷ items) = direction-in n items
direction-in n (always es x ∷ items) = direction-in n items
direction-in n (instances m given is ∷ items) = direction-in n items

-- the declarations of the list of ports come before those of the items
directions-append : (n : Name) (ds : List PortDeclaration) (es : Entries Direction) → first_of (direction_among n ds) (entry_of es n) ≡ entry_of (declared_ports ds ++ es) n
directions-append n [] es = refl
directions-append n (d ∷ ds) es =
    first_past (is_among d.names n) d.direction (direction_among n ds) (entry_of es n)
    ∙ (ap (λ o. cond (is_among d.names n) (Some d.direction) o) (directions-append n ds es)
    ∙ (sym (entry-ports d.direction d.names (declared_ports ds ++ es) n)
    ∙ ap (λ xs. entry_of xs n) (sym (append_assoc (named_ports d.direction d.names) (declared_ports ds) es))))

pub directions : (m : Module) (n : Name) → first_of (direction_among n (header_ports m.ports)) (direction_in n m.items) ≡ entry_of (port_directions m) n
directions m n =
    ap (λ o. first_of (direction_among n (header_ports m.ports)) o) (direction-in n m.items) ∙ directions-append n (header_ports m.ports) (item_ports m.items)
