-- The ports and the clock of a module, as the definitions have them.
use Rattle.std.proofs.Common.{◌≡◌, ◌∙◌, refl, ap, ap₂, sym, subst, Bool, true, false, cond, not, ◌&&◌, ◌||◌, ◌==◌, ℕ, List, [], ◌∷◌, ◌++◌, append_assoc, Option, Some, None}
use mathlib.Core.Path.{fun_ext}
use Rattle.std.specs.List.{list_any}
use Rattle.wb_values.specs.Value.{Name, same_name, Entries, entry_of}
use Rattle.wb_values.specs.Choice.{first_of}
use Rattle.verilog_trees.specs.Syntax.{Direction, Range, PortDeclaration, Ports, no_ports, listed, declared, Item, port, parameter, wires, variables, assign, always, instances, Module}
use Rattle.verilog_meaning.specs.Expression.{Scope, scope_of, undeclared}
use Rattle.verilog_meaning.specs.Hierarchy.{value_names, header_ports}
use Rattle.verilog_meaning.specs.Settled.{named_ports, declared_ports, item_ports, port_directions, names_of, header_names, port_order}
use Rattle.verilog_designs.specs.Known.{known_range}
use Rattle.verilog_designs.specs.Names.{is_among, parameter_names}
use Rattle.verilog_designs.specs.Ports.{is_input, connected_names}
use Rattle.verilog_designs.specs.Accepted.{among_entries, variable_names, is_wide_range, has_wide_port, has_wide_item, is_input_port, has_no_clock}
use Rattle.v_scopes.specs.Bounds.{bound_at, known_bounds, range_bounds, bounds, is_wide}
use Rattle.v_scopes.specs.Ports.{is_port_of, is_listed, port_direction, direction_among, item_direction, direction_in, wide_port, is_wide_item, wide_item, alone, lacks_clock}

-- ---- lists of names and of ports

or_assoc : (a b c : Bool) → ((a || b) || c) ≡ (a || (b || c))
or_assoc true b c = refl
or_assoc false b c = refl

among_ports : (w : Direction) (ns : List Name) (es : Entries Direction) (n : Name) → is_among (names_of (named_ports w ns ++ es)) n ≡ (is_among ns n || is_among (names_of es) n)
among_ports w [] es n = refl
among_ports w (m ∷ ns) es n = ap (λ b. same_name m n || b) (among_ports w ns es n) ∙ sym (or_assoc (same_name m n) (is_among ns n) (is_among (names_of es) n))

port-of : (n : Name) (ds : List PortDeclaration) → is_port_of n ds ≡ is_among (names_of (declared_ports ds)) n
port-of n [] = refl
port-of n (d ∷ ds) = ap (λ b. is_among d.names n || b) (port-of n ds) ∙ sym (among_ports d.direction d.names (declared_ports ds) n)

pub listed-so : (n : Name) (ps : Ports) → is_listed n ps ≡ is_among (header_names ps) n
listed-so n no_ports = refl
listed-so n (listed ns) = refl
listed-so n (declared ds) = port-of n ds

cond_or : {A : Type 0} (a b : Bool) (x y : A) → cond a x (cond b x y) ≡ cond (a || b) x y
cond_or true b x y = refl
cond_or false b x y = refl

entry-ports : (w : Direction) (ns : List Name) (es : Entries Direction) (n : Name) → entry_of (named_ports w ns ++ es) n ≡ cond (is_among ns n) (Some w) (entry_of es n)
entry-ports w [] es n = refl
entry-ports w (m ∷ ns) es n =
    ap (λ o. cond (same_name m n) (Some w) o) (entry-ports w ns es n) ∙ cond_or (same_name m n) (is_among ns n) (Some w) (entry_of es n)

first_cond : {A : Type 0} (b : Bool) (x : A) (o : Option A) → first_of (cond b (Some x) None) o ≡ cond b (Some x) o
first_cond true x o = refl
first_cond false x o = refl

first_past : {A : Type 0} (b : Bool) (x : A) (o p : Option A) → first_of (cond b (Some x) o) p ≡ cond b (Some x) (first_of o p)
first_past true x o p = refl
first_past false x o p = refl

direction-in : (n : Name) (items : List Item) → direction_in n items ≡ entry_of (item_ports items) n
direction-in n [] = refl
direction-in n (port d ∷ items) =
    first_cond (is_among d.names n) d.direction (direction_in n items)
    ∙ (ap (λ o. cond (is_among d.names n) (Some d.direction) o) (direction-in n items) ∙ sym (entry-ports d.direction d.names (item_ports items) n))
direction-in n (parameter d ∷ items) = direction-in n items
direction-in n (wires signed r ws ∷ items) = direction-in n items
direction-in n (variables signed r vs ∷ items) = direction-in n items
direction-in n (assign ts ∷ items) = direction-in n items
direction-in n (always es x ∷ items) = direction-in n items
direction-in n (instances m given is ∷ items) = direction-in n items

-- the declarations of the list of ports come before those of the items
directions-append : (n : Name) (ds : List PortDeclaration) (es : Entries Direction) → first_of (direction_among n ds) (entry_of es n) ≡ entry_of (declared_ports ds ++ es) n
directions-append n [] es = refl
directions-append n (d ∷ ds) es =
    first_past (is_among d.names n) d.direction (direction_among n ds) (entry_of es n)
    ∙ (ap (λ o. cond (is_among d.names n) (Some d.direction) o) (directions-append n ds es)
    ∙ (sym (entry-ports d.direction d.names (declared_ports ds ++ es) n)
    ∙ ap (λ xs. entry_of xs n) (sym (append_assoc (named_ports d.direction d.names) (declared_ports ds) es))))

pub directions : (m : Module) (n : Name) → first_of (direction_among n (header_ports m.ports)) (direction_in n m.items) ≡ entry_of (port_directions m) n
directions m n =
    ap (λ o. first_of (direction_among n (header_ports m.ports)) o) (direction-in n m.items) ∙ directions-append n (header_ports m.ports) (item_ports m.items)

-- ---- ranges

wide_so : (s : Scope) (r : Option Range) → is_wide_range s r ≡ is_wide (bounds s r)
unfolding bound_at
wide_so s None = refl
wide_so s (Some r) = by_value (known_range s r) refl
  where
    by_value : (o : Option (ℕ × ℕ)) → known_range s r ≡ o → is_wide_range s (Some r) ≡ is_wide (known_bounds (known_range s r))
    by_value None e = rw e refl
    by_value (Some b) e = rw e refl

wide_ports : (s : Scope) (n : Name) (ds : List PortDeclaration) → wide_port s n ds ≡ has_wide_port s n ds
wide_ports s n [] = refl
wide_ports s n (d ∷ ds) = ap₂ (λ a b. (is_among d.names n && a) || b) (sym (wide_so s d.range)) (wide_ports s n ds)

cond_same : {A : Type 0} (b : Bool) (x : A) → cond b x x ≡ x
cond_same true x = refl
cond_same false x = refl

no_entries : (before : List Name) → scope_of [] ≡ among_entries before []
no_entries before = fun_ext (λ n. sym (cond_same (is_among before n) undeclared))

wide_ranges : (before : List Name) (r : Option Range) → is_wide (bounds (scope_of []) r) ≡ is_wide_range (among_entries before []) r
wide_ranges before r = sym (wide_so (scope_of []) r) ∙ ap (λ s. is_wide_range s r) (no_entries before)

wide_items : (before : List Name) (n : Name) (items : List Item) → wide_item (scope_of []) n items ≡ has_wide_item [] before n items
wide_items before n [] = refl
wide_items before n (port d ∷ items) = ap₂ (λ a b. (is_among d.names n && a) || b) (wide_ranges before d.range) (wide_items before n items)
wide_items before n (parameter d ∷ items) = wide_items (value_names d.values ++ before) n items
wide_items before n (wires signed r ws ∷ items) = ap₂ (λ a b. (is_among (connected_names ws) n && a) || b) (wide_ranges before r) (wide_items before n items)
wide_items before n (variables signed r vs ∷ items) = ap₂ (λ a b. (is_among (variable_names vs) n && a) || b) (wide_ranges before r) (wide_items before n items)
wide_items before n (assign ts ∷ items) = wide_items before n items
wide_items before n (always es x ∷ items) = wide_items before n items
wide_items before n (instances m given is ∷ items) = wide_items before n items

pub lacks-so : (m : Module) (n : Name) (s : Scope) → s ≡ scope_of []
    → (not (is_input_port m n) || (wide_port s n (header_ports m.ports) || wide_item s n m.items)) ≡ lacks_clock m n
unfolding lacks_clock
lacks-so m n s e =
    let before : List Name = parameter_names m.parameters in
    ap (λ t. not (is_input_port m n) || (wide_port t n (header_ports m.ports) || wide_item t n m.items)) e
    ∙ ap₂ (λ a b. not (is_input_port m n) || (a || b))
    (wide_ports (scope_of []) n (header_ports m.ports) ∙ ap (λ t. has_wide_port t n (header_ports m.ports)) (no_entries before)) (wide_items before n m.items)
