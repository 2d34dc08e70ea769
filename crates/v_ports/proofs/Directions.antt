-- The directions of a module's ports by the rows of its declarations.
use Rattle.std.proofs.Common.{◌≡◌, ◌∙◌, refl, ap, sym, Bool, true, false, cond, ◌||◌, List, [], ◌∷◌, ◌++◌, append_assoc, Option, Some, None, option_map}
use Rattle.std.specs.List.{list_any}
use Rattle.wb_values.specs.Value.{Name, same_name, Entries, entry_of}
use Rattle.wb_values.specs.Choice.{first_of}
use Rattle.verilog_trees.specs.Syntax.{Expression, Direction, Range, PortDeclaration, Item, port, parameter, wires, variables, assign, always, instances, Module}
use Rattle.verilog_meaning.specs.Expression.{Scope}
use Rattle.verilog_meaning.specs.Hierarchy.{Declaration, each_port, port_declarations, wire_declarations, variable_declarations, item_declarations, header_ports, declarations, declaration_of}
use Rattle.verilog_meaning.specs.Settled.{named_ports, declared_ports, item_ports, port_directions, names_of}
use Rattle.verilog_designs.specs.Ports.{is_reg_input}
use Rattle.v_scopes.specs.Rows.{Row, row, rows, row_and_later, row_named}
use Rattle.v_scopes.proofs.Joined.{named_so}
use Rattle.v_ports.specs.Ports.{direction_in, is_reg_input_row, some_port_is}

-- ---- the direction of a name

first_alone : {A : Type 0} (x : Option A) → x ≡ first_of x None
first_alone None = refl
first_alone (Some a) = refl

pub direction_more : (r : Row) (rs : List Row) (n : Name)
    → direction_in (row_named (r ∷ rs) n) ≡ cond (same_name r.of_name n) (first_of r.direction (direction_in (row_named rs n))) (direction_in (row_named rs n))
direction_more r rs n = joined (same_name r.of_name n) (row_named rs n)
  where
    joined : (b : Bool) (o : Option Row)
        → direction_in (cond b (Some (row_and_later r o)) o) ≡ cond b (first_of r.direction (direction_in o)) (direction_in o)
    joined true None = first_alone r.direction
    joined true (Some e) = refl
    joined false o = refl

cond_both : {A : Type 0} (b : Bool) (x : A) → cond b x x ≡ x
cond_both true x = refl
cond_both false x = refl

module _ (s : Scope) (n : Name) where
  direction : List Declaration → Option Direction
  direction ds = direction_in (row_named (rows s ds) n)

  at_ports : (d : PortDeclaration) (ns : List Name) (ds : List Declaration) (es : Entries Direction) → direction ds ≡ entry_of es n
      → direction (each_port d ns ++ ds) ≡ entry_of (named_ports d.direction ns ++ es) n
  unfolding direction
  at_ports d [] ds es e = e
  at_ports d (m ∷ ns) ds es e =
      direction_more (row s (record { of_name = m; direction = Some d.direction; kind = d.kind; signed = d.signed; range = d.range; addresses = None })) (rows s (each_port d ns ++ ds)) n
      ∙ ap (cond (same_name m n) (Some d.direction)) (at_ports d ns ds es e)

  at_header : (ps : List PortDeclaration) (ds : List Declaration) (es : Entries Direction) → direction ds ≡ entry_of es n
      → direction (port_declarations ps ++ ds) ≡ entry_of (declared_ports ps ++ es) n
  at_header [] ds es e = e
  at_header (p ∷ ps) ds es e =
      ap direction (append_assoc (each_port p p.names) (port_declarations ps) ds)
      ∙ at_ports p p.names (port_declarations ps ++ ds) (declared_ports ps ++ es) (at_header ps ds es e)
      ∙ ap (λ xs. entry_of xs n) (sym (append_assoc (named_ports p.direction p.names) (declared_ports ps) es))

  past_wires : (signed : Bool) (r : Option Range) (ws : List (Name × Option Expression)) (ds : List Declaration)
      → direction (wire_declarations signed r ws ++ ds) ≡ direction ds
  unfolding direction
  past_wires signed r [] ds = refl
  past_wires signed r (w ∷ ws) ds =
      direction_more _ (rows s (wire_declarations signed r ws ++ ds)) n
      ∙ cond_both (same_name w.0 n) (direction_in (row_named (rows s (wire_declarations signed r ws ++ ds)) n))
      ∙ past_wires signed r ws ds

  past_variables : (signed : Bool) (r : Option Range) (vs : List (Name × Option Range)) (ds : List Declaration)
      → direction (variable_declarations signed r vs ++ ds) ≡ direction ds
  unfolding direction
  past_variables signed r [] ds = refl
  past_variables signed r (v ∷ vs) ds =
      direction_more _ (rows s (variable_declarations signed r vs ++ ds)) n
      ∙ cond_both (same_name v.0 n) (direction_in (row_named (rows s (variable_declarations signed r vs ++ ds)) n))
      ∙ past_variables signed r vs ds

  at_items : (items : List Item) → direction (item_declarations items) ≡ entry_of (item_ports items) n
  unfolding direction
  at_items [] = refl
  at_items (port d ∷ items) = at_ports d d.names (item_declarations items) (item_ports items) (at_items items)
  at_items (parameter d ∷ items) = at_items items
  at_items (wires signed r ws ∷ items) = past_wires signed r ws (item_declarations items) ∙ at_items items
  at_items (variables signed r vs ∷ items) = past_variables signed r vs (item_declarations items) ∙ at_items items
  at_items (assign ts ∷ items) = at_items items
  at_items (always es x ∷ items) = at_items items
  at_items (instances m given is ∷ items) = at_items items

  pub direction_named : (m : Module) → direction_in (row_named (rows s (declarations m)) n) ≡ entry_of (port_directions m) n
  unfolding direction
  direction_named m = at_header (header_ports m.ports) (item_declarations m.items) (item_ports m.items) (at_items m.items)

-- ---- ports that are so

module _ (s : Scope) (is_so : Name → Bool) where
  some_is : List Declaration → Bool
  some_is ds = some_port_is is_so (rows s ds)

  one_is : Entries Direction → Bool
  one_is es = list_any is_so (names_of es)

  so_ports : (d : PortDeclaration) (ns : List Name) (ds : List Declaration) (es : Entries Direction) → some_is ds ≡ one_is es
      → some_is (each_port d ns ++ ds) ≡ one_is (named_ports d.direction ns ++ es)
  unfolding some_is one_is
  so_ports d [] ds es e = e
  so_ports d (m ∷ ns) ds es e = ap (λ b. is_so m || b) (so_ports d ns ds es e)

  so_header : (ps : List PortDeclaration) (ds : List Declaration) (es : Entries Direction) → some_is ds ≡ one_is es
      → some_is (port_declarations ps ++ ds) ≡ one_is (declared_ports ps ++ es)
  so_header [] ds es e = e
  so_header (p ∷ ps) ds es e =
      ap some_is (append_assoc (each_port p p.names) (port_declarations ps) ds)
      ∙ so_ports p p.names (port_declarations ps ++ ds) (declared_ports ps ++ es) (so_header ps ds es e)
      ∙ ap one_is (sym (append_assoc (named_ports p.direction p.names) (declared_ports ps) es))

  so_wires : (signed : Bool) (r : Option Range) (ws : List (Name × Option Expression)) (ds : List Declaration)
      → some_is (wire_declarations signed r ws ++ ds) ≡ some_is ds
  unfolding some_is
  so_wires signed r [] ds = refl
  so_wires signed r (w ∷ ws) ds = so_wires signed r ws ds

  so_variables : (signed : Bool) (r : Option Range) (vs : List (Name × Option Range)) (ds : List Declaration)
      → some_is (variable_declarations signed r vs ++ ds) ≡ some_is ds
  unfolding some_is
  so_variables signed r [] ds = refl
  so_variables signed r (v ∷ vs) ds = so_variables signed r vs ds

  so_items : (items : List Item) → some_is (item_declarations items) ≡ one_is (item_ports items)
  unfolding some_is one_is
  so_items [] = refl
  so_items (port d ∷ items) = so_ports d d.names (item_declarations items) (item_ports items) (so_items items)
  so_items (parameter d ∷ items) = so_items items
  so_items (wires signed r ws ∷ items) = so_wires signed r ws (item_declarations items) ∙ so_items items
  so_items (variables signed r vs ∷ items) = so_variables signed r vs (item_declarations items) ∙ so_items items
  so_items (assign ts ∷ items) = so_items items
  so_items (always es x ∷ items) = so_items items
  so_items (instances m given is ∷ items) = so_items items

  pub some_port : (m : Module) → some_port_is is_so (rows s (declarations m)) ≡ list_any is_so (names_of (port_directions m))
  unfolding some_is one_is
  some_port m = so_header (header_ports m.ports) (item_declarations m.items) (item_ports m.items) (so_items m.items)

-- ---- inputs that are variables

reg_row : (s : Scope) (o : Option Declaration) → is_reg_input_row (option_map (row s) o) ≡ is_reg_input o
reg_row s None = refl
reg_row s (Some d) = refl

pub reg_named : (s : Scope) (ds : List Declaration) (n : Name) → is_reg_input_row (row_named (rows s ds) n) ≡ is_reg_input (declaration_of ds n)
reg_named s ds n = ap is_reg_input_row (sym (named_so s ds n)) ∙ reg_row s (declaration_of ds n)
