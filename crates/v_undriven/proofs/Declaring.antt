-- What is declared of a name, and the direction that its port has.
use Rattle.std.proofs.Common.{◌≡◌, ◌∙◌, refl, ap, sym, cond, Bool, true, false, List, [], ◌∷◌, ◌++◌, Option, Some, None, is_some}
use Rattle.std.specs.Prelude.{◌||◌}
use Rattle.std.proofs.lemmas.List.{append_assoc}
use Rattle.wb_values.specs.Value.{Name, same_name, Entries, entry_of}
use Rattle.wb_values.specs.Choice.{first_of}
use Rattle.verilog_trees.specs.Syntax.{Expression, Range, Direction, PortDeclaration, Item, port, parameter, wires, variables, assign, always, instances, Module}
use Rattle.verilog_meaning.specs.Hierarchy.{Declaration, each_port, port_declarations, wire_declarations, variable_declarations, item_declarations, header_ports, declarations, and_later, declaration_of}
use Rattle.verilog_meaning.specs.Settled.{is_declared_among, named_ports, declared_ports, item_ports, port_directions}

abbrev pub direction_at : Option Declaration → Option Direction
direction_at None = None
direction_at (Some d) = d.direction

module _ (n : Name) where
  with-direction : (t : Bool) (d : Declaration) (x : Direction) (o : Option Declaration) (r : Option Direction) → d.direction ≡ Some x → direction_at o ≡ r
      → direction_at (cond t (Some (and_later d o)) o) ≡ cond t (Some x) r
  with-direction true d x None r e h = e
  with-direction true d x (Some o) r e h = ap (λ z. first_of z o.direction) e
  with-direction false d x o r e h = h

  no-direction : (t : Bool) (d : Declaration) (o : Option Declaration) (r : Option Direction) → d.direction ≡ None → direction_at o ≡ r
      → direction_at (cond t (Some (and_later d o)) o) ≡ r
  no-direction true d None r e h = e ∙ h
  no-direction true d (Some o) r e h = ap (λ z. first_of z o.direction) e ∙ h
  no-direction false d o r e h = h

  ports : (d : PortDeclaration) (ns : List Name) (ds : List Declaration) (es : Entries Direction) → direction_at (declaration_of ds n) ≡ entry_of es n
      → direction_at (declaration_of (each_port d ns ++ ds) n) ≡ entry_of (named_ports d.direction ns ++ es) n
  ports d [] ds es h = h
  ports d (m ∷ ns) ds es h =
      with-direction (same_name m n) _ d.direction (declaration_of (each_port d ns ++ ds) n) (entry_of (named_ports d.direction ns ++ es) n) refl (ports d ns ds es h)

  header : (ps : List PortDeclaration) (ds : List Declaration) (es : Entries Direction) → direction_at (declaration_of ds n) ≡ entry_of es n
      → direction_at (declaration_of (port_declarations ps ++ ds) n) ≡ entry_of (declared_ports ps ++ es) n
  header [] ds es h = h
  header (p ∷ ps) ds es h =
      ap (λ z. direction_at (declaration_of z n)) (append_assoc (each_port p p.names) (port_declarations ps) ds)
      ∙ ports p p.names (port_declarations ps ++ ds) (declared_ports ps ++ es) (header ps ds es h)
      ∙ ap (λ z. entry_of z n) (sym (append_assoc (named_ports p.direction p.names) (declared_ports ps) es))

  of-wires : (signed : Bool) (r : Option Range) (ws : List (Name × Option Expression)) (ds : List Declaration) (x : Option Direction) → direction_at (declaration_of ds n) ≡ x
      → direction_at (declaration_of (wire_declarations signed r ws ++ ds) n) ≡ x
  of-wires signed r [] ds x h = h
  of-wires signed r (w ∷ ws) ds x h = no-direction (same_name w.0 n) _ (declaration_of (wire_declarations signed r ws ++ ds) n) x refl (of-wires signed r ws ds x h)

  of-variables : (signed : Bool) (r : Option Range) (vs : List (Name × Option Range)) (ds : List Declaration) (x : Option Direction) → direction_at (declaration_of ds n) ≡ x
      → direction_at (declaration_of (variable_declarations signed r vs ++ ds) n) ≡ x
  of-variables signed r [] ds x h = h
  of-variables signed r (v ∷ vs) ds x h =
      no-direction (same_name v.0 n) _ (declaration_of (variable_declarations signed r vs ++ ds) n) x refl (of-variables signed r vs ds x h)

  of-items : (items : List Item) → direction_at (declaration_of (item_declarations items) n) ≡ entry_of (item_ports items) n
  of-items [] = refl
  of-items (port d ∷ items) = ports d d.names (item_declarations items) (item_ports items) (of-items items)
  of-items (parameter d ∷ items) = of-items items
  of-items (wires signed r ws ∷ items) = of-wires signed r ws (item_declarations items) _ (of-items items)
  of-items (variables signed r vs ∷ items) = of-variables signed r vs (item_declarations items) _ (of-items items)
  of-items (assign ts ∷ items) = of-items items
  of-items (always es x ∷ items) = of-items items
  of-items (instances m given is ∷ items) = of-items items

  -- the direction that all declarations of a name give it is that of its port
  pub directions-agree : (m : Module) → direction_at (declaration_of (declarations m) n) ≡ entry_of (port_directions m) n
  directions-agree m = header (header_ports m.ports) (item_declarations m.items) (item_ports m.items) (of-items m.items)

  declared-more : (t : Bool) (d : Declaration) (o : Option Declaration) → is_some (cond t (Some (and_later d o)) o) ≡ (t || is_some o)
  declared-more true d o = refl
  declared-more false d o = refl

  pub declared-so : (ds : List Declaration) → is_some (declaration_of ds n) ≡ is_declared_among ds n
  declared-so [] = refl
  declared-so (d ∷ ds) = declared-more (same_name d.of_name n) d (declaration_of ds n) ∙ ap (λ b. same_name d.of_name n || b) (declared-so ds)
