-- The names of registers and inputs are plain, where the design's source can be printed.
use Rattle.std.proofs.Common.{◌≡◌, ℕ, Bool, true, false, cond, ◌||◌, List, [], ◌∷◌, ◌++◌, Option, Some, None, refl, subst, arith}
use Rattle.std.specs.Prelude.{IsTrue, ℤ}
use Rattle.std.specs.List.{list_all}
use Rattle.std.proofs.lemmas.Bool.{and_parts, and_from}
use Rattle.std.proofs.lemmas.Bool.Decides.{nat_tests}
use Rattle.wb_values.specs.Value.{Name, same_name}
use Rattle.wb_values.specs.Choice.{first_of}
use Rattle.wb_values.specs.Names.{is_letter}
use Rattle.verilog_trees.specs.Syntax as tree
use Rattle.verilog_trees.specs.Syntax.{Expression, Range, PortDeclaration, Connections, Item, no_ports, listed, declared, Ports, Module}
use Rattle.verilog_text.specs.Token.{word}
use Rattle.verilog_text.specs.Lexical.{is_word_byte}
use Rattle.verilog_meaning.specs.Hierarchy.{Declaration, each_port, port_declarations, wire_declarations, variable_declarations, item_declarations, header_ports, declarations, PathStep, Placed, Instance, instance_among, instance_named, instance_reached, step_text, dotted}
use Rattle.verilog_meaning.specs.Settled.{Design, at_path, IsPlacedIn, is_declared_among, IsDeclared}
use Rattle.verilog_unique.proofs.Options.{same_is}
use Rattle.verilog_unique.proofs.Paths.{StepsTo, step_of}
use Rattle.verilog_unique.proofs.Fitting.{module_name_of}
use Rattle.v_print.specs.Reads.{is_printed, is_printed_word}
use Rattle.v_print.specs.Printable.{Each, IsPrintableName, IsPrintablePort, IsPrintableWire, IsPrintableVariable, IsPrintableInstance, IsPrintableItem, ArePrintablePorts, IsPrintableModule, IsPrintableSource}
use Rattle.designs_of_texts.proofs.Lists.{each-append, each-some}
use Rattle.designs_of_texts.proofs.Modules.{module-of}
use Rattle.printed_traces.specs.Printed.{is_plain_byte, is_plain_name}
use Rattle.printed_traces.proofs.ObligationNames.{Plain, plain_append}

-- ---- words

letter_plain : (b : ℕ) → is_letter b ≡ true → is_plain_byte b ≡ true
letter_plain b h = grind (arith, nat_tests)

word_byte_plain : (b : ℕ) → is_word_byte b ≡ true → is_plain_byte b ≡ true
word_byte_plain b h = grind (arith, nat_tests)

bytes_plain : (n : Name) → list_all is_word_byte n ≡ true → Plain n
bytes_plain [] h = refl
bytes_plain (b ∷ n) h =
    let p = and_parts (is_word_byte b) (list_all is_word_byte n) h in
    and_from (is_plain_byte b) (is_plain_name n) (word_byte_plain b p.0) (bytes_plain n p.1)

word_plain : (n : Name) → is_printed_word n ≡ true → Plain n
word_plain [] h = refl
word_plain (b ∷ n) h =
    let p = and_parts (is_letter b) _ h in
    and_from (is_plain_byte b) (is_plain_name n) (letter_plain b p.0) (bytes_plain n (and_parts (list_all is_word_byte n) _ p.1).0)

printed_word : (n : Name) → is_printed (word n) ≡ true → is_printed_word n ≡ true
unfolding is_printed
printed_word n h = h

name_plain : (n : Name) → IsPrintableName n → Plain n
name_plain n h = word_plain n (printed_word n h.is_written)

-- ---- nets and variables

abbrev Names : Declaration → Type 0
Names d = IsPrintableName d.of_name

of_ports : (d : PortDeclaration) (ns : List Name) → Each IsPrintableName ns → Each Names (each_port d ns)
of_ports d [] h = tt
of_ports d (n ∷ ns) h = (h.0, of_ports d ns h.1)

of_header : (ds : List PortDeclaration) → Each IsPrintablePort ds → Each Names (port_declarations ds)
of_header [] h = tt
of_header (d ∷ ds) h = each-append Names (each_port d d.names) (port_declarations ds) (of_ports d d.names (each-some IsPrintableName d.names h.0.1)) (of_header ds h.1)

of_wires : (s : Bool) (r : Option Range) (ws : List (Name × Option Expression)) → Each IsPrintableWire ws → Each Names (wire_declarations s r ws)
of_wires s r [] h = tt
of_wires s r (w ∷ ws) h = (h.0.0, of_wires s r ws h.1)

of_variables : (s : Bool) (r : Option Range) (vs : List (Name × Option Range)) → Each IsPrintableVariable vs → Each Names (variable_declarations s r vs)
of_variables s r [] h = tt
of_variables s r (v ∷ vs) h = (h.0.0, of_variables s r vs h.1)

of_items : (items : List Item) → Each IsPrintableItem items → Each Names (item_declarations items)
of_items [] h = tt
of_items (tree.port d ∷ items) h =
    each-append Names (each_port d d.names) (item_declarations items) (of_ports d d.names (each-some IsPrintableName d.names h.0.1)) (of_items items h.1)
of_items (tree.parameter d ∷ items) h = of_items items h.1
of_items (tree.wires s r ws ∷ items) h =
    each-append Names (wire_declarations s r ws) (item_declarations items) (of_wires s r ws (each-some IsPrintableWire ws h.0.1)) (of_items items h.1)
of_items (tree.variables s r vs ∷ items) h =
    each-append Names (variable_declarations s r vs) (item_declarations items) (of_variables s r vs (each-some IsPrintableVariable vs h.0.1)) (of_items items h.1)
of_items (tree.assign ts ∷ items) h = of_items items h.1
of_items (tree.always es x ∷ items) h = of_items items h.1
of_items (tree.instances m given is ∷ items) h = of_items items h.1

header_list : (ps : Ports) → ArePrintablePorts ps → Each IsPrintablePort (header_ports ps)
header_list no_ports h = tt
header_list (listed ns) h = tt
header_list (declared ds) h = each-some IsPrintablePort ds h

of_module : (m : Module) → IsPrintableModule m → Each Names (declarations m)
of_module m h =
    each-append Names (port_declarations (header_ports m.ports)) (item_declarations m.items) (of_header (header_ports m.ports) (header_list m.ports h.2))
    (of_items m.items h.3)

among_plain : (ds : List Declaration) (n : Name) → Each Names ds → IsTrue (is_declared_among ds n) → Plain n
among_plain [] n h t = cc
among_plain (d ∷ ds) n h t = by (same_name d.of_name n) refl (λ k. among_plain ds n h.1 k) t
  where
    by : (b : Bool) → same_name d.of_name n ≡ b → (IsTrue (is_declared_among ds n) → Plain n) → IsTrue (b || is_declared_among ds n) → Plain n
    by true e f k = subst Plain (same_is d.of_name n e) (name_plain d.of_name h.0)
    by false e f k = f k

-- ---- instances

instance_plain : (m : Name) (given : Connections) (is : List (Name × Connections)) (u : Name) (i : Instance) → Each IsPrintableInstance is
    → instance_among m given is u ≡ Some i → Plain u
instance_plain m given [] u i h e = cc
instance_plain m given (x ∷ is) u i h e = by (same_name x.0 u) refl (λ k. instance_plain m given is u i h.1 k) e
  where
    by : (b : Bool) → same_name x.0 u ≡ b → (instance_among m given is u ≡ Some i → Plain u)
        → cond b (Some (record { of_module = m; parameters = given; connections = x.1 })) (instance_among m given is u) ≡ Some i → Plain u
    by true q f k = subst Plain (same_is x.0 u q) (name_plain x.0 h.0.0)
    by false q f k = f k

named_plain : (items : List Item) (u : Name) (i : Instance) → Each IsPrintableItem items → instance_named items u ≡ Some i → Plain u
named_plain [] u i h e = cc
named_plain (tree.port d ∷ items) u i h e = named_plain items u i h.1 e
named_plain (tree.parameter d ∷ items) u i h e = named_plain items u i h.1 e
named_plain (tree.wires s r ws ∷ items) u i h e = named_plain items u i h.1 e
named_plain (tree.variables s r vs ∷ items) u i h e = named_plain items u i h.1 e
named_plain (tree.assign ts ∷ items) u i h e = named_plain items u i h.1 e
named_plain (tree.always es x ∷ items) u i h e = named_plain items u i h.1 e
named_plain (tree.instances m given is ∷ items) u i h e = by (instance_among m given is u) refl (λ k. named_plain items u i h.1 k) e
  where
    by : (x : Option Instance) → instance_among m given is u ≡ x → (instance_named items u ≡ Some i → Plain u) → first_of x (instance_named items u) ≡ Some i
        → Plain u
    by None q f k = f k
    by (Some j) q f k = instance_plain m given is u j (each-some IsPrintableInstance is h.0.2) q

step_plain : (items : List Item) (n : Name) (x : Option ℤ) (i : Instance) → Each IsPrintableItem items
    → instance_reached items (record { of_name = n; index = x }) ≡ Some i → Plain (step_text (record { of_name = n; index = x }))
step_plain items n None i h e = plain_append n [] (named_plain items n i h e) refl
step_plain items n (Some k) i h e = cc

-- ---- dotted names

dotted_plain : (path : List PathStep) (n : Name) → Each (λ u. Plain (step_text u)) path → Plain n → Plain (dotted path n)
dotted_plain [] n h k = k
dotted_plain (u ∷ path) n h k = dotted_plain path (step_text u ++ 46 ∷ n) h.1 (plain_append (step_text u) (46 ∷ n) h.0 k)

module _ (d : Design) (printable : IsPrintableSource d.source) where
  module_there : (path : List PathStep) (p : Placed) → at_path d path ≡ Some p → IsPrintableModule p.of_module
  module_there path p e = let f = module_name_of d path p e in module-of d.source f.0 p.of_module printable f.1

  path_plain : (path : List PathStep) (p : Placed) → at_path d path ≡ Some p → Each (λ u. Plain (step_text u)) path
  path_plain [] p e = tt
  path_plain (u ∷ around) p e =
      let s : StepsTo d u around p = step_of d u around p e in
      (step_plain s.outer.of_module.items u.of_name u.index s.instance (module_there around s.outer s.is_outer).3 s.is_reached, path_plain around s.outer s.is_outer)

  pub declared_plain : (p : Placed) (n : Name) → IsPlacedIn d p → IsDeclared p n → Plain n
  declared_plain p n at is = among_plain (declarations p.of_module) n (of_module p.of_module (module_there p.path p at)) is

  pub dotted_name_plain : (p : Placed) (n : Name) → IsPlacedIn d p → IsDeclared p n → Plain (dotted p.path n)
  dotted_name_plain p n at is = dotted_plain p.path n (path_plain p.path p at) (declared_plain p n at is)
