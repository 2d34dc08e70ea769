-- No dot stands in a name that can be printed.
use Rattle.std.proofs.Common.{◌≡◌, ◌∙◌, ◌⊎◌, inl, inr, ◌++◌, ◌&&◌, ◌||◌, ℕ, Bool, true, false, List, [], ◌∷◌, Option, refl, sym, ap, subst}
use Rattle.std.specs.List.{Contains, list_all}
use Rattle.std.proofs.lemmas.Bool.{and_parts, false≢true}
use Rattle.wb_values.specs.Value.{Name}
use Rattle.wb_values.specs.Names.{is_letter}
use Rattle.verilog_trees.specs.Syntax as tree
use Rattle.verilog_trees.specs.Syntax.{Expression, Range, PortDeclaration, ParameterDeclaration, Connections, Item, no_ports, listed, declared, Ports, Module, Source}
use Rattle.verilog_text.specs.Token.{word}
use Rattle.verilog_text.specs.Lexical.{is_word_byte}
use Rattle.verilog_meaning.specs.Hierarchy.{Declaration, each_port, port_declarations, wire_declarations, variable_declarations, item_declarations, header_ports, declarations, all_parameters, body_parameters, value_names}
use Rattle.verilog_designs.specs.Names.{instance_names, all_instance_names, names_where, declared_names, parameter_names}
use Rattle.v_print.specs.Reads.{is_printed, is_printed_word}
use Rattle.v_print.specs.Printable.{Each, EachOfSome, IsPrintableName, IsPrintablePort, IsPrintableSetting, IsPrintableParameter, IsPrintableHeader, IsPrintableWire, IsPrintableVariable, IsPrintableInstance, IsPrintableItem, ArePrintablePorts, IsPrintableModule, IsPrintableSource}
use Rattle.verilog_exists.specs.Exists.{HasNoDot, NamesHaveNoDots}
use Rattle.verilog_unique.proofs.Descent.{IsAmong, among_contains}
use Rattle.designs_of_texts.proofs.Lists.{each-at, each-append, each-some}
use Rattle.designs_of_texts.proofs.Modules.{module-of, all-printable}

-- ---- one name

word-byte : (b : ℕ) → is_word_byte b ≡ true → b ≡ 46 → ⊥
word-byte b h e = absurd (false≢true (subst (λ c. is_word_byte c ≡ true) e h))

no-dot-among : (bs : List ℕ) → list_all is_word_byte bs ≡ true → IsAmong bs 46 → ⊥
no-dot-among [] h c = c
no-dot-among (b ∷ bs) h (inl e) = word-byte b (and_parts (is_word_byte b) (list_all is_word_byte bs) h).0 e
no-dot-among (b ∷ bs) h (inr c) = no-dot-among bs (and_parts (is_word_byte b) (list_all is_word_byte bs) h).1 c

letter : (b : ℕ) → is_letter b ≡ true → b ≡ 46 → ⊥
letter b h e = absurd (false≢true (subst (λ c. is_letter c ≡ true) e h))

in-word : (n : Name) → is_printed_word n ≡ true → IsAmong n 46 → ⊥
in-word [] h c = c
in-word (b ∷ bs) h c =
    let p = and_parts (is_letter b) _ h in
    either p.0 (and_parts (list_all is_word_byte bs) _ p.1).0 c
  where
    either : is_letter b ≡ true → list_all is_word_byte bs ≡ true → IsAmong (b ∷ bs) 46 → ⊥
    either l w (inl e) = letter b l e
    either l w (inr k) = no-dot-among bs w k

printed-word : (n : Name) → is_printed (word n) ≡ true → is_printed_word n ≡ true
unfolding is_printed
printed-word n h = h

no-dot : (n : Name) → IsPrintableName n → HasNoDot n
no-dot n h c = in-word n (printed-word n h.is_written) (among_contains n 46 c)

-- ---- the names of a module

abbrev IsNamed : Declaration → Type 0
IsNamed d = IsPrintableName d.of_name

of-ports : (d : PortDeclaration) (ns : List Name) → Each IsPrintableName ns → Each IsNamed (each_port d ns)
of-ports d [] h = tt
of-ports d (n ∷ ns) h = (h.0, of-ports d ns h.1)

of-header : (ds : List PortDeclaration) → Each IsPrintablePort ds → Each IsNamed (port_declarations ds)
of-header [] h = tt
of-header (d ∷ ds) h =
    each-append IsNamed (each_port d d.names) (port_declarations ds) (of-ports d d.names (each-some IsPrintableName d.names h.0.1)) (of-header ds h.1)

of-wires : (s : Bool) (r : Option Range) (ws : List (Name × Option Expression)) → Each IsPrintableWire ws → Each IsNamed (wire_declarations s r ws)
of-wires s r [] h = tt
of-wires s r (w ∷ ws) h = (h.0.0, of-wires s r ws h.1)

of-variables : (s : Bool) (r : Option Range) (vs : List (Name × Option Range)) → Each IsPrintableVariable vs → Each IsNamed (variable_declarations s r vs)
of-variables s r [] h = tt
of-variables s r (v ∷ vs) h = (h.0.0, of-variables s r vs h.1)

of-items : (items : List Item) → Each IsPrintableItem items → Each IsNamed (item_declarations items)
of-items [] h = tt
of-items (tree.port d ∷ items) h =
    each-append IsNamed (each_port d d.names) (item_declarations items) (of-ports d d.names (each-some IsPrintableName d.names h.0.1)) (of-items items h.1)
of-items (tree.parameter d ∷ items) h = of-items items h.1
of-items (tree.wires s r ws ∷ items) h =
    each-append IsNamed (wire_declarations s r ws) (item_declarations items) (of-wires s r ws (each-some IsPrintableWire ws h.0.1)) (of-items items h.1)
of-items (tree.variables s r vs ∷ items) h =
    each-append IsNamed (variable_declarations s r vs) (item_declarations items) (of-variables s r vs (each-some IsPrintableVariable vs h.0.1)) (of-items items h.1)
of-items (tree.assign ts ∷ items) h = of-items items h.1
of-items (tree.always es x ∷ items) h = of-items items h.1
of-items (tree.instances m given is ∷ items) h = of-items items h.1

header-list : (ps : Ports) → ArePrintablePorts ps → Each IsPrintablePort (header_ports ps)
header-list no_ports h = tt
header-list (listed ns) h = tt
header-list (declared ds) h = each-some IsPrintablePort ds h

names-of : (ds : List Declaration) → Each IsNamed ds → Each IsPrintableName (names_where (λ d. true) ds)
names-of [] h = tt
names-of (d ∷ ds) h = (h.0, names-of ds h.1)

of-values : (vs : List (Name × Expression)) → Each IsPrintableSetting vs → Each IsPrintableName (value_names vs)
of-values [] h = tt
of-values (v ∷ vs) h = (h.0.0, of-values vs h.1)

of-parameters : (ds : List ParameterDeclaration) → Each IsPrintableParameter ds → Each IsPrintableName (parameter_names ds)
of-parameters [] h = tt
of-parameters (d ∷ ds) h =
    each-append IsPrintableName (value_names d.values) (parameter_names ds) (of-values d.values (each-some IsPrintableSetting d.values h.0.1)) (of-parameters ds h.1)

of-instances : (is : List (Name × Connections)) → Each IsPrintableInstance is → Each IsPrintableName (instance_names is)
of-instances [] h = tt
of-instances (i ∷ is) h = (h.0.0, of-instances is h.1)

instances-of : (items : List Item) → Each IsPrintableItem items → Each IsPrintableName (all_instance_names items)
instances-of [] h = tt
instances-of (tree.port d ∷ items) h = instances-of items h.1
instances-of (tree.parameter d ∷ items) h = instances-of items h.1
instances-of (tree.wires s r ws ∷ items) h = instances-of items h.1
instances-of (tree.variables s r vs ∷ items) h = instances-of items h.1
instances-of (tree.assign ts ∷ items) h = instances-of items h.1
instances-of (tree.always es x ∷ items) h = instances-of items h.1
instances-of (tree.instances m given is ∷ items) h =
    each-append IsPrintableName (instance_names is) (all_instance_names items) (of-instances is (each-some IsPrintableInstance is h.0.2)) (instances-of items h.1)

names : (m : Module) → IsPrintableModule m → Each IsPrintableName (declared_names m)
names m h =
    each-append IsPrintableName (names_where (λ d. true) (declarations m) ++ parameter_names (all_parameters m)) (all_instance_names m.items)
    (each-append IsPrintableName (names_where (λ d. true) (declarations m)) (parameter_names (all_parameters m))
    (names-of (declarations m) (each-append IsNamed (port_declarations (header_ports m.ports)) (item_declarations m.items)
    (of-header (header_ports m.ports) (header-list m.ports h.2)) (of-items m.items h.3)))
    (of-parameters (all_parameters m) (all-printable m h)))
    (instances-of m.items h.3)

pub no-dots : (ms : Source) → IsPrintableSource ms → NamesHaveNoDots ms
no-dots ms h k m n e c = no-dot n (each-at IsPrintableName (declared_names m) n (names m (module-of ms k m h e)) (among_contains (declared_names m) n c))
