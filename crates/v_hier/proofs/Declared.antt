-- What a module declares, gathered item by item.
use Rattle.std.proofs.Common.{◌≡◌, ◌∙◌, refl, ap, sym, Bool, List, [], ◌∷◌, ◌++◌, map, append_assoc, Option, ℕ, suc, ◌+◌, ◌<◌, length, drop, get_or, arith}
use Rattle.std.proofs.Math.Seq.{drop-cons}
use Rattle.wb_values.specs.Value.{Name, Entries}
use Rattle.verilog_trees.specs.Syntax as pure
use Rattle.verilog_trees.specs.Syntax.{Range, Expression, PortDeclaration, ParameterDeclaration, Connections}
use Rattle.verilog_meaning.specs.Hierarchy.{Declaration, each_port, wire_declarations, variable_declarations, value_names, body_parameters}
use Rattle.verilog_meaning.specs.Settled.{named_ports, names_of}
use Rattle.verilog_designs.specs.Names.{parameter_names}
use Rattle.v_syntax.specs.declared.module.Item.{Item}
use Rattle.v_syntax.specs.declared.module.ParameterDeclaration.{ParameterDeclaration as CodeDeclaration}
use Rattle.v_syntax.specs.declared.module.Wire.{Wire}
use Rattle.v_syntax.specs.declared.module.Variable.{Variable}
use Rattle.v_syntax.specs.Source.{boxed_tree_of, optional_range_of, parameter_of, item_of}
use Rattle.v_hier.specs.declared.entry.Tag.{Tag}
use Rattle.v_hier.specs.declared.entry.Tag.TheVariants.{Net, Other}
use Rattle.v_hier.specs.Entries.{port_tag, tag_of, declaration_entries, tagged}

pub tagged-append : (t : Tag) (xs ys : List Name) → tagged t (xs ++ ys) ≡ tagged t xs ++ tagged t ys
tagged-append t [] ys = refl
tagged-append t (x ∷ xs) ys = ap (λ es. (x, t) ∷ es) (tagged-append t xs ys)

pub declared-append : (ds es : List Declaration) → declaration_entries (ds ++ es) ≡ declaration_entries ds ++ declaration_entries es
declared-append [] es = refl
declared-append (d ∷ ds) es = ap (λ xs. (d.of_name, tag_of d) ∷ xs) (declared-append ds es)

-- the entries of a declaration in front of others
pub port-entries : (d : PortDeclaration) (ns : List Name) (rest : List Declaration) → declaration_entries (each_port d ns ++ rest) ≡ tagged (port_tag d.kind) ns ++ declaration_entries rest
port-entries d [] rest = refl
port-entries d (n ∷ ns) rest = ap (λ xs. (n, port_tag d.kind) ∷ xs) (port-entries d ns rest)

pub wire-entries : (s : Bool) (r : Option Range) (ws : List (Name × Option Expression)) (ns : List Name) → ns ≡ map (λ w. w.0) ws → (rest : List Declaration)
    → declaration_entries (wire_declarations s r ws ++ rest) ≡ tagged Net ns ++ declaration_entries rest
wire-entries s r ws ns e rest = so ws ∙ ap (λ ms. tagged Net ms ++ declaration_entries rest) (sym e)
  where
    so : (ws : List (Name × Option Expression)) → declaration_entries (wire_declarations s r ws ++ rest) ≡ tagged Net (map (λ w. w.0) ws) ++ declaration_entries rest
    so [] = refl
    so (w ∷ ws) = ap (λ xs. (w.0, Net) ∷ xs) (so ws)

pub variable-entries : (s : Bool) (r : Option Range) (vs : List (Name × Option Range)) (ns : List Name) → ns ≡ map (λ v. v.0) vs → (rest : List Declaration)
    → declaration_entries (variable_declarations s r vs ++ rest) ≡ tagged Net ns ++ declaration_entries rest
variable-entries s r vs ns e rest = so vs ∙ ap (λ ms. tagged Net ms ++ declaration_entries rest) (sym e)
  where
    so : (vs : List (Name × Option Range)) → declaration_entries (variable_declarations s r vs ++ rest) ≡ tagged Net (map (λ v. v.0) vs) ++ declaration_entries rest
    so [] = refl
    so (v ∷ vs) = ap (λ xs. (v.0, Net) ∷ xs) (so vs)

-- entries that were put before others
pub put-before : {X : Type 0} (old new part rest all : List X) → new ≡ old ++ part → all ≡ part ++ rest → old ++ all ≡ new ++ rest
put-before old new part rest all h e = ap (λ xs. old ++ xs) e ∙ (sym (append_assoc old part rest) ∙ ap (λ xs. xs ++ rest) (sym h))

pub parameter-append : (ds es : List ParameterDeclaration) → parameter_names (ds ++ es) ≡ parameter_names ds ++ parameter_names es
parameter-append [] es = refl
parameter-append (d ∷ ds) es = ap (λ ns. value_names d.values ++ ns) (parameter-append ds es) ∙ sym (append_assoc (value_names d.values) (parameter_names ds) (parameter_names es))

-- two parts one after the other
pub two-parts : {X : Type 0} (old mid new a b all : List X) → mid ≡ old ++ a → new ≡ mid ++ b → all ≡ a ++ b → new ≡ old ++ all
two-parts old mid new a b all h k e = k ∙ (ap (λ xs. xs ++ b) h ∙ (append_assoc old a b ∙ ap (λ xs. old ++ xs) (sym e)))

pub ports-named : (d : pure.Direction) (ns : List Name) (rest : Entries pure.Direction) → names_of (named_ports d ns ++ rest) ≡ ns ++ names_of rest
ports-named d [] rest = refl
ports-named d (n ∷ ns) rest = ap (λ ms. n ∷ ms) (ports-named d ns rest)

pub wire-names : (ws : List Wire) → map (λ w. w.name.now) ws ≡ map (λ (w : Name × Option Expression). w.0) (map (λ (w : Wire). (w.name.now, boxed_tree_of w.value)) ws)
wire-names [] = refl
wire-names (w ∷ ws) = ap (λ ns. w.name.now ∷ ns) (wire-names ws)

pub variable-names : (vs : List Variable) → map (λ v. v.name.now) vs ≡ map (λ (v : Name × Option Range). v.0) (map (λ (v : Variable). (v.name.now, optional_range_of v.addresses)) vs)
variable-names [] = refl
variable-names (v ∷ vs) = ap (λ ns. v.name.now ∷ ns) (variable-names vs)

-- ---- loops

pub rest_is : {A : Type 0} (xs : List A) (i : ℕ) (r : A) → i < length xs → r ≡ get_or xs i r → drop i xs ≡ r ∷ drop (i + 1) xs
rest_is xs i r h is =
    let e : suc i ≡ i + 1 = omega arith in
    drop-cons xs i r h ∙ (ap (λ a. a ∷ drop (suc i) xs) (sym is) ∙ ap (λ k. r ∷ drop k xs) e)

-- a turn that puts the entries of one element behind others
module _ {X E : Type 0} (all : List X → List E) (part : X → List E) (is_all : (x : X) (xs : List X) → all (x ∷ xs) ≡ part x ++ all xs) where
  pub entries-more : (xs : List X) (i : ℕ) (r : X) (now new whole : List E) → i < length xs → r ≡ get_or xs i r → new ≡ now ++ part r
      → now ++ all (drop i xs) ≡ whole → new ++ all (drop (i + 1) xs) ≡ whole
  entries-more xs i r now new whole h is k so =
      ap (λ es. es ++ all (drop (i + 1) xs)) k
      ∙ (append_assoc now (part r) (all (drop (i + 1) xs))
      ∙ (ap (λ es. now ++ es) (sym (is_all r (drop (i + 1) xs)) ∙ sym (ap all (rest_is xs i r h is))) ∙ so))

pub all-parameters : (ps qs : List CodeDeclaration) (is js : List Item) → qs ≡ ps → js ≡ is
    → tagged Other (parameter_names (map parameter_of ps ++ body_parameters (map item_of is))) ≡ tagged Other (parameter_names (map parameter_of qs)) ++ tagged Other (parameter_names (body_parameters (map item_of js)))
all-parameters ps qs is js p i =
    ap (tagged Other) (parameter-append (map parameter_of ps) (body_parameters (map item_of is)))
    ∙ (tagged-append Other (parameter_names (map parameter_of ps)) (parameter_names (body_parameters (map item_of is)))
    ∙ (ap (λ xs. tagged Other (parameter_names (map parameter_of xs)) ++ tagged Other (parameter_names (body_parameters (map item_of is)))) (sym p)
    ∙ ap (λ xs. tagged Other (parameter_names (map parameter_of qs)) ++ tagged Other (parameter_names (body_parameters (map item_of xs)))) (sym i)))
