-- What a module declares, gathered item by item.
use Rattle.std.proofs.Common.{◌≡◌, ◌∙◌, refl, ap, sym, Bool, List, [], ◌∷◌, ◌++◌, map, append_assoc, Option, Some, None, option_map, ℕ, suc, ◌+◌, ◌<◌, length, drop, get_or, arith, drop-cons}
use Rattle.wb_values.specs.Value.{Name}
use Rattle.verilog_trees.specs.Syntax as pure
use Rattle.verilog_trees.specs.Syntax.{Range, Expression, PortDeclaration, wire, reg}
use Rattle.verilog_meaning.specs.Expression.{Scope}
use Rattle.verilog_meaning.specs.Hierarchy.{Declaration, each_port, wire_declarations, variable_declarations}
use Rattle.v_syntax.specs.declared.module.PortDeclaration.{PortDeclaration as CodePort}
use Rattle.v_syntax.specs.declared.module.NetKind.TheVariants.{Wire as WireKind, Reg}
use Rattle.v_syntax.specs.declared.module.Wire.{Wire}
use Rattle.v_syntax.specs.Source.{boxed_tree_of, optional_range_of, direction_of, kind_of, port_of}
use Rattle.v_scopes.specs.declared.range.Bounds.TheVariants.{Absent}
use Rattle.v_scopes.specs.declared.row.Form.{Form}
use Rattle.v_scopes.specs.Bounds.{bounds}
use Rattle.v_scopes.specs.Rows.{Row, row, rows, formed, named, placed}

pub rows-append : (s : Scope) (ds es : List Declaration) → rows s (ds ++ es) ≡ rows s ds ++ rows s es
rows-append s [] es = refl
rows-append s (d ∷ ds) es = ap (λ xs. row s d ∷ xs) (rows-append s ds es)

-- entries that were put before others
pub put_before : {X : Type 0} (old new part rest all : List X) → new ≡ old ++ part → all ≡ part ++ rest → old ++ all ≡ new ++ rest
put_before old new part rest all h e = ap (λ xs. old ++ xs) e ∙ (sym (append_assoc old part rest) ∙ ap (λ xs. xs ++ rest) (sym h))

-- two parts one after the other
pub two_parts : {X : Type 0} (old mid new a b all : List X) → mid ≡ old ++ a → new ≡ mid ++ b → all ≡ a ++ b → new ≡ old ++ all
two_parts old mid new a b all h k e = k ∙ (ap (λ xs. xs ++ b) h ∙ (append_assoc old a b ∙ ap (λ xs. old ++ xs) (sym e)))

-- ---- the names of one declaration

port_rows : (s : Scope) (p : CodePort) (f : Form) (ns : List Name) → f ≡ record { direction = Some p.direction; kind = p.kind; signed = p.signed; range = bounds s (optional_range_of p.range) }
    → named f ns ≡ rows s (each_port (port_of p) ns)
port_rows s p f [] e = refl
port_rows s p f (n ∷ ns) e = λ i. formed (e i) Absent n ∷ port_rows s p f ns e i

pub port-rows : (s : Scope) (p : CodePort) (f : Form) (ns ms : List Name) → f.direction ≡ Some p.direction → f.kind ≡ p.kind → f.signed ≡ p.signed
    → f.range ≡ bounds s (optional_range_of p.range) → ns ≡ ms → named f ns ≡ rows s (each_port (port_of p) ms)
port-rows s p f ns ms d k g r e =
    ap (named f) e ∙ port_rows s p f ms (λ i. record { direction = d i; kind = k i; signed = g i; range = r i })

wire_rows : (s : Scope) (signed : Bool) (r : Option Range) (ws : List (Name × Option Expression))
    → named (record { direction = None; kind = Some WireKind; signed = signed; range = bounds s r }) (map (λ w. w.0) ws) ≡ rows s (wire_declarations signed r ws)
wire_rows s signed r [] = refl
wire_rows s signed r (w ∷ ws) = ap (λ xs. row s (record { of_name = w.0; direction = None; kind = Some wire; signed = signed; range = r; addresses = None }) ∷ xs) (wire_rows s signed r ws)

wire_names : (ws : List Wire) → map (λ w. w.name.now) ws ≡ map (λ (w : Name × Option Expression). w.0) (map (λ (w : Wire). (w.name.now, boxed_tree_of w.value)) ws)
wire_names [] = refl
wire_names (w ∷ ws) = ap (λ ns. w.name.now ∷ ns) (wire_names ws)

pub wire-rows : (s : Scope) (signed : Bool) (r : Option Range) (f : Form) (ws vs : List Wire) → f ≡ record { direction = None; kind = Some WireKind; signed = signed; range = bounds s r }
    → vs ≡ ws → named f (map (λ w. w.name.now) vs) ≡ rows s (wire_declarations signed r (map (λ (w : Wire). (w.name.now, boxed_tree_of w.value)) ws))
wire-rows s signed r f ws vs e h =
    ap (λ xs. named f (map (λ (w : Wire). w.name.now) xs)) h
    ∙ (ap (λ g. named g (map (λ (w : Wire). w.name.now) ws)) e
    ∙ (ap (named (record { direction = None; kind = Some WireKind; signed = signed; range = bounds s r })) (wire_names ws)
    ∙ wire_rows s signed r (map (λ (w : Wire). (w.name.now, boxed_tree_of w.value)) ws)))

variable_rows : (s : Scope) (signed : Bool) (r : Option Range) (vs : List (Name × Option Range))
    → placed s (record { direction = None; kind = Some Reg; signed = signed; range = bounds s r }) vs ≡ rows s (variable_declarations signed r vs)
variable_rows s signed r [] = refl
variable_rows s signed r (v ∷ vs) = ap (λ xs. row s (record { of_name = v.0; direction = None; kind = Some reg; signed = signed; range = r; addresses = v.1 }) ∷ xs) (variable_rows s signed r vs)

pub variable-rows : (s : Scope) (signed : Bool) (r : Option Range) (f : Form) (vs ws : List (Name × Option Range)) → f ≡ record { direction = None; kind = Some Reg; signed = signed; range = bounds s r }
    → ws ≡ vs → placed s f ws ≡ rows s (variable_declarations signed r vs)
variable-rows s signed r f vs ws e h = ap (placed s f) h ∙ (ap (λ g. placed s g vs) e ∙ variable_rows s signed r vs)

-- the same in front of others
pub before_others : (s : Scope) (part : List Row) (ds rest : List Declaration) → part ≡ rows s ds → rows s (ds ++ rest) ≡ part ++ rows s rest
before_others s part ds rest e = rows-append s ds rest ∙ ap (λ xs. xs ++ rows s rest) (sym e)

-- ---- loops

pub rest_is : {A : Type 0} (xs : List A) (i : ℕ) (r : A) → i < length xs → r ≡ get_or xs i r → drop i xs ≡ r ∷ drop (i + 1) xs
rest_is xs i r h is =
    let e : suc i ≡ i + 1 = omega arith in
    drop-cons xs i r h ∙ (ap (λ a. a ∷ drop (suc i) xs) (sym is) ∙ ap (λ k. r ∷ drop k xs) e)

-- a turn that puts the entries of one element behind others
module _ {X E : Type 0} (all : List X → List E) (part : X → List E) (is_all : (x : X) (xs : List X) → all (x ∷ xs) ≡ part x ++ all xs) where
  pub entries_more : (xs : List X) (i : ℕ) (r : X) (now new whole : List E) → i < length xs → r ≡ get_or xs i r → new ≡ now ++ part r
      → now ++ all (drop i xs) ≡ whole → new ++ all (drop (i + 1) xs) ≡ whole
  entries_more xs i r now new whole h is k so =
      ap (λ es. es ++ all (drop (i + 1) xs)) k
      ∙ (append_assoc now (part r) (all (drop (i + 1) xs))
      ∙ (ap (λ es. now ++ es) (sym (is_all r (drop (i + 1) xs)) ∙ sym (ap all (rest_is xs i r h is))) ∙ so))
