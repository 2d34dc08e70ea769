-- The names of declared ports, one declaration after the other; a set and a table with one name more.
use Rattle.std.proofs.Common.{◌≡◌, ◌∙◌, refl, ap, sym, ℕ, suc, ◌+◌, ◌<◌, Bool, true, false, cond, ◌||◌, List, [], ◌∷◌, ◌++◌, append_assoc, length, drop, get_or, map, Bor, Option, Some, None, add-one, drop-cons}
use Rattle.std.specs.Ordering.{nat_cmp}
use Rattle.std.specs.Cmp.Lexicographic.{slice_cmp}
use Rattle.std.specs.BTreeMap as tree
use Rattle.std.specs.BTreeMap.{BTreeMap}
use Rattle.std.specs.BTreeSet as sorted
use Rattle.std.specs.BTreeSet.{BTreeSet}
use Rattle.std.proofs.lemmas.Map.Text.{is_eq-slice_cmp, btree_map_updates_str}
use Rattle.wb_values.specs.Value.{Name, same_name, Entries}
use Rattle.verilog_trees.specs.Syntax.{Direction}
use Rattle.verilog_meaning.specs.Settled.{named_ports, declared_ports, names_of}
use Rattle.verilog_designs.specs.Names.{is_among}
use Rattle.v_syntax.specs.declared.module.PortDeclaration.{PortDeclaration}
use Rattle.v_syntax.specs.Source.{port_of}
use Rattle.v_hier.specs.Tables.{has_name}
use Rattle.v_scopes.specs.declared.range.Bounds.{Bounds}
use Rattle.v_scopes.specs.declared.range.Bounds.TheVariants.{Known}
use Rattle.v_ports.specs.Ranges.{first_in, first_after}

-- ---- names of declarations

names_then : (w : Direction) (ns : List Name) (es : Entries Direction) → names_of (named_ports w ns ++ es) ≡ ns ++ names_of es
names_then w [] es = refl
names_then w (n ∷ ns) es = ap (λ xs. n ∷ xs) (names_then w ns es)

ports_drop : (ports : List PortDeclaration) (i : ℕ) (p : PortDeclaration) → i < length ports → p ≡ get_or ports i p
    → map port_of (drop i ports) ≡ port_of p ∷ map port_of (drop (i + 1) ports)
ports_drop ports i p h is = rw (add-one, drop-cons ports i p h) (ap (λ x. port_of x ∷ map port_of (drop (suc i) ports)) (sym is))

-- one declaration more: its names stand behind those before
pub declared_turn : (ports : List PortDeclaration) (i : ℕ) (p : PortDeclaration) (before after whole : List Name) → i < length ports → p ≡ get_or ports i p
    → after ≡ before ++ map (λ n. n.now) p.names.items → whole ≡ before ++ names_of (declared_ports (map port_of (drop i ports)))
    → whole ≡ after ++ names_of (declared_ports (map port_of (drop (i + 1) ports)))
declared_turn ports i p before after whole h is added e =
    let these : List Name = map (λ n. n.now) p.names.items in
    let rest : List Name = names_of (declared_ports (map port_of (drop (i + 1) ports))) in
    e
    ∙ ap (λ ps. before ++ names_of (declared_ports ps)) (ports_drop ports i p h is)
    ∙ ap (λ xs. before ++ xs) (names_then (port_of p).direction these (declared_ports (map port_of (drop (i + 1) ports))))
    ∙ sym (append_assoc before these rest)
    ∙ ap (λ xs. xs ++ rest) (sym added)

-- ---- a set

names_drop : (ns : List (Bor (List ℕ))) (i : ℕ) (d : Bor (List ℕ)) → i < length ns
    → map (λ n. n.now) (drop i ns) ≡ (get_or ns i d).now ∷ map (λ n. n.now) (drop (i + 1) ns)
names_drop ns i d h = rw (add-one, drop-cons ns i d h) refl

moved : (e h r : Bool) → (cond e true h || r) ≡ (h || (e || r))
moved true true r = refl
moved true false r = refl
moved false h r = refl

pub set_turn : (ns : List (Bor (List ℕ))) (i : ℕ) (d : Bor (List ℕ)) (s n : BTreeSet (Bor (List ℕ))) (t : Bool) (q : Name) → i < length ns
    → sorted.Updates (λ x y. slice_cmp nat_cmp x.now y.now) s n (get_or ns i d) true
    → (has_name s q || is_among (map (λ n. n.now) (drop i ns)) q) ≡ t → (has_name n q || is_among (map (λ n. n.now) (drop (i + 1) ns)) q) ≡ t
set_turn ns i d s n t q h u e =
    let at_q : Bor (List ℕ) = record { ref_ptr = (0, 0); now = q } in
    let rest : List Name = map (λ n. n.now) (drop (i + 1) ns) in
    ap (λ b. b || is_among rest q) (u.0 at_q ∙ ap (λ b. cond b true (has_name s q)) (is_eq-slice_cmp (get_or ns i d).now q))
    ∙ moved (same_name (get_or ns i d).now q) (has_name s q) (is_among rest q)
    ∙ ap (λ xs. has_name s q || is_among xs q) (sym (names_drop ns i d h))
    ∙ e

-- ---- a table

-- the first range of a name is put into the table
pub kept_so : (old new : BTreeMap (Bor (List ℕ)) (ℕ × ℕ)) (k : Bor (List ℕ)) (before : Option (ℕ × ℕ)) (range : Bounds) (l r : ℕ) → before ≡ None → range ≡ Known l r
    → tree.Updates (λ a b. slice_cmp nat_cmp a.now b.now) old new k (Some (l, r)) → (q : Name)
    → first_in new q ≡ cond (same_name k.now q) (first_after before range) (first_in old q)
kept_so old new k before range l r e f u q =
    btree_map_updates_str k.now old new (Some (l, r)) u q
    ∙ ap (λ x. cond (same_name k.now q) x (first_in old q)) (sym (ap (λ b. first_after b range) e ∙ ap (λ b. first_after None b) f))
