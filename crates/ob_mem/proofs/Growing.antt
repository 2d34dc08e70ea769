-- A store that grows keeps its terms. Rows of terms that are put one by one.
use Rattle.std.proofs.Common.{◌≡◌, ℕ, suc, ◌+◌, ◌<◌, ◌≤◌, ◌^◌, Bool, true, List, [], ◌∷◌, ◌++◌, length, Some, refl, sym, ap, ◌∙◌, subst, arith, length-append, append_assoc}
use Rattle.std.specs.Prelude.{IsSome, Result, Ok, Err, IfOk, OnOk}
use Rattle.std.proofs.lemmas.List.{append-nil, get_or-append-add}
use Rattle.std.proofs.Math.ListN.{get_or-append}
use Rattle.std.proofs.Math.Seq.{get_or-append_seam}
use Rattle.wb_values.specs.Value.{Sort, truth, word, Value, number, Valuation}
use Rattle.model_meaning.specs.Term.{Term, constant_truth, val, sort_of}
use Rattle.wb_terms.specs.Graph.{Graph, AllBelow, IsOver, tree, tree_at, tree_of, trees_of, tree_of_node, operands_of, names_of, with_node}
use Rattle.wb_terms.specs.declared.nodes.Node.{Node}
use Rattle.wb_terms.proofs.StoreLemmas.{length-trees_of, tree_of-same, AllBelow-le}
use Rattle.sat_gates.specs.Names.{is_blastable}
use Rattle.ob_mem.specs.declared.rows.Row.{Row}
use Rattle.ob_mem.specs.Words.{listed}
use Rattle.ob_mem.specs.Rows.{Grows, IsRow, node_in, tree_in, AreOver, IsPlain, AreWords, HoldWords}
use Rattle.ob_mem.proofs.Listing.{length-listed, get_or-listed}

pub Grows-refl : (g : Graph) → Grows g g
Grows-refl g = record { names = refl; further = []; trees = sym (append-nil (trees_of g)) }

pub Grows-trans : {g h k : Graph} → Grows g h → Grows h k → Grows g k
Grows-trans {g} {h} {k} a b =
    record {
      names = b.names ∙ a.names;
      further = a.further ++ b.further;
      trees = b.trees ∙ (ap (λ ts. ts ++ b.further) a.trees ∙ append_assoc (trees_of g) a.further b.further);
    }

pub count_grows : {g h : Graph} → Grows g h → length g.nodes ≤ length h.nodes
count_grows {g} {h} a =
    omega (arith, length-trees_of g, length-trees_of h, ap length a.trees, length-append (trees_of g) a.further)

pub below_kept : {g h : Graph} (id : ℕ) → Grows g h → id < length g.nodes → id < length h.nodes
below_kept id a b = omega (arith, count_grows a)

pub tree_kept : {g h : Graph} (id : ℕ) → Grows g h → id < length g.nodes → tree h id ≡ tree g id
tree_kept {g} {h} id a b =
    let l : id < length (trees_of g) = omega (arith, length-trees_of g) in
    ap (λ ts. tree_at ts id) a.trees ∙ get_or-append (trees_of g) a.further (constant_truth Bool.false) id l

pub IsPlain-kept : {g h : Graph} (id : ℕ) (s : Sort) → Grows g h → IsPlain g id s → IsPlain h id s
IsPlain-kept {g} {h} id s a o =
    let e = tree_kept id a o.below in
    record {
      below = below_kept id a o.below;
      sort = ap sort_of e ∙ o.sort;
      blastable = ap is_blastable e ∙ o.blastable;
    }

pub AreWords-kept : {g h : Graph} (first count d : ℕ) → Grows g h → AreWords g first count d → AreWords h first count d
AreWords-kept first count d a o k b = IsPlain-kept (first + k) (word d) a (o k b)

pub val_kept : {g h : Graph} (id : ℕ) (w : Valuation) (x : Value) → Grows g h → id < length g.nodes → val (tree g id) w ≡ x → val (tree h id) w ≡ x
val_kept id w x a b e = ap (λ (t : Term). val t w) (tree_kept id a b) ∙ e

pub HoldWords-kept : {g h : Graph} (w : Valuation) (first count d : ℕ) (xs : List ℕ) (place : ℕ) → Grows g h → AreWords g first count d → HoldWords g w first count xs place → HoldWords h w first count xs place
HoldWords-kept w first count d xs place a p o k b = val_kept (first + k) w _ a (p k b).below (o k b)

-- a tree over operands that stand in a store is the same in a store that has grown
pub tree_of_node-kept : {g h : Graph} (n : Node) → Grows g h → IsOver g (length g.nodes) n → tree_of_node h n ≡ tree_of_node g n
tree_of_node-kept {g} {h} n a o =
    let below : AllBelow (length (trees_of g)) (operands_of n) = subst (λ k. AllBelow k (operands_of n)) (sym (length-trees_of g)) o.operands in
    ap (λ ns. tree_of ns (trees_of h) n) a.names ∙ tree_of-same g.names (trees_of g) (trees_of h) n below
    (λ k b. ap (λ ts. tree_at ts k) a.trees ∙ get_or-append (trees_of g) a.further (constant_truth Bool.false) k b)

pub IsOver-kept : {g h : Graph} (n : Node) → Grows g h → IsOver g (length g.nodes) n → IsOver h (length h.nodes) n
IsOver-kept {g} {h} n a o =
    record {
      operands = AllBelow-le (length g.nodes) (length h.nodes) (operands_of n) (count_grows a) o.operands;
      names = subst (λ ns. AllBelow (length ns) (names_of n)) (sym a.names) o.names;
    }

-- one term more
pub one_more : (g h : Graph) (t : Term) → h.names ≡ g.names → trees_of h ≡ trees_of g ++ t ∷ [] → Grows g h
one_more g h t n e = record { names = n; further = t ∷ []; trees = e }

pub last_tree : (g h : Graph) (t : Term) (id : ℕ) → id ≡ length g.nodes → trees_of h ≡ trees_of g ++ t ∷ [] → tree h id ≡ t
last_tree g h t id i e =
    let l : id ≡ length (trees_of g) = i ∙ sym (length-trees_of g) in
    ap (λ ts. tree_at ts id) e ∙ (ap (λ k. tree_at (trees_of g ++ t ∷ []) k) l ∙ get_or-append_seam (trees_of g) t [] (constant_truth Bool.false))

pub last_below : (g h : Graph) (t : Term) (id : ℕ) → id ≡ length g.nodes → trees_of h ≡ trees_of g ++ t ∷ [] → id < length h.nodes
last_below g h t id i e =
    omega (arith, length-trees_of g, length-trees_of h, ap length e, length-append (trees_of g) (t ∷ []))

pub last_plain : (g h : Graph) (t : Term) (id : ℕ) (s : Sort) → id ≡ length g.nodes → trees_of h ≡ trees_of g ++ t ∷ [] → sort_of t ≡ Some s → is_blastable t ≡ true → IsPlain h id s
last_plain g h t id s i e o b =
    record {
      below = last_below g h t id i e;
      sort = ap sort_of (last_tree g h t id i e) ∙ o;
      blastable = ap is_blastable (last_tree g h t id i e) ∙ b;
    }

-- rows
pub row_grows : {g h : Graph} (f : ℕ → Term) (count : ℕ) → IsRow g h f count → Grows g h
row_grows f count r = record { names = r.names; further = listed f count; trees = r.trees }

pub row_start : (g : Graph) (f : ℕ → Term) → IsRow g g f 0
row_start g f = record { names = refl; trees = sym (append-nil (trees_of g)) }

pub row_more : (g h k : Graph) (f : ℕ → Term) (count : ℕ) (t : Term) → IsRow g h f count → k.names ≡ h.names → trees_of k ≡ trees_of h ++ t ∷ [] → t ≡ f count → IsRow g k f (suc count)
row_more g h k f count t r n e i =
    record {
      names = n ∙ r.names;
      trees = e ∙ (ap (λ ts. ts ++ t ∷ []) r.trees ∙ (append_assoc (trees_of g) (listed f count) (t ∷ []) ∙ ap (λ u. trees_of g ++ (listed f count ++ u ∷ [])) i));
    }

pub row_tree : (g h : Graph) (f : ℕ → Term) (count first k : ℕ) → IsRow g h f count → first ≡ length g.nodes → k < count → tree h (first + k) ≡ f k
row_tree g h f count first k r i b =
    let l : first + k ≡ length (trees_of g) + k = omega (arith, length-trees_of g) in
    ap (λ ts. tree_at ts (first + k)) r.trees ∙ (ap (λ j. tree_at (trees_of g ++ listed f count) j) l
    ∙ (get_or-append-add (trees_of g) (listed f count) k (constant_truth Bool.false) ∙ get_or-listed f count k (constant_truth Bool.false) b))

pub row_below : (g h : Graph) (f : ℕ → Term) (count first k : ℕ) → IsRow g h f count → first ≡ length g.nodes → k < count → first + k < length h.nodes
row_below g h f count first k r i b =
    omega (arith, length-trees_of g, length-trees_of h, ap length r.trees, length-append (trees_of g) (listed f count), length-listed f count)

pub row_plain : (g h : Graph) (f : ℕ → Term) (count first k : ℕ) (s : Sort) → IsRow g h f count → first ≡ length g.nodes → k < count → sort_of (f k) ≡ Some s → is_blastable (f k) ≡ true → IsPlain h (first + k) s
row_plain g h f count first k s r i b o p =
    let e = row_tree g h f count first k r i b in
    record {
      below = row_below g h f count first k r i b;
      sort = ap sort_of e ∙ o;
      blastable = ap is_blastable e ∙ p;
    }

pub row_val : (g h : Graph) (f : ℕ → Term) (count first k : ℕ) (w : Valuation) (x : Value) → IsRow g h f count → first ≡ length g.nodes → k < count → val (f k) w ≡ x → val (tree h (first + k)) w ≡ x
row_val g h f count first k w x r i b e = ap (λ (t : Term). val t w) (row_tree g h f count first k r i b) ∙ e

-- the node at the next place still stands over the store that has grown, and its tree is the row's
pub next_over : (g h : Graph) (row : Row) (count k : ℕ) → AreOver g row count → Grows g h → k < count → IsOver h (length h.nodes) (node_in row k)
next_over g h row count k o a b = IsOver-kept (node_in row k) a (o.over k b)

pub next_tree : (g h : Graph) (row : Row) (count k : ℕ) → AreOver g row count → Grows g h → k < count → tree_of_node h (node_in row k) ≡ tree_in g row k
next_tree g h row count k o a b = tree_of_node-kept (node_in row k) a (o.over k b)

pub next_sorted : (g h : Graph) (row : Row) (count k : ℕ) → AreOver g row count → Grows g h → k < count → IsSome (sort_of (tree_of_node h (node_in row k)))
next_sorted g h row count k o a b = subst (λ (t : Term). IsSome (sort_of t)) (sym (next_tree g h row count k o a b)) (o.sorted k b)
