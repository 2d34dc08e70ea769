-- Lemmas on stores: what a push, a cut and a declaration do to the trees, and what is known of the entry at a place.
use Rattle.std.proofs.Common.{◌≡◌, ℕ, zero, suc, ◌+◌, ◌<◌, ◌≤◌, Bool, true, false, cond, List, [], ◌∷◌, ◌++◌, map, length, get_or, take, Option, Some, None, IsTrue, refl, sym, ap, ◌∙◌, subst, arith, length-append, append_assoc, add-zero}
use Rattle.std.proofs.lemmas.List.{append-nil, take_all, map-append, length-map, take-map, get_or-map}
use Rattle.std.proofs.Math.Seq.{get_or-append_seam, take-append_seam, take-length}
use Rattle.std.proofs.Math.ListN.{get_or-append}
use Rattle.std.proofs.lemmas.Cmp.{nat_list_eq_equiv}
use Rattle.wb_values.specs.Value.{Name, Sort, truth, Entries, entry_of, same_name}
use Rattle.model_meaning.specs.Term.{Term, name, not, neg, and, or, xor, add, sub, mul, shl, lshr, ashr, eq, ult, ule, slt, sle, concat, extract, zext, sext, ite, load, store, is_sort, sort_of}
use Rattle.wb_terms.specs.declared.store.Entry.{Entry}
use Rattle.wb_terms.specs.declared.store.Declared.{Declared}
use Rattle.wb_terms.specs.declared.nodes.Node.{Node}
use Rattle.wb_terms.specs.declared.nodes.Node.TheVariants.{Name as NameNode, Truth, Const, Not, And, Or, Xor, Neg, Add, Sub, Mul, Shl, Lshr, Ashr, Eq, Ult, Ule, Slt, Sle, Concat, Extract, Zext, Sext, Ite, Load, Store}
use Rattle.wb_terms.specs.Sort.{as_sort}
use Rattle.wb_terms.specs.Graph.{Graph, IsOver, tree_at, tree_of, trees_after, trees_of, tree_of_node, with_node, operands_of, names_of, AllBelow, HasDistinctNames}
use Rattle.wb_terms.specs.Entries.{name_of, node_of, graph_of, AllSorts, IsSorted, AllSorted, IsWellSorted}

same_two : (f : Term → Term → Term) {x y u w : Term} → x ≡ u → y ≡ w → f x y ≡ f u w
same_two f {x} {y} {u} {w} p q = ap (λ t. f t y) p ∙ ap (f u) q

same_three : (f : Term → Term → Term → Term) {x y z u v w : Term} → x ≡ u → y ≡ v → z ≡ w → f x y z ≡ f u v w
same_three f {x} {y} {z} {u} {v} {w} p q r = ap (λ t. f t y z) p ∙ same_two (f u) q r

-- a node's tree depends on the trees of its operands alone
pub tree_of-same : (ns : Entries Sort) (ts us : List Term) (n : Node) → AllBelow (length ts) (operands_of n) → ((k : ℕ) → k < length ts → tree_at us k ≡ tree_at ts k) → tree_of ns us n ≡ tree_of ns ts n
tree_of-same ns ts us (NameNode n) b s = refl
tree_of-same ns ts us (Truth t) b s = refl
tree_of-same ns ts us (Const w x) b s = refl
tree_of-same ns ts us (Not x) b s = ap not (s x.0 b.0)
tree_of-same ns ts us (Neg x) b s = ap neg (s x.0 b.0)
tree_of-same ns ts us (And x y) b s = same_two and (s x.0 b.0) (s y.0 b.1.0)
tree_of-same ns ts us (Or x y) b s = same_two or (s x.0 b.0) (s y.0 b.1.0)
tree_of-same ns ts us (Xor x y) b s = same_two xor (s x.0 b.0) (s y.0 b.1.0)
tree_of-same ns ts us (Add x y) b s = same_two add (s x.0 b.0) (s y.0 b.1.0)
tree_of-same ns ts us (Sub x y) b s = same_two sub (s x.0 b.0) (s y.0 b.1.0)
tree_of-same ns ts us (Mul x y) b s = same_two mul (s x.0 b.0) (s y.0 b.1.0)
tree_of-same ns ts us (Shl x y) b s = same_two shl (s x.0 b.0) (s y.0 b.1.0)
tree_of-same ns ts us (Lshr x y) b s = same_two lshr (s x.0 b.0) (s y.0 b.1.0)
tree_of-same ns ts us (Ashr x y) b s = same_two ashr (s x.0 b.0) (s y.0 b.1.0)
tree_of-same ns ts us (Eq x y) b s = same_two eq (s x.0 b.0) (s y.0 b.1.0)
tree_of-same ns ts us (Ult x y) b s = same_two ult (s x.0 b.0) (s y.0 b.1.0)
tree_of-same ns ts us (Ule x y) b s = same_two ule (s x.0 b.0) (s y.0 b.1.0)
tree_of-same ns ts us (Slt x y) b s = same_two slt (s x.0 b.0) (s y.0 b.1.0)
tree_of-same ns ts us (Sle x y) b s = same_two sle (s x.0 b.0) (s y.0 b.1.0)
tree_of-same ns ts us (Concat x y) b s = same_two concat (s x.0 b.0) (s y.0 b.1.0)
tree_of-same ns ts us (Load x y) b s = same_two load (s x.0 b.0) (s y.0 b.1.0)
tree_of-same ns ts us (Extract h l x) b s = ap (extract h l) (s x.0 b.0)
tree_of-same ns ts us (Zext n x) b s = ap (zext n) (s x.0 b.0)
tree_of-same ns ts us (Sext n x) b s = ap (sext n) (s x.0 b.0)
tree_of-same ns ts us (Ite c x y) b s = same_three ite (s c.0 b.0) (s x.0 b.1.0) (s y.0 b.1.1.0)
tree_of-same ns ts us (Store m i x) b s = same_three store (s m.0 b.0) (s i.0 b.1.0) (s x.0 b.1.1.0)

pub AllBelow-le : (m n : ℕ) (ks : List ℕ) → m ≤ n → AllBelow m ks → AllBelow n ks
AllBelow-le m n [] h b = tt
AllBelow-le m n (k ∷ ks) h b = (omega (arith, b.0), AllBelow-le m n ks h b.1)

-- one node more
pub trees_after-push : (ns : Entries Sort) (ts : List Term) (rest : List Node) (n : Node) → trees_after ns ts (rest ++ n ∷ []) ≡ trees_after ns ts rest ++ tree_of ns (trees_after ns ts rest) n ∷ []
trees_after-push ns ts [] n = refl
trees_after-push ns ts (m ∷ rest) n = trees_after-push ns (ts ++ tree_of ns ts m ∷ []) rest n

pub length-trees_after : (ns : Entries Sort) (ts : List Term) (rest : List Node) → length (trees_after ns ts rest) ≡ length ts + length rest
length-trees_after ns ts [] = omega arith
length-trees_after ns ts (n ∷ rest) =
    let t = tree_of ns ts n in
    omega (arith, length-trees_after ns (ts ++ t ∷ []) rest, length-append ts (t ∷ []))

-- the trees that were there stay in front
pub trees_after-front : (ns : Entries Sort) (ts : List Term) (rest : List Node) → (us : List Term) × (trees_after ns ts rest ≡ ts ++ us)
trees_after-front ns ts [] = ([], sym (append-nil ts))
trees_after-front ns ts (n ∷ rest) =
    let t = tree_of ns ts n in
    let r = trees_after-front ns (ts ++ t ∷ []) rest in
    (t ∷ r.0, r.1 ∙ append_assoc ts (t ∷ []) r.0)

pub tree_at-trees_after : (ns : Entries Sort) (ts : List Term) (rest : List Node) (k : ℕ) → k < length ts → tree_at (trees_after ns ts rest) k ≡ tree_at ts k
tree_at-trees_after ns ts rest k h =
    let r = trees_after-front ns ts rest in
    ap (λ us. tree_at us k) r.1 ∙ get_or-append ts r.0 _ k h

-- a cut of the nodes cuts the trees
pub trees_after-take : (ns : Entries Sort) (ts : List Term) (rest : List Node) (n : ℕ) → trees_after ns ts (take n rest) ≡ take (length ts + n) (trees_after ns ts rest)
trees_after-take ns ts [] zero = rw add-zero (sym (take-length ts))
trees_after-take ns ts [] (suc n) = sym (take_all (length ts + suc n) ts (omega arith))
trees_after-take ns ts (m ∷ rest) zero =
    let r = trees_after-front ns (ts ++ tree_of ns ts m ∷ []) rest in
    rw (add-zero, r.1, append_assoc) (sym (take-append_seam ts (tree_of ns ts m ∷ r.0)))
trees_after-take ns ts (m ∷ rest) (suc n) =
    let t = tree_of ns ts m in
    let e : length (ts ++ t ∷ []) + n ≡ length ts + suc n = omega (arith, length-append ts (t ∷ [])) in
    trees_after-take ns (ts ++ t ∷ []) rest n ∙ ap (λ k. take k (trees_after ns (ts ++ t ∷ []) rest)) e

-- what is known of the entry at a place of a store
pub record IsEntryAt (ns : Entries Sort) (ts : List Term) (k : ℕ) (e : Entry) : Type 0 where
  pub operands : AllBelow k (operands_of e.node)
  pub names : AllBelow (length ns) (names_of e.node)
  pub tree : tree_at ts k ≡ tree_of ns ts e.node
  pub sort : sort_of (tree_at ts k) ≡ Some (as_sort e.sort)

pub entry_at : (ns : Entries Sort) (ts : List Term) (es : List Entry) (k : ℕ) (d : Entry) → AllSorted ns ts es → k < length es → IsEntryAt ns (trees_after ns ts (map node_of es)) (length ts + k) (get_or es k d)
entry_at ns ts [] k d s h = absurd (omega arith)
entry_at ns ts (e ∷ es) zero d s h =
    let t = tree_of ns ts e.node in
    let us = ts ++ t ∷ [] in
    let all = trees_after ns us (map node_of es) in
    let l : length us ≡ length ts + 1 = length-append ts (t ∷ []) in
    let kept : (k : ℕ) → k < length ts → tree_at all k ≡ tree_at ts k = λ k i. tree_at-trees_after ns us (map node_of es) k (omega arith) ∙ get_or-append ts (t ∷ []) _ k i in
    let own : tree_of ns all e.node ≡ t = tree_of-same ns ts all e.node s.0.operands kept in
    let here : tree_at all (length ts) ≡ t = tree_at-trees_after ns us (map node_of es) (length ts) (omega arith) ∙ get_or-append_seam ts t [] _ in
    rw add-zero (record { operands = s.0.operands; names = s.0.names; tree = here ∙ sym own; sort = ap sort_of here ∙ s.0.sort })
entry_at ns ts (e ∷ es) (suc k) d s h =
    let t = tree_of ns ts e.node in
    let us = ts ++ t ∷ [] in
    let i : length us + k ≡ length ts + suc k = omega (arith, length-append ts (t ∷ [])) in
    subst (λ j. IsEntryAt ns (trees_after ns us (map node_of es)) j (get_or es k d)) i (entry_at ns us es k d s.1 (omega arith))

pub AllSorted-push : (ns : Entries Sort) (ts : List Term) (es : List Entry) (e : Entry) → AllSorted ns ts es → IsSorted ns (trees_after ns ts (map node_of es)) e → AllSorted ns ts (es ++ e ∷ [])
AllSorted-push ns ts [] e s h = (h, tt)
AllSorted-push ns ts (x ∷ es) e s h = (s.0, AllSorted-push ns (ts ++ tree_of ns ts x.node ∷ []) es e s.1 h)

pub AllSorted-take : (ns : Entries Sort) (ts : List Term) (es : List Entry) (n : ℕ) → AllSorted ns ts es → AllSorted ns ts (take n es)
AllSorted-take ns ts [] zero s = tt
AllSorted-take ns ts [] (suc n) s = tt
AllSorted-take ns ts (e ∷ es) zero s = tt
AllSorted-take ns ts (e ∷ es) (suc n) s = (s.0, AllSorted-take ns (ts ++ tree_of ns ts e.node ∷ []) es n s.1)

-- a further name changes no tree
tree_of-more_names : (ns ms : Entries Sort) (ts : List Term) (n : Node) → AllBelow (length ns) (names_of n) → tree_of (ns ++ ms) ts n ≡ tree_of ns ts n
tree_of-more_names ns ms ts (NameNode n) b = ap (λ (e : Name × Sort). name e.0 e.1) (get_or-append ns ms ([], truth) n.0 b.0)
tree_of-more_names ns ms ts _ b = refl

IsSorted-more_names : (ns ms : Entries Sort) (ts : List Term) (e : Entry) → IsSorted ns ts e → IsSorted (ns ++ ms) ts e
IsSorted-more_names ns ms ts e s =
    record {
      operands = s.operands;
      names = AllBelow-le (length ns) (length (ns ++ ms)) (names_of e.node) (omega (arith, length-append ns ms)) s.names;
      sort = ap sort_of (tree_of-more_names ns ms ts e.node s.names) ∙ s.sort;
    }

pub AllSorted-more_names : (ns ms : Entries Sort) (ts : List Term) (es : List Entry) → AllSorted ns ts es → AllSorted (ns ++ ms) ts es
AllSorted-more_names ns ms ts [] s = tt
AllSorted-more_names ns ms ts (e ∷ es) s =
    let t = sym (tree_of-more_names ns ms ts e.node s.0.names) in
    (IsSorted-more_names ns ms ts e s.0, subst (λ u. AllSorted (ns ++ ms) (ts ++ u ∷ []) es) t (AllSorted-more_names ns ms (ts ++ tree_of ns ts e.node ∷ []) es s.1))

pub trees_after-more_names : (ns ms : Entries Sort) (ts : List Term) (es : List Entry) → AllSorted ns ts es → trees_after (ns ++ ms) ts (map node_of es) ≡ trees_after ns ts (map node_of es)
trees_after-more_names ns ms ts [] s = refl
trees_after-more_names ns ms ts (e ∷ es) s =
    ap (λ u. trees_after (ns ++ ms) (ts ++ u ∷ []) (map node_of es)) (tree_of-more_names ns ms ts e.node s.0.names) ∙ trees_after-more_names ns ms (ts ++ tree_of ns ts e.node ∷ []) es s.1

lacks : (t : Bool) (s : Sort) (o : Option Sort) → cond t (Some s) o ≡ None → (t ≡ false) × (o ≡ None)
lacks true s o h = cc
lacks false s o h = (refl, h)

-- a name that the table lacks can be added
entry_of-push : (ns : Entries Sort) (b c : Name) (s : Sort) → entry_of ns c ≡ None → same_name b c ≡ false → entry_of (ns ++ (b, s) ∷ []) c ≡ None
entry_of-push [] b c s h f = rw f
entry_of-push (n ∷ ns) b c s h f =
    let l = lacks (same_name n.0 c) n.1 (entry_of ns c) h in
    rw l.0 (entry_of-push ns b c s l.1 f)

pub HasDistinctNames-push : (ns : Entries Sort) (b : Name) (s : Sort) → HasDistinctNames ns → entry_of ns b ≡ None → HasDistinctNames (ns ++ (b, s) ∷ [])
HasDistinctNames-push [] b s d h = (refl, tt)
HasDistinctNames-push (n ∷ ns) b s d h =
    let l = lacks (same_name n.0 b) n.1 (entry_of ns b) h in
    (entry_of-push ns b n.0 s d.0 (nat_list_eq_equiv.symm b n.0 ∙ l.0), HasDistinctNames-push ns b s d.1 l.1)

pub AllSorts-push : (ns : Entries Sort) (b : Name) (s : Sort) → AllSorts ns → IsTrue (is_sort s) → AllSorts (ns ++ (b, s) ∷ [])
AllSorts-push [] b s a h = (h, tt)
AllSorts-push (n ∷ ns) b s a h = (a.0, AllSorts-push ns b s a.1 h)

pub AllSorts-at : (ns : Entries Sort) (k : ℕ) (d : Name × Sort) → AllSorts ns → k < length ns → IsTrue (is_sort (get_or ns k d).1)
AllSorts-at [] k d a h = absurd (omega arith)
AllSorts-at (n ∷ ns) zero d a h = a.0
AllSorts-at (n ∷ ns) (suc k) d a h = AllSorts-at ns k d a.1 (omega arith)

-- the same for whole stores: the entry at a place, and what a push, a declaration and a cut leave
pub entry_of_store : (ds : List Declared) (es : List Entry) (g : Graph) (k : ℕ) (e : Entry) → graph_of ds es ≡ g → IsWellSorted ds es → k < length g.nodes → e ≡ get_or es k e → IsEntryAt g.names (trees_of g) k e
entry_of_store ds es g k e v w h i =
    let l : length (map node_of es) ≡ length es = length-map es node_of in
    let n : length g.nodes ≡ length es = sym (ap (λ (x : Graph). length x.nodes) v) ∙ l in
    let f : IsEntryAt (map name_of ds) (trees_of (graph_of ds es)) (0 + k) (get_or es k e) = entry_at (map name_of ds) [] es k e w.entries (omega arith) in
    let z : 0 + k ≡ k = omega arith in
    let at_k : IsEntryAt (map name_of ds) (trees_of (graph_of ds es)) k (get_or es k e) = subst (λ j. IsEntryAt (map name_of ds) (trees_of (graph_of ds es)) j (get_or es k e)) z f in
    let at_g : IsEntryAt g.names (trees_of g) k (get_or es k e) = subst (λ (x : Graph). IsEntryAt x.names (trees_of x) k (get_or es k e)) v at_k in
    subst (λ (x : Entry). IsEntryAt g.names (trees_of g) k x) (sym i) at_g

pub length-trees_of : (g : Graph) → length (trees_of g) ≡ length g.nodes
length-trees_of g = omega (arith, length-trees_after g.names [] g.nodes)

pub trees_of-push : (g : Graph) (n : Node) → trees_of (with_node g n) ≡ trees_of g ++ tree_of_node g n ∷ []
trees_of-push g n = trees_after-push g.names [] g.nodes n

pub IsWellSorted-push : (ds : List Declared) (es : List Entry) (g : Graph) (e : Entry) → graph_of ds es ≡ g → IsWellSorted ds es → IsOver g (length g.nodes) e.node → sort_of (tree_of_node g e.node) ≡ Some (as_sort e.sort) → IsWellSorted ds (es ++ e ∷ [])
IsWellSorted-push ds es g e v w o s =
    let own = graph_of ds es in
    let over : IsOver own (length own.nodes) e.node = subst (λ (x : Graph). IsOver x (length x.nodes) e.node) (sym v) o in
    let sorted : sort_of (tree_of_node own e.node) ≡ Some (as_sort e.sort) = subst (λ (x : Graph). sort_of (tree_of_node x e.node) ≡ Some (as_sort e.sort)) (sym v) s in
    let below : AllBelow (length (trees_of own)) (operands_of e.node) = rw (length-trees_of own) over.operands in
    record {
      distinct = w.distinct;
      in_range = w.in_range;
      entries = AllSorted-push (map name_of ds) [] es e w.entries (record { operands = below; names = over.names; sort = sorted });
    }

pub IsWellSorted-take : (ds : List Declared) (es : List Entry) (n : ℕ) → IsWellSorted ds es → IsWellSorted ds (take n es)
IsWellSorted-take ds es n w =
    record {
      distinct = w.distinct;
      in_range = w.in_range;
      entries = AllSorted-take (map name_of ds) [] es n w.entries;
    }

pub IsWellSorted-declare : (ds : List Declared) (es : List Entry) (g : Graph) (d : Declared) → graph_of ds es ≡ g → IsWellSorted ds es → entry_of g.names (name_of d).0 ≡ None → IsTrue (is_sort (as_sort d.sort)) → IsWellSorted (ds ++ d ∷ []) es
IsWellSorted-declare ds es g d v w f s =
    let ns = map name_of ds in
    let new : entry_of ns (name_of d).0 ≡ None = subst (λ (x : Graph). entry_of x.names (name_of d).0 ≡ None) (sym v) f in
    let e : map name_of (ds ++ d ∷ []) ≡ ns ++ name_of d ∷ [] = map-append name_of ds (d ∷ []) in
    record {
      distinct = rw e (HasDistinctNames-push ns (name_of d).0 (as_sort d.sort) w.distinct new);
      in_range = rw e (AllSorts-push ns (name_of d).0 (as_sort d.sort) w.in_range s);
      entries = rw e (AllSorted-more_names ns (name_of d ∷ []) [] es w.entries);
    }

pub trees_of-declare : (ds : List Declared) (es : List Entry) (d : Declared) → IsWellSorted ds es → trees_of (graph_of (ds ++ d ∷ []) es) ≡ trees_of (graph_of ds es)
trees_of-declare ds es d w =
    let e : map name_of (ds ++ d ∷ []) ≡ map name_of ds ++ name_of d ∷ [] = map-append name_of ds (d ∷ []) in
    ap (λ ns. trees_after ns [] (map node_of es)) e ∙ trees_after-more_names (map name_of ds) (name_of d ∷ []) [] es w.entries

pub trees_of-take : (g : Graph) (n : ℕ) → trees_after g.names [] (take n g.nodes) ≡ take n (trees_of g)
trees_of-take g n =
    let z : 0 + n ≡ n = omega arith in
    trees_after-take g.names [] g.nodes n ∙ ap (λ k. take k (trees_of g)) z

pub name_in_range : (ds : List Declared) (es : List Entry) (g : Graph) (k : ℕ) (r : Declared) → graph_of ds es ≡ g → IsWellSorted ds es → k < length g.names → r ≡ get_or ds k r → IsTrue (is_sort (as_sort r.sort))
name_in_range ds es g k r v w h i =
    let l : length (map name_of ds) ≡ length ds = length-map ds name_of in
    let n : length g.names ≡ length ds = sym (ap (λ (x : Graph). length x.names) v) ∙ l in
    let e : get_or (map name_of ds) k (name_of r) ≡ name_of r = get_or-map name_of ds k r (name_of r) (omega arith) ∙ ap name_of (sym i) in
    let a : IsTrue (is_sort (get_or (map name_of ds) k (name_of r)).1) = AllSorts-at (map name_of ds) k (name_of r) w.in_range (omega arith) in
    subst (λ (x : Name × Sort). IsTrue (is_sort x.1)) e a

pub distinct_of_store : (ds : List Declared) (es : List Entry) (g : Graph) → graph_of ds es ≡ g → IsWellSorted ds es → HasDistinctNames g.names
distinct_of_store ds es g v w = subst (λ (x : Graph). HasDistinctNames x.names) v w.distinct

pub trees_of_store-push : (ds : List Declared) (es : List Entry) (g : Graph) (e : Entry) → graph_of ds es ≡ g → trees_of (graph_of ds (es ++ e ∷ [])) ≡ trees_of g ++ tree_of_node g e.node ∷ []
trees_of_store-push ds es g e v =
    let own = graph_of ds es in
    let m : map node_of (es ++ e ∷ []) ≡ map node_of es ++ e.node ∷ [] = map-append node_of es (e ∷ []) in
    ap (λ ns. trees_after (map name_of ds) [] ns) m ∙ trees_of-push own e.node ∙ ap (λ (x : Graph). trees_of x ++ tree_of_node x e.node ∷ []) v

pub graph_of-take : (ds : List Declared) (es : List Entry) (g : Graph) (n : ℕ) → graph_of ds es ≡ g → graph_of ds (take n es) ≡ (record { names = g.names; nodes = take n g.nodes })
graph_of-take ds es g n v =
    let cut_graph : Graph → Graph = λ x. record { names = x.names; nodes = take n x.nodes } in
    let with_nodes : List Node → Graph = λ ns. record { names = map name_of ds; nodes = ns } in
    ap with_nodes (sym (take-map node_of n es)) ∙ ap cut_graph v
