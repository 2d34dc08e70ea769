-- Stores that have grown: what a put term does to the terms before it, and to what names stand for.
use Rattle.std.proofs.Common.{◌≡◌, ℕ, ◌+◌, List, [], ◌∷◌, ◌++◌, length, Bor, Option, Some, None, refl, sym, ap, ◌∙◌, subst, arith, length-append, append_assoc}
use Rattle.std.proofs.lemmas.List.{append-nil}
use Rattle.std.specs.Prelude.{◌↔◌, Result, Ok, Err, IfOk, OnOk, OnErr}
use Rattle.std.proofs.Math.Seq.{get_or-append_seam}
use Rattle.std.proofs.Math.ListN.{get_or-append}
use Rattle.std.specs.BTreeMap.{BTreeMap}
use Rattle.model_meaning.specs.Term.{Term, sort_of}
use Rattle.wb_terms.specs.declared.nodes.TermId.{TermId}
use Rattle.wb_terms.specs.declared.nodes.Node.{Node}
use Rattle.wb_terms.specs.declared.store.PutStop.{PutStop}
use Rattle.wb_terms.specs.declared.store.PutStop.TheVariants.{BadSort, NoMemory}
use Rattle.wb_terms.specs.Graph.{Graph, tree, tree_at, trees_of, tree_of_node, with_node}
use Rattle.wb_terms.proofs.StoreLemmas.{length-trees_after}
use Rattle.ila_build.specs.Standing.{IsIn, AreIn, found, seen, seen_by, IsGrown, IsWider, IsPut}

pub same : (g : Graph) → IsGrown g g
same g = record { names = refl; longer = omega arith; trees = λ k i. refl }

pub onward : {f g h : Graph} → IsGrown f g → IsGrown g h → IsGrown f h
onward {f} {g} {h} a b = record {
  names = b.names ∙ a.names;
  longer = omega (arith, a.longer, b.longer);
  trees = λ k i. b.trees k (omega (arith, i, a.longer)) ∙ a.trees k i;
}

pub wider : {g h : Graph} → IsGrown g h → IsWider g h
wider {g} {h} a = record { more = []; names = a.names ∙ sym (append-nil g.names); longer = a.longer; trees = a.trees }

pub widen : {f g h : Graph} → IsWider f g → IsWider g h → IsWider f h
widen {f} {g} {h} a b = record {
  more = a.more ++ b.more;
  names = b.names ∙ (ap (λ ns. ns ++ b.more) a.names ∙ append_assoc f.names a.more b.more);
  longer = omega (arith, a.longer, b.longer);
  trees = λ k i. b.trees k (omega (arith, i, a.longer)) ∙ a.trees k i;
}

as_many : (g : Graph) → length (trees_of g) ≡ length g.nodes
as_many g = omega (arith, length-trees_after g.names [] g.nodes)

-- one node more
pub by_node : (g h : Graph) (n : Node) (t : Term) → h ≡ with_node g n → trees_of h ≡ trees_of g ++ t ∷ [] → IsGrown g h
by_node g h n t e ts =
    let l : length h.nodes ≡ length g.nodes + 1 = ap (λ (f : Graph). length f.nodes) e ∙ length-append g.nodes (n ∷ []) in
    record {
      names = ap (λ (f : Graph). f.names) e;
      longer = omega (arith, l);
      trees = λ k i. ap (λ us. tree_at us k) ts ∙ get_or-append (trees_of g) (t ∷ []) _ k (omega (arith, i, as_many g));
    }

pub new_tree : (g h : Graph) (t : Term) (k : ℕ) → k ≡ length g.nodes → trees_of h ≡ trees_of g ++ t ∷ [] → tree h k ≡ t
new_tree g h t k e ts =
    let at : k ≡ length (trees_of g) = e ∙ sym (as_many g) in
    ap (λ us. tree_at us k) ts ∙ (ap (λ j. tree_at (trees_of g ++ t ∷ []) j) at ∙ get_or-append_seam (trees_of g) t [] _)

-- what the store's own clauses say of a put node
pub put_as : (g h : Graph) (n : Node) (r : Result TermId PutStop)
    → IfOk r (λ id. id.0 ≡ length g.nodes) → OnOk r (h ≡ with_node g n)
    → OnOk r (trees_of h ≡ trees_of g ++ tree_of_node g n ∷ [])
    → ((r ≡ Err BadSort) ↔ (sort_of (tree_of_node g n) ≡ None)) → OnErr r (h ≡ g) → IsPut g h r (tree_of_node g n)
put_as g h n (Ok id) i o t b e =
    let l : length h.nodes ≡ length g.nodes + 1 = ap (λ (f : Graph). length f.nodes) o ∙ length-append g.nodes (n ∷ []) in
    (by_node g h n (tree_of_node g n) o t, omega (arith, i, l), new_tree g h (tree_of_node g n) id.0 i t)
put_as g h n (Err BadSort) i o t b e = (subst (IsGrown g) (sym e) (same g), b.0 refl)
put_as g h n (Err NoMemory) i o t b e = subst (IsGrown g) (sym e) (same g)

-- a later put in a store that had grown before, of the same tree
pub more_put : (f g h : Graph) (r : Result TermId PutStop) {t u : Term} → IsGrown f g → t ≡ u → IsPut g h r t → IsPut f h r u
more_put f g h (Ok id) b e p = (onward b p.0, p.1, p.2 ∙ e)
more_put f g h (Err BadSort) b e p = (onward b p.0, subst (λ x. sort_of x ≡ None) e p.1)
more_put f g h (Err NoMemory) b e p = onward b p

-- what is refused is refused with what stands around it
pub lost_put : (f g h : Graph) (r : PutStop) (t u : Term) → IsGrown f g → (sort_of t ≡ None → sort_of u ≡ None) → IsPut g h (Err r) t → IsPut f h (Err r) u
lost_put f g h BadSort t u b s p = (onward b p.0, s p.1)
lost_put f g h NoMemory t u b s p = onward b p

pub seen-grown : (g h : Graph) (o : Option TermId) → IsGrown g h → IsIn g o → seen h o ≡ seen g o
seen-grown g h None b i = refl
seen-grown g h (Some id) b i = b.trees id.0 i

pub seen_by-grown : (g h : Graph) (t : BTreeMap (Bor (List ℕ)) TermId) (f : Option TermId) → IsGrown g h → AreIn g t f → seen_by h t f ≡ seen_by g t f
unfolding AreIn seen_by
seen_by-grown g h t f b i = λ j n. seen-grown g h (found t f n) b (i n) j

is_in-grown : (g h : Graph) (o : Option TermId) → IsGrown g h → IsIn g o → IsIn h o
is_in-grown g h None b i = tt
is_in-grown g h (Some id) b i = omega (arith, b.longer, i)

pub are_in-grown : (g h : Graph) (t : BTreeMap (Bor (List ℕ)) TermId) (f : Option TermId) → IsGrown g h → AreIn g t f → AreIn h t f
unfolding AreIn
are_in-grown g h t f b i = λ n. is_in-grown g h (found t f n) b (i n)

is_in-wider : (g h : Graph) (o : Option TermId) → IsWider g h → IsIn g o → IsIn h o
is_in-wider g h None b i = tt
is_in-wider g h (Some id) b i = omega (arith, b.longer, i)

pub are_in-wider : (g h : Graph) (t : BTreeMap (Bor (List ℕ)) TermId) (f : Option TermId) → IsWider g h → AreIn g t f → AreIn h t f
unfolding AreIn
are_in-wider g h t f b i = λ n. is_in-wider g h (found t f n) b (i n)

pub wide_same : (g : Graph) → IsWider g g
wide_same g = wider (same g)
