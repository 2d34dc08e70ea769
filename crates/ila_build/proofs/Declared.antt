-- A declared name stands for itself, and the names before it stay as they were.
use Rattle.std.proofs.Common.{◌≡◌, ℕ, ◌+◌, Bool, true, false, cond, List, [], ◌∷◌, ◌++◌, length, Bor, Option, Some, None, refl, sym, ap, ◌∙◌, subst, arith, length-append, append_assoc}
use Rattle.std.proofs.Math.Seq.{get_or-append_seam}
use Rattle.std.specs.BTreeMap.{BTreeMap, is_at}
use Rattle.std.specs.Map.{lookup}
use Rattle.std.specs.Ordering.{nat_cmp}
use Rattle.std.specs.Cmp.Lexicographic.{slice_cmp}
use Rattle.std.proofs.lemmas.Slice.Eq.{bytes_eq-Decides}
use Rattle.wb_values.specs.Value.{Name, Sort, same_name, Entries, entry_of}
use Rattle.model_meaning.specs.Term as terms
use Rattle.model_meaning.specs.Term.{Term}
use Rattle.model_files.specs.Scope.{Visible, declared}
use Rattle.wb_terms.specs.declared.nodes.NameId.{NameId}
use Rattle.wb_terms.specs.declared.nodes.TermId.{TermId}
use Rattle.wb_terms.specs.declared.nodes.Node.{Node}
use Rattle.wb_terms.specs.declared.nodes.Node.TheVariants.{Name as NameNode}
use Rattle.wb_terms.specs.Graph.{Graph, tree_at, leaf_at, trees_of, tree_of_node, with_name, with_node}
use Rattle.ila_build.specs.Standing.{IsIn, under_name, StandsFor, StandAll, IsTable, IsKept, IsWider, AreIn}
use Rattle.ila_build.proofs.Growing.{by_node, new_tree, wider, widen, are_in-wider}
use Rattle.ila_build.proofs.Definitions.{stands_grown, stands_kept, are_in_more}

no_stand : (g : Graph) (v : Visible) (o : Option TermId) → o ≡ None → StandsFor g v o → ⊥
no_stand g v None e s = s
no_stand g v (Some id) e s = cc

absent_from : (g : Graph) (t : BTreeMap (Bor (List ℕ)) TermId) (ns : Entries Sort) (n : Name) → StandAll g t ns → under_name t n ≡ None → entry_of ns n ≡ None
absent_from g t [] n s e = refl
absent_from g t (m ∷ ns) n s e = by_test (absent_from g t ns n s.1 e) (same_name m.0 n) refl where
  by_test : entry_of ns n ≡ None → (b : Bool) → same_name m.0 n ≡ b → cond b (Some m.1) (entry_of ns n) ≡ None
  by_test i true k = absurd (no_stand g (declared m.0 m.1) (under_name t m.0) (ap (under_name t) ((bytes_eq-Decides m.0 n).0 k) ∙ e) s.0)
  by_test i false k = i

pub absent : (g : Graph) (t : BTreeMap (Bor (List ℕ)) TermId) (n : Name) → IsTable g t → under_name t n ≡ None → entry_of g.names n ≡ None
unfolding IsTable
absent g t n s e = absent_from g t g.names n s.1 e

pub wide_name : (g m : Graph) (n : Name) (s : Sort) → m ≡ with_name g n s → trees_of m ≡ trees_of g → IsWider g m
wide_name g m n s e ts =
    let l : length m.nodes ≡ length g.nodes = ap (λ (f : Graph). length f.nodes) e in
    record {
      more = (n, s) ∷ [];
      names = ap (λ (f : Graph). f.names) e;
      longer = omega (arith, l);
      trees = λ k i. ap (λ us. tree_at us k) ts;
    }

pub wide_declared : (g m h : Graph) (n : Name) (s : Sort) (d : Node) (t : Term) → m ≡ with_name g n s → trees_of m ≡ trees_of g → h ≡ with_node m d → trees_of h ≡ trees_of m ++ t ∷ [] → IsWider g h
wide_declared g m h n s d t e ts f us = widen (wide_name g m n s e ts) (wider (by_node m h d t f us))

stands_new : (g m h : Graph) (n : Name) (s : Sort) (i : NameId) (id : TermId) → m ≡ with_name g n s → i.0 ≡ length g.names
    → h ≡ with_node m (NameNode i) → trees_of h ≡ trees_of m ++ tree_of_node m (NameNode i) ∷ [] → id.0 ≡ length m.nodes → StandsFor h (declared n s) (Some id)
stands_new g m h n s i id e j f us k =
    let l : length h.nodes ≡ length m.nodes + 1 = ap (λ (f : Graph). length f.nodes) f ∙ length-append m.nodes (NameNode i ∷ []) in
    let leaf : leaf_at m.names i.0 ≡ terms.name n s =
    ap (λ (f : Graph). leaf_at f.names i.0) e ∙ (ap (leaf_at (g.names ++ (n, s) ∷ [])) j ∙ ap (λ (x : Name × Sort). terms.name x.0 x.1) (get_or-append_seam g.names (n, s) [] _)) in
    (omega (arith, l, k), new_tree m h (tree_of_node m (NameNode i)) id.0 k us ∙ leaf, refl)

all_kept : (g h : Graph) (t u : BTreeMap (Bor (List ℕ)) TermId) (ns : Entries Sort) → IsWider g h → IsKept t u → StandAll g t ns → StandAll h u ns
unfolding IsKept
all_kept g h t u [] b a s = tt
all_kept g h t u (n ∷ ns) b a s =
    (stands_kept h (declared n.0 n.1) (under_name t n.0) (under_name u n.0) (a n.0) (stands_grown g h (declared n.0 n.1) (under_name t n.0) b s.0), all_kept g h t u ns b a s.1)

all_more : (g : Graph) (t : BTreeMap (Bor (List ℕ)) TermId) (ns : Entries Sort) (n : Name) (s : Sort) → StandAll g t ns → StandsFor g (declared n s) (under_name t n) → StandAll g t (ns ++ (n, s) ∷ [])
all_more g t [] n s a h = (h, tt)
all_more g t (m ∷ ns) n s a h = (a.0, all_more g t ns n s a.1 h)

-- the table with a declared name
pub table_declared : (g m h : Graph) (t u : BTreeMap (Bor (List ℕ)) TermId) (n : Name) (s : Sort) (i : NameId) (id : TermId)
    → IsTable g t → IsKept t u → m ≡ with_name g n s → trees_of m ≡ trees_of g → i.0 ≡ length g.names
    → h ≡ with_node m (NameNode i) → trees_of h ≡ trees_of m ++ tree_of_node m (NameNode i) ∷ [] → id.0 ≡ length m.nodes
    → ((q : Name) → under_name u q ≡ cond (same_name n q) (Some id) (under_name t q)) → IsTable h u
unfolding IsTable
table_declared g m h t u n s i id a keep e ts j f us k r =
    let b : IsWider g h = wide_declared g m h n s (NameNode i) (tree_of_node m (NameNode i)) e ts f us in
    let new : StandsFor h (declared n s) (Some id) = stands_new g m h n s i id e j f us k in
    let it : under_name u n ≡ Some id = r n ∙ ap (λ x. cond x (Some id) (under_name t n)) ((bytes_eq-Decides n n).1 refl) in
    let names : h.names ≡ g.names ++ (n, s) ∷ [] = ap (λ (f : Graph). f.names) f ∙ ap (λ (f : Graph). f.names) e in (
      are_in_more h t u n id (are_in-wider g h t None b a.0) new.0 r,
      subst (StandAll h u) (sym names) (all_more h u g.names n s (all_kept g h t u g.names b keep a.1) (subst (StandsFor h (declared n s)) (sym it) new)),
    )

-- after puts alone the table is as good
pub table_grown : (g h : Graph) (t u : BTreeMap (Bor (List ℕ)) TermId) → IsWider g h → h.names ≡ g.names → IsKept t u → AreIn h u None → IsTable g t → IsTable h u
unfolding IsTable
table_grown g h t u b e keep i a = (i, subst (StandAll h u) (sym e) (all_kept g h t u g.names b keep a.1))

pub names_turn : (old now : Entries Sort) (x : Name × Sort) (rest all : Entries Sort) → now ≡ old ++ x ∷ [] → old ++ x ∷ rest ≡ all → now ++ rest ≡ all
names_turn old now x rest all e h = ap (λ ns. ns ++ rest) e ∙ (append_assoc old (x ∷ []) rest ∙ h)

pub in_table : (g : Graph) (t : BTreeMap (Bor (List ℕ)) TermId) → IsTable g t → AreIn g t None
unfolding IsTable
in_table g t s = s.0

nothing_in : (g : Graph) (o : Option TermId) → o ≡ None → IsIn g o
nothing_in g None e = tt
nothing_in g (Some id) e = cc

-- a store without names, and a table without entries
pub table_empty : (g : Graph) (t : BTreeMap (Bor (List ℕ)) TermId) → g.names ≡ [] → t.entries ≡ [] → IsTable g t
unfolding IsTable AreIn
table_empty g t e f =
    ((λ n. nothing_in g (under_name t n) (ap (λ es. lookup (is_at (λ k. slice_cmp nat_cmp n k.now)) es) f)), subst (StandAll g t) (sym e) tt)
