-- Lemmas on environments: what the name at a place stands for, and the word at a place of a memory.
use Rattle.std.proofs.Common.{◌≡◌, ℕ, zero, suc, ◌<◌, ◌^◌, Bool, true, false, cond, ◌&&◌, nat_lt, List, [], ◌∷◌, length, get_or, Option, Some, None, IsTrue, refl, sym, ap, ◌∙◌, subst, arith}
use Rattle.std.specs.Prelude.{◌==◌, vec_len}
use Rattle.std.proofs.lemmas.List.{length-map, get_or-map}
use Rattle.std.proofs.lemmas.Cmp.{nat_list_eq_equiv}
use Rattle.std.proofs.lemmas.Bool.Decides.{nat_tests}
use Rattle.wb_values.specs.Value.{Name, Sort, truth, memory, Value, words, Entries, entry_of, value_or_zero, valuation_of, same_name, HasSort, all_below}
use Rattle.wb_values.specs.Choice.{some_if}
use Rattle.model_meaning.specs.Term.{is_sort, sort_of, val}
use Rattle.wb_terms.specs.declared.values.Value.{Value as CodeValue}
use Rattle.wb_terms.specs.declared.values.Env.{Env}
use Rattle.wb_terms.specs.declared.sorts.Sort.{Sort as CodeSort}
use Rattle.wb_terms.specs.declared.nodes.NameId.{NameId}
use Rattle.wb_terms.specs.declared.nodes.Node.{Node}
use Rattle.wb_terms.specs.declared.nodes.Node.TheVariants.{Name as NameNode}
use Rattle.wb_terms.specs.Sort.{as_sort}
use Rattle.wb_terms.specs.Graph.{Graph, tree, tree_of_node, leaf_at, HasDistinctNames}
use Rattle.wb_terms.specs.Environment.{as_value, values_of, AreOfSorts, values_by_name, Fits, valuation, value_of}

pub length-AreOfSorts : (ns : Entries Sort) (xs : List Value) → AreOfSorts ns xs → length xs ≡ length ns
length-AreOfSorts [] [] h = refl
length-AreOfSorts [] (x ∷ xs) h = absurd h
length-AreOfSorts (n ∷ ns) [] h = absurd h
length-AreOfSorts (n ∷ ns) (x ∷ xs) h = ap suc (length-AreOfSorts ns xs h.1)

pub sort_at : (ns : Entries Sort) (xs : List Value) (k : ℕ) (d : Name × Sort) (e : Value) → AreOfSorts ns xs → k < length ns → HasSort (get_or xs k e) (get_or ns k d).1
sort_at [] xs k d e h b = absurd (omega arith)
sort_at (n ∷ ns) [] k d e h b = absurd h
sort_at (n ∷ ns) (x ∷ xs) zero d e h b = h.0
sort_at (n ∷ ns) (x ∷ xs) (suc k) d e h b = sort_at ns xs k d e h.1 (omega arith)

differs : (t : Bool) (s : Sort) (o : Option Sort) → cond t (Some s) o ≡ None → (t ≡ false) × (o ≡ None)
differs true s o h = cc
differs false s o h = (refl, h)

pub absent_at : (ns : Entries Sort) (c : Name) (k : ℕ) (d : Name × Sort) → entry_of ns c ≡ None → k < length ns → same_name (get_or ns k d).0 c ≡ false
absent_at [] c k d h b = absurd (omega arith)
absent_at (n ∷ ns) c zero d h b = (differs (same_name n.0 c) n.1 (entry_of ns c) h).0
absent_at (n ∷ ns) c (suc k) d h b = absent_at ns c k d (differs (same_name n.0 c) n.1 (entry_of ns c) h).1 (omega arith)

-- the name at a place stands for the value at that place
pub value_at : (ns : Entries Sort) (xs : List Value) (k : ℕ) (d : Name × Sort) (e : Value) → HasDistinctNames ns → AreOfSorts ns xs → k < length ns → valuation_of (values_by_name ns xs) (get_or ns k d).0 ≡ get_or xs k e
value_at [] xs k d e u h b = absurd (omega arith)
value_at (n ∷ ns) [] k d e u h b = absurd h
value_at (n ∷ ns) (x ∷ xs) zero d e u h b =
    let t : same_name n.0 n.0 ≡ true = nat_list_eq_equiv.refl n.0 in
    ap (λ p. value_or_zero (cond p (Some x) (entry_of (values_by_name ns xs) n.0))) t
value_at (n ∷ ns) (x ∷ xs) (suc k) d e u h b =
    let c = (get_or ns k d).0 in
    let f : same_name n.0 c ≡ false = nat_list_eq_equiv.symm n.0 c ∙ absent_at ns n.0 k d u.0 (omega arith) in
    ap (λ p. value_or_zero (cond p (Some x) (entry_of (values_by_name ns xs) c))) f ∙ value_at ns xs k d e u.1 h.1 (omega arith)

pub name_has_value : (g : Graph) (e : Env) (k : ℕ) → Fits g e → k < length g.names → k < vec_len e.values
name_has_value g e k f b = omega (arith, length-AreOfSorts g.names (values_of e) f, length-map e.values.items as_value, e.values.ok.0)

pub name_has_sort : (g : Graph) (e : Env) (k : ℕ) (r : CodeValue) (s : CodeSort) → Fits g e → k < length g.names → r ≡ get_or e.values.items k r → as_sort s ≡ (get_or g.names k ([], truth)).1 → HasSort (as_value r) (as_sort s)
name_has_sort g e k r s f b i j =
    let n = name_has_value g e k f b in
    let m : get_or (values_of e) k (as_value r) ≡ as_value r = get_or-map as_value e.values.items k r (as_value r) (omega (arith, e.values.ok.0)) ∙ ap as_value (sym i) in
    let h : HasSort (get_or (values_of e) k (as_value r)) (get_or g.names k ([], truth)).1 = sort_at g.names (values_of e) k ([], truth) (as_value r) f b in
    let at_sort : HasSort (get_or (values_of e) k (as_value r)) (as_sort s) = subst (λ (x : Sort). HasSort (get_or (values_of e) k (as_value r)) x) (sym j) h in
    subst (λ (x : Value). HasSort x (as_sort s)) m at_sort

-- a term of the store that is a name
pub record IsLeaf (g : Graph) (e : Env) (id : ℕ) (r : CodeValue) (s : CodeSort) : Type 0 where
  pub sort : sort_of (tree g id) ≡ Some (as_sort s)
  pub value : value_of g e id ≡ as_value r

some_if-true : (b : Bool) (s : Sort) → IsTrue b → some_if b s ≡ Some s
some_if-true true s h = refl
some_if-true false s h = cc

pub leaf : (g : Graph) (e : Env) (id : ℕ) (n : Node) (m : NameId) (r : CodeValue) (s : CodeSort) → tree g id ≡ tree_of_node g n → n ≡ NameNode m → HasDistinctNames g.names → Fits g e → m.0 < length g.names → r ≡ get_or e.values.items m.0 r → as_sort s ≡ (get_or g.names m.0 ([], truth)).1 → IsTrue (is_sort (as_sort s)) → IsLeaf g e id r s
leaf g e id n m r s t i u f b j q w =
    let k = m.0 in
    let v = name_has_value g e k f b in
    let l : tree g id ≡ leaf_at g.names k = t ∙ ap (tree_of_node g) i in
    let in_range : IsTrue (is_sort (get_or g.names k ([], truth)).1) = subst (λ (x : Sort). IsTrue (is_sort x)) q w in
    let own : get_or (values_of e) k (as_value r) ≡ as_value r = get_or-map as_value e.values.items k r (as_value r) (omega (arith, e.values.ok.0)) ∙ ap as_value (sym j) in
    record {
      sort = ap sort_of l ∙ some_if-true _ (get_or g.names k ([], truth)).1 in_range ∙ ap (λ (x : Sort). Some x) (sym q);
      value = ap (λ x. val x (valuation g e)) l ∙ value_at g.names (values_of e) k ([], truth) (as_value r) u f b ∙ own;
    }

both : (a b : Bool) → IsTrue (a && b) → IsTrue a × IsTrue b
both true b h = (refl, h)
both false b h = cc

below_from_test : (a b : ℕ) → IsTrue (nat_lt a b) → a < b
below_from_test a b h = grind (arith, nat_tests)

same_from_test : (a b : ℕ) → IsTrue (a == b) → a ≡ b
same_from_test a b h = grind (arith, nat_tests)

below_at : (d : ℕ) (ws : List ℕ) (k x : ℕ) → IsTrue (all_below d ws) → k < length ws → get_or ws k x < 2 ^ d
below_at d [] k x h b = absurd (omega arith)
below_at d (w ∷ ws) zero x h b =
    let t = (both (nat_lt w (2 ^ d)) (all_below d ws) h).0 in
    below_from_test w (2 ^ d) t
below_at d (w ∷ ws) (suc k) x h b = below_at d ws k x (both (nat_lt w (2 ^ d)) (all_below d ws) h).1 (omega arith)

-- a memory's value has as many words as it has addresses, each of the word width
pub length-memory : (a d : ℕ) (ws : List ℕ) → HasSort (words ws) (memory a d) → length ws ≡ 2 ^ a
length-memory a d ws h = same_from_test (length ws) (2 ^ a) (both (length ws == 2 ^ a) (all_below d ws) h).0

pub memory_word : (a d : ℕ) (ws : List ℕ) (k x : ℕ) → HasSort (words ws) (memory a d) → k < 2 ^ a → x ≡ get_or ws k x → x < 2 ^ d
memory_word a d ws k x h b i =
    let l = length-memory a d ws h in
    let all = (both (length ws == 2 ^ a) (all_below d ws) h).1 in
    let lt : get_or ws k x < 2 ^ d = below_at d ws k x all (omega (arith, l)) in
    omega (arith, i, lt)
