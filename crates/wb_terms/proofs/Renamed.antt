-- Laws on a store with other names: each term keeps its sort, and is worth what it was where the names at the same places have the same values.
use Rattle.std.proofs.Common.{◌≡◌, ℕ, zero, suc, ◌<◌, Bool, true, false, cond, List, [], ◌∷◌, ◌++◌, map, length, get_or, drop, Option, Some, refl, sym, ap, ◌∙◌, subst, arith, length-append, append_assoc}
use Rattle.std.specs.Prelude.{slice_index, slice_set, slice_index_or}
use Rattle.std.specs.String.{string_bytes}
use Rattle.std.proofs.lemmas.List.{map-append, length-map, get_or-map}
use Rattle.std.proofs.lemmas.Cmp.{nat_list_eq_equiv}
use Rattle.wb_values.specs.Value.{Name, Sort, truth, Value, truth_value, number, words, as_truth, as_number, as_words, Entries, entry_of, value_or_zero, Valuation, valuation_of, same_name}
use Rattle.wb_values.specs.Choice.{some_if}
use Rattle.wb_values.specs.Number.{word_neg, word_add, word_sub, word_mul, word_shl, word_lshr, word_ashr, word_ult, word_ule, word_slt, word_sle, word_concat, word_extract, word_zext, word_sext}
use Rattle.model_meaning.specs.Term.{Term, is_sort, sort_of, val, bits_sort, same_bits_sort, word_sort, same_word_sort, compared, concat_sort, extract_sort, extended_sort, ite_sort, load_sort, store_sort, width_of_sort, complement, conjunction, disjunction, exclusive_or, is_equal}
use Rattle.wb_terms.specs.declared.store.Entry.{Entry}
use Rattle.wb_terms.specs.declared.store.Declared.{Declared}
use Rattle.wb_terms.specs.declared.nodes.Node.{Node}
use Rattle.wb_terms.specs.declared.nodes.Node.TheVariants.{Name as NameNode, Truth, Const, Not, And, Or, Xor, Neg, Add, Sub, Mul, Shl, Lshr, Ashr, Eq, Ult, Ule, Slt, Sle, Concat, Extract, Zext, Sext, Ite, Load, Store}
use Rattle.wb_terms.specs.Sort.{as_sort}
use Rattle.wb_terms.specs.Graph.{Graph, tree, tree_at, leaf_at, tree_of, trees_after, trees_of, operands_of, names_of, AllBelow, HasDistinctNames}
use Rattle.wb_terms.specs.Entries.{name_of, node_of, graph_of, AllSorts, IsSorted, AllSorted, IsWellSorted}
use Rattle.wb_terms.specs.Environment.{values_by_name}
use Rattle.wb_terms.specs.Renamed.{renamed}
use Rattle.wb_terms.proofs.StoreLemmas.{length-trees_of, distinct_of_store}
use Rattle.wb_terms.proofs.EnvironmentLemmas.{absent_at}

-- what stands for a term in a larger one: its sort and its value
abbrev pub Meaning : Type 0
Meaning = Option Sort × Value

abbrev pub meaning : Valuation → Term → Meaning
meaning p t = (sort_of t, val t p)

abbrev of_name : Sort → Value → Meaning
of_name s x = (some_if (is_sort s) s, x)

abbrev of_bits : (Value → Value → Value) → Meaning → Meaning → Meaning
of_bits f a b = (same_bits_sort a.0 b.0, f a.1 b.1)

abbrev of_words : (ℕ → ℕ → ℕ → ℕ) → Meaning → Meaning → Meaning
of_words f a b = (same_word_sort a.0 b.0, number (f (width_of_sort a.0) (as_number a.1) (as_number b.1)))

abbrev of_order : (ℕ → ℕ → ℕ → Bool) → Meaning → Meaning → Meaning
of_order f a b = (compared (same_word_sort a.0 b.0), truth_value (f (width_of_sort a.0) (as_number a.1) (as_number b.1)))

abbrev of_not : Meaning → Meaning
of_not a = (bits_sort a.0, complement (width_of_sort a.0) a.1)

abbrev of_neg : Meaning → Meaning
of_neg a = (word_sort a.0, number (word_neg (width_of_sort a.0) (as_number a.1)))

abbrev of_eq : Meaning → Meaning → Meaning
of_eq a b = (compared (same_bits_sort a.0 b.0), truth_value (is_equal a.1 b.1))

abbrev of_concat : Meaning → Meaning → Meaning
of_concat a b = (concat_sort a.0 b.0, number (word_concat (width_of_sort b.0) (as_number a.1) (as_number b.1)))

abbrev of_extract : ℕ → ℕ → Meaning → Meaning
of_extract h l a = (extract_sort h l a.0, number (word_extract h l (as_number a.1)))

abbrev of_zext : ℕ → Meaning → Meaning
of_zext n a = (extended_sort n a.0, number (word_zext (as_number a.1)))

abbrev of_sext : ℕ → Meaning → Meaning
of_sext n a = (extended_sort n a.0, number (word_sext n (width_of_sort a.0) (as_number a.1)))

abbrev of_ite : Meaning → Meaning → Meaning → Meaning
of_ite a b c = (ite_sort a.0 b.0 c.0, cond (as_truth a.1) b.1 c.1)

abbrev of_load : Meaning → Meaning → Meaning
of_load a b = (load_sort a.0 b.0, number (slice_index (as_words a.1) (as_number b.1)))

abbrev of_store : Meaning → Meaning → Meaning → Meaning
of_store a b c = (store_sort a.0 b.0 c.0, words (slice_set (as_words a.1) (as_number b.1) (as_number c.1)))

same_one : (f : Meaning → Meaning) {a b : Meaning} → a ≡ b → f a ≡ f b
same_one f h = ap f h

same_two : (f : Meaning → Meaning → Meaning) {a b c d : Meaning} → a ≡ c → b ≡ d → f a b ≡ f c d
same_two f {a} {b} {c} {d} h i = ap (λ x. f x b) h ∙ ap (f c) i

same_three : (f : Meaning → Meaning → Meaning → Meaning) {a b c d e g : Meaning} → a ≡ d → b ≡ e → c ≡ g → f a b c ≡ f d e g
same_three f {a} {b} {c} {d} {e} {g} h i j = ap (λ x. f x b c) h ∙ same_two (f d) i j

-- the trees and the names at the same places mean the same
abbrev AreAlike : Valuation → Valuation → List Term → List Term → Type 0
AreAlike p q ts us = (k : ℕ) → k < length ts → meaning q (tree_at us k) ≡ meaning p (tree_at ts k)

abbrev HaveAlikeNames : Valuation → Valuation → Entries Sort → Entries Sort → Type 0
HaveAlikeNames p q ns ms = (j : ℕ) → j < length ns → meaning q (leaf_at ms j) ≡ meaning p (leaf_at ns j)

alike_at : (p q : Valuation) (ns ms : Entries Sort) (ts us : List Term) (n : Node) → AllBelow (length ts) (operands_of n) → AllBelow (length ns) (names_of n) → AreAlike p q ts us → HaveAlikeNames p q ns ms → meaning q (tree_of ms us n) ≡ meaning p (tree_of ns ts n)
alike_at p q ns ms ts us (NameNode n) b c s d = d n.0 c.0
alike_at p q ns ms ts us (Truth t) b c s d = refl
alike_at p q ns ms ts us (Const w x) b c s d = refl
alike_at p q ns ms ts us (Not x) b c s d = same_one (of_not) (s x.0 b.0)
alike_at p q ns ms ts us (Neg x) b c s d = same_one (of_neg) (s x.0 b.0)
alike_at p q ns ms ts us (And x y) b c s d = same_two (of_bits conjunction) (s x.0 b.0) (s y.0 b.1.0)
alike_at p q ns ms ts us (Or x y) b c s d = same_two (of_bits disjunction) (s x.0 b.0) (s y.0 b.1.0)
alike_at p q ns ms ts us (Xor x y) b c s d = same_two (of_bits exclusive_or) (s x.0 b.0) (s y.0 b.1.0)
alike_at p q ns ms ts us (Add x y) b c s d = same_two (of_words word_add) (s x.0 b.0) (s y.0 b.1.0)
alike_at p q ns ms ts us (Sub x y) b c s d = same_two (of_words word_sub) (s x.0 b.0) (s y.0 b.1.0)
alike_at p q ns ms ts us (Mul x y) b c s d = same_two (of_words word_mul) (s x.0 b.0) (s y.0 b.1.0)
alike_at p q ns ms ts us (Shl x y) b c s d = same_two (of_words word_shl) (s x.0 b.0) (s y.0 b.1.0)
alike_at p q ns ms ts us (Lshr x y) b c s d = same_two (of_words word_lshr) (s x.0 b.0) (s y.0 b.1.0)
alike_at p q ns ms ts us (Ashr x y) b c s d = same_two (of_words word_ashr) (s x.0 b.0) (s y.0 b.1.0)
alike_at p q ns ms ts us (Eq x y) b c s d = same_two (of_eq) (s x.0 b.0) (s y.0 b.1.0)
alike_at p q ns ms ts us (Ult x y) b c s d = same_two (of_order (λ w. word_ult)) (s x.0 b.0) (s y.0 b.1.0)
alike_at p q ns ms ts us (Ule x y) b c s d = same_two (of_order (λ w. word_ule)) (s x.0 b.0) (s y.0 b.1.0)
alike_at p q ns ms ts us (Slt x y) b c s d = same_two (of_order word_slt) (s x.0 b.0) (s y.0 b.1.0)
alike_at p q ns ms ts us (Sle x y) b c s d = same_two (of_order word_sle) (s x.0 b.0) (s y.0 b.1.0)
alike_at p q ns ms ts us (Concat x y) b c s d = same_two (of_concat) (s x.0 b.0) (s y.0 b.1.0)
alike_at p q ns ms ts us (Load x y) b c s d = same_two (of_load) (s x.0 b.0) (s y.0 b.1.0)
alike_at p q ns ms ts us (Extract h l x) b c s d = same_one (of_extract h l) (s x.0 b.0)
alike_at p q ns ms ts us (Zext n x) b c s d = same_one (of_zext n) (s x.0 b.0)
alike_at p q ns ms ts us (Sext n x) b c s d = same_one (of_sext n) (s x.0 b.0)
alike_at p q ns ms ts us (Ite t x y) b c s d = same_three of_ite (s t.0 b.0) (s x.0 b.1.0) (s y.0 b.1.1.0)
alike_at p q ns ms ts us (Store m i x) b c s d = same_three of_store (s m.0 b.0) (s i.0 b.1.0) (s x.0 b.1.1.0)

-- one tree more on both sides
alike_more : (p q : Valuation) (ts us : List Term) (t u : Term) → length us ≡ length ts → AreAlike p q ts us → meaning q u ≡ meaning p t → (k : ℕ) → k < length (ts ++ t ∷ []) → meaning q (tree_at (us ++ u ∷ []) k) ≡ meaning p (tree_at (ts ++ t ∷ []) k)
alike_more p q [] [] t u l s r zero h = r
alike_more p q [] [] t u l s r (suc k) h = absurd (omega arith)
alike_more p q [] (y ∷ us) t u l s r k h = absurd (omega arith)
alike_more p q (x ∷ ts) [] t u l s r k h = absurd (omega arith)
alike_more p q (x ∷ ts) (y ∷ us) t u l s r zero h = s zero (omega arith)
alike_more p q (x ∷ ts) (y ∷ us) t u l s r (suc k) h = alike_more p q ts us t u (omega arith) (λ j i. s (suc j) (omega arith)) r k (omega arith)

as_many : (ts us : List Term) (t u : Term) → length us ≡ length ts → length (us ++ u ∷ []) ≡ length (ts ++ t ∷ [])
as_many ts us t u l = omega (arith, length-append ts (t ∷ []), length-append us (u ∷ []))

alike_after : (p q : Valuation) (ns ms : Entries Sort) (ts us : List Term) (es : List Entry) → HaveAlikeNames p q ns ms → length us ≡ length ts → AreAlike p q ts us → AllSorted ns ts es → AreAlike p q (trees_after ns ts (map node_of es)) (trees_after ms us (map node_of es))
alike_after p q ns ms ts us [] d l s a = s
alike_after p q ns ms ts us (e ∷ es) d l s a =
    let t = tree_of ns ts e.node in
    let u = tree_of ms us e.node in
    let r : meaning q u ≡ meaning p t = alike_at p q ns ms ts us e.node a.0.operands a.0.names s d in
    alike_after p q ns ms (ts ++ t ∷ []) (us ++ u ∷ []) es d (as_many ts us t u l) (alike_more p q ts us t u l s r) a.1

-- entries that are sorted over some names are so over others
AllSorted-alike : (p q : Valuation) (ns ms : Entries Sort) (ts us : List Term) (es : List Entry) → HaveAlikeNames p q ns ms → length ms ≡ length ns → length us ≡ length ts → AreAlike p q ts us → AllSorted ns ts es → AllSorted ms us es
AllSorted-alike p q ns ms ts us [] d m l s a = tt
AllSorted-alike p q ns ms ts us (e ∷ es) d m l s a =
    let t = tree_of ns ts e.node in
    let u = tree_of ms us e.node in
    let r : meaning q u ≡ meaning p t = alike_at p q ns ms ts us e.node a.0.operands a.0.names s d in
    let here : IsSorted ms us e = record {
      operands = subst (λ n. AllBelow n (operands_of e.node)) (sym l) a.0.operands;
      names = subst (λ n. AllBelow n (names_of e.node)) (sym m) a.0.names;
      sort = ap (λ (x : Meaning). x.0) r ∙ a.0.sort;
    } in
    (here, AllSorted-alike p q ns ms (ts ++ t ∷ []) (us ++ u ∷ []) es d m (as_many ts us t u l) (alike_more p q ts us t u l s r) a.1)

-- the table with other names is as long, and has the same sorts
pub length-renamed : (xs : List Name) (ns : Entries Sort) → length xs ≡ length ns → length (renamed xs ns) ≡ length ns
length-renamed [] [] l = refl
length-renamed [] (n ∷ ns) l = absurd (omega arith)
length-renamed (x ∷ xs) [] l = absurd (omega arith)
length-renamed (x ∷ xs) (n ∷ ns) l = ap suc (length-renamed xs ns (omega arith))

sort-renamed : (xs : List Name) (ns : Entries Sort) (j : ℕ) (d : Name × Sort) → length xs ≡ length ns → j < length ns → (get_or (renamed xs ns) j d).1 ≡ (get_or ns j d).1
sort-renamed xs [] j d l h = absurd (omega arith)
sort-renamed [] (n ∷ ns) j d l h = absurd (omega arith)
sort-renamed (x ∷ xs) (n ∷ ns) zero d l h = refl
sort-renamed (x ∷ xs) (n ∷ ns) (suc j) d l h = sort-renamed xs ns j d (omega arith) (omega arith)

AllSorts-renamed : (xs : List Name) (ns : Entries Sort) → AllSorts ns → AllSorts (renamed xs ns)
AllSorts-renamed [] ns a = tt
AllSorts-renamed (x ∷ xs) [] a = tt
AllSorts-renamed (x ∷ xs) (n ∷ ns) a = (a.0, AllSorts-renamed xs ns a.1)

-- at each place of the first table the name of the second has under q the value of that of the first under p
abbrev pub AgreeByPlace : (olds news : Entries Sort) → (p q : Valuation) → Type 0
AgreeByPlace ns ms p q = (j : ℕ) → j < length ns → q (slice_index_or ms j ([], truth)).0 ≡ p (slice_index_or ns j ([], truth)).0

alike_names : (p q : Valuation) (xs : List Name) (ns : Entries Sort) → length xs ≡ length ns → AgreeByPlace ns (renamed xs ns) p q → HaveAlikeNames p q ns (renamed xs ns)
alike_names p q xs ns l a = λ j h.
    let n = slice_index_or ns j ([], truth) in
    let m = slice_index_or (renamed xs ns) j ([], truth) in
    let s : m.1 ≡ n.1 = sort-renamed xs ns j ([], truth) l h in
    ap (λ (t : Sort). of_name t (q m.0)) s ∙ ap (of_name n.1) (a j h)

-- a valuation under which all names have one value
abbrev nowhere : Valuation
nowhere n = number 0

-- the store with these names
abbrev pub under : List Name → Graph → Graph
under xs g = record { names = renamed xs g.names; nodes = g.nodes }

same_meanings : (ds : List Declared) (es : List Entry) (g : Graph) (xs : List Name) (p q : Valuation) → graph_of ds es ≡ g → IsWellSorted ds es → length xs ≡ length g.names → AgreeByPlace g.names (renamed xs g.names) p q → (k : ℕ) → k < length g.nodes → meaning q (tree (under xs g) k) ≡ meaning p (tree g k)
same_meanings ds es g xs p q v w l a k h =
    let own = graph_of ds es in
    let m : length xs ≡ length own.names = subst (λ (x : Graph). length xs ≡ length x.names) (sym v) l in
    let b : AgreeByPlace own.names (renamed xs own.names) p q = subst (λ (x : Graph). AgreeByPlace x.names (renamed xs x.names) p q) (sym v) a in
    let n : k < length own.nodes = subst (λ (x : Graph). k < length x.nodes) (sym v) h in
    let i : k < length (trees_of own) = rw (length-trees_of own) n in
    let r : meaning q (tree (under xs own) k) ≡ meaning p (tree own k) = alike_after p q own.names (renamed xs own.names) [] [] es (alike_names p q xs own.names m b) refl (λ j i. absurd (omega arith)) w.entries k i in
    subst (λ (x : Graph). meaning q (tree (under xs x) k) ≡ meaning p (tree x k)) v r

pub same_sorts : (ds : List Declared) (es : List Entry) (g : Graph) (xs : List Name) → graph_of ds es ≡ g → IsWellSorted ds es → length xs ≡ length g.names → (k : ℕ) → k < length g.nodes → sort_of (tree (under xs g) k) ≡ sort_of (tree g k)
same_sorts ds es g xs v w l k h = ap (λ (x : Meaning). x.0) (same_meanings ds es g xs nowhere nowhere v w l (λ j i. refl) k h)

pub same_values : (ds : List Declared) (es : List Entry) (g : Graph) (xs : List Name) (p q : Valuation) → graph_of ds es ≡ g → IsWellSorted ds es → length xs ≡ length g.names → AgreeByPlace g.names (renamed xs g.names) p q → (k : ℕ) → k < length g.nodes → val (tree (under xs g) k) q ≡ val (tree g k) p
same_values ds es g xs p q v w l a k h = ap (λ (x : Meaning). x.1) (same_meanings ds es g xs p q v w l a k h)

-- a name stands for the value at its place
value_in_place : (ns : Entries Sort) (vs : List Value) (k : ℕ) (d : Name × Sort) (e : Value) → HasDistinctNames ns → length vs ≡ length ns → k < length ns → valuation_of (values_by_name ns vs) (get_or ns k d).0 ≡ get_or vs k e
value_in_place [] vs k d e u l b = absurd (omega arith)
value_in_place (n ∷ ns) [] k d e u l b = absurd (omega arith)
value_in_place (n ∷ ns) (x ∷ vs) zero d e u l b =
    let t : same_name n.0 n.0 ≡ true = nat_list_eq_equiv.refl n.0 in
    ap (λ p. value_or_zero (cond p (Some x) (entry_of (values_by_name ns vs) n.0))) t
value_in_place (n ∷ ns) (x ∷ vs) (suc k) d e u l b =
    let c = (get_or ns k d).0 in
    let f : same_name n.0 c ≡ false = nat_list_eq_equiv.symm n.0 c ∙ absent_at ns n.0 k d u.0 (omega arith) in
    ap (λ p. value_or_zero (cond p (Some x) (entry_of (values_by_name ns vs) c))) f ∙ value_in_place ns vs k d e u.1 (omega arith) (omega arith)

-- two tables of as many distinct names agree by place where both have the values of one list
pub by_place : (ns ms : Entries Sort) (vs : List Value) → HasDistinctNames ns → HasDistinctNames ms → length ms ≡ length ns → length vs ≡ length ns → AgreeByPlace ns ms (valuation_of (values_by_name ns vs)) (valuation_of (values_by_name ms vs))
by_place ns ms vs u v m l = λ j h.
    value_in_place ms vs j ([], truth) (number 0) v (omega arith) (omega arith) ∙ sym (value_in_place ns vs j ([], truth) (number 0) u l h)

pub value_there : (ds : List Declared) (es : List Entry) (g : Graph) (xs : List Name) (vs : List Value) → graph_of ds es ≡ g → IsWellSorted ds es → length xs ≡ length g.names → HasDistinctNames (renamed xs g.names) → length vs ≡ length g.names → (k : ℕ) → k < length g.nodes → val (tree (under xs g) k) (valuation_of (values_by_name (renamed xs g.names) vs)) ≡ val (tree g k) (valuation_of (values_by_name g.names vs))
value_there ds es g xs vs v w l u n k h =
    same_values ds es g xs (valuation_of (values_by_name g.names vs)) (valuation_of (values_by_name (renamed xs g.names) vs)) v w l (by_place g.names (renamed xs g.names) vs (distinct_of_store ds es g v w) u (length-renamed xs g.names l) n) k h

-- the same of the code's store: declarations that are those of a store under other names
pub IsWellSorted-renamed : (ds ms : List Declared) (es : List Entry) (g : Graph) (xs : List Name) → graph_of ds es ≡ g → IsWellSorted ds es → length xs ≡ length g.names → HasDistinctNames (renamed xs g.names) → map name_of ms ≡ renamed xs (map name_of ds) → IsWellSorted ms es
IsWellSorted-renamed ds ms es g xs v w l u e =
    let ns = map name_of ds in
    let m : length xs ≡ length ns = subst (λ (x : Graph). length xs ≡ length x.names) (sym v) l in
    let distinct : HasDistinctNames (renamed xs ns) = subst (λ (x : Graph). HasDistinctNames (renamed xs x.names)) (sym v) u in
    let sorted : AllSorted (renamed xs ns) [] es = AllSorted-alike nowhere nowhere ns (renamed xs ns) [] [] es (alike_names nowhere nowhere xs ns m (λ j i. refl)) (length-renamed xs ns m) refl (λ j i. absurd (omega arith)) w.entries in
    record {
      distinct = subst HasDistinctNames (sym e) distinct;
      in_range = subst AllSorts (sym e) (AllSorts-renamed xs ns w.in_range);
      entries = subst (λ (x : Entries Sort). AllSorted x [] es) (sym e) sorted;
    }

graph_of-renamed : (ds ms : List Declared) (es : List Entry) (g : Graph) (xs : List Name) → graph_of ds es ≡ g → map name_of ms ≡ renamed xs (map name_of ds) → graph_of ms es ≡ under xs g
graph_of-renamed ds ms es g xs v e =
    let with_table : Entries Sort → Graph = λ x. record { names = x; nodes = map node_of es } in
    ap with_table e ∙ ap (under xs) v

pub sorts-renamed : (ds ms : List Declared) (es : List Entry) (g : Graph) (xs : List Name) → graph_of ds es ≡ g → IsWellSorted ds es → length xs ≡ length g.names → map name_of ms ≡ renamed xs (map name_of ds) → (k : ℕ) → k < length (graph_of ms es).nodes → sort_of (tree (graph_of ms es) k) ≡ sort_of (tree g k)
sorts-renamed ds ms es g xs v w l e =
    subst (λ (x : Graph). (k : ℕ) → k < length x.nodes → sort_of (tree x k) ≡ sort_of (tree g k)) (sym (graph_of-renamed ds ms es g xs v e)) (same_sorts ds es g xs v w l)

values_there : (ds : List Declared) (es : List Entry) (g : Graph) (xs : List Name) → graph_of ds es ≡ g → IsWellSorted ds es → length xs ≡ length g.names → HasDistinctNames (renamed xs g.names) → (vs : List Value) → length vs ≡ length (renamed xs g.names) → (k : ℕ) → k < length g.nodes → val (tree (under xs g) k) (valuation_of (values_by_name (renamed xs g.names) vs)) ≡ val (tree g k) (valuation_of (values_by_name g.names vs))
values_there ds es g xs v w l u vs n k h = value_there ds es g xs vs v w l u (n ∙ length-renamed xs g.names l) k h

pub values-renamed : (ds ms : List Declared) (es : List Entry) (g : Graph) (xs : List Name) → graph_of ds es ≡ g → IsWellSorted ds es → length xs ≡ length g.names → HasDistinctNames (renamed xs g.names) → map name_of ms ≡ renamed xs (map name_of ds) → (vs : List Value) → length vs ≡ length (map name_of ms) → (k : ℕ) → k < length (graph_of ms es).nodes → val (tree (graph_of ms es) k) (valuation_of (values_by_name (map name_of ms) vs)) ≡ val (tree g k) (valuation_of (values_by_name g.names vs))
values-renamed ds ms es g xs v w l u e =
    subst (λ (x : Graph). (vs : List Value) → length vs ≡ length x.names → (k : ℕ) → k < length x.nodes → val (tree x k) (valuation_of (values_by_name x.names vs)) ≡ val (tree g k) (valuation_of (values_by_name g.names vs))) (sym (graph_of-renamed ds ms es g xs v e)) (values_there ds es g xs v w l u)

-- the table so far and what is still to come, where one name more is taken
next_of : (ns : Entries Sort) (k : ℕ) (d : Name × Sort) (x : Name) (xs : List Name) → k < length ns → renamed (x ∷ xs) (drop k ns) ≡ (x, (get_or ns k d).1) ∷ renamed xs (drop (suc k) ns)
next_of [] k d x xs h = absurd (omega arith)
next_of (n ∷ ns) zero d x xs h = refl
next_of (n ∷ ns) (suc k) d x xs h = next_of ns k d x xs (omega arith)

pub renamed-push : (olds news : List Declared) (old new : Declared) (xs : List Name) → length news < length olds → old ≡ get_or olds (length news) old → new.sort ≡ old.sort → map name_of (news ++ new ∷ []) ++ renamed xs (drop (length (news ++ new ∷ [])) (map name_of olds)) ≡ map name_of news ++ renamed (string_bytes new.name ∷ xs) (drop (length news) (map name_of olds))
renamed-push olds news old new xs h i s =
    let ns = map name_of olds in
    let k = length news in
    let b : k < length ns = omega (arith, length-map olds name_of) in
    let read : get_or ns k (name_of old) ≡ name_of old = get_or-map name_of olds k old (name_of old) h ∙ ap name_of (sym i) in
    let c : length (news ++ new ∷ []) ≡ suc k = omega (arith, length-append news (new ∷ [])) in
    let m : map name_of (news ++ new ∷ []) ≡ map name_of news ++ name_of new ∷ [] = map-append name_of news (new ∷ []) in
    let named : Sort → Name × Sort = λ t. (string_bytes new.name, t) in
    let here : name_of new ≡ named (get_or ns k (name_of old)).1 = ap named (ap as_sort s ∙ ap (λ (x : Name × Sort). x.1) (sym read)) in
    ap (λ (x : Entries Sort). x ++ renamed xs (drop (length (news ++ new ∷ [])) ns)) m
    ∙ ap (λ j. (map name_of news ++ name_of new ∷ []) ++ renamed xs (drop j ns)) c
    ∙ append_assoc (map name_of news) (name_of new ∷ []) (renamed xs (drop (suc k) ns))
    ∙ ap (λ (x : Name × Sort). map name_of news ++ x ∷ renamed xs (drop (suc k) ns)) here
    ∙ ap (λ (x : Entries Sort). map name_of news ++ x) (sym (next_of ns k (name_of old) (string_bytes new.name) xs b))
