-- How many terms are put.
use Rattle.std.proofs.Common.{◌≡◌, ℕ, zero, suc, ◌+◌, ◌*◌, ◌<◌, ◌≤◌, ◌^◌, Bool, true, false, cond, List, [], ◌∷◌, ◌++◌, length, get_or, take, Option, Some, None, refl, sym, ap, ◌∙◌, subst, arith, length-append}
use Rattle.std.specs.Prelude.{IsSome, slice_get}
use Rattle.std.proofs.lemmas.Option.{get_or_from_slice_get}
use Rattle.std.proofs.lemmas.List.Sums.{sum_by_more, sum_by-take-le}
use Rattle.std.proofs.lemmas.Bool.{false≢true}
use Rattle.wb_values.specs.Value.{Sort, truth, word, memory}
use Rattle.model_meaning.specs.Term.{Term, sort_of}
use Rattle.wb_terms.specs.declared.nodes.TermId.{TermId}
use Rattle.wb_terms.specs.declared.nodes.Node.{Node}
use Rattle.wb_terms.specs.declared.nodes.Node.TheVariants.{Name as NameNode, Truth, Const, Not, And, Or, Xor, Neg, Add, Sub, Mul, Shl, Lshr, Ashr, Eq, Ult, Ule, Slt, Sle, Concat, Extract, Zext, Sext, Ite, Load, Store}
use Rattle.wb_terms.specs.Graph.{Graph, tree, trees_of, tree_of_node, operands_of, AllBelow}
use Rattle.wb_terms.proofs.StoreLemmas.{length-trees_of}
use Rattle.sat_gates.specs.Cone.{IsCone}
use Rattle.sat_gates.proofs.Reached.{AreDone, AreAll, operands_done}
use Rattle.ob_mem.specs.declared.words.MemoryWord.{MemoryWord}
use Rattle.ob_mem.specs.Words.{listed}
use Rattle.ob_mem.specs.Rows.{IsRow}
use Rattle.ob_mem.specs.Images.{IsNoMemory, load_parts, const_part, HasImage, HaveImages, Operands}
use Rattle.ob_mem.specs.Size.{node_at, term_count, load_count, node_count, total_count, IsSmall}
use Rattle.ob_mem.proofs.Listing.{length-listed}
use Rattle.ob_mem.proofs.Choosing.{half_twice}
use Rattle.ob_mem.proofs.Renaming.{no_store}

pub one_counted : (g h : Graph) (t : Term) → trees_of h ≡ trees_of g ++ t ∷ [] → length h.nodes ≡ length g.nodes + 1
one_counted g h t e = omega (arith, length-trees_of g, length-trees_of h, ap length e, length-append (trees_of g) (t ∷ []))

pub row_counted : (g h : Graph) (f : ℕ → Term) (count : ℕ) → IsRow g h f count → length h.nodes ≡ length g.nodes + count
row_counted g h f count r =
    omega (arith, length-trees_of g, length-trees_of h, ap length r.trees, length-append (trees_of g) (listed f count), length-listed f count)

-- the levels of a load
pub level_counted : (old new end b p : ℕ) → b ≡ p + 1 → new ≡ old + 2 + 2 ^ p → old + (2 ^ b + 2 * b) ≡ end → new + (2 ^ p + 2 * p) ≡ end
level_counted old new end b p e n i =
    let t : 2 ^ b ≡ 2 ^ p + 2 ^ p = ap (λ k. 2 ^ k) e ∙ half_twice p in
    omega (arith, e, n, i, t)

pub levels_counted : (old new b a : ℕ) → b ≡ 0 → new + (2 ^ b + 2 * b) ≡ old + 1 + (2 ^ a + 2 * a) → new ≡ old + (2 ^ a + 2 * a)
levels_counted old new b a e i =
    let t : 2 ^ b ≡ 1 = ap (λ k. 2 ^ k) e in
    omega (arith, e, t, i)

-- the node at a place
pub found_at : (g : Graph) (k : ℕ) (n : Node) → slice_get g.nodes k ≡ Some n → node_at g k ≡ n
found_at g k n e = get_or_from_slice_get g.nodes k n (Truth false) e

pub load_counted : (g : Graph) (k : ℕ) (n : Node) (w old new : ℕ) → slice_get g.nodes k ≡ Some n → None ≡ const_part n → sort_of (tree g k) ≡ Some (word w)
    → new ≡ old + (2 ^ w + 2 * w) → new ≤ old + load_count (const_part (node_at g k)) (sort_of (tree g k))
load_counted g k n w old new found none s e =
    let c : const_part (node_at g k) ≡ None = ap const_part (found_at g k n found) ∙ sym none in
    subst (λ q. new ≤ old + load_count q (sort_of (tree g k))) (sym c)
    (subst (λ q. new ≤ old + load_count None q) (sym s) (omega (arith, e)))

-- a term that is no memory and no load
one_term : (s : Option Sort) → IsNoMemory s → term_count s ≡ 1
one_term None m = refl
one_term (Some truth) m = refl
one_term (Some (word d)) m = refl
one_term (Some (memory a d)) m = absurd m

value_counted : (g : Graph) (n : Node) → load_parts n ≡ None → IsSome (sort_of (tree_of_node g n)) → IsNoMemory (sort_of (tree_of_node g n)) → node_count g n ≡ 1
value_counted g (NameNode k) l s m = one_term (sort_of (tree_of_node g (NameNode k))) m
value_counted g (Truth t) l s m = one_term (sort_of (tree_of_node g (Truth t))) m
value_counted g (Const w x) l s m = one_term (sort_of (tree_of_node g (Const w x))) m
value_counted g (Not x) l s m = one_term (sort_of (tree_of_node g (Not x))) m
value_counted g (Neg x) l s m = one_term (sort_of (tree_of_node g (Neg x))) m
value_counted g (Extract i j x) l s m = one_term (sort_of (tree_of_node g (Extract i j x))) m
value_counted g (Zext k x) l s m = one_term (sort_of (tree_of_node g (Zext k x))) m
value_counted g (Sext k x) l s m = one_term (sort_of (tree_of_node g (Sext k x))) m
value_counted g (And x y) l s m = one_term (sort_of (tree_of_node g (And x y))) m
value_counted g (Or x y) l s m = one_term (sort_of (tree_of_node g (Or x y))) m
value_counted g (Xor x y) l s m = one_term (sort_of (tree_of_node g (Xor x y))) m
value_counted g (Add x y) l s m = one_term (sort_of (tree_of_node g (Add x y))) m
value_counted g (Sub x y) l s m = one_term (sort_of (tree_of_node g (Sub x y))) m
value_counted g (Mul x y) l s m = one_term (sort_of (tree_of_node g (Mul x y))) m
value_counted g (Shl x y) l s m = one_term (sort_of (tree_of_node g (Shl x y))) m
value_counted g (Lshr x y) l s m = one_term (sort_of (tree_of_node g (Lshr x y))) m
value_counted g (Ashr x y) l s m = one_term (sort_of (tree_of_node g (Ashr x y))) m
value_counted g (Eq x y) l s m = one_term (sort_of (tree_of_node g (Eq x y))) m
value_counted g (Ult x y) l s m = one_term (sort_of (tree_of_node g (Ult x y))) m
value_counted g (Ule x y) l s m = one_term (sort_of (tree_of_node g (Ule x y))) m
value_counted g (Slt x y) l s m = one_term (sort_of (tree_of_node g (Slt x y))) m
value_counted g (Sle x y) l s m = one_term (sort_of (tree_of_node g (Sle x y))) m
value_counted g (Concat x y) l s m = one_term (sort_of (tree_of_node g (Concat x y))) m
value_counted g (Ite c x y) l s m = one_term (sort_of (tree_of_node g (Ite c x y))) m
value_counted g (Load i j) l s m = cc
value_counted g (Store i j x) l s m = absurd (no_store (sort_of (tree g i.0)) (sort_of (tree g j.0)) (sort_of (tree g x.0)) s m)

pub value_count : (g : Graph) (id : ℕ) (n : Node) (old new : ℕ) → slice_get g.nodes id ≡ Some n → tree g id ≡ tree_of_node g n → load_parts n ≡ None → IsSome (sort_of (tree g id)) → IsNoMemory (sort_of (tree g id))
    → new ≡ old + 1 → new ≤ old + node_count g (node_at g id)
value_count g id n old new found t l s m e =
    let one : node_count g n ≡ 1 = value_counted g n l (subst (λ (x : Term). IsSome (sort_of x)) t s) (subst (λ (x : Term). IsNoMemory (sort_of x)) t m) in
    subst (λ (x : Node). new ≤ old + node_count g x) (sym (found_at g id n found)) (omega (arith, one, e))

pub word_count : (g : Graph) (id : ℕ) (n : Node) (m i : TermId) (old new : ℕ) → slice_get g.nodes id ≡ Some n → n ≡ Load m i
    → new ≤ old + load_count (const_part (node_at g i.0)) (sort_of (tree g i.0)) → new ≤ old + node_count g (node_at g id)
word_count g id n m i old new found e h = subst (λ (x : Node). new ≤ old + node_count g x) (sym (found_at g id n found ∙ e)) h

-- memories
pub memory_count : (g : Graph) (id : ℕ) (n m : Node) (a d old new : ℕ) → slice_get g.nodes id ≡ Some n → n ≡ m → tree g id ≡ tree_of_node g n → sort_of (tree g id) ≡ Some (memory a d)
    → node_count g m ≡ term_count (sort_of (tree_of_node g m)) → new ≡ old + 2 ^ a → new ≤ old + node_count g (node_at g id)
memory_count g id n m a d old new found e t s same h =
    let u : sort_of (tree_of_node g m) ≡ Some (memory a d) = ap (λ (x : Node). sort_of (tree_of_node g x)) (sym e) ∙ (ap sort_of (sym t) ∙ s) in
    let c : node_count g m ≡ 2 ^ a = same ∙ ap term_count u in
    subst (λ (x : Node). new ≤ old + node_count g x) (sym (found_at g id n found ∙ e)) (omega (arith, c, h))

pub store_count : (g : Graph) (id : ℕ) (n : Node) (m i x : TermId) (a d old new : ℕ) → slice_get g.nodes id ≡ Some n → n ≡ Store m i x → sort_of (tree g m.0) ≡ Some (memory a d)
    → new ≡ old + 3 * 2 ^ a → new ≤ old + node_count g (node_at g id)
store_count g id n m i x a d old new found e s h =
    let c : term_count (sort_of (tree g m.0)) ≡ 2 ^ a = ap term_count s in
    subst (λ (y : Node). new ≤ old + node_count g y) (sym (found_at g id n found ∙ e)) (omega (arith, c, h))

-- one term more
pub next_count : (g : Graph) (ids : List ℕ) (place k old mid new : ℕ) → place < length ids → k ≡ get_or ids place 0 → mid ≤ old + total_count g (take place ids)
    → new ≤ mid + node_count g (node_at g k) → new ≤ old + total_count g (take (place + 1) ids)
next_count g ids place k old mid new l e i h =
    let f = λ (x : ℕ). node_count g (node_at g x) in
    let more : total_count g (take (place + 1) ids) ≡ total_count g (take place ids) + node_count g (node_at g k) = sum_by_more f ids place 0 l ∙ ap (λ x. total_count g (take place ids) + f x) (sym e) in
    omega (arith, i, h, more)

pub all_count : (g : Graph) (ids : List ℕ) (place old new : ℕ) → length ids ≤ place → new ≤ old + total_count g (take place ids) → new ≤ old + total_count g ids
all_count g ids place old new l i = omega (arith, i, sum_by-take-le (λ (x : ℕ). node_count g (node_at g x)) ids place)

pub is_small : (g : Graph) (id : ℕ) (ids : List ℕ) (h : Graph) (start : ℕ) → IsCone g id ids → start ≡ 0 → length h.nodes ≤ start + total_count g ids → IsSmall g id h
is_small g id ids h start c z l = record { counted = ids; cone = c; count = omega (arith, z, l) }

-- the operands of a term have their images
some_operands : (g h : Graph) (rs : List MemoryWord) (is : ℕ → Option TermId) (ks : List ℕ) → AreAll (HasImage g.names rs g h is) ks → Operands g.names rs g h is ks
some_operands g h rs is [] a = tt
some_operands g h rs is (k ∷ ks) a = (a.0, some_operands g h rs is ks a.1)

pub have_images : (g h : Graph) (rs : List MemoryWord) (is : ℕ → Option TermId) (root : ℕ) (ids : List ℕ) (place id : ℕ) (n : Node) → IsCone g root ids → place < length ids → id ≡ get_or ids place 0
    → slice_get g.nodes id ≡ Some n → AllBelow id (operands_of n) → AreDone (HasImage g.names rs g h is) ids place → HaveImages g rs h is id
have_images g h rs is root ids place id n cone l at found below done k e =
    let same : n ≡ k = sym (get_or_from_slice_get g.nodes id n k found) ∙ get_or_from_slice_get g.nodes id k k e in
    subst (λ (x : Node). Operands g.names rs g h is (operands_of x)) same
    (some_operands g h rs is (operands_of n) (operands_done (HasImage g.names rs g h is) g root ids place id n cone l at found below done))
