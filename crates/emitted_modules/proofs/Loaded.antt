-- Words of memories over their wires: each is the memory's word at the address of the load, by induction over the nodes.
use Rattle.std.proofs.Common.{◌≡◌, ℕ, zero, suc, ◌<◌, ◌^◌, Bool, true, ◌&&◌, nat_lt, inl, inr, length, Some, refl, sym, ◌∙◌, ap, subst, arith}
use Rattle.std.specs.Prelude.{IsTrue, slice_index}
use Rattle.std.proofs.lemmas.Bool.{and_from}
use Rattle.wb_values.specs.Value.{word, memory, as_words, Valuation}
use Rattle.model_meaning.specs.Term.{sort_of, val, same_bits_sort, same_word_sort, is_width}
use Rattle.verilog_meaning.specs.Expression.{Scope}
use Rattle.verilog_meaning.specs.Settled.{whole_name}
use Rattle.term_expressions.specs.Expressions.{IsWorth, word_at}
use Rattle.wb_terms.specs.declared.nodes.NameId.{NameId}
use Rattle.wb_terms.specs.declared.nodes.TermId.{TermId}
use Rattle.wb_terms.specs.declared.nodes.Node.{Node}
use Rattle.wb_terms.specs.declared.nodes.Node.TheVariants.{Name as Named, Truth, Const, Not, And, Or, Xor, Neg, Add, Sub, Mul, Shl, Lshr, Ashr, Eq, Ult, Ule, Slt, Sle, Concat, Extract, Zext, Sext, Ite, Load, Store}
use Rattle.wb_terms.specs.Graph.{Graph, tree, tree_of_node, leaf_at, operands_of, AllBelow}
use Rattle.emitted_modules.specs.Nodes.{node_at, called_at, operand, is_changed, memories_of, is_part, has_part, word_name, word_or_wire, word_of, word_of_node}
use Rattle.emitted_modules.specs.Kept.{IsOrdered, AreKept}
use Rattle.emitted_modules.proofs.Names.{Among}
use Rattle.emitted_modules.proofs.Trees.{tree_is}
use Rattle.emitted_modules.proofs.Computed.{Worth}
use Rattle.emitted_modules.proofs.WordReads.{ReadBy, store_word, choice_word, IsNoMemory, never_memory, word_if, of_bits, of_word_sort, of_same_words, of_same_bits, of_compared, of_concat_sort, of_extract_sort, of_extended_sort, of_load_sort}
use Rattle.emitted_modules.proofs.Stores.{store_sorts, ite_sorts}
use Rattle.emitted_modules.proofs.Formed.{IsDone}
use Rattle.emitted_modules.proofs.Parts.{memory_below, part_of_part}

-- ---- nodes that are memories

-- a name, a store, or one of two
pub data IsMemoryNode : Node → Type 0 where
  by_name : (n : NameId) → IsMemoryNode (Named n)
  by_store : (m i x : TermId) → IsMemoryNode (Store m i x)
  by_choice : (c x y : TermId) → IsMemoryNode (Ite c x y)

module _ (g : Graph) (a d : ℕ) where
  abbrev IsOfMemory : Node → Type 0
  IsOfMemory n = sort_of (tree_of_node g n) ≡ Some (memory a d)

  none : (n : Node) → IsNoMemory (sort_of (tree_of_node g n)) → IsOfMemory n → IsMemoryNode n
  none n h e = absurd (never_memory (sort_of (tree_of_node g n)) a d h e)

  pub memory_node : (n : Node) → IsOfMemory n → IsMemoryNode n
  memory_node (Named i) e = IsMemoryNode.by_name i
  memory_node (Store m i x) e = IsMemoryNode.by_store m i x
  memory_node (Ite c x y) e = IsMemoryNode.by_choice c x y
  memory_node (Truth b) e = none (Truth b) tt e
  memory_node (Const w x) e = none (Const w x) (word_if (is_width w && nat_lt x (2 ^ w)) w) e
  memory_node (Not x) e = none (Not x) (of_bits (sort_of (tree g x.0))) e
  memory_node (Neg x) e = none (Neg x) (of_word_sort (sort_of (tree g x.0))) e
  memory_node (And x y) e = none (And x y) (of_same_bits (sort_of (tree g x.0)) (sort_of (tree g y.0))) e
  memory_node (Or x y) e = none (Or x y) (of_same_bits (sort_of (tree g x.0)) (sort_of (tree g y.0))) e
  memory_node (Xor x y) e = none (Xor x y) (of_same_bits (sort_of (tree g x.0)) (sort_of (tree g y.0))) e
  memory_node (Add x y) e = none (Add x y) (of_same_words (sort_of (tree g x.0)) (sort_of (tree g y.0))) e
  memory_node (Sub x y) e = none (Sub x y) (of_same_words (sort_of (tree g x.0)) (sort_of (tree g y.0))) e
  memory_node (Mul x y) e = none (Mul x y) (of_same_words (sort_of (tree g x.0)) (sort_of (tree g y.0))) e
  memory_node (Shl x y) e = none (Shl x y) (of_same_words (sort_of (tree g x.0)) (sort_of (tree g y.0))) e
  memory_node (Lshr x y) e = none (Lshr x y) (of_same_words (sort_of (tree g x.0)) (sort_of (tree g y.0))) e
  memory_node (Ashr x y) e = none (Ashr x y) (of_same_words (sort_of (tree g x.0)) (sort_of (tree g y.0))) e
  memory_node (Eq x y) e = none (Eq x y) (of_compared (same_bits_sort (sort_of (tree g x.0)) (sort_of (tree g y.0)))) e
  memory_node (Ult x y) e = none (Ult x y) (of_compared (same_word_sort (sort_of (tree g x.0)) (sort_of (tree g y.0)))) e
  memory_node (Ule x y) e = none (Ule x y) (of_compared (same_word_sort (sort_of (tree g x.0)) (sort_of (tree g y.0)))) e
  memory_node (Slt x y) e = none (Slt x y) (of_compared (same_word_sort (sort_of (tree g x.0)) (sort_of (tree g y.0)))) e
  memory_node (Sle x y) e = none (Sle x y) (of_compared (same_word_sort (sort_of (tree g x.0)) (sort_of (tree g y.0)))) e
  memory_node (Concat x y) e = none (Concat x y) (of_concat_sort (sort_of (tree g x.0)) (sort_of (tree g y.0))) e
  memory_node (Extract h l x) e = none (Extract h l x) (of_extract_sort h l (sort_of (tree g x.0))) e
  memory_node (Zext n x) e = none (Zext n x) (of_extended_sort n (sort_of (tree g x.0))) e
  memory_node (Sext n x) e = none (Sext n x) (of_extended_sort n (sort_of (tree g x.0))) e
  memory_node (Load m i) e = none (Load m i) (of_load_sort (sort_of (tree g m.0)) (sort_of (tree g i.0))) e

-- ---- their words

module _ (s : Scope) (v : Valuation) (g : Graph) (point : Valuation) (keep : ℕ → Bool) where
  -- a memory's name is read, word by word
  abbrev pub WordsAreNamed : Type 0
  WordsAreNamed =
      (k : ℕ) (n : NameId) → k < length g.nodes → IsTrue (keep k) → node_at g k ≡ Named n
      → ReadBy s v (λ e. word_at (called_at g.names n.0) e) (sort_of (leaf_at g.names n.0)) (val (leaf_at g.names n.0) point)

  -- What the wire for a word is given it has.
  abbrev pub WordsAreRead : Type 0
  WordsAreRead =
      (l : ℕ) (m i : TermId) (a d k x : ℕ) → l < length g.nodes → IsTrue (keep l) → node_at g l ≡ Load m i → sort_of (tree g m.0) ≡ Some (memory a d)
      → sort_of (tree g i.0) ≡ Some (word a) → k < l → has_part g m.0 k ≡ true
      → IsWorth s v (word_of_node g l (operand g i.0) (node_at g k)) d x → IsWorth s v (whole_name (word_name l k)) d x

  module _ (ordered : IsOrdered g) (named : WordsAreNamed) (wired : WordsAreRead) (l : ℕ) (m i : TermId) (a d x : ℕ) (low : l < length g.nodes)
      (is_kept : IsTrue (keep l)) (is_load : node_at g l ≡ Load m i) (of_memory : sort_of (tree g m.0) ≡ Some (memory a d))
      (of_address : sort_of (tree g i.0) ≡ Some (word a)) (before : m.0 < length g.nodes) (there : IsWorth s v (operand g i.0) a x) where
    abbrev HasWord : ℕ → Type 0
    HasWord k = IsWorth s v (word_of g l (operand g i.0) k) d (slice_index (as_words (val (tree g k) point)) x)

    -- a part of the memory, which is kept
    pub record IsKeptPart (k : ℕ) : Type 0 where
      pub known : k < length g.nodes
      pub within : k < l
      pub kept : keep k ≡ true
      pub sorted : sort_of (tree g k) ≡ Some (memory a d)
      pub part : is_part g (suc m.0) m.0 k ≡ true

    -- the word of a node, and of the nodes that it is made of
    abbrev Inner : ℕ → Type 0
    Inner k = (j : ℕ) → Among j (memories_of (node_at g k)) → sort_of (tree g j) ≡ Some (memory a d) → keep j ≡ true → HasWord j

    by_form : (k : ℕ) (n : Node) → node_at g k ≡ n → IsMemoryNode n → IsKeptPart k → AllBelow k (operands_of n) → AreKept keep (operands_of n)
        → sort_of (tree_of_node g n) ≡ Some (memory a d)
        → ((j : ℕ) → j < k → keep j ≡ true → IsDone s v g point j)
        → ((j : ℕ) → Among j (memories_of n) → sort_of (tree g j) ≡ Some (memory a d) → keep j ≡ true → HasWord j)
        → IsWorth s v (word_or_wire g.names l (operand g i.0) k n) d (slice_index (as_words (val (tree_of_node g n) point)) x)
    by_form k _ e (IsMemoryNode.by_name n) p below kept sorted done inner =
        subst (λ o. ReadBy s v (λ f. word_at (called_at g.names n.0) f) o (val (leaf_at g.names n.0) point)) sorted (named k n p.known p.kept e)
        (operand g i.0) x there
    by_form k _ e (IsMemoryNode.by_store o j y) p below kept sorted done inner =
        let sorts = store_sorts (sort_of (tree g o.0)) (sort_of (tree g j.0)) (sort_of (tree g y.0)) a d sorted in
        wired l m i a d k _ low is_kept is_load of_memory of_address p.within
        (and_from (is_changed (node_at g k)) (is_part g (suc m.0) m.0 k) (ap is_changed e) p.part)
        (subst (λ z. IsWorth s v (word_of_node g l (operand g i.0) z) d (slice_index (as_words (val (tree_of_node g (Store o j y)) point)) x)) (sym e)
        (store_word s v (operand g i.0) (operand g o.0) (operand g j.0) (operand g y.0) (word_of g l (operand g i.0) o.0) a d x (val (tree g o.0) point)
        (val (tree g j.0) point) (val (tree g y.0) point) there
        (subst (λ t. Worth s v (operand g o.0) t (val (tree g o.0) point)) sorts.0 (done o.0 below.0 kept.0).0)
        (subst (λ t. Worth s v (operand g j.0) t (val (tree g j.0) point)) sorts.1 (done j.0 below.1.0 kept.1.0).0)
        (subst (λ t. Worth s v (operand g y.0) t (val (tree g y.0) point)) sorts.2 (done y.0 below.1.1.0 kept.1.1.0).0)
        (inner o.0 (inl refl) sorts.0 kept.0)))
    by_form k _ e (IsMemoryNode.by_choice c o y) p below kept sorted done inner =
        let sorts = ite_sorts (sort_of (tree g c.0)) (sort_of (tree g o.0)) (sort_of (tree g y.0)) a d sorted in
        wired l m i a d k _ low is_kept is_load of_memory of_address p.within
        (and_from (is_changed (node_at g k)) (is_part g (suc m.0) m.0 k) (ap is_changed e) p.part)
        (subst (λ z. IsWorth s v (word_of_node g l (operand g i.0) z) d (slice_index (as_words (val (tree_of_node g (Ite c o y)) point)) x)) (sym e)
        (choice_word s v (operand g c.0) (word_of g l (operand g i.0) o.0) (word_of g l (operand g i.0) y.0) d x (val (tree g c.0) point)
        (val (tree g o.0) point) (val (tree g y.0) point)
        (subst (λ t. Worth s v (operand g c.0) t (val (tree g c.0) point)) sorts.0 (done c.0 below.0 kept.0).0)
        (inner o.0 (inl refl) sorts.1 kept.1.0) (inner y.0 (inr (inl refl)) sorts.2 kept.1.1.0)))

    pub words_done : ((k : ℕ) → k < length g.nodes → keep k ≡ true → AreKept keep (operands_of (node_at g k)))
        → ((j : ℕ) → j < l → keep j ≡ true → IsDone s v g point j) → (b k : ℕ) → k < b → IsKeptPart k → HasWord k
    words_done closed done zero k less p = absurd (omega (arith, less))
    words_done closed done (suc b) k less p =
        let sorted : sort_of (tree_of_node g (node_at g k)) ≡ Some (memory a d) = ap sort_of (sym (tree_is g k ordered p.known)) ∙ p.sorted in
        subst (λ t. IsWorth s v (word_of g l (operand g i.0) k) d (slice_index (as_words (val t point)) x)) (sym (tree_is g k ordered p.known))
        (by_form k (node_at g k) refl (memory_node g a d (node_at g k) sorted) p (ordered k p.known) (closed k p.known p.kept) sorted
        (λ j q. done j (omega (arith, q, p.within)))
        (λ j at sorts kept. words_done closed done b j (earlier j (first j at)) (record {
          known = low_by j (first j at);
          within = before_load j (first j at);
          kept = kept;
          sorted = sorts;
          part = part_of_part g ordered (suc m.0) m.0 k j (next m.0) before p.part at;
        })))
      where
        first : (j : ℕ) → Among j (memories_of (node_at g k)) → j < k
        first j at = memory_below k (node_at g k) j (ordered k p.known) at

        earlier : (j : ℕ) → j < k → j < b
        earlier j q = omega (arith, q, less)

        low_by : (j : ℕ) → j < k → j < length g.nodes
        low_by j q = let z = p.known in omega (arith, q, z)

        before_load : (j : ℕ) → j < k → j < l
        before_load j q = let z = p.within in omega (arith, q, z)

        next : (n : ℕ) → n < suc n
        next n = omega arith
