-- The stores for a memory's term make the memory what the term says.
use Rattle.std.proofs.Common.{◌≡◌, ℕ, zero, suc, ◌+◌, ◌<◌, Bool, true, false, cond, ◌&&◌, ◌==◌, ◌⊎◌, inl, inr, List, [], ◌∷◌, ◌++◌, length, Some, refl, sym, ◌∙◌, ap, subst, arith}
use Rattle.std.specs.Prelude.{IsTrue, slice_set}
use Rattle.std.proofs.lemmas.Bool.{false≢true, and_parts, and_cases, cases_eq, eq-eqb, eqb-true}
use Rattle.wb_values.specs.Value.{Name, word, memory, words, as_truth, as_number, as_words, Valuation}
use Rattle.model_meaning.specs.Term.{sort_of, val}
use Rattle.model_meaning.specs.Invariant.{is_memory_with_stores}
use Rattle.verilog_meaning.specs.Expression.{Scope, bit, is_nonzero, is_true}
use Rattle.verilog_meaning.specs.Statement.{with_updates}
use Rattle.term_expressions.specs.Expressions.{IsWorth}
use Rattle.term_expressions.specs.Laws.{IsMemory}
use Rattle.term_expressions.proofs.Shifts.{by_itself}
use Rattle.wb_terms.specs.declared.nodes.Node.{Node}
use Rattle.wb_terms.specs.declared.nodes.Node.TheVariants.{Name as Named, Ite, Store}
use Rattle.wb_terms.specs.Graph.{Graph, tree, tree_of_node, operands_of, AllBelow}
use Rattle.emitted_designs.proofs.Named.{same_if}
use Rattle.emitted_modules.specs.Rtl.{Stored}
use Rattle.emitted_modules.specs.Nodes.{node_at, called_at, operand, is_changed, is_part, has_part}
use Rattle.emitted_modules.specs.Stores.{MemoryUpdate, via, via_wires, stores_at, stores_of}
use Rattle.emitted_modules.specs.Kept.{IsOrdered, AreKept}
use Rattle.emitted_modules.proofs.Running.{store_update, stores_by}
use Rattle.emitted_modules.proofs.Stores.{store_made, store_sorts, stores_joined, after_both}
use Rattle.emitted_modules.proofs.Computed.{Worth}
use Rattle.emitted_modules.proofs.Trees.{tree_is}
use Rattle.emitted_modules.proofs.Formed.{IsDone}
use Rattle.emitted_modules.proofs.Parts.{memory_below}
use Rattle.emitted_modules.proofs.Decoding.{BitsAreRead}
use Rattle.emitted_modules.proofs.Loaded.{IsMemoryNode, memory_node}
use Rattle.emitted_modules.proofs.Ways.{and_none, next_of, next_among, next_itself, step_at, step_elsewhere, walk_part, IsHeld, has_held, part_held, walked, comes_by, way_is}

nonzero_bit : (b : Bool) → is_nonzero (bit b) ≡ b
nonzero_bit true = refl
nonzero_bit false = refl

module _ (s : Scope) (v : Valuation) (g : Graph) (point : Valuation) (keep : ℕ → Bool) (ordered : IsOrdered g)
    (done : (k : ℕ) → k < length g.nodes → IsTrue (keep k) → IsDone s v g point k)
    (closed : (k : ℕ) → k < length g.nodes → IsTrue (keep k) → AreKept keep (operands_of (node_at g k))) (a d : ℕ)
    (u : MemoryUpdate) (root : IsHeld s v g point keep ordered done closed a d u.term) (b : Bool) (decoded : IsWorth s v u.decode 1 (bit b))
    (read : BitsAreRead s v (via_wires g u (suc u.term))) where
  abbrev top : ℕ
  top = u.term

  abbrev at : (steps n : ℕ) → ℕ
  at h n = walked s v g point keep ordered done closed a d u root b decoded read h n

  abbrev comes : (steps k : ℕ) → Bool
  comes h k = comes_by s v g point keep ordered done closed a d u root b decoded read h k

  abbrev Held : ℕ → Type 0
  Held k = IsHeld s v g point keep ordered done closed a d k

  way_true : (h k : ℕ) → h + suc k ≡ suc top → has_part g top k ≡ true → is_true s v (via u k) ≡ comes h k
  way_true h k q part =
      ap is_nonzero
      (by_itself s v (via u k) 1 (bit (comes h k)) (way_is s v g point keep ordered done closed a d u root b decoded read h k q part))
      ∙ nonzero_bit (comes h k)

  -- ---- where the instruction does not decode

  none_at : (k : ℕ) (n : Node) → is_true s v (via u k) ≡ false → stores_by s v (stores_at g u k n) ≡ []
  none_at k (Store m i x) e =
      ap
      (λ c. cond c (store_update s v (record { condition = Some (via u k); memory_name = u.memory_name; address = operand g i.0; value = operand g x.0 }) ∷ []) [] ++ [])
      e
  none_at k _ e = refl

  none_below : b ≡ false → (n h : ℕ) → h + n ≡ suc top → stores_by s v (stores_of g u n) ≡ []
  none_below off zero h q = refl
  none_below off (suc k) h q =
      stores_joined s v (stores_of g u k) (cond (has_part g top k) (stores_at g u k (node_at g k)) [])
      ∙ (ap (λ xs. xs ++ stores_by s v (cond (has_part g top k) (stores_at g u k (node_at g k)) [])) (none_below off k (suc h) (omega (arith, q)))
      ∙ by_test (has_part g top k) refl)
    where
      by_test : (t : Bool) → has_part g top k ≡ t → stores_by s v (cond t (stores_at g u k (node_at g k)) []) ≡ []
      by_test true part = none_at k (node_at g k) (way_true h k q part ∙ ap (λ c. c && (at h (suc k) == k)) off)
      by_test false part = refl

  pub none_stored : b ≡ false → stores_by s v (stores_of g u (suc top)) ≡ []
  none_stored off = none_below off (suc top) 0 (omega arith)

  -- ---- where it does

  module _ (mem : IsMemory s u.memory_name a d) (ws : List ℕ) (held : point u.memory_name ≡ words ws)
      (keeps : is_memory_with_stores u.memory_name (tree g top) ≡ true) (on : b ≡ true) where
    abbrev m : Name
    m = u.memory_name

    abbrev KeepsMemory : ℕ → Type 0
    KeepsMemory k = is_memory_with_stores m (tree g k) ≡ true

    part_at : (h n : ℕ) → Held (at h n)
    part_at h n = part_held s v g point keep ordered done closed a d (suc top) top (at h n) root (walk_part g point ordered top root.known h n)

    abbrev next : ℕ → ℕ
    next k = next_of g point (node_at g k) k

    next_keeps : (k : ℕ) → k < length g.nodes → KeepsMemory k → KeepsMemory (next k)
    next_keeps k low h = by_node (node_at g k) refl
      where
        by_node : (n : Node) → node_at g k ≡ n → KeepsMemory (next_of g point n k)
        by_node (Store o i x) e = ap (is_memory_with_stores m) (sym (tree_is g k ordered low ∙ ap (tree_of_node g) e)) ∙ h
        by_node (Ite c x y) e =
            by_choice (as_truth (val (tree g c.0) point))
            (and_parts (is_memory_with_stores m (tree g x.0)) (is_memory_with_stores m (tree g y.0))
            (ap (is_memory_with_stores m) (sym (tree_is g k ordered low ∙ ap (tree_of_node g) e)) ∙ h))
          where
            by_choice : (q : Bool) → KeepsMemory x.0 × KeepsMemory y.0 → KeepsMemory (cond q x.0 y.0)
            by_choice true z = z.0
            by_choice false z = z.1
        by_node _ e = h

    keeps_at : (h n : ℕ) → KeepsMemory (at h n)
    keeps_at zero n = keeps
    keeps_at (suc h) n = by_test (at h (suc n) == n) refl (keeps_at h (suc n))
      where
        by_test : (t : Bool) → (at h (suc n) == n) ≡ t → KeepsMemory (at h (suc n)) → KeepsMemory (cond t (next n) (at h (suc n)))
        by_test true e k =
            let same : at h (suc n) ≡ n = eqb-true (at h (suc n)) n e in
            next_keeps n (subst (λ i. i < length g.nodes) same (part_at h (suc n)).known) (subst KeepsMemory same k)
        by_test false e k = k

    -- it is below the node to which it came, or at a name
    lower : (h n : ℕ) → h + n ≡ suc top → (at h n < n) ⊎ (is_changed (node_at g (at h n)) ≡ false)
    lower zero n q = inl (omega (arith, q))
    lower (suc h) n q = by_test (at h (suc n) == n) refl (lower h (suc n) (omega (arith, q)))
      where
        after : (t : ℕ) → (t == n) ≡ false → t < suc n → t < n
        after t e less = by_place (cases_eq t n)
          where
            by_place : (t ≡ n) ⊎ (t ≡ n → ⊥) → t < n
            by_place (inl same) = absurd (false≢true (sym e ∙ eq-eqb t n same))
            by_place (inr other) = omega (arith, less, other)

        by_kind : (c : Bool) → is_changed (node_at g n) ≡ c → n < length g.nodes → (next n < n) ⊎ (is_changed (node_at g (next n)) ≡ false)
        by_kind true e low = inl (memory_below n (node_at g n) (next n) (ordered n low) (next_among g point (node_at g n) n e))
        by_kind false e low = inr (ap (λ i. is_changed (node_at g i)) (next_itself g point (node_at g n) n e) ∙ e)

        by_test : (t : Bool) → (at h (suc n) == n) ≡ t → (at h (suc n) < suc n) ⊎ (is_changed (node_at g (at h (suc n))) ≡ false)
            → (cond t (next n) (at h (suc n)) < n) ⊎ (is_changed (node_at g (cond t (next n) (at h (suc n)))) ≡ false)
        by_test true e k =
            by_kind (is_changed (node_at g n)) refl (subst (λ i. i < length g.nodes) (eqb-true (at h (suc n)) n e) (part_at h (suc n)).known)
        by_test false e (inl less) = inl (after (at h (suc n)) e less)
        by_test false e (inr z) = inr z

    -- At the end it is at the memory itself.
    at_name : (h : ℕ) → h + 0 ≡ suc top → val (tree g (at h 0)) point ≡ words ws
    at_name h q = by_place (lower h 0 q)
      where
        held_at : Held (at h 0)
        held_at = part_at h 0

        is_tree : (n : Node) → node_at g (at h 0) ≡ n → tree g (at h 0) ≡ tree_of_node g n
        is_tree n e = tree_is g (at h 0) ordered held_at.known ∙ ap (tree_of_node g) e

        by_form : (n : Node) → IsMemoryNode n → node_at g (at h 0) ≡ n → is_changed n ≡ false → val (tree g (at h 0)) point ≡ words ws
        by_form _ (IsMemoryNode.by_name i) e f =
            ap (λ t. val t point) (is_tree (Named i) e)
            ∙ (ap point (same_if (called_at g.names i.0) m (ap (is_memory_with_stores m) (sym (is_tree (Named i) e)) ∙ keeps_at h 0)) ∙ held)
        by_form _ (IsMemoryNode.by_store o i x) e f = absurd (false≢true (sym f))
        by_form _ (IsMemoryNode.by_choice c x y) e f = absurd (false≢true (sym f))

        by_place : (at h 0 < 0) ⊎ (is_changed (node_at g (at h 0)) ≡ false) → val (tree g (at h 0)) point ≡ words ws
        by_place (inl less) = absurd (omega (arith, less))
        by_place (inr unchanged) =
            by_form (node_at g (at h 0))
            (memory_node g a d (node_at g (at h 0)) (ap sort_of (sym (tree_is g (at h 0) ordered held_at.known)) ∙ held_at.sorted)) refl unchanged

    -- ---- one node more

    -- what is left after the stores of one node
    abbrev Leaves : (h k : ℕ) → Valuation → List Stored → Type 0
    Leaves h k z xs = with_updates s z (stores_by s v xs) m ≡ val (tree g (at h (suc k))) point

    -- where the walk does not come by the node, and where it does
    stored_elsewhere : (h k : ℕ) (z : Valuation) (n : Node) → h + suc k ≡ suc top → has_part g top k ≡ true → z m ≡ val (tree g (at (suc h) k)) point
        → (at h (suc k) == k) ≡ false → Leaves h k z (stores_at g u k n)
    stored_elsewhere h k z n q part now e =
        ap (λ xs. with_updates s z xs m) (none_at k n (way_true h k q part ∙ (ap (λ c. b && c) e ∙ and_none b)))
        ∙ (now ∙ ap (λ i. val (tree g i) point) (step_elsewhere g point k (at h (suc k)) e))

    stored_at : (h k : ℕ) (z : Valuation) (n : Node) → h + suc k ≡ suc top → has_part g top k ≡ true → node_at g k ≡ n
        → z m ≡ val (tree g (next_of g point n k)) point → (at h (suc k) == k) ≡ true → Held k → is_changed n ≡ true
        → with_updates s z (stores_by s v (stores_at g u k n)) m ≡ val (tree g k) point
    stored_at h k z (Store o i x) q part is_node now e kept changed =
        let same : tree g k ≡ tree_of_node g (Store o i x) = tree_is g k ordered kept.known ∙ ap (tree_of_node g) is_node in
        let sorts = store_sorts (sort_of (tree g o.0)) (sort_of (tree g i.0)) (sort_of (tree g x.0)) a d (ap sort_of (sym same) ∙ kept.sorted) in
        let below : AllBelow k (o.0 ∷ i.0 ∷ x.0 ∷ []) = subst (λ n. AllBelow k (operands_of n)) is_node (ordered k kept.known) in
        let all : AreKept keep (o.0 ∷ i.0 ∷ x.0 ∷ []) = subst (λ n. AreKept keep (operands_of n)) is_node (closed k kept.known kept.kept) in
        let base : Worth s v (operand g o.0) (Some (memory a d)) (val (tree g o.0) point) =
        subst (λ t. Worth s v (operand g o.0) t (val (tree g o.0) point)) sorts.0 (done o.0 (low o.0 kept.known below.0) all.0).0 in
        let address : Worth s v (operand g i.0) (Some (word a)) (val (tree g i.0) point) =
        subst (λ t. Worth s v (operand g i.0) t (val (tree g i.0) point)) sorts.1 (done i.0 (low i.0 kept.known below.1.0) all.1.0).0 in
        let value : Worth s v (operand g x.0) (Some (word d)) (val (tree g x.0) point) =
        subst (λ t. Worth s v (operand g x.0) t (val (tree g x.0) point)) sorts.2 (done x.0 (low x.0 kept.known below.1.1.0) all.1.1.0).0 in
        let w : Stored = record { condition = Some (via u k); memory_name = m; address = operand g i.0; value = operand g x.0 } in
        ap (λ c. with_updates s z (cond c (store_update s v w ∷ []) [] ++ []) m) (way_true h k q part ∙ (ap (λ c. c && (at h (suc k) == k)) on ∙ e))
        ∙ (store_made s v z w a d address.0 value.0 base.0 mem address.2 value.2 (now ∙ base.1) base.2
        ∙ (ap (λ t. words (slice_set (as_words t) address.0 value.0)) (sym base.1)
        ∙ (ap (λ t. words (slice_set (as_words (val (tree g o.0) point)) (as_number t) value.0)) (sym address.1)
        ∙ (ap (λ t. words (slice_set (as_words (val (tree g o.0) point)) (as_number (val (tree g i.0) point)) (as_number t))) (sym value.1)
        ∙ ap (λ t. val t point) (sym same)))))
      where
        low : (j : ℕ) → k < length g.nodes → j < k → j < length g.nodes
        low j l r = omega (arith, l, r)
    stored_at h k z (Ite c x y) q part is_node now e kept changed =
        now
        ∙ (chosen (as_truth (val (tree g c.0) point))
        ∙ ap (λ t. val t point) (sym (tree_is g k ordered kept.known ∙ ap (tree_of_node g) is_node)))
      where
        chosen : (t : Bool) → val (tree g (cond t x.0 y.0)) point ≡ cond t (val (tree g x.0) point) (val (tree g y.0) point)
        chosen true = refl
        chosen false = refl
    stored_at h k z _ q part is_node now e kept changed = absurd (false≢true changed)

    one_more : (h k : ℕ) (z : Valuation) → h + suc k ≡ suc top → z m ≡ val (tree g (at (suc h) k)) point
        → Leaves h k z (cond (has_part g top k) (stores_at g u k (node_at g k)) [])
    one_more h k z q now = by_part (has_part g top k) refl (at h (suc k) == k) refl
      where
        here : (at h (suc k) == k) ≡ true → z m ≡ val (tree g (next k)) point
        here e = now ∙ ap (λ i. val (tree g i) point) (step_at g point k (at h (suc k)) e)

        -- at a name it stays
        unchanged : (at h (suc k) == k) ≡ true → (is_changed (node_at g k) ≡ false) ⊎ (is_part g (suc top) top k ≡ false)
            → next k ≡ at h (suc k)
        unchanged e (inl f) = next_itself g point (node_at g k) k f ∙ sym (eqb-true (at h (suc k)) k e)
        unchanged e (inr f) =
            absurd
            (false≢true
            (sym f
            ∙ subst (λ i. is_part g (suc top) top i ≡ true) (eqb-true (at h (suc k)) k e) (walk_part g point ordered top root.known h (suc k))))

        by_part : (t : Bool) → has_part g top k ≡ t → (c : Bool) → (at h (suc k) == k) ≡ c → Leaves h k z (cond t (stores_at g u k (node_at g k)) [])
        by_part true part true e =
            stored_at h k z (node_at g k) q part refl (here e) e (has_held s v g point keep ordered done closed a d u root b decoded read k part)
            (and_parts (is_changed (node_at g k)) (is_part g (suc top) top k) part).0
            ∙ ap (λ i. val (tree g i) point) (sym (eqb-true (at h (suc k)) k e))
        by_part true part false e = stored_elsewhere h k z (node_at g k) q part now e
        by_part false part true e =
            here e ∙ ap (λ i. val (tree g i) point) (unchanged e (and_cases (is_changed (node_at g k)) (is_part g (suc top) top k) part))
        by_part false part false e = now ∙ ap (λ i. val (tree g i) point) (step_elsewhere g point k (at h (suc k)) e)

    made_below : (n h : ℕ) (z : Valuation) → h + n ≡ suc top → z m ≡ words ws → with_updates s z (stores_by s v (stores_of g u n)) m ≡ val (tree g (at h n)) point
    made_below zero h z q now = now ∙ sym (at_name h q)
    made_below (suc k) h z q now =
        after_both s v z (stores_of g u k) (cond (has_part g top k) (stores_at g u k (node_at g k)) []) m
        ∙ one_more h k (with_updates s z (stores_by s v (stores_of g u k))) q (made_below k (suc h) z (omega (arith, q)) now)

    -- From the memory as it was the stores for a term make it what the term is.
    pub made : (z : Valuation) → z m ≡ words ws → with_updates s z (stores_by s v (stores_of g u (suc top))) m ≡ val (tree g top) point
    made z now = made_below (suc top) 0 z (omega arith) now
