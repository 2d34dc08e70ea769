-- By way of which nodes a memory takes its value: what the wires for it are worth.
use Rattle.std.proofs.Common.{◌≡◌, ℕ, zero, suc, ◌+◌, ◌<◌, ◌≤◌, Bool, true, false, cond, not, ◌&&◌, ◌||◌, ◌==◌, ◌⊎◌, inl, inr, List, [], ◌∷◌, ◌++◌, length, Some, refl, sym, ◌∙◌, ap, subst, arith}
use Rattle.std.specs.Prelude.{IsTrue}
use Rattle.std.specs.List.{list_any}
use Rattle.std.proofs.lemmas.Bool.{false≢true, and_parts, and_cases, or_cases, cases_eq, eq-eqb, ne_eqb, eqb-true}
use Rattle.wb_values.specs.Value.{truth, memory, as_truth, Valuation}
use Rattle.wb_values.specs.Number.{word_not, word_and, word_or}
use Rattle.model_meaning.specs.Term.{sort_of, val}
use Rattle.verilog_trees.specs.Syntax.{Expression, unary, complement, binary, bitwise_and, bitwise_or}
use Rattle.verilog_meaning.specs.Expression.{Scope, bit}
use Rattle.term_expressions.specs.Expressions.{IsWorth, sized}
use Rattle.term_expressions.proofs.Forms.{complement_is_not, bitwise_and_is_and, bitwise_or_is_or}
use Rattle.term_expressions.proofs.Joined.{sized_is_const}
use Rattle.wb_terms.specs.declared.nodes.Node.{Node}
use Rattle.wb_terms.specs.declared.nodes.Node.TheVariants.{Ite, Store}
use Rattle.wb_terms.specs.Graph.{Graph, tree, tree_of_node, operands_of, AllBelow}
use Rattle.emitted_modules.specs.Nodes.{node_at, operand, is_changed, memories_of, is_part, has_part}
use Rattle.emitted_modules.specs.Stores.{MemoryUpdate, via, or_more, any_of, if_so, ways_from, ways_to, via_wire, via_wires}
use Rattle.emitted_modules.specs.Kept.{IsOrdered, AreKept}
use Rattle.emitted_modules.proofs.Names.{Among}
use Rattle.emitted_modules.proofs.Computed.{Worth}
use Rattle.emitted_modules.proofs.Trees.{tree_is}
use Rattle.emitted_modules.proofs.Stores.{store_sorts, ite_sorts}
use Rattle.emitted_modules.proofs.Formed.{IsDone}
use Rattle.emitted_modules.proofs.Parts.{any_found, memory_below, its_own_part, part_of_part}
use Rattle.emitted_modules.proofs.Decoding.{BitsAreRead}
use Rattle.emitted_modules.proofs.WireNames.{via_wire_there}

-- ---- truth values

or_bits : (b c : Bool) → word_or (bit b) (bit c) ≡ bit (b || c)
or_bits true true = refl
or_bits true false = refl
or_bits false true = refl
or_bits false false = refl

and_bits : (b c : Bool) → word_and (bit b) (bit c) ≡ bit (b && c)
and_bits true true = refl
and_bits true false = refl
and_bits false true = refl
and_bits false false = refl

and_not_bits : (b c : Bool) → word_and (bit b) (word_not 1 (bit c)) ≡ bit (b && not c)
and_not_bits true true = refl
and_not_bits true false = refl
and_not_bits false true = refl
and_not_bits false false = refl

or_none : (b : Bool) → (b || false) ≡ b
or_none true = refl
or_none false = refl

and_all : (b : Bool) → (b && true) ≡ b
and_all true = refl
and_all false = refl

pub and_none : (b : Bool) → (b && false) ≡ false
and_none true = refl
and_none false = refl

or_grouped : (b c d : Bool) → ((b || c) || d) ≡ (b || (c || d))
or_grouped true c d = refl
or_grouped false c d = refl

and_turned : (b c : Bool) → (b && c) ≡ (c && b)
and_turned true true = refl
and_turned true false = refl
and_turned false true = refl
and_turned false false = refl

-- one of two ways, by the condition
one_way : (x y a q : Bool) → ((x && (a && q)) || (y && (a && not q))) ≡ (a && cond q x y)
one_way true true true true = refl
one_way true true true false = refl
one_way true true false true = refl
one_way true true false false = refl
one_way true false true true = refl
one_way true false true false = refl
one_way true false false true = refl
one_way true false false false = refl
one_way false true true true = refl
one_way false true true false = refl
one_way false true false true = refl
one_way false true false false = refl
one_way false false true true = refl
one_way false false true false = refl
one_way false false false true = refl
one_way false false false false = refl

-- the ways from one node more, where the walk is at it, and where it is not
more_at : (b c w : Bool) → ((((b && true) && c) || w) || (b && false)) ≡ (w || (b && c))
more_at true true true = refl
more_at true true false = refl
more_at true false true = refl
more_at true false false = refl
more_at false true true = refl
more_at false true false = refl
more_at false false true = refl
more_at false false false = refl

more_elsewhere : (b c w d : Bool) → ((((b && false) && c) || w) || (b && d)) ≡ (w || (b && d))
more_elsewhere true c w d = refl
more_elsewhere false c w d = refl

-- ---- disjunctions

module _ (s : Scope) (v : Valuation) where
  -- so many expressions are worth bits, of which the disjunction is this
  abbrev pub HasAny : List Expression → Bool → Type 0
  HasAny [] b = b ≡ false
  HasAny (e ∷ es) b = (c : Bool) × (d : Bool) × IsWorth s v e 1 (bit c) × HasAny es d × (b ≡ (c || d))

  more_worth : (e : Expression) (es : List Expression) (c d : Bool) → IsWorth s v e 1 (bit c) → HasAny es d → IsWorth s v (or_more e es) 1 (bit (c || d))
  more_worth e [] c d worth none = subst (λ z. IsWorth s v e 1 (bit z)) (sym (ap (λ z. c || z) none ∙ or_none c)) worth
  more_worth e (f ∷ fs) c d worth (c2, d2, first, rest, q) =
      subst (λ z. IsWorth s v (or_more e (f ∷ fs)) 1 (bit z)) (or_grouped c c2 d2 ∙ ap (λ z. c || z) (sym q))
      (more_worth (binary bitwise_or e f) fs (c || c2) d2
      (subst (IsWorth s v (binary bitwise_or e f) 1) (or_bits c c2) (bitwise_or_is_or s v e f 1 (bit c) (bit c2) worth first)) rest)

  pub any_worth : (es : List Expression) (b : Bool) → HasAny es b → IsWorth s v (any_of es) 1 (bit b)
  any_worth [] b none = subst (λ z. IsWorth s v (sized 1 0) 1 (bit z)) (sym none) (sized_is_const s v 1 0 (omega arith))
  any_worth (e ∷ es) b (c, d, worth, rest, q) = subst (λ z. IsWorth s v (or_more e es) 1 (bit z)) (sym q) (more_worth e es c d worth rest)

  any_joined : (es fs : List Expression) (b c : Bool) → HasAny es b → HasAny fs c → HasAny (es ++ fs) (b || c)
  any_joined [] fs b c none h = subst (HasAny fs) (sym (ap (λ z. z || c) none)) h
  any_joined (e ∷ es) fs b c (x, y, worth, rest, q) h = (x, y || c, worth, any_joined es fs y c rest h, ap (λ z. z || c) q ∙ or_grouped x y c)

  any_if : (t : Bool) (e : Expression) (c : Bool) → IsWorth s v e 1 (bit c) → HasAny (if_so t e) (t && c)
  any_if true e c worth = (c, false, worth, refl, sym (or_none c))
  any_if false e c worth = refl

-- ---- the walk

module _ (g : Graph) (point : Valuation) where
  -- the node that a node's value is taken from: itself, where it is no store and no choice
  abbrev pub next_of : Node → ℕ → ℕ
  next_of (Store m i x) k = m.0
  next_of (Ite c x y) k = cond (as_truth (val (tree g c.0) point)) x.0 y.0
  next_of _ k = k

  -- One step of the walk down from a term: at node n it goes on.
  abbrev pub step : (n t : ℕ) → ℕ
  step n t = cond (t == n) (next_of (node_at g n) n) t

  -- where it is after so many steps down to node n
  abbrev pub walk : (top steps n : ℕ) → ℕ
  walk top zero n = top
  walk top (suc k) n = step n (walk top k (suc n))

  pub next_among : (n : Node) (k : ℕ) → is_changed n ≡ true → Among (next_of n k) (memories_of n)
  next_among (Store m i x) k e = inl refl
  next_among (Ite c x y) k e = by_test (as_truth (val (tree g c.0) point))
    where
      by_test : (b : Bool) → Among (cond b x.0 y.0) (x.0 ∷ y.0 ∷ [])
      by_test true = inl refl
      by_test false = inr (inl refl)
  next_among _ k e = absurd (false≢true e)

  pub next_itself : (n : Node) (k : ℕ) → is_changed n ≡ false → next_of n k ≡ k
  next_itself (Store m i x) k e = absurd (false≢true (sym e))
  next_itself (Ite c x y) k e = absurd (false≢true (sym e))
  next_itself _ k e = refl

  -- at the node, and elsewhere
  pub step_at : (n t : ℕ) → (t == n) ≡ true → step n t ≡ next_of (node_at g n) n
  step_at n t e = ap (λ b. cond b (next_of (node_at g n) n) t) e

  pub step_elsewhere : (n t : ℕ) → (t == n) ≡ false → step n t ≡ t
  step_elsewhere n t e = ap (λ b. cond b (next_of (node_at g n) n) t) e

  module _ (ordered : IsOrdered g) (top : ℕ) (low : top < length g.nodes) where
    abbrev IsPart : ℕ → Type 0
    IsPart k = is_part g (suc top) top k ≡ true

    next_part : (t : ℕ) → IsPart t → IsPart (next_of (node_at g t) t)
    next_part t part = by_test (is_changed (node_at g t)) refl
      where
        by_test : (b : Bool) → is_changed (node_at g t) ≡ b → IsPart (next_of (node_at g t) t)
        by_test true e = part_of_part g ordered (suc top) top t (next_of (node_at g t) t) (omega arith) low part (next_among (node_at g t) t e)
        by_test false e = subst IsPart (sym (next_itself (node_at g t) t e)) part

    -- The walk stays among the parts of the term.
    pub walk_part : (k n : ℕ) → IsPart (walk top k n)
    walk_part zero n = its_own_part g (suc top) top (omega arith)
    walk_part (suc k) n = by_test (walk top k (suc n) == n) refl (walk_part k (suc n))
      where
        by_test : (b : Bool) → (walk top k (suc n) == n) ≡ b → IsPart (walk top k (suc n)) → IsPart (cond b (next_of (node_at g n) n) (walk top k (suc n)))
        by_test true e part = next_part n (subst IsPart (eqb-true (walk top k (suc n)) n e) part)
        by_test false e part = part

-- ---- the wires

module _ (s : Scope) (v : Valuation) (g : Graph) (point : Valuation) (keep : ℕ → Bool) (ordered : IsOrdered g)
    (done : (k : ℕ) → k < length g.nodes → IsTrue (keep k) → IsDone s v g point k)
    (closed : (k : ℕ) → k < length g.nodes → IsTrue (keep k) → AreKept keep (operands_of (node_at g k))) (a d : ℕ) where
  -- a memory that is kept
  pub record IsHeld (k : ℕ) : Type 0 where
    pub known : k < length g.nodes
    pub kept : keep k ≡ true
    pub sorted : sort_of (tree g k) ≡ Some (memory a d)

  node_sorted : (k : ℕ) → IsHeld k → sort_of (tree_of_node g (node_at g k)) ≡ Some (memory a d)
  node_sorted k h = ap sort_of (sym (tree_is g k ordered h.known)) ∙ h.sorted

  -- what it is made of is kept
  made_of : (k i : ℕ) → IsHeld k → Among i (memories_of (node_at g k)) → IsHeld i
  made_of k i h at = by_node (node_at g k) (node_sorted k h) (closed k h.known h.kept) at
    where
      below : i < length g.nodes
      below = let q : i < k = memory_below k (node_at g k) i (ordered k h.known) at in let z = h.known in omega (arith, q, z)

      by_node : (n : Node) → sort_of (tree_of_node g n) ≡ Some (memory a d) → AreKept keep (operands_of n) → Among i (memories_of n) → IsHeld i
      by_node (Store m j x) e all (inl q) =
          record {
            known = below;
            kept = subst (λ y. keep y ≡ true) q all.0;
            sorted = subst (λ y. sort_of (tree g y) ≡ Some (memory a d)) q (store_sorts (sort_of (tree g m.0)) (sort_of (tree g j.0)) (sort_of (tree g x.0)) a d e).0;
          }
      by_node (Store m j x) e all (inr z) = absurd z
      by_node (Ite c x y) e all (inl q) =
          record {
            known = below;
            kept = subst (λ z. keep z ≡ true) q all.1.0;
            sorted = subst (λ z. sort_of (tree g z) ≡ Some (memory a d)) q (ite_sorts (sort_of (tree g c.0)) (sort_of (tree g x.0)) (sort_of (tree g y.0)) a d e).1;
          }
      by_node (Ite c x y) e all (inr (inl q)) =
          record {
            known = below;
            kept = subst (λ z. keep z ≡ true) q all.1.1.0;
            sorted = subst (λ z. sort_of (tree g z) ≡ Some (memory a d)) q (ite_sorts (sort_of (tree g c.0)) (sort_of (tree g x.0)) (sort_of (tree g y.0)) a d e).2;
          }
      by_node (Ite c x y) e all (inr (inr z)) = absurd z
      by_node _ e all z = absurd z

  pub part_held : (l j k : ℕ) → IsHeld j → is_part g l j k ≡ true → IsHeld k
  part_held zero j k h e = absurd (false≢true e)
  part_held (suc l) j k h e =
      by_cases (or_cases (j == k) (list_any (λ i. is_part g l i k) (memories_of (node_at g j))) e) (λ i at f. part_held l i k (made_of j i h at) f)
    where
      by_cases : ((j == k) ≡ true) ⊎ (list_any (λ i. is_part g l i k) (memories_of (node_at g j)) ≡ true)
          → ((i : ℕ) → Among i (memories_of (node_at g j)) → is_part g l i k ≡ true → IsHeld k) → IsHeld k
      by_cases (inl f) more = subst IsHeld (eqb-true j k f) h
      by_cases (inr f) more = let z = any_found (λ i. is_part g l i k) (memories_of (node_at g j)) f in more z.0 z.1 z.2

  module _ (u : MemoryUpdate) (root : IsHeld u.term) (b : Bool) (decoded : IsWorth s v u.decode 1 (bit b)) (read : BitsAreRead s v (via_wires g u (suc u.term))) where
    abbrev pub walked : (steps n : ℕ) → ℕ
    walked k n = walk g point u.term k n

    abbrev next : ℕ → ℕ
    next k = next_of g point (node_at g k) k

    -- The walk comes by node k, and the instruction decodes.
    abbrev pub comes_by : (steps k : ℕ) → Bool
    comes_by h k = b && (walked h (suc k) == k)

    abbrev pub IsWay : (steps k : ℕ) → Type 0
    IsWay h k = IsWorth s v (via u k) 1 (bit (comes_by h k))

    pub has_held : (k : ℕ) → has_part g u.term k ≡ true → IsHeld k
    has_held k e = part_held (suc u.term) u.term k root (and_parts (is_changed (node_at g k)) (is_part g (suc u.term) u.term k) e).1

    -- the ways from a part
    from_part : (h p k : ℕ) → has_part g u.term p ≡ true → IsWay h p → HasAny s v (ways_from g u p k (node_at g p)) (comes_by h p && (next p == k))
    from_part h p k part way =
        let held = has_held p part in
        by_node (node_at g p) (and_parts (is_changed (node_at g p)) (is_part g (suc u.term) u.term p) part).0 (node_sorted p held) (ordered p held.known)
        (closed p held.known held.kept) held.known
      where
        below : (i j : ℕ) → i < j → j < length g.nodes → i < length g.nodes
        below i j less low = omega (arith, less, low)

        by_node : (n : Node) → is_changed n ≡ true → sort_of (tree_of_node g n) ≡ Some (memory a d) → AllBelow p (operands_of n) → AreKept keep (operands_of n)
            → p < length g.nodes → HasAny s v (ways_from g u p k n) (comes_by h p && (next_of g point n p == k))
        by_node (Store m i x) e sorted under kept low =
            subst (HasAny s v (if_so (m.0 == k) (via u p))) (and_turned (m.0 == k) (comes_by h p)) (any_if s v (m.0 == k) (via u p) (comes_by h p) way)
        by_node (Ite c x y) e sorted under kept low =
            let sorts = ite_sorts (sort_of (tree g c.0)) (sort_of (tree g x.0)) (sort_of (tree g y.0)) a d sorted in
            let test : Worth s v (operand g c.0) (Some truth) (val (tree g c.0) point) =
            subst (λ t. Worth s v (operand g c.0) t (val (tree g c.0) point)) sorts.0 (done c.0 (below c.0 p under.0 low) kept.0).0 in
            let one : IsWorth s v (binary bitwise_and (via u p) (operand g c.0)) 1 (bit (comes_by h p && test.0)) =
            subst (IsWorth s v (binary bitwise_and (via u p) (operand g c.0)) 1) (and_bits (comes_by h p) test.0)
            (bitwise_and_is_and s v (via u p) (operand g c.0) 1 (bit (comes_by h p)) (bit test.0) way test.2) in
            let other : IsWorth s v (binary bitwise_and (via u p) (unary complement (operand g c.0))) 1 (bit (comes_by h p && not test.0)) =
            subst (IsWorth s v (binary bitwise_and (via u p) (unary complement (operand g c.0))) 1) (and_not_bits (comes_by h p) test.0)
            (bitwise_and_is_and s v (via u p) (unary complement (operand g c.0)) 1 (bit (comes_by h p)) (word_not 1 (bit test.0)) way
            (complement_is_not s v (operand g c.0) 1 (bit test.0) test.2)) in
            subst (HasAny s v (ways_from g u p k (Ite c x y)))
            (one_way (x.0 == k) (y.0 == k) (comes_by h p) test.0
            ∙ ap (λ z. comes_by h p && z) (chosen_number test.0 x.0 y.0 ∙ ap (λ t. cond t x.0 y.0 == k) (sym (ap as_truth test.1))))
            (any_joined s v (if_so (x.0 == k) (binary bitwise_and (via u p) (operand g c.0)))
            (if_so (y.0 == k) (binary bitwise_and (via u p) (unary complement (operand g c.0)))) ((x.0 == k) && (comes_by h p && test.0))
            ((y.0 == k) && (comes_by h p && not test.0))
            (any_if s v (x.0 == k) (binary bitwise_and (via u p) (operand g c.0)) (comes_by h p && test.0) one)
            (any_if s v (y.0 == k) (binary bitwise_and (via u p) (unary complement (operand g c.0))) (comes_by h p && not test.0) other))
          where
            chosen_number : (q : Bool) (i j : ℕ) → cond q (i == k) (j == k) ≡ (cond q i j == k)
            chosen_number true i j = refl
            chosen_number false i j = refl
        by_node _ e sorted under kept low = absurd (false≢true e)

    -- No way leads up.
    not_up : (p k : ℕ) (n : Node) → p ≤ k → AllBelow p (operands_of n) → HasAny s v (ways_from g u p k n) false
    not_up p k (Store m i x) le under = subst (λ t. HasAny s v (if_so t (via u p)) false) (sym (ne_eqb m.0 k (higher m.0 under.0))) refl
      where
        higher : (i : ℕ) → i < p → i ≡ k → ⊥
        higher i less q = omega (arith, q, less, le)
    not_up p k (Ite c x y) le under =
        subst
        (λ t. HasAny s v
        (if_so t (binary bitwise_and (via u p) (operand g c.0)) ++ if_so (y.0 == k) (binary bitwise_and (via u p) (unary complement (operand g c.0)))) false)
        (sym (ne_eqb x.0 k (higher x.0 under.1.0)))
        (subst (λ t. HasAny s v (if_so t (binary bitwise_and (via u p) (unary complement (operand g c.0)))) false) (sym (ne_eqb y.0 k (higher y.0 under.1.1.0))) refl)
      where
        higher : (i : ℕ) → i < p → i ≡ k → ⊥
        higher i less q = omega (arith, q, less, le)
    not_up p k _ le under = refl

    no_ways : (n k : ℕ) → n ≤ suc k → n ≤ length g.nodes → HasAny s v (ways_to g u n k) false
    no_ways zero k le low = refl
    no_ways (suc p) k le low =
        any_joined s v (cond (has_part g u.term p) (ways_from g u p k (node_at g p)) []) (ways_to g u p k) false false (first (has_part g u.term p))
        (no_ways p k (omega (arith, le)) (omega (arith, low)))
      where
        first : (t : Bool) → HasAny s v (cond t (ways_from g u p k (node_at g p)) []) false
        first true = not_up p k (node_at g p) (omega (arith, le)) (ordered p (omega (arith, low)))
        first false = refl

    within : (p h : ℕ) → h + suc p ≡ suc u.term → suc p ≤ length g.nodes
    within p h q = let z = root.known in omega (arith, q, z)

    -- The ways from the first n nodes, and those of the walk before it comes to them, are all the ways.
    collected : (k end : ℕ) → end + suc k ≡ suc u.term
        → ((h p : ℕ) → k < p → h + suc p ≡ suc u.term → has_part g u.term p ≡ true → IsWay h p) → (n h : ℕ) → suc k ≤ n → h + n ≡ suc u.term
        → (w : Bool) × HasAny s v (ways_to g u n k) w × ((w || (b && (walked h n == k))) ≡ comes_by end k)
    collected k end is_end ways zero h le q = absurd (omega (arith, le))
    collected k end is_end ways (suc p) h le q = by_place (cases_eq p k) (λ above. collected k end is_end ways p (suc h) above (omega (arith, q)))
      where
        same_steps : p ≡ k → h ≡ end
        same_steps e = omega (arith, q, is_end, e)

        above : (p ≡ k → ⊥) → suc k ≤ p
        above other = omega (arith, le, other)

        no_lower : (i : ℕ) → suc k ≤ p → i ≡ p → i ≡ k → ⊥
        no_lower i up e f = omega (arith, up, e, f)

        -- from node p, where it is no part with wires
        no_more : suc k ≤ p → has_part g u.term p ≡ false → (comes_by h p && (next p == k)) ≡ false
        no_more up e = by_test (walked h (suc p) == p) refl
          where
            by_part : (walked h (suc p) == p) ≡ true → (is_changed (node_at g p) ≡ false) ⊎ (is_part g (suc u.term) u.term p ≡ false) → (next p == k) ≡ false
            by_part f (inl z) = ap (λ i. i == k) (next_itself g point (node_at g p) p z) ∙ ne_eqb p k (no_lower p up refl)
            by_part f (inr z) =
                absurd
                (false≢true
                (sym z
                ∙ subst (λ i. is_part g (suc u.term) u.term i ≡ true) (eqb-true (walked h (suc p)) p f)
                (walk_part g point ordered u.term root.known h (suc p))))

            by_test : (t : Bool) → (walked h (suc p) == p) ≡ t → ((b && t) && (next p == k)) ≡ false
            by_test true f =
                ap (λ c. (b && true) && c) (by_part f (and_cases (is_changed (node_at g p)) (is_part g (suc u.term) u.term p) e)) ∙ and_none (b && true)
            by_test false f = ap (λ c. c && (next p == k)) (and_none b)

        from_node : suc k ≤ p → (t : Bool) → has_part g u.term p ≡ t
            → HasAny s v (cond t (ways_from g u p k (node_at g p)) []) (comes_by h p && (next p == k))
        from_node up true e = from_part h p k e (ways h p up q e)
        from_node up false e = no_more up e

        all_ways : suc k ≤ p → (w : Bool) → (w || (b && (step g point p (walked h (suc p)) == k))) ≡ comes_by end k → (t : Bool) → (walked h (suc p) == p) ≡ t
            → ((((b && t) && (next p == k)) || w) || (b && (walked h (suc p) == k))) ≡ comes_by end k
        all_ways up w e true f =
            ap (λ c. (((b && true) && (next p == k)) || w) || (b && c))
            (ne_eqb (walked h (suc p)) k (no_lower (walked h (suc p)) up (eqb-true (walked h (suc p)) p f)))
            ∙ (more_at b (next p == k) w ∙ (ap (λ i. w || (b && (i == k))) (sym (step_at g point p (walked h (suc p)) f)) ∙ e))
        all_ways up w e false f =
            more_elsewhere b (next p == k) w (walked h (suc p) == k)
            ∙ (ap (λ i. w || (b && (i == k))) (sym (step_elsewhere g point p (walked h (suc p)) f)) ∙ e)

        by_place : (p ≡ k) ⊎ (p ≡ k → ⊥)
            → (suc k ≤ p → (w : Bool) × HasAny s v (ways_to g u p k) w × ((w || (b && (walked (suc h) p == k))) ≡ comes_by end k))
            → (w : Bool) × HasAny s v (ways_to g u (suc p) k) w × ((w || (b && (walked h (suc p) == k))) ≡ comes_by end k)
        by_place (inl e) more = (
          false,
          no_ways (suc p) k (omega (arith, e)) (within p h q),
          ap (λ i. b && (walked i (suc p) == k)) (same_steps e) ∙ ap (λ i. b && (walked end (suc i) == k)) e,
        )
        by_place (inr other) more =
            let up : suc k ≤ p = above other in
            let rest = more up in (
              (comes_by h p && (next p == k)) || rest.0,
              any_joined s v (cond (has_part g u.term p) (ways_from g u p k (node_at g p)) []) (ways_to g u p k) (comes_by h p && (next p == k)) rest.0
                  (from_node up (has_part g u.term p) refl) rest.1,
              all_ways up rest.0 rest.2 (walked h (suc p) == p) refl,
            )

    -- Each wire holds where the walk comes by its node.
    ways_below : (c h k : ℕ) → h < c → h + suc k ≡ suc u.term → has_part g u.term k ≡ true → IsWay h k
    ways_below zero h k less q part = absurd (omega (arith, less))
    ways_below (suc c) h k less q part =
        read (via_wire g u k) (comes_by h k) (via_wire_there g u (suc u.term) k (omega (arith, q)) part) refl
        (by_test (k == u.term) refl (λ i p up r e. ways_below c i p (earlier i p up r) r e))
      where
        earlier : (i p : ℕ) → k < p → i + suc p ≡ suc u.term → i < c
        earlier i p up r = omega (arith, up, r, q, less)

        first_steps : k ≡ u.term → h ≡ 0
        first_steps e = omega (arith, e, q)

        by_test : (t : Bool) → (k == u.term) ≡ t
            → ((i p : ℕ) → k < p → i + suc p ≡ suc u.term → has_part g u.term p ≡ true → IsWay i p)
            → IsWorth s v (cond t u.decode (any_of (ways_to g u (suc u.term) k))) 1 (bit (comes_by h k))
        by_test true e ways =
            let same : k ≡ u.term = eqb-true k u.term e in
            subst (λ z. IsWorth s v u.decode 1 (bit z))
            (sym
            (ap (λ i. b && (walked i (suc k) == k)) (first_steps same)
            ∙ (ap (λ i. b && i) (eq-eqb u.term k (sym same)) ∙ and_all b)))
            decoded
        by_test false e ways =
            let all = collected k h q ways (suc u.term) 0 (omega (arith, q)) (omega arith) in
            any_worth s v (ways_to g u (suc u.term) k) (comes_by h k)
            (subst (HasAny s v (ways_to g u (suc u.term) k))
            (sym
            (ap (λ i. all.0 || (b && i)) (ne_eqb u.term k (λ f. false≢true (sym e ∙ eq-eqb k u.term (sym f))))
            ∙ (ap (λ i. all.0 || i) (and_none b) ∙ or_none all.0))
            ∙ all.2)
            all.1)

    pub way_is : (h k : ℕ) → h + suc k ≡ suc u.term → has_part g u.term k ≡ true → IsWay h k
    way_is h k q part = ways_below (suc h) h k (omega arith) q part
