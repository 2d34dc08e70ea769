-- Names of wires are all different, and no names of a model; and which wires there are.
use Rattle.std.proofs.Common.{◌≡◌, ◌≢◌, ℕ, zero, suc, ◌+◌, ◌<◌, ◌≤◌, ◌^◌, Bool, true, false, cond, ◌&&◌, ◌||◌, ◌⊎◌, inl, inr, List, [], ◌∷◌, ◌++◌, map, length, refl, sym, ◌∙◌, ap, subst, arith, get_or}
use Rattle.std.specs.Prelude.{⊤, codes, decimal}
use Rattle.std.specs.Str.Parse.{AllDigits}
use Rattle.std.proofs.lemmas.List.{append_cancel_left, map-append}
use Rattle.std.proofs.lemmas.Str.Parse.{digit_from_value}
use Rattle.std.proofs.lemmas.Fmt.{decimal_injective, decimal_is_IsNumeral}
use Rattle.wb_values.specs.Value.{Name, same_name}
use Rattle.model_meaning.specs.Among.{is_name_in}
use Rattle.verilog_trees.specs.Syntax.{Expression}
use Rattle.wb_terms.specs.declared.nodes.Node.{Node}
use Rattle.wb_terms.specs.declared.nodes.Node.TheVariants.{Load, Truth}
use Rattle.wb_terms.specs.Graph.{Graph}
use Rattle.emitted_designs.proofs.Named.{same_if}
use Rattle.emitted_modules.specs.Rtl.{Wire}
use Rattle.emitted_modules.specs.Nodes.{wire_name_of, operand, has_part, word_name, has_wire, wire_for, word_wire, word_wires, words_for, node_wires}
use Rattle.emitted_modules.specs.Stores.{MemoryUpdate, via_name, via_wire, via_wires}
use Rattle.emitted_modules.specs.Module.{none_name, one_name, none_wire, one_wire, decode_wires, all_ways}
use Rattle.emitted_modules.proofs.Names.{Among, among_either, AreDistinct, distinct_joined, none_in, among_left, among_right}
use Rattle.std.proofs.lemmas.Bool.{cases_eq}

abbrev pub wire_names : List Wire → List Name
wire_names ws = map (λ w. w.wire_name) ws

numbered_apart : (text : List ℕ) (j k : ℕ) → j < 2 ^ 64 → k < 2 ^ 64 → j ≢ k → same_name (text ++ decimal j) (text ++ decimal k) ≡ false
numbered_apart text j k low high apart = by_test (same_name (text ++ decimal j) (text ++ decimal k)) refl
  where
    by_test : (b : Bool) → same_name (text ++ decimal j) (text ++ decimal k) ≡ b → b ≡ false
    by_test true same =
        absurd
        (apart
        (decimal_injective j k low high
        (append_cancel_left text (decimal j) (decimal k) (same_if (text ++ decimal j) (text ++ decimal k) same))))
    by_test false other = refl

-- ---- numbers with a mark between them

-- no part of it is the mark
abbrev HasNoMark : List ℕ → Type 0
HasNoMark xs = (Among 95 xs → ⊥)

digits_unmarked : (ds : List ℕ) → AllDigits 10 ds → HasNoMark ds
digits_unmarked [] d h = absurd h
digits_unmarked (c ∷ cs) d (inl e) = let f = digit_from_value c d.0 in absurd (omega (arith, f, e))
digits_unmarked (c ∷ cs) d (inr h) = digits_unmarked cs d.1 h

decimal_unmarked : (k : ℕ) → k < 2 ^ 64 → HasNoMark (decimal k)
decimal_unmarked k low = digits_unmarked (decimal k) (decimal_is_IsNumeral k low).0.1

-- what stands before the first mark, and after it
at_mark : (xs ys more other : List ℕ) → HasNoMark xs → HasNoMark ys → xs ++ 95 ∷ more ≡ ys ++ 95 ∷ other → (xs ≡ ys) × (more ≡ other)
at_mark [] [] more other p q e = (refl, cc)
at_mark [] (y ∷ ys) more other p q e = absurd (q (inl cc))
at_mark (x ∷ xs) [] more other p q e = absurd (p (inl cc))
at_mark (x ∷ xs) (y ∷ ys) more other p q e =
    let same : x ≡ y = cc in
    let rest = at_mark xs ys more other (λ h. p (inr h)) (λ h. q (inr h)) cc in
    (ap (λ z. z ∷ xs) same ∙ ap (λ zs. y ∷ zs) rest.0, rest.1)

number_and_rest : (j k : ℕ) (m n : List ℕ) → j < 2 ^ 64 → k < 2 ^ 64 → decimal j ++ 95 ∷ m ≡ decimal k ++ 95 ∷ n → (j ≡ k) × (m ≡ n)
number_and_rest j k m n low high e =
    let parts = at_mark (decimal j) (decimal k) m n (decimal_unmarked j low) (decimal_unmarked k high) e in
    (decimal_injective j k low high parts.0, parts.1)

not_same : (m n : Name) → (m ≡ n → ⊥) → same_name m n ≡ false
not_same m n apart = by_test (same_name m n) refl
  where
    by_test : (b : Bool) → same_name m n ≡ b → b ≡ false
    by_test true same = absurd (apart (same_if m n same))
    by_test false other = refl

words_apart : (l i m j : ℕ) → l < 2 ^ 64 → i < 2 ^ 64 → m < 2 ^ 64 → j < 2 ^ 64 → (l ≡ m → i ≡ j → ⊥) → same_name (word_name l i) (word_name m j) ≡ false
words_apart l i m j a b c d apart =
    not_same (word_name l i) (word_name m j)
    (λ e.
    let parts = number_and_rest l m (decimal i) (decimal j) a c (append_cancel_left (codes "wb_word_") _ _ e) in
    apart parts.0 (decimal_injective i j b d parts.1))

-- two updates of memories: of different instructions, or of different memories
abbrev pub AreOther : MemoryUpdate → MemoryUpdate → Type 0
AreOther u w = u.instruction ≡ w.instruction → u.memory_name ≡ w.memory_name → ⊥

ways_apart : (u w : MemoryUpdate) (i j : ℕ) → u.instruction < 2 ^ 64 → w.instruction < 2 ^ 64 → i < 2 ^ 64 → j < 2 ^ 64
    → (u.instruction ≡ w.instruction → i ≡ j → u.memory_name ≡ w.memory_name → ⊥) → same_name (via_name u i) (via_name w j) ≡ false
ways_apart u w i j a b c d apart =
    not_same (via_name u i) (via_name w j)
    (λ e.
    let first = number_and_rest u.instruction w.instruction _ _ a b (append_cancel_left (codes "wb_via_") _ _ e) in
    let second = number_and_rest i j u.memory_name w.memory_name c d first.1 in
    apart first.0 second.0 second.1)

-- ---- lists of wires

pub names_joined : (xs ys : List Wire) → wire_names (xs ++ ys) ≡ wire_names xs ++ wire_names ys
names_joined xs ys = map-append (λ w. w.wire_name) xs ys

-- a name of two lists of wires is of one of them
pub name_either : (n : Name) (xs ys : List Wire) → Among n (wire_names (xs ++ ys)) → Among n (wire_names xs) ⊎ Among n (wire_names ys)
name_either n xs ys h = among_either n (wire_names xs) (wire_names ys) (subst (Among n) (names_joined xs ys) h)

-- the names of two lists are different where no name of the one is the other's
pub wires_joined : (xs ys : List Wire) → AreDistinct (wire_names xs) → AreDistinct (wire_names ys)
    → ((n k : Name) → Among n (wire_names xs) → Among k (wire_names ys) → same_name n k ≡ false) → AreDistinct (wire_names (xs ++ ys))
wires_joined xs ys d e apart =
    subst AreDistinct (sym (names_joined xs ys))
    (distinct_joined (wire_names xs) (wire_names ys) d e (λ n h. none_in n (wire_names ys) (λ k g. apart n k h g)))

-- ---- wires of nodes

-- the name of a wire of node j: its own, or one for a word of a node before it
abbrev pub IsOfNode : ℕ → Name → Type 0
IsOfNode j n = (wire_name_of j ≡ n) ⊎ ((k : ℕ) × (k < j) × (word_name j k ≡ n))

-- of a node from one number up to another
abbrev pub IsNodeName : (from end : ℕ) → Name → Type 0
IsNodeName from end n = (j : ℕ) × (from ≤ j) × (j < end) × IsOfNode j n

module _ (g : Graph) where
  word_names : (l : ℕ) (e : Expression) (m b : ℕ) (n : Name) → Among n (wire_names (word_wires g l e m b)) → (k : ℕ) × (k < b) × (word_name l k ≡ n)
  word_names l e m zero n h = absurd h
  word_names l e m (suc b) n h =
      by_place (has_part g m b) (word_names l e m b n)
      (name_either n (word_wires g l e m b) (cond (has_part g m b) (word_wire g l e b ∷ []) []) h)
    where
      by_place : (t : Bool) → (Among n (wire_names (word_wires g l e m b)) → (k : ℕ) × (k < b) × (word_name l k ≡ n))
          → Among n (wire_names (word_wires g l e m b)) ⊎ Among n (wire_names (cond t (word_wire g l e b ∷ []) []))
          → (k : ℕ) × (k < suc b) × (word_name l k ≡ n)
      by_place t more (inl at) = let z = more at in (z.0, omega (arith, z.1), z.2)
      by_place true more (inr (inl q)) = (b, omega arith, q)
      by_place true more (inr (inr at)) = absurd at
      by_place false more (inr at) = absurd at

  distinct_words : (l : ℕ) (e : Expression) (m b : ℕ) → l < 2 ^ 64 → b ≤ l → AreDistinct (wire_names (word_wires g l e m b))
  distinct_words l e m zero low le = tt
  distinct_words l e m (suc b) low le =
      wires_joined (word_wires g l e m b) (cond (has_part g m b) (word_wire g l e b ∷ []) []) (distinct_words l e m b low (omega (arith, le)))
      (alone (has_part g m b)) (λ n k at there. by_test (has_part g m b) k (word_names l e m b n at) there)
    where
      alone : (t : Bool) → AreDistinct (wire_names (cond t (word_wire g l e b ∷ []) []))
      alone true = (refl, tt)
      alone false = tt

      before : (i : ℕ) → i < b → i < 2 ^ 64
      before i less = omega (arith, less, le, low)

      by_test : (t : Bool) {n : Name} (k : Name) → (i : ℕ) × (i < b) × (word_name l i ≡ n) → Among k (wire_names (cond t (word_wire g l e b ∷ []) []))
          → same_name n k ≡ false
      by_test true k (i, less, q) (inl f) =
          subst (λ x. same_name x k ≡ false) q
          (subst (λ x. same_name (word_name l i) x ≡ false) f
          (words_apart l i l b low (before i less) low (omega (arith, le, low)) (λ a c. absurd (omega (arith, c, less)))))
      by_test true k z (inr at) = absurd at
      by_test false k z at = absurd at

  -- the wires of one node
  words_of_node : (k : ℕ) (x : Node) (n : Name) → Among n (wire_names (words_for g k x)) → (j : ℕ) × (j < k) × (word_name k j ≡ n)
  words_of_node k (Load m i) n h = word_names k (operand g i.0) m.0 k n h
  words_of_node k _ n h = absurd h

  distinct_of_node : (k : ℕ) (x : Node) → k < 2 ^ 64 → AreDistinct (wire_names (words_for g k x))
  distinct_of_node k (Load m i) low = distinct_words k (operand g i.0) m.0 k low (omega arith)
  distinct_of_node k _ low = tt

  of_node : (k : ℕ) (x : Node) (n : Name) → Among n (wire_names (words_for g k x ++ wire_for g k x ∷ [])) → IsOfNode k n
  of_node k x n h = by_place (name_either n (words_for g k x) (wire_for g k x ∷ []) h)
    where
      by_place : Among n (wire_names (words_for g k x)) ⊎ Among n (wire_name_of k ∷ []) → IsOfNode k n
      by_place (inl at) = inr (words_of_node k x n at)
      by_place (inr (inl e)) = inl e
      by_place (inr (inr at)) = absurd at

  distinct_node : (k : ℕ) (x : Node) → k < 2 ^ 64 → AreDistinct (wire_names (words_for g k x ++ wire_for g k x ∷ []))
  distinct_node k x low =
      wires_joined (words_for g k x) (wire_for g k x ∷ []) (distinct_of_node k x low) (refl, tt) (λ n m at there. differ n m (words_of_node k x n at) there)
    where
      differ : (n m : Name) → (j : ℕ) × (j < k) × (word_name k j ≡ n) → Among m (wire_name_of k ∷ []) → same_name n m ≡ false
      differ n m (j, less, q) (inl e) = subst (λ y. same_name y m ≡ false) q (subst (λ y. same_name (word_name k j) y ≡ false) e refl)
      differ n m z (inr at) = absurd at

-- wires of different nodes
nodes_apart : (j k : ℕ) (n m : Name) → j < 2 ^ 64 → k < 2 ^ 64 → j ≢ k → IsOfNode j n → IsOfNode k m → same_name n m ≡ false
nodes_apart j k n m low high apart (inl e) (inl f) =
    subst (λ x. same_name x m ≡ false) e (subst (λ x. same_name (wire_name_of j) x ≡ false) f (numbered_apart (codes "wb_t") j k low high apart))
nodes_apart j k n m low high apart (inl e) (inr (i, less, f)) =
    subst (λ x. same_name x m ≡ false) e (subst (λ x. same_name (wire_name_of j) x ≡ false) f refl)
nodes_apart j k n m low high apart (inr (i, less, e)) (inl f) =
    subst (λ x. same_name x m ≡ false) e (subst (λ x. same_name (word_name j i) x ≡ false) f refl)
nodes_apart j k n m low high apart (inr (i, less, e)) (inr (h, more, f)) =
    subst (λ x. same_name x m ≡ false) e
    (subst (λ x. same_name (word_name j i) x ≡ false) f
    (words_apart j i k h low (omega (arith, less, low)) high (omega (arith, more, high)) (λ a c. apart a)))

module _ (g : Graph) (keep : ℕ → Bool) where
  pub node_names : (from : ℕ) (ns : List Node) (n : Name) → Among n (wire_names (node_wires g keep from ns)) → IsNodeName from (from + length ns) n
  node_names from [] n h = absurd h
  node_names from (x ∷ ns) n h =
      by_place (keep from && has_wire g from x) (λ k. node_names (suc from) ns n k)
      (name_either n (cond (keep from && has_wire g from x) (words_for g from x ++ wire_for g from x ∷ []) []) (node_wires g keep (suc from) ns) h)
    where
      later : IsNodeName (suc from) (suc from + length ns) n → IsNodeName from (from + length (x ∷ ns)) n
      later (j, low, high, e) = (j, omega (arith, low), omega (arith, high), e)

      by_place : (b : Bool) → (Among n (wire_names (node_wires g keep (suc from) ns)) → IsNodeName (suc from) (suc from + length ns) n)
          → Among n (wire_names (cond b (words_for g from x ++ wire_for g from x ∷ []) [])) ⊎ Among n (wire_names (node_wires g keep (suc from) ns))
          → IsNodeName from (from + length (x ∷ ns)) n
      by_place true more (inl at) = (from, omega arith, omega arith, of_node g from x n at)
      by_place false more (inl at) = absurd at
      by_place b more (inr at) = later (more at)

  pub distinct_nodes : (from : ℕ) (ns : List Node) → from + length ns ≤ 2 ^ 64 → AreDistinct (wire_names (node_wires g keep from ns))
  distinct_nodes from [] high = tt
  distinct_nodes from (x ∷ ns) high =
      wires_joined (cond (keep from && has_wire g from x) (words_for g from x ++ wire_for g from x ∷ []) []) (node_wires g keep (suc from) ns)
      (alone (keep from && has_wire g from x)) (distinct_nodes (suc from) ns (omega (arith, high)))
      (λ n k at there. by_test (keep from && has_wire g from x) n at (node_names (suc from) ns k there))
    where
      low : from < 2 ^ 64
      low = omega (arith, high)

      alone : (b : Bool) → AreDistinct (wire_names (cond b (words_for g from x ++ wire_for g from x ∷ []) []))
      alone true = distinct_node g from x low
      alone false = tt

      by_test : (b : Bool) (n : Name) {k : Name} → Among n (wire_names (cond b (words_for g from x ++ wire_for g from x ∷ []) []))
          → IsNodeName (suc from) (suc from + length ns) k → same_name n k ≡ false
      by_test true n {k} at (j, above, below, e) =
          nodes_apart from j n k low (omega (arith, below, high)) (λ q. absurd (omega (arith, q, above))) (of_node g from x n at) e
      by_test false n at z = absurd at

-- ---- wires of updates of memories

-- the name of a wire of one of these updates
abbrev pub IsWayName : List MemoryUpdate → Name → Type 0
IsWayName us n = (u : MemoryUpdate) × Among u us × ((k : ℕ) × (k < suc u.term) × (via_name u k ≡ n))

-- the numbers of instructions and terms are low
abbrev pub AreLow : List MemoryUpdate → Type 0
AreLow us = (u : MemoryUpdate) → Among u us → (u.instruction < 2 ^ 64) × (u.term < 2 ^ 64)

-- each is other than those that follow
abbrev pub AreAllOther : List MemoryUpdate → Type 0
AreAllOther [] = ⊤
AreAllOther (u ∷ us) = ((w : MemoryUpdate) → Among w us → AreOther u w) × AreAllOther us

module _ (g : Graph) where
  way_names : (u : MemoryUpdate) (b : ℕ) (n : Name) → Among n (wire_names (via_wires g u b)) → (k : ℕ) × (k < b) × (via_name u k ≡ n)
  way_names u zero n h = absurd h
  way_names u (suc b) n h =
      by_place (has_part g u.term b) (way_names u b n) (name_either n (cond (has_part g u.term b) (via_wire g u b ∷ []) []) (via_wires g u b) h)
    where
      by_place : (t : Bool) → (Among n (wire_names (via_wires g u b)) → (k : ℕ) × (k < b) × (via_name u k ≡ n))
          → Among n (wire_names (cond t (via_wire g u b ∷ []) [])) ⊎ Among n (wire_names (via_wires g u b))
          → (k : ℕ) × (k < suc b) × (via_name u k ≡ n)
      by_place true more (inl (inl q)) = (b, omega arith, q)
      by_place true more (inl (inr at)) = absurd at
      by_place false more (inl at) = absurd at
      by_place t more (inr at) = let z = more at in (z.0, omega (arith, z.1), z.2)

  distinct_ways_of : (u : MemoryUpdate) (b : ℕ) → u.instruction < 2 ^ 64 → b ≤ 2 ^ 64 → AreDistinct (wire_names (via_wires g u b))
  distinct_ways_of u zero low le = tt
  distinct_ways_of u (suc b) low le =
      wires_joined (cond (has_part g u.term b) (via_wire g u b ∷ []) []) (via_wires g u b) (alone (has_part g u.term b))
      (distinct_ways_of u b low (omega (arith, le))) (λ n k at there. by_test (has_part g u.term b) n at (way_names u b k there))
    where
      alone : (t : Bool) → AreDistinct (wire_names (cond t (via_wire g u b ∷ []) []))
      alone true = (refl, tt)
      alone false = tt

      by_test : (t : Bool) (n : Name) {k : Name} → Among n (wire_names (cond t (via_wire g u b ∷ []) [])) → (i : ℕ) × (i < b) × (via_name u i ≡ k)
          → same_name n k ≡ false
      by_test true n {k} (inl f) (i, less, q) =
          subst (λ x. same_name x k ≡ false) f
          (subst (λ x. same_name (via_name u b) x ≡ false) q
          (ways_apart u u b i low low (omega (arith, le)) (omega (arith, less, le)) (λ a c e. absurd (omega (arith, c, less)))))
      by_test true n (inr at) z = absurd at
      by_test false n at z = absurd at

  pub all_way_names : (us : List MemoryUpdate) (n : Name) → Among n (wire_names (all_ways g us)) → IsWayName us n
  all_way_names [] n h = absurd h
  all_way_names (u ∷ us) n h = by_place (name_either n (via_wires g u (suc u.term)) (all_ways g us) h) (all_way_names us n)
    where
      by_place : Among n (wire_names (via_wires g u (suc u.term))) ⊎ Among n (wire_names (all_ways g us))
          → (Among n (wire_names (all_ways g us)) → IsWayName us n) → IsWayName (u ∷ us) n
      by_place (inl at) more = (u, inl refl, way_names u (suc u.term) n at)
      by_place (inr at) more = let z = more at in (z.0, inr z.1, z.2)

  pub distinct_ways : (us : List MemoryUpdate) → AreAllOther us → AreLow us → AreDistinct (wire_names (all_ways g us))
  distinct_ways [] other low = tt
  distinct_ways (u ∷ us) other low =
      wires_joined (via_wires g u (suc u.term)) (all_ways g us)
      (distinct_ways_of u (suc u.term) (low u (inl refl)).0 (next u.term (low u (inl refl)).1))
      (distinct_ways us other.1 (λ w at. low w (inr at)))
      (λ n k at there. differ n k (way_names u (suc u.term) n at) (all_way_names us k there))
    where
      next : (a : ℕ) → a < 2 ^ 64 → suc a ≤ 2 ^ 64
      next a less = omega (arith, less)

      low_by : (a i : ℕ) → a < 2 ^ 64 → i < suc a → i < 2 ^ 64
      low_by a i less l = omega (arith, less, l)

      differ : (n k : Name) → (i : ℕ) × (i < suc u.term) × (via_name u i ≡ n) → IsWayName us k → same_name n k ≡ false
      differ n k (i, less, q) (w, at, (j, more, f)) =
          subst (λ x. same_name x k ≡ false) q
          (subst (λ x. same_name (via_name u i) x ≡ false) f
          (ways_apart u w i j (low u (inl refl)).0 (low w (inr at)).0 (low_by u.term i (low u (inl refl)).1 less) (low_by w.term j (low w (inr at)).1 more)
          (λ a c e. other.0 w at a e)))

-- ---- wires of decode conditions

-- none or one of so many instructions, up to a number of them
abbrev pub IsDecodeName : (most : ℕ) → Name → Type 0
IsDecodeName most n = (j : ℕ) × (j ≤ most) × ((none_name j ≡ n) ⊎ (one_name j ≡ n))

pub decode_names : (ds : List Expression) (n : Name) → Among n (wire_names (decode_wires ds)) → IsDecodeName (length ds) n
decode_names [] n (inl e) = (0, omega arith, inl e)
decode_names [] n (inr (inl e)) = (0, omega arith, inr e)
decode_names [] n (inr (inr h)) = absurd h
decode_names (d ∷ ds) n h =
    by_place
    (among_either n (wire_names (decode_wires ds)) (none_name (suc (length ds)) ∷ one_name (suc (length ds)) ∷ [])
    (subst (Among n) (map-append (λ w. w.wire_name) (decode_wires ds) (none_wire d (length ds) ∷ one_wire d (length ds) ∷ [])) h))
    (λ k. decode_names ds n k)
  where
    by_place : Among n (wire_names (decode_wires ds)) ⊎ Among n (none_name (suc (length ds)) ∷ one_name (suc (length ds)) ∷ [])
        → (Among n (wire_names (decode_wires ds)) → IsDecodeName (length ds) n) → IsDecodeName (suc (length ds)) n
    by_place (inl k) more = let m = more k in (m.0, omega (arith, m.1), m.2)
    by_place (inr (inl e)) more = (suc (length ds), omega arith, inl e)
    by_place (inr (inr (inl e))) more = (suc (length ds), omega arith, inr e)
    by_place (inr (inr (inr k))) more = absurd k

or_false : (a b : Bool) → a ≡ false → b ≡ false → (a || b) ≡ false
or_false true b e f = e
or_false false b e f = f

pub distinct_decodes : (ds : List Expression) → length ds < 2 ^ 64 → AreDistinct (wire_names (decode_wires ds))
distinct_decodes [] few = (refl, (refl, tt))
distinct_decodes (d ∷ ds) few =
    subst AreDistinct (sym (map-append (λ w. w.wire_name) (decode_wires ds) (none_wire d (length ds) ∷ one_wire d (length ds) ∷ [])))
    (distinct_joined (wire_names (decode_wires ds)) (none_name (suc (length ds)) ∷ one_name (suc (length ds)) ∷ [])
    (distinct_decodes ds (omega (arith, few))) (refl, (refl, tt)) (λ n h. earlier n (decode_names ds n h)))
  where
    earlier : (n : Name) → IsDecodeName (length ds) n → is_name_in n (none_name (suc (length ds)) ∷ one_name (suc (length ds)) ∷ []) ≡ false
    earlier n (j, le, inl e) =
        subst (λ m. is_name_in m (none_name (suc (length ds)) ∷ one_name (suc (length ds)) ∷ []) ≡ false) e
        (or_false (same_name (none_name j) (none_name (suc (length ds)))) _
        (numbered_apart (codes "wb_none_") j (suc (length ds)) (omega (arith, le, few)) few (λ q. absurd (omega (arith, q, le)))) refl)
    earlier n (j, le, inr e) =
        subst (λ m. is_name_in m (none_name (suc (length ds)) ∷ one_name (suc (length ds)) ∷ []) ≡ false) e
        (or_false (same_name (one_name j) (none_name (suc (length ds)))) _ refl
        (or_false (same_name (one_name j) (one_name (suc (length ds)))) false
        (numbered_apart (codes "wb_one_") j (suc (length ds)) (omega (arith, le, few)) few (λ q. absurd (omega (arith, q, le)))) refl))

-- ---- wires of different kinds

-- a wire of a node is none of a decode condition
pub node_not_decode : (j most : ℕ) (n k : Name) → IsOfNode j n → IsDecodeName most k → same_name n k ≡ false
node_not_decode j most n k (inl e) (i, le, inl f) = subst (λ x. same_name x k ≡ false) e (subst (λ x. same_name (wire_name_of j) x ≡ false) f refl)
node_not_decode j most n k (inl e) (i, le, inr f) = subst (λ x. same_name x k ≡ false) e (subst (λ x. same_name (wire_name_of j) x ≡ false) f refl)
node_not_decode j most n k (inr (h, less, e)) (i, le, inl f) = subst (λ x. same_name x k ≡ false) e (subst (λ x. same_name (word_name j h) x ≡ false) f refl)
node_not_decode j most n k (inr (h, less, e)) (i, le, inr f) = subst (λ x. same_name x k ≡ false) e (subst (λ x. same_name (word_name j h) x ≡ false) f refl)

-- and none of an update of a memory
pub node_not_way : (us : List MemoryUpdate) (j : ℕ) (n k : Name) → IsOfNode j n → IsWayName us k → same_name n k ≡ false
node_not_way us j n k (inl e) (u, at, (i, less, f)) = subst (λ x. same_name x k ≡ false) e (subst (λ x. same_name (wire_name_of j) x ≡ false) f refl)
node_not_way us j n k (inr (h, more, e)) (u, at, (i, less, f)) =
    subst (λ x. same_name x k ≡ false) e (subst (λ x. same_name (word_name j h) x ≡ false) f refl)

pub decode_not_way : (us : List MemoryUpdate) (most : ℕ) (n k : Name) → IsDecodeName most n → IsWayName us k → same_name n k ≡ false
decode_not_way us most n k (i, le, inl e) (u, at, (j, less, f)) = subst (λ x. same_name x k ≡ false) e (subst (λ x. same_name (none_name i) x ≡ false) f refl)
decode_not_way us most n k (i, le, inr e) (u, at, (j, less, f)) = subst (λ x. same_name x k ≡ false) e (subst (λ x. same_name (one_name i) x ≡ false) f refl)

-- ---- wires of nodes

-- the wires of a node that has some
abbrev pub wires_of : Graph → ℕ → Node → List Wire
wires_of g k n = words_for g k n ++ wire_for g k n ∷ []

pub wire_kept : (g : Graph) (keep : ℕ → Bool) (ns : List Node) (from k : ℕ) (w : Wire) → k < length ns → keep (from + k) ≡ true
    → has_wire g (from + k) (get_or ns k (Truth false)) ≡ true → Among w (wires_of g (from + k) (get_or ns k (Truth false)))
    → Among w (node_wires g keep from ns)
wire_kept g keep [] from k w low kept wired at = absurd (omega (arith, low))
wire_kept g keep (n ∷ ns) from zero w low kept wired at =
    subst (λ b. Among w (cond b (wires_of g from n) [] ++ node_wires g keep (suc from) ns))
    (sym (ap (λ b. b && has_wire g from n) (subst (λ i. keep i ≡ true) (none_more from) kept) ∙ subst (λ i. has_wire g i n ≡ true) (none_more from) wired))
    (among_left w (wires_of g from n) (node_wires g keep (suc from) ns) (subst (λ i. Among w (wires_of g i n)) (none_more from) at))
  where
    none_more : (i : ℕ) → i + 0 ≡ i
    none_more i = omega arith
wire_kept g keep (n ∷ ns) from (suc k) w low kept wired at =
    among_right w (cond (keep from && has_wire g from n) (wires_of g from n) []) (node_wires g keep (suc from) ns)
    (wire_kept g keep ns (suc from) k w (omega (arith, low)) (subst (λ i. keep i ≡ true) (sym (one_more from k)) kept)
    (subst (λ i. has_wire g i (get_or ns k (Truth false)) ≡ true) (sym (one_more from k)) wired)
    (subst (λ i. Among w (wires_of g i (get_or ns k (Truth false)))) (sym (one_more from k)) at))
  where
    one_more : (i j : ℕ) → suc i + j ≡ i + suc j
    one_more i j = omega arith

pub word_wire_there : (g : Graph) (l : ℕ) (e : Expression) (m b k : ℕ) → k < b → has_part g m k ≡ true → Among (word_wire g l e k) (word_wires g l e m b)
word_wire_there g l e m zero k low part = absurd (omega (arith, low))
word_wire_there g l e m (suc b) k low part = by_place (cases_eq k b) (word_wire_there g l e m b k)
  where
    before : (k ≡ b → ⊥) → k < b
    before other = omega (arith, low, other)

    by_place : (k ≡ b) ⊎ (k ≡ b → ⊥) → (k < b → has_part g m k ≡ true → Among (word_wire g l e k) (word_wires g l e m b))
        → Among (word_wire g l e k) (word_wires g l e m b ++ cond (has_part g m b) (word_wire g l e b ∷ []) [])
    by_place (inl same) more =
        among_right (word_wire g l e k) (word_wires g l e m b) (cond (has_part g m b) (word_wire g l e b ∷ []) [])
        (subst (λ i. Among (word_wire g l e k) (cond (has_part g m i) (word_wire g l e i ∷ []) [])) same
        (subst (λ t. Among (word_wire g l e k) (cond t (word_wire g l e k ∷ []) [])) (sym part) (inl refl)))
    by_place (inr other) more =
        among_left (word_wire g l e k) (word_wires g l e m b) (cond (has_part g m b) (word_wire g l e b ∷ []) []) (more (before other) part)

-- ---- wires of updates of memories

pub via_wire_there : (g : Graph) (u : MemoryUpdate) (b k : ℕ) → k < b → has_part g u.term k ≡ true → Among (via_wire g u k) (via_wires g u b)
via_wire_there g u zero k low part = absurd (omega (arith, low))
via_wire_there g u (suc b) k low part = by_place (cases_eq k b) (via_wire_there g u b k)
  where
    before : (k ≡ b → ⊥) → k < b
    before other = omega (arith, low, other)

    by_place : (k ≡ b) ⊎ (k ≡ b → ⊥) → (k < b → has_part g u.term k ≡ true → Among (via_wire g u k) (via_wires g u b))
        → Among (via_wire g u k) (cond (has_part g u.term b) (via_wire g u b ∷ []) [] ++ via_wires g u b)
    by_place (inl same) more =
        among_left (via_wire g u k) (cond (has_part g u.term b) (via_wire g u b ∷ []) []) (via_wires g u b)
        (subst (λ i. Among (via_wire g u k) (cond (has_part g u.term i) (via_wire g u i ∷ []) [])) same
        (subst (λ t. Among (via_wire g u k) (cond t (via_wire g u k ∷ []) [])) (sym part) (inl refl)))
    by_place (inr other) more =
        among_right (via_wire g u k) (cond (has_part g u.term b) (via_wire g u b ∷ []) []) (via_wires g u b) (more (before other) part)

pub way_there : (g : Graph) (us : List MemoryUpdate) (u : MemoryUpdate) (w : Wire) → Among u us → Among w (via_wires g u (suc u.term)) → Among w (all_ways g us)
way_there g [] u w at there = absurd at
way_there g (x ∷ us) u w (inl e) there =
    among_left w (via_wires g x (suc x.term)) (all_ways g us) (subst (λ (y : MemoryUpdate). Among w (via_wires g y (suc y.term))) (sym e) there)
way_there g (x ∷ us) u w (inr at) there = among_right w (via_wires g x (suc x.term)) (all_ways g us) (way_there g us u w at there)
