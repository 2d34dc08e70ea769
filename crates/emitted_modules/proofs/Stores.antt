-- What stores leave in memories.
use Rattle.std.proofs.Common.{◌≡◌, ℕ, ◌-◌, ◌^◌, ◌/◌, Bool, true, false, cond, inl, inr, List, [], ◌∷◌, ◌++◌, refl, ◌∙◌, ap, zero, suc, ◌&&◌, ◌==◌, ◌⊎◌, Option, Some, None, sym, append_assoc}
use Rattle.std.specs.Prelude.{slice_index, slice_set, is_some, option_and_then}
use Rattle.wb_values.specs.Value.{Name, same_name, Value, words, as_words, Valuation, Sort, truth, word, memory}
use Rattle.verilog_trees.specs.Syntax.{one, index, place}
use Rattle.verilog_meaning.specs.Expression.{Scope, object_width, is_memory, no_values, word_number, select_index, select_bits, assigned_value}
use Rattle.verilog_meaning.specs.Statement.{Place, word_cell, variable_cell, cell_at, indexed_cell, all_bits, written, written_cell, with_update, with_updates, with_bits_from, target_width}
use Rattle.term_expressions.specs.Expressions.{IsWorth}
use Rattle.term_expressions.specs.Laws.{IsMemory}
use Rattle.term_expressions.proofs.Names.{within, index_is}
use Rattle.term_expressions.proofs.Shifts.{standing_is_assigned}
use Rattle.term_expressions.proofs.Assigned.{all_replaced}
use Rattle.emitted_designs.proofs.Named.{same_of}
use Rattle.emitted_modules.specs.Rtl.{Stored}
use Rattle.emitted_modules.proofs.Names.{Among, among_either}
use Rattle.emitted_modules.proofs.Words.{IsMemoryOf}
use Rattle.emitted_modules.proofs.Running.{store_update, meets, stores_by}
use Rattle.std.proofs.lemmas.Bool.{and_parts}
use Rattle.wb_values.specs.Choice.{some_if}
use Rattle.model_meaning.specs.Term.{store_sort, ite_sort}
use Rattle.wb_terms.specs.declared.nodes.Node.{Node}
use Rattle.wb_terms.specs.declared.nodes.Node.TheVariants.{Store}
use Rattle.wb_terms.specs.Graph.{Graph}
use Rattle.emitted_modules.specs.Nodes.{node_at, has_part}
use Rattle.emitted_modules.specs.Stores.{MemoryUpdate, stores_at, stores_of}
use Rattle.emitted_modules.proofs.Edge.{updates_joined}
use Rattle.emitted_modules.proofs.Computed.{same_number}

module _ (s : Scope) (v : Valuation) where
  abbrev word_place : Stored → ℕ → Place
  word_place w i = record { of_name = w.memory_name; cell = word_cell i; bits = all_bits (s w.memory_name) }

  abbrev memory_place : Stored → Place
  memory_place w = record {
    of_name = w.memory_name;
    cell = indexed_cell (s w.memory_name) (select_index s v (index w.address));
    bits = all_bits (s w.memory_name);
  }

  abbrev bit_place : Stored → Place
  bit_place w = record { of_name = w.memory_name; cell = variable_cell; bits = select_bits s v (s w.memory_name) (index w.address) }

  place_is : (w : Stored) (a d i : ℕ) → IsMemory s w.memory_name a d → IsWorth s v w.address a i
      → cond (is_memory (s w.memory_name)) (memory_place w) (bit_place w) ≡ word_place w i
  place_is w a d i mem at =
      ap (λ b. cond b (memory_place w) (bit_place w)) (ap is_some mem.addresses)
      ∙ ap (λ c. record { of_name = w.memory_name; cell = c; bits = all_bits (s w.memory_name) })
      (ap (λ o. cell_at (option_and_then (λ b. word_number b (select_index s v (index w.address))) o)) mem.addresses
      ∙ (ap (λ j. cell_at (word_number (0, 2 ^ a - 1) j)) (index_is s v w.address a i at) ∙ ap cell_at (within a i at.fits)))

  value_is : (w : Stored) (a d x : ℕ) → IsMemory s w.memory_name a d → IsWorth s v w.value d x
      → assigned_value s v (target_width s (place w.memory_name (one (index w.address)))) w.value ≡ x
  value_is w a d x mem worth =
      ap (λ b. assigned_value s v (cond b (object_width (s w.memory_name)) (select_bits s no_values (s w.memory_name) (index w.address)).count) w.value)
      (ap is_some mem.addresses)
      ∙ (ap (λ u. assigned_value s v u w.value) mem.width ∙ standing_is_assigned s v w.value d x worth)

  pub store_made : (z : Valuation) (w : Stored) (a d i x : ℕ) (ws : List ℕ) → IsMemory s w.memory_name a d → IsWorth s v w.address a i
      → IsWorth s v w.value d x → z w.memory_name ≡ words ws → IsMemoryOf a d ws
      → with_update s z (store_update s v w) w.memory_name ≡ words (slice_set ws i x)
  store_made z w a d i x ws mem at worth held narrow =
      ap
      (λ p. written s z (p ∷ []) (assigned_value s v (target_width s (place w.memory_name (one (index w.address)))) w.value) w.memory_name)
      (place_is w a d i mem at)
      ∙ (ap (λ y. written s z (word_place w i ∷ []) y w.memory_name) (value_is w a d x mem worth)
      ∙ (ap (λ b. cond b (after (object_width (s w.memory_name)) (z w.memory_name)) (z w.memory_name)) (same_of w.memory_name w.memory_name refl)
      ∙ (ap (λ u. after u (z w.memory_name)) mem.width
      ∙ (ap (λ y. after d y) held
      ∙ ap (λ y. words (slice_set ws i y)) (all_replaced d (slice_index ws i) x (narrow.narrow i) worth.fits)))))
    where
      after : ℕ → Value → Value
      after u y = words (slice_set (as_words y) i (with_bits_from u (slice_index (as_words y) i) 0 u (x / 2 ^ 0)))

  -- a store to another memory
  store_left : (z : Valuation) (w : Stored) (n : Name) → same_name w.memory_name n ≡ false → with_update s z (store_update s v w) n ≡ z n
  store_left z w n other = by_test (is_memory (s w.memory_name))
    where
      value : ℕ
      value = assigned_value s v (target_width s (place w.memory_name (one (index w.address)))) w.value

      left : (p : Place) → p.of_name ≡ w.memory_name → written s z (p ∷ []) value n ≡ z n
      left p e =
          ap (λ b. cond b (written_cell (s p.of_name) (z p.of_name) p.cell p.bits (value / 2 ^ 0)) (z n)) (ap (λ k. same_name k n) e ∙ other)

      by_test : (b : Bool) → written s z (cond b (memory_place w) (bit_place w) ∷ []) value n ≡ z n
      by_test true = left (memory_place w) refl
      by_test false = left (bit_place w) refl

  pub stores_leave : (z : Valuation) (ws : List Stored) (n : Name) → ((w : Stored) → Among w ws → same_name w.memory_name n ≡ false)
      → with_updates s z (stores_by s v ws) n ≡ z n
  stores_leave z [] n h = refl
  stores_leave z (w ∷ ws) n h = by_test (meets s v w.condition) (λ y. stores_leave y ws n (λ x at. h x (inr at)))
    where
      by_test : (b : Bool) → ((y : Valuation) → with_updates s y (stores_by s v ws) n ≡ y n)
          → with_updates s z (cond b (store_update s v w ∷ []) [] ++ stores_by s v ws) n ≡ z n
      by_test true more = more (with_update s z (store_update s v w)) ∙ store_left z w n (h w (inl refl))
      by_test false more = more z

-- ---- the names of stores

named_at : (g : Graph) (u : MemoryUpdate) (k : ℕ) (n : Node) (w : Stored) → Among w (stores_at g u k n) → w.memory_name ≡ u.memory_name
named_at g u k (Store m i x) w (inl e) = ap (λ (z : Stored). z.memory_name) (sym e)
named_at g u k (Store m i x) w (inr h) = absurd h
named_at g u k _ w h = absurd h

pub stores_named : (g : Graph) (u : MemoryUpdate) (n : ℕ) (w : Stored) → Among w (stores_of g u n) → w.memory_name ≡ u.memory_name
stores_named g u zero w h = absurd h
stores_named g u (suc k) w h =
    by_place (has_part g u.term k) (stores_named g u k w)
    (among_either w (stores_of g u k) (cond (has_part g u.term k) (stores_at g u k (node_at g k)) []) h)
  where
    by_place : (b : Bool) → (Among w (stores_of g u k) → w.memory_name ≡ u.memory_name)
        → Among w (stores_of g u k) ⊎ Among w (cond b (stores_at g u k (node_at g k)) []) → w.memory_name ≡ u.memory_name
    by_place b more (inl at) = more at
    by_place true more (inr at) = named_at g u k (node_at g k) w at
    by_place false more (inr at) = absurd at

-- ---- sorts

pub store_sorts : (o i x : Option Sort) (a d : ℕ) → store_sort o i x ≡ Some (memory a d)
    → (o ≡ Some (memory a d)) × (i ≡ Some (word a)) × (x ≡ Some (word d))
store_sorts (Some (memory k l)) (Some (word w)) (Some (word u)) a d e = by_test ((w == k) && (u == l)) refl e
  where
    by_test : (b : Bool) → ((w == k) && (u == l)) ≡ b → some_if b (memory k l) ≡ Some (memory a d)
        → (Some (memory k l) ≡ Some (memory a d)) × (Some (word w) ≡ Some (word a)) × (Some (word u) ≡ Some (word d))
    by_test false t f = cc
    by_test true t f =
        let parts = and_parts (w == k) (u == l) t in
        let p : k ≡ w = same_number w k parts.0 in
        let q : l ≡ u = same_number u l parts.1 in
        let ka : k ≡ a = cc in
        let ld : l ≡ d = cc in
        (f, ap (λ j. Some (word j)) (sym p ∙ ka), ap (λ j. Some (word j)) (sym q ∙ ld))
store_sorts _ _ _ a d e = cc

pub ite_sorts : (o i x : Option Sort) (a d : ℕ) → ite_sort o i x ≡ Some (memory a d) → (o ≡ Some truth) × (i ≡ Some (memory a d)) × (x ≡ Some (memory a d))
ite_sorts (Some truth) (Some (memory k l)) (Some (memory p q)) a d e = by_test ((k == p) && (l == q)) refl e
  where
    by_test : (b : Bool) → ((k == p) && (l == q)) ≡ b → some_if b (memory k l) ≡ Some (memory a d)
        → (Some truth ≡ Some truth) × (Some (memory k l) ≡ Some (memory a d)) × (Some (memory p q) ≡ Some (memory a d))
    by_test false t f = cc
    by_test true t f =
        let parts = and_parts (k == p) (l == q) t in
        let kp : p ≡ k = same_number k p parts.0 in
        let lq : q ≡ l = same_number l q parts.1 in
        (refl, f, ap (λ j. Some (memory j q)) kp ∙ (ap (λ j. Some (memory k j)) lq ∙ f))
ite_sorts (Some truth) (Some (word w)) (Some (word u)) a d e = by_test (w == u) e
  where
    by_test : (b : Bool) → some_if b (word w) ≡ Some (memory a d)
        → (Some truth ≡ Some truth) × (Some (word w) ≡ Some (memory a d)) × (Some (word u) ≡ Some (memory a d))
    by_test false f = cc
    by_test true f = cc
ite_sorts (Some truth) (Some truth) (Some truth) a d e = cc
ite_sorts (Some truth) (Some truth) (Some (word u)) a d e = cc
ite_sorts (Some truth) (Some truth) (Some (memory p q)) a d e = cc
ite_sorts (Some truth) (Some truth) None a d e = cc
ite_sorts (Some truth) (Some (word w)) (Some truth) a d e = cc
ite_sorts (Some truth) (Some (word w)) (Some (memory p q)) a d e = cc
ite_sorts (Some truth) (Some (word w)) None a d e = cc
ite_sorts (Some truth) (Some (memory k l)) (Some truth) a d e = cc
ite_sorts (Some truth) (Some (memory k l)) (Some (word u)) a d e = cc
ite_sorts (Some truth) (Some (memory k l)) None a d e = cc
ite_sorts _ _ _ a d e = cc

-- ---- lists of stores

pub stores_joined : (s : Scope) (v : Valuation) (xs ys : List Stored) → stores_by s v (xs ++ ys) ≡ stores_by s v xs ++ stores_by s v ys
stores_joined s v [] ys = refl
stores_joined s v (x ∷ xs) ys =
    ap (λ us. cond (meets s v x.condition) (store_update s v x ∷ []) [] ++ us) (stores_joined s v xs ys)
    ∙ sym (append_assoc (cond (meets s v x.condition) (store_update s v x ∷ []) []) (stores_by s v xs) (stores_by s v ys))

pub after_both : (s : Scope) (v z : Valuation) (xs ys : List Stored) (n : Name)
    → with_updates s z (stores_by s v (xs ++ ys)) n ≡ with_updates s (with_updates s z (stores_by s v xs)) (stores_by s v ys) n
after_both s v z xs ys n =
    ap (λ us. with_updates s z us n) (stores_joined s v xs ys) ∙ ap (λ (u : Valuation). u n) (updates_joined s z (stores_by s v xs) (stores_by s v ys))
