-- What an assignment tells of a store with a name for each word of each memory, it tells of the memories.
use Rattle.std.proofs.Common.{◌≡◌, ◌∙◌, ℕ, zero, suc, ◌+◌, ◌-◌, ◌^◌, ◌<◌, ◌≤◌, Bool, true, false, cond, List, [], length, map, get_or, Option, Some, None, Contains, ◌⊎◌, arith, refl, sym, ap, subst, inl, inr}
use Rattle.std.specs.Prelude.{nat_lt, IsTrue, is_some}
use Rattle.std.proofs.lemmas.List.{get_or_append_left, length-append, length-map}
use Rattle.std.proofs.lemmas.List.Elements.{Contains-get_or}
use Rattle.std.proofs.lemmas.Bool.{cases_lt, lt-ltb, false≢true}
use Rattle.std.proofs.lemmas.Bool.Decides.{nat_tests}
use Rattle.wb_values.specs.Value.{Name, Sort, truth, word, memory, numeral_of, Entries, Valuation, HasSort}
use Rattle.reports.specs.Encoding.{word_of, Write}
use Rattle.sat_base.specs.Formula.{variable_value}
use Rattle.wb_terms.specs.Graph.{Graph, tree, HasDistinctNames}
use Rattle.sat_gates.specs.Names.{names_in, is_blastable}
use Rattle.sat_gates.specs.Encodes as gates
use Rattle.sat_gates.specs.Encodes.{Writes}
use Rattle.sat_gates.specs.Layout.{variables_of_sort, variables_of, IsNumbered}
use Rattle.sat_gates.proofs.Layouts.{IsBitSort, look, laid_count}
use Rattle.sat_gates.proofs.Encoding.{bit_names}
use Rattle.ob_mem.specs.declared.words.MemoryWord.{MemoryWord}
use Rattle.ob_mem.specs.Words.{word_count, word_width, word_at, words_of, starts_of, entry_at, entry_of_word, HasWords}
use Rattle.ob_mem.specs.Spread.{GivesSorts, KeepsValue, IsSpread}
use Rattle.ob_mem.proofs.Wording.{word_stands, word_of_memory, in_order, IsNamed, word_named}
use Rattle.obligation_check.specs.Bits.{variables_of_word, variables_at}
use Rattle.obligation_check.proofs.Written.{numbers_from, bits_from, no_bits, word_zero, kept_value, memory_word_of}

-- the variables of each name of a table write its value
abbrev pub Told : List (Option ℕ) → Entries Sort → List Bool → Valuation → Type 0
Told fs new a w = (j : ℕ) → j < length new → Write a (variables_of_sort (entry_at new j).1 (get_or fs j None)) (numeral_of (w (entry_at new j).0))

-- those of each name of a table, and of the words of its memories, write them
abbrev pub Agree : List (Option ℕ) → Entries Sort → List Bool → Valuation → Type 0
Agree fs es a v = (j k : ℕ) → j < length es → Write a (variables_at fs es j k) (word_of (v (entry_at es j).0) k)

below : (a b : ℕ) → nat_lt a b ≡ true → a < b
below a b e = grind (arith, nat_tests)

-- what holds of the variables of each name, and of no variables, holds of those of each word
pub each_at : (es new : Entries Sort) (fs : List (Option ℕ)) → HasWords es new (words_of 0 (length es) es) → (P : List ℕ → Type 0) → P []
    → ((j : ℕ) → j < length new → P (variables_of_sort (entry_at new j).1 (get_or fs j None))) → (j k : ℕ) → j < length es → P (variables_at fs es j k)
each_at es new fs words' P none each j k b = by_sort (entry_at es j).1 refl k
  where
    start : ℕ
    start = get_or (starts_of (length es) es) j 0

    longer : length es ≤ length new
    longer = omega (arith, ap length words'.names, length-append es (map (entry_of_word words'.marks es) (words_of 0 (length es) es)))

    here : (t : Sort) → (entry_at es j).1 ≡ t → P (variables_of_sort t (get_or fs j None))
    here t e =
        let same : entry_at new j ≡ entry_at es j =
        ap (λ xs. entry_at xs j) words'.names ∙ get_or_append_left es (map (entry_of_word words'.marks es) (words_of 0 (length es) es)) ([], truth) j b in
        subst (λ q. P (variables_of_sort q (get_or fs j None))) (ap (λ (x : Name × Sort). x.1) same ∙ e) (each j (omega (arith, b, longer)))

    by_test : (p d k : ℕ) → (entry_at es j).1 ≡ memory p d → (t : Bool) → nat_lt k (2 ^ p) ≡ t → P (cond t (variables_of_sort (word d) (get_or fs (start + k) None)) [])
    by_test p d k e false q = none
    by_test p d k e true q =
        let l : k < word_count (entry_at es j).1 = subst (λ t. k < word_count t) (sym e) (below k (2 ^ p) q) in
        let z : 0 + j ≡ j = omega arith in
        let c : Contains (words_of 0 (length es) es) (word_at j start k) = subst (λ m. Contains (words_of 0 (length es) es) (word_at m start k)) z (word_stands 0 (length es) es j k b l) in
        let n = word_named words'.marks es new (words_of 0 (length es) es) (word_at j start k) words'.names refl c in
        subst (λ q. P (variables_of_sort q (get_or fs (start + k) None))) (ap (λ (x : Name × Sort). x.1) n.entry ∙ ap (λ t. word (word_width t)) e) (each (start + k) n.below)

    by_sort : (t : Sort) → (entry_at es j).1 ≡ t → (k : ℕ) → P (variables_of_word fs t j start k)
    by_sort truth e zero = here truth e
    by_sort truth e (suc k) = none
    by_sort (word d) e zero = here (word d) e
    by_sort (word d) e (suc k) = none
    by_sort (memory p d) e k = by_test p d k e (nat_lt k (2 ^ p)) refl

no_variables : (p d : ℕ) (o : Option ℕ) → variables_of_sort (memory p d) o ≡ []
no_variables p d None = refl
no_variables p d (Some f) = refl

-- and back: what holds of those of each word holds of those of each name
pub each_back : (es new : Entries Sort) (fs : List (Option ℕ)) → HasWords es new (words_of 0 (length es) es) → (P : List ℕ → Type 0) → P []
    → ((j k : ℕ) → j < length es → P (variables_at fs es j k)) → (j : ℕ) → j < length new → P (variables_of_sort (entry_at new j).1 (get_or fs j None))
each_back es new fs words' P none each j b = by_place (cases_lt j (length es))
  where
    ws : List MemoryWord
    ws = words_of 0 (length es) es

    start : ℕ → ℕ
    start m = get_or (starts_of (length es) es) m 0

    old : j < length es → P (variables_of_sort (entry_at new j).1 (get_or fs j None))
    old l =
        let same : entry_at new j ≡ entry_at es j = ap (λ xs. entry_at xs j) words'.names ∙ get_or_append_left es (map (entry_of_word words'.marks es) ws) ([], truth) j l in
        subst (λ (q : Name × Sort). P (variables_of_sort q.1 (get_or fs j None))) (sym same) (by_sort (entry_at es j).1 (each j 0 l))
      where
        by_sort : (t : Sort) → P (variables_of_word fs t j (start j) 0) → P (variables_of_sort t (get_or fs j None))
        by_sort truth h = h
        by_sort (word d) h = h
        by_sort (memory p d) h = subst P (sym (no_variables p d (get_or fs j None))) none

    by_test : (d m n address : ℕ) → n ≡ start m + address → (t : Bool) → t ≡ true → P (cond t (variables_of_sort (word d) (get_or fs (start m + address) None)) [])
        → P (variables_of_sort (word d) (get_or fs n None))
    by_test d m n address own false q h = absurd (false≢true q)
    by_test d m n address own true q h = subst (λ k. P (variables_of_sort (word d) (get_or fs k None))) (sym own) h

    by_memory : (t : Sort) (m n address : ℕ) → n ≡ start m + address → address < word_count t → P (variables_of_word fs t m (start m) address)
        → P (variables_of_sort (word (word_width t)) (get_or fs n None))
    by_memory truth m n address own l h = absurd (omega (arith, l))
    by_memory (word d) m n address own l h = absurd (omega (arith, l))
    by_memory (memory p d) m n address own l h = by_test d m n address own (nat_lt address (2 ^ p)) (lt-ltb address (2 ^ p) l) h

    of_word : (r : MemoryWord) → Contains ws r → P (variables_of_sort (entry_at new r.name.0).1 (get_or fs r.name.0 None))
    of_word r c =
        let o = word_of_memory 0 (length es) es r c in
        let z : 0 + o.place ≡ o.place = omega arith in
        let place : r.memory.0 ≡ o.place = ap (λ (x : MemoryWord). x.memory.0) o.is ∙ z in
        let own : r.name.0 ≡ start o.place + r.address = ap (λ (x : MemoryWord). x.name.0) o.is in
        let n = word_named words'.marks es new ws r words'.names refl c in
        let sort : (entry_at new r.name.0).1 ≡ word (word_width (entry_at es o.place).1) =
        ap (λ (x : Name × Sort). x.1) n.entry ∙ ap (λ k. word (word_width (entry_at es k).1)) place in
        subst (λ t. P (variables_of_sort t (get_or fs r.name.0 None))) (sym sort)
        (by_memory (entry_at es o.place).1 o.place r.name.0 r.address own o.address (each o.place r.address o.below))

    by_place : (j < length es) ⊎ (length es ≤ j) → P (variables_of_sort (entry_at new j).1 (get_or fs j None))
    by_place (inl l) = old l
    by_place (inr l) =
        let d : MemoryWord = word_at 0 0 0 in
        let q = j - length es in
        let count : q < length ws =
        omega (arith, l, b, ap length words'.names, length-append es (map (entry_of_word words'.marks es) ws), length-map ws (entry_of_word words'.marks es)) in
        let own : (get_or ws q d).name.0 ≡ j = in_order 0 (length es) es q d count ∙ omega (arith, l) in
        subst (λ k. P (variables_of_sort (entry_at new k).1 (get_or fs k None))) own (of_word (get_or ws q d) (Contains-get_or ws q d count))

module _ (es new : Entries Sort) (fs : List (Option ℕ)) (a : List Bool) (v w : Valuation) (words' : HasWords es new (words_of 0 (length es) es))
    (spread : IsSpread es new (words_of 0 (length es) es) v w) where
  abbrev rs : List MemoryWord
  rs = words_of 0 (length es) es

  abbrev start : ℕ → ℕ
  start j = get_or (starts_of (length es) es) j 0

  same_entry : (j : ℕ) → j < length es → entry_at new j ≡ entry_at es j
  same_entry j b = ap (λ xs. entry_at xs j) words'.names ∙ get_or_append_left es (map (entry_of_word words'.marks es) rs) ([], truth) j b

  longer : length es ≤ length new
  longer = omega (arith, ap length words'.names, length-append es (map (entry_of_word words'.marks es) rs))

  -- word k of the memory at a place stands in the list
  stands : (j k : ℕ) → j < length es → k < word_count (entry_at es j).1 → Contains rs (word_at j (start j) k)
  stands j k b l =
      let z : 0 + j ≡ j = omega arith in
      subst (λ p. Contains rs (word_at p (start j) k)) z (word_stands 0 (length es) es j k b l)

  named : (r : MemoryWord) → Contains rs r → IsNamed words'.marks es new r
  named r c = word_named words'.marks es new rs r words'.names refl c

  -- where a word's name stands its variables are those of the memory's words
  word_told : (r : MemoryWord) → Contains rs r → (p d : ℕ) → (entry_at es r.memory.0).1 ≡ memory p d → r.memory.0 < length es
      → (Write a (variables_of_sort (entry_at new r.name.0).1 (get_or fs r.name.0 None)) (numeral_of (w (entry_at new r.name.0).0))
      ≡ Write a (variables_of_sort (word d) (get_or fs r.name.0 None)) (word_of (v (entry_at es r.memory.0).0) r.address))
  word_told r c p d e b =
      let n = named r c in
      let sort : (entry_at new r.name.0).1 ≡ word d = ap (λ (x : Name × Sort). x.1) n.entry ∙ ap (λ t. word (word_width t)) e in
      let x = v (entry_at es r.memory.0).0 in
      let fits : HasSort x (memory p d) = subst (HasSort x) e (spread.sorts r.memory.0 b) in
      let value : numeral_of (w (entry_at new r.name.0).0) ≡ word_of x r.address =
      ap numeral_of (spread.words r c) ∙ sym (memory_word_of p d x r.address fits) in
      λ i. Write a (variables_of_sort (sort i) (get_or fs r.name.0 None)) (value i)

  -- a name that is no memory has its value
  same_value : (j : ℕ) → j < length es → (t : Sort) → (entry_at es j).1 ≡ t → IsBitSort t → numeral_of (w (entry_at es j).0) ≡ word_of (v (entry_at es j).0) 0
  same_value j b t e i =
      let x = v (entry_at es j).0 in
      let y = w (entry_at es j).0 in
      ap numeral_of (kept_value t x y i (subst (λ q. KeepsValue q x y) e (spread.kept j b))) ∙ sym (word_zero t x i (subst (HasSort x) e (spread.sorts j b)))

  pub told_agree : Told fs new a w → Agree fs es a v
  told_agree told j k b = by_sort (entry_at es j).1 refl k
    where
      bit : (t : Sort) → (entry_at es j).1 ≡ t → IsBitSort t → Write a (variables_of_sort t (get_or fs j None)) (word_of (v (entry_at es j).0) 0)
      bit t e i =
          let here : Write a (variables_of_sort (entry_at es j).1 (get_or fs j None)) (numeral_of (w (entry_at es j).0)) =
          subst (λ (q : Name × Sort). Write a (variables_of_sort q.1 (get_or fs j None)) (numeral_of (w q.0))) (same_entry j b) (told j (omega (arith, b, longer))) in
          subst (λ y. Write a (variables_of_sort t (get_or fs j None)) y) (same_value j b t e i)
          (subst (λ q. Write a (variables_of_sort q (get_or fs j None)) (numeral_of (w (entry_at es j).0))) e here)

      by_test : (p d k : ℕ) → (entry_at es j).1 ≡ memory p d → (t : Bool) → nat_lt k (2 ^ p) ≡ t
          → Write a (cond t (variables_of_sort (word d) (get_or fs (start j + k) None)) []) (word_of (v (entry_at es j).0) k)
      by_test p d k e false q = tt
      by_test p d k e true q =
          let l : k < word_count (entry_at es j).1 = subst (λ t. k < word_count t) (sym e) (below k (2 ^ p) q) in
          let c : Contains rs (word_at j (start j) k) = stands j k b l in
          let n = named (word_at j (start j) k) c in
          subst (λ (t : Type 0). t) (word_told (word_at j (start j) k) c p d e b) (told (start j + k) n.below)

      by_sort : (t : Sort) → (entry_at es j).1 ≡ t → (k : ℕ) → Write a (variables_of_word fs t j (start j) k) (word_of (v (entry_at es j).0) k)
      by_sort truth e zero = bit truth e tt
      by_sort truth e (suc k) = tt
      by_sort (word d) e zero = bit (word d) e tt
      by_sort (word d) e (suc k) = tt
      by_sort (memory p d) e k = by_test p d k e (nat_lt k (2 ^ p)) refl

  abbrev IsTold : ℕ → Type 0
  IsTold j = Write a (variables_of_sort (entry_at new j).1 (get_or fs j None)) (numeral_of (w (entry_at new j).0))

  -- of a name of the old table
  old_told : Agree fs es a v → (j : ℕ) → j < length es → IsTold j
  old_told agree j b =
      subst (λ (q : Name × Sort). Write a (variables_of_sort q.1 (get_or fs j None)) (numeral_of (w q.0))) (sym (same_entry j b))
      (by_sort (entry_at es j).1 refl (agree j 0 b))
    where
      by_sort : (t : Sort) → (entry_at es j).1 ≡ t → Write a (variables_of_word fs t j (start j) 0) (word_of (v (entry_at es j).0) 0)
          → Write a (variables_of_sort (entry_at es j).1 (get_or fs j None)) (numeral_of (w (entry_at es j).0))
      by_sort truth e h =
          subst (λ t. Write a (variables_of_sort t (get_or fs j None)) (numeral_of (w (entry_at es j).0))) (sym e)
          (subst (λ y. Write a (variables_of_sort truth (get_or fs j None)) y) (sym (same_value j b truth e tt)) h)
      by_sort (word d) e h =
          subst (λ t. Write a (variables_of_sort t (get_or fs j None)) (numeral_of (w (entry_at es j).0))) (sym e)
          (subst (λ y. Write a (variables_of_sort (word d) (get_or fs j None)) y) (sym (same_value j b (word d) e tt)) h)
      by_sort (memory p d) e h =
          subst (λ t. Write a (variables_of_sort t (get_or fs j None)) (numeral_of (w (entry_at es j).0))) (sym e)
          (no_bits p d (get_or fs j None) a (numeral_of (w (entry_at es j).0)))

  -- of the name of a word
  new_told : Agree fs es a v → (r : MemoryWord) → Contains rs r → IsTold r.name.0
  new_told agree r c =
      let o = word_of_memory 0 (length es) es r c in
      let z : 0 + o.place ≡ o.place = omega arith in
      let place : r.memory.0 ≡ o.place = ap (λ (x : MemoryWord). x.memory.0) o.is ∙ z in
      let own : r.name.0 ≡ start o.place + r.address = ap (λ (x : MemoryWord). x.name.0) o.is in
      by_sort (entry_at es o.place).1 refl o.place place own o.below o.address
    where
      by_test : (p d m : ℕ) → r.name.0 ≡ start m + r.address → (t : Bool) → nat_lt r.address (2 ^ p) ≡ t → r.address < 2 ^ p
          → Write a (cond t (variables_of_sort (word d) (get_or fs (start m + r.address) None)) []) (word_of (v (entry_at es m).0) r.address)
          → Write a (variables_of_sort (word d) (get_or fs r.name.0 None)) (word_of (v (entry_at es m).0) r.address)
      by_test p d m own false q l h = absurd (false≢true (sym q ∙ lt-ltb r.address (2 ^ p) l))
      by_test p d m own true q l h = subst (λ k. Write a (variables_of_sort (word d) (get_or fs k None)) (word_of (v (entry_at es m).0) r.address)) (sym own) h

      by_sort : (t : Sort) → {m : ℕ} → (entry_at es m).1 ≡ t → (n : ℕ) → r.memory.0 ≡ m → r.name.0 ≡ start m + r.address → m < length es → r.address < word_count t → IsTold r.name.0
      by_sort truth {m} e n place own b l = absurd (omega (arith, l))
      by_sort (word d) {m} e n place own b l = absurd (omega (arith, l))
      by_sort (memory p d) {m} e n place own b l =
          let mine : (entry_at es r.memory.0).1 ≡ memory p d = ap (λ k. (entry_at es k).1) place ∙ e in
          let there : Write a (variables_of_word fs (memory p d) m (start m) r.address) (word_of (v (entry_at es m).0) r.address) =
          subst (λ t. Write a (variables_of_word fs t m (start m) r.address) (word_of (v (entry_at es m).0) r.address)) e (agree m r.address b) in
          let told = by_test p d m own (nat_lt r.address (2 ^ p)) refl l there in
          subst (λ (t : Type 0). t) (sym (word_told r c p d mine (subst (λ k. k < length es) (sym place) b)))
          (subst (λ k. Write a (variables_of_sort (word d) (get_or fs r.name.0 None)) (word_of (v (entry_at es k).0) r.address)) (sym place) told)

  pub agree_told : Agree fs es a v → Told fs new a w
  agree_told agree j b = by_place (cases_lt j (length es))
    where
      by_place : (j < length es) ⊎ (length es ≤ j) → IsTold j
      by_place (inl l) = old_told agree j l
      by_place (inr l) =
          let d : MemoryWord = word_at 0 0 0 in
          let q = j - length es in
          let count : q < length rs =
          omega (arith, l, b, ap length words'.names, length-append es (map (entry_of_word words'.marks es) rs), length-map rs (entry_of_word words'.marks es)) in
          let own : (get_or rs q d).name.0 ≡ j = in_order 0 (length es) es q d count ∙ omega (arith, l) in
          subst IsTold own (new_told agree (get_or rs q d) (Contains-get_or rs q d count))

-- ---- names that stand in a term

module _ (g : Graph) (goal : ℕ) (fs : List (Option ℕ)) (vars : ℕ) (a : List Bool) (w : Valuation) (distinct : HasDistinctNames g.names)
    (numbered : IsNumbered g.names (names_in (tree g goal)) fs vars) where
  abbrev m : Name → List ℕ
  m = variables_of g.names fs

  at_entry : (j : ℕ) → j < length g.names → m (entry_at g.names j).0 ≡ variables_of_sort (entry_at g.names j).1 (get_or fs j None)
  at_entry j b = look g.names fs j distinct b (laid_count 0 g.names fs numbered.end numbered.laid_out)

  pub restricts_told : gates.RestrictsTo m a w (tree g goal) → Told fs g.names a w
  restricts_told h j b = by_first (get_or fs j None) refl
    where
      by_first : (o : Option ℕ) → get_or fs j None ≡ o → Write a (variables_of_sort (entry_at g.names j).1 o) (numeral_of (w (entry_at g.names j).0))
      by_first None e = tt
      by_first (Some f) e =
          let some : IsTrue (is_some (get_or fs j None)) = ap is_some e in
          let there : Contains (names_in (tree g goal)) (entry_at g.names j) = (numbered.stands j b).0 some in
          let writes : Writes (entry_at g.names j).1 (w (entry_at g.names j).0) (map (variable_value a) (m (entry_at g.names j).0)) =
          h (entry_at g.names j).0 (entry_at g.names j).1 there in
          let own : m (entry_at g.names j).0 ≡ variables_of_sort (entry_at g.names j).1 (Some f) = at_entry j b ∙ ap (variables_of_sort (entry_at g.names j).1) e in
          subst (λ vs. Write a vs (numeral_of (w (entry_at g.names j).0))) own
          (numbers_from (entry_at g.names j).1 (w (entry_at g.names j).0) a (m (entry_at g.names j).0) writes)

  pub told_restricts : is_blastable (tree g goal) ≡ true → GivesSorts g.names w → Told fs g.names a w → gates.RestrictsTo m a w (tree g goal)
  told_restricts blastable sorts told n s there =
      let u = numbered.declared n s there in
      let j = u.0 in
      let here : Contains (names_in (tree g goal)) (entry_at g.names j) = subst (Contains (names_in (tree g goal))) (sym u.2) there in
      let bit : IsBitSort (entry_at g.names j).1 = bit_names (tree g goal) blastable (entry_at g.names j).0 (entry_at g.names j).1 here in
      subst (λ (x : Name × Sort). Writes x.1 (w x.0) (map (variable_value a) (m x.0))) u.2
      (by_first j u.1 bit (get_or fs j None) refl ((numbered.stands j u.1).1 here))
    where
      by_first : (j : ℕ) → j < length g.names → IsBitSort (entry_at g.names j).1 → (o : Option ℕ) → get_or fs j None ≡ o → IsTrue (is_some o)
          → Writes (entry_at g.names j).1 (w (entry_at g.names j).0) (map (variable_value a) (m (entry_at g.names j).0))
      by_first j b bit None e some = absurd (false≢true some)
      by_first j b bit (Some f) e some =
          let own : m (entry_at g.names j).0 ≡ variables_of_sort (entry_at g.names j).1 (Some f) = at_entry j b ∙ ap (variables_of_sort (entry_at g.names j).1) e in
          subst (λ vs. Writes (entry_at g.names j).1 (w (entry_at g.names j).0) (map (variable_value a) vs)) (sym own)
          (bits_from (entry_at g.names j).1 (w (entry_at g.names j).0) a f bit (sorts j b)
          (subst (λ o. Write a (variables_of_sort (entry_at g.names j).1 o) (numeral_of (w (entry_at g.names j).0))) e (told j b)))
