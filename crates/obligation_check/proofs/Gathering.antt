-- Values gathered from a store with a name for each word are those of any valuation that spreads over it.
use Rattle.std.proofs.Common.{◌≡◌, ◌∙◌, ℕ, zero, suc, ◌+◌, ◌*◌, ◌^◌, ◌<◌, ◌≤◌, true, false, List, [], ◌∷◌, ◌++◌, length, map, get_or, take, Contains, ◌⊎◌, inl, inr, arith, refl, sym, ap, subst, ext_get_or}
use Rattle.std.specs.Prelude.{slice_index}
use Rattle.std.proofs.lemmas.List.{length-append, get_or_append_left}
use Rattle.std.proofs.lemmas.Bool.{cases_lt}
use Rattle.wb_values.specs.Value.{Name, Sort, truth, word, memory, Value, truth_value, number, words, as_number, as_words, Entries, Valuation, HasSort}
use Rattle.wb_terms.specs.Graph.{Graph, HasDistinctNames}
use Rattle.wb_terms.specs.declared.values.Env.{Env}
use Rattle.wb_terms.specs.Environment.{values_of, Fits, valuation}
use Rattle.wb_terms.proofs.EnvironmentLemmas.{value_at, length-memory}
use Rattle.ob_mem.specs.declared.words.MemoryWord.{MemoryWord}
use Rattle.ob_mem.specs.Words.{listed, word_count, word_at, words_of, starts_of, entry_at, entry_of_word, HasWords}
use Rattle.ob_mem.specs.Spread.{KeepsValue, IsSpread}
use Rattle.ob_mem.proofs.Listing.{length-listed, get_or-listed}
use Rattle.ob_mem.proofs.Wording.{word_stands, word_named}
use Rattle.std.specs.Global.{Vec}
use Rattle.obligation_check.specs.Found.{numbers_at}
use Rattle.obligation_check.specs.Gathered.{number_at, gathered_value, gathered_values, words_in}
use Rattle.obligation_check.proofs.Written.{kept_value}

-- ---- lists

pub length-words_of : (m n : ℕ) (es : Entries Sort) → length (words_of m n es) ≡ words_in es
length-words_of m n [] = refl
length-words_of m n (e ∷ es) =
    length-append (listed (word_at m n) (word_count e.1)) (words_of (suc m) (n + word_count e.1) es)
    ∙ (ap (λ k. k + length (words_of (suc m) (n + word_count e.1) es)) (length-listed (word_at m n) (word_count e.1))
    ∙ ap (λ k. word_count e.1 + k) (length-words_of (suc m) (n + word_count e.1) es))

pub words_in-take : (k : ℕ) (es : Entries Sort) → words_in (take k es) ≤ words_in es
words_in-take zero [] = omega arith
words_in-take zero (e ∷ es) = omega arith
words_in-take (suc k) [] = omega arith
words_in-take (suc k) (e ∷ es) = let h = words_in-take k es in omega (arith, h)

length-gathered : (v : Env) (place start : ℕ) (ns : Entries Sort) → length (gathered_values v place start ns) ≡ length ns
length-gathered v place start [] = refl
length-gathered v place start (n ∷ ns) = ap suc (length-gathered v (suc place) (start + word_count n.1) ns)

gathered_at : (v : Env) (place start : ℕ) (ns : Entries Sort) (i : ℕ) (x : Value) → i < length ns
    → get_or (gathered_values v place start ns) i x ≡ gathered_value v (entry_at ns i).1 (place + i) (get_or (starts_of start ns) i 0)
gathered_at v place start [] i x b = absurd (omega (arith, b))
gathered_at v place start (n ∷ ns) zero x b = let z : place ≡ place + zero = omega arith in ap (λ p. gathered_value v n.1 p start) z
gathered_at v place start (n ∷ ns) (suc i) x b =
    let s : suc place + i ≡ place + suc i = omega arith in
    gathered_at v (suc place) (start + word_count n.1) ns i x (omega (arith, b))
    ∙ ap (λ p. gathered_value v (entry_at ns i).1 p (get_or (starts_of (start + word_count n.1) ns) i 0)) s

starts-take : (n k i : ℕ) (es : Entries Sort) → i < length (take k es) → get_or (starts_of n (take k es)) i 0 ≡ get_or (starts_of n es) i 0
starts-take n zero i [] b = absurd (omega (arith, b))
starts-take n zero i (e ∷ es) b = absurd (omega (arith, b))
starts-take n (suc k) i [] b = absurd (omega (arith, b))
starts-take n (suc k) zero (e ∷ es) b = refl
starts-take n (suc k) (suc i) (e ∷ es) b = starts-take (n + word_count e.1) k i es (omega (arith, b))

entry-take : (k i : ℕ) (es : Entries Sort) → i < length (take k es) → entry_at (take k es) i ≡ entry_at es i
entry-take zero i [] b = absurd (omega (arith, b))
entry-take zero i (e ∷ es) b = absurd (omega (arith, b))
entry-take (suc k) i [] b = absurd (omega (arith, b))
entry-take (suc k) zero (e ∷ es) b = refl
entry-take (suc k) (suc i) (e ∷ es) b = entry-take k i es (omega (arith, b))

-- ---- values

number_form : (x : Value) (d : ℕ) → HasSort x (word d) → x ≡ number (as_number x)
number_form (number n) d h = refl
number_form (truth_value b) d h = absurd (let e : false ≡ true = h in cc)
number_form (words ks) d h = absurd (let e : false ≡ true = h in cc)

words_form : (x : Value) (p d : ℕ) → HasSort x (memory p d) → x ≡ words (as_words x)
words_form (words ks) p d h = refl
words_form (truth_value b) p d h = absurd (let e : false ≡ true = h in cc)
words_form (number n) p d h = absurd (let e : false ≡ true = h in cc)

words_length : (x : Value) (p d : ℕ) → HasSort x (memory p d) → length (as_words x) ≡ 2 ^ p
words_length (words ks) p d h = length-memory p d ks h
words_length (truth_value b) p d h = absurd (let e : false ≡ true = h in cc)
words_length (number n) p d h = absurd (let e : false ≡ true = h in cc)

module _ (es : Entries Sort) (g : Graph) (env : Env) (v : Valuation) (words' : HasWords es g.names (words_of 0 (length es) es)) (distinct : HasDistinctNames g.names)
    (fits : Fits g env) (spread : IsSpread es g.names (words_of 0 (length es) es) v (valuation g env)) where
  abbrev ws : List MemoryWord
  ws = words_of 0 (length es) es

  abbrev start : ℕ → ℕ
  start j = get_or (starts_of (length es) es) j 0

  longer : length es ≤ length g.names
  longer = omega (arith, ap length words'.names, length-append es (map (entry_of_word words'.marks es) ws))

  at_place : (k : ℕ) → k < length g.names → valuation g env (entry_at g.names k).0 ≡ get_or (values_of env) k (number 0)
  at_place k b = value_at g.names (values_of env) k ([], truth) (number 0) distinct fits b

  -- a word
  plain : (j : ℕ) → j < length es → (d : ℕ) → (entry_at es j).1 ≡ word d → v (entry_at es j).0 ≡ number (number_at env j 0)
  plain j b d e =
      let x = v (entry_at es j).0 in
      let y = valuation g env (entry_at es j).0 in
      let z : j ≡ j + 0 = omega arith in
      let same : entry_at g.names j ≡ entry_at es j = ap (λ xs. entry_at xs j) words'.names ∙ get_or_append_left es (map (entry_of_word words'.marks es) ws) ([], truth) j b in
      let kept : y ≡ x = kept_value (word d) x y tt (subst (λ q. KeepsValue q x y) e (spread.kept j b)) in
      let here : y ≡ get_or (values_of env) j (number 0) = ap (λ (q : Name × Sort). valuation g env q.0) (sym same) ∙ at_place j (omega (arith, b, longer)) in
      number_form x d (subst (HasSort x) e (spread.sorts j b)) ∙ (ap (λ q. number (as_number q)) (sym kept ∙ here)
      ∙ ap (λ k. number (as_number (get_or (values_of env) k (number 0)))) z)

  -- a memory
  spread_out : (j : ℕ) → j < length es → (p d : ℕ) → (entry_at es j).1 ≡ memory p d → v (entry_at es j).0 ≡ words (listed (number_at env (start j)) (2 ^ p))
  spread_out j b p d e =
      let x = v (entry_at es j).0 in
      let sorted : HasSort x (memory p d) = subst (HasSort x) e (spread.sorts j b) in
      words_form x p d sorted
      ∙ ap words (ext_get_or 0 (as_words x) (listed (number_at env (start j)) (2 ^ p)) (words_length x p d sorted ∙ sym (length-listed (number_at env (start j)) (2 ^ p)))
      (λ k l. at_word k (omega (arith, l, words_length x p d sorted))))
    where
      at_word : (k : ℕ) → k < 2 ^ p → get_or (as_words (v (entry_at es j).0)) k 0 ≡ get_or (listed (number_at env (start j)) (2 ^ p)) k 0
      at_word k l =
          let z : 0 + j ≡ j = omega arith in
          let wide : k < word_count (entry_at es j).1 = subst (λ t. k < word_count t) (sym e) l in
          let c : Contains ws (word_at j (start j) k) = subst (λ q. Contains ws (word_at q (start j) k)) z (word_stands 0 (length es) es j k b wide) in
          let n = word_named words'.marks es g.names ws (word_at j (start j) k) words'.names refl c in
          let here : get_or (values_of env) (start j + k) (number 0) ≡ number (slice_index (as_words (v (entry_at es j).0)) k) =
          sym (at_place (start j + k) n.below) ∙ spread.words (word_at j (start j) k) c in
          ap as_number (sym here) ∙ sym (get_or-listed (number_at env (start j)) (2 ^ p) k 0 l)

  -- what is gathered of a name is its value
  pub gathered_is : (j : ℕ) → j < length es → ((entry_at es j).1 ≡ truth → ⊥) → gathered_value env (entry_at es j).1 j (start j) ≡ v (entry_at es j).0
  gathered_is j b no_truth = by_sort (entry_at es j).1 refl
    where
      by_sort : (t : Sort) → (entry_at es j).1 ≡ t → gathered_value env t j (start j) ≡ v (entry_at es j).0
      by_sort truth e = absurd (no_truth e)
      by_sort (word d) e = sym (plain j b d e)
      by_sort (memory p d) e = sym (spread_out j b p d e)

  pub gathered_place : (count j : ℕ) → j < length (take count es) → j < length es → ((entry_at es j).1 ≡ truth → ⊥)
      → get_or (gathered_values env 0 (length es) (take count es)) j (number 0) ≡ v (entry_at es j).0
  gathered_place count j b l no_truth =
      let z : 0 + j ≡ j = omega arith in
      gathered_at env 0 (length es) (take count es) j (number 0) b
      ∙ (ap (λ (q : Name × Sort). gathered_value env q.1 (0 + j) (get_or (starts_of (length es) (take count es)) j 0)) (entry-take count j es b)
      ∙ (ap (λ q. gathered_value env (entry_at es j).1 (0 + j) q) (starts-take (length es) count j es b)
      ∙ (ap (λ q. gathered_value env (entry_at es j).1 q (start j)) z ∙ gathered_is j l no_truth)))

pub length-gathered_values : (v : Env) (place start : ℕ) (ns : Entries Sort) → length (gathered_values v place start ns) ≡ length ns
length-gathered_values v place start ns = length-gathered v place start ns

-- ---- cycles

numbers_before : (old : List (Vec ℕ)) (x : Vec ℕ) (t : ℕ) → t < length old → numbers_at (old ++ x ∷ []) t ≡ numbers_at old t
numbers_before [] x t b = absurd (omega (arith, b))
numbers_before (o ∷ old) x zero b = refl
numbers_before (o ∷ old) x (suc t) b = numbers_before old x t (omega (arith, b))

numbers_last : (old : List (Vec ℕ)) (x : Vec ℕ) → numbers_at (old ++ x ∷ []) (length old) ≡ x.items
numbers_last [] x = refl
numbers_last (o ∷ old) x = numbers_last old x

-- one cycle more
pub cycle_more : (env : Env) (first count cycle next : ℕ) (old new : List (Vec ℕ)) (x : Vec ℕ) → new ≡ old ++ x ∷ [] → x.items ≡ listed (number_at env next) count
    → (length old ≡ cycle) × (next ≡ first + cycle * count) × ((t : ℕ) → t < cycle → numbers_at old t ≡ listed (number_at env (first + t * count)) count)
    → (length new ≡ cycle + 1) × (next + count ≡ first + (cycle + 1) * count)
    × ((t : ℕ) → t < cycle + 1 → numbers_at new t ≡ listed (number_at env (first + t * count)) count)
cycle_more env first count cycle next old new x is_new is_x h =
    let more : (cycle + 1) * count ≡ cycle * count + count = omega arith in
    (ap length is_new ∙ omega (arith, length-append old (x ∷ []), h.0), omega (arith, h.1, more), λ t b. by_part t b (cases_lt t cycle))
  where
    by_part : (t : ℕ) → t < cycle + 1 → (t < cycle) ⊎ (cycle ≤ t) → numbers_at new t ≡ listed (number_at env (first + t * count)) count
    by_part t b (inl l) = ap (λ q. numbers_at q t) is_new ∙ (numbers_before old x t (omega (arith, l, h.0)) ∙ h.2 t l)
    by_part t b (inr l) =
        let same : t ≡ length old = omega (arith, l, b, h.0) in
        let here : cycle ≡ t = omega (arith, l, b) in
        ap (λ q. numbers_at q t) is_new ∙ (ap (numbers_at (old ++ x ∷ [])) same ∙ (numbers_last old x
        ∙ (is_x ∙ ap (λ k. listed (number_at env k) count) (h.1 ∙ ap (λ q. first + q * count) here))))
