-- Each valuation of the old names spreads over the new ones, and each of the new ones comes from one of the old.
use Rattle.std.proofs.Common.{◌≡◌, ℕ, zero, suc, ◌+◌, ◌-◌, ◌<◌, ◌≤◌, ◌^◌, Bool, true, false, cond, ◌&&◌, nat_lt, List, [], ◌∷◌, ◌++◌, map, length, get_or, Contains, Option, Some, None, IsTrue, refl, sym, ap, ◌∙◌, subst, arith, length-append, inl, inr, ◌⊎◌}
use Rattle.std.specs.Prelude.{◌==◌, slice_index}
use Rattle.std.proofs.lemmas.List.{get_or_append_left, get_or-append_right, get_or-append-add, get_or-map, length-map, get_or_default}
use Rattle.std.proofs.lemmas.Bool.{cases_lt, false≢true}
use Rattle.std.proofs.lemmas.Bool.Decides.{nat_tests}
use Rattle.wb_values.specs.Value.{Name, Sort, truth, word, memory, Value, truth_value, number, words, as_words, as_number, all_below, Valuation, valuation_of, Entries, HasSort}
use Rattle.wb_terms.specs.Graph.{HasDistinctNames}
use Rattle.wb_terms.specs.Environment.{AreOfSorts, values_by_name}
use Rattle.wb_terms.proofs.EnvironmentLemmas.{value_at, memory_word}
use Rattle.wb_terms.proofs.HeldLemmas.{both_from, test_of}
use Rattle.ob_mem.specs.declared.words.MemoryWord.{MemoryWord}
use Rattle.ob_mem.specs.Words.{word_count, word_width, listed, word_at, words_of, starts_of, entry_at, entry_of_word, HasWords}
use Rattle.ob_mem.specs.Spread.{GivesSorts, KeepsValue, IsSpread}
use Rattle.ob_mem.proofs.Listing.{length-listed, get_or-listed}
use Rattle.ob_mem.proofs.Imaging.{number_form, number_below}
use Rattle.ob_mem.proofs.Wording.{IsWordOf, word_of_memory, word_stands, word_named, in_order}

-- values by their places
pub of_sorts_by : (ns : Entries Sort) (xs : List Value) → length xs ≡ length ns → ((k : ℕ) → k < length ns → HasSort (get_or xs k (number 0)) (entry_at ns k).1) → AreOfSorts ns xs
of_sorts_by [] [] l h = tt
of_sorts_by [] (x ∷ xs) l h = absurd (omega (arith, l))
of_sorts_by (n ∷ ns) [] l h = absurd (omega (arith, l))
of_sorts_by (n ∷ ns) (x ∷ xs) l h = (h 0 (omega arith), of_sorts_by ns xs (omega (arith, l)) (λ k b. h (suc k) (omega (arith, b))))

-- the word of a value of a memory fits
word_fits : (s : Sort) (x : Value) (k : ℕ) → HasSort x s → k < word_count s → HasSort (number (slice_index (as_words x) k)) (word (word_width s))
word_fits truth x k h b = absurd (omega (arith, b))
word_fits (word d) x k h b = absurd (omega (arith, b))
word_fits (memory a d) (truth_value t) k h b = absurd (false≢true h)
word_fits (memory a d) (number n) k h b = absurd (false≢true h)
word_fits (memory a d) (words ws) k h b = test_of (slice_index ws k) (2 ^ d) (memory_word a d ws k (get_or ws k 0) h b (by_default (cases_lt k (length ws))))
  where
    by_default : (k < length ws) ⊎ (length ws ≤ k) → get_or ws k 0 ≡ get_or ws k (get_or ws k 0)
    by_default (inl l) = get_or_default ws k 0 (get_or ws k 0) l
    by_default (inr l) = past ws k 0 l
      where
        past : (ws : List ℕ) (k d : ℕ) → length ws ≤ k → get_or ws k d ≡ get_or ws k (get_or ws k d)
        past [] k d l = refl
        past (w ∷ ws) zero d l = absurd (omega (arith, l))
        past (w ∷ ws) (suc k) d l = past ws k d (omega (arith, l))

keeps : (s : Sort) (x y : Value) → y ≡ x → KeepsValue s x y
keeps truth x y e = e
keeps (word d) x y e = e
keeps (memory a d) x y e = tt

-- the old values with those of the words behind them
abbrev pub spread_values : Entries Sort → List MemoryWord → Valuation → List Value
spread_values es rs v = map (λ e. v e.0) es ++ map (λ r. number (slice_index (as_words (v (entry_at es r.memory.0).0)) r.address)) rs

old_value : (es : Entries Sort) (rs : List MemoryWord) (v : Valuation) (k : ℕ) (d : Value) → k < length es → get_or (spread_values es rs v) k d ≡ v (entry_at es k).0
old_value es rs v k d b =
    let f : Name × Sort → Value = λ e. v e.0 in
    let g : MemoryWord → Value = λ r. number (slice_index (as_words (v (entry_at es r.memory.0).0)) r.address) in
    get_or_append_left (map f es) (map g rs) d k (omega (arith, b, length-map es f)) ∙ get_or-map f es k ([], truth) d b

new_value : (es : Entries Sort) (rs : List MemoryWord) (v : Valuation) (q : ℕ) (r : MemoryWord) (d : Value) → q < length rs
    → get_or (spread_values es rs v) (length es + q) d ≡ number (slice_index (as_words (v (entry_at es (get_or rs q r).memory.0).0)) (get_or rs q r).address)
new_value es rs v q r d b =
    let f : Name × Sort → Value = λ e. v e.0 in
    let g : MemoryWord → Value = λ r. number (slice_index (as_words (v (entry_at es r.memory.0).0)) r.address) in
    ap (λ n. get_or (spread_values es rs v) (n + q) d) (sym (length-map es f)) ∙ (get_or-append-add (map f es) (map g rs) q d ∙ get_or-map g rs q r d b)

spread_sorted : (marks : ℕ) (es new : Entries Sort) (rs : List MemoryWord) (v : Valuation) → new ≡ es ++ map (entry_of_word marks es) rs → rs ≡ words_of 0 (length es) es → GivesSorts es v
    → (k : ℕ) → k < length new → HasSort (get_or (spread_values es rs v) k (number 0)) (entry_at new k).1
spread_sorted marks es new rs v e i s k b = by_part (cases_lt k (length es))
  where
    f : MemoryWord → Name × Sort
    f = entry_of_word marks es

    count : length new ≡ length es + length rs
    count = omega (arith, ap length e, length-append es (map (entry_of_word marks es) rs), length-map rs (entry_of_word marks es))

    a_word : (q : ℕ) → q < length rs → HasSort (get_or (spread_values es rs v) (length es + q) (number 0)) (entry_at new (length es + q)).1
    a_word q c =
        let d : MemoryWord = word_at 0 0 0 in
        let r = get_or rs q d in
        let there : Contains rs r = (q, c, get_or_default rs q r d c) in
        let o = word_of_memory 0 (length es) es r (subst (λ xs. Contains xs r) i there) in
        let z : 0 + o.place ≡ o.place = omega arith in
        let m : r.memory.0 ≡ o.place = ap (λ (x : MemoryWord). x.memory.0) o.is ∙ z in
        let fits = word_fits (entry_at es o.place).1 (v (entry_at es o.place).0) r.address (s o.place o.below) o.address in
        let at_memory : HasSort (number (slice_index (as_words (v (entry_at es r.memory.0).0)) r.address)) (word (word_width (entry_at es r.memory.0).1)) =
        subst (λ p. HasSort (number (slice_index (as_words (v (entry_at es p).0)) r.address)) (word (word_width (entry_at es p).1))) (sym m) fits in
        let sorted : (entry_at new (length es + q)).1 ≡ word (word_width (entry_at es r.memory.0).1) =
        ap (λ xs. (entry_at xs (length es + q)).1) e ∙ (ap (λ (x : Name × Sort). x.1) (get_or-append-add es (map (entry_of_word marks es) rs) q ([], truth))
        ∙ ap (λ (x : Name × Sort). x.1) (get_or-map (entry_of_word marks es) rs q d ([], truth) c)) in
        subst (λ x. HasSort x (entry_at new (length es + q)).1) (sym (new_value es rs v q d (number 0) c))
        (subst (λ t. HasSort (number (slice_index (as_words (v (entry_at es r.memory.0).0)) r.address)) t) (sym sorted) at_memory)

    by_part : (k < length es) ⊎ (length es ≤ k) → HasSort (get_or (spread_values es rs v) k (number 0)) (entry_at new k).1
    by_part (inl l) =
        let same : entry_at new k ≡ entry_at es k = ap (λ xs. entry_at xs k) e ∙ get_or_append_left es (map (entry_of_word marks es) rs) ([], truth) k l in
        subst (λ x. HasSort x (entry_at new k).1) (sym (old_value es rs v k (number 0) l)) (subst (λ (x : Name × Sort). HasSort (v (entry_at es k).0) x.1) (sym same) (s k l))
    by_part (inr l) =
        let p : length es + (k - length es) ≡ k = omega (arith, l) in
        subst (λ j. HasSort (get_or (spread_values es rs v) j (number 0)) (entry_at new j).1) p (a_word (k - length es) (omega (arith, l, b, count)))

pub spread : (es new : Entries Sort) (rs : List MemoryWord) (v : Valuation) → HasWords es new rs → rs ≡ words_of 0 (length es) es → HasDistinctNames new → GivesSorts es v
    → (w : Valuation) × IsSpread es new rs v w × GivesSorts new w
spread es new rs v h i u s =
    let xs = spread_values es rs v in
    let f = entry_of_word h.marks es in
    let count : length xs ≡ length new =
    omega (
      arith,
      ap length h.names,
      length-append es (map f rs),
      length-map rs f,
      length-append (map (λ (e : Name × Sort). v e.0) es) (map (λ (r : MemoryWord). number (slice_index (as_words (v (entry_at es r.memory.0).0)) r.address)) rs),
      length-map es (λ (e : Name × Sort). v e.0),
      length-map rs (λ (r : MemoryWord). number (slice_index (as_words (v (entry_at es r.memory.0).0)) r.address)),
    ) in
    let sorted = spread_sorted h.marks es new rs v h.names i s in
    let fits = of_sorts_by new xs count sorted in
    let value : (k : ℕ) → k < length new → valuation_of (values_by_name new xs) (entry_at new k).0 ≡ get_or xs k (number 0) = λ k b. value_at new xs k ([], truth) (number 0) u fits b in (
      valuation_of (values_by_name new xs),
      record {
        sorts = s;
        kept = λ k b.
            let same : entry_at new k ≡ entry_at es k = ap (λ ys. entry_at ys k) h.names ∙ get_or_append_left es (map f rs) ([], truth) k b in
            keeps (entry_at es k).1 (v (entry_at es k).0) (valuation_of (values_by_name new xs) (entry_at es k).0)
            (ap (λ (x : Name × Sort). valuation_of (values_by_name new xs) x.0) (sym same)
            ∙ (value k (omega (arith, b, ap length h.names, length-append es (map f rs))) ∙ old_value es rs v k (number 0) b));
        words = λ r c.
            let n = word_named h.marks es new rs r h.names i c in
            let at : r.name.0 ≡ length es + c.0 = sym (ap (λ (x : MemoryWord). x.name.0) c.2) ∙ (ap (λ ys. (get_or ys c.0 r).name.0) i ∙ in_order 0 (length es) es c.0 r (subst (λ ys. c.0 < length ys) i c.1)) in
            value r.name.0 n.below ∙ (ap (λ k. get_or xs k (number 0)) at ∙ (new_value es rs v c.0 r (number 0) c.1
            ∙ ap (λ (x : MemoryWord). number (slice_index (as_words (v (entry_at es x.memory.0).0)) x.address)) c.2));
      },
      λ k b. subst (λ x. HasSort x (entry_at new k).1) (sym (value k b)) (sorted k b),
    )

-- the value of an old name: that of a memory is gathered from its words, whose names begin at a place
abbrev gathered_value : Entries Sort → Valuation → (start : ℕ) → Name × Sort → Value
gathered_value new w n (m, memory a d) = words (listed (λ k. as_number (w (entry_at new (n + k)).0)) (2 ^ a))
gathered_value new w n (m, s) = w m

all_below_listed : (f : ℕ → ℕ) (d n : ℕ) → ((k : ℕ) → k < n → f k < 2 ^ d) → IsTrue (all_below d (listed f n))
all_below_listed f d n h = by_place (listed f n) (λ k b. subst (λ x. x < 2 ^ d) (sym (get_or-listed f n k 0 (omega (arith, b, length-listed f n)))) (h k (omega (arith, b, length-listed f n))))
  where
    by_place : (xs : List ℕ) → ((k : ℕ) → k < length xs → get_or xs k 0 < 2 ^ d) → IsTrue (all_below d xs)
    by_place [] h = refl
    by_place (x ∷ xs) h = both_from (nat_lt x (2 ^ d)) (all_below d xs) (test_of x (2 ^ d) (h 0 (omega arith))) (by_place xs (λ k b. h (suc k) (omega (arith, b))))

same_test : (n m : ℕ) → n ≡ m → IsTrue (n == m)
same_test n m e = grind (arith, nat_tests)

abbrev IsPlainSort : Sort → Type 0
IsPlainSort (memory a d) = ⊥
IsPlainSort _ = Unit {0}

gathered_sorted : (new : Entries Sort) (w : Valuation) (n : ℕ) (e : Name × Sort) → ((k : ℕ) → k < word_count e.1 → HasSort (w (entry_at new (n + k)).0) (word (word_width e.1)))
    → (IsPlainSort e.1 → HasSort (w e.0) e.1) → HasSort (gathered_value new w n e) e.1
gathered_sorted new w n (m, truth) h s = s tt
gathered_sorted new w n (m, word d) h s = s tt
gathered_sorted new w n (m, memory a d) h s =
    let f : ℕ → ℕ = λ k. as_number (w (entry_at new (n + k)).0) in
    both_from (length (listed f (2 ^ a)) == 2 ^ a) (all_below d (listed f (2 ^ a))) (same_test (length (listed f (2 ^ a))) (2 ^ a) (length-listed f (2 ^ a)))
    (all_below_listed f d (2 ^ a) (λ k b. number_below (w (entry_at new (n + k)).0) d (h k b)))

gathered_kept : (new : Entries Sort) (w : Valuation) (n : ℕ) (e : Name × Sort) → KeepsValue e.1 (gathered_value new w n e) (w e.0)
gathered_kept new w n (m, truth) = refl
gathered_kept new w n (m, word d) = refl
gathered_kept new w n (m, memory a d) = tt

gathered_word : (new : Entries Sort) (w : Valuation) (n k : ℕ) (e : Name × Sort) → k < word_count e.1 → slice_index (as_words (gathered_value new w n e)) k ≡ as_number (w (entry_at new (n + k)).0)
gathered_word new w n k (m, truth) b = absurd (omega (arith, b))
gathered_word new w n k (m, word d) b = absurd (omega (arith, b))
gathered_word new w n k (m, memory a d) b = get_or-listed (λ j. as_number (w (entry_at new (n + j)).0)) (2 ^ a) k 0 b

-- the value at a place of the old table
abbrev value_of_place : (es new : Entries Sort) (w : Valuation) → ℕ → Value
value_of_place es new w j = gathered_value new w (get_or (starts_of (length es) es) j 0) (entry_at es j)

-- the names of a memory's words have values that fit
word_sorted : (marks : ℕ) (es new : Entries Sort) (rs : List MemoryWord) (w : Valuation) → new ≡ es ++ map (entry_of_word marks es) rs → rs ≡ words_of 0 (length es) es → GivesSorts new w
    → (j k : ℕ) → j < length es → k < word_count (entry_at es j).1 → HasSort (w (entry_at new (get_or (starts_of (length es) es) j 0 + k)).0) (word (word_width (entry_at es j).1))
word_sorted marks es new rs w e i s j k b l =
    let z : 0 + j ≡ j = omega arith in
    let n = get_or (starts_of (length es) es) j 0 in
    let c : Contains rs (word_at j n k) = subst (λ xs. Contains xs (word_at j n k)) (sym i) (subst (λ p. Contains (words_of 0 (length es) es) (word_at p n k)) z (word_stands 0 (length es) es j k b l)) in
    let m = word_named marks es new rs (word_at j n k) e i c in
    subst (λ t. HasSort (w (entry_at new (n + k)).0) t) (ap (λ (x : Name × Sort). x.1) m.entry) (s (n + k) m.below)

place_sorted : (marks : ℕ) (es new : Entries Sort) (rs : List MemoryWord) (w : Valuation) → new ≡ es ++ map (entry_of_word marks es) rs → rs ≡ words_of 0 (length es) es → GivesSorts new w
    → (j : ℕ) → j < length es → HasSort (value_of_place es new w j) (entry_at es j).1
place_sorted marks es new rs w e i s j b =
    let same : entry_at new j ≡ entry_at es j = ap (λ xs. entry_at xs j) e ∙ get_or_append_left es (map (entry_of_word marks es) rs) ([], truth) j b in
    let l : j < length new = omega (arith, b, ap length e, length-append es (map (entry_of_word marks es) rs)) in
    gathered_sorted new w (get_or (starts_of (length es) es) j 0) (entry_at es j) (λ k c. word_sorted marks es new rs w e i s j k b c)
    (λ p. subst (λ (x : Name × Sort). HasSort (w x.0) x.1) same (s j l))

pub gathered : (es new : Entries Sort) (rs : List MemoryWord) (w : Valuation) → HasWords es new rs → rs ≡ words_of 0 (length es) es → HasDistinctNames es → GivesSorts new w
    → (v : Valuation) × IsSpread es new rs v w
gathered es new rs w h i u s =
    let ys = listed (value_of_place es new w) (length es) in
    let at : (j : ℕ) → j < length es → get_or ys j (number 0) ≡ value_of_place es new w j = λ j b. get_or-listed (value_of_place es new w) (length es) j (number 0) b in
    let fits = of_sorts_by es ys (length-listed (value_of_place es new w) (length es))
    (λ j b. subst (λ x. HasSort x (entry_at es j).1) (sym (at j b)) (place_sorted h.marks es new rs w h.names i s j b)) in
    let v = valuation_of (values_by_name es ys) in
    let value : (j : ℕ) → j < length es → v (entry_at es j).0 ≡ value_of_place es new w j = λ j b. value_at es ys j ([], truth) (number 0) u fits b ∙ at j b in (
      v,
      record {
        sorts = λ j b. subst (λ x. HasSort x (entry_at es j).1) (sym (value j b)) (place_sorted h.marks es new rs w h.names i s j b);
        kept = λ j b. subst (λ x. KeepsValue (entry_at es j).1 x (w (entry_at es j).0)) (sym (value j b)) (gathered_kept new w (get_or (starts_of (length es) es) j 0) (entry_at es j));
        words = λ r c.
            let o = word_of_memory 0 (length es) es r (subst (λ xs. Contains xs r) i c) in
            let z : 0 + o.place ≡ o.place = omega arith in
            let n = get_or (starts_of (length es) es) o.place 0 in
            let m : r.memory.0 ≡ o.place = ap (λ (x : MemoryWord). x.memory.0) o.is ∙ z in
            let p : r.name.0 ≡ n + r.address = ap (λ (x : MemoryWord). x.name.0) o.is in
            let sorted = word_sorted h.marks es new rs w h.names i s o.place r.address o.below o.address in
            ap (λ q. w (entry_at new q).0) p ∙ (number_form (w (entry_at new (n + r.address)).0) (word_width (entry_at es o.place).1) sorted
            ∙ ap number (sym (ap (λ q. slice_index (as_words (v (entry_at es q).0)) r.address) m ∙ (ap (λ x. slice_index (as_words x) r.address) (value o.place o.below)
            ∙ gathered_word new w n r.address (entry_at es o.place) o.address))));
      },
    )
