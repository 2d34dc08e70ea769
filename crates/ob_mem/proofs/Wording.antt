-- The words of the memories in their order, and where their names stand.
use Rattle.std.proofs.Common.{◌≡◌, ℕ, zero, suc, ◌+◌, ◌-◌, ◌<◌, ◌≤◌, ◌^◌, Bool, true, false, cond, List, [], ◌∷◌, ◌++◌, map, length, get_or, Contains, Option, Some, None, refl, sym, ap, ◌∙◌, subst, arith, length-append, append_assoc, drop, inl, inr, ◌⊎◌}
use Rattle.std.specs.Prelude.{slice_index}
use Rattle.std.proofs.lemmas.List.{get_or_append_left, get_or-append_right, get_or-append-add, get_or-map, length-map, get_or_default, map-append, append-nil, drop_more}
use Rattle.std.proofs.lemmas.List.Elements.{Contains-append_left, Contains-append_right, Contains-append_cases}
use Rattle.std.proofs.lemmas.Bool.{cases_lt}
use Rattle.wb_values.specs.Value.{Name, Sort, truth, word, memory, Value, number, as_words, Valuation, Entries}
use Rattle.ob_mem.specs.declared.words.MemoryWord.{MemoryWord}
use Rattle.ob_mem.specs.Words.{word_count, word_width, listed, word_at, words_of, starts_of, entry_at, name_of_word, entry_of_word, AddsWords, AllHaveFewer, AreFree, HasWords}
use Rattle.wb_terms.specs.Graph.{Graph}
use Rattle.ob_mem.proofs.Naming.{free_start}
use Rattle.ob_mem.specs.Spread.{IsSpread}
use Rattle.ob_mem.specs.Images.{HasFirsts, HasWord}
use Rattle.ob_mem.proofs.Listing.{length-listed, get_or-listed, Contains-listed, listed_cases}

pub length-starts_of : (n : ℕ) (es : Entries Sort) → length (starts_of n es) ≡ length es
length-starts_of n [] = refl
length-starts_of n (e ∷ es) = ap suc (length-starts_of (n + word_count e.1) es)

-- each word of each memory stands in the list
pub word_stands : (m n : ℕ) (es : Entries Sort) (j k : ℕ) → j < length es → k < word_count (entry_at es j).1 → Contains (words_of m n es) (word_at (m + j) (get_or (starts_of n es) j 0) k)
word_stands m n [] j k b l = absurd (omega (arith, b))
word_stands m n (e ∷ es) zero k b l =
    let z : m + zero ≡ m = omega arith in
    subst (λ p. Contains (words_of m n (e ∷ es)) (word_at p n k)) (sym z)
    (Contains-append_left (listed (word_at m n) (word_count e.1)) (words_of (suc m) (n + word_count e.1) es) (word_at m n k) (Contains-listed (word_at m n) (word_count e.1) k l))
word_stands m n (e ∷ es) (suc j) k b l =
    let s : suc m + j ≡ m + suc j = omega arith in
    subst (λ p. Contains (words_of m n (e ∷ es)) (word_at p (get_or (starts_of (n + word_count e.1) es) j 0) k)) s
    (Contains-append_right (listed (word_at m n) (word_count e.1)) (words_of (suc m) (n + word_count e.1) es) (word_at (suc m + j) (get_or (starts_of (n + word_count e.1) es) j 0) k)
    (word_stands (suc m) (n + word_count e.1) es j k (omega (arith, b)) l))

-- what stands in the list is a word of a memory
pub record IsWordOf (m n : ℕ) (es : Entries Sort) (r : MemoryWord) : Type 0 where
  pub place : ℕ
  pub below : place < length es
  pub address : r.address < word_count (entry_at es place).1
  pub is : r ≡ word_at (m + place) (get_or (starts_of n es) place 0) r.address

pub word_of_memory : (m n : ℕ) (es : Entries Sort) (r : MemoryWord) → Contains (words_of m n es) r → IsWordOf m n es r
word_of_memory m n [] r c = absurd (omega (arith, c.1))
word_of_memory m n (e ∷ es) r c = by_part (word_of_memory (suc m) (n + word_count e.1) es r) (Contains-append_cases (listed (word_at m n) (word_count e.1)) (words_of (suc m) (n + word_count e.1) es) r c)
  where
    later : IsWordOf (suc m) (n + word_count e.1) es r → IsWordOf m n (e ∷ es) r
    later i =
        let s : suc m + i.place ≡ m + suc i.place = omega arith in
        record {
          place = suc i.place;
          below = omega (arith, i.below);
          address = i.address;
          is = i.is ∙ ap (λ p. word_at p (get_or (starts_of (n + word_count e.1) es) i.place 0) r.address) s;
        }

    by_part : (Contains (words_of (suc m) (n + word_count e.1) es) r → IsWordOf (suc m) (n + word_count e.1) es r) → Contains (listed (word_at m n) (word_count e.1)) r ⊎ Contains (words_of (suc m) (n + word_count e.1) es) r → IsWordOf m n (e ∷ es) r
    by_part f' (inl d) =
        let f = listed_cases (word_at m n) (word_count e.1) r d in
        let a : r.address ≡ f.0 = ap (λ (x : MemoryWord). x.address) f.2 in
        let z : m ≡ m + zero = omega arith in
        record {
          place = zero;
          below = omega arith;
          address = subst (λ k. k < word_count e.1) (sym a) f.1;
          is = f.2 ∙ (ap (word_at m n) (sym a) ∙ ap (λ p. word_at p n r.address) z);
        }
    by_part f' (inr d) = later (f' d)

-- the names follow on one another
pub in_order : (m n : ℕ) (es : Entries Sort) (q : ℕ) (d : MemoryWord) → q < length (words_of m n es) → (get_or (words_of m n es) q d).name.0 ≡ n + q
in_order m n [] q d b = absurd (omega (arith, b))
in_order m n (e ∷ es) q d b = by_part (in_order (suc m) (n + word_count e.1) es (q - word_count e.1) d) (cases_lt q (word_count e.1))
  where
    by_part : (q - word_count e.1 < length (words_of (suc m) (n + word_count e.1) es) → (get_or (words_of (suc m) (n + word_count e.1) es) (q - word_count e.1) d).name.0 ≡ n + word_count e.1 + (q - word_count e.1))
        → (q < word_count e.1) ⊎ (word_count e.1 ≤ q) → (get_or (listed (word_at m n) (word_count e.1) ++ words_of (suc m) (n + word_count e.1) es) q d).name.0 ≡ n + q
    by_part f (inl l) =
        ap (λ (x : MemoryWord). x.name.0) (get_or_append_left (listed (word_at m n) (word_count e.1)) (words_of (suc m) (n + word_count e.1) es) d q (omega (arith, l, length-listed (word_at m n) (word_count e.1)))
        ∙ get_or-listed (word_at m n) (word_count e.1) q d l)
    by_part f (inr l) =
        let h = f (omega (arith, b, l, length-append (listed (word_at m n) (word_count e.1)) (words_of (suc m) (n + word_count e.1) es), length-listed (word_at m n) (word_count e.1))) in
        ap (λ (x : MemoryWord). x.name.0) (get_or-append_right (listed (word_at m n) (word_count e.1)) (words_of (suc m) (n + word_count e.1) es) (word_count e.1) q d (length-listed (word_at m n) (word_count e.1)) l)
        ∙ omega (arith, h, l)

-- the new name of a word stands where the list says
pub record IsNamed (marks : ℕ) (es new : Entries Sort) (r : MemoryWord) : Type 0 where
  pub below : r.name.0 < length new
  pub entry : entry_at new r.name.0 ≡ entry_of_word marks es r

pub word_named : (marks : ℕ) (es new : Entries Sort) (rs : List MemoryWord) (r : MemoryWord) → new ≡ es ++ map (entry_of_word marks es) rs → rs ≡ words_of 0 (length es) es → Contains rs r → IsNamed marks es new r
word_named marks es new rs r e i c =
    let f = entry_of_word marks es in
    let o : (get_or (words_of 0 (length es) es) c.0 r).name.0 ≡ length es + c.0 = in_order 0 (length es) es c.0 r (subst (λ xs. c.0 < length xs) i c.1) in
    let at : r.name.0 ≡ length es + c.0 = sym (ap (λ (x : MemoryWord). x.name.0) c.2) ∙ (ap (λ xs. (get_or xs c.0 r).name.0) i ∙ o) in
    record {
      below = omega (arith, at, c.1, ap length e, length-append es (map f rs), length-map rs f);
      entry = ap (λ k. entry_at new k) at ∙ (ap (λ xs. entry_at xs (length es + c.0)) e ∙ (get_or-append-add es (map f rs) c.0 ([], truth)
          ∙ (get_or-map f rs c.0 r ([], truth) c.1 ∙ ap f c.2)));
    }

pub has_firsts : (es new : Entries Sort) (rs : List MemoryWord) (firsts : List ℕ) → HasWords es new rs → rs ≡ words_of 0 (length es) es → firsts ≡ starts_of (length es) es → HasFirsts es new rs firsts
has_firsts es new rs firsts h i f =
    record {
      same = λ k b. ap (λ xs. entry_at xs k) h.names ∙ get_or_append_left es (map (entry_of_word h.marks es) rs) ([], truth) k b;
      more = omega (arith, ap length h.names, length-append es (map (entry_of_word h.marks es) rs));
      room = ap length f ∙ length-starts_of (length es) es;
      words = λ j k b l. word_there j k b l;
    }
  where
    word_there : (j k : ℕ) → j < length es → k < word_count (entry_at es j).1 → HasWord es new rs j k (get_or firsts j 0 + k)
    word_there j k b l =
        let z : 0 + j ≡ j = omega arith in
        let c : Contains rs (word_at j (get_or firsts j 0) k) =
        subst (λ xs. Contains xs (word_at j (get_or firsts j 0) k)) (sym i) (subst (λ ns. Contains (words_of 0 (length es) es) (word_at j (get_or ns j 0) k)) (sym f)
        (subst (λ p. Contains (words_of 0 (length es) es) (word_at p (get_or (starts_of (length es) es) j 0) k)) z (word_stands 0 (length es) es j k b l))) in
        let n = word_named h.marks es new rs (word_at j (get_or firsts j 0) k) h.names i c in
        record {
          below = n.below;
          sort = ap (λ (x : Name × Sort). x.1) n.entry;
          value = λ v w s. s.words (word_at j (get_or firsts j 0) k) c;
        }

-- one word more
entry_of_next : (marks place n j : ℕ) (es : Entries Sort) (m w : ℕ) → (entry_at es m).1 ≡ memory n w → entry_of_word marks es (word_at m place j) ≡ (name_of_word marks (place + j), word w)
entry_of_next marks place n j es m w e = ap (λ t. (name_of_word marks (place + j), word (word_width t))) e

pub words_turn : (marks : ℕ) (es ns ms ks : Entries Sort) (qs rs ts : List MemoryWord) (m j id a w : ℕ) → id ≡ length ms → ks ≡ ms ++ (name_of_word marks (length ms), word w) ∷ [] → ts ≡ rs ++ record { memory = record { 0 = m }; address = j; name = record { 0 = id } } ∷ []
    → memory a w ≡ (entry_at es m).1 → rs ≡ qs ++ listed (word_at m (length ns)) j → ms ≡ ns ++ map (entry_of_word marks es) (listed (word_at m (length ns)) j)
    → (ts ≡ qs ++ listed (word_at m (length ns)) (j + 1)) × (ks ≡ ns ++ map (entry_of_word marks es) (listed (word_at m (length ns)) (j + 1)))
words_turn marks es ns ms ks qs rs ts m j id a w i k t s r n =
    let f = entry_of_word marks es in
    let g = word_at m (length ns) in
    let p : suc j ≡ j + 1 = omega arith in
    let at : length ms ≡ length ns + j = omega (arith, ap length n, length-append ns (map f (listed g j)), length-map (listed g j) f, length-listed g j) in
    let name' : id ≡ length ns + j = i ∙ at in
    let entry : (name_of_word marks (length ms), word w) ≡ f (g j) =
    ap (λ q. (name_of_word marks q, word w)) at ∙ sym (entry_of_next marks (length ns) a j es m w (sym s)) in
    let one : ts ≡ qs ++ listed g (suc j) =
    t ∙ (ap (λ q. rs ++ record { memory = record { 0 = m }; address = j; name = record { 0 = q } } ∷ []) name' ∙ (ap (λ q. q ++ g j ∷ []) r ∙ append_assoc qs (listed g j) (g j ∷ []))) in
    let two : ks ≡ ns ++ map f (listed g (suc j)) =
    k ∙ (ap (λ q. q ++ (name_of_word marks (length ms), word w) ∷ []) n ∙ (append_assoc ns (map f (listed g j)) ((name_of_word marks (length ms), word w) ∷ [])
    ∙ (ap (λ (q : Name × Sort). ns ++ (map f (listed g j) ++ q ∷ [])) entry ∙ ap (λ q. ns ++ q) (sym (map-append f (listed g j) (g j ∷ [])))))) in
    (subst (λ q. ts ≡ qs ++ listed g q) p one, subst (λ q. ks ≡ ns ++ map f (listed g q)) p two)

-- one memory more
pub memories_turn : (marks : ℕ) (es : Entries Sort) (place : ℕ) (ns ms : Entries Sort) (rs ts : List MemoryWord) (fs hs : List ℕ) → place < length es
    → AddsWords marks es place ns ms rs ts → hs ≡ fs ++ length ns ∷ []
    → rs ++ words_of place (length ns) (drop place es) ≡ words_of 0 (length es) es → ns ≡ es ++ map (entry_of_word marks es) rs → fs ++ starts_of (length ns) (drop place es) ≡ starts_of (length es) es
    → (ts ++ words_of (place + 1) (length ms) (drop (place + 1) es) ≡ words_of 0 (length es) es) × (ms ≡ es ++ map (entry_of_word marks es) ts) × (hs ++ starts_of (length ms) (drop (place + 1) es) ≡ starts_of (length es) es)
memories_turn marks es place ns ms rs ts fs hs b a h r n f =
    let e = entry_at es place in
    let g = listed (word_at place (length ns)) (word_count e.1) in
    let rest = drop (place + 1) es in
    let d : drop place es ≡ e ∷ rest = drop_more es place ([], truth) b in
    let p : suc place ≡ place + 1 = omega arith in
    let count : length ms ≡ length ns + word_count e.1 =
    omega (arith, ap length a.names, length-append ns (map (entry_of_word marks es) g), length-map g (entry_of_word marks es), length-listed (word_at place (length ns)) (word_count e.1)) in (
      ap (λ q. q ++ words_of (place + 1) (length ms) rest) a.list ∙ (append_assoc rs g (words_of (place + 1) (length ms) rest)
          ∙ (ap (λ q. rs ++ (g ++ words_of (place + 1) q rest)) count ∙ (ap (λ q. rs ++ (g ++ words_of q (length ns + word_count e.1) rest)) (sym p)
          ∙ (ap (λ q. rs ++ words_of place (length ns) q) (sym d) ∙ r)))),
      a.names ∙ (ap (λ q. q ++ map (entry_of_word marks es) g) n ∙ (append_assoc es (map (entry_of_word marks es) rs) (map (entry_of_word marks es) g)
          ∙ ap (λ q. es ++ q) (sym (ap (map (entry_of_word marks es)) a.list ∙ map-append (entry_of_word marks es) rs g)))),
      ap (λ q. q ++ starts_of (length ms) rest) h ∙ (append_assoc fs (length ns ∷ []) (starts_of (length ms) rest)
          ∙ (ap (λ q. fs ++ (length ns ∷ starts_of q rest)) count ∙ (ap (λ q. fs ++ starts_of (length ns) q) (sym d) ∙ f))),
    )

pub memories_start : (marks : ℕ) (es : Entries Sort) (g : Graph) → g ≡ record { names = es; nodes = [] } → AllHaveFewer marks es
    → (words_of 0 (length g.names) es ≡ words_of 0 (length es) es) × (g.names ≡ es ++ []) × (starts_of (length g.names) es ≡ starts_of (length es) es) × (g.nodes ≡ []) × AreFree marks g.names
memories_start marks es g e h =
    let n : g.names ≡ es = ap (λ (x : Graph). x.names) e in
    (ap (λ ns. words_of 0 (length ns) es) n, n ∙ sym (append-nil es), ap (λ ns. starts_of (length ns) es) n, ap (λ (x : Graph). x.nodes) e, subst (AreFree marks) (sym n) (free_start marks es h))
