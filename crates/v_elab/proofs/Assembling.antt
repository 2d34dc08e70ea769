-- The parts of a design that a lowered module gives, and what holds of them.
use Rattle.std.proofs.Common.{◌≡◌, ◌∙◌, ◌+◌, ◌^◌, ◌<◌, ◌≤◌, ◌%◌, ◌/◌, ℕ, suc, refl, ap, sym, subst, Bool, true, false, not, ◌&&◌, nat_lt, nat_le, ◌==◌, min, take, drop, length, slice_index, List, [], ◌∷◌, ◌++◌, map, ◌⊎◌, inl, inr, Option, Some, None, is_some, is_none, unwrap_or, option_map, arith, mod-lt, pow_pos}
use Rattle.std.specs.Int.{bit_at}
use Rattle.std.proofs.lemmas.Bool.{cases_lt, and_parts, and_from, false≢true, true≢false}
use Rattle.std.proofs.lemmas.Bool.Decides.{nat_tests}
use Rattle.std.proofs.lemmas.Nat.{shr_split}
use Rattle.std.proofs.lemmas.Nat.Bits.{bit_at-lt, bit_at_above, bit_at_cat_low, same_from_bits}
use Rattle.wb_values.specs.Value.{Name, Sort, truth, word, memory, all_below, Entries, entry_of}
use Rattle.model_meaning.specs.Term.{sort_of, same_sort}
use Rattle.verilog_trees.specs.Syntax.{Statement}
use Rattle.verilog_meaning.specs.Expression.{Object, Scope, object_width, is_memory}
use Rattle.verilog_meaning.specs.Register.{word_count, words_between, is_set, is_bit_of, counts, one_may_assign, clocked_blocks}
use Rattle.verilog_unique.proofs.Descent.{IsAmong}
use Rattle.wb_terms.specs.Graph.{Graph, tree, HasDistinctNames}
use Rattle.wb_terms.specs.declared.nodes.TermId.{TermId}
use Rattle.v_lower.specs.Lowered.{Images, IsSortOf, IsImage}
use Rattle.v_edge.specs.Edge.{AreUpdated}
use Rattle.v_design.specs.Registers.{CountedBits}
use Rattle.v_design.specs.Parts.{Parts, has_sort, is_term_of, are_terms_of, is_within, is_word, are_words, are_bits_of, are_bits_for}
use Rattle.v_registers.specs.Registers.{IsRegister, AreMasks, Counted}
use Rattle.v_elab.specs.Names.{AreEntriesOf, AreDistinct, ArePlain, HasSmallAddresses, HaveTerms, chosen}
use Rattle.v_elab.specs.Elaborated.{Body, IsElaborated, register_names, bits_of}
use Rattle.v_elab.specs.Begun.{IsLowered}
use Rattle.v_elab.proofs.Entries.{first_entries, last_entries, not_named}
use Rattle.v_elab.proofs.Once.{test_among, found}
use Rattle.v_elab.proofs.Sorts.{same_sorts, all_narrow}
use Rattle.v_elab.proofs.Choosing.{store_distinct, chosen_plain}
use Rattle.v_elab.proofs.Starting.{AreRegistersOf, AreUncounted, registers_of_split}

-- ---- tests

equal : (a b : ℕ) → a ≡ b → (a == b) ≡ true
equal a b e = grind (arith, nat_tests)

less : (a b : ℕ) → a < b → nat_lt a b ≡ true
less a b e = grind (arith, nat_tests)

at_most : (a b : ℕ) → a ≤ b → nat_le a b ≡ true
at_most a b e = grind (arith, nat_tests)

itself : (t : Sort) → same_sort t t ≡ true
itself truth = refl
itself (word w) = equal w w refl
itself (memory a w) = and_from (a == a) (w == w) (equal a a refl) (equal w w refl)

bit_from_set : (m n : ℕ) → m < 2 → n < 2 → (m == 1) ≡ (n == 1) → m ≡ n
bit_from_set m n p q e = grind (arith, nat_tests)

same_numbers : (x y : ℕ) → ((b : ℕ) → is_set x b ≡ is_set y b) → x ≡ y
same_numbers x y h = same_from_bits x y (λ b. bit_from_set (bit_at x b) (bit_at y b) (bit_at-lt x b) (bit_at-lt y b) (h b))

-- a number whose bits lie below w is below 2^w
below_from_bits : (w x : ℕ) → ((b : ℕ) → is_set x b ≡ true → b < w) → x < 2 ^ w
below_from_bits w x h = subst (λ y. y < 2 ^ w) (same_numbers (x % 2 ^ w) x (λ b. one b (cases_lt b w))) (mod-lt x (pow_pos w))
  where
    unset : (b : ℕ) → (b < w → ⊥) → (t : Bool) → is_set x b ≡ t → t ≡ false
    unset b n true e = absurd (n (h b e))
    unset b n false e = refl

    one : (b : ℕ) → (b < w) ⊎ (w ≤ b) → is_set (x % 2 ^ w) b ≡ is_set x b
    one b (inl l) = ap (λ z. z == 1) (sym (bit_at_cat_low (x / 2 ^ w) w (x % 2 ^ w) b l) ∙ ap (λ y. bit_at y b) (shr_split x w))
    one b (inr g) =
        ap (λ z. z == 1) (bit_at_above (x % 2 ^ w) w b (mod-lt x (pow_pos w)) g) ∙ sym (unset b (λ l. omega (arith, l, g)) (is_set x b) refl)

-- ---- terms of registers

or_zero : Option ℕ → ℕ
or_zero None = 0
or_zero (Some x) = x

module _ (s : Scope) (g : Graph) (next : Images) (images : (n : Name) (id : ℕ) → next n ≡ Some id → IsImage s g n id) where
  a_term : (n : Name) (t : Sort) (id : ℕ) → IsSortOf (s n) t → IsImage s g n id → is_term_of g t id ≡ true
  a_term n t id h i =
      and_from (nat_lt id (length g.nodes)) (has_sort t (sort_of (tree g id))) (less id (length g.nodes) i.of_sort.below)
      (ap (has_sort t) i.of_sort.sort ∙ ap (λ r. same_sort r t) (same_sorts (s n) i.sort t i.of_name h) ∙ itself t)

  pub terms_of : (es : Entries Sort) (ns : List Name) (ids : List ℕ) → AreEntriesOf s ns es → map (λ id. Some id) ids ≡ map next ns → are_terms_of g es ids ≡ true
  terms_of [] [] [] h e = refl
  terms_of [] [] (id ∷ ids) h e = absurd (no_more (ap length e))
    where
      no_more : suc (length (map (λ i. Some i) ids)) ≡ 0 → ⊥
      no_more q = omega (arith, q)
  terms_of [] (n ∷ ns) ids h e = absurd h
  terms_of (x ∷ es) [] ids h e = absurd h
  terms_of (x ∷ es) (n ∷ ns) [] h e = absurd (none_left (ap length e))
    where
      none_left : 0 ≡ suc (length (map next ns)) → ⊥
      none_left q = omega (arith, q)
  terms_of (x ∷ es) (n ∷ ns) (id ∷ ids) h e =
      and_from (is_term_of g x.1 id) (are_terms_of g es ids)
      (a_term n x.1 id h.1 (images n id (sym (ap first e))))
      (terms_of es ns ids h.2 (ap rest e))
    where
      first : List (Option ℕ) → Option ℕ
      first [] = None
      first (o ∷ os) = o

      rest : List (Option ℕ) → List (Option ℕ)
      rest [] = []
      rest (o ∷ os) = os

  pub inside : (o : Option ℕ) (n : Name) → next n ≡ o → is_within g o ≡ true
  inside None n e = refl
  inside (Some id) n e = less id (length g.nodes) (images n id e).of_sort.below

-- ---- bits of registers

module _ (s : Scope) (q : List Statement) (small : HasSmallAddresses s) where
  mask_below : (n : Name) (masks : List ℕ) (w : ℕ) → AreMasks s q n masks → w ≡ object_width (s n) → all_below w masks ≡ true
  mask_below n masks w m e =
      all_narrow w masks (λ k. below_from_bits w (slice_index masks k) (λ b h. subst (λ z. b < z) (sym e) (in_width k b (sym (m.counted k b) ∙ h))))
    where
      is_less : (a b : ℕ) → nat_lt a b ≡ true → a < b
      is_less a b h = grind (arith, nat_tests)

      in_width : (k b : ℕ) → counts s q n k b ≡ true → b < object_width (s n)
      in_width k b h =
          is_less b (object_width (s n))
          (and_parts (nat_lt k (word_count (s n))) (nat_lt b (object_width (s n))) (and_parts (is_bit_of (s n) k b) (one_may_assign s q n k b) h).0).1

  abbrev least_of : Option (ℕ × ℕ) → Option ℕ
  least_of a = option_map (λ x. min x.0 x.1) a

  one_word : (a : Option (ℕ × ℕ)) (k : ℕ) → not (is_some a) ≡ true → k ≡ words_between a → (is_none (least_of a) && (k == 1)) ≡ true
  one_word None k h e = equal k 1 e
  one_word (Some x) k h e = absurd (false≢true h)

  some_words : (a : Option (ℕ × ℕ)) (k : ℕ) → is_some a ≡ true → k ≡ words_between a → ((x : ℕ × ℕ) → a ≡ Some x → (x.0 ≤ 65535) × (x.1 ≤ 65535))
      → (is_some (least_of a) ≡ true) × (nat_le (unwrap_or (least_of a) 0 + k) 65536 ≡ true)
  some_words None k h e f = absurd (false≢true h)
  some_words (Some x) k h e f = (refl, at_most (min x.0 x.1 + k) 65536 (room x.0 x.1 k (f x refl).0 (f x refl).1 e))
    where
      room : (a b k : ℕ) → a ≤ 65535 → b ≤ 65535 → k ≡ words_between (Some (a, b)) → min a b + k ≤ 65536
      room a b k i j h = omega (arith, i, j, h)

  bits_so : (c : Counted) (t : Sort) → IsSortOf (s c.of_name) t → AreMasks s q c.of_name c.masks → are_bits_of t (bits_of s c) ≡ true
  bits_so c truth h m = absurd h
  bits_so c (word w) h m =
      let one = and_parts (is_none (least_of (s c.of_name).addresses)) (length c.masks == 1) (one_word (s c.of_name).addresses (length c.masks) h.0 m.each_word) in
      and_from (is_none (least_of (s c.of_name).addresses)) (length c.masks == 1 && all_below w c.masks) one.0
      (and_from (length c.masks == 1) (all_below w c.masks) one.1 (mask_below c.of_name c.masks w m h.1))
  bits_so c (memory a w) h m =
      let some = some_words (s c.of_name).addresses (length c.masks) h.0 m.each_word (small c.of_name) in
      and_from (is_some (least_of (s c.of_name).addresses)) _ some.0
      (and_from (nat_le (length c.masks) (2 ^ a)) _ (at_most (length c.masks) (2 ^ a) (subst (λ k. k ≤ 2 ^ a) (sym m.each_word) h.1.enough))
      (and_from (nat_le (unwrap_or (least_of (s c.of_name).addresses) 0 + length c.masks) 65536) (all_below w c.masks) some.1 (mask_below c.of_name c.masks w m h.2)))

  pub bits_for : (f : Name → Bool) (es : Entries Sort) (cs : List Counted) → AreEntriesOf s (register_names cs) es → AreRegistersOf s q f cs
      → are_bits_for es (map (bits_of s) cs) ≡ true
  bits_for f [] [] h k = refl
  bits_for f [] (c ∷ cs) h k = absurd h
  bits_for f (e ∷ es) [] h k = absurd h
  bits_for f (e ∷ es) (c ∷ cs) h k =
      and_from (are_bits_of e.1 (bits_of s c)) (are_bits_for es (map (bits_of s) cs)) (bits_so c e.1 h.1 k.1) (bits_for f es cs h.2 k.2)

-- ---- inputs

plain_word : (o : Object) (t : Sort) → is_memory o ≡ false → IsSortOf o t → is_word t ≡ true
plain_word o truth m h = absurd h
plain_word o (word w) m h = refl
plain_word o (memory a w) m h = absurd (true≢false (sym h.0 ∙ m))

pub words_of : (s : Scope) (es : Entries Sort) (ns : List Name) → AreEntriesOf s ns es → ArePlain s ns → are_words es ≡ true
words_of s [] [] h p = refl
words_of s [] (n ∷ ns) h p = absurd h
words_of s (e ∷ es) [] h p = absurd h
words_of s (e ∷ es) (n ∷ ns) h p = and_from (is_word e.1) (are_words es) (plain_word (s n) e.1 p.0 h.1) (words_of s es ns h.2 p.1)

-- ---- names

distinct_of : (s : Scope) (es : Entries Sort) (ns : List Name) → AreEntriesOf s ns es → AreDistinct ns → HasDistinctNames es
distinct_of s [] [] h d = tt
distinct_of s [] (n ∷ ns) h d = absurd h
distinct_of s (e ∷ es) [] h d = absurd h
distinct_of s (e ∷ es) (n ∷ ns) h d =
    (none (entry_of es e.0) (not_named s ns es e.0 h.2 (λ k. true≢false (sym (test_among ns n (subst (IsAmong ns) h.0 k)) ∙ d.0))), distinct_of s es ns h.2 d.1)
  where
    none : (o : Option Sort) → is_some o ≡ false → o ≡ None
    none None k = refl
    none (Some x) k = absurd (true≢false k)

pub length_entries : (s : Scope) (ns : List Name) (es : Entries Sort) → AreEntriesOf s ns es → length es ≡ length ns
length_entries s [] [] h = refl
length_entries s [] (e ∷ es) h = absurd h
length_entries s (n ∷ ns) [] h = absurd h
length_entries s (n ∷ ns) (e ∷ es) h = ap suc (length_entries s ns es h.2)

long_so : (cs : List Counted) (ns : List Name) → length cs ≤ length (register_names cs ++ ns)
long_so [] ns = omega arith
long_so (c ∷ cs) ns = let r : length cs ≤ length (register_names cs ++ ns) = long_so cs ns in omega (arith, r)

many_names : (cs : List Counted) → length (register_names cs) ≡ length cs
many_names [] = refl
many_names (c ∷ cs) = ap suc (many_names cs)

-- ---- what the code's tables and lists say

pub some_of : (ids : List TermId) → map (λ (i : ℕ). Some i) (map (λ (id : TermId). id.0) ids) ≡ map (λ (id : TermId). Some id.0) ids
some_of [] = refl
some_of (id ∷ ids) = ap (λ xs. Some id.0 ∷ xs) (some_of ids)

-- ---- what is lowered

module _ (b : Body) (f : Name → Bool) (cs : List Counted) (g : Graph) (after next : Images) (x : IsLowered b f cs g after next) where
  same_store : g.names ≡ x.start.names
  same_store = x.grows_more.names ∙ x.grows.names

  entries : AreEntriesOf b.scope (register_names cs ++ chosen f x.has_begun.others) g.names
  entries = subst (AreEntriesOf b.scope (register_names cs ++ chosen f x.has_begun.others)) (sym same_store) x.has_begun.entries

  first_names : AreEntriesOf b.scope (register_names cs) (take (length cs) g.names)
  first_names =
      subst (λ k. AreEntriesOf b.scope (register_names cs) (take k g.names)) (many_names cs)
      (first_entries b.scope (register_names cs) (chosen f x.has_begun.others) g.names entries)

  last_names : AreEntriesOf b.scope (chosen f x.has_begun.others) (drop (length cs) g.names)
  last_names =
      subst (λ k. AreEntriesOf b.scope (chosen f x.has_begun.others) (drop k g.names)) (many_names cs)
      (last_entries b.scope (register_names cs) (chosen f x.has_begun.others) g.names entries)

  -- registers have terms in the second table
  have_terms : (ks : List Counted) → ((n : Name) → IsAmong (register_names ks) n → is_some (next n) ≡ true) → HaveTerms next (register_names ks)
  have_terms [] h = tt
  have_terms (c ∷ ks) h = (h c.of_name (inl refl), have_terms ks (λ n k. h n (inr k)))

  pub next_terms : HaveTerms next (register_names cs)
  next_terms =
      have_terms cs
      (λ n k. x.updated.names_next n ∙ x.has_begun.all_first n
      ∙ test_among b.declared n (found b.scope (clocked_blocks b.items) b.declared cs x.has_begun.others n x.has_begun.split k).name)

  pub counted_so : (k : ℕ) → k ≡ length cs → k ≤ length g.names
  counted_so k e =
      let l : length g.names ≡ length (register_names cs ++ chosen f x.has_begun.others) = length_entries b.scope (register_names cs ++ chosen f x.has_begun.others) g.names entries in
      let r : length cs ≤ length (register_names cs ++ chosen f x.has_begun.others) = long_so cs (chosen f x.has_begun.others) in
      omega (arith, e, l, r)

  pub terms_so : (k : ℕ) (ids : List ℕ) → k ≡ length cs → map (λ id. Some id) ids ≡ map next (register_names cs) → are_terms_of g (take k g.names) ids ≡ true
  terms_so k ids e h =
      ap (λ j. are_terms_of g (take j g.names) ids) e
      ∙ terms_of b.scope g next x.updated.known_next.image (take (length cs) g.names) (register_names cs) ids first_names h

  pub within_so : (n : Name) → is_within g (after n) ≡ true
  within_so n = inside b.scope g after x.updated.known.image (after n) n refl

  module _ (apart : (n : Name) → f n ≡ true → ¬ IsRegister b.scope (clocked_blocks b.items) n) where
    known : AreRegistersOf b.scope (clocked_blocks b.items) f cs × AreUncounted b.scope (clocked_blocks b.items) f x.has_begun.others
    known = registers_of_split b.scope (clocked_blocks b.items) f apart b.declared cs x.has_begun.others x.has_begun.split

    pub bits_are : HasSmallAddresses b.scope → (k : ℕ) (bits : List CountedBits) → k ≡ length cs → bits ≡ map (bits_of b.scope) cs
        → are_bits_for (take k g.names) bits ≡ true
    bits_are small k bits e h =
        ap (λ j. are_bits_for (take j g.names) bits) e
        ∙ ap (are_bits_for (take (length cs) g.names)) h
        ∙ bits_for b.scope (clocked_blocks b.items) small f (take (length cs) g.names) cs first_names known.0

    pub words_are : (k : ℕ) → k ≡ length cs → are_words (drop k g.names) ≡ true
    words_are k e =
        ap (λ j. are_words (drop j g.names)) e
        ∙ words_of b.scope (drop (length cs) g.names) (chosen f x.has_begun.others) last_names (chosen_plain b.scope (clocked_blocks b.items) f x.has_begun.others known.1)

  pub elaborated : (e : Parts) (outputs : List Name) → AreDistinct b.declared → e.graph ≡ g → e.register_count ≡ length cs → e.bits ≡ map (bits_of b.scope) cs → e.outputs ≡ outputs
      → ((n : Name) → e.settled n ≡ after n) → map (λ id. Some id) e.next ≡ map next (register_names cs) → IsElaborated b f outputs e
  elaborated e outputs distinct same count bits outputs_are settled terms =
      record {
        distinct = distinct_of b.scope e.graph.names (register_names cs ++ chosen f x.has_begun.others) stored
            (store_distinct b.scope (clocked_blocks b.items) f b.declared cs x.has_begun.others x.has_begun.split distinct);
        registers = cs;
        others = x.has_begun.others;
        split = x.has_begun.split;
        entries = stored;
        counted = count;
        bits = bits;
        outputs_are = outputs_are;
        start = x.start;
        given = x.given;
        first = x.first;
        is_start = x.has_begun.is_start;
        all_given = x.has_begun.all_given;
        all_first = x.has_begun.all_first;
        start_names = sym (ap (λ (z : Graph). z.names) same ∙ same_store);
        middle = x.middle;
        nets = x.nets;
        evaluated = x.evaluated;
        grows = x.grows;
        after = after;
        next = next;
        updated = subst (AreUpdated b.scope x.nets x.first x.middle (clocked_blocks b.items) after next) (sym same) x.updated;
        settled = settled;
        next_terms = terms;
      }
    where
      stored : AreEntriesOf b.scope (register_names cs ++ chosen f x.has_begun.others) e.graph.names
      stored = subst (λ (z : Graph). AreEntriesOf b.scope (register_names cs ++ chosen f x.has_begun.others) z.names) (sym same) entries
