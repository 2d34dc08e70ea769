-- Names with a bit among spans.
use Rattle.std.proofs.Common.{◌≡◌, ◌∙◌, ℕ, ◌+◌, ◌<◌, ◌≤◌, refl, sym, ap, Bool, true, false, not, cond, inl, inr, ◌⊎◌, List, [], ◌∷◌, length, drop, get_or, Bor, arith}
use Rattle.std.specs.Prelude.{◌↔◌, ◌&&◌, ◌||◌, ◌==◌, nat_le, nat_lt, IsTrue}
use Rattle.std.proofs.lemmas.Bool.{false≢true, or_left, or_right}
use Rattle.std.proofs.lemmas.List.{drop_more, drop_all}
use Rattle.std.specs.Ordering.{nat_cmp}
use Rattle.std.specs.Cmp.Lexicographic.{slice_cmp}
use Rattle.std.specs.BTreeSet as sorted
use Rattle.std.specs.BTreeSet.{BTreeSet}
use Rattle.std.proofs.lemmas.Map.Text.{is_eq-slice_cmp}
use Rattle.wb_values.specs.Value.{Name, same_name}
use Rattle.verilog_trees.specs.Syntax.{Statement}
use Rattle.verilog_meaning.specs.Expression.{Scope}
use Rattle.verilog_meaning.specs.Register.{is_set, counts}
use Rattle.v_masks.proofs.Bits.{some-bit, set-none}
use Rattle.v_hier.specs.Tables.{has_name}
use Rattle.v_flow.specs.declared.span.Span.{Span}
use Rattle.v_flow.specs.Spans.{is_between, bits_of, bits_in}
use Rattle.v_registers.specs.Registers.{HasCounted}
use Rattle.map_memories.specs.Spans.{has_bits, is_among}
use Rattle.map_memories.proofs.Tests.{both_true, left_of, right_of, either, tests_same, not_zero, below_is, is_below, is_from, between}

-- some bit of the name
abbrev SomeBit : List Span → Name → Type 0
SomeBit xs n = (k : ℕ) × (b : ℕ) × (bits_in xs n k b ≡ true)

starts : (m n : ℕ) → m < n → is_between m n m ≡ true
starts m n h = both_true (nat_le m m) (nat_lt m n) (is_from m) (is_below m n h)

span_bit : (x : Span) (n : Name) → has_bits x ≡ true → same_name x.name.now n ≡ true → (k : ℕ) × (b : ℕ) × (bits_of x n k b ≡ true)
span_bit x n h e =
    let words : x.from_word < x.to_word = below_is x.from_word x.to_word (left_of (nat_lt x.from_word x.to_word) (not (x.bits == 0)) h) in
    let some = some-bit x.bits x.bits (omega arith) (not_zero x.bits (right_of (nat_lt x.from_word x.to_word) (not (x.bits == 0)) h)) in (
      x.from_word,
      some.0,
      both_true (same_name x.name.now n) (is_between x.from_word x.to_word x.from_word && is_set x.bits some.0) e
          (both_true (is_between x.from_word x.to_word x.from_word) (is_set x.bits some.0) (starts x.from_word x.to_word words) some.1),
    )

between_words : (m n k : ℕ) → is_between m n k ≡ true → nat_lt m n ≡ true
between_words m n k h = between m n k (left_of (nat_le m k) (nat_lt k n) h) (right_of (nat_le m k) (nat_lt k n) h)

has_one : (m b : ℕ) → is_set m b ≡ true → not (m == 0) ≡ true
has_one m b h = by (m == 0) refl where
  by : (t : Bool) → (m == 0) ≡ t → not t ≡ true
  by false e = refl
  by true e = let zero : m ≡ 0 = tests_same m 0 e in absurd (false≢true (sym (set-none b) ∙ (ap (λ k. is_set k b) (sym zero) ∙ h)))

bit_span : (x : Span) (n : Name) (k b : ℕ) → bits_of x n k b ≡ true → (has_bits x && same_name x.name.now n) ≡ true
bit_span x n k b h =
    let named : same_name x.name.now n ≡ true = left_of (same_name x.name.now n) (is_between x.from_word x.to_word k && is_set x.bits b) h in
    let rest : (is_between x.from_word x.to_word k && is_set x.bits b) ≡ true
    = right_of (same_name x.name.now n) (is_between x.from_word x.to_word k && is_set x.bits b) h in
    both_true (has_bits x) (same_name x.name.now n)
    (both_true (nat_lt x.from_word x.to_word) (not (x.bits == 0))
    (between_words x.from_word x.to_word k (left_of (is_between x.from_word x.to_word k) (is_set x.bits b) rest))
    (has_one x.bits b (right_of (is_between x.from_word x.to_word k) (is_set x.bits b) rest))) named

among_bit : (xs : List Span) (n : Name) → is_among xs n ≡ true → SomeBit xs n
among_bit [] n h = absurd (false≢true h)
among_bit (x ∷ xs) n h = by (either (has_bits x && same_name x.name.now n) (is_among xs n) h) (among_bit xs n) where
  by : ((has_bits x && same_name x.name.now n) ≡ true) ⊎ (is_among xs n ≡ true) → (is_among xs n ≡ true → SomeBit xs n) → SomeBit (x ∷ xs) n
  by (inl t) next =
      let r = span_bit x n (left_of (has_bits x) (same_name x.name.now n) t) (right_of (has_bits x) (same_name x.name.now n) t) in
      (r.0, r.1, or_left (bits_of x n r.0 r.1) (bits_in xs n r.0 r.1) r.2)
  by (inr t) next = let r = next t in (r.0, r.1, or_right (bits_of x n r.0 r.1) (bits_in xs n r.0 r.1) r.2)

bit_among : (xs : List Span) (n : Name) (k b : ℕ) → bits_in xs n k b ≡ true → is_among xs n ≡ true
bit_among [] n k b h = absurd (false≢true h)
bit_among (x ∷ xs) n k b h = by (either (bits_of x n k b) (bits_in xs n k b) h) (bit_among xs n k b) where
  by : (bits_of x n k b ≡ true) ⊎ (bits_in xs n k b ≡ true) → (bits_in xs n k b ≡ true → is_among xs n ≡ true) → ((has_bits x && same_name x.name.now n) || is_among xs n) ≡ true
  by (inl t) next = or_left (has_bits x && same_name x.name.now n) (is_among xs n) (bit_span x n k b t)
  by (inr t) next = or_right (has_bits x && same_name x.name.now n) (is_among xs n) (next t)

pub names_are_counted : (xs : List Span) (s : Scope) (clocked : List Statement) (found : Name → Bool) → bits_in xs ≡ counts s clocked → ((n : Name) → found n ≡ is_among xs n)
    → (n : Name) → IsTrue (found n) ↔ HasCounted s clocked n
names_are_counted xs s clocked found same told n = (
  (λ t. let r = among_bit xs n (sym (told n) ∙ t) in record { word = r.0; bit = r.1; counts = sym (ap (λ f. f n r.0 r.1) same) ∙ r.2 }),
  (λ h. told n ∙ bit_among xs n h.word h.bit (ap (λ f. f n h.word h.bit) same ∙ h.counts)),
)

-- ---- names that are gathered

has_more : (s n : BTreeSet (Bor (List ℕ))) (k : Bor (List ℕ)) → sorted.Updates (λ x y. slice_cmp nat_cmp x.now y.now) s n k true → (q : Name)
    → has_name n q ≡ cond (same_name k.now q) true (has_name s q)
has_more s n k u q =
    let at_q : Bor (List ℕ) = record { ref_ptr = (0, 0); now = q } in
    u.0 at_q ∙ ap (λ b. cond b true (has_name s q)) (is_eq-slice_cmp k.now q)

pub name_added : (x : Span) (s n : BTreeSet (Bor (List ℕ))) (q : Name) → has_bits x ≡ true
    → sorted.Updates (λ x y. slice_cmp nat_cmp x.now y.now) s n x.name true
    → has_name n q ≡ cond (has_bits x) (same_name x.name.now q || has_name s q) (has_name s q)
name_added x s n q h u =
    has_more s n x.name u q
    ∙ (either_way (same_name x.name.now q) (has_name s q) ∙ ap (λ b. cond b (same_name x.name.now q || has_name s q) (has_name s q)) (sym h))
  where
    either_way : (e h : Bool) → cond e true h ≡ (e || h)
    either_way true h = refl
    either_way false h = refl

pub name_turn : (xs : List Span) (i : ℕ) (r d : Span) (old new : Bool) (q : Name) → i < length xs → r ≡ get_or xs i d
    → new ≡ cond (has_bits r) (same_name r.name.now q || old) old → (old || is_among (drop i xs) q) ≡ is_among xs q → (new || is_among (drop (i + 1) xs) q) ≡ is_among xs q
name_turn xs i r d old new q lt is grown h =
    let rest : is_among (drop i xs) q ≡ ((has_bits r && same_name r.name.now q) || is_among (drop (i + 1) xs) q)
    = ap (λ ys. is_among ys q) (drop_more xs i d lt ∙ ap (λ y. y ∷ drop (i + 1) xs) (sym is)) in
    ap (λ b. b || is_among (drop (i + 1) xs) q) grown ∙ (moved (has_bits r) (same_name r.name.now q) old (is_among (drop (i + 1) xs) q) ∙ (ap (λ b. old || b) (sym rest) ∙ h))
  where
    moved : (h e o l : Bool) → (cond h (e || o) o || l) ≡ (o || ((h && e) || l))
    moved true true true l = refl
    moved true true false l = refl
    moved true false o l = refl
    moved false e o l = refl

or_none : (b : Bool) → (b || false) ≡ b
or_none true = refl
or_none false = refl

pub name_end : (xs : List Span) (i : ℕ) (b : Bool) (q : Name) → length xs ≤ i → (b || is_among (drop i xs) q) ≡ is_among xs q → b ≡ is_among xs q
name_end xs i b q le h = sym (or_none b) ∙ (ap (λ ys. b || is_among ys q) (sym (drop_all i xs le)) ∙ h)
