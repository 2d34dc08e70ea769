-- Bits of registers that do not count.
use Rattle.std.proofs.Common.{◌≡◌, ℕ, zero, suc, ◌+◌, ◌-◌, ◌<◌, ◌≤◌, ◌^◌, Bool, true, false, ◌&&◌, nat_lt, nat_le, is_some, is_none, List, [], ◌∷◌, length, get_or, Some, bit_and, refl, sym, ap, ◌∙◌, subst, arith, eq-eqb, inl, inr}
use Rattle.std.specs.Prelude.{◌↔◌, ◌==◌, ⊤, unwrap_or, min, IsTrue, slice_get, slice_index}
use Rattle.std.specs.Int.{bit_at}
use Rattle.std.proofs.lemmas.Bool.{false≢true, cases_lt}
use Rattle.std.proofs.lemmas.Bool.Decides.{nat_tests}
use Rattle.std.proofs.lemmas.Nat.{and_le_l, and_mask, pow_pos}
use Rattle.std.proofs.lemmas.Nat.Bits.{bit_at-zero, bit_at_and, bit_at-lt, same_from_bits_below}
use Rattle.std.proofs.lemmas.Option.{slice_get_within}
use Rattle.std.proofs.lemmas.List.{get_or_past, length-map}
use Rattle.std.proofs.lemmas.Grind.{get_or_default_zero}
use Rattle.std.proofs.Math.Nat.{mod-eq_of_lt}
use Rattle.wb_values.specs.Value.{Sort, truth, word, memory, Value, truth_value, number, words, as_truth, as_number, as_words, all_below, Entries, Valuation, HasSort}
use Rattle.wb_values.specs.Choice.{some_if}
use Rattle.model_meaning.specs.Term.{Term, const, and, conjunction, same_bits_sort, sort_of, val}
use Rattle.verilog_meaning.specs.Register.{is_set, value_bit}
use Rattle.wb_terms.specs.declared.nodes.TermId.{TermId}
use Rattle.wb_terms.specs.Graph.{Graph, tree}
use Rattle.wb_terms.proofs.EnvironmentLemmas.{length-memory, memory_word}
use Rattle.term_copies.specs.Copies.{IsExtended, id_at, declared_at}
use Rattle.term_copies.proofs.Extending.{tree_kept, extended_trans}
use Rattle.v_design.specs.Registers.{CountedBits}
use Rattle.v_design.specs.Parts.{Parts, are_bits_of, are_bits_for}
use Rattle.mapped_designs.specs.Runs.{IsRestZero}
use Rattle.run_terms.specs.Names.{FitsNames}
use Rattle.run_terms.proofs.Values.{fits_before}
use Rattle.condition_terms.specs.Told.{IsTermOf, Tells, IsJoined, is_true}
use Rattle.condition_terms.proofs.Forming.{IsTermOf-kept, Tells-kept, Tells-same, told_both, told_truth, number_form}
use Rattle.condition_terms.proofs.Comparing.{word_of, constant_is, width_of_word}
use Rattle.model_terms.specs.Symbolic.{worths}
use Rattle.fact_terms.proofs.Rows.{some_same, each_where}
use Rattle.obligation_terms.specs.Rest.{IsWithin, IsWithinMasks}

no_one : (x : ℕ) → x < 2 → (x == 1) ≡ false → x ≡ 0
no_one zero l e = refl
no_one (suc zero) l e = absurd (false≢true (sym e))
no_one (suc (suc x)) l e = absurd (omega (arith, l))

unset : (x b : ℕ) → is_set x b ≡ false → bit_at x b ≡ 0
unset x b h = no_one (bit_at x b) (bit_at-lt x b) h

is_unset : (x b : ℕ) → bit_at x b ≡ 0 → is_set x b ≡ false
is_unset x b e = ap (λ z. z == 1) e

least : (x y z : ℕ) → z ≡ min x y → y ≡ 0 → z ≡ x → x ≡ 0
least x y z a b c = omega (arith, a, b, c)

lower : (x y : ℕ) → x < 2 → y < 2 → ((y == 1) ≡ false → x ≡ 0) → min x y ≡ x
lower x zero l k h = omega (arith, h refl)
lower x (suc zero) l k h = omega (arith, l)
lower x (suc (suc y)) l k h = absurd (omega (arith, k))

-- They are 0 exactly where the word is what its mask leaves of it.
pub rest_where : (w n m : ℕ) → n < 2 ^ w → (bit_and n m ≡ n) ↔ ((b : ℕ) → is_set m b ≡ false → is_set n b ≡ false)
rest_where w n m l = (
  λ e b h. is_unset n b (least (bit_at n b) (bit_at m b) (bit_at (bit_and n m) b) (bit_at_and n m b) (unset m b h) (ap (λ x. bit_at x b) e)),
  λ h. same_from_bits_below w (bit_and n m) n (omega (arith, l, and_le_l n m)) l
      (λ i b. bit_at_and n m i ∙ lower (bit_at n i) (bit_at m i) (bit_at-lt n i) (bit_at-lt m i) (λ e. unset n i (h i e))),
)

-- ---- a word and its mask

pub below_word : (x : Value) (w : ℕ) → HasSort x (word w) → as_number x < 2 ^ w
below_word (truth_value b) w h = absurd (false≢true h)
below_word (number n) w h = grind (arith, nat_tests)
below_word (words ws) w h = absurd (false≢true h)

-- where all bits count
pub within_all : (w n m : ℕ) → m ≡ 2 ^ w - 1 → n < 2 ^ w → IsWithin m n
within_all w n m e l = (rest_where w n m l).0 (ap (bit_and n) e ∙ (and_mask n w ∙ mod-eq_of_lt l))

and_number : (x : Value) (m w : ℕ) → HasSort x (word w) → conjunction x (number m) ≡ number (bit_and (as_number x) m)
and_number (truth_value b) m w h = absurd (false≢true h)
and_number (number n) m w h = refl
and_number (words ws) m w h = absurd (false≢true h)

pub counted_is : (g k : Graph) (id counted w m : ℕ) → IsTermOf g id (word w) → m < 2 ^ w → counted < length k.nodes → tree k counted ≡ const w m → IsTermOf k counted (word w)
counted_is g k id counted w m u l b e = constant_is k counted w m (width_of_word (tree g id) w u.sort) l b e

pub kept_sort : (k : Graph) (id counted w : ℕ) → IsTermOf k id (word w) → IsTermOf k counted (word w) → sort_of (and (tree k id) (tree k counted)) ≡ Some (word w)
kept_sort k id counted w u c = (λ i. same_bits_sort (u.sort i) (c.sort i)) ∙ ap (λ b. some_if b (word w)) (eq-eqb w w refl)

kept_value : (g k l : Graph) (id counted kept w m : ℕ) → IsExtended g k → IsTermOf g id (word w) → tree k counted ≡ const w m → tree l kept ≡ and (tree k id) (tree k counted)
    → (v : Valuation) → FitsNames g.names v → val (tree l kept) v ≡ number (bit_and (as_number (val (tree g id) v)) m)
kept_value g k l id counted kept w m a u c t v f =
    let same : tree k id ≡ tree g id = tree_kept id a u.below in
    let e : tree l kept ≡ and (tree g id) (const w m) = t ∙ (λ i. and (same i) (c i)) in
    ap (λ (z : Term). val z v) e ∙ and_number (val (tree g id) v) m w (u.is_of v f)

is_below : (m n : ℕ) → m < n → (nat_lt m n) ≡ true
is_below m n h = grind (arith, nat_tests)

pub kept_is : (g k l : Graph) (id counted kept w m : ℕ) → IsExtended g k → IsExtended k l → IsTermOf g id (word w) → IsTermOf k counted (word w) → tree k counted ≡ const w m → kept < length l.nodes
    → tree l kept ≡ and (tree k id) (tree k counted) → IsTermOf l kept (word w)
kept_is g k l id counted kept w m a b u n c s t = record {
  below = s;
  sort = ap sort_of t ∙ kept_sort k id counted w (IsTermOf-kept id (word w) a u) n;
  is_of = λ v f.
      let fits = fits_before v (extended_trans a b) f in
      let x = val (tree g id) v in
      let less : bit_and (as_number x) m < 2 ^ w = omega (arith, and_le_l (as_number x) m, below_word x w (u.is_of v fits)) in
      subst (λ (y : Value). HasSort y (word w)) (sym (kept_value g k l id counted kept w m a u c t v fits)) (is_below (bit_and (as_number x) m) (2 ^ w) less);
}

pub within_told : (g k l h : Graph) (id counted kept same w m : ℕ) → IsExtended g k → IsExtended k l → IsExtended l h → IsTermOf g id (word w) → tree k counted ≡ const w m
    → tree l kept ≡ and (tree k id) (tree k counted) → Tells h same (λ v. val (tree l kept) v ≡ val (tree l id) v) → Tells h same (λ v. IsWithin m (as_number (val (tree g id) v)))
within_told g k l h id counted kept same w m a b c u e t told =
    Tells-same same (λ v. val (tree l kept) v ≡ val (tree l id) v) (λ v. IsWithin m (as_number (val (tree g id) v)))
    (λ v f.
    let fits = fits_before v (extended_trans a (extended_trans b c)) f in
    let n = as_number (val (tree g id) v) in
    let x : val (tree l kept) v ≡ number (bit_and n m) = kept_value g k l id counted kept w m a u e t v fits in
    let y : val (tree l id) v ≡ number n = ap (λ (z : Term). val z v) (tree_kept id (extended_trans a b) u.below) ∙ number_form (val (tree g id) v) w (u.is_of v fits) in
    let r = rest_where w n m (below_word (val (tree g id) v) w (u.is_of v fits)) in
    (λ q. r.0 (ap as_number (sym x ∙ (q ∙ y))), λ q. x ∙ (ap number (r.1 q) ∙ sym y))) told

-- ---- a condition, and one thing more

pub itself : {g : Graph} (id : ℕ) → IsTermOf g id truth → Tells g id (λ v. IsTrue (is_true g id v))
itself id w = record { condition = w; told = λ v f. (λ t. t, λ t. t) }

pub and_always : {g : Graph} (id : ℕ) (Q : Valuation → Type 0) → IsTermOf g id truth → ((v : Valuation) → FitsNames g.names v → Q v) → Tells g id (λ v. IsTrue (is_true g id v) × Q v)
and_always id Q w q = record { condition = w; told = λ v f. (λ t. (t, q v f), λ p. p.0) }

pub and_one : {g k h : Graph} (all here id : ℕ) (Q : Valuation → Type 0) → IsExtended g k → IsExtended k h → IsTermOf g all truth → Tells k here Q → IsJoined h id (λ v. is_true k all v && is_true k here v)
    → Tells h id (λ v. IsTrue (is_true g all v) × Q v)
and_one {g} {k} {h} all here id Q a b w t j = told_both id all here (λ v. IsTrue (is_true g all v)) Q b (Tells-kept all (λ v. IsTrue (is_true g all v)) a (itself all w)) t j

-- of a condition of a smaller store
pub and_before : {g k h : Graph} (all id : ℕ) (Q R : Valuation → Type 0) → IsExtended g k → IsExtended k h → IsTermOf g all truth → ((v : Valuation) → FitsNames h.names v → Q v ↔ R v)
    → Tells h id (λ v. IsTrue (is_true k all v) × Q v) → Tells h id (λ v. IsTrue (is_true g all v) × R v)
and_before {g} {k} {h} all id Q R a b w e t =
    let same : tree k all ≡ tree g all = tree_kept all a w.below in
    Tells-same id (λ v. IsTrue (is_true g all v) × Q v) (λ v. IsTrue (is_true g all v) × R v) (λ v f. (λ p. (p.0, (e v f).0 p.1), λ p. (p.0, (e v f).1 p.1)))
    (subst (λ (z : Term). Tells h id (λ v. IsTrue (as_truth (val z v)) × Q v)) same t)

-- ---- what holds below a number

pub one_further : (P : ℕ → Type 0) (n : ℕ) → (((k : ℕ) → k < n → P k) × P n) ↔ ((k : ℕ) → k < n + 1 → P k)
one_further P n = (
  λ p k b. elim (cases_lt k n) as (λ _. P k) [ inl l ↦ p.0 k l | inr l ↦ (let same : n ≡ k = omega (arith, b, l) in subst P same p.1) ],
  λ p. (λ k b. p k (omega (arith, b)), p n (omega arith)),
)

pub none_yet : {g : Graph} (all : ℕ) (P : ℕ → Valuation → Type 0) → IsTermOf g all truth → Tells g all (λ v. IsTrue (is_true g all v) × ((k : ℕ) → k < 0 → P k v))
none_yet all P w = and_always all (λ v. (k : ℕ) → k < 0 → P k v) w (λ v f k b. absurd (omega (arith, b)))

pub one_more : {k h : Graph} (all id n : ℕ) (A : Valuation → Type 0) (P : ℕ → Valuation → Type 0) → IsExtended k h → Tells k all (λ v. A v × ((i : ℕ) → i < n → P i v))
    → Tells h id (λ v. IsTrue (is_true k all v) × P n v) → Tells h id (λ v. A v × ((i : ℕ) → i < n + 1 → P i v))
one_more {k} all id n A P a w t =
    Tells-same id (λ v. IsTrue (is_true k all v) × P n v) (λ v. A v × ((i : ℕ) → i < n + 1 → P i v))
    (λ v f.
    let before = w.told v (fits_before v a f) in
    let r = one_further (λ i. P i v) n in (
      λ p. (let q = before.0 p.0 in (q.0, r.0 (q.1, p.1))),
      λ p. (let q = r.1 p.1 in (before.1 (p.0, q.0), q.1)),
    )) t

-- ---- words of memories

pub same_within : (m n : ℕ) (x : Value) → x ≡ number n → IsWithin m (as_number x) ↔ IsWithin m n
same_within m n x e = (λ q. subst (IsWithin m) (ap as_number e) q, λ q. subst (IsWithin m) (sym (ap as_number e)) q)

pub word_below : (x : Value) (a d k : ℕ) → HasSort x (memory a d) → k < 2 ^ a → slice_index (as_words x) k < 2 ^ d
word_below (truth_value b) a d k h l = absurd (false≢true h)
word_below (number n) a d k h l = absurd (false≢true h)
word_below (words ws) a d k h l =
    let b : k < length ws = omega (arith, length-memory a d ws h, l) in
    memory_word a d ws k (slice_index ws k) h l (sym (get_or_default_zero ws k (slice_index ws k) b))

and_parts : (a b : Bool) → (a && b) ≡ true → (a ≡ true) × (b ≡ true)
and_parts true b h = (refl, h)
and_parts false b h = absurd (false≢true h)

less : (m n : ℕ) → nat_lt m n ≡ true → m < n
less m n h = grind (arith, nat_tests)

pub mask_below : (d : ℕ) (ms : List ℕ) (k : ℕ) → all_below d ms ≡ true → slice_index ms k < 2 ^ d
mask_below d [] k h = pow_pos d
mask_below d (m ∷ ms) zero h = less m (2 ^ d) (and_parts (nat_lt m (2 ^ d)) (all_below d ms) h).0
mask_below d (m ∷ ms) (suc k) h = mask_below d ms k (and_parts (nat_lt m (2 ^ d)) (all_below d ms) h).1

-- ---- registers and their masks

unset_zero : (b : ℕ) → is_set 0 b ≡ false
unset_zero b = ap (λ z. z == 1) (bit_at-zero b)

same_number : (m n : ℕ) → (m == n) ≡ true → m ≡ n
same_number m n h = grind (arith, nat_tests)

-- What the bits of a word are.
pub record IsWordMask (w : ℕ) (c : CountedBits) : Type 0 where
  pub one : length c.masks ≡ 1
  pub below : all_below w c.masks ≡ true

pub word_mask : (w : ℕ) (c : CountedBits) → are_bits_of (word w) c ≡ true → IsWordMask w c
word_mask w c h =
    let p = (and_parts (is_none c.least) ((length c.masks == 1) && all_below w c.masks) h).1 in
    let q = and_parts (length c.masks == 1) (all_below w c.masks) p in
    record { one = same_number (length c.masks) 1 q.0; below = q.1 }

pub memory_mask : (a d : ℕ) (c : CountedBits) → are_bits_of (memory a d) c ≡ true → all_below d c.masks ≡ true
memory_mask a d c h =
    let p = (and_parts (is_some c.least) (nat_le (length c.masks) (2 ^ a) && (nat_le (unwrap_or c.least 0 + length c.masks) 65536 && all_below d c.masks)) h).1 in
    let q = (and_parts (nat_le (length c.masks) (2 ^ a)) (nat_le (unwrap_or c.least 0 + length c.masks) 65536 && all_below d c.masks) p).1 in
    (and_parts (nat_le (unwrap_or c.least 0 + length c.masks) 65536) (all_below d c.masks) q).1

pub first_mask : (ms : List ℕ) (m : ℕ) → m ≡ get_or ms 0 m → length ms ≡ 1 → m ≡ slice_index ms 0
first_mask [] m e l = absurd (omega (arith, l))
first_mask (x ∷ ms) m e l = e

pub word_within : (w m : ℕ) (ms : List ℕ) (x : Value) → m ≡ slice_index ms 0 → HasSort x (word w) → IsWithin m (as_number x) ↔ IsWithinMasks ms x
word_within w m ms (truth_value t) e h = absurd (false≢true h)
word_within w m ms (words ws) e h = absurd (false≢true h)
word_within w m ms (number n) e h = (λ q. at q, λ p b s. p 0 b (ap (λ z. is_set z b) (sym e) ∙ s))
  where
    at : IsWithin m n → (k b : ℕ) → is_set (slice_index ms k) b ≡ false → value_bit (number n) k b ≡ false
    at q zero b s = q b (ap (λ z. is_set z b) e ∙ s)
    at q (suc k) b s = refl

pub words_within : (a d : ℕ) (ms : List ℕ) (x : Value) → HasSort x (memory a d) → ((k : ℕ) → k < 2 ^ a → IsWithin (slice_index ms k) (slice_index (as_words x) k)) ↔ IsWithinMasks ms x
words_within a d ms (truth_value t) h = absurd (false≢true h)
words_within a d ms (number n) h = absurd (false≢true h)
words_within a d ms (words ws) h = (
  λ q k b s. elim (cases_lt k (2 ^ a)) as (λ _. is_set (slice_index ws k) b ≡ false) [
    | inl l ↦ q k l b s
    | inr l ↦ ap (λ z. is_set z b) (get_or_past ws k 0 (omega (arith, l, length-memory a d ws h))) ∙ unset_zero b
  ],
  λ p k l b s. p k b s,
)

-- ---- all registers

pub bits_counted : (ns : Entries Sort) (cs : List CountedBits) → are_bits_for ns cs ≡ true → length cs ≡ length ns
bits_counted [] [] h = refl
bits_counted [] (c ∷ cs) h = absurd (false≢true h)
bits_counted (n ∷ ns) [] h = absurd (false≢true h)
bits_counted (n ∷ ns) (c ∷ cs) h = ap suc (bits_counted ns cs (and_parts (are_bits_of n.1 c) (are_bits_for ns cs) h).1)

pub bits_at : (ns : Entries Sort) (cs : List CountedBits) (k : ℕ) (c : CountedBits) → are_bits_for ns cs ≡ true → slice_get cs k ≡ Some c → are_bits_of (declared_at ns k).1 c ≡ true
bits_at [] [] k c h e = absurd (cc)
bits_at [] (x ∷ cs) k c h e = absurd (false≢true h)
bits_at (n ∷ ns) [] k c h e = absurd (false≢true h)
bits_at (n ∷ ns) (x ∷ cs) zero c h e = subst (λ z. are_bits_of n.1 z ≡ true) (some_same x c e) (and_parts (are_bits_of n.1 x) (are_bits_for ns cs) h).0
bits_at (n ∷ ns) (x ∷ cs) (suc k) c h e = bits_at ns cs k c (and_parts (are_bits_of n.1 x) (are_bits_for ns cs) h).1 e

-- register number k has no bits but those that count
abbrev pub IsCountedAt : Graph → List CountedBits → List TermId → (k : ℕ) → Valuation → Type 0
IsCountedAt g cs ids k v = (c : CountedBits) → slice_get cs k ≡ Some c → IsWithinMasks c.masks (val (tree g (id_at ids k)) v)

worth_there : (g : Graph) (ids : List TermId) (v : Valuation) (k : ℕ) → k < length ids → slice_get (worths g ids v) k ≡ Some (val (tree g (id_at ids k)) v)
worth_there g [] v k b = absurd (omega (arith, b))
worth_there g (x ∷ ids) v zero b = refl
worth_there g (x ∷ ids) v (suc k) b = worth_there g ids v k (omega (arith, b))

pub rest_told : {h : Graph} (g : Graph) (all n : ℕ) (d : Parts) (ids : List TermId) → length ids ≤ n → n ≤ length ids → Tells h all (λ v. ⊤ × ((k : ℕ) → k < n → IsCountedAt g d.bits ids k v))
    → Tells h all (λ v. IsRestZero d (worths g ids v))
rest_told g all n d ids l m w =
    Tells-same all (λ v. ⊤ × ((k : ℕ) → k < n → IsCountedAt g d.bits ids k v)) (λ v. IsRestZero d (worths g ids v))
    (λ v f. (
      λ p k a b c y i j s.
          let below : k < length ids = subst (λ z. k < z) (length-map ids (λ (id : TermId). val (tree g id.0) v)) (slice_get_within (worths g ids v) k y j) in
          let same : val (tree g (id_at ids k)) v ≡ y = some_same (val (tree g (id_at ids k)) v) y (sym (worth_there g ids v k below) ∙ j) in
          ap (λ z. value_bit z a b) (sym same) ∙ p.1 k (omega (arith, below, l)) c i a b s,
      λ r. (tt, λ k b c i a x s. r k a x c (val (tree g (id_at ids k)) v) i (worth_there g ids v k (omega (arith, b, m))) s),
    )) w

-- the condition of one register
pub counted_here : {h : Graph} (g k : Graph) (id : ℕ) (A : Valuation → Type 0) (cs : List CountedBits) (ids : List TermId) (place : ℕ) (c : CountedBits) → slice_get cs place ≡ Some c
    → tree k (id_at ids place) ≡ tree g (id_at ids place) → Tells h id (λ v. A v × IsWithinMasks c.masks (val (tree k (id_at ids place)) v)) → Tells h id (λ v. A v × IsCountedAt g cs ids place v)
counted_here {h} g k id A cs ids place c at same w =
    Tells-same id (λ v. A v × IsWithinMasks c.masks (val (tree k (id_at ids place)) v)) (λ v. A v × IsCountedAt g cs ids place v)
    (λ v f.
    let value : val (tree k (id_at ids place)) v ≡ val (tree g (id_at ids place)) v = ap (λ (z : Term). val z v) same in
    let r = each_where cs place c (λ (z : CountedBits). IsWithinMasks z.masks (val (tree g (id_at ids place)) v)) at in (
      λ p. (p.0, r.0 (subst (IsWithinMasks c.masks) value p.1)),
      λ p. (p.0, subst (IsWithinMasks c.masks) (sym value) (r.1 p.1)),
    )) w

pub width_fits : (t : Term) (w : ℕ) → sort_of t ≡ Some (word w) → w ≤ 128
width_fits t w e = at_most w 128 (and_parts (nat_le 1 w) (nat_le w 128) (width_of_word t w e)).1
  where
    at_most : (m n : ℕ) → nat_le m n ≡ true → m ≤ n
    at_most m n h = grind (arith, nat_tests)

-- what is told of a word of a memory in a larger store
pub word_here : (g k h : Graph) (all id memory_id a d n bits mask : ℕ) → IsExtended g k → IsTermOf g memory_id (memory a d) → bits ≡ mask
    → Tells h id (λ v. IsTrue (is_true k all v) × IsWithin bits (word_of k memory_id n v)) → Tells h id (λ v. IsTrue (is_true k all v) × IsWithin mask (word_of g memory_id n v))
word_here g k h all id memory_id a d n bits mask x w e t =
    let same : tree k memory_id ≡ tree g memory_id = tree_kept memory_id x w.below in
    subst (λ m. Tells h id (λ v. IsTrue (is_true k all v) × IsWithin m (word_of g memory_id n v))) e
    (subst (λ (s : Term). Tells h id (λ v. IsTrue (is_true k all v) × IsWithin bits (slice_index (as_words (val s v)) n))) same t)

pub none_at_first : {g : Graph} (all : ℕ) (P : ℕ → Valuation → Type 0) → IsJoined g all (λ v. true) → Tells g all (λ v. ⊤ × ((k : ℕ) → k < 0 → P k v))
none_at_first all P j = told_truth all (λ v. ⊤ × ((k : ℕ) → k < 0 → P k v)) j (λ v f. (tt, λ k b. absurd (omega (arith, b))))
