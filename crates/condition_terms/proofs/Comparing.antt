-- Terms that compare others: numbers at once, memories word by word.
use Rattle.std.proofs.Common.{◌≡◌, ℕ, zero, suc, ◌+◌, ◌*◌, ◌%◌, ◌<◌, ◌≤◌, ◌^◌, Bool, true, false, not as truth_not, ◌&&◌, nat_lt, nat_le, List, [], ◌∷◌, length, get_or, Some, refl, sym, ap, ◌∙◌, subst, arith, eq-eqb, inl, inr}
use Rattle.std.specs.Prelude.{IsTrue, ◌==◌, slice_index, ◌↔◌}
use Rattle.std.proofs.lemmas.Bool.{false≢true, cases_lt}
use Rattle.std.proofs.lemmas.Bool.Decides.{nat_tests}
use Rattle.std.proofs.lemmas.Grind.{get_or_default_zero}
use Rattle.std.proofs.Math.Nat.{mod-eq_of_lt}
use Rattle.std.proofs.Math.Pow.{pow_mono}
use Rattle.wb_values.specs.Value.{Sort, truth, word, memory, Value, truth_value, number, words, as_truth, as_number, as_words, is_of_sort, Valuation, HasSort}
use Rattle.wb_values.specs.Choice.{some_if}
use Rattle.model_meaning.specs.Term.{Term, const, eq, load, is_width, is_sort, same_bits_sort, compared, load_sort, sort_of, is_equal, val}
use Rattle.wb_terms.specs.Graph.{Graph, tree}
use Rattle.wb_terms.proofs.InRange.{is_sort-sort_of}
use Rattle.wb_terms.proofs.EnvironmentLemmas.{memory_word, length-memory}
use Rattle.term_copies.specs.Copies.{IsExtended}
use Rattle.term_copies.proofs.Extending.{tree_kept}
use Rattle.run_terms.proofs.Values.{fits_before}
use Rattle.condition_terms.specs.Told.{IsTermOf, is_true, Tells, IsJoined, IsNoMemory}
use Rattle.condition_terms.proofs.Forming.{words_form, truth_form, told_truth, told_both, Tells-kept, Tells-same}

same_number : (m n : ℕ) → (m == n) ≡ true → m ≡ n
same_number m n h = grind (arith, nat_tests)

-- ---- numbers

equal_where : (s : Sort) (a b : Value) → IsNoMemory s → HasSort a s → HasSort b s → IsTrue (is_equal a b) ↔ (a ≡ b)
equal_where truth (truth_value true) (truth_value true) n h k = (λ t. refl, λ e. refl)
equal_where truth (truth_value true) (truth_value false) n h k = (λ t. absurd (false≢true t), λ e. ap as_truth (sym e))
equal_where truth (truth_value false) (truth_value true) n h k = (λ t. absurd (false≢true t), λ e. ap as_truth e)
equal_where truth (truth_value false) (truth_value false) n h k = (λ t. refl, λ e. refl)
equal_where truth (number m) b n h k = absurd (false≢true h)
equal_where truth (words ws) b n h k = absurd (false≢true h)
equal_where truth (truth_value x) (number m) n h k = absurd (false≢true k)
equal_where truth (truth_value x) (words ws) n h k = absurd (false≢true k)
equal_where (word w) (number x) (number y) n h k = (λ t. ap number (same_number x y t), λ e. eq-eqb x y (ap as_number e))
equal_where (word w) (truth_value x) b n h k = absurd (false≢true h)
equal_where (word w) (words ws) b n h k = absurd (false≢true h)
equal_where (word w) (number x) (truth_value y) n h k = absurd (false≢true k)
equal_where (word w) (number x) (words ws) n h k = absurd (false≢true k)
equal_where (memory a d) x y n h k = absurd n

compared_sort : (s : Sort) → IsNoMemory s → compared (same_bits_sort (Some s) (Some s)) ≡ Some truth
compared_sort truth n = refl
compared_sort (word w) n = ap (λ b. compared (some_if b (word w))) (eq-eqb w w refl)
compared_sort (memory a d) n = absurd n

pub eq_sort : (g : Graph) (x y : ℕ) (s : Sort) → IsNoMemory s → IsTermOf g x s → IsTermOf g y s → sort_of (eq (tree g x) (tree g y)) ≡ Some truth
eq_sort g x y s n w u = (λ i. compared (same_bits_sort (w.sort i) (u.sort i))) ∙ compared_sort s n

pub told_equal : (g h : Graph) (id x y : ℕ) (s : Sort) → IsNoMemory s → IsExtended g h → IsTermOf g x s → IsTermOf g y s → id < length h.nodes → tree h id ≡ eq (tree g x) (tree g y)
    → Tells h id (λ v. val (tree g x) v ≡ val (tree g y) v)
told_equal g h id x y s n a w u l e = record {
  condition = record { below = l; sort = ap sort_of e ∙ eq_sort g x y s n w u; is_of = λ v f. ap (λ (t : Term). is_of_sort truth (val t v)) e };
  told = λ v f. subst (λ (t : Term). IsTrue (as_truth (val t v)) ↔ (val (tree g x) v ≡ val (tree g y) v)) (sym e)
      (equal_where s (val (tree g x) v) (val (tree g y) v) n (w.is_of v (fits_before v a f)) (u.is_of v (fits_before v a f)));
}

-- ---- a word of a memory

and_parts : (a b : Bool) → (a && b) ≡ true → (a ≡ true) × (b ≡ true)
and_parts true b h = (refl, h)
and_parts false b h = absurd (false≢true h)

at_most : (m n : ℕ) → nat_le m n ≡ true → m ≤ n
at_most m n h = grind (arith, nat_tests)

is_at_most : (m n : ℕ) → m ≤ n → nat_le m n ≡ true
is_at_most m n h = grind (arith, nat_tests)

is_below : (m n : ℕ) → m < n → nat_lt m n ≡ true
is_below m n h = grind (arith, nat_tests)

pub address_bounds : (t : Term) (a d : ℕ) → sort_of t ≡ Some (memory a d) → (1 ≤ a) × (a ≤ 16)
address_bounds t a d e =
    let r : is_sort (memory a d) ≡ true = is_sort-sort_of t (memory a d) e in
    let p = and_parts (nat_le 1 a && nat_le a 16) (is_width d) r in
    let q = and_parts (nat_le 1 a) (nat_le a 16) p.0 in
    (at_most 1 a q.0, at_most a 16 q.1)

pub place_sort : (t : Term) (a d k : ℕ) → sort_of t ≡ Some (memory a d) → k < 2 ^ a → sort_of (const a k) ≡ Some (word a)
place_sort t a d k e l =
    let b = address_bounds t a d e in
    let low : nat_le 1 a ≡ true = is_at_most 1 a b.0 in
    let high : nat_le a 128 ≡ true = is_at_most a 128 (omega (arith, b.1)) in
    let less : nat_lt k (2 ^ a) ≡ true = is_below k (2 ^ a) l in
    rw (low, high, less) refl

pub word_sort : (m i : Term) (a d : ℕ) → sort_of m ≡ Some (memory a d) → sort_of i ≡ Some (word a) → sort_of (load m i) ≡ Some (word d)
word_sort m i a d e s = (λ j. load_sort (e j) (s j)) ∙ ap (λ b. some_if b (word d)) (eq-eqb a a refl)

read_below : (x : Value) (a d k : ℕ) → HasSort x (memory a d) → k < 2 ^ a → slice_index (as_words x) k < 2 ^ d
read_below (truth_value b) a d k h l = absurd (false≢true h)
read_below (number n) a d k h l = absurd (false≢true h)
read_below (words ws) a d k h l =
    let b : k < length ws = omega (arith, length-memory a d ws h, l) in
    memory_word a d ws k (slice_index ws k) h l (sym (get_or_default_zero ws k (slice_index ws k) b))

-- the word that was put, over the place that was put before it
pub word_is : (g k h : Graph) (x place id a d i : ℕ) → IsExtended g k → IsExtended k h → IsTermOf g x (memory a d) → i < 2 ^ a → tree k place ≡ const a i
    → id < length h.nodes → tree h id ≡ load (tree k x) (tree k place) → IsTermOf h id (word d)
word_is g k h x place id a d i p q w l c b e =
    let same : tree k x ≡ tree g x = tree_kept x p w.below in
    let whole : tree h id ≡ load (tree g x) (const a i) = e ∙ (λ j. load (same j) (c j)) in
    record {
      below = b;
      sort = ap sort_of whole ∙ word_sort (tree g x) (const a i) a d w.sort (place_sort (tree g x) a d i w.sort l);
      is_of = λ v f. subst (λ (t : Term). HasSort (val t v) (word d)) (sym whole)
          (is_below (slice_index (as_words (val (tree g x) v)) i) (2 ^ d) (read_below (val (tree g x) v) a d i (w.is_of v (fits_before v p (fits_before v q f))) l));
    }

pub word_value : (g k h : Graph) (x place id a i : ℕ) → IsExtended g k → x < length g.nodes → tree k place ≡ const a i → tree h id ≡ load (tree k x) (tree k place)
    → (v : Valuation) → val (tree h id) v ≡ number (slice_index (as_words (val (tree g x) v)) i)
word_value g k h x place id a i p b c e v =
    let same : tree k x ≡ tree g x = tree_kept x p b in
    ap (λ (t : Term). val t v) (e ∙ (λ j. load (same j) (c j)))

-- ---- whole memories

abbrev pub word_of : Graph → ℕ → ℕ → Valuation → ℕ
word_of g x k v = slice_index (as_words (val (tree g x) v)) k

-- two memories have the same words below an address
abbrev pub AreAlikeBelow : Graph → (x y n : ℕ) → Valuation → Type 0
AreAlikeBelow g x y n v = (k : ℕ) → k < n → word_of g x k v ≡ word_of g y k v

-- a memory has the words of a list below an address
abbrev pub HasBelow : Graph → (x : ℕ) → List ℕ → (n : ℕ) → Valuation → Type 0
HasBelow g x ws n v = (k : ℕ) → k < n → word_of g x k v ≡ slice_index ws k

-- what holds below a number, and at it
one_further : (P : ℕ → Type 0) (n : ℕ) → (((k : ℕ) → k < n → P k) × P n) ↔ ((k : ℕ) → k < n + 1 → P k)
one_further P n = (
  λ p k b. elim (cases_lt k n) as (λ _. P k) [ inl l ↦ p.0 k l | inr l ↦ (let same : n ≡ k = omega (arith, b, l) in subst P same p.1) ],
  λ p. (λ k b. p k (omega (arith, b)), p n (omega arith)),
)

pub further : {g : Graph} (id n : ℕ) (P : ℕ → Valuation → Type 0) → Tells g id (λ v. ((k : ℕ) → k < n → P k v) × P n v) → Tells g id (λ v. (k : ℕ) → k < n + 1 → P k v)
further id n P w = Tells-same id (λ v. ((k : ℕ) → k < n → P k v) × P n v) (λ v. (k : ℕ) → k < n + 1 → P k v) (λ v f. one_further (λ k. P k v) n) w

list_ext : (xs ys : List ℕ) → length xs ≡ length ys → ((k : ℕ) → k < length xs → slice_index xs k ≡ slice_index ys k) → xs ≡ ys
list_ext [] [] e h = refl
list_ext [] (y ∷ ys) e h = absurd (omega (arith, e))
list_ext (x ∷ xs) [] e h = absurd (omega (arith, e))
list_ext (x ∷ xs) (y ∷ ys) e h =
    let head : x ≡ y = h 0 (omega arith) in
    let rest : xs ≡ ys = list_ext xs ys (omega (arith, e)) (λ k b. h (suc k) (omega (arith, b))) in
    (λ i. head i ∷ rest i)

words_length : (x : Value) (a d : ℕ) → HasSort x (memory a d) → length (as_words x) ≡ 2 ^ a
words_length (truth_value b) a d h = absurd (false≢true h)
words_length (number n) a d h = absurd (false≢true h)
words_length (words ws) a d h = length-memory a d ws h

words_equal : (x y : Value) (a d n : ℕ) → n ≡ 2 ^ a → HasSort x (memory a d) → HasSort y (memory a d)
    → ((k : ℕ) → k < n → slice_index (as_words x) k ≡ slice_index (as_words y) k) ↔ (x ≡ y)
words_equal x y a d n e h k = (
  λ p. words_form x a d h ∙ (ap words (list_ext (as_words x) (as_words y) (words_length x a d h ∙ sym (words_length y a d k)) (λ j b. p j (omega (arith, b, words_length x a d h, e))))
      ∙ sym (words_form y a d k)),
  λ same j b. ap (λ z. slice_index (as_words z) j) same,
)

pub memories_told : {g h : Graph} (id x y a d n : ℕ) → IsExtended g h → n ≡ 2 ^ a → IsTermOf g x (memory a d) → IsTermOf g y (memory a d) → Tells h id (AreAlikeBelow g x y n)
    → Tells h id (λ v. val (tree g x) v ≡ val (tree g y) v)
memories_told {g} id x y a d n s e w u t =
    Tells-same id (AreAlikeBelow g x y n) (λ v. val (tree g x) v ≡ val (tree g y) v)
    (λ v f. words_equal (val (tree g x) v) (val (tree g y) v) a d n e (w.is_of v (fits_before v s f)) (u.is_of v (fits_before v s f))) t

pub memory_told : {g h : Graph} (id x a d n : ℕ) (ws : List ℕ) → IsExtended g h → length ws ≤ n → n ≤ length ws → IsTermOf g x (memory a d) → HasSort (words ws) (memory a d) → Tells h id (HasBelow g x ws n)
    → Tells h id (λ v. val (tree g x) v ≡ words ws)
memory_told {g} id x a d n ws s l m w u t =
    let e : n ≡ 2 ^ a = omega (arith, l, m, length-memory a d ws u) in
    Tells-same id (HasBelow g x ws n) (λ v. val (tree g x) v ≡ words ws)
    (λ v f. words_equal (val (tree g x) v) (words ws) a d n e (w.is_of v (fits_before v s f)) u) t

-- numbers that are equal as values
pub numbers_told : {h : Graph} (id : ℕ) (x y : Valuation → Value) (m n : Valuation → ℕ) → ((v : Valuation) → x v ≡ number (m v)) → ((v : Valuation) → y v ≡ number (n v))
    → Tells h id (λ v. x v ≡ y v) → Tells h id (λ v. m v ≡ n v)
numbers_told id x y m n p q t =
    Tells-same id (λ v. x v ≡ y v) (λ v. m v ≡ n v)
    (λ v f. (λ e. ap as_number (sym (p v) ∙ (e ∙ q v)), λ e. p v ∙ (ap number e ∙ sym (q v)))) t

-- ---- values of a sort

pub true_told : {g : Graph} (id : ℕ) → IsTermOf g id truth → Tells g id (λ v. val (tree g id) v ≡ truth_value true)
true_told {g} id w = record { condition = w; told = λ v f. (λ t. truth_form (val (tree g id) v) (w.is_of v f) ∙ ap truth_value t, λ e. ap as_truth e) }

not_true : (b : Bool) (x : Value) → x ≡ truth_value b → IsTrue (truth_not b) ↔ (x ≡ truth_value false)
not_true true x e = (λ h. absurd (false≢true h), λ p. ap as_truth (sym p ∙ e))
not_true false x e = (λ h. e, λ p. refl)

pub false_told : {g h : Graph} (id x : ℕ) → IsExtended g h → IsTermOf g x truth → IsJoined h id (λ v. truth_not (is_true g x v)) → Tells h id (λ v. val (tree g x) v ≡ truth_value false)
false_told {g} {h} id x a w j = record {
  condition = j.condition;
  told = λ v f. subst (λ b. IsTrue b ↔ (val (tree g x) v ≡ truth_value false)) (sym (j.value v f))
      (not_true (is_true g x v) (val (tree g x) v) (truth_form (val (tree g x) v) (w.is_of v (fits_before v a f))));
}

-- a constant word
pub constant_is : (h : Graph) (id w n : ℕ) → is_width w ≡ true → n < 2 ^ w → id < length h.nodes → tree h id ≡ const w n → IsTermOf h id (word w)
constant_is h id w n r l b e =
    let less : nat_lt n (2 ^ w) ≡ true = is_below n (2 ^ w) l in
    let s : sort_of (const w n) ≡ Some (word w) = rw (r, less) refl in
    record { below = b; sort = ap sort_of e ∙ s; is_of = λ v f. subst (λ (t : Term). HasSort (val t v) (word w)) (sym e) less }

pub width_of_word : (t : Term) (w : ℕ) → sort_of t ≡ Some (word w) → is_width w ≡ true
width_of_word t w e = is_sort-sort_of t (word w) e

-- words of two memories that are compared
pub words_told : (g k l h : Graph) (x y first second id a d i : ℕ) → IsExtended g k → IsExtended k l → IsTermOf g y (memory a d) → IsTermOf k first (word d)
    → ((v : Valuation) → val (tree k first) v ≡ number (word_of g x i v)) → ((v : Valuation) → val (tree l second) v ≡ number (word_of k y i v))
    → Tells h id (λ v. val (tree l first) v ≡ val (tree l second) v) → Tells h id (λ v. word_of g x i v ≡ word_of g y i v)
words_told g k l h x y first second id a d i p q w u m n t =
    let f : tree l first ≡ tree k first = tree_kept first q u.below in
    let s : tree k y ≡ tree g y = tree_kept y p w.below in
    numbers_told id (val (tree l first)) (val (tree l second)) (word_of g x i) (word_of g y i) (λ v. ap (λ (z : Term). val z v) f ∙ m v)
    (λ v. n v ∙ ap (λ (z : Term). number (slice_index (as_words (val z v)) i)) s) t

-- a word that is compared with a number
pub number_told : (g k h : Graph) (x wanted id w n : ℕ) → IsExtended g k → IsTermOf g x (word w) → tree k wanted ≡ const w n → Tells h id (λ v. val (tree k x) v ≡ val (tree k wanted) v)
    → Tells h id (λ v. val (tree g x) v ≡ number n)
number_told g k h x wanted id w n a u e t =
    let s : tree k x ≡ tree g x = tree_kept x a u.below in
    Tells-same id (λ v. val (tree k x) v ≡ val (tree k wanted) v) (λ v. val (tree g x) v ≡ number n)
    (λ v f. (λ p. ap (λ (z : Term). val z v) (sym s) ∙ (p ∙ ap (λ (z : Term). val z v) e), λ p. ap (λ (z : Term). val z v) s ∙ (p ∙ ap (λ (z : Term). val z v) (sym e)))) t

-- one address more
pub one_more_alike : (k h m : Graph) (all here id n : ℕ) (P : ℕ → Valuation → Type 0) → IsExtended k h → IsExtended h m → Tells k all (λ v. (i : ℕ) → i < n → P i v) → Tells h here (P n)
    → IsJoined m id (λ v. is_true h all v && is_true h here v) → Tells m id (λ v. (i : ℕ) → i < n + 1 → P i v)
one_more_alike k h m all here id n P a b w u j =
    further id n P (told_both id all here (λ v. (i : ℕ) → i < n → P i v) (P n) b (Tells-kept all (λ v. (i : ℕ) → i < n → P i v) a w) u j)

pub none_alike : {g : Graph} (id : ℕ) (P : ℕ → Valuation → Type 0) → IsJoined g id (λ v. true) → Tells g id (λ v. (i : ℕ) → i < 0 → P i v)
none_alike id P j = told_truth id (λ v. (i : ℕ) → i < 0 → P i v) j (λ v f i b. absurd (omega (arith, b)))

pub word_fits : (ws : List ℕ) (a d k : ℕ) → HasSort (words ws) (memory a d) → k < length ws → get_or ws k 0 < 2 ^ d
word_fits ws a d k h b = memory_word a d ws k (get_or ws k 0) h (omega (arith, b, length-memory a d ws h)) (get_or_any ws k 0 (get_or ws k 0) b)
  where
    get_or_any : (xs : List ℕ) (i d e : ℕ) → i < length xs → get_or xs i d ≡ get_or xs i e
    get_or_any [] i d e l = absurd (omega (arith, l))
    get_or_any (x ∷ xs) zero d e l = refl
    get_or_any (x ∷ xs) (suc i) d e l = get_or_any xs i d e (omega (arith, l))

pub address_fits : (ws : List ℕ) (a d k : ℕ) → HasSort (words ws) (memory a d) → k < length ws → k < 2 ^ a
address_fits ws a d k h b = omega (arith, b, length-memory a d ws h)

-- what is told of terms at an address in a larger store
pub alike_here : (g k h : Graph) (x y here a d n : ℕ) → IsExtended g k → IsTermOf g x (memory a d) → IsTermOf g y (memory a d) → Tells h here (λ v. word_of k x n v ≡ word_of k y n v)
    → Tells h here (λ v. word_of g x n v ≡ word_of g y n v)
alike_here g k h x y here a d n p w u t =
    let e : tree k x ≡ tree g x = tree_kept x p w.below in
    let f : tree k y ≡ tree g y = tree_kept y p u.below in
    subst (λ (s : Term). Tells h here (λ v. slice_index (as_words (val s v)) n ≡ word_of g y n v)) e
    (subst (λ (s : Term). Tells h here (λ v. word_of k x n v ≡ slice_index (as_words (val s v)) n)) f t)

pub has_here : (g k h : Graph) (x here a d n wanted : ℕ) → IsExtended g k → IsTermOf g x (memory a d) → Tells h here (λ v. word_of k x n v ≡ wanted) → Tells h here (λ v. word_of g x n v ≡ wanted)
has_here g k h x here a d n wanted p w t =
    let e : tree k x ≡ tree g x = tree_kept x p w.below in
    subst (λ (s : Term). Tells h here (λ v. slice_index (as_words (val s v)) n ≡ wanted)) e t

-- the number of words, as the code shifts it
pub shifted : (t : Term) (a d n : ℕ) → sort_of t ≡ Some (memory a d) → 1 * 2 ^ a % 2 ^ 64 ≤ n → n ≤ 1 * 2 ^ a % 2 ^ 64 → n ≡ 2 ^ a
shifted t a d n e l m =
    let b : 2 ^ a ≤ 2 ^ 16 = pow_mono (address_bounds t a d e).1 in
    let one : 1 * 2 ^ a ≡ 2 ^ a = omega arith in
    let same : 1 * 2 ^ a % 2 ^ 64 ≡ 2 ^ a = ap (λ k. k % 2 ^ 64) one ∙ mod-eq_of_lt (omega (arith, b)) in
    omega (arith, l, m, same)
