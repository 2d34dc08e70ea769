-- Settings of different words have different numbers.
use Rattle.std.proofs.Common.{Vec, Global, ◌≡◌, ℕ, zero, suc, ◌+◌, ◌*◌, ◌^◌, ◌<◌, ◌≤◌, ◌≢◌, Bool, true, false, cond, ◌&&◌, nat_lt, List, [], ◌∷◌, map, length, Option, Some, arith, refl, ap, sym, subst, ◌∙◌}
use Rattle.std.specs.Prelude.{is_none, ◌==◌}
use Rattle.std.specs.List.{list_any, list_all}
use Rattle.std.proofs.lemmas.Bool.Decides.{nat_tests}
use Rattle.std.proofs.lemmas.Bool.{false≢true}
use Rattle.std.proofs.lemmas.Slice.Eq.{bytes_eq-Decides}
use Rattle.std.proofs.Math.Nat.{mul-le-mul_right}
use Rattle.wb_values.specs.Choice.{some_if}
use Rattle.ila_sim.specs.declared.names.Settable.{Settable}
use Rattle.wb_values.specs.Value.{Name, same_name}
use Rattle.scripts.specs.Script as meaning
use Rattle.scripts.specs.Script.{settable_named, is_same_word, are_distinct_sets, if_distinct}
use Rattle.ila_sim.specs.declared.set.Set.{Set}
use Rattle.ila_sim.specs.Names.{are_apart, settable_of}
use Rattle.ila_sim.specs.Places.{called_at}
use Rattle.ila_sim.specs.Sets.{set_at, key_of, are_distinct_numbers, are_within, is_right, are_right, suits_at}

by_value : (a b : Bool) → (a ≡ true → b ≡ true) → (b ≡ true → a ≡ true) → a ≡ b
by_value true b f g = sym (f refl)
by_value false true f g = g refl
by_value false false f g = refl

same_both : (m n : Name) → same_name m n ≡ true → same_name n m ≡ true
same_both m n h = subst (λ x. same_name x m ≡ true) ((bytes_eq-Decides m n).0 h) ((bytes_eq-Decides m m).1 refl)

pub turned : (m n : Name) → same_name m n ≡ same_name n m
turned m n = by_value (same_name m n) (same_name n m) (same_both m n) (same_both n m)

pub left_part : (a b : Bool) → (a && b) ≡ true → a ≡ true
left_part true b e = refl
left_part false b e = e

pub right_part : (a b : Bool) → (a && b) ≡ true → b ≡ true
right_part true b e = e
right_part false b e = absurd (false≢true e)

pub absent : (ss : List meaning.Settable) (n : Name) (k : ℕ) → is_none (settable_named ss n) ≡ true → k < length ss → same_name (called_at ss k) n ≡ false
absent [] n k e h = absurd (omega arith)
absent (s ∷ ss) n k e h = shown (same_name s.called n) refl e k h (absent ss n) where
  shown : (t : Bool) → same_name s.called n ≡ t → is_none (cond t (Some s) (settable_named ss n)) ≡ true → (j : ℕ) → j < suc (length ss)
      → ((i : ℕ) → is_none (settable_named ss n) ≡ true → i < length ss → same_name (called_at ss i) n ≡ false) → same_name (called_at (s ∷ ss) j) n ≡ false
  shown true f g j l r = absurd (false≢true g)
  shown false f g zero l r = f
  shown false f g (suc j) l r = r j g (omega arith)

zero_apart : (k : ℕ) → (0 == suc k) ≡ false
zero_apart k = grind (arith, nat_tests)

suc_apart : (k : ℕ) → (suc k == 0) ≡ false
suc_apart k = grind (arith, nat_tests)

suc_same : (i k : ℕ) → (suc i == suc k) ≡ (i == k)
suc_same i k = grind (arith, nat_tests)

pub same_place : (ss : List meaning.Settable) (i k : ℕ) → are_apart ss ≡ true → i < length ss → k < length ss → same_name (called_at ss i) (called_at ss k) ≡ (i == k)
same_place [] i k a h g = absurd (omega arith)
same_place (s ∷ ss) zero zero a h g = (bytes_eq-Decides s.called s.called).1 refl
same_place (s ∷ ss) zero (suc k) a h g = turned s.called (called_at ss k) ∙ (absent ss s.called k (left_part _ _ a) (omega arith) ∙ sym (zero_apart k))
same_place (s ∷ ss) (suc i) zero a h g = absent ss s.called i (left_part _ _ a) (omega arith) ∙ sym (suc_apart i)
same_place (s ∷ ss) (suc i) (suc k) a h g = same_place ss i k (right_part _ _ a) (omega arith) (omega arith) ∙ sym (suc_same i k)

lower : (m i k w v : ℕ) → i < k → w < m → i * m + w < k * m + v
lower m i k w v h g =
    let step : suc i * m ≤ k * m = mul-le-mul_right m h in
    omega (arith, step, g)

pub test_same : (x y : ℕ) → x ≡ y → (x == y) ≡ true
test_same x y e = grind (arith, nat_tests)

pub test_apart : (x y : ℕ) → x ≢ y → (x == y) ≡ false
test_apart x y e = grind (arith, nat_tests)

are_same : (x y : ℕ) → (x == y) ≡ true → x ≡ y
are_same x y e = grind (arith, nat_tests)

are_other : (x y : ℕ) → (x == y) ≡ false → x ≢ y
are_other x y e = grind (arith, nat_tests)

apart_by : (i k x y : ℕ) → i ≢ k → (i < k → x < y) → (k < i → y < x) → x ≢ y
apart_by i k x y n f g e = split (nat_lt i k) refl where
  less : (a b : ℕ) → nat_lt a b ≡ true → a < b
  less a b h = grind (arith, nat_tests)

  more : (a b : ℕ) → nat_lt a b ≡ false → a ≢ b → b < a
  more a b h m = grind (arith, nat_tests)

  split : (t : Bool) → nat_lt i k ≡ t → ⊥
  split true h = omega (arith, f (less i k h), e)
  split false h = omega (arith, g (more i k h n), e)

key_by : (m i k w v : ℕ) (t u : Bool) → (i == k) ≡ t → (w == v) ≡ u → w < m → v < m → (i * m + w == k * m + v) ≡ (t && u)
key_by m i k w v true true a b h g =
    let e : i ≡ k = are_same i k a in
    let f : w ≡ v = are_same w v b in
    test_same _ _ (rw (e, f) refl)
key_by m i k w v true false a b h g =
    let e : i ≡ k = are_same i k a in
    let o : w ≢ v = are_other w v b in
    subst (λ j. (j * m + w == k * m + v) ≡ false) (sym e) (test_apart _ _ (λ q. o (omega (arith, q))))
key_by m i k w v false u a b h g = test_apart _ _ (apart_by i k (i * m + w) (k * m + v) (are_other i k a) (λ l. lower m i k w v l h) (λ l. lower m k i v w l g))

key_same : (m i k w v : ℕ) → w < m → v < m → (i * m + w == k * m + v) ≡ ((i == k) && (w == v))
key_same m i k w v h g = key_by m i k w v (i == k) (w == v) refl refl h g

pub suits_within : (ss : List meaning.Settable) (k : ℕ) (s : Set) → suits_at ss k s ≡ true → k < length ss
suits_within [] k s h = absurd (false≢true h)
suits_within (t ∷ ss) zero s h = omega arith
suits_within (t ∷ ss) (suc k) s h = omega (arith, suits_within ss k s h)

less_is : (a b : ℕ) → a < b → nat_lt a b ≡ true
less_is a b h = grind (arith, nat_tests)

-- what is set right is within the names
pub within_from : (ss : List meaning.Settable) (sets : List Set) → are_right ss sets ≡ true → are_within (length ss) sets ≡ true
within_from ss [] h = refl
within_from ss (s ∷ sets) h =
    let here : nat_lt s.place (length ss) ≡ true = less_is s.place (length ss) (suits_within ss s.place s (left_part (is_right ss s) (are_right ss sets) h)) in
    let rest : are_within (length ss) sets ≡ true = within_from ss sets (right_part (is_right ss s) (are_right ss sets) h) in
    rw (here, rest) refl

word_same : (ss : List meaning.Settable) (s t : Set) → are_apart ss ≡ true → s.place < length ss → t.place < length ss → (key_of s == key_of t) ≡ is_same_word (set_at ss s) (set_at ss t)
word_same ss s t a h g =
    key_same (2 ^ 64) s.place t.place s.word t.word s.small t.small
    ∙ ap (λ b. b && (s.word == t.word)) (sym (same_place ss s.place t.place a h g))

pub is_less : (a b : ℕ) → nat_lt a b ≡ true → a < b
is_less a b h = grind (arith, nat_tests)

pub any_same : (ss : List meaning.Settable) (s : Set) (sets : List Set) → are_apart ss ≡ true → s.place < length ss → are_within (length ss) sets ≡ true
    → list_any (λ m. key_of s == m) (map key_of sets) ≡ list_any (is_same_word (set_at ss s)) (map (set_at ss) sets)
any_same ss s [] a h g = refl
any_same ss s (t ∷ sets) a h g =
    let here : t.place < length ss = is_less t.place (length ss) (left_part (nat_lt t.place (length ss)) (are_within (length ss) sets) g) in
    let rest : are_within (length ss) sets ≡ true = right_part (nat_lt t.place (length ss)) (are_within (length ss) sets) g in
    rw (word_same ss s t a h here, any_same ss s sets a h rest) refl

all_same : (ss : List meaning.Settable) (sets : List Set) → are_apart ss ≡ true → are_within (length ss) sets ≡ true → are_distinct_numbers (map key_of sets) ≡ are_distinct_sets (map (set_at ss) sets)
all_same ss [] a g = refl
all_same ss (s ∷ sets) a g =
    let here : s.place < length ss = is_less s.place (length ss) (left_part (nat_lt s.place (length ss)) (are_within (length ss) sets) g) in
    let rest : are_within (length ss) sets ≡ true = right_part (nat_lt s.place (length ss)) (are_within (length ss) sets) g in
    rw (any_same ss s sets a here rest, all_same ss sets a rest) refl

pub distinct_found : (es : List Settable) (sets : List Set) (o : Option (List meaning.Set)) (b : Bool) → o ≡ Some (map (set_at (map settable_of es)) sets) → b ≡ are_distinct_numbers (map key_of sets)
    → are_apart (map settable_of es) ≡ true → are_right (map settable_of es) sets ≡ true → if_distinct o ≡ some_if b (map (set_at (map settable_of es)) sets)
distinct_found es sets o b e f a g =
    let within : are_within (length (map settable_of es)) sets ≡ true = within_from (map settable_of es) sets g in
    ap if_distinct e ∙ ap (λ t. some_if t (map (set_at (map settable_of es)) sets)) (sym (f ∙ all_same (map settable_of es) sets a within))

pub lines_within : (ss : List meaning.Settable) (lines : List (Vec Set Global)) → list_all (λ (l : Vec Set Global). are_right ss l.items) lines ≡ true
    → list_all (λ (l : Vec Set Global). are_within (length ss) l.items) lines ≡ true
lines_within ss [] h = refl
lines_within ss (l ∷ lines) h =
    let here = within_from ss l.items (left_part (are_right ss l.items) (list_all (λ (k : Vec Set Global). are_right ss k.items) lines) h) in
    let rest = lines_within ss lines (right_part (are_right ss l.items) (list_all (λ (k : Vec Set Global). are_right ss k.items) lines) h) in
    rw (here, rest) refl
