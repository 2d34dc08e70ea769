-- Turns of loops over names and lists.
use Rattle.std.proofs.Common.{◌≡◌, ◌∙◌, ℕ, zero, suc, ◌+◌, ◌<◌, ◌≤◌, Bool, true, false, ◌&&◌, List, [], ◌∷◌, ◌++◌, length, map, take, drop, get_or, Bor, Option, Some, None, refl, sym, ap, subst, arith, add-one, drop-cons, append_assoc, ◌⊎◌, inl, inr, true≢false}
use Rattle.std.specs.Prelude.{slice_get, slice_index_or, cond, bit_and, ◌==◌}
use Rattle.std.specs.Ordering.{nat_cmp}
use Rattle.std.specs.Cmp.Lexicographic.{slice_cmp}
use Rattle.std.specs.BTreeMap as tree
use Rattle.std.specs.BTreeMap.{BTreeMap}
use Rattle.std.proofs.lemmas.Map.Text.{btree_map_updates_str}
use Rattle.std.proofs.lemmas.Bool.{and_parts, and_left, cases_eq, cases_lt}
use Rattle.wb_values.specs.Value.{Name, same_name, Sort, truth, Entries}
use Rattle.serde_json.specs.Data.{Data, Items, no_items, item}
use Rattle.serde_json.specs.View.{view, items_view}
use Rattle.serde_json.specs.declared.value.Value.{Value}
use Rattle.trace_reading.specs.Numbers.{numeral_in}
use Rattle.trace_reading.specs.Fitting.{keeps_to, all_keep_to, place_before, each_below}
use Rattle.trace_reading.specs.Tables.{place_under}

-- one name more in a table
pub put_name : (ns : Entries Sort) (old new : BTreeMap (Bor (List ℕ)) ℕ) (k : Bor (List ℕ)) (i : ℕ)
    → tree.Updates (λ x y. slice_cmp nat_cmp x.now y.now) old new k (Some i) → k.now ≡ (slice_index_or ns i ([], truth)).0
    → ((n : List ℕ) → place_under old n ≡ place_before ns i n) → (n : List ℕ) → place_under new n ≡ place_before ns (i + 1) n
put_name ns old new k i u is before n =
    btree_map_updates_str k.now old new (Some i) u n
    ∙ (ap (λ m. cond (same_name m n) (Some i) (place_under old n)) is
    ∙ (ap (λ o. cond (same_name (slice_index_or ns i ([], truth)).0 n) (Some i) o) (before n) ∙ sym (ap (λ j. place_before ns j n) (add-one i))))

-- one test more
pub one_more : (p : ℕ → Bool) (k : ℕ) → each_below p k ≡ true → p k ≡ true → each_below p (k + 1) ≡ true
one_more p k h g = ap (each_below p) (add-one k) ∙ (ap (λ b. b && p k) h ∙ g)

fails_above : (p : ℕ → Bool) (n k : ℕ) → k < n → p k ≡ false → each_below p n ≡ false
fails_above p zero k l g = absurd (omega (arith, l))
fails_above p (suc n) k l g = by (cases_eq k n) (fails_above p n k)
  where
    falls : (b : Bool) → (b && false) ≡ false
    falls true = refl
    falls false = refl

    by : (k ≡ n) ⊎ (k ≡ n → ⊥) → (k < n → p k ≡ false → each_below p n ≡ false) → (each_below p n && p n) ≡ false
    by (inl e) r = ap (λ b. each_below p n && b) (sym (ap p e) ∙ g) ∙ falls (each_below p n)
    by (inr o) r = and_left (each_below p n) (p n) (r (low (cases_lt k n)) g)
      where
        low : (k < n) ⊎ (n ≤ k) → k < n
        low (inl m) = m
        low (inr m) = absurd (o (omega (arith, m, l)))

-- a test that fails below n
pub one_fails : (p : ℕ → Bool) (n k : ℕ) → k < n → p k ≡ false → false ≡ each_below p n
one_fails p n k l g = sym (fails_above p n k l g)

-- lists of different lengths do not fit
pub other_length : (ms : List ℕ) (vs : List Value) → (length ms ≡ length vs → ⊥) → false ≡ all_keep_to ms (items_view vs)
other_length [] [] o = absurd (o refl)
other_length [] (v ∷ vs) o = refl
other_length (m ∷ ms) [] o = refl
other_length (m ∷ ms) (v ∷ vs) o = after (keeps_to m (numeral_in (view v))) (other_length ms vs (λ e. o (ap suc e)))
  where
    after : (b : Bool) → false ≡ all_keep_to ms (items_view vs) → false ≡ (b && all_keep_to ms (items_view vs))
    after true r = r
    after false r = refl

cut : (ms : List ℕ) (vs : List Value) (i m : ℕ) (v : Value) → i < length ms → i < length vs → m ≡ get_or ms i m → v ≡ get_or vs i v
    → all_keep_to (drop i ms) (items_view (drop i vs)) ≡ (keeps_to m (numeral_in (view v)) && all_keep_to (drop (i + 1) ms) (items_view (drop (i + 1) vs)))
cut ms vs i m v l k e f =
    ap (λ xs. all_keep_to xs (items_view (drop i vs))) (drop-cons ms i m l)
    ∙ (ap (λ ys. all_keep_to (get_or ms i m ∷ drop (suc i) ms) (items_view ys)) (drop-cons vs i v k)
    ∙ (ap (λ x. keeps_to x (numeral_in (view (get_or vs i v))) && all_keep_to (drop (suc i) ms) (items_view (drop (suc i) vs))) (sym e)
    ∙ (ap (λ y. keeps_to m (numeral_in (view y)) && all_keep_to (drop (suc i) ms) (items_view (drop (suc i) vs))) (sym f)
    ∙ ap (λ j. keeps_to m (numeral_in (view v)) && all_keep_to (drop j ms) (items_view (drop j vs))) (sym (add-one i)))))

pub keep_on : (ms : List ℕ) (vs : List Value) (i m : ℕ) (v : Value) (all : Bool) → i < length ms → i < length vs → m ≡ get_or ms i m → v ≡ get_or vs i v
    → all ≡ all_keep_to (drop i ms) (items_view (drop i vs)) → keeps_to m (numeral_in (view v)) ≡ true
    → all ≡ all_keep_to (drop (i + 1) ms) (items_view (drop (i + 1) vs))
keep_on ms vs i m v all l k e f h g = h ∙ (cut ms vs i m v l k e f ∙ ap (λ b. b && all_keep_to (drop (i + 1) ms) (items_view (drop (i + 1) vs))) g)

pub keep_stops : (ms : List ℕ) (vs : List Value) (i m : ℕ) (v : Value) (all : Bool) → i < length ms → i < length vs → m ≡ get_or ms i m → v ≡ get_or vs i v
    → all ≡ all_keep_to (drop i ms) (items_view (drop i vs)) → keeps_to m (numeral_in (view v)) ≡ false → false ≡ all
keep_stops ms vs i m v all l k e f h g =
    sym (h ∙ (cut ms vs i m v l k e f ∙ ap (λ b. b && all_keep_to (drop (i + 1) ms) (items_view (drop (i + 1) vs))) g))

-- one element more of a list that is made element by element
pub taken_more : {A B : Type 0} (f : A → B) (ns : List A) (k : ℕ) (x : A) → k < length ns → take (k + 1) (map f ns) ≡ take k (map f ns) ++ f (slice_index_or ns k x) ∷ []
taken_more f ns k x l = ap (λ j. take j (map f ns)) (add-one k) ∙ at f ns k x l
  where
    at : {A B : Type 0} (g : A → B) (ms : List A) (j : ℕ) (y : A) → j < length ms → take (suc j) (map g ms) ≡ take j (map g ms) ++ g (slice_index_or ms j y) ∷ []
    at g [] j y l = absurd (omega (arith, l))
    at g (m ∷ ms) zero y l = refl
    at g (m ∷ ms) (suc j) y l = ap (λ xs. g m ∷ xs) (at g ms j y (omega (arith, l)))
