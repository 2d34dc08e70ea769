-- Numbers written to parts of targets at known places: terms, tables and valuations.
use Rattle.std.proofs.Common.{◌≡◌, ◌∙◌, ◌+◌, ◌-◌, ◌*◌, ◌/◌, ◌%◌, ◌^◌, ◌<◌, ◌≤◌, ℕ, refl, ap, sym, subst, arith, Bool, true, false, cond, List, [], ◌∷◌, ◌++◌, Option, Some, None, is_some, pos, negsuc}
use Rattle.std.specs.Prelude.{IsTrue, not, ◌&&◌}
use Rattle.std.proofs.Math.Pow.{pow_pos, mod-mod-pow, shr-shr}
use Rattle.std.proofs.Math.Nat.{mod-lt, mod-one, mod-eq_of_lt, div-one, div-eq_of_lt}
use Rattle.std.proofs.lemmas.Bool.{false≢true, and_parts}
use Rattle.std.proofs.lemmas.Slice.Eq.{bytes_eq-Decides}
use Rattle.wb_values.specs.Value.{Name, Value, truth_value, number, words, as_number, Sort, truth, word, memory, Valuation, same_name, with_value}
use Rattle.wb_values.specs.Number.{word_extract}
use Rattle.model_meaning.specs.Term.{Term, val}
use Rattle.verilog_trees.specs.Syntax.{Selects, whole, one, two, Target, place, joined, Targets, no_targets, target}
use Rattle.verilog_meaning.specs.Expression.{Object, Scope, Bits, object_width, is_memory, no_values, select_index, select_bits, selects_width}
use Rattle.verilog_meaning.specs.Statement.{variable_cell, indexed_cell, all_bits, Place, named_place, places, all_places, places_width, with_bits, with_bits_at, written_cell, written_place, written}
use Rattle.verilog_meaning.specs.Settled.{IsValueOf}
use Rattle.verilog_settled.specs.Locality.{HasNoConstantMemory, has_constant_selects, all_have_constant_selects}
use Rattle.verilog_settled.proofs.Places.{place_fixed}
use Rattle.wb_terms.specs.Graph.{Graph, tree}
use Rattle.v_value.specs.Index.{span_of}
use Rattle.v_value.specs.declared.select.Span.{Span}
use Rattle.v_statement.proofs.Written.{cut_high}
use Rattle.v_operators.specs.Meaning.{Grows, IsOfSort, HasNumber, Makes, Joins}
use Rattle.v_operators.proofs.Growing.{tree_kept, number_kept}
use Rattle.v_lower.specs.Lowered.{has_number, Images, HasImages, IsImage, IsSortOf, StandsFor}
use Rattle.v_lower.proofs.Lowering.{images_kept}
use Rattle.v_write.specs.Written.{AreOfNames}
use Rattle.v_depend.specs.Left.{part_bits}
use Rattle.v_settle.proofs.Widths.{part-width}
use Rattle.v_settle.specs.Drivers.{IsNet, HasOneSelect, IsNetChanged, IsPlaceWritten, AreBitsWritten}

-- ---- pieces of a number (as in the proofs of `v_write`)

pub piece_made : (g h : Graph) (x w id low n : ℕ) → 1 ≤ n → Makes g h x w id (low + n - 1 + 1 - low) (word_extract (low + n - 1) low) → Makes g h x w id n (λ a. a / 2 ^ low % 2 ^ n)
piece_made g h x w id low n some m =
    let e : low + n - 1 + 1 - low ≡ n = omega (arith, some) in
    subst (λ k. Makes g h x w id k (λ a. a / 2 ^ low % 2 ^ k)) e m

pub piece_whole : (g : Graph) (x w low n : ℕ) → IsOfSort g x (word w) → n ≡ w → low + n ≤ w → Makes g g x w x n (λ a. a / 2 ^ low % 2 ^ n)
piece_whole g x w low n o e l =
    let z : low ≡ 0 = omega (arith, e, l) in
    subst (λ k. Makes g g x w x k (λ a. a / 2 ^ low % 2 ^ k)) (sym e)
    (subst (λ k. Makes g g x w x w (λ a. a / 2 ^ k % 2 ^ w)) (sym z)
    (record {
      of_sort = o;
      value = λ p a is_a. subst (λ k. HasNumber g x w p k) (sym (ap (λ k. k % 2 ^ w) (div-one a) ∙ mod-eq_of_lt {n = a} {m = 2 ^ w} is_a.fits)) is_a;
    }))

-- ---- values of nets

number_of_value : (o : Object) (x : Value) → is_memory o ≡ false → IsValueOf o x → (x ≡ number (as_number x)) × (as_number x < 2 ^ object_width o)
number_of_value o (number x) m h = (refl, h.1)
number_of_value o (words xs) m h = absurd (false≢true (sym m ∙ h.0))
number_of_value o (truth_value b) m h = absurd h

bits_fit : (w old : ℕ) (b : Bits) (y : ℕ) → with_bits w old b y < 2 ^ w
bits_fit w old b y = by_place b.low
  where
    by_place : (z : _) → with_bits_at w old z b.count y < 2 ^ w
    by_place (pos k) = mod-lt _ (pow_pos w)
    by_place (negsuc k) = mod-lt _ (pow_pos w)

number_fits : (o : Object) (v : Value) (b : Bits) (y : ℕ) → is_memory o ≡ false → IsValueOf o (written_cell o v variable_cell b y)
number_fits o v b y m = (ap not m, bits_fit (object_width o) (as_number v) b y)

all_written : (o : Object) (a x : ℕ) → a < 2 ^ object_width o → x < 2 ^ object_width o → with_bits (object_width o) a (all_bits o) x ≡ x
all_written o a x h k = entire (object_width o) h k
  where
    plain : (n : ℕ) → 0 + 2 ^ 0 * x + n * 0 ≡ x
    plain n = omega arith

    entire : (w : ℕ) → a < 2 ^ w → x < 2 ^ w → (a % 2 ^ 0 + 2 ^ 0 * (x % 2 ^ w) + 2 ^ (0 + w) * (a / 2 ^ (0 + w))) % 2 ^ w ≡ x
    entire w h k =
        let e : 0 + w ≡ w = omega arith in
        let z : a / 2 ^ (0 + w) ≡ 0 = subst (λ n. a / 2 ^ n ≡ 0) (sym e) (div-eq_of_lt h) in
        let q : a % 2 ^ 0 ≡ 0 = mod-one a in
        let r : x % 2 ^ w ≡ x = mod-eq_of_lt {n = x} {m = 2 ^ w} k in
        ap (λ n. (n + 2 ^ 0 * (x % 2 ^ w) + 2 ^ (0 + w) * (a / 2 ^ (0 + w))) % 2 ^ w) q
        ∙ ap (λ n. (0 + 2 ^ 0 * n + 2 ^ (0 + w) * (a / 2 ^ (0 + w))) % 2 ^ w) r
        ∙ ap (λ n. (0 + 2 ^ 0 * x + 2 ^ (0 + w) * n) % 2 ^ w) z
        ∙ ap (λ n. n % 2 ^ w) (plain (2 ^ (0 + w)))
        ∙ r

-- the term of a net is a word of its bits
word_image : (g : Graph) (o : Object) (id : ℕ) (t : Sort) → is_memory o ≡ false → IsSortOf o t → IsOfSort g id t → IsOfSort g id (word (object_width o))
word_image g o id truth m h q = absurd h
word_image g o id (word w) m h q = subst (λ k. IsOfSort g id (word k)) h.1 q
word_image g o id (memory a d) m h q = absurd (false≢true (sym m ∙ h.0))

pub net_word : (s : Scope) (a : Images) (g : Graph) (n : Name) (id w : ℕ) → HasImages s a g → IsNet s n → a n ≡ Some id → w ≡ object_width (s n) → IsOfSort g id (word w)
net_word s a g n id w known net e is_w =
    let i = known.image n id e in
    subst (λ k. IsOfSort g id (word k)) (sym is_w) (word_image g (s n) id i.sort net.plain i.of_name i.of_sort)

pub is-some-id : (o : Option ℕ) → is_some o ≡ true → (id : ℕ) × (o ≡ Some id)
is-some-id (Some id) h = (id, refl)
is-some-id None h = absurd (false≢true h)

pub no-number : (o : Object) → o.constant ≡ None → has_number o ≡ false
no-number o e = ap (λ (c : Option ℕ). is_some c && not (is_memory o)) e

pub term_there : (s : Scope) (a : Images) (g : Graph) (n : Name) → HasImages s a g → IsNet s n → is_some (a n) ≡ true
term_there s a g n known net = known.some n net.sort (no-number (s n) net.variable)

pub net_term : (s : Scope) (a : Images) (g : Graph) (n : Name) → HasImages s a g → IsNet s n → (id : ℕ) × (a n ≡ Some id)
net_term s a g n known net = is-some-id (a n) (term_there s a g n known net)

-- ---- the place of a part

part_place : (s : Scope) (n : Name) (x : Selects) → is_memory (s n) ≡ false → HasOneSelect x
    → named_place s no_values n x ≡ record { of_name = n; cell = variable_cell; bits = part_bits s (s n) x }
part_place s n whole m h = refl
part_place s n (one i) m h = by (is_memory (s n)) m
  where
    by : (t : Bool) → t ≡ false
        → cond {A = Place} t (record { of_name = n; cell = indexed_cell (s n) (select_index s no_values i); bits = all_bits (s n) }) (record { of_name = n; cell = variable_cell; bits = select_bits s no_values (s n) i })
        ≡ record { of_name = n; cell = variable_cell; bits = cond t (all_bits (s n)) (select_bits s no_values (s n) i) }
    by false e = refl
    by true e = absurd (false≢true (sym e))
part_place s n (two i j) m h = absurd h

pub place_count : (s : Scope) (n : Name) (x : Selects) → IsNet s n → HasOneSelect x → selects_width s (s n) x ≡ (named_place s no_values n x).bits.count
place_count s n x net single = sym (ap (λ (q : Place). q.bits.count) (part_place s n x net.plain single) ∙ part-width s (s n) x)

-- the term after bits at known places were replaced
pub net_replaced : (s : Scope) (a : Images) (g h : Graph) (n : Name) (x : Selects) (b : Span) (old value id w : ℕ) → IsNet s n → HasOneSelect x → a n ≡ Some old
    → w ≡ object_width (s n) → span_of b ≡ part_bits s (s n) x → Joins g h old w value b.count id w (λ y z. with_bits_at w y (span_of b).low (span_of b).count z)
    → IsNetChanged s a g (named_place s no_values n x) value h id
net_replaced s a g h n x b old value id w net single had is_w is_b j =
    subst (λ (q : Place). IsNetChanged s a g q value h id) (sym (part_place s n x net.plain single))
    (record { of_sort = subst (λ k. IsOfSort h id (word k)) is_w j.of_sort; value = worth })
  where
    worth : (p v : Valuation) (y : ℕ) → StandsFor s a g p v → HasNumber g value (part_bits s (s n) x).count p y
        → val (tree h id) p ≡ written_cell (s n) (v n) variable_cell (part_bits s (s n) x) y
    worth p v y st is_y =
        let f = number_of_value (s n) (v n) net.plain (st.fits n old had) in
        let was : HasNumber g old w p (as_number (v n)) = record { value = st.same n old had ∙ f.0; fits = subst (λ k. as_number (v n) < 2 ^ k) (sym is_w) f.1 } in
        let fits : HasNumber g value b.count p y = subst (λ (q : Bits). HasNumber g value q.count p y) (sym is_b) is_y in
        (j.value p (as_number (v n)) y was fits).value
        ∙ ap (λ k. number (with_bits_at k (as_number (v n)) (span_of b).low (span_of b).count y)) is_w
        ∙ ap (λ (q : Bits). number (with_bits (object_width (s n)) (as_number (v n)) q y)) is_b

-- and after all of them were
pub net_whole : (s : Scope) (a : Images) (g : Graph) (n : Name) (old value : ℕ) → IsNet s n → a n ≡ Some old → IsOfSort g value (word (object_width (s n)))
    → IsNetChanged s a g (named_place s no_values n whole) value g value
net_whole s a g n old value net had sort = record { of_sort = sort; value = worth }
  where
    worth : (p v : Valuation) (y : ℕ) → StandsFor s a g p v → HasNumber g value (object_width (s n)) p y
        → val (tree g value) p ≡ written_cell (s n) (v n) variable_cell (all_bits (s n)) y
    worth p v y st is_y =
        let f = number_of_value (s n) (v n) net.plain (st.fits n old had) in
        is_y.value ∙ ap number (sym (all_written (s n) (as_number (v n)) y f.1 is_y.fits))

pub net_all : (s : Scope) (a : Images) (g : Graph) (n : Name) (x : Selects) (value : ℕ) → HasImages s a g → IsNet s n → x ≡ whole
    → IsOfSort g value (word (selects_width s (s n) x)) → IsNetChanged s a g (named_place s no_values n x) value g value
net_all s a g n x value known net e sort =
    let t = net_term s a g n known net in
    subst (λ (y : Selects). IsNetChanged s a g (named_place s no_values n y) value g value) (sym e)
    (net_whole s a g n t.0 value net t.1 (subst (λ (y : Selects). IsOfSort g value (word (selects_width s (s n) y))) e sort))

-- ---- a table in which one name has another term

stands_after : (s : Scope) (im : Images) (g h : Graph) (p v : Valuation) → Grows g h → HasImages s im g → StandsFor s im g p v → StandsFor s im h p v
stands_after s im g h p v a k st =
    record { fits = st.fits; same = λ n id i. ap (λ (t : Term). val t p) (tree_kept id a (k.image n id i).of_sort.below) ∙ st.same n id i }

first : Option ℕ → ℕ → ℕ
first (Some x) d = x
first None d = d

some-is : (a b : ℕ) → Some a ≡ Some b → a ≡ b
unfolding first
some-is a b e = ap (λ o. first o a) e

module _ (s : Scope) (a b : Images) (g h : Graph) (n : Name) (id : ℕ) (grows : Grows g h) (known : HasImages s a g) (had : (old : ℕ) × (a n ≡ Some old))
    (is_b : (m : Name) → b m ≡ cond (same_name n m) (Some id) (a m)) where
  same_is : (m : Name) → same_name n m ≡ true → n ≡ m
  same_is m e = (bytes_eq-Decides n m).0 e

  given : (m : Name) (k : ℕ) → same_name n m ≡ true → b m ≡ Some k → (n ≡ m) × (id ≡ k)
  given m k t e = (same_is m t, some-is id k (sym (ap (λ c. cond c (Some id) (a m)) t) ∙ (sym (is_b m) ∙ e)))

  left : (m : Name) (k : ℕ) → same_name n m ≡ false → b m ≡ Some k → a m ≡ Some k
  left m k t e = sym (ap (λ c. cond c (Some id) (a m)) t) ∙ (sym (is_b m) ∙ e)

  names_kept : AreOfNames a b
  names_kept m = ap is_some (is_b m) ∙ by (same_name n m) refl
    where
      by : (c : Bool) → same_name n m ≡ c → is_some (cond c (Some id) (a m)) ≡ is_some (a m)
      by true t = ap is_some (sym had.1) ∙ ap (λ k. is_some (a k)) (same_is m t)
      by false t = refl

  images_written : IsImage s h n id → HasImages s b h
  images_written i = record { some = λ m t u. subst (λ c. IsTrue c) (sym (names_kept m)) (known.some m t u); image = λ m k e. by m k e (same_name n m) refl }
    where
      by : (m : Name) (k : ℕ) → b m ≡ Some k → (c : Bool) → same_name n m ≡ c → IsImage s h m k
      by m k e true t = let q = given m k t e in subst (λ z. IsImage s h z k) q.0 (subst (λ z. IsImage s h n z) q.1 i)
      by m k e false t = (images_kept s a g h grows known).image m k (left m k t e)

  stands_written : (p v : Valuation) (y : Value) → StandsFor s a g p v → IsValueOf (s n) y → val (tree h id) p ≡ y → StandsFor s b h p (with_value v n y)
  stands_written p v y st f e = record { fits = λ m k i. fits m k i (same_name n m) refl; same = λ m k i. same m k i (same_name n m) refl }
    where
      fits : (m : Name) (k : ℕ) → b m ≡ Some k → (c : Bool) → same_name n m ≡ c → IsValueOf (s m) (cond c y (v m))
      fits m k i true t = subst (λ z. IsValueOf (s z) y) (same_is m t) f
      fits m k i false t = st.fits m k (left m k t i)

      same : (m : Name) (k : ℕ) → b m ≡ Some k → (c : Bool) → same_name n m ≡ c → val (tree h k) p ≡ cond c y (v m)
      same m k i true t = ap (λ z. val (tree h z) p) (sym (given m k t i).1) ∙ e
      same m k i false t = (stands_after s a g h p v grows known st).same m k (left m k t i)

  net_image : IsNet s n → IsOfSort h id (word (object_width (s n))) → IsImage s h n id
  net_image net sort = record { sort = word (object_width (s n)); of_name = (ap not net.plain, refl); of_sort = sort }

  pub place_written : (x : Selects) (value : ℕ) → IsNet s n → HasOneSelect x → IsNetChanged s a g (named_place s no_values n x) value h id
      → IsPlaceWritten s a g (named_place s no_values n x) value b h
  place_written x value net single c =
      subst (λ (q : Place). IsPlaceWritten s a g q value b h) (sym at)
      (record {
        known = images_written (net_image net d.of_sort);
        names = names_kept;
        stands = λ p v y st is_y.
            stands_written p v _ st (number_fits (s n) (v n) (part_bits s (s n) x) y net.plain) (d.value p v y st is_y);
      })
    where
      at : named_place s no_values n x ≡ record { of_name = n; cell = variable_cell; bits = part_bits s (s n) x }
      at = part_place s n x net.plain single

      d : IsNetChanged s a g (record { of_name = n; cell = variable_cell; bits = part_bits s (s n) x }) value h id
      d = subst (λ (q : Place). IsNetChanged s a g q value h id) at c

-- ---- places one after the other

width-both : (ps qs : List Place) → places_width (ps ++ qs) ≡ places_width ps + places_width qs
width-both [] qs = omega arith
width-both (p ∷ ps) qs = let e = width-both ps qs in omega (arith, e)

cut-again : (x k m : ℕ) → x % 2 ^ (k + m) % 2 ^ m ≡ x % 2 ^ m
cut-again x k m = mod-mod-pow x k m

-- the places of the first list get the high bits
written-both : (s : Scope) (v : Valuation) (ps qs : List Place) (z : ℕ) → z < 2 ^ (places_width ps + places_width qs)
    → written s v (ps ++ qs) z ≡ written s (written s v qs (z % 2 ^ places_width qs)) ps (z / 2 ^ places_width qs)
written-both s v [] qs z h =
    let l : z < 2 ^ places_width qs = subst (λ k. z < 2 ^ k) (omega arith) h in
    ap (written s v qs) (sym (mod-eq_of_lt {n = z} {m = 2 ^ places_width qs} l))
written-both s v (p ∷ ps) qs z h =
    let c = places_width ps in
    let m = places_width qs in
    let low = z % 2 ^ (c + m) in
    let both = written-both s v ps qs low (mod-lt z (pow_pos (c + m))) in
    let first_of : written s v (ps ++ qs) low ≡ written s (written s v qs (z % 2 ^ m)) ps (z / 2 ^ m % 2 ^ c) =
    both ∙ ap (λ k. written s (written s v qs k) ps (low / 2 ^ m)) (cut-again z c m) ∙ ap (λ k. written s (written s v qs (z % 2 ^ m)) ps k) (cut_high z c m) in
    let high : z / 2 ^ (c + m) ≡ z / 2 ^ m / 2 ^ c = sym (shr-shr z m c ∙ ap (λ k. z / 2 ^ k) (turned m c)) in
    ap (λ k. written_place s (written s v (ps ++ qs) (z % 2 ^ k)) p (z / 2 ^ k)) (width-both ps qs)
    ∙ ap (λ (u : Valuation). written_place s u p (z / 2 ^ (c + m))) first_of
    ∙ ap (λ k. written_place s (written s (written s v qs (z % 2 ^ m)) ps (z / 2 ^ m % 2 ^ c)) p k) high
  where
    turned : (x y : ℕ) → x + y ≡ y + x
    turned x y = omega arith

-- ---- bits of a number written to places

pub one_written : (s : Scope) (a : Images) (g k : Graph) (q : Place) (source w low c bits : ℕ) (b : Images) (h : Graph) → HasImages s a g → Grows g k → c ≡ q.bits.count
    → Makes g k source w bits c (λ x. x / 2 ^ low % 2 ^ c) → IsPlaceWritten s a k q bits b h → AreBitsWritten s a g (q ∷ []) c source w low b h
one_written s a g k q source w low c bits b h known grows is_c piece done =
    record { known = done.known; names = done.names; stands = stands }
  where
    stands : (p v : Valuation) (x : ℕ) → StandsFor s a g p v → HasNumber g source w p x → StandsFor s b h p (written s v (q ∷ []) (x / 2 ^ low % 2 ^ c))
    stands p v x st is_x =
        let y = x / 2 ^ low % 2 ^ c in
        let made : HasNumber k bits q.bits.count p y = subst (λ n. HasNumber k bits n p y) is_c (piece.value p x is_x) in
        subst (λ n. StandsFor s b h p (written_place s v q n)) (sym (div-one y)) (done.stands p v y (stands_after s a g k p v grows known st) made)

pub none_written : (s : Scope) (a : Images) (g : Graph) (source w low : ℕ) → HasImages s a g → AreBitsWritten s a g [] 0 source w low a g
none_written s a g source w low known = record { known = known; names = λ n. refl; stands = λ p v x st is_x. st }

pub more_written : (s : Scope) (a b c : Images) (g h l : Graph) (ps qs : List Place) (k m source w low : ℕ) → IsOfSort g source (word w) → Grows g h
    → k ≡ places_width ps → m ≡ places_width qs → AreBitsWritten s a g qs m source w low b h → AreBitsWritten s b h ps k source w (low + m) c l
    → AreBitsWritten s a g (ps ++ qs) (k + m) source w low c l
more_written s a b c g h l ps qs k m source w low sort grows is_k is_m before after =
    record { known = after.known; names = λ n. after.names n ∙ before.names n; stands = stands }
  where
    same : (v : Valuation) (x : ℕ) → written s (written s v qs (x / 2 ^ low % 2 ^ m)) ps (x / 2 ^ (low + m) % 2 ^ k) ≡ written s v (ps ++ qs) (x / 2 ^ low % 2 ^ (k + m))
    same v x =
        let y = x / 2 ^ low in
        let z = y % 2 ^ (k + m) in
        let fits : z < 2 ^ (places_width ps + places_width qs) = subst (λ n. z < 2 ^ n) (λ i. is_k i + is_m i) (mod-lt y (pow_pos (k + m))) in
        let low_bits : z % 2 ^ places_width qs ≡ y % 2 ^ m = ap (λ n. z % 2 ^ n) (sym is_m) ∙ cut-again y k m in
        let high_bits : z / 2 ^ places_width qs ≡ x / 2 ^ (low + m) % 2 ^ k = ap (λ n. z / 2 ^ n) (sym is_m) ∙ cut_high y k m ∙ ap (λ n. n % 2 ^ k) (shr-shr x low m) in
        sym (written-both s v ps qs z fits ∙ ap (λ n. written s (written s v qs n) ps (z / 2 ^ places_width qs)) low_bits
        ∙ ap (λ n. written s (written s v qs (y % 2 ^ m)) ps n) high_bits)

    stands : (p v : Valuation) (x : ℕ) → StandsFor s a g p v → HasNumber g source w p x → StandsFor s c l p (written s v (ps ++ qs) (x / 2 ^ low % 2 ^ (k + m)))
    stands p v x st is_x =
        subst (StandsFor s c l p) (same v x)
        (after.stands p (written s v qs (x / 2 ^ low % 2 ^ m)) x (before.stands p v x st is_x) (number_kept source w p x grows sort.below is_x))

-- ---- targets with constant selects mean the same places everywhere

mutual
  pub fixed_places : (s : Scope) (v : Valuation) → HasNoConstantMemory s → (t : Target) → IsTrue (has_constant_selects s t) → places s v t ≡ places s no_values t
  fixed_places s v f (place n x) h = ap (λ q. q ∷ []) (place_fixed s v f n x h)
  fixed_places s v f (joined ts) h = all_fixed_places s v f ts h

  all_fixed_places : (s : Scope) (v : Valuation) → HasNoConstantMemory s → (ts : Targets) → IsTrue (all_have_constant_selects s ts) → all_places s v ts ≡ all_places s no_values ts
  all_fixed_places s v f no_targets h = refl
  all_fixed_places s v f (target t ts) h =
      let both = and_parts (has_constant_selects s t) (all_have_constant_selects s ts) h in
      λ i. fixed_places s v f t both.0 i ++ all_fixed_places s v f ts both.1 i
