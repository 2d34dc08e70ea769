-- The place that a name with selects means: what it may mean it covers where its selects are constant, and it covers nothing else.
use Rattle.std.proofs.Common.{◌≡◌, ℕ, ◌<◌, Bool, true, false, cond, not, ◌&&◌, ◌==◌, nat_lt, inl, inr, refl, sym, ap, ap₂, ◌∙◌, subst, Option, Some, None, ℤ, pos, ◌-ℤ◌, IsTrue, option_and_then, arith, lt-ltb}
use Rattle.std.proofs.lemmas.Bool.{and_parts, and_from, cond-true, false≢true}
use Rattle.std.proofs.lemmas.Bool.Decides.{nat_tests}
use Rattle.std.proofs.lemmas.Int.{ints}
use Rattle.wb_values.specs.Value.{Name, Valuation}
use Rattle.verilog_trees.specs.Syntax.{Select, index, part, part_up, part_down, Selects, whole, one, two}
use Rattle.verilog_meaning.specs.Expression.{Object, Scope, object_width, is_memory, Bits, word_number, no_values, selects_width, select_index, select_bits}
use Rattle.verilog_meaning.specs.Statement.{Cell, variable_cell, word_cell, no_cell, Place, cell_at, indexed_cell, all_bits, named_place}
use Rattle.verilog_meaning.specs.Register.{select_is_constant, selects_are_constant, is_within, may_mean_bit, may_mean_word, is_word_number, may_mean}
use Rattle.verilog_designs.specs.Reads.{select_reads, selects_read}
use Rattle.verilog_designs.specs.Dependence.{is_same_cell, natural_in}
use Rattle.verilog_settled.specs.Locality.{HasNoConstantMemory, SelectsAre}
use Rattle.verilog_settled.proofs.Bits.{offset, is_offset, offset_below}
use Rattle.verilog_settled.proofs.Constant.{same_bits, same_index}
use Rattle.verilog_settled.proofs.Found.{SameOr, two_parts}
use Rattle.verilog_settled.proofs.Names.{means_bit, means_word, is_addressed}
use Rattle.verilog_settled.proofs.Expressions.{AreReadable, index_local, bits_local}
use Rattle.verilog_settled.proofs.Cells.{FitsCell, covers}

-- a place of the cell of a word, or of no memory
abbrev word_at : Name → Object → ℤ → Place
word_at n o i = record { of_name = n; cell = indexed_cell o i; bits = all_bits o }

abbrev bits_at : Name → Bits → Place
bits_at n p = record { of_name = n; cell = variable_cell; bits = p }

abbrev word_bits_at : Name → Object → ℤ → Bits → Place
word_bits_at n o i p = record { of_name = n; cell = indexed_cell o i; bits = p }

abbrev one_at : Name → Object → ℤ → Bits → Place
one_at n o i p = cond (is_memory o) (word_at n o i) (bits_at n p)

-- ---- how a place rests on the valuation

pub place_local : (s : Scope) (v w : Valuation) (HasValue IsKnown : Name → Type 0) → HasNoConstantMemory s → AreReadable s v w HasValue IsKnown
    → (n : Name) (x : Selects) → SelectsAre IsKnown x → SameOr (named_place s v n x) (named_place s w n x) v w HasValue (selects_read s x)
place_local s v w HasValue IsKnown p r n whole l = inl refl
place_local s v w HasValue IsKnown p r n (one i) l = by_parts (index_local s v w HasValue IsKnown p r i l) (bits_local s v w HasValue IsKnown p r (s n) i l)
  where
    by_parts : SameOr (select_index s v i) (select_index s w i) v w HasValue (select_reads s i)
        → SameOr (select_bits s v (s n) i) (select_bits s w (s n) i) v w HasValue (select_reads s i)
        → SameOr (named_place s v n (one i)) (named_place s w n (one i)) v w HasValue (select_reads s i)
    by_parts (inl e) (inl g) = inl (ap₂ (λ a b. one_at n (s n) a b) e g)
    by_parts (inr f) y = inr f
    by_parts (inl e) (inr f) = inr f
place_local s v w HasValue IsKnown p r n (two i j) l =
    two_parts (λ a b. word_bits_at n (s n) a b) v w HasValue (select_reads s i) (select_reads s j)
    (index_local s v w HasValue IsKnown p r i l.0) (bits_local s v w HasValue IsKnown p r (s n) j l.1)

pub place_fixed : (s : Scope) (v : Valuation) → HasNoConstantMemory s → (n : Name) (x : Selects) → IsTrue (selects_are_constant s x)
    → named_place s v n x ≡ named_place s no_values n x
place_fixed s v p n whole h = refl
place_fixed s v p n (one i) h = ap₂ (λ a b. one_at n (s n) a b) (same_index s v no_values p i h) (same_bits s v no_values p (s n) i h)
place_fixed s v p n (two i j) h =
    ap₂ (λ a b. word_bits_at n (s n) a b) (same_index s v no_values p i (and_parts (select_is_constant s i) (select_is_constant s j) h).0)
    (same_bits s v no_values p (s n) j (and_parts (select_is_constant s i) (select_is_constant s j) h).1)

same_count : (s : Scope) (v : Valuation) (o : Object) (i : Select) → (select_bits s v o i).count ≡ (select_bits s no_values o i).count
same_count s v o (index i) = refl
same_count s v o (part h l) = refl
same_count s v o (part_up b n) = refl
same_count s v o (part_down b n) = refl

pub place_count : (s : Scope) (v : Valuation) (n : Name) (x : Selects) → (named_place s v n x).bits.count ≡ selects_width s (s n) x
place_count s v n whole = refl
place_count s v n (one i) = by_kind (is_memory (s n))
  where
    by_kind : (m : Bool)
        → (cond m (word_at n (s n) (select_index s v i)) (bits_at n (select_bits s v (s n) i))).bits.count
        ≡ cond m (object_width (s n)) (select_bits s no_values (s n) i).count
    by_kind true = refl
    by_kind false = same_count s v (s n) i
place_count s v n (two i j) = same_count s v (s n) j

pub place_name : (s : Scope) (v : Valuation) (n : Name) (x : Selects) → (named_place s v n x).of_name ≡ n
place_name s v n whole = refl
place_name s v n (one i) = by_kind (is_memory (s n))
  where
    by_kind : (m : Bool) → (cond m (word_at n (s n) (select_index s v i)) (bits_at n (select_bits s v (s n) i))).of_name ≡ n
    by_kind true = refl
    by_kind false = refl
place_name s v n (two i j) = refl

addressed_cell : (o : Object) (i : ℤ) (q : Option ℕ) → option_and_then (λ a. word_number a i) o.addresses ≡ q → FitsCell o (cell_at q)
addressed_cell o i None e = tt
addressed_cell o i (Some k) e = is_addressed o.addresses i k e

pub place_fits : (s : Scope) (v : Valuation) (n : Name) (x : Selects) → FitsCell (s n) (named_place s v n x).cell
place_fits s v n whole = tt
place_fits s v n (one i) = by_kind (is_memory (s n))
  where
    by_kind : (m : Bool) → FitsCell (s n) (cond m (word_at n (s n) (select_index s v i)) (bits_at n (select_bits s v (s n) i))).cell
    by_kind true = addressed_cell (s n) (select_index s v i) (option_and_then (λ a. word_number a (select_index s v i)) (s n).addresses) refl
    by_kind false = tt
place_fits s v n (two i j) = addressed_cell (s n) (select_index s v i) (option_and_then (λ a. word_number a (select_index s v i)) (s n).addresses) refl

-- ---- what it covers

covered_word : (q : Option ℕ) (p : Bits) (k b : ℕ) → covers (cell_at q) p k b ≡ true → (q ≡ Some k) × (is_within p b ≡ true)
covered_word None p k b h = absurd (false≢true h)
covered_word (Some j) p k b h =
    let both : ((j == k) ≡ true) × (is_within p b ≡ true) = and_parts (j == k) (is_within p b) h in
    (ap (λ i. Some i) (same j k both.0), both.1)
  where
    same : (a c : ℕ) → (a == c) ≡ true → a ≡ c
    same a c e = grind (arith, nat_tests)

pub covers_means : (s : Scope) (v : Valuation) → HasNoConstantMemory s → (n : Name) (x : Selects) (k b : ℕ)
    → covers (named_place s v n x).cell (named_place s v n x).bits k b ≡ true → may_mean s (s n) x k b ≡ true
covers_means s v p n whole k b h = refl
covers_means s v p n (one i) k b h = by_kind (is_memory (s n)) h
  where
    by_kind : (m : Bool)
        → covers (cond m (word_at n (s n) (select_index s v i)) (bits_at n (select_bits s v (s n) i))).cell
        (cond m (word_at n (s n) (select_index s v i)) (bits_at n (select_bits s v (s n) i))).bits k b ≡ true
        → cond m (may_mean_word s (s n) i k) (may_mean_bit s (s n) i b) ≡ true
    by_kind true c =
        means_word s v (s n) i k p (covered_word (option_and_then (λ a. word_number a (select_index s v i)) (s n).addresses) (all_bits (s n)) k b c).0
    by_kind false c = means_bit s v (s n) i b p c
covers_means s v p n (two i j) k b h =
    let both : (option_and_then (λ a. word_number a (select_index s v i)) (s n).addresses ≡ Some k) × (is_within (select_bits s v (s n) j) b ≡ true) =
    covered_word (option_and_then (λ a. word_number a (select_index s v i)) (s n).addresses) (select_bits s v (s n) j) k b h in
    and_from (may_mean_word s (s n) i k) (may_mean_bit s (s n) j b) (means_word s v (s n) i k p both.0) (means_bit s v (s n) j b p both.1)

within_all : (o : Object) (b : ℕ) → b < object_width o → is_within (all_bits o) b ≡ true
within_all o b h = grind (arith, ints, nat_tests)

covers_word : (q : Option ℕ) (p : Bits) (k b : ℕ) → is_word_number q k ≡ true → is_within p b ≡ true → covers (cell_at q) p k b ≡ true
covers_word None p k b h g = absurd (false≢true h)
covers_word (Some j) p k b h g = and_from (j == k) (is_within p b) h g

fixed_cover : (s : Scope) → (n : Name) (x : Selects) (k b : ℕ) → IsTrue (selects_are_constant s x) → b < object_width (s n)
    → may_mean s (s n) x k b ≡ true → covers (named_place s no_values n x).cell (named_place s no_values n x).bits k b ≡ true
fixed_cover s n whole k b c l h = within_all (s n) b l
fixed_cover s n (one i) k b c l h = by_kind (is_memory (s n)) h
  where
    word_means : may_mean_word s (s n) i k ≡ true → is_word_number (option_and_then (λ a. word_number a (select_index s no_values i)) (s n).addresses) k ≡ true
    word_means g =
        sym (cond-true (select_is_constant s i) (is_word_number (option_and_then (λ a. word_number a (select_index s no_values i)) (s n).addresses) k) true c) ∙ g

    bit_means : may_mean_bit s (s n) i b ≡ true → is_within (select_bits s no_values (s n) i) b ≡ true
    bit_means g = sym (cond-true (select_is_constant s i) (is_within (select_bits s no_values (s n) i) b) true c) ∙ g

    by_kind : (m : Bool) → cond m (may_mean_word s (s n) i k) (may_mean_bit s (s n) i b) ≡ true
        → covers (cond m (word_at n (s n) (select_index s no_values i)) (bits_at n (select_bits s no_values (s n) i))).cell
        (cond m (word_at n (s n) (select_index s no_values i)) (bits_at n (select_bits s no_values (s n) i))).bits k b ≡ true
    by_kind true g =
        covers_word (option_and_then (λ a. word_number a (select_index s no_values i)) (s n).addresses) (all_bits (s n)) k b (word_means g) (within_all (s n) b l)
    by_kind false g = bit_means g
fixed_cover s n (two i j) k b c l h =
    let fixed : IsTrue (select_is_constant s i) × IsTrue (select_is_constant s j) = and_parts (select_is_constant s i) (select_is_constant s j) c in
    let both : (may_mean_word s (s n) i k ≡ true) × (may_mean_bit s (s n) j b ≡ true) = and_parts (may_mean_word s (s n) i k) (may_mean_bit s (s n) j b) h in
    covers_word (option_and_then (λ a. word_number a (select_index s no_values i)) (s n).addresses) (select_bits s no_values (s n) j) k b
    (sym (cond-true (select_is_constant s i) (is_word_number (option_and_then (λ a. word_number a (select_index s no_values i)) (s n).addresses) k) true fixed.0) ∙ both.0)
    (sym (cond-true (select_is_constant s j) (is_within (select_bits s no_values (s n) j) b) true fixed.1) ∙ both.1)

pub means_covers : (s : Scope) (v : Valuation) → HasNoConstantMemory s → (n : Name) (x : Selects) (k b : ℕ) → IsTrue (selects_are_constant s x)
    → b < object_width (s n) → may_mean s (s n) x k b ≡ true → covers (named_place s v n x).cell (named_place s v n x).bits k b ≡ true
means_covers s v p n x k b c l h =
    ap (λ q. covers q.cell q.bits k b) (place_fixed s v p n x c) ∙ fixed_cover s n x k b c l h

covers_within : (c : Cell) (p : Bits) (k b : ℕ) → covers c p k b ≡ true → IsTrue (is_within p b)
covers_within variable_cell p k b h = h
covers_within (word_cell j) p k b h = (and_parts (j == k) (is_within p b) h).1
covers_within no_cell p k b h = absurd (false≢true h)

pub covers_below : (c : Cell) (p : Bits) (k b : ℕ) → covers c p k b ≡ true → offset p.low b < p.count
covers_below c p k b h = offset_below p b (covers_within c p k b h)

same_itself : (i : ℕ) → (not (nat_lt i i) && not (nat_lt i i)) ≡ true
same_itself i = grind (arith, nat_tests)

-- the place of the value from which a covered bit comes
pub covers_takes : (s : Scope) (v : Valuation) → HasNoConstantMemory s → (n : Name) (x : Selects) (k b : ℕ)
    → covers (named_place s v n x).cell (named_place s v n x).bits k b ≡ true
    → cond (selects_are_constant s x) (is_same_cell (natural_in (pos b -ℤ (named_place s no_values n x).bits.low)) (offset (named_place s v n x).bits.low b))
    (nat_lt (offset (named_place s v n x).bits.low b) (selects_width s (s n) x)) ≡ true
covers_takes s v p n x k b h = by_kind (selects_are_constant s x) refl
  where
    by_kind : (c : Bool) → selects_are_constant s x ≡ c
        → cond c (is_same_cell (natural_in (pos b -ℤ (named_place s no_values n x).bits.low)) (offset (named_place s v n x).bits.low b))
        (nat_lt (offset (named_place s v n x).bits.low b) (selects_width s (s n) x)) ≡ true
    by_kind true c =
        ap (λ q. is_same_cell (natural_in (pos b -ℤ q.bits.low)) (offset (named_place s v n x).bits.low b)) (sym (place_fixed s v p n x c))
        ∙ ap (λ z. is_same_cell (natural_in z) (offset (named_place s v n x).bits.low b))
        (is_offset (named_place s v n x).bits b (covers_within (named_place s v n x).cell (named_place s v n x).bits k b h))
        ∙ same_itself (offset (named_place s v n x).bits.low b)
    by_kind false c =
        lt-ltb (offset (named_place s v n x).bits.low b) (selects_width s (s n) x)
        (subst (λ m. offset (named_place s v n x).bits.low b < m) (place_count s v n x)
        (covers_below (named_place s v n x).cell (named_place s v n x).bits k b h))
