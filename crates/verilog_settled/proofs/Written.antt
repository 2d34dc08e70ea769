-- A bit after numbers were written to a target: it is the same under two valuations, or one of the definition's causes is found.
use Rattle.std.proofs.Common.{◌≡◌, ◌≢◌, ℕ, ◌+◌, ◌-◌, ◌/◌, ◌%◌, ◌^◌, ◌<◌, ◌≤◌, Bool, true, false, cond, not, ◌&&◌, nat_lt, ◌⊎◌, inl, inr, refl, sym, ap, ◌∙◌, subst, List, [], ◌∷◌, ◌++◌, pos, ◌-ℤ◌, IsTrue, arith}
use Rattle.std.proofs.lemmas.Bool.{cases_lt, cases_Bool, and_from, cond-true, cond-false, false≢true}
use Rattle.std.proofs.lemmas.Slice.Eq.{bytes_eq-Decides}
use Rattle.wb_values.specs.Value.{Name, same_name, Value, Valuation}
use Rattle.verilog_trees.specs.Syntax.{Selects, Target, place, joined, Targets, no_targets, target}
use Rattle.verilog_meaning.specs.Expression.{Scope, object_width, no_values, selects_width}
use Rattle.verilog_meaning.specs.Statement.{Place, named_place, places, all_places, places_width, target_width, targets_width, written_cell, written_place, written}
use Rattle.verilog_meaning.specs.Register.{selects_are_constant, may_mean, may_reach, is_set, value_bit}
use Rattle.verilog_designs.specs.Reads.{selects_read, surely_reaches, one_surely_reaches}
use Rattle.verilog_designs.specs.Dependence.{Bit, is_in, is_same_cell, natural_in, part_takes, takes, one_takes, index_reads, one_index_reads}
use Rattle.verilog_settled.specs.Locality.{IsSame, HasNoConstantMemory}
use Rattle.verilog_settled.proofs.Bits.{alike_or_not, offset, set_from_bit, bit_of_shifted, bit_of_cut, bit_past_cut}
use Rattle.verilog_settled.proofs.Values.{Alike, alike_turned, alike_further}
use Rattle.verilog_settled.proofs.Found.{Found, In, SameOr, found_so}
use Rattle.verilog_settled.proofs.Names.{same_refl}
use Rattle.verilog_settled.proofs.Cells.{FitsCell, Spoiled, spoiled_stays, never_spoiled, kind_stays, high_unset, covers, bit_stays, bit_given}
use Rattle.verilog_settled.proofs.Places.{place_count, place_name, place_fits, covers_means, means_covers, covers_below, covers_takes}

-- ---- names

pub same_from : (m n : Name) → same_name m n ≡ true → m ≡ n
same_from m n e = (bytes_eq-Decides m n).0 e

pub at_name : (s : Scope) (v : Valuation) (p : Place) (x : ℕ) (n : Name) → same_name p.of_name n ≡ true
    → written_place s v p x n ≡ written_cell (s n) (v n) p.cell p.bits x
at_name s v p x n e =
    cond-true (same_name p.of_name n) (written_cell (s p.of_name) (v p.of_name) p.cell p.bits x) (v n) e
    ∙ ap (λ m. written_cell (s m) (v m) p.cell p.bits x) (same_from p.of_name n e)

pub off_name : (s : Scope) (v : Valuation) (p : Place) (x : ℕ) (n : Name) → same_name p.of_name n ≡ false → written_place s v p x n ≡ v n
off_name s v p x n e = cond-false (same_name p.of_name n) (written_cell (s p.of_name) (v p.of_name) p.cell p.bits x) (v n) e

-- ---- kinds of values

-- the kind of a value at a name stays, or is spoiled for good
abbrev pub Kind : Scope → Name → Value → Value → Type 0
Kind s n z x = Alike (s n) z x ⊎ Spoiled (s n) x

abbrev pub AreFit : Scope → List Place → Type 0
AreFit s [] = Unit {0}
AreFit s (p ∷ ps) = FitsCell (s p.of_name) p.cell × AreFit s ps

pub fit_append : (s : Scope) (ps qs : List Place) → AreFit s ps → AreFit s qs → AreFit s (ps ++ qs)
fit_append s [] qs h k = k
fit_append s (p ∷ ps) qs h k = (h.0, fit_append s ps qs h.1 k)

mutual
  pub target_fits : (s : Scope) (v : Valuation) (t : Target) → AreFit s (places s v t)
  target_fits s v (place n x) = (subst (λ m. FitsCell (s m) (named_place s v n x).cell) (sym (place_name s v n x)) (place_fits s v n x), tt)
  target_fits s v (joined ts) = targets_fit s v ts

  pub targets_fit : (s : Scope) (v : Valuation) (ts : Targets) → AreFit s (all_places s v ts)
  targets_fit s v no_targets = tt
  targets_fit s v (target t ts) = fit_append s (places s v t) (all_places s v ts) (target_fits s v t) (targets_fit s v ts)

place_kind : (s : Scope) (v : Valuation) (p : Place) (x : ℕ) (n : Name) (z : Value) → FitsCell (s p.of_name) p.cell → Kind s n z (v n)
    → Kind s n z (written_place s v p x n)
place_kind s v p x n z f h = by_name (cases_Bool (same_name p.of_name n))
  where
    at_cell : Kind s n z (v n) → FitsCell (s n) p.cell → Kind s n z (written_cell (s n) (v n) p.cell p.bits x)
    at_cell (inl k) g = kind_stays (s n) z (v n) p.cell p.bits x g k
    at_cell (inr k) g = inr (spoiled_stays (s n) (v n) p.cell p.bits x k)

    by_name : (same_name p.of_name n ≡ true) ⊎ (same_name p.of_name n ≡ false) → Kind s n z (written_place s v p x n)
    by_name (inl e) =
        subst (Kind s n z) (sym (at_name s v p x n e)) (at_cell h (subst (λ m. FitsCell (s m) p.cell) (same_from p.of_name n e) f))
    by_name (inr e) = subst (Kind s n z) (sym (off_name s v p x n e)) h

pub written_kind : (s : Scope) (v : Valuation) (ps : List Place) (x : ℕ) (n : Name) (z : Value) → AreFit s ps → Kind s n z (v n)
    → Kind s n z (written s v ps x n)
written_kind s v [] x n z f h = h
written_kind s v (p ∷ ps) x n z f h =
    place_kind s (written s v ps (x % 2 ^ places_width ps)) p (x / 2 ^ places_width ps) n z f.0
    (written_kind s v ps (x % 2 ^ places_width ps) n z f.1 h)

-- what a place leaves unspoiled was not spoiled before
pub before_place : (s : Scope) (v : Valuation) (p : Place) (x : ℕ) (n : Name) (z : Value) → Kind s n z (v n) → Alike (s n) z (written_place s v p x n)
    → Alike (s n) z (v n)
before_place s v p x n z (inl k) h = k
before_place s v p x n z (inr k) h = absurd (never_spoiled (s n) z (written_place s v p x n) h (still (cases_Bool (same_name p.of_name n))))
  where
    still : (same_name p.of_name n ≡ true) ⊎ (same_name p.of_name n ≡ false) → Spoiled (s n) (written_place s v p x n)
    still (inl e) = subst (Spoiled (s n)) (sym (at_name s v p x n e)) (spoiled_stays (s n) (v n) p.cell p.bits x k)
    still (inr e) = subst (Spoiled (s n)) (sym (off_name s v p x n e)) k

-- ---- why a bit differs after places were written

-- The causes: the bit is kept, it takes a bit of the number, or an index decides.
pub data Why (v w : Valuation) (HasValue : Name → Type 0) (Kept : Type 0) (Takes : ℕ → Type 0) (Index : Bit → Type 0) (x y : ℕ) (u : Bit) : Type 0 where
  stays : Kept → ¬ IsSame v w u → Why v w HasValue Kept Takes Index x y u
  takes_bit : (j : ℕ) → Takes j → is_set x j ≢ is_set y j → Why v w HasValue Kept Takes Index x y u
  by_index : Found v w HasValue Index → Why v w HasValue Kept Takes Index x y u

-- for all numbers that leave the bit's name values of the kind
abbrev pub Told : (s : Scope) (v w : Valuation) (HasValue : Name → Type 0) (u : Bit) (ps qs : List Place) (Kept : Type 0) (Takes : ℕ → Type 0)
    (Index : Bit → Type 0) → Type 0
Told s v w HasValue u ps qs Kept Takes Index =
    (x y : ℕ) → Alike (s u.of_name) (v u.of_name) (written s v ps x u.of_name) → Alike (s u.of_name) (w u.of_name) (written s w qs y u.of_name)
    → IsSame (written s v ps x) (written s w qs y) u ⊎ Why v w HasValue Kept Takes Index x y u

pub why_so : (v w : Valuation) (HasValue : Name → Type 0) (Kept Kept2 : Type 0) (Takes Takes2 : ℕ → Type 0) (Index Index2 : Bit → Type 0) (x y : ℕ) (u : Bit)
    → (Kept → Kept2) → ((j : ℕ) → Takes j → Takes2 j) → ((z : Bit) → Index z → Index2 z)
    → Why v w HasValue Kept Takes Index x y u → Why v w HasValue Kept2 Takes2 Index2 x y u
why_so v w HasValue Kept Kept2 Takes Takes2 Index Index2 x y u f g h (stays k d) = stays (f k) d
why_so v w HasValue Kept Kept2 Takes Takes2 Index Index2 x y u f g h (takes_bit j k d) = takes_bit j (g j k) d
why_so v w HasValue Kept Kept2 Takes Takes2 Index Index2 x y u f g h (by_index k) = by_index (found_so v w HasValue Index Index2 h k)

-- the low parts of two numbers, of one width
why_cut : (v w : Valuation) (HasValue : Name → Type 0) (Kept : Type 0) (Takes : ℕ → Type 0) (Index : Bit → Type 0) (x y m : ℕ) (u : Bit)
    → Why v w HasValue Kept Takes Index (x % 2 ^ m) (y % 2 ^ m) u → Why v w HasValue Kept Takes Index x y u
why_cut v w HasValue Kept Takes Index x y m u (stays k d) = stays k d
why_cut v w HasValue Kept Takes Index x y m u (by_index k) = by_index k
why_cut v w HasValue Kept Takes Index x y m u (takes_bit j k d) = by_place (cases_lt j m)
  where
    by_place : (j < m) ⊎ (m ≤ j) → Why v w HasValue Kept Takes Index x y u
    by_place (inl h) =
        takes_bit j k (λ e. d (set_from_bit (x % 2 ^ m) x j j (bit_of_cut x m j h) ∙ e ∙ sym (set_from_bit (y % 2 ^ m) y j j (bit_of_cut y m j h))))
    by_place (inr h) =
        absurd (d (set_from_bit (x % 2 ^ m) (y % 2 ^ m) j j (bit_past_cut x m j h ∙ sym (bit_past_cut y m j h))))

-- the causes with a part in front of what is written already, of q bits
abbrev pub NotSurely : Scope → Target → Bit → Type 0
NotSurely s t u = IsTrue (not (is_in (surely_reaches s t) u))

abbrev pub InFront : Scope → Target → Bit → (q : ℕ) → (ℕ → Type 0) → ℕ → Type 0
InFront s t u q Takes j =
    ((q ≤ j) × (j - q < target_width s t) × IsTrue (takes s t u (j - q))) ⊎ (NotSurely s t u × Takes j)

abbrev pub IndexInFront : Scope → Target → Bit → (Bit → Type 0) → Bit → Type 0
IndexInFront s t u Index z = In (index_reads s t u) z ⊎ (NotSurely s t u × Index z)

abbrev pub AllNotSurely : Scope → Targets → Bit → Type 0
AllNotSurely s ts u = IsTrue (not (is_in (one_surely_reaches s ts) u))

abbrev pub AllInFront : Scope → Targets → Bit → (q : ℕ) → (ℕ → Type 0) → ℕ → Type 0
AllInFront s ts u q Takes j =
    ((q ≤ j) × (j - q < targets_width s ts) × IsTrue (one_takes s ts u (j - q))) ⊎ (AllNotSurely s ts u × Takes j)

abbrev pub AllIndexInFront : Scope → Targets → Bit → (Bit → Type 0) → Bit → Type 0
AllIndexInFront s ts u Index z = In (one_index_reads s ts u) z ⊎ (AllNotSurely s ts u × Index z)

-- ---- one part

-- what a write to one part does at a bit of its name
data PartResult (s : Scope) (v w : Valuation) (HasValue : Name → Type 0) (x : Selects) (u : Bit) (before_v before_w after_v after_w : Valuation) (a b : ℕ) : Type 0 where
  same : IsSame after_v after_w u → PartResult s v w HasValue x u before_v before_w after_v after_w a b
  unreached : NotSurely s (place u.of_name x) u → IsSame after_v before_v u → IsSame after_w before_w u
      → PartResult s v w HasValue x u before_v before_w after_v after_w a b
  takes_one : (j : ℕ) → j < selects_width s (s u.of_name) x → IsTrue (part_takes s u.of_name x u j) → is_set a j ≢ is_set b j
      → PartResult s v w HasValue x u before_v before_w after_v after_w a b
  decided : Found v w HasValue (In (index_reads s (place u.of_name x) u)) → PartResult s v w HasValue x u before_v before_w after_v after_w a b

not_meant : (t c m : Bool) → m ≡ false → not (t && (c && m)) ≡ true
not_meant true true m e = ap not e
not_meant true false m e = refl
not_meant false c m e = refl

not_fixed : (t c m : Bool) → (c ≡ true → m ≡ true → ⊥) → not (t && (c && m)) ≡ true
not_fixed true true true h = absurd (h refl refl)
not_fixed true true false h = refl
not_fixed true false m h = refl
not_fixed false c m h = refl

-- the value at the part's own name
at_own : (s : Scope) (v before : Valuation) (n : Name) (x : Selects) (a : ℕ)
    → written_place s before (named_place s v n x) a n ≡ written_cell (s n) (before n) (named_place s v n x).cell (named_place s v n x).bits a
at_own s v before n x a =
    at_name s before (named_place s v n x) a n (ap (λ m. same_name m n) (place_name s v n x) ∙ same_refl n)

stays_there : (s : Scope) (v before : Valuation) (n : Name) (x : Selects) (a k b : ℕ) → Alike (s n) (v n) (before n)
    → Alike (s n) (v n) (written_place s before (named_place s v n x) a n) → b < object_width (s n)
    → covers (named_place s v n x).cell (named_place s v n x).bits k b ≡ false
    → value_bit (written_place s before (named_place s v n x) a n) k b ≡ value_bit (before n) k b
stays_there s v before n x a k b h g l c =
    ap (λ z. value_bit z k b) (at_own s v before n x a)
    ∙ bit_stays (s n) (v n) (before n) (named_place s v n x).cell (named_place s v n x).bits a k b h (subst (Alike (s n) (v n)) (at_own s v before n x a) g) l c

pub never_covers : (s : Scope) (v : Valuation) → HasNoConstantMemory s → (n : Name) (x : Selects) (k b : ℕ) → may_mean s (s n) x k b ≡ false
    → covers (named_place s v n x).cell (named_place s v n x).bits k b ≡ false
never_covers s v p n x k b e = by_cases (cases_Bool (covers (named_place s v n x).cell (named_place s v n x).bits k b))
  where
    by_cases : (covers (named_place s v n x).cell (named_place s v n x).bits k b ≡ true) ⊎ (covers (named_place s v n x).cell (named_place s v n x).bits k b ≡ false)
        → covers (named_place s v n x).cell (named_place s v n x).bits k b ≡ false
    by_cases (inl h) = absurd (false≢true (sym e ∙ covers_means s v p n x k b h))
    by_cases (inr h) = h

one_part_written : (s : Scope) (v w : Valuation) (HasValue : Name → Type 0) → HasNoConstantMemory s
    → (x : Selects) (u : Bit) → SameOr (named_place s v u.of_name x) (named_place s w u.of_name x) v w HasValue (selects_read s x)
    → Alike (s u.of_name) (v u.of_name) (w u.of_name) → u.place < object_width (s u.of_name)
    → (c d : Valuation) (a b : ℕ) → Alike (s u.of_name) (v u.of_name) (c u.of_name) → Alike (s u.of_name) (w u.of_name) (d u.of_name)
    → Alike (s u.of_name) (v u.of_name) (written_place s c (named_place s v u.of_name x) a u.of_name)
    → Alike (s u.of_name) (w u.of_name) (written_place s d (named_place s w u.of_name x) b u.of_name)
    → PartResult s v w HasValue x u c d (written_place s c (named_place s v u.of_name x) a) (written_place s d (named_place s w u.of_name x) b) a b
one_part_written s v w HasValue p x u l al inside c d a b kc kd ka kb = by_meaning (cases_Bool (may_mean s (s u.of_name) x u.word u.place))
  where
    reached : may_mean s (s u.of_name) x u.word u.place ≡ true → IsTrue (may_reach s (place u.of_name x) u.of_name u.word u.place)
    reached e = and_from (same_name u.of_name u.of_name) (may_mean s (s u.of_name) x u.word u.place) (same_refl u.of_name) e

    by_numbers : may_mean s (s u.of_name) x u.word u.place ≡ true → named_place s v u.of_name x ≡ named_place s w u.of_name x
        → covers (named_place s v u.of_name x).cell (named_place s v u.of_name x).bits u.word u.place ≡ true
        → (is_set a (offset (named_place s v u.of_name x).bits.low u.place) ≡ is_set b (offset (named_place s v u.of_name x).bits.low u.place))
        ⊎ (is_set a (offset (named_place s v u.of_name x).bits.low u.place) ≢ is_set b (offset (named_place s v u.of_name x).bits.low u.place))
        → PartResult s v w HasValue x u c d (written_place s c (named_place s v u.of_name x) a) (written_place s d (named_place s w u.of_name x) b) a b
    by_numbers e pq cov (inl bits) =
        same (ap (λ z. value_bit z u.word u.place) (at_own s v c u.of_name x a)
        ∙ bit_given (s u.of_name) (c u.of_name) (d u.of_name) (named_place s v u.of_name x).cell (named_place s v u.of_name x).bits a b u.word u.place
        (alike_further (s u.of_name) (c u.of_name) (v u.of_name) (d u.of_name) (alike_turned (s u.of_name) (v u.of_name) (c u.of_name) kc)
        (alike_further (s u.of_name) (v u.of_name) (w u.of_name) (d u.of_name) al kd))
        (alike_further (s u.of_name) (c u.of_name) (v u.of_name)
        (written_cell (s u.of_name) (c u.of_name) (named_place s v u.of_name x).cell (named_place s v u.of_name x).bits a)
        (alike_turned (s u.of_name) (v u.of_name) (c u.of_name) kc) (subst (Alike (s u.of_name) (v u.of_name)) (at_own s v c u.of_name x a) ka))
        inside cov bits
        ∙ ap (λ q. value_bit (written_cell (s u.of_name) (d u.of_name) q.cell q.bits b) u.word u.place) pq
        ∙ sym (ap (λ z. value_bit z u.word u.place) (at_own s w d u.of_name x b)))
    by_numbers e pq cov (inr bits) =
        takes_one (offset (named_place s v u.of_name x).bits.low u.place)
        (subst (λ m. offset (named_place s v u.of_name x).bits.low u.place < m) (place_count s v u.of_name x)
        (covers_below (named_place s v u.of_name x).cell (named_place s v u.of_name x).bits u.word u.place cov))
        (and_from (may_reach s (place u.of_name x) u.of_name u.word u.place)
        (cond (selects_are_constant s x)
        (is_same_cell (natural_in (pos u.place -ℤ (named_place s no_values u.of_name x).bits.low)) (offset (named_place s v u.of_name x).bits.low u.place))
        (nat_lt (offset (named_place s v u.of_name x).bits.low u.place) (selects_width s (s u.of_name) x)))
        (reached e) (covers_takes s v p u.of_name x u.word u.place cov)) bits

    by_cover : may_mean s (s u.of_name) x u.word u.place ≡ true → named_place s v u.of_name x ≡ named_place s w u.of_name x
        → (covers (named_place s v u.of_name x).cell (named_place s v u.of_name x).bits u.word u.place ≡ true)
        ⊎ (covers (named_place s v u.of_name x).cell (named_place s v u.of_name x).bits u.word u.place ≡ false)
        → PartResult s v w HasValue x u c d (written_place s c (named_place s v u.of_name x) a) (written_place s d (named_place s w u.of_name x) b) a b
    by_cover e pq (inl cov) =
        by_numbers e pq cov (alike_or_not (is_set a (offset (named_place s v u.of_name x).bits.low u.place)) (is_set b (offset (named_place s v u.of_name x).bits.low u.place)))
    by_cover e pq (inr cov) =
        unreached
        (not_fixed (same_name u.of_name u.of_name) (selects_are_constant s x) (may_mean s (s u.of_name) x u.word u.place)
        (λ f m. false≢true (sym cov ∙ means_covers s v p u.of_name x u.word u.place f inside m)))
        (stays_there s v c u.of_name x a u.word u.place kc ka inside cov)
        (stays_there s w d u.of_name x b u.word u.place kd kb inside (sym (ap (λ q. covers q.cell q.bits u.word u.place) pq) ∙ cov))

    by_place : may_mean s (s u.of_name) x u.word u.place ≡ true
        → SameOr (named_place s v u.of_name x) (named_place s w u.of_name x) v w HasValue (selects_read s x)
        → PartResult s v w HasValue x u c d (written_place s c (named_place s v u.of_name x) a) (written_place s d (named_place s w u.of_name x) b) a b
    by_place e (inl pq) = by_cover e pq (cases_Bool (covers (named_place s v u.of_name x).cell (named_place s v u.of_name x).bits u.word u.place))
    by_place e (inr f) =
        decided (found_so v w HasValue (In (selects_read s x)) (In (index_reads s (place u.of_name x) u))
        (λ z h. and_from (may_reach s (place u.of_name x) u.of_name u.word u.place) (selects_read s x z.of_name z.word z.place) (reached e) h) f)

    by_meaning : (may_mean s (s u.of_name) x u.word u.place ≡ true) ⊎ (may_mean s (s u.of_name) x u.word u.place ≡ false)
        → PartResult s v w HasValue x u c d (written_place s c (named_place s v u.of_name x) a) (written_place s d (named_place s w u.of_name x) b) a b
    by_meaning (inl e) = by_place e l
    by_meaning (inr e) =
        unreached (not_meant (same_name u.of_name u.of_name) (selects_are_constant s x) (may_mean s (s u.of_name) x u.word u.place) e)
        (stays_there s v c u.of_name x a u.word u.place kc ka inside (never_covers s v p u.of_name x u.word u.place e))
        (stays_there s w d u.of_name x b u.word u.place kd kb inside (never_covers s w p u.of_name x u.word u.place e))

-- what a bit is after a part was written over what was written already
abbrev Before : Scope → Valuation → List Place → ℕ → Valuation
Before s v ps a = written s v ps (a % 2 ^ places_width ps)

abbrev InPart : Scope → Valuation → Valuation → (Name → Type 0) → Target → Bit → ℕ → Type 0 → (ℕ → Type 0) → (Bit → Type 0) → ℕ → ℕ → Type 0
InPart s v w HasValue t u q Kept Takes Index a b =
    Why v w HasValue (NotSurely s t u × Kept) (InFront s t u q Takes) (IndexInFront s t u Index) a b u

after_rest : (s : Scope) (v w : Valuation) (HasValue : Name → Type 0) (t : Target) (u : Bit) (q : ℕ) (Kept : Type 0) (Takes : ℕ → Type 0) (Index : Bit → Type 0)
    (a b : ℕ) (c d c2 d2 : Valuation) → NotSurely s t u → IsSame c2 c u → IsSame d2 d u
    → IsSame c d u ⊎ Why v w HasValue Kept Takes Index a b u → IsSame c2 d2 u ⊎ InPart s v w HasValue t u q Kept Takes Index a b
after_rest s v w HasValue t u q Kept Takes Index a b c d c2 d2 n e g (inl h) = inl (e ∙ h ∙ sym g)
after_rest s v w HasValue t u q Kept Takes Index a b c d c2 d2 n e g (inr h) =
    inr (why_so v w HasValue Kept (NotSurely s t u × Kept) Takes (InFront s t u q Takes) Index (IndexInFront s t u Index) a b u
    (λ k. (n, k)) (λ j k. inr (n, k)) (λ z k. inr (n, k)) h)

-- the numbers of the part and of the rest are those above and below q
shifted_bit : (a b q m j : ℕ) → m ≡ q → is_set (a / 2 ^ q) j ≢ is_set (b / 2 ^ m) j → is_set a (j + q) ≢ is_set b (j + q)
shifted_bit a b q m j e d h =
    d (set_from_bit (a / 2 ^ q) a j (q + j) (bit_of_shifted a q j)
    ∙ ap (is_set a) (add_turned q j) ∙ h ∙ sym (ap (is_set b) (add_turned q j))
    ∙ sym (set_from_bit (b / 2 ^ q) b j (q + j) (bit_of_shifted b q j)) ∙ ap (λ i. is_set (b / 2 ^ i) j) (sym e))
  where
    add_turned : (i k : ℕ) → i + k ≡ k + i
    add_turned i k = omega arith

at_front : (s : Scope) (t : Target) (u : Bit) (q j : ℕ) (Takes : ℕ → Type 0) → j < target_width s t → IsTrue (takes s t u j) → InFront s t u q Takes (j + q)
at_front s t u q j Takes l h =
    let e : j + q - q ≡ j = omega arith in
    inl (omega arith, subst (λ i. i < target_width s t) (sym e) l, subst (λ i. IsTrue (takes s t u i)) (sym e) h)

from_result : (s : Scope) (v w : Valuation) (HasValue : Name → Type 0) (x : Selects) (u : Bit) (q m : ℕ) (Kept : Type 0) (Takes : ℕ → Type 0) (Index : Bit → Type 0)
    (a b : ℕ) (c d c2 d2 : Valuation) → m ≡ q → IsSame c d u ⊎ Why v w HasValue Kept Takes Index a b u
    → PartResult s v w HasValue x u c d c2 d2 (a / 2 ^ q) (b / 2 ^ m)
    → IsSame c2 d2 u ⊎ InPart s v w HasValue (place u.of_name x) u q Kept Takes Index a b
from_result s v w HasValue x u q m Kept Takes Index a b c d c2 d2 e rest (same h) = inl h
from_result s v w HasValue x u q m Kept Takes Index a b c d c2 d2 e rest (unreached n g h) =
    after_rest s v w HasValue (place u.of_name x) u q Kept Takes Index a b c d c2 d2 n g h rest
from_result s v w HasValue x u q m Kept Takes Index a b c d c2 d2 e rest (takes_one j l h bits) =
    inr (takes_bit (j + q) (at_front s (place u.of_name x) u q j Takes l h) (shifted_bit a b q m j e bits))
from_result s v w HasValue x u q m Kept Takes Index a b c d c2 d2 e rest (decided f) =
    inr (by_index (found_so v w HasValue (In (index_reads s (place u.of_name x) u)) (IndexInFront s (place u.of_name x) u Index) (λ z h. inl h) f))

-- the rest, for the low bits of both numbers
rest_told : (s : Scope) (v w : Valuation) (HasValue : Name → Type 0) (u : Bit) (ps qs : List Place) (Kept : Type 0) (Takes : ℕ → Type 0) (Index : Bit → Type 0)
    → places_width qs ≡ places_width ps → Told s v w HasValue u ps qs Kept Takes Index
    → (a b : ℕ) → Alike (s u.of_name) (v u.of_name) (Before s v ps a u.of_name) → Alike (s u.of_name) (w u.of_name) (Before s w qs b u.of_name)
    → IsSame (Before s v ps a) (Before s w qs b) u ⊎ Why v w HasValue Kept Takes Index a b u
rest_told s v w HasValue u ps qs Kept Takes Index e told a b ka kb = cut (told (a % 2 ^ places_width ps) (b % 2 ^ places_width qs) ka kb)
  where
    cut : IsSame (Before s v ps a) (Before s w qs b) u ⊎ Why v w HasValue Kept Takes Index (a % 2 ^ places_width ps) (b % 2 ^ places_width qs) u
        → IsSame (Before s v ps a) (Before s w qs b) u ⊎ Why v w HasValue Kept Takes Index a b u
    cut (inl h) = inl h
    cut (inr h) =
        inr (why_cut v w HasValue Kept Takes Index a b (places_width ps) u
        (subst (λ m. Why v w HasValue Kept Takes Index (a % 2 ^ places_width ps) (b % 2 ^ m) u) e h))

-- the part's name is the bit's
part_at_name : (s : Scope) (v w : Valuation) (HasValue : Name → Type 0) → HasNoConstantMemory s
    → (x : Selects) (u : Bit) → SameOr (named_place s v u.of_name x) (named_place s w u.of_name x) v w HasValue (selects_read s x)
    → Alike (s u.of_name) (v u.of_name) (w u.of_name)
    → (ps qs : List Place) → places_width qs ≡ places_width ps → AreFit s ps → AreFit s qs
    → (Kept : Type 0) (Takes : ℕ → Type 0) (Index : Bit → Type 0) → Told s v w HasValue u ps qs Kept Takes Index
    → Told s v w HasValue u (named_place s v u.of_name x ∷ ps) (named_place s w u.of_name x ∷ qs) (NotSurely s (place u.of_name x) u × Kept)
    (InFront s (place u.of_name x) u (places_width ps) Takes) (IndexInFront s (place u.of_name x) u Index)
part_at_name s v w HasValue p x u l al ps qs e fp fq Kept Takes Index told a b ka kb =
    by_width (cases_lt u.place (object_width (s u.of_name)))
  where
    kind_v : Alike (s u.of_name) (v u.of_name) (Before s v ps a u.of_name)
    kind_v =
        before_place s (Before s v ps a) (named_place s v u.of_name x) (a / 2 ^ places_width ps) u.of_name (v u.of_name)
        (written_kind s v ps (a % 2 ^ places_width ps) u.of_name (v u.of_name) fp
        (inl (alike_further (s u.of_name) (v u.of_name) (w u.of_name) (v u.of_name) al (alike_turned (s u.of_name) (v u.of_name) (w u.of_name) al)))) ka

    kind_w : Alike (s u.of_name) (w u.of_name) (Before s w qs b u.of_name)
    kind_w =
        before_place s (Before s w qs b) (named_place s w u.of_name x) (b / 2 ^ places_width qs) u.of_name (w u.of_name)
        (written_kind s w qs (b % 2 ^ places_width qs) u.of_name (w u.of_name) fq
        (inl (alike_further (s u.of_name) (w u.of_name) (v u.of_name) (w u.of_name) (alike_turned (s u.of_name) (v u.of_name) (w u.of_name) al) al))) kb

    by_width : (u.place < object_width (s u.of_name)) ⊎ (object_width (s u.of_name) ≤ u.place)
        → IsSame (written s v (named_place s v u.of_name x ∷ ps) a) (written s w (named_place s w u.of_name x ∷ qs) b) u
        ⊎ InPart s v w HasValue (place u.of_name x) u (places_width ps) Kept Takes Index a b
    by_width (inl h) =
        from_result s v w HasValue x u (places_width ps) (places_width qs) Kept Takes Index a b (Before s v ps a) (Before s w qs b)
        (written s v (named_place s v u.of_name x ∷ ps) a) (written s w (named_place s w u.of_name x ∷ qs) b) e
        (rest_told s v w HasValue u ps qs Kept Takes Index e told a b kind_v kind_w)
        (one_part_written s v w HasValue p x u l al h (Before s v ps a) (Before s w qs b) (a / 2 ^ places_width ps) (b / 2 ^ places_width qs)
        kind_v kind_w ka kb)
    by_width (inr h) =
        inl (high_unset (s u.of_name) (v u.of_name) (written s v (named_place s v u.of_name x ∷ ps) a u.of_name) u.word u.place ka h
        ∙ sym (high_unset (s u.of_name) (w u.of_name) (written s w (named_place s w u.of_name x ∷ qs) b u.of_name) u.word u.place kb h))

-- a part of any name
pub part_told : (s : Scope) (v w : Valuation) (HasValue : Name → Type 0) → HasNoConstantMemory s
    → (n : Name) (x : Selects) (u : Bit) → SameOr (named_place s v n x) (named_place s w n x) v w HasValue (selects_read s x)
    → Alike (s u.of_name) (v u.of_name) (w u.of_name)
    → (ps qs : List Place) → places_width qs ≡ places_width ps → AreFit s ps → AreFit s qs
    → (Kept : Type 0) (Takes : ℕ → Type 0) (Index : Bit → Type 0) → Told s v w HasValue u ps qs Kept Takes Index
    → Told s v w HasValue u (named_place s v n x ∷ ps) (named_place s w n x ∷ qs) (NotSurely s (place n x) u × Kept)
    (InFront s (place n x) u (places_width ps) Takes) (IndexInFront s (place n x) u Index)
part_told s v w HasValue p n x u l al ps qs e fp fq Kept Takes Index told = by_name (cases_Bool (same_name n u.of_name))
  where
    by_name : (same_name n u.of_name ≡ true) ⊎ (same_name n u.of_name ≡ false)
        → Told s v w HasValue u (named_place s v n x ∷ ps) (named_place s w n x ∷ qs) (NotSurely s (place n x) u × Kept)
        (InFront s (place n x) u (places_width ps) Takes) (IndexInFront s (place n x) u Index)
    by_name (inl h) =
        subst (λ m. Told s v w HasValue u (named_place s v m x ∷ ps) (named_place s w m x ∷ qs) (NotSurely s (place m x) u × Kept)
        (InFront s (place m x) u (places_width ps) Takes) (IndexInFront s (place m x) u Index)) (sym (same_from n u.of_name h))
        (part_at_name s v w HasValue p x u
        (subst (λ m. SameOr (named_place s v m x) (named_place s w m x) v w HasValue (selects_read s x)) (same_from n u.of_name h) l) al ps qs e fp fq Kept Takes Index told)
    by_name (inr h) = λ a b ka kb.
        let ev : written s v (named_place s v n x ∷ ps) a u.of_name ≡ Before s v ps a u.of_name =
        off_name s (Before s v ps a) (named_place s v n x) (a / 2 ^ places_width ps) u.of_name
        (ap (λ m. same_name m u.of_name) (place_name s v n x) ∙ h) in
        let ew : written s w (named_place s w n x ∷ qs) b u.of_name ≡ Before s w qs b u.of_name =
        off_name s (Before s w qs b) (named_place s w n x) (b / 2 ^ places_width qs) u.of_name
        (ap (λ m. same_name m u.of_name) (place_name s w n x) ∙ h) in
        after_rest s v w HasValue (place n x) u (places_width ps) Kept Takes Index a b (Before s v ps a) (Before s w qs b)
        (written s v (named_place s v n x ∷ ps) a) (written s w (named_place s w n x ∷ qs) b)
        (ap (λ t. not (t && (selects_are_constant s x && may_mean s (s n) x u.word u.place))) h)
        (ap (λ z. value_bit z u.word u.place) ev) (ap (λ z. value_bit z u.word u.place) ew)
        (rest_told s v w HasValue u ps qs Kept Takes Index e told a b (subst (Alike (s u.of_name) (v u.of_name)) ev ka)
        (subst (Alike (s u.of_name) (w u.of_name)) ew kb))
