-- The same for whole targets, with their parts from the left.
use Rattle.std.proofs.Common.{◌≡◌, ◌≢◌, ℕ, ◌+◌, ◌-◌, ◌<◌, ◌≤◌, Bool, true, false, not, ◌&&◌, ◌||◌, nat_lt, ◌⊎◌, inl, inr, refl, sym, ap, ◌∙◌, subst, List, [], ◌∷◌, ◌++◌, append-nil, append_assoc, IsTrue, arith, le-ltb}
use Rattle.std.proofs.lemmas.Bool.{and_from, or_left, or_right}
use Rattle.wb_values.specs.Value.{Name, Valuation}
use Rattle.verilog_trees.specs.Syntax.{Target, place, joined, Targets, no_targets, target}
use Rattle.verilog_meaning.specs.Expression.{Scope, selects_width}
use Rattle.verilog_meaning.specs.Statement.{Place, named_place, places, all_places, places_width, target_width, targets_width, written}
use Rattle.verilog_meaning.specs.Register.{value_bit}
use Rattle.verilog_designs.specs.Reads.{selects_read, surely_reaches, one_surely_reaches}
use Rattle.verilog_designs.specs.Dependence.{Bit, is_in, takes, one_takes, index_reads, one_index_reads}
use Rattle.verilog_settled.specs.Locality.{IsSame, HasNoConstantMemory, IndexesAre, AllIndexesAre, WhyWritten, kept, given, indexed, WrittenBitIsLocal}
use Rattle.verilog_settled.proofs.Bits.{alike_or_not}
use Rattle.verilog_settled.proofs.Values.{Alike, alike_values}
use Rattle.verilog_settled.proofs.Found.{In, SameOr, differ_at}
use Rattle.verilog_settled.proofs.Expressions.{AreReadable, readable}
use Rattle.verilog_settled.proofs.Places.{place_local, place_count}
use Rattle.verilog_settled.proofs.Written.{AreFit, fit_append, targets_fit, Why, stays, takes_bit, by_index, Told, why_so, NotSurely, InFront, IndexInFront, AllNotSurely, AllInFront, AllIndexInFront, part_told}

-- ---- widths

added_width : (ps qs : List Place) → places_width (ps ++ qs) ≡ places_width ps + places_width qs
added_width [] qs = omega arith
added_width (p ∷ ps) qs = let e : places_width (ps ++ qs) ≡ places_width ps + places_width qs = added_width ps qs in omega (arith, e)

mutual
  target_bits : (s : Scope) (v : Valuation) (t : Target) → places_width (places s v t) ≡ target_width s t
  target_bits s v (place n x) = let e : (named_place s v n x).bits.count ≡ selects_width s (s n) x = place_count s v n x in omega (arith, e)
  target_bits s v (joined ts) = targets_bits s v ts

  targets_bits : (s : Scope) (v : Valuation) (ts : Targets) → places_width (all_places s v ts) ≡ targets_width s ts
  targets_bits s v no_targets = refl
  targets_bits s v (target t ts) =
      let e : places_width (places s v t ++ all_places s v ts) ≡ places_width (places s v t) + places_width (all_places s v ts) =
      added_width (places s v t) (all_places s v ts) in
      let f : places_width (places s v t) ≡ target_width s t = target_bits s v t in
      let g : places_width (all_places s v ts) ≡ targets_width s ts = targets_bits s v ts in
      omega (arith, e, f, g)

rest_width : (s : Scope) (v : Valuation) (ts : Targets) (ps : List Place) → places_width (all_places s v ts ++ ps) ≡ targets_width s ts + places_width ps
rest_width s v ts ps =
    let e : places_width (all_places s v ts ++ ps) ≡ places_width (all_places s v ts) + places_width ps = added_width (all_places s v ts) ps in
    let f : places_width (all_places s v ts) ≡ targets_width s ts = targets_bits s v ts in
    omega (arith, e, f)

-- ---- parts whose places are the same, or else a bit of an index is found

abbrev mutual
  pub ArePlaced : Scope → Valuation → Valuation → (Name → Type 0) → Target → Type 0
  ArePlaced s v w HasValue (place n x) = SameOr (named_place s v n x) (named_place s w n x) v w HasValue (selects_read s x)
  ArePlaced s v w HasValue (joined ts) = AllArePlaced s v w HasValue ts

  pub AllArePlaced : Scope → Valuation → Valuation → (Name → Type 0) → Targets → Type 0
  AllArePlaced s v w HasValue no_targets = Unit {0}
  AllArePlaced s v w HasValue (target t ts) = ArePlaced s v w HasValue t × AllArePlaced s v w HasValue ts

mutual
  pub target_placed : (s : Scope) (v w : Valuation) (HasValue IsKnown : Name → Type 0) → HasNoConstantMemory s → AreReadable s v w HasValue IsKnown
      → (t : Target) → IndexesAre IsKnown t → ArePlaced s v w HasValue t
  target_placed s v w HasValue IsKnown p r (place n x) l = place_local s v w HasValue IsKnown p r n x l
  target_placed s v w HasValue IsKnown p r (joined ts) l = targets_placed s v w HasValue IsKnown p r ts l

  targets_placed : (s : Scope) (v w : Valuation) (HasValue IsKnown : Name → Type 0) → HasNoConstantMemory s → AreReadable s v w HasValue IsKnown
      → (ts : Targets) → AllIndexesAre IsKnown ts → AllArePlaced s v w HasValue ts
  targets_placed s v w HasValue IsKnown p r no_targets l = tt
  targets_placed s v w HasValue IsKnown p r (target t ts) l =
      (target_placed s v w HasValue IsKnown p r t l.0, targets_placed s v w HasValue IsKnown p r ts l.1)

-- ---- causes

told_so : (s : Scope) (v w : Valuation) (HasValue : Name → Type 0) (u : Bit) (ps qs : List Place) (Kept Kept2 : Type 0) (Takes Takes2 : ℕ → Type 0)
    (Index Index2 : Bit → Type 0) → (Kept → Kept2) → ((j : ℕ) → Takes j → Takes2 j) → ((z : Bit) → Index z → Index2 z)
    → Told s v w HasValue u ps qs Kept Takes Index → Told s v w HasValue u ps qs Kept2 Takes2 Index2
told_so s v w HasValue u ps qs Kept Kept2 Takes Takes2 Index Index2 f g h told a b ka kb = over (told a b ka kb)
  where
    over : IsSame (written s v ps a) (written s w qs b) u ⊎ Why v w HasValue Kept Takes Index a b u
        → IsSame (written s v ps a) (written s w qs b) u ⊎ Why v w HasValue Kept2 Takes2 Index2 a b u
    over (inl e) = inl e
    over (inr k) = inr (why_so v w HasValue Kept Kept2 Takes Takes2 Index Index2 a b u f g h k)

neither : (a b : Bool) → not a ≡ true → not b ≡ true → not (a || b) ≡ true
neither true b h k = h
neither false b h k = k

not_less : (i n : ℕ) → n ≤ i → not (nat_lt i n) ≡ true
not_less i n h = ap not (le-ltb i n h)

joined_takes : (s : Scope) (t : Target) (ts : Targets) (u : Bit) (q m : ℕ) (Takes : ℕ → Type 0) → m ≡ targets_width s ts + q
    → (j : ℕ) → InFront s t u m (AllInFront s ts u q Takes) j → AllInFront s (target t ts) u q Takes j
joined_takes s t ts u q m Takes e j (inl h) =
    let l : m ≤ j = h.0 in
    let g : j - m < target_width s t = h.1 in
    let same : j - q - targets_width s ts ≡ j - m = omega (arith, e) in
    inl (
      omega (arith, e, l),
      omega (arith, e, l, g),
      or_left (not (nat_lt (j - q) (targets_width s ts)) && takes s t u (j - q - targets_width s ts))
          (not (is_in (surely_reaches s t) u) && one_takes s ts u (j - q))
          (and_from (not (nat_lt (j - q) (targets_width s ts))) (takes s t u (j - q - targets_width s ts))
          (not_less (j - q) (targets_width s ts) (omega (arith, e, l))) (subst (λ i. IsTrue (takes s t u i)) (sym same) h.2)),
    )
joined_takes s t ts u q m Takes e j (inr (n, inl h)) =
    let l : q ≤ j = h.0 in
    let g : j - q < targets_width s ts = h.1 in
    inl (
      l,
      omega (arith, g),
      or_right (not (nat_lt (j - q) (targets_width s ts)) && takes s t u (j - q - targets_width s ts))
          (not (is_in (surely_reaches s t) u) && one_takes s ts u (j - q))
          (and_from (not (is_in (surely_reaches s t) u)) (one_takes s ts u (j - q)) n h.2),
    )
joined_takes s t ts u q m Takes e j (inr (n, inr h)) =
    inr (neither (is_in (surely_reaches s t) u) (is_in (one_surely_reaches s ts) u) n h.0, h.1)

joined_index : (s : Scope) (t : Target) (ts : Targets) (u : Bit) (Index : Bit → Type 0) (z : Bit)
    → IndexInFront s t u (AllIndexInFront s ts u Index) z → AllIndexInFront s (target t ts) u Index z
joined_index s t ts u Index z (inl h) =
    inl (or_left (index_reads s t u z.of_name z.word z.place)
    (not (is_in (surely_reaches s t) u) && one_index_reads s ts u z.of_name z.word z.place) h)
joined_index s t ts u Index z (inr (n, inl h)) =
    inl (or_right (index_reads s t u z.of_name z.word z.place)
    (not (is_in (surely_reaches s t) u) && one_index_reads s ts u z.of_name z.word z.place)
    (and_from (not (is_in (surely_reaches s t) u)) (one_index_reads s ts u z.of_name z.word z.place) n h))
joined_index s t ts u Index z (inr (n, inr h)) =
    inr (neither (is_in (surely_reaches s t) u) (is_in (one_surely_reaches s ts) u) n h.0, h.1)

joined_told : (s : Scope) (v w : Valuation) (HasValue : Name → Type 0) (u : Bit) (t : Target) (ts : Targets) (ps qs : List Place) (Kept : Type 0)
    (Takes : ℕ → Type 0) (Index : Bit → Type 0)
    → Told s v w HasValue u (places s v t ++ (all_places s v ts ++ ps)) (places s w t ++ (all_places s w ts ++ qs))
    (NotSurely s t u × (AllNotSurely s ts u × Kept)) (InFront s t u (places_width (all_places s v ts ++ ps)) (AllInFront s ts u (places_width ps) Takes))
    (IndexInFront s t u (AllIndexInFront s ts u Index))
    → Told s v w HasValue u ((places s v t ++ all_places s v ts) ++ ps) ((places s w t ++ all_places s w ts) ++ qs)
    (AllNotSurely s (target t ts) u × Kept) (AllInFront s (target t ts) u (places_width ps) Takes) (AllIndexInFront s (target t ts) u Index)
joined_told s v w HasValue u t ts ps qs Kept Takes Index told =
    subst (λ xs. Told s v w HasValue u xs ((places s w t ++ all_places s w ts) ++ qs) (AllNotSurely s (target t ts) u × Kept)
    (AllInFront s (target t ts) u (places_width ps) Takes) (AllIndexInFront s (target t ts) u Index)) (sym (append_assoc (places s v t) (all_places s v ts) ps))
    (subst (λ ys. Told s v w HasValue u (places s v t ++ (all_places s v ts ++ ps)) ys (AllNotSurely s (target t ts) u × Kept)
    (AllInFront s (target t ts) u (places_width ps) Takes) (AllIndexInFront s (target t ts) u Index)) (sym (append_assoc (places s w t) (all_places s w ts) qs))
    (told_so s v w HasValue u (places s v t ++ (all_places s v ts ++ ps)) (places s w t ++ (all_places s w ts ++ qs))
    (NotSurely s t u × (AllNotSurely s ts u × Kept)) (AllNotSurely s (target t ts) u × Kept)
    (InFront s t u (places_width (all_places s v ts ++ ps)) (AllInFront s ts u (places_width ps) Takes)) (AllInFront s (target t ts) u (places_width ps) Takes)
    (IndexInFront s t u (AllIndexInFront s ts u Index)) (AllIndexInFront s (target t ts) u Index)
    (λ k. (neither (is_in (surely_reaches s t) u) (is_in (one_surely_reaches s ts) u) k.0 k.1.0, k.1.1))
    (joined_takes s t ts u (places_width ps) (places_width (all_places s v ts ++ ps)) Takes (rest_width s v ts ps)) (joined_index s t ts u Index) told))

mutual
  target_told : (s : Scope) (v w : Valuation) (HasValue : Name → Type 0) → HasNoConstantMemory s → (u : Bit) → Alike (s u.of_name) (v u.of_name) (w u.of_name)
      → (t : Target) → ArePlaced s v w HasValue t → (ps qs : List Place) → places_width qs ≡ places_width ps → AreFit s ps → AreFit s qs
      → (Kept : Type 0) (Takes : ℕ → Type 0) (Index : Bit → Type 0) → Told s v w HasValue u ps qs Kept Takes Index
      → Told s v w HasValue u (places s v t ++ ps) (places s w t ++ qs) (NotSurely s t u × Kept) (InFront s t u (places_width ps) Takes) (IndexInFront s t u Index)
  target_told s v w HasValue p u al (place n x) l ps qs e fp fq Kept Takes Index told =
      part_told s v w HasValue p n x u l al ps qs e fp fq Kept Takes Index told
  target_told s v w HasValue p u al (joined ts) l ps qs e fp fq Kept Takes Index told =
      targets_told s v w HasValue p u al ts l ps qs e fp fq Kept Takes Index told

  targets_told : (s : Scope) (v w : Valuation) (HasValue : Name → Type 0) → HasNoConstantMemory s → (u : Bit) → Alike (s u.of_name) (v u.of_name) (w u.of_name)
      → (ts : Targets) → AllArePlaced s v w HasValue ts → (ps qs : List Place) → places_width qs ≡ places_width ps → AreFit s ps → AreFit s qs
      → (Kept : Type 0) (Takes : ℕ → Type 0) (Index : Bit → Type 0) → Told s v w HasValue u ps qs Kept Takes Index
      → Told s v w HasValue u (all_places s v ts ++ ps) (all_places s w ts ++ qs) (AllNotSurely s ts u × Kept) (AllInFront s ts u (places_width ps) Takes)
      (AllIndexInFront s ts u Index)
  targets_told s v w HasValue p u al no_targets l ps qs e fp fq Kept Takes Index told =
      told_so s v w HasValue u ps qs Kept (AllNotSurely s no_targets u × Kept) Takes (AllInFront s no_targets u (places_width ps) Takes) Index
      (AllIndexInFront s no_targets u Index) (λ k. (refl, k)) (λ j k. inr (refl, k)) (λ z k. inr (refl, k)) told
  targets_told s v w HasValue p u al (target t ts) l ps qs e fp fq Kept Takes Index told =
      joined_told s v w HasValue u t ts ps qs Kept Takes Index
      (target_told s v w HasValue p u al t l.0 (all_places s v ts ++ ps) (all_places s w ts ++ qs)
      (rest_width s w ts qs ∙ ap (λ m. targets_width s ts + m) e ∙ sym (rest_width s v ts ps))
      (fit_append s (all_places s v ts) ps (targets_fit s v ts) fp) (fit_append s (all_places s w ts) qs (targets_fit s w ts) fq)
      (AllNotSurely s ts u × Kept) (AllInFront s ts u (places_width ps) Takes) (AllIndexInFront s ts u Index)
      (targets_told s v w HasValue p u al ts l.1 ps qs e fp fq Kept Takes Index told))

-- of all bits of a target
pub target_why : (s : Scope) (v w : Valuation) (HasValue : Name → Type 0) → HasNoConstantMemory s → (u : Bit) → Alike (s u.of_name) (v u.of_name) (w u.of_name)
    → (t : Target) → ArePlaced s v w HasValue t
    → Told s v w HasValue u (places s v t) (places s w t) (NotSurely s t u) (λ j. (j < target_width s t) × IsTrue (takes s t u j)) (In (index_reads s t u))
target_why s v w HasValue p u al t l =
    subst (λ ps. Told s v w HasValue u ps (places s w t) (NotSurely s t u) (λ j. (j < target_width s t) × IsTrue (takes s t u j)) (In (index_reads s t u)))
    (append-nil (places s v t))
    (subst (λ qs. Told s v w HasValue u (places s v t ++ []) qs (NotSurely s t u) (λ j. (j < target_width s t) × IsTrue (takes s t u j)) (In (index_reads s t u)))
    (append-nil (places s w t))
    (told_so s v w HasValue u (places s v t ++ []) (places s w t ++ []) (NotSurely s t u × Unit {0}) (NotSurely s t u) (InFront s t u 0 (λ j. ⊥))
    (λ j. (j < target_width s t) × IsTrue (takes s t u j)) (IndexInFront s t u (λ z. ⊥)) (In (index_reads s t u)) (λ k. k.0) at_front at_index
    (target_told s v w HasValue p u al t l [] [] refl tt tt (Unit {0}) (λ j. ⊥) (λ z. ⊥) nothing)))
  where
    at_front : (j : ℕ) → InFront s t u 0 (λ i. ⊥) j → (j < target_width s t) × IsTrue (takes s t u j)
    at_front j (inl h) =
        let e : j - 0 ≡ j = omega arith in
        (subst (λ i. i < target_width s t) e h.1, subst (λ i. IsTrue (takes s t u i)) e h.2)
    at_front j (inr h) = absurd h.1

    at_index : (z : Bit) → IndexInFront s t u (λ y. ⊥) z → In (index_reads s t u) z
    at_index z (inl h) = h
    at_index z (inr h) = absurd h.1

    nothing : Told s v w HasValue u [] [] (Unit {0}) (λ j. ⊥) (λ z. ⊥)
    nothing a b ka kb = by_bits (alike_or_not (value_bit (v u.of_name) u.word u.place) (value_bit (w u.of_name) u.word u.place))
      where
        by_bits : IsSame v w u ⊎ (value_bit (v u.of_name) u.word u.place ≢ value_bit (w u.of_name) u.word u.place)
            → IsSame v w u ⊎ Why v w HasValue (Unit {0}) (λ j. ⊥) (λ z. ⊥) a b u
        by_bits (inl e) = inl e
        by_bits (inr d) = inr (stays tt d)

pub written_bit_is_local : WrittenBitIsLocal
written_bit_is_local s v w IsKnown t x y u p f g l hv hv2 hw hw2 =
    over (target_why s v w (λ m. Unit {0}) p u (alike_values (s u.of_name) (v u.of_name) (w u.of_name) hv hw) t
    (target_placed s v w (λ m. Unit {0}) IsKnown p (readable s v w IsKnown f g) t l) x y
    (alike_values (s u.of_name) (v u.of_name) (written s v (places s v t) x u.of_name) hv hv2)
    (alike_values (s u.of_name) (w u.of_name) (written s w (places s w t) y u.of_name) hw hw2))
  where
    why : Why v w (λ m. Unit {0}) (NotSurely s t u) (λ j. (j < target_width s t) × IsTrue (takes s t u j)) (In (index_reads s t u)) x y u → WhyWritten s v w t x y u
    why (stays n d) = kept n d
    why (takes_bit j h d) = given j h.0 h.1 d
    why (by_index k) = indexed (differ_at v w (λ m. Unit {0}) (In (index_reads s t u)) k)

    over : IsSame (written s v (places s v t) x) (written s w (places s w t) y) u
        ⊎ Why v w (λ m. Unit {0}) (NotSurely s t u) (λ j. (j < target_width s t) × IsTrue (takes s t u j)) (In (index_reads s t u)) x y u
        → IsSame (written s v (places s v t) x) (written s w (places s w t) y) u ⊎ WhyWritten s v w t x y u
    over (inl e) = inl e
    over (inr k) = inr (why k)
