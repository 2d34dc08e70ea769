-- A bit after updates: two valuations that have it alike have it alike afterwards, and a bit that no block may assign stays.
use Rattle.std.proofs.Common.{◌≡◌, ◌∙◌, ℕ, ◌/◌, ◌%◌, ◌^◌, ◌<◌, ◌≤◌, max, refl, sym, ap, subst, Bool, true, false, cond, ◌&&◌, ◌⊎◌, inl, inr, List, [], ◌∷◌, ◌++◌, slice_index, slice_set, length}
use Rattle.std.proofs.Common.{length-set, get_or-set_same, get_or-set_other}
use Rattle.std.proofs.lemmas.List.{set_past}
use Rattle.std.proofs.lemmas.Bool.{cases_lt, cases_eq, cases_Bool, and_cases, or_parts, false≢true}
use Rattle.wb_values.specs.Value.{Name, same_name, Value, truth_value, number as a_number, words, Valuation}
use Rattle.verilog_trees.specs.Syntax.{Target, place, joined, Targets, no_targets, target, CaseKind, Statement, empty, blocking, nonblocking, if_then, if_else, case, block, Statements, no_statements, statement, CaseItems, no_items, arm, default_arm}
use Rattle.verilog_meaning.specs.Expression.{Object, Scope, object_width, is_memory, Bits, width_of, sign_of, value_of, is_true}
use Rattle.verilog_meaning.specs.Statement.{Cell, variable_cell, word_cell, no_cell, Place, places, all_places, places_width, with_bits, written_cell, written_place, written, Update, Effect, unchanged, items_width, items_signed, any_matches, run, run_all, run_case, with_update, with_updates}
use Rattle.verilog_meaning.specs.Register.{may_mean, may_reach, may_reach_one, may_assign, may_assign_in_all, may_assign_in_case, one_may_assign, value_bit, updates_of_blocks}
use Rattle.verilog_settled.specs.Locality.{HasNoConstantMemory}
use Rattle.verilog_settled.proofs.Bits.{with_bits_fits}
use Rattle.verilog_settled.proofs.Values.{Narrow, Alike, not_both, alike_turned, alike_further}
use Rattle.verilog_settled.proofs.Cells.{FitsCell, Spoiled, covers, spoiled_stays, never_spoiled, kind_stays, high_unset, bit_stays, bit_given}
use Rattle.verilog_settled.proofs.Places.{place_name}
use Rattle.verilog_settled.proofs.Written.{same_from, at_name, off_name, AreFit, target_fits, never_covers}
use Rattle.verilog_meaning.specs.Statement.{named_place}

-- ---- two values

-- They are alike and have the same bit, or the first is spoiled for good.
abbrev pub Same : Object → (word place : ℕ) → Value → Value → Type 0
Same o k b x y = (Alike o x y × (value_bit x k b ≡ value_bit y k b)) ⊎ Spoiled o x

words_narrow : (w : ℕ) (xs : List ℕ) (k y : ℕ) → Narrow w xs → y < 2 ^ w → Narrow w (slice_set xs k y)
words_narrow w xs k y h g j = by_place (cases_eq j k) (cases_lt k (length xs))
  where
    by_place : (j ≡ k) ⊎ (j ≡ k → ⊥) → (k < length xs) ⊎ (length xs ≤ k) → slice_index (slice_set xs k y) j < 2 ^ w
    by_place e (inr l) = subst (λ l2. slice_index l2 j < 2 ^ w) (sym (set_past xs k y l)) (h j)
    by_place (inl e) (inl l) =
        subst (λ i. slice_index (slice_set xs k y) i < 2 ^ w) (sym e) (subst (λ z. z < 2 ^ w) (sym (get_or-set_same xs k y 0 l)) g)
    by_place (inr n) (inl l) = subst (λ z. z < 2 ^ w) (sym (get_or-set_other xs k j y 0 n)) (h j)

both_kinds : (o : Object) (x y : Value) (c : Cell) (p : Bits) (a : ℕ) → FitsCell o c → Alike o x y
    → Alike o (written_cell o x c p a) (written_cell o y c p a) ⊎ Spoiled o (written_cell o x c p a)
both_kinds o (a_number m) (a_number n) variable_cell p a f h = inl (h.0, with_bits_fits (object_width o) m a p, with_bits_fits (object_width o) n a p)
both_kinds o (a_number m) (a_number n) (word_cell k) p a f h = absurd (not_both (is_memory o) h.0 f)
both_kinds o (a_number m) (a_number n) no_cell p a f h = inl h
both_kinds o (words xs) (words ys) variable_cell p a f h = inr (h.0, refl)
both_kinds o (words xs) (words ys) (word_cell k) p a f h =
    let s : length xs ≡ length (slice_set xs k (with_bits (object_width o) (slice_index xs k) p a)) = sym (length-set xs k (with_bits (object_width o) (slice_index xs k) p a)) in
    inl (
      h.0,
      sym s ∙ h.1 ∙ sym (length-set ys k (with_bits (object_width o) (slice_index ys k) p a)),
      subst (λ l. 0 < l) s h.2,
      words_narrow (object_width o) xs k (with_bits (object_width o) (slice_index xs k) p a) h.3 (with_bits_fits (object_width o) (slice_index xs k) a p),
      words_narrow (object_width o) ys k (with_bits (object_width o) (slice_index ys k) p a) h.4 (with_bits_fits (object_width o) (slice_index ys k) a p),
    )
both_kinds o (words xs) (words ys) no_cell p a f h = inl h
both_kinds o (a_number m) (words ys) c p a f h = absurd h
both_kinds o (a_number m) (truth_value t) c p a f h = absurd h
both_kinds o (words xs) (a_number n) c p a f h = absurd h
both_kinds o (words xs) (truth_value t) c p a f h = absurd h
both_kinds o (truth_value t) (a_number n) c p a f h = absurd h
both_kinds o (truth_value t) (words ys) c p a f h = absurd h
both_kinds o (truth_value t) (truth_value u) c p a f h = absurd h

itself : (o : Object) (x y : Value) → Alike o x y → Alike o x x
itself o x y h = alike_further o x y x h (alike_turned o x y h)

module _ (o : Object) (k b : ℕ) where
  same_cell : (x y : Value) (c : Cell) (p : Bits) (a : ℕ) → FitsCell o c → Same o k b x y → Same o k b (written_cell o x c p a) (written_cell o y c p a)
  same_cell x y c p a f (inr h) = inr (spoiled_stays o x c p a h)
  same_cell x y c p a f (inl h) = at (both_kinds o x y c p a f h.0)
    where
      at : Alike o (written_cell o x c p a) (written_cell o y c p a) ⊎ Spoiled o (written_cell o x c p a) → Same o k b (written_cell o x c p a) (written_cell o y c p a)
      at (inr g) = inr g
      at (inl g) = inl (g, bits (cases_lt b (object_width o)) (cases_Bool (covers c p k b)))
        where
          kx : Alike o x (written_cell o x c p a) ⊎ Spoiled o (written_cell o x c p a)
          kx = kind_stays o x x c p a f (itself o x y h.0)

          bits : (b < object_width o) ⊎ (object_width o ≤ b) → (covers c p k b ≡ true) ⊎ (covers c p k b ≡ false)
              → value_bit (written_cell o x c p a) k b ≡ value_bit (written_cell o y c p a) k b
          bits (inr l) t =
              high_unset o (written_cell o y c p a) (written_cell o x c p a) k b (alike_turned o (written_cell o x c p a) (written_cell o y c p a) g) l
              ∙ sym (high_unset o (written_cell o x c p a) (written_cell o y c p a) k b g l)
          bits (inl l) t = by kx t
            where
              by : Alike o x (written_cell o x c p a) ⊎ Spoiled o (written_cell o x c p a) → (covers c p k b ≡ true) ⊎ (covers c p k b ≡ false)
                  → value_bit (written_cell o x c p a) k b ≡ value_bit (written_cell o y c p a) k b
              by (inr sp) t = absurd (never_spoiled o (written_cell o y c p a) (written_cell o x c p a) (alike_turned o (written_cell o x c p a) (written_cell o y c p a) g) sp)
              by (inl ax) (inl t) = bit_given o x y c p a a k b h.0 ax l t refl
              by (inl ax) (inr t) =
                  let ay : Alike o x (written_cell o y c p a) = alike_further o x (written_cell o x c p a) (written_cell o y c p a) ax g in
                  bit_stays o x x c p a k b (itself o x y h.0) ax l t ∙ h.1
                  ∙ sym (bit_stays o x y c p a k b h.0 ay l t)

-- ---- writes and updates

abbrev pub AllFit : Scope → List Update → Type 0
AllFit s [] = Unit {0}
AllFit s (u ∷ us) = AreFit s u.places × AllFit s us

module _ (s : Scope) (n : Name) (k b : ℕ) where
  same_place : (v w : Valuation) (p : Place) (a : ℕ) → FitsCell (s p.of_name) p.cell → Same (s n) k b (v n) (w n)
      → Same (s n) k b (written_place s v p a n) (written_place s w p a n)
  same_place v w p a f h = by (cases_Bool (same_name p.of_name n))
    where
      by : (same_name p.of_name n ≡ true) ⊎ (same_name p.of_name n ≡ false) → Same (s n) k b (written_place s v p a n) (written_place s w p a n)
      by (inl e) =
          subst (λ x. Same (s n) k b x (written_place s w p a n)) (sym (at_name s v p a n e))
          (subst (Same (s n) k b (written_cell (s n) (v n) p.cell p.bits a)) (sym (at_name s w p a n e))
          (same_cell (s n) k b (v n) (w n) p.cell p.bits a (subst (λ m. FitsCell (s m) p.cell) (same_from p.of_name n e) f) h))
      by (inr e) =
          subst (λ x. Same (s n) k b x (written_place s w p a n)) (sym (off_name s v p a n e))
          (subst (Same (s n) k b (v n)) (sym (off_name s w p a n e)) h)

  same_written : (v w : Valuation) (ps : List Place) (a : ℕ) → AreFit s ps → Same (s n) k b (v n) (w n)
      → Same (s n) k b (written s v ps a n) (written s w ps a n)
  same_written v w [] a f h = h
  same_written v w (p ∷ ps) a f h =
      same_place (written s v ps (a % 2 ^ places_width ps)) (written s w ps (a % 2 ^ places_width ps)) p (a / 2 ^ places_width ps) f.0
      (same_written v w ps (a % 2 ^ places_width ps) f.1 h)

  pub same_updates : (v w : Valuation) (us : List Update) → AllFit s us → Same (s n) k b (v n) (w n)
      → Same (s n) k b (with_updates s v us n) (with_updates s w us n)
  same_updates v w [] f h = h
  same_updates v w (u ∷ us) f h =
      same_updates (with_update s v u) (with_update s w u) us f.1 (same_written v w u.places u.value f.0 h)

-- ---- a bit that no place has

abbrev AreApart : Name → (word place : ℕ) → List Place → Type 0
AreApart n k b [] = Unit {0}
AreApart n k b (p ∷ ps) = (same_name p.of_name n ≡ true → covers p.cell p.bits k b ≡ false) × AreApart n k b ps

abbrev pub AllApart : Name → (word place : ℕ) → List Update → Type 0
AllApart n k b [] = Unit {0}
AllApart n k b (u ∷ us) = AreApart n k b u.places × AllApart n k b us

-- the bit is not set, or the value is spoiled for good
abbrev pub Unset : Object → (word place : ℕ) → Value → Type 0
Unset o k b x = (Alike o x x × (value_bit x k b ≡ false)) ⊎ Spoiled o x

module _ (o : Object) (k b : ℕ) where
  unset_cell : (x : Value) (c : Cell) (p : Bits) (a : ℕ) → FitsCell o c → covers c p k b ≡ false → Unset o k b x → Unset o k b (written_cell o x c p a)
  unset_cell x c p a f g (inr h) = inr (spoiled_stays o x c p a h)
  unset_cell x c p a f g (inl h) = at (kind_stays o x x c p a f h.0)
    where
      bits : Alike o x (written_cell o x c p a) → (b < object_width o) ⊎ (object_width o ≤ b) → value_bit (written_cell o x c p a) k b ≡ false
      bits al (inl l) = bit_stays o x x c p a k b h.0 al l g ∙ h.1
      bits al (inr l) = high_unset o x (written_cell o x c p a) k b al l

      at : Alike o x (written_cell o x c p a) ⊎ Spoiled o (written_cell o x c p a) → Unset o k b (written_cell o x c p a)
      at (inr q) = inr q
      at (inl q) =
          inl (alike_further o (written_cell o x c p a) x (written_cell o x c p a) (alike_turned o x (written_cell o x c p a) q) q, bits q (cases_lt b (object_width o)))

module _ (s : Scope) (n : Name) (k b : ℕ) where
  unset_place : (v : Valuation) (p : Place) (a : ℕ) → FitsCell (s p.of_name) p.cell → (same_name p.of_name n ≡ true → covers p.cell p.bits k b ≡ false)
      → Unset (s n) k b (v n) → Unset (s n) k b (written_place s v p a n)
  unset_place v p a f g h = by (cases_Bool (same_name p.of_name n))
    where
      by : (same_name p.of_name n ≡ true) ⊎ (same_name p.of_name n ≡ false) → Unset (s n) k b (written_place s v p a n)
      by (inl e) =
          subst (Unset (s n) k b) (sym (at_name s v p a n e))
          (unset_cell (s n) k b (v n) p.cell p.bits a (subst (λ m. FitsCell (s m) p.cell) (same_from p.of_name n e) f) (g e) h)
      by (inr e) = subst (Unset (s n) k b) (sym (off_name s v p a n e)) h

  unset_written : (v : Valuation) (ps : List Place) (a : ℕ) → AreFit s ps → AreApart n k b ps → Unset (s n) k b (v n) → Unset (s n) k b (written s v ps a n)
  unset_written v [] a f g h = h
  unset_written v (p ∷ ps) a f g h =
      unset_place (written s v ps (a % 2 ^ places_width ps)) p (a / 2 ^ places_width ps) f.0 g.0 (unset_written v ps (a % 2 ^ places_width ps) f.1 g.1 h)

  pub unset_updates : (v : Valuation) (us : List Update) → AllFit s us → AllApart n k b us → Unset (s n) k b (v n) → Unset (s n) k b (with_updates s v us n)
  unset_updates v [] f g h = h
  unset_updates v (u ∷ us) f g h = unset_updates (with_update s v u) us f.1 g.1 (unset_written v u.places u.value f.0 g.0 h)

-- ---- the places of a target (these stand in `verilog_exists` too, where they are private)

apart_append : (n : Name) (k b : ℕ) (ps qs : List Place) → AreApart n k b ps → AreApart n k b qs → AreApart n k b (ps ++ qs)
apart_append n k b [] qs h g = g
apart_append n k b (p ∷ ps) qs h g = (h.0, apart_append n k b ps qs h.1 g)

mutual
  target_apart : (s : Scope) (v : Valuation) → HasNoConstantMemory s → (t : Target) (n : Name) (k b : ℕ) → may_reach s t n k b ≡ false
      → AreApart n k b (places s v t)
  target_apart s v p (place m x) n k b h = (at_same, tt)
    where
      by_name : (same_name m n ≡ false) ⊎ (may_mean s (s m) x k b ≡ false) → same_name m n ≡ true
          → covers (named_place s v m x).cell (named_place s v m x).bits k b ≡ false
      by_name (inl g) f = absurd (false≢true (sym g ∙ f))
      by_name (inr g) f = never_covers s v p m x k b g

      at_same : same_name (named_place s v m x).of_name n ≡ true → covers (named_place s v m x).cell (named_place s v m x).bits k b ≡ false
      at_same e =
          let f : same_name m n ≡ true = sym (ap (λ i. same_name i n) (place_name s v m x)) ∙ e in
          by_name (and_cases (same_name m n) (may_mean s (s m) x k b) h) f
  target_apart s v p (joined ts) n k b h = targets_apart s v p ts n k b h

  targets_apart : (s : Scope) (v : Valuation) → HasNoConstantMemory s → (ts : Targets) (n : Name) (k b : ℕ) → may_reach_one s ts n k b ≡ false
      → AreApart n k b (all_places s v ts)
  targets_apart s v p no_targets n k b h = tt
  targets_apart s v p (target t ts) n k b h =
      apart_append n k b (places s v t) (all_places s v ts) (target_apart s v p t n k b (or_parts (may_reach s t n k b) (may_reach_one s ts n k b) h).0)
      (targets_apart s v p ts n k b (or_parts (may_reach s t n k b) (may_reach_one s ts n k b) h).1)

-- ---- the updates of runs

fit_more : (s : Scope) (us ws : List Update) → AllFit s us → AllFit s ws → AllFit s (us ++ ws)
fit_more s [] ws h g = g
fit_more s (u ∷ us) ws h g = (h.0, fit_more s us ws h.1 g)

apart_more : (n : Name) (k b : ℕ) (us ws : List Update) → AllApart n k b us → AllApart n k b ws → AllApart n k b (us ++ ws)
apart_more n k b [] ws h g = g
apart_more n k b (u ∷ us) ws h g = (h.0, apart_more n k b us ws h.1 g)

-- what holds of the updates of both branches
either : (P : List Update → Type 0) (t : Bool) (x y : Effect) → P x.updates → P y.updates → P (cond t x y).updates
either P true x y h g = h
either P false x y h g = g

mutual
  run_fit : (s : Scope) (x : Statement) (v : Valuation) → AllFit s (run s x v).updates
  run_fit s empty v = tt
  run_fit s (blocking t e) v = tt
  run_fit s (nonblocking t e) v = (target_fits s v t, tt)
  run_fit s (if_then c x) v = either (AllFit s) (is_true s v c) (run s x v) (unchanged v) (run_fit s x v) tt
  run_fit s (if_else c x y) v = either (AllFit s) (is_true s v c) (run s x v) (run s y v) (run_fit s x v) (run_fit s y v)
  run_fit s (case kind e items) v =
      case_fit s v kind (max (width_of s e) (items_width s items)) (sign_of s e && items_signed s items)
      (value_of s v e (max (width_of s e) (items_width s items)) (sign_of s e && items_signed s items)) items (unchanged v) tt
  run_fit s (block m xs) v = all_fit s xs v

  all_fit : (s : Scope) (xs : Statements) (v : Valuation) → AllFit s (run_all s xs v).updates
  all_fit s no_statements v = tt
  all_fit s (statement x xs) v =
      fit_more s (run s x v).updates (run_all s xs (run s x v).valuation).updates (run_fit s x v) (all_fit s xs (run s x v).valuation)

  case_fit : (s : Scope) (v : Valuation) (kind : CaseKind) (width : ℕ) (signed : Bool) (a : ℕ) (items : CaseItems) (o : Effect)
      → AllFit s o.updates → AllFit s (run_case s v kind width signed a items o).updates
  case_fit s v kind width signed a no_items o h = h
  case_fit s v kind width signed a (arm es y items) o h =
      either (AllFit s) (any_matches s v kind width signed a es) (run s y v) (run_case s v kind width signed a items o) (run_fit s y v)
      (case_fit s v kind width signed a items o h)
  case_fit s v kind width signed a (default_arm y items) o h = case_fit s v kind width signed a items (run s y v) (run_fit s y v)

module _ (s : Scope) (p : HasNoConstantMemory s) (n : Name) (k b : ℕ) where
  mutual
    run_apart : (x : Statement) (v : Valuation) → may_assign s x n k b ≡ false → AllApart n k b (run s x v).updates
    run_apart empty v h = tt
    run_apart (blocking t e) v h = tt
    run_apart (nonblocking t e) v h = (target_apart s v p t n k b h, tt)
    run_apart (if_then c x) v h = either (AllApart n k b) (is_true s v c) (run s x v) (unchanged v) (run_apart x v h) tt
    run_apart (if_else c x y) v h =
        let g = or_parts (may_assign s x n k b) (may_assign s y n k b) h in
        either (AllApart n k b) (is_true s v c) (run s x v) (run s y v) (run_apart x v g.0) (run_apart y v g.1)
    run_apart (case kind e items) v h =
        case_apart v kind (max (width_of s e) (items_width s items)) (sign_of s e && items_signed s items)
        (value_of s v e (max (width_of s e) (items_width s items)) (sign_of s e && items_signed s items)) items (unchanged v) h tt
    run_apart (block m xs) v h = all_apart xs v h

    all_apart : (xs : Statements) (v : Valuation) → may_assign_in_all s xs n k b ≡ false → AllApart n k b (run_all s xs v).updates
    all_apart no_statements v h = tt
    all_apart (statement x xs) v h =
        let g = or_parts (may_assign s x n k b) (may_assign_in_all s xs n k b) h in
        apart_more n k b (run s x v).updates (run_all s xs (run s x v).valuation).updates (run_apart x v g.0) (all_apart xs (run s x v).valuation g.1)

    case_apart : (v : Valuation) (kind : CaseKind) (width : ℕ) (signed : Bool) (a : ℕ) (items : CaseItems) (o : Effect)
        → may_assign_in_case s items n k b ≡ false → AllApart n k b o.updates → AllApart n k b (run_case s v kind width signed a items o).updates
    case_apart v kind width signed a no_items o h f = f
    case_apart v kind width signed a (arm es y items) o h f =
        let g = or_parts (may_assign s y n k b) (may_assign_in_case s items n k b) h in
        either (AllApart n k b) (any_matches s v kind width signed a es) (run s y v) (run_case s v kind width signed a items o) (run_apart y v g.0)
        (case_apart v kind width signed a items o g.1 f)
    case_apart v kind width signed a (default_arm y items) o h f =
        let g = or_parts (may_assign s y n k b) (may_assign_in_case s items n k b) h in
        case_apart v kind width signed a items (run s y v) g.1 (run_apart y v g.0)

  pub blocks_apart : (v : Valuation) (xs : List Statement) → one_may_assign s xs n k b ≡ false → AllApart n k b (updates_of_blocks s v xs)
  blocks_apart v [] h = tt
  blocks_apart v (x ∷ xs) h =
      let g = or_parts (may_assign s x n k b) (one_may_assign s xs n k b) h in
      apart_more n k b (run s x v).updates (updates_of_blocks s v xs) (run_apart x v g.0) (blocks_apart v xs g.1)

pub blocks_fit : (s : Scope) (v : Valuation) (xs : List Statement) → AllFit s (updates_of_blocks s v xs)
blocks_fit s v [] = tt
blocks_fit s v (x ∷ xs) = fit_more s (run s x v).updates (updates_of_blocks s v xs) (run_fit s x v) (blocks_fit s v xs)
