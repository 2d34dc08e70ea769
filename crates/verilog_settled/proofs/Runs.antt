-- A bit after runs of a statement: the same, or the valuations outside differ at a bit on which it depends.
use Rattle.std.proofs.Common.{◌≡◌, ◌≢◌, ℕ, ◌≤◌, max, Bool, true, false, cond, ◌&&◌, ◌||◌, ◌⊎◌, inl, inr, refl, sym, ap, ◌∙◌, subst, arith}
use Rattle.std.proofs.lemmas.Bool.{cases_Bool}
use Rattle.wb_values.specs.Value.{Name, Valuation}
use Rattle.verilog_trees.specs.Syntax.{Expression, CaseKind, Statement, empty, blocking, nonblocking, if_then, if_else, case, block, Statements, no_statements, statement, CaseItems, no_items, arm, default_arm}
use Rattle.verilog_meaning.specs.Expression.{Scope, sign_of, width_of, value_of, self_value, is_nonzero}
use Rattle.verilog_meaning.specs.Statement.{Effect, unchanged, items_width, items_signed, any_matches, run, run_all, run_case}
use Rattle.verilog_meaning.specs.Register.{may_assign, may_assign_in_case, value_bit}
use Rattle.verilog_meaning.specs.Settled.{IsValueOf}
use Rattle.verilog_designs.specs.Reads.{BitSet, or_in, reads, items_read, is_full}
use Rattle.verilog_designs.specs.Dependence.{Bit, Dependences, at_start, NoArm, After, AfterAll, AfterArms}
use Rattle.verilog_settled.specs.Locality.{IsSame, DifferAt, StatementIs, StatementsAre, ItemsAre, RunBitIsLocal, BlockBitIsLocal}
use Rattle.verilog_settled.proofs.Bits.{alike_or_not}
use Rattle.verilog_settled.proofs.Values.{alike_values}
use Rattle.verilog_settled.proofs.Found.{Found, In, SameOr, found_left, found_right}
use Rattle.verilog_settled.proofs.Expressions.{value_local}
use Rattle.verilog_settled.proofs.Fitting.{value_fits}
use Rattle.verilog_settled.proofs.Reached.{run_kind, before_all, run_apart}
use Rattle.verilog_settled.proofs.Full.{full_any}
use Rattle.verilog_settled.proofs.Choices.{HasBoth, Keeps, Tracks, Sides, readable_now, after_assignment, Ends, ends_so, either_way, by_choice, SameItems, items_local}

first_most : (x y : ℕ) → x ≤ max x y
first_most x y = omega arith

-- a condition sends both sides one way, or a bit that it reads is found
two_ways : (s : Scope) (a b v w : Valuation) (u : Bit) (bits : BitSet) (c d : ℕ) (x x2 y y2 : Effect) (P Q : Bit → Type 0)
    → SameOr c d v w (HasBoth s a b) bits → Ends s a b u x x2 P → Ends s a b u y y2 Q
    → Ends s a b u (cond (is_nonzero c) x y) (cond (is_nonzero d) x2 y2) (λ z. P z ⊎ Q z) ⊎ Found v w (HasBoth s a b) (In bits)
two_ways s a b v w u bits c d x x2 y y2 P Q (inl e) f g =
    inl (either_way s a b u (is_nonzero c) (is_nonzero d) x x2 y y2 P Q (ap is_nonzero e) f g)
two_ways s a b v w u bits c d x x2 y y2 P Q (inr h) f g = inr h

regroup : (A B C : Type 0) → A ⊎ (B ⊎ C) → (A ⊎ B) ⊎ C
regroup A B C (inl h) = inl (inl h)
regroup A B C (inr (inl h)) = inl (inr h)
regroup A B C (inr (inr h)) = inr h

regrouped : (s : Scope) (a b : Valuation) (u : Bit) (x y : Effect) (A B C : Bit → Type 0) → Ends s a b u x y (λ z. A z ⊎ (B z ⊎ C z))
    → Ends s a b u x y (λ z. (A z ⊎ B z) ⊎ C z)
regrouped s a b u x y A B C h =
    ends_so s a b u x y (λ z. A z ⊎ (B z ⊎ C z)) (λ z. (A z ⊎ B z) ⊎ C z) (λ z k. regroup (A z) (B z) (C z) k) h

turned_arms : (A B C : Type 0) → A ⊎ B → (B ⊎ A) ⊎ C
turned_arms A B C (inl h) = inl (inr h)
turned_arms A B C (inr h) = inl (inl h)

no_arm_left : (full : Bool) (A B : Type 0) → full ≡ false → A ⊎ B → A ⊎ NoArm full B
no_arm_left full A B f (inl h) = inl h
no_arm_left full A B f (inr h) = inr (subst (λ c. NoArm c B) (sym f) h)

some_arm : (full : Bool) (A B : Type 0) → A ⊎ ⊥ → A ⊎ NoArm full B
some_arm full A B (inl h) = inl h
some_arm full A B (inr h) = absurd h

-- a case: its value and its items are the same, and some arm or none is taken on both sides; or a bit that they read is found
case_ways : (s : Scope) (a b v w : Valuation) (before : Dependences) (u : Bit) (kind : CaseKind) (e : Expression) (items : CaseItems)
    → IsSame v w u ⊎ DifferAt a b (before u)
    → SameOr (value_of s v e (max (width_of s e) (items_width s items)) (sign_of s e && items_signed s items))
    (value_of s w e (max (width_of s e) (items_width s items)) (sign_of s e && items_signed s items)) v w (HasBoth s a b) (reads s e)
    → SameItems s v w kind (max (width_of s e) (items_width s items)) (sign_of s e && items_signed s items)
    (value_of s v e (max (width_of s e) (items_width s items)) (sign_of s e && items_signed s items)) items ⊎ Found v w (HasBoth s a b) (In (items_read s items))
    → ((o q : Effect) → is_full s kind e items ≡ true
    → run_case s w kind (max (width_of s e) (items_width s items)) (sign_of s e && items_signed s items)
    (value_of s v e (max (width_of s e) (items_width s items)) (sign_of s e && items_signed s items)) items o
    ≡ run_case s w kind (max (width_of s e) (items_width s items)) (sign_of s e && items_signed s items)
    (value_of s v e (max (width_of s e) (items_width s items)) (sign_of s e && items_signed s items)) items q)
    → (SameItems s v w kind (max (width_of s e) (items_width s items)) (sign_of s e && items_signed s items)
    (value_of s v e (max (width_of s e) (items_width s items)) (sign_of s e && items_signed s items)) items
    → (o q : Effect) (P : Bit → Type 0) → Ends s a b u o q P
    → Ends s a b u
    (run_case s v kind (max (width_of s e) (items_width s items)) (sign_of s e && items_signed s items)
    (value_of s v e (max (width_of s e) (items_width s items)) (sign_of s e && items_signed s items)) items o)
    (run_case s w kind (max (width_of s e) (items_width s items)) (sign_of s e && items_signed s items)
    (value_of s v e (max (width_of s e) (items_width s items)) (sign_of s e && items_signed s items)) items q)
    (λ z. AfterArms s before items u z ⊎ P z))
    → Ends s a b u (run s (case kind e items) v) (run s (case kind e items) w)
    (λ z. AfterArms s before items u z ⊎ NoArm (is_full s kind e items) (before u z))
    ⊎ Found v w (HasBoth s a b) (In (or_in (reads s e) (items_read s items)))
case_ways s a b v w before u kind e items now (inr f) h full arms = inr (found_left v w (HasBoth s a b) (reads s e) (items_read s items) f)
case_ways s a b v w before u kind e items now (inl x) (inr f) full arms = inr (found_right v w (HasBoth s a b) (reads s e) (items_read s items) f)
case_ways s a b v w before u kind e items now (inl x) (inl same) full arms =
    inl (subst (λ c. Ends s a b u (run s (case kind e items) v)
    (run_case s w kind (max (width_of s e) (items_width s items)) (sign_of s e && items_signed s items) c items (unchanged w))
    (λ z. AfterArms s before items u z ⊎ NoArm (is_full s kind e items) (before u z))) x (by_full (cases_Bool (is_full s kind e items))))
  where
    by_full : (is_full s kind e items ≡ true) ⊎ (is_full s kind e items ≡ false)
        → Ends s a b u (run s (case kind e items) v)
        (run_case s w kind (max (width_of s e) (items_width s items)) (sign_of s e && items_signed s items)
        (value_of s v e (max (width_of s e) (items_width s items)) (sign_of s e && items_signed s items)) items (unchanged w))
        (λ z. AfterArms s before items u z ⊎ NoArm (is_full s kind e items) (before u z))
    by_full (inr f) =
        ends_so s a b u (run s (case kind e items) v)
        (run_case s w kind (max (width_of s e) (items_width s items)) (sign_of s e && items_signed s items)
        (value_of s v e (max (width_of s e) (items_width s items)) (sign_of s e && items_signed s items)) items (unchanged w))
        (λ z. AfterArms s before items u z ⊎ before u z) (λ z. AfterArms s before items u z ⊎ NoArm (is_full s kind e items) (before u z))
        (λ z k. no_arm_left (is_full s kind e items) (AfterArms s before items u z) (before u z) f k)
        (arms same (unchanged v) (unchanged w) (before u) (λ kx ky. now))
    by_full (inl f) =
        subst (λ r. Ends s a b u (run s (case kind e items) v) r (λ z. AfterArms s before items u z ⊎ NoArm (is_full s kind e items) (before u z)))
        (full (unchanged v) (unchanged w) f)
        (ends_so s a b u (run s (case kind e items) v)
        (run_case s w kind (max (width_of s e) (items_width s items)) (sign_of s e && items_signed s items)
        (value_of s v e (max (width_of s e) (items_width s items)) (sign_of s e && items_signed s items)) items (unchanged v))
        (λ z. AfterArms s before items u z ⊎ ⊥) (λ z. AfterArms s before items u z ⊎ NoArm (is_full s kind e items) (before u z))
        (λ z k. some_arm (is_full s kind e items) (AfterArms s before items u z) (before u z) k)
        (arms same (unchanged v) (unchanged v) (λ z. ⊥) (λ kx ky. inl refl)))

-- at the start each bit rests on itself
at_first : (v w : Valuation) (u : Bit) → IsSame v w u ⊎ DifferAt v w (at_start u)
at_first v w u = by_bits (alike_or_not (value_bit (v u.of_name) u.word u.place) (value_bit (w u.of_name) u.word u.place))
  where
    by_bits : IsSame v w u ⊎ (value_bit (v u.of_name) u.word u.place ≢ value_bit (w u.of_name) u.word u.place) → IsSame v w u ⊎ DifferAt v w (at_start u)
    by_bits (inl e) = inl e
    by_bits (inr d) = inr (record { bit = u; is_so = refl; differs = d })

mutual
  run_tracks : (s : Scope) (a b : Valuation) (IsKnown : Name → Type 0) → Sides s a b IsKnown → (x : Statement) → StatementIs IsKnown x
      → (before : Dependences) (v w : Valuation) → Keeps s a b a v → Keeps s a b b w → Tracks s a b v w before
      → (u : Bit) → HasBoth s a b u.of_name → Ends s a b u (run s x v) (run s x w) (After s before x u)
  run_tracks s a b IsKnown g empty l before v w kv kw tracks u hu = λ kx ky. tracks u hu
  run_tracks s a b IsKnown g (blocking t e) l before v w kv kw tracks u hu =
      λ kx ky. after_assignment s a b v w IsKnown before t e g l.0 l.1 kv kw kx ky tracks u hu
  run_tracks s a b IsKnown g (nonblocking t e) l before v w kv kw tracks u hu = λ kx ky. tracks u hu
  run_tracks s a b IsKnown g (if_then c x) l before v w kv kw tracks u hu =
      by_choice s a b v w before u hu tracks (run s (if_then c x) v) (run s (if_then c x) w) (may_assign s x u.of_name u.word u.place) (reads s c)
      (λ z. After s before x u z ⊎ before u z)
      (λ e kx. run_apart s g.scope (if_then c x) v u.of_name u.word u.place (a u.of_name) e (kv u.of_name hu) (kx u.of_name hu))
      (λ e ky. run_apart s g.scope (if_then c x) w u.of_name u.word u.place (b u.of_name) e (kw u.of_name hu) (ky u.of_name hu))
      (two_ways s a b v w u (reads s c) (self_value s v c) (self_value s w c) (run s x v) (run s x w) (unchanged v) (unchanged w) (After s before x u) (before u)
      (value_local s v w (HasBoth s a b) IsKnown g.scope (readable_now s a b v w IsKnown g kv kw) c (width_of s c) (sign_of s c) l.0)
      (run_tracks s a b IsKnown g x l.1 before v w kv kw tracks u hu) (λ kx ky. tracks u hu))
  run_tracks s a b IsKnown g (if_else c x y) l before v w kv kw tracks u hu =
      by_choice s a b v w before u hu tracks (run s (if_else c x y) v) (run s (if_else c x y) w)
      (may_assign s x u.of_name u.word u.place || may_assign s y u.of_name u.word u.place) (reads s c) (λ z. After s before x u z ⊎ After s before y u z)
      (λ e kx. run_apart s g.scope (if_else c x y) v u.of_name u.word u.place (a u.of_name) e (kv u.of_name hu) (kx u.of_name hu))
      (λ e ky. run_apart s g.scope (if_else c x y) w u.of_name u.word u.place (b u.of_name) e (kw u.of_name hu) (ky u.of_name hu))
      (two_ways s a b v w u (reads s c) (self_value s v c) (self_value s w c) (run s x v) (run s x w) (run s y v) (run s y w) (After s before x u) (After s before y u)
      (value_local s v w (HasBoth s a b) IsKnown g.scope (readable_now s a b v w IsKnown g kv kw) c (width_of s c) (sign_of s c) l.0)
      (run_tracks s a b IsKnown g x l.1 before v w kv kw tracks u hu) (run_tracks s a b IsKnown g y l.2 before v w kv kw tracks u hu))
  run_tracks s a b IsKnown g (case kind e items) l before v w kv kw tracks u hu =
      by_choice s a b v w before u hu tracks (run s (case kind e items) v) (run s (case kind e items) w) (may_assign_in_case s items u.of_name u.word u.place)
      (or_in (reads s e) (items_read s items)) (λ z. AfterArms s before items u z ⊎ NoArm (is_full s kind e items) (before u z))
      (λ h kx. run_apart s g.scope (case kind e items) v u.of_name u.word u.place (a u.of_name) h (kv u.of_name hu) (kx u.of_name hu))
      (λ h ky. run_apart s g.scope (case kind e items) w u.of_name u.word u.place (b u.of_name) h (kw u.of_name hu) (ky u.of_name hu))
      (case_ways s a b v w before u kind e items (tracks u hu)
      (value_local s v w (HasBoth s a b) IsKnown g.scope (readable_now s a b v w IsKnown g kv kw) e (max (width_of s e) (items_width s items))
      (sign_of s e && items_signed s items) l.0)
      (items_local s v w (HasBoth s a b) IsKnown g.scope (readable_now s a b v w IsKnown g kv kw) kind (max (width_of s e) (items_width s items))
      (sign_of s e && items_signed s items) (value_of s v e (max (width_of s e) (items_width s items)) (sign_of s e && items_signed s items)) items l.1)
      (λ o q h. full_any s w g.scope kind e items (value_of s v e (max (width_of s e) (items_width s items)) (sign_of s e && items_signed s items)) o q h
      (value_fits s v w (HasBoth s a b) IsKnown g.scope (readable_now s a b v w IsKnown g kv kw) e (max (width_of s e) (items_width s items))
      (sign_of s e && items_signed s items) l.0 (first_most (width_of s e) (items_width s items))))
      (λ same o q P. arms_track s a b IsKnown g items l.1 before v w kv kw tracks u hu kind (max (width_of s e) (items_width s items))
      (sign_of s e && items_signed s items) (value_of s v e (max (width_of s e) (items_width s items)) (sign_of s e && items_signed s items)) same o q P))
  run_tracks s a b IsKnown g (block m xs) l before v w kv kw tracks u hu = all_track s a b IsKnown g xs l before v w kv kw tracks u hu

  all_track : (s : Scope) (a b : Valuation) (IsKnown : Name → Type 0) → Sides s a b IsKnown → (xs : Statements) → StatementsAre IsKnown xs
      → (before : Dependences) (v w : Valuation) → Keeps s a b a v → Keeps s a b b w → Tracks s a b v w before
      → (u : Bit) → HasBoth s a b u.of_name → Ends s a b u (run_all s xs v) (run_all s xs w) (AfterAll s before xs u)
  all_track s a b IsKnown g no_statements l before v w kv kw tracks u hu = λ kx ky. tracks u hu
  all_track s a b IsKnown g (statement x xs) l before v w kv kw tracks u hu = λ kx ky.
      let kv2 : Keeps s a b a (run s x v).valuation = λ n h. before_all s xs (run s x v).valuation n (a n) (run_kind s x v n (a n) (inl (kv n h))) (kx n h) in
      let kw2 : Keeps s a b b (run s x w).valuation = λ n h. before_all s xs (run s x w).valuation n (b n) (run_kind s x w n (b n) (inl (kw n h))) (ky n h) in
      all_track s a b IsKnown g xs l.1 (After s before x) (run s x v).valuation (run s x w).valuation kv2 kw2
      (λ y hy. run_tracks s a b IsKnown g x l.0 before v w kv kw tracks y hy kv2 kw2) u hu kx ky

  arms_track : (s : Scope) (a b : Valuation) (IsKnown : Name → Type 0) → Sides s a b IsKnown → (items : CaseItems) → ItemsAre IsKnown items
      → (before : Dependences) (v w : Valuation) → Keeps s a b a v → Keeps s a b b w → Tracks s a b v w before → (u : Bit) → HasBoth s a b u.of_name
      → (kind : CaseKind) (width : ℕ) (signed : Bool) (x : ℕ) → SameItems s v w kind width signed x items → (o q : Effect) (P : Bit → Type 0)
      → Ends s a b u o q P
      → Ends s a b u (run_case s v kind width signed x items o) (run_case s w kind width signed x items q) (λ z. AfterArms s before items u z ⊎ P z)
  arms_track s a b IsKnown g no_items l before v w kv kw tracks u hu kind width signed x same o q P ends =
      ends_so s a b u o q P (λ z. AfterArms s before no_items u z ⊎ P z) (λ z h. inr h) ends
  arms_track s a b IsKnown g (arm es y items) l before v w kv kw tracks u hu kind width signed x same o q P ends =
      regrouped s a b u (run_case s v kind width signed x (arm es y items) o) (run_case s w kind width signed x (arm es y items) q) (After s before y u)
      (AfterArms s before items u) P
      (either_way s a b u (any_matches s v kind width signed x es) (any_matches s w kind width signed x es) (run s y v) (run s y w)
      (run_case s v kind width signed x items o) (run_case s w kind width signed x items q) (After s before y u) (λ z. AfterArms s before items u z ⊎ P z) same.0
      (run_tracks s a b IsKnown g y l.1 before v w kv kw tracks u hu)
      (arms_track s a b IsKnown g items l.2 before v w kv kw tracks u hu kind width signed x same.1 o q P ends))
  arms_track s a b IsKnown g (default_arm y items) l before v w kv kw tracks u hu kind width signed x same o q P ends =
      ends_so s a b u (run_case s v kind width signed x items (run s y v)) (run_case s w kind width signed x items (run s y w))
      (λ z. AfterArms s before items u z ⊎ After s before y u z) (λ z. (After s before y u z ⊎ AfterArms s before items u z) ⊎ P z)
      (λ z h. turned_arms (AfterArms s before items u z) (After s before y u z) (P z) h)
      (arms_track s a b IsKnown g items l.1 before v w kv kw tracks u hu kind width signed x same (run s y v) (run s y w) (After s before y u)
      (run_tracks s a b IsKnown g y l.0 before v w kv kw tracks u hu))

pub run_bit_is_local : RunBitIsLocal
run_bit_is_local s v w IsKnown x u p f g l kv kw hv hw =
    run_tracks s v w IsKnown (record { scope = p; fits_v = f; fits_w = g }) x l at_start v w (λ n h. alike_values (s n) (v n) (v n) h.0 h.0)
    (λ n h. alike_values (s n) (w n) (w n) h.1 h.1) (λ y hy. at_first v w y) u (hv, hw)
    (λ n h. alike_values (s n) (v n) ((run s x v).valuation n) h.0 (kv n h.0)) (λ n h. alike_values (s n) (w n) ((run s x w).valuation n) h.1 (kw n h.1))

pub block_bit_is_local : BlockBitIsLocal
block_bit_is_local s v w IsKnown x u p f g l holds_v holds_w hv hw =
    told (run_bit_is_local s v w IsKnown x u p f g l (λ n h. subst (IsValueOf (s n)) (sym (holds_v n)) h) (λ n h. subst (IsValueOf (s n)) (sym (holds_w n)) h) hv hw)
  where
    told : IsSame (run s x v).valuation (run s x w).valuation u ⊎ DifferAt v w (After s at_start x u) → IsSame v w u ⊎ DifferAt v w (After s at_start x u)
    told (inl e) =
        inl (sym (ap (λ z. value_bit z u.word u.place) (holds_v u.of_name)) ∙ e ∙ ap (λ z. value_bit z u.word u.place) (holds_w u.of_name))
    told (inr d) = inr d
