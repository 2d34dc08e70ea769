-- What bits depend on after a block: carried from one account of what was before to another, and where nothing is assigned.
use Rattle.std.proofs.Common.{◌≡◌, ◌∙◌, refl, sym, subst, Bool, true, false, inl, inr}
use Rattle.std.specs.Prelude.{◌⊎◌, ◌&&◌, ◌||◌, ◌↔◌, not, IsTrue}
use Rattle.std.proofs.lemmas.Bool.{false≢true, and_parts, or_parts, or_cases, not_from_false, false_from_ne_true}
use Rattle.verilog_trees.specs.Syntax.{Expression, Target, place, joined, Targets, no_targets, target, Statement, empty, blocking, nonblocking, if_then, if_else, case, block, Statements, no_statements, statement, CaseItems, no_items, arm, default_arm}
use Rattle.verilog_meaning.specs.Expression.{Scope}
use Rattle.verilog_meaning.specs.Register.{selects_are_constant, may_mean, may_reach, may_reach_one, may_assign, may_assign_in_all, may_assign_in_case}
use Rattle.wb_values.specs.Value.{same_name}
use Rattle.verilog_designs.specs.Reads.{BitSet, or_in, reads, items_read, surely_reaches, one_surely_reaches, is_full}
use Rattle.verilog_designs.specs.Dependence.{Bit, is_in, index_reads, one_index_reads, copied_to, computed, Dependences, at_start, ThroughReads, AfterAssignment, kept, given, indexed, AfterChoice, NoArm, After, AfterAll, AfterArms}
use Rattle.verilog_settled.proofs.Assigned.{takes_reach}
use Rattle.v_depend.specs.Resting.{IsThere, at_first, RestsAfter}
use Rattle.v_depend.proofs.Within.{read-there, chosen-there, index-there, given-there}

-- ---- carried over

abbrev pub Carries : Scope → (before later : Dependences) → (y z : Bit) → Type 0
Carries s before later y z = (x : Bit) → IsThere s x → before x y → later x z

pub carry-assignment : (s : Scope) (b c : Dependences) (y z : Bit) → Carries s b c y z → (t : Target) (e : Expression) (u : Bit) → IsThere s u
    → AfterAssignment s b t e u y → AfterAssignment s c t e u z
carry-assignment s b c y z f t e u h (kept n g) = kept n (f u h g)
carry-assignment s b c y z f t e u h (given x i g) = given x i (f x (given-there s t e u x i) g)
carry-assignment s b c y z f t e u h (indexed g) = indexed (g.0, g.1, f g.0 (index-there s t u g.0 g.1) g.2)

pub choose : {P Q R P2 Q2 R2 : Type 0} (t : Bool) → (P → P2) → (Q → Q2) → (R → R2) → AfterChoice t P Q R → AfterChoice t P2 Q2 R2
choose true f g h (inl x) = inl (f x)
choose true f g h (inr x) = inr (g x)
choose false f g h x = h x

pub two : {P Q P2 Q2 : Type 0} → (P → P2) → (Q → Q2) → P ⊎ Q → P2 ⊎ Q2
two f g (inl x) = inl (f x)
two f g (inr x) = inr (g x)

pub no-arm : {P Q : Type 0} (t : Bool) → (P → Q) → NoArm t P → NoArm t Q
no-arm true f x = x
no-arm false f x = f x

mutual
  pub carry : (s : Scope) (b c : Dependences) (y z : Bit) → Carries s b c y z → (x : Statement) (u : Bit) → IsThere s u → After s b x u y → After s c x u z
  carry s b c y z f empty u h g = f u h g
  carry s b c y z f (blocking t e) u h g = carry-assignment s b c y z f t e u h g
  carry s b c y z f (nonblocking t e) u h g = f u h g
  carry s b c y z f (if_then i x) u h g =
      choose (may_assign s x u.of_name u.word u.place) (λ r. (r.0, r.1, f r.0 (read-there s i r.0 r.1) r.2)) (two (carry s b c y z f x u h) (f u h)) (f u h) g
  carry s b c y z f (if_else i x w) u h g =
      choose (may_assign s x u.of_name u.word u.place || may_assign s w u.of_name u.word u.place) (λ r. (r.0, r.1, f r.0 (read-there s i r.0 r.1) r.2))
      (two (carry s b c y z f x u h) (carry s b c y z f w u h)) (f u h) g
  carry s b c y z f (case kind e items) u h g =
      choose (may_assign_in_case s items u.of_name u.word u.place) (λ r. (r.0, r.1, f r.0 (chosen-there s e items r.0 r.1) r.2))
      (two (carry-arms s b c y z f items u h) (no-arm (is_full s kind e items) (f u h))) (f u h) g
  carry s b c y z f (block n xs) u h g = carry-all s b c y z f xs u h g

  pub carry-all : (s : Scope) (b c : Dependences) (y z : Bit) → Carries s b c y z → (xs : Statements) (u : Bit) → IsThere s u
      → AfterAll s b xs u y → AfterAll s c xs u z
  carry-all s b c y z f no_statements u h g = f u h g
  carry-all s b c y z f (statement x xs) u h g = carry-all s (After s b x) (After s c x) y z (λ w. carry s b c y z f x w) xs u h g

  pub carry-arms : (s : Scope) (b c : Dependences) (y z : Bit) → Carries s b c y z → (items : CaseItems) (u : Bit) → IsThere s u
      → AfterArms s b items u y → AfterArms s c items u z
  carry-arms s b c y z f no_items u h g = g
  carry-arms s b c y z f (arm es x items) u h g = two (carry s b c y z f x u h) (carry-arms s b c y z f items u h) g
  carry-arms s b c y z f (default_arm x items) u h g = two (carry s b c y z f x u h) (carry-arms s b c y z f items u h) g

-- ---- on one of some bits

-- it depends on one of them
abbrev On : (Bit → Type 0) → Dependences → Dependences
On these b u y = (z : Bit) × these z × b u z

abbrev OnOne : (Bit → Type 0) → (Bit → Type 0) → Type 0
OnOne these b = (z : Bit) × these z × b z

one : (these b c : Bit → Type 0) → ((z : Bit) → b z → c z) → OnOne these b → OnOne these c
one these b c f r = (r.0, r.1, f r.0 r.2)

choose-one : (these : Bit → Type 0) (t : Bool) (p q r : Bit → Type 0) → AfterChoice t (OnOne these p) (OnOne these q) (OnOne these r)
    → OnOne these (λ z. AfterChoice t (p z) (q z) (r z))
choose-one these true p q r (inl x) = (x.0, x.1, inl x.2)
choose-one these true p q r (inr x) = (x.0, x.1, inr x.2)
choose-one these false p q r x = x

two-one : (these p q : Bit → Type 0) → OnOne these p ⊎ OnOne these q → OnOne these (λ z. p z ⊎ q z)
two-one these p q (inl x) = (x.0, x.1, inl x.2)
two-one these p q (inr x) = (x.0, x.1, inr x.2)

no-arm-one : (these p : Bit → Type 0) (t : Bool) → NoArm t (OnOne these p) → OnOne these (λ z. NoArm t (p z))
no-arm-one these p true x = absurd x
no-arm-one these p false x = x

reads-one : (these : Bit → Type 0) (b : Dependences) (bits : BitSet) (y : Bit) → ThroughReads (On these b) bits y → OnOne these (ThroughReads b bits)
reads-one these b bits y r = (r.2.0, r.2.1, (r.0, r.1, r.2.2))

assigned-one : (s : Scope) (these : Bit → Type 0) (b : Dependences) (t : Target) (e : Expression) (u y : Bit) → AfterAssignment s (On these b) t e u y
    → OnOne these (AfterAssignment s b t e u)
assigned-one s these b t e u y (kept n g) = (g.0, g.1, kept n g.2)
assigned-one s these b t e u y (given x i g) = (g.0, g.1, given x i g.2)
assigned-one s these b t e u y (indexed g) = let r = reads-one these b (index_reads s t u) y g in (r.0, r.1, indexed r.2)

mutual
  on-one : (s : Scope) (these : Bit → Type 0) (b : Dependences) (x : Statement) (u y : Bit) → IsThere s u → After s (On these b) x u y → OnOne these (After s b x u)
  on-one s these b empty u y h g = g
  on-one s these b (blocking t e) u y h g = assigned-one s these b t e u y g
  on-one s these b (nonblocking t e) u y h g = g
  on-one s these b (if_then c x) u y h g =
      choose-one these (may_assign s x u.of_name u.word u.place) (ThroughReads b (reads s c)) (λ z. After s b x u z ⊎ b u z) (b u)
      (choose (may_assign s x u.of_name u.word u.place) (reads-one these b (reads s c) y)
      (λ r. two-one these (After s b x u) (b u) (two (on-one s these b x u y h) (λ p. p) r)) (λ p. p) g)
  on-one s these b (if_else c x w) u y h g =
      let t = may_assign s x u.of_name u.word u.place || may_assign s w u.of_name u.word u.place in
      choose-one these t (ThroughReads b (reads s c)) (λ z. After s b x u z ⊎ After s b w u z) (b u)
      (choose t (reads-one these b (reads s c) y)
      (λ r. two-one these (After s b x u) (After s b w u) (two (on-one s these b x u y h) (on-one s these b w u y h) r)) (λ p. p) g)
  on-one s these b (case kind e items) u y h g =
      let t = may_assign_in_case s items u.of_name u.word u.place in
      let full = is_full s kind e items in
      choose-one these t (ThroughReads b (or_in (reads s e) (items_read s items))) (λ z. AfterArms s b items u z ⊎ NoArm full (b u z)) (b u)
      (choose t (reads-one these b (or_in (reads s e) (items_read s items)) y)
      (λ r. two-one these (AfterArms s b items u) (λ z. NoArm full (b u z)) (two (arms-one s these b items u y h) (no-arm-one these (b u) full) r)) (λ p. p) g)
  on-one s these b (block n xs) u y h g = all-one s these b xs u y h g

  all-one : (s : Scope) (these : Bit → Type 0) (b : Dependences) (xs : Statements) (u y : Bit) → IsThere s u → AfterAll s (On these b) xs u y
      → OnOne these (AfterAll s b xs u)
  all-one s these b no_statements u y h g = g
  all-one s these b (statement x xs) u y h g =
      all-one s these (After s b x) xs u y h (carry-all s (After s (On these b) x) (On these (After s b x)) y y (λ w k. on-one s these b x w y k) xs u h g)

  arms-one : (s : Scope) (these : Bit → Type 0) (b : Dependences) (items : CaseItems) (u y : Bit) → IsThere s u → AfterArms s (On these b) items u y
      → OnOne these (AfterArms s b items u)
  arms-one s these b no_items u y h g = absurd g
  arms-one s these b (arm es x items) u y h g =
      two-one these (After s b x u) (AfterArms s b items u) (two (on-one s these b x u y h) (arms-one s these b items u y h) g)
  arms-one s these b (default_arm x items) u y h g =
      two-one these (After s b x u) (AfterArms s b items u) (two (on-one s these b x u y h) (arms-one s these b items u y h) g)

-- A bit rests after a block where it depends, from the block's start, on a bit that is unsettled.
pub rests-on-one : (unsettled : BitSet) (s : Scope) (x : Statement) (u : Bit) → IsThere s u
    → RestsAfter unsettled s x u ↔ (y : Bit) × IsTrue (is_in unsettled y) × After s at_start x u y
rests-on-one unsettled s x u h = (there, back)
  where
    there : RestsAfter unsettled s x u → (y : Bit) × IsTrue (is_in unsettled y) × After s at_start x u y
    there r =
        on-one s (λ y. IsTrue (is_in unsettled y)) at_start x u u h
        (carry s (at_first unsettled) (On (λ y. IsTrue (is_in unsettled y)) at_start) u u (λ w k g. (w, g, refl)) x u h r)

    back : (y : Bit) × IsTrue (is_in unsettled y) × After s at_start x u y → RestsAfter unsettled s x u
    back r = carry s at_start (at_first unsettled) r.0 u (λ w k e. subst (λ z. IsTrue (is_in unsettled z)) (sym e) r.1) x u h r.2

-- ---- where nothing is assigned

or-true : (p q : Bool) → (p ≡ true) ⊎ (q ≡ true) → (p || q) ≡ true
or-true true q h = refl
or-true false q (inl h) = absurd (false≢true h)
or-true false q (inr h) = h

mutual
  pub index-reach : (s : Scope) (t : Target) (u y : Bit) → IsTrue (is_in (index_reads s t u) y) → IsTrue (may_reach s t u.of_name u.word u.place)
  index-reach s (place n x) u y h = (and_parts (may_reach s (place n x) u.of_name u.word u.place) _ h).0
  index-reach s (joined ts) u y h = indexes-reach s ts u y h

  indexes-reach : (s : Scope) (ts : Targets) (u y : Bit) → IsTrue (is_in (one_index_reads s ts u) y) → IsTrue (may_reach_one s ts u.of_name u.word u.place)
  indexes-reach s no_targets u y h = absurd (false≢true h)
  indexes-reach s (target t ts) u y h =
      or-true (may_reach s t u.of_name u.word u.place) (may_reach_one s ts u.of_name u.word u.place)
      (two (index-reach s t u y) (λ g. indexes-reach s ts u y (and_parts (not (is_in (surely_reaches s t) u)) (is_in (one_index_reads s ts u) y) g).1)
      (or_cases (is_in (index_reads s t u) y) (not (is_in (surely_reaches s t) u) && is_in (one_index_reads s ts u) y) h))

without-constant : (a c m : Bool) → (a && (c && m)) ≡ true → (a && m) ≡ true
without-constant true true m h = h
without-constant true false m h = absurd (false≢true h)
without-constant false c m h = h

mutual
  pub sure-reach : (s : Scope) (t : Target) (u : Bit) → IsTrue (is_in (surely_reaches s t) u) → IsTrue (may_reach s t u.of_name u.word u.place)
  sure-reach s (place m x) u h =
      without-constant (same_name m u.of_name) (selects_are_constant s x) (may_mean s (s m) x u.word u.place) h
  sure-reach s (joined ts) u h = one-sure-reach s ts u h

  one-sure-reach : (s : Scope) (ts : Targets) (u : Bit) → IsTrue (is_in (one_surely_reaches s ts) u) → IsTrue (may_reach_one s ts u.of_name u.word u.place)
  one-sure-reach s no_targets u h = absurd (false≢true h)
  one-sure-reach s (target t ts) u h =
      or-true (may_reach s t u.of_name u.word u.place) (may_reach_one s ts u.of_name u.word u.place)
      (two (sure-reach s t u) (one-sure-reach s ts u) (or_cases (is_in (surely_reaches s t) u) (is_in (one_surely_reaches s ts) u) h))

not-sure : (s : Scope) (t : Target) (u : Bit) → may_reach s t u.of_name u.word u.place ≡ false → IsTrue (not (is_in (surely_reaches s t) u))
not-sure s t u h =
    not_from_false (is_in (surely_reaches s t) u) (false_from_ne_true (is_in (surely_reaches s t) u) (λ g. false≢true (sym h ∙ sure-reach s t u g)))

assignment-as-before : (s : Scope) (b : Dependences) (t : Target) (e : Expression) (u y : Bit) → may_reach s t u.of_name u.word u.place ≡ false
    → AfterAssignment s b t e u y → b u y
assignment-as-before s b t e u y h (kept n g) = g
assignment-as-before s b t e u y h (given x (copied_to j p l k c) g) = absurd (false≢true (sym h ∙ takes_reach s t u j k))
assignment-as-before s b t e u y h (given x (computed p r k) g) = absurd (false≢true (sym h ∙ r))
assignment-as-before s b t e u y h (indexed g) = absurd (false≢true (sym h ∙ index-reach s t u g.0 g.1))

otherwise : (P Q R : Type 0) (t : Bool) → t ≡ false → AfterChoice t P Q R → R
otherwise P Q R true h g = absurd (false≢true (sym h))
otherwise P Q R false h g = g

as-otherwise : (P Q R : Type 0) (t : Bool) → t ≡ false → R → AfterChoice t P Q R
as-otherwise P Q R true h g = absurd (false≢true (sym h))
as-otherwise P Q R false h g = g

mutual
  -- A bit that the statement may not assign is as it was before.
  pub as-before : (s : Scope) (b : Dependences) (x : Statement) (u y : Bit) → may_assign s x u.of_name u.word u.place ≡ false → After s b x u y → b u y
  as-before s b empty u y h g = g
  as-before s b (blocking t e) u y h g = assignment-as-before s b t e u y h g
  as-before s b (nonblocking t e) u y h g = g
  as-before s b (if_then c x) u y h g = otherwise _ _ _ (may_assign s x u.of_name u.word u.place) h g
  as-before s b (if_else c x w) u y h g = otherwise _ _ _ (may_assign s x u.of_name u.word u.place || may_assign s w u.of_name u.word u.place) h g
  as-before s b (case kind e items) u y h g = otherwise _ _ _ (may_assign_in_case s items u.of_name u.word u.place) h g
  as-before s b (block n xs) u y h g = all-as-before s b xs u y h g

  pub all-as-before : (s : Scope) (b : Dependences) (xs : Statements) (u y : Bit) → may_assign_in_all s xs u.of_name u.word u.place ≡ false
      → AfterAll s b xs u y → b u y
  all-as-before s b no_statements u y h g = g
  all-as-before s b (statement x xs) u y h g =
      let p = or_parts (may_assign s x u.of_name u.word u.place) (may_assign_in_all s xs u.of_name u.word u.place) h in
      as-before s b x u y p.0 (all-as-before s (After s b x) xs u y p.1 g)

mutual
  pub still-before : (s : Scope) (b : Dependences) (x : Statement) (u y : Bit) → may_assign s x u.of_name u.word u.place ≡ false → b u y → After s b x u y
  still-before s b empty u y h g = g
  still-before s b (blocking t e) u y h g = kept (not-sure s t u h) g
  still-before s b (nonblocking t e) u y h g = g
  still-before s b (if_then c x) u y h g = as-otherwise _ _ _ (may_assign s x u.of_name u.word u.place) h g
  still-before s b (if_else c x w) u y h g = as-otherwise _ _ _ (may_assign s x u.of_name u.word u.place || may_assign s w u.of_name u.word u.place) h g
  still-before s b (case kind e items) u y h g = as-otherwise _ _ _ (may_assign_in_case s items u.of_name u.word u.place) h g
  still-before s b (block n xs) u y h g = all-still-before s b xs u y h g

  pub all-still-before : (s : Scope) (b : Dependences) (xs : Statements) (u y : Bit) → may_assign_in_all s xs u.of_name u.word u.place ≡ false
      → b u y → AfterAll s b xs u y
  all-still-before s b no_statements u y h g = g
  all-still-before s b (statement x xs) u y h g =
      let p = or_parts (may_assign s x u.of_name u.word u.place) (may_assign_in_all s xs u.of_name u.word u.place) h in
      all-still-before s (After s b x) xs u y p.1 (still-before s b x u y p.0 g)

pub arms-as-before : (s : Scope) (b : Dependences) (items : CaseItems) (u y : Bit) → may_assign_in_case s items u.of_name u.word u.place ≡ false
    → AfterArms s b items u y → b u y
arms-as-before s b no_items u y h g = absurd g
arms-as-before s b (arm es x items) u y h (inl g) =
    as-before s b x u y (or_parts (may_assign s x u.of_name u.word u.place) (may_assign_in_case s items u.of_name u.word u.place) h).0 g
arms-as-before s b (arm es x items) u y h (inr g) =
    arms-as-before s b items u y (or_parts (may_assign s x u.of_name u.word u.place) (may_assign_in_case s items u.of_name u.word u.place) h).1 g
arms-as-before s b (default_arm x items) u y h (inl g) =
    as-before s b x u y (or_parts (may_assign s x u.of_name u.word u.place) (may_assign_in_case s items u.of_name u.word u.place) h).0 g
arms-as-before s b (default_arm x items) u y h (inr g) =
    arms-as-before s b items u y (or_parts (may_assign s x u.of_name u.word u.place) (may_assign_in_case s items u.of_name u.word u.place) h).1 g
