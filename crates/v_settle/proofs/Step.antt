-- What holds between drivers still holds after a further one.
use Rattle.std.proofs.Common.{◌≡◌, ◌∙◌, ◌<◌, ◌^◌, ℕ, refl, ap, sym, subst, true, false, List, ◌⊎◌, inl, inr, Contains, Option, Some, None, is_some}
use Rattle.std.specs.Prelude.{IsTrue, IfSome, ◌↔◌}
use Rattle.std.proofs.lemmas.Bool.{false≢true, true≢false, cases_Bool, false_from_ne_true}
use Rattle.wb_values.specs.Value.{Name, Valuation}
use Rattle.verilog_trees.specs.Syntax.{Statement, Item}
use Rattle.verilog_meaning.specs.Expression.{Scope, object_width}
use Rattle.verilog_meaning.specs.Statement.{run}
use Rattle.verilog_meaning.specs.Register.{may_assign, value_bit}
use Rattle.verilog_meaning.specs.Settled.{IsValueOf, HasRun}
use Rattle.verilog_settled.specs.Locality.{IsSame, DifferAt, Fits, AllFit}
use Rattle.verilog_unique.proofs.Descent.{IsAmong, contains_among, among_contains}
use Rattle.verilog_exists.proofs.Kept.{unassigned}
use Rattle.verilog_exists.proofs.Declared.{assigned_name}
use Rattle.verilog_designs.specs.Reads.{BitSet}
use Rattle.verilog_designs.specs.Dependence.{Bit, is_in, at_start, After}
use Rattle.v_value.specs.Narrow.{HasNarrowObjects}
use Rattle.v_lower.specs.Lowered.{Images}
use Rattle.v_write.specs.Written.{AreOfNames}
use Rattle.v_depend.specs.Resting.{IsThere, at_first, RestsAfter}
use Rattle.v_order.specs.Drivers.{drivers}
use Rattle.v_loops.specs.OneModule.{DependsIn, DependsFarIn}
use Rattle.v_settle.specs.OneModule.{IsEvaluable}
use Rattle.v_settle.specs.Turns.{State, IsOpen, Stands, IsRun, IsPassed, IsVisited, IsSettledBut, IsUnderWay}
use Rattle.v_settle.proofs.Apart.{as-before, still-before}
use Rattle.v_settle.proofs.Given.{after-there}
use Rattle.v_settle.proofs.Chains.{first-step, turned}
use Rattle.v_settle.proofs.Known.{IsNamed}
use Rattle.v_settle.proofs.Local.{kind, may-assign, driver-is-local}
use Rattle.v_settle.proofs.Placed.{is-some-id, no-number}
use Rattle.v_loops.proofs.Listed.{IsBy, by-driver}
use Rattle.v_settle.proofs.Listed.{driver-runs}

-- the law on what rests after a statement
abbrev pub RestsWhereItDepends : Type 0
RestsWhereItDepends =
    (unsettled : BitSet) (s : Scope) (x : Statement) (u : Bit) → IsThere s u
    → RestsAfter unsettled s x u ↔ (y : Bit) × IsTrue (is_in unsettled y) × After s at_start x u y

-- ---- names that have terms

some-or-none : (o : Option ℕ) → ((id : ℕ) × (o ≡ Some id)) ⊎ (is_some o ≡ false)
some-or-none (Some id) = inl (id, refl)
some-or-none None = inr refl

-- a name that may be assigned has a term
term-of : (s : Scope) (a : State) (n : Name) → IsOpen s a → IsNamed s n → (s n).constant ≡ None → (id : ℕ) × (a.images n ≡ Some id)
term-of s a n o h e = is-some-id (a.images n) (o.known.some n h (no-number (s n) e))

-- images of the same names
same-some : (a b : Images) (n : Name) (id : ℕ) → AreOfNames a b → a n ≡ Some id → (k : ℕ) × (b n ≡ Some k)
same-some a b n id f e = is-some-id (b n) (f n ∙ ap is_some e)

pub some-same : (a b : Images) (n : Name) (id : ℕ) → AreOfNames a b → b n ≡ Some id → (k : ℕ) × (a n ≡ Some k)
some-same a b n id f e = is-some-id (a n) (sym (f n) ∙ ap is_some e)

-- ---- values that fit

fits-by : (c : Option ℕ) (s : Scope) (n : Name) (v : Valuation) → (s n).constant ≡ c → HasNarrowObjects s
    → ((s n).constant ≡ None → IsValueOf (s n) (v n)) → Fits c (s n) (v n)
fits-by (Some k) s n v e o f = subst (λ (d : Option ℕ). IfSome d (λ c. c < 2 ^ object_width (s n))) e (o n).1
fits-by None s n v e o f = f e

module _ (s : Scope) (items : List Item) (objects : HasNarrowObjects s) (ready : IsEvaluable s items) (law : RestsWhereItDepends) (start : State) where
  -- each name that has a sort has a value, or is a parameter whose number fits
  all-fit : (a : State) (v : Valuation) → IsOpen s a → ((n : Name) (id : ℕ) → a.images n ≡ Some id → IsValueOf (s n) (v n)) → AllFit s (IsNamed s) v
  all-fit a v o f n h = fits-by (s n).constant s n v refl objects (λ e. let t = term-of s a n o h e in f n t.0 t.1)

  -- ---- what rests

  after-on : (p : BitSet) (x : Statement) (u y : Bit) → IsThere s u → is_in p y ≡ true → After s at_start x u y → RestsAfter p s x u
  after-on p x u y there m a = (law p s x u there).1 (y, m, a)

  rests-less : (p q : BitSet) (x : Statement) (u : Bit) → ((y : Bit) → IsThere s y → is_in q y ≡ true → is_in p y ≡ true) → IsThere s u → RestsAfter q s x u → RestsAfter p s x u
  rests-less p q x u f there r =
      let o = (law q s x u there).0 r in
      after-on p x u o.0 there (f o.0 (after-there s x u o.0 there o.2) o.1) o.2

  module _ (a b : State) (x : Statement) (stands : IsAmong (drivers items) x) (k : ℕ) (way : IsUnderWay s items start a k) (visited : IsVisited s x a b) where
    -- no bit becomes unsettled
    pub shrinks : (u : Bit) → IsThere s u → IsTrue (is_in b.unsettled u) → IsTrue (is_in a.unsettled u)
    shrinks u there h = at (cases_Bool (may_assign s x u.of_name u.word u.place))
      where
        at : (may_assign s x u.of_name u.word u.place ≡ true) ⊎ (may_assign s x u.of_name u.word u.place ≡ false) → IsTrue (is_in a.unsettled u)
        at (inl m) = way.keeps x u (contains_among (drivers items) x stands) there (visited.rests u there m h)
        at (inr m) = (visited.others u there m).0 h

    -- a bit that the driver may not assign stays as it is
    stays : (u : Bit) → IsThere s u → may_assign s x u.of_name u.word u.place ≡ false → IsTrue (is_in a.unsettled u) → IsTrue (is_in b.unsettled u)
    stays u there m h = (visited.others u there m).1 h

    -- a bit that rests after the driver is left unsettled
    is-left : (u : Bit) → IsThere s u → RestsAfter a.unsettled s x u → IsTrue (is_in b.unsettled u)
    is-left u there r = visited.left u there (way.keeps x u (contains_among (drivers items) x stands) there r) r

    -- what a settled bit depends on was settled
    settled-on : (u y : Bit) → IsThere s u → is_in b.unsettled u ≡ false → After s at_start x u y → is_in a.unsettled y ≡ false
    settled-on u y there h f =
        false_from_ne_true (is_in a.unsettled y) (λ m. true≢false (sym (is-left u there (after-on a.unsettled x u y there m f)) ∙ h))

    -- ---- bits that stay settled

    one-driver : (y : Statement) (u : Bit) → IsAmong (drivers items) y → IsThere s u → IsTrue (may_assign s y u.of_name u.word u.place)
        → IsTrue (may_assign s x u.of_name u.word u.place) → y ≡ x
    one-driver y u h there m n = ready.one_driver y x u there (contains_among (drivers items) y h) (contains_among (drivers items) x stands) m n

    keeps-after : (y : Statement) (u : Bit) → Contains (drivers items) y → IsThere s u → RestsAfter b.unsettled s y u → IsTrue (is_in b.unsettled u)
    keeps-after y u c there r = by-other (cases_Bool (may_assign s y u.of_name u.word u.place))
      where
        before : IsTrue (is_in a.unsettled u)
        before = way.keeps y u c there (rests-less a.unsettled b.unsettled y u shrinks there r)

        by-this : may_assign s y u.of_name u.word u.place ≡ true → (may_assign s x u.of_name u.word u.place ≡ true) ⊎ (may_assign s x u.of_name u.word u.place ≡ false)
            → IsTrue (is_in b.unsettled u)
        by-this m (inl n) =
            is-left u there
            (subst (λ (z : Statement). RestsAfter a.unsettled s z u) (one-driver y u (among_contains (drivers items) y c) there m n)
            (rests-less a.unsettled b.unsettled y u shrinks there r))
        by-this m (inr n) = stays u there n before

        by-other : (may_assign s y u.of_name u.word u.place ≡ true) ⊎ (may_assign s y u.of_name u.word u.place ≡ false) → IsTrue (is_in b.unsettled u)
        by-other (inl m) = by-this m (cases_Bool (may_assign s x u.of_name u.word u.place))
        by-other (inr m) = as-before s (at_first b.unsettled) y u u m r

    loops-after : (u : Bit) → DependsFarIn s items u u → IsTrue (is_in b.unsettled u)
    loops-after u h = at (cases_Bool (may_assign s x u.of_name u.word u.place))
      where
        next : (z : Bit) × DependsIn s items u z × ((z ≡ u) ⊎ DependsFarIn s items z u)
        next = first-step s items u u h

        by : IsBy s items u next.0
        by = by-driver s items u next.0 next.1

        unsettled : IsTrue (is_in a.unsettled next.0)
        unsettled = way.loops next.0 (turned s items u next.0 next.1 next.2)

        at : (may_assign s x u.of_name u.word u.place ≡ true) ⊎ (may_assign s x u.of_name u.word u.place ≡ false) → IsTrue (is_in b.unsettled u)
        at (inl m) =
            is-left u by.there
            (after-on a.unsettled x u next.0 by.there unsettled
            (subst (λ (z : Statement). After s at_start z u next.0) (one-driver by.driver u by.stands by.there by.assigns m) by.after))
        at (inr m) = stays u by.there m (way.loops u h)

    -- ---- values

    -- the driver leaves names without a term as they are
    elsewhere : (w : Valuation) (n : Name) → is_some (a.images n) ≡ false → (run s x w).valuation n ≡ w n
    elsewhere w n e =
        unassigned s x w n (λ h.
        let k = may-assign s objects x (kind s items x ready stands) n h in
        let t = term-of s a n way.opens k.0 k.1 in
        false≢true (sym e ∙ ap is_some t.1))

    unassigned-bit : (u : Bit) → is_some (a.images u.of_name) ≡ false → may_assign s x u.of_name u.word u.place ≡ false
    unassigned-bit u e =
        false_from_ne_true (may_assign s x u.of_name u.word u.place) (λ m.
        let k = may-assign s objects x (kind s items x ready stands) u.of_name (assigned_name s x u.of_name u.word u.place m) in
        let t = term-of s a u.of_name way.opens k.0 k.1 in
        false≢true (sym e ∙ ap is_some t.1))

    module _ (p v w : Valuation) (fits : (n : Name) (id : ℕ) → a.images n ≡ Some id → IsValueOf (s n) (v n)) (runs : HasRun s v x) (stood : Stands s a p w)
        (same : (u : Bit) → IsThere s u → is_in a.unsettled u ≡ false → IsSame w v u) where
      -- the environment stands for what a run leaves
      run-keeps : Stands s b p (run s x w).valuation → (n : Name) → IsValueOf (s n) (w n) → IsValueOf (s n) ((run s x w).valuation n)
      run-keeps st n h = at (some-or-none (a.images n))
        where
          at : ((id : ℕ) × (a.images n ≡ Some id)) ⊎ (is_some (a.images n) ≡ false) → IsValueOf (s n) ((run s x w).valuation n)
          at (inl t) = let q = same-some a.images b.images n t.0 visited.names t.1 in st.names.fits n q.0 q.1
          at (inr e) = subst (IsValueOf (s n)) (sym (elsewhere w n e)) h

      local : Stands s b p (run s x w).valuation → (u : Bit) (id : ℕ) → IsThere s u → a.images u.of_name ≡ Some id
          → IsSame (run s x w).valuation (run s x v).valuation u ⊎ DifferAt w v (After s at_start x u)
      local st u id there e =
          driver-is-local s objects ready.parameters w v (all-fit a w way.opens stood.names.fits) (all-fit a v way.opens fits) u (stood.names.fits u.of_name id e)
          (fits u.of_name id e) x (kind s items x ready stands) (run-keeps st) (λ n h. subst (IsValueOf (s n)) (sym (runs n)) h)

      run-same : Stands s b p (run s x w).valuation → (u : Bit) → IsThere s u → is_in b.unsettled u ≡ false → IsSame (run s x w).valuation v u
      run-same st u there h = at (some-or-none (a.images u.of_name))
        where
          over : IsSame (run s x w).valuation (run s x v).valuation u ⊎ DifferAt w v (After s at_start x u) → IsSame (run s x w).valuation v u
          over (inl e) = e ∙ ap (λ z. value_bit z u.word u.place) (runs u.of_name)
          over (inr d) = absurd (d.differs (same d.bit (after-there s x u d.bit there d.is_so) (settled-on u d.bit there h d.is_so)))

          at : ((id : ℕ) × (a.images u.of_name ≡ Some id)) ⊎ (is_some (a.images u.of_name) ≡ false) → IsSame (run s x w).valuation v u
          at (inl t) = over (local st u t.0 there t.1)
          at (inr e) =
              ap (λ z. value_bit z u.word u.place) (elsewhere w u.of_name e)
              ∙ same u there (settled-on u u there h (still-before s at_start x u u (unassigned-bit u e) refl))

      -- what is settled after a driver that settled nothing was settled before
      pass-same : IsPassed s x a b → (u : Bit) → IsThere s u → is_in b.unsettled u ≡ false → IsSame w v u
      pass-same passed u there h =
          same u there
          (false_from_ne_true (is_in a.unsettled u) (λ m. at m (cases_Bool (may_assign s x u.of_name u.word u.place))))
        where
          at : is_in a.unsettled u ≡ true → (may_assign s x u.of_name u.word u.place ≡ true) ⊎ (may_assign s x u.of_name u.word u.place ≡ false) → ⊥
          at m (inl n) = true≢false (sym (passed.lasts u there n m) ∙ h)
          at m (inr n) = true≢false (sym (stays u there n m) ∙ h)

      settled-by : IsRun s x a b ⊎ IsPassed s x a b → IsSettledBut s b p v
      settled-by (inl f) =
          let st = f p w stood in
          record { valuation = (run s x w).valuation; stands = st; same = run-same st }
      settled-by (inr f) = record { valuation = w; stands = f.stands p w stood; same = pass-same f }

    pub step : IsUnderWay s items start b k
    step =
        record {
          opens = visited.opens;
          names = λ n. visited.names n ∙ way.names n;
          settled = λ p u v st h.
              let m = way.settled p u v st h in
              settled-by p v m.valuation
              (λ n id e. let q = some-same start.images a.images n id way.names e in h.fits n q.0 q.1)
              (driver-runs s v items x h.assigned h.combinational stands) m.stands m.same visited.worth;
          keeps = keeps-after;
          loops = loops-after;
          chains = λ u there h. way.chains u there (shrinks u there h);
        }
