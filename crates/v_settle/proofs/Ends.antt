-- Where the turns begin, and what they end with.
use Rattle.std.proofs.Common.{◌≡◌, ◌∙◌, ◌≤◌, ◌*◌, ℕ, zero, suc, refl, sym, subst, arith, Bool, true, false, List, length, ◌⊎◌, inl, inr, Contains, Some}
use Rattle.std.specs.Prelude.{IsTrue, ◌↔◌, not}
use Rattle.std.proofs.lemmas.Bool.{false≢true, true≢false, cases_Bool, false_from_ne_true, and_parts, and_from}
use Rattle.wb_values.specs.Value.{Name, Valuation}
use Rattle.verilog_trees.specs.Syntax.{Statement, Item}
use Rattle.verilog_meaning.specs.Expression.{Scope}
use Rattle.verilog_meaning.specs.Register.{is_bit_of, may_assign, one_may_assign}
use Rattle.verilog_meaning.specs.Settled.{IsValueOf}
use Rattle.verilog_unique.proofs.Descent.{IsAmong, among_contains}
use Rattle.verilog_unique.proofs.Values.{same_values}
use Rattle.verilog_designs.specs.Reads.{BitSet, no_bits}
use Rattle.verilog_designs.specs.Dependence.{Bit, is_in}
use Rattle.v_value.specs.Narrow.{HasNarrowObjects}
use Rattle.wb_terms.specs.Graph.{Graph}
use Rattle.v_lower.specs.Lowered.{Images, HasImages, StandsFor}
use Rattle.v_flow.specs.declared.span.Span.{Span}
use Rattle.v_flow.specs.Spans.{bits_in, existing}
use Rattle.v_masks.specs.Masks.{spread}
use Rattle.v_paths.specs.Premises.{HasNoMemory}
use Rattle.v_depend.specs.Resting.{IsThere, OneIsUnsettled, at_first, RestsAfter}
use Rattle.v_order.specs.Drivers.{drivers}
use Rattle.v_loops.specs.OneModule.{HasLoopIn}
use Rattle.v_loops.specs.Turns.{Stage, IsStage}
use Rattle.v_settle.specs.OneModule.{is_driven, IsSettledFrom, IsEvaluated, IsEvaluable}
use Rattle.v_settle.specs.Turns.{State, state_of, IsOpen, IsSettledBut, IsUnderWay, IsLast}
use Rattle.v_settle.proofs.Apart.{as-before}
use Rattle.v_settle.proofs.Given.{spread-there, there-spread, stage-driven}
use Rattle.v_settle.proofs.Chains.{first-step, loop-from}
use Rattle.v_settle.proofs.Covered.{all-bits, length-all, covers-all}
use Rattle.v_loops.proofs.Listed.{fit-driver, by-driver, one-assigns, assigned-by, first-stage, stage-assigned}
use Rattle.v_settle.proofs.Listed.{driven-by}
use Rattle.v_settle.specs.Copies.{IsWithin}
use Rattle.v_settle.proofs.Copying.{stands-within}
use Rattle.v_settle.proofs.Step.{some-same}

-- ---- bits that are driven

module _ (s : Scope) (items : List Item) (ready : IsEvaluable s items) (d : BitSet) (is_d : d ≡ existing s (one_may_assign s (drivers items))) where
  -- a driver that may assign a bit that there is
  record IsDrivenBy (u : Bit) : Type 0 where
    pub there : IsThere s u
    pub driver : Statement
    pub stands : IsAmong (drivers items) driver
    pub assigns : may_assign s driver u.of_name u.word u.place ≡ true

  in-driven : (u : Bit) → is_in d u ≡ true → IsDrivenBy u
  in-driven u h =
      let both = and_parts (is_bit_of (s u.of_name) u.word u.place) (one_may_assign s (drivers items) u.of_name u.word u.place) (subst (λ (q : BitSet). is_in q u ≡ true) is_d h) in
      let o = one-assigns s (drivers items) u.of_name u.word u.place both.1 in
      record { there = both.0; driver = o.0; stands = o.1; assigns = o.2 }

  pub driven-in : (x : Statement) (u : Bit) → IsAmong (drivers items) x → IsThere s u → may_assign s x u.of_name u.word u.place ≡ true → is_in d u ≡ true
  driven-in x u h there m =
      subst (λ (q : BitSet). is_in q u ≡ true) (sym is_d)
      (and_from (is_bit_of (s u.of_name) u.word u.place) (one_may_assign s (drivers items) u.of_name u.word u.place) there
      (assigned-by s (drivers items) x u.of_name u.word u.place h m))

  pub driven-free : HasNoMemory s d
  driven-free n k b m = false_from_ne_true (d n k b) (λ h. at (in-driven (record { of_name = n; word = k; place = b }) h))
    where
      at : IsDrivenBy (record { of_name = n; word = k; place = b }) → ⊥
      at h =
          true≢false
          (sym (and_from (is_bit_of (s n) k b) (may_assign s h.driver n k b) h.there h.assigns)
          ∙ (fit-driver s items h.driver ready.runnable h.stands).plain n k b m)

  pub driven-stage : IsStage s items 0 d
  driven-stage u = ((λ h. let i = in-driven u h in first-stage s items i.driver u i.stands i.there i.assigns), (λ h. let g = stage-assigned s items u h in driven-in g.0 u g.1 g.2 g.3))

  -- ---- the beginning

  module _ (a n : Images) (g : Graph) (p : BitSet) (is_p : p ≡ spread d) (known : HasImages s a g) (known_spare : HasImages s n g) (within : IsWithin n a) where
    -- what is given from outside, and the state before the first driver
    abbrev start : State
    start = state_of a a g no_bits

    abbrev first : State
    first = state_of a n g p

    driven-unsettled : (u : Bit) → IsThere s u → is_in d u ≡ true → is_in p u ≡ true
    driven-unsettled u there h = subst (λ (q : BitSet). is_in q u ≡ true) (sym is_p) (there-spread s d u driven-free there h)

    unsettled-driven : (u : Bit) → IsThere s u → is_in p u ≡ true → is_in d u ≡ true
    unsettled-driven u there h = spread-there s d u driven-free there (subst (λ (q : BitSet). is_in q u ≡ true) is_p h)

    pub first-open : IsOpen s first
    first-open =
        record {
          known = known;
          known_spare = known_spare;
          plain = subst (HasNoMemory s) (sym is_p) (λ m k b h. driven-free m 0 b h);
        }

    outside : (p2 u v : Valuation) → StandsFor s a g p2 u → IsSettledFrom s items a u v → IsSettledBut s first p2 v
    outside p2 u v st h =
        record {
          valuation = u;
          stands = record { names = st; others = u; spares = stands-within s n a g p2 u within st };
          same = λ y there e. sym (h.given y.of_name y.word y.place there (undriven y there e));
        }
      where
        undriven : (y : Bit) → IsThere s y → is_in p y ≡ false → is_driven s items y.of_name y.word y.place ≡ false
        undriven y there e =
            false_from_ne_true (is_driven s items y.of_name y.word y.place) (λ m.
            let x = driven-by s items y.of_name y.word y.place m in
            true≢false (sym (driven-unsettled y there (driven-in x.0 y x.1 there x.2)) ∙ e))

    keeps-at-first : (x : Statement) (u : Bit) → Contains (drivers items) x → IsThere s u → RestsAfter p s x u → IsTrue (is_in p u)
    keeps-at-first x u c there r = at (cases_Bool (may_assign s x u.of_name u.word u.place))
      where
        at : (may_assign s x u.of_name u.word u.place ≡ true) ⊎ (may_assign s x u.of_name u.word u.place ≡ false) → IsTrue (is_in p u)
        at (inl m) = driven-unsettled u there (driven-in x u (among_contains (drivers items) x c) there m)
        at (inr m) = as-before s (at_first p) x u u m r

    pub begun : IsUnderWay s items start first 0
    begun =
        record {
          opens = first-open;
          names = λ m. refl;
          settled = outside;
          keeps = keeps-at-first;
          loops = λ u h.
              let f = first-step s items u u h in
              let b = by-driver s items u f.0 f.1 in
              driven-unsettled u b.there (driven-in b.driver u b.stands b.there b.assigns);
          chains = λ u there h.
              let i = in-driven u (unsettled-driven u there h) in
              first-stage s items i.driver u i.stands there i.assigns;
        }

    -- ---- the end

    module _ (objects : HasNarrowObjects s) (spans : List Span) (is_spans : bits_in spans ≡ d) (now : State) (j : ℕ) (way : IsUnderWay s items start now j) (left : Bool)
        (found : IsTrue left ↔ OneIsUnsettled now.unsettled d) where
      -- an unsettled bit is driven, so it is found
      is-found : (u : Bit) → IsThere s u → IsTrue (is_in now.unsettled u) → IsTrue left
      is-found u there h =
          let g = stage-assigned s items u (stage-driven s items j u (way.chains u there h)) in
          found.1 (u, driven-in g.0 u g.1 there g.3, h)

      nothing-left : left ≡ false → (u : Bit) → IsThere s u → is_in now.unsettled u ≡ false
      nothing-left e u there = false_from_ne_true (is_in now.unsettled u) (λ h. true≢false (sym (is-found u there h) ∙ e))

      covers : (k : ℕ) (u : Bit) → Stage s items k u → IsAmong (all-bits spans) u
      covers =
          let q : HasNoMemory s (bits_in spans) = subst (HasNoMemory s) (sym is_spans) driven-free in
          let r : IsStage s items 0 (bits_in spans) = subst (IsStage s items 0) (sym is_spans) driven-stage in
          covers-all s items spans objects q r

      -- chains as long as one likes
      far : IsLast s items now.unsettled → (k : ℕ) (u : Bit) → IsThere s u → IsTrue (is_in now.unsettled u) → Stage s items k u
      far last zero u there h = stage-driven s items j u (way.chains u there h)
      far last (suc k) u there h = let o = last u there h in (o.0, o.3, far last k o.0 o.1 o.2)

      loop-of : (k : ℕ) (u : Bit) → length spans * 128 ≤ k → Stage s items k u → HasLoopIn s items
      loop-of k u l h = let c = length-all spans in loop-from s items (all-bits spans) covers k (omega (arith, c, l)) u h

      abbrev IsEnd : Type 0
      IsEnd = IsLast s items now.unsettled ⊎ (length spans * 128 ≤ j)

      loop-left : IsEnd → IsTrue left → HasLoopIn s items
      loop-left end h = at end
        where
          o : OneIsUnsettled now.unsettled d
          o = found.0 h

          there : IsThere s o.0
          there = (in-driven o.0 o.1).there

          at : IsEnd → HasLoopIn s items
          at (inl last) = loop-of (length spans * 128) o.0 (omega arith) (far last (length spans * 128) o.0 there o.2)
          at (inr l) = loop-of j o.0 l (way.chains o.0 there o.2)

      left-loop : HasLoopIn s items → IsTrue left
      left-loop h = let f = first-step s items h.bit h.bit h.loops in is-found h.bit (by-driver s items h.bit f.0 f.1).there (way.loops h.bit h.loops)

      pub answered-loops : IsEnd → IsTrue (not left) ↔ ¬ HasLoopIn s items
      answered-loops end = ((λ h l. both-ways left h (left-loop l)), (λ f. other left (λ h. f (loop-left end h))))
        where
          both-ways : (t : Bool) → not t ≡ true → t ≡ true → ⊥
          both-ways true e k = false≢true e
          both-ways false e k = false≢true k

          other : (t : Bool) → (t ≡ true → ⊥) → not t ≡ true
          other true k = absurd (k refl)
          other false k = refl

      pub answered-settled : not left ≡ true → IsEvaluated s items a g now.images now.graph
      answered-settled e =
          record {
            known = way.opens.known;
            names = way.names;
            stands = λ q u v st h. stands-then q u v st h;
          }
        where
          is-false : (t : Bool) → not t ≡ true → t ≡ false
          is-false false k = refl
          is-false true k = absurd (false≢true k)

          none : (u : Bit) → IsThere s u → is_in now.unsettled u ≡ false
          none = nothing-left (is-false left e)

          value : (q u v : Valuation) (h : IsSettledFrom s items a u v) (b : IsSettledBut s now q v) (m : Name) (id : ℕ) → now.images m ≡ Some id → IsValueOf (s m) (v m)
              → b.valuation m ≡ v m
          value q u v h b m id i f =
              same_values (s m) (b.valuation m) (v m) (b.stands.names.fits m id i) f
              (λ k c is_bit. b.same (record { of_name = m; word = k; place = c }) is_bit (none (record { of_name = m; word = k; place = c }) is_bit))

          fits-now : (q u v : Valuation) → IsSettledFrom s items a u v → (m : Name) (id : ℕ) → now.images m ≡ Some id → IsValueOf (s m) (v m)
          fits-now q u v h m id i = let r = some-same a now.images m id way.names i in h.fits m r.0 r.1

          stands-then : (q u v : Valuation) → StandsFor s a g q u → IsSettledFrom s items a u v → StandsFor s now.images now.graph q v
          stands-then q u v st h =
              let b = way.settled q u v st h in
              record {
                fits = λ m id i. fits-now q u v h m id i;
                same = λ m id i. b.stands.names.same m id i ∙ value q u v h b m id i (fits-now q u v h m id i);
              }
