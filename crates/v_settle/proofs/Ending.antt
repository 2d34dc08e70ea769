-- Turns that go on, and that end.
use Rattle.std.proofs.Common.{◌≡◌, ◌∙◌, ◌+◌, ◌*◌, ℕ, suc, ap, sym, subst, arith, Bool, true, false, List}
use Rattle.std.specs.Prelude.{IsTrue, ◌↔◌}
use Rattle.std.proofs.lemmas.Bool.{false≢true, true≢false, and_from}
use Rattle.wb_values.specs.Value.{Name}
use Rattle.verilog_trees.specs.Syntax.{Statement, Item}
use Rattle.verilog_meaning.specs.Expression.{Scope}
use Rattle.verilog_meaning.specs.Register.{one_may_assign}
use Rattle.verilog_designs.specs.Reads.{BitSet, and_in}
use Rattle.verilog_designs.specs.Dependence.{Bit, is_in}
use Rattle.verilog_unique.proofs.Descent.{IsAmong, contains_among, among_contains}
use Rattle.v_value.specs.Narrow.{HasNarrowObjects}
use Rattle.v_flow.specs.Spans.{existing}
use Rattle.v_depend.specs.Resting.{IsThere, OneIsUnsettled}
use Rattle.v_order.specs.Drivers.{drivers}
use Rattle.v_settle.specs.OneModule.{IsEvaluable}
use Rattle.v_settle.specs.Turns.{State, IsUnderWay, AreVisited, HasVisits, IsLast, IsFurther}
use Rattle.v_settle.proofs.Given.{stage-driven}
use Rattle.v_loops.proofs.Listed.{stage-assigned}
use Rattle.v_settle.proofs.Step.{RestsWhereItDepends}
use Rattle.v_settle.proofs.Rounds.{visits-way, IsTurned, turned-once}
use Rattle.v_settle.proofs.Ends.{driven-in}

-- Turns lead from one state to another.
abbrev pub IsOnward : Scope → List Item → (before now : State) → ℕ → Type 0
IsOnward s items before now i = (start : State) (k : ℕ) → IsUnderWay s items start before k → IsUnderWay s items start now (i + k)

module _ (s : Scope) (items : List Item) (before : State) where
  pub none-onward : IsOnward s items before before 0
  none-onward start k w = let e : k ≡ 0 + k = omega arith in subst (λ (j : ℕ). IsUnderWay s items start before j) e w

  pub ended-onward : (i : ℕ) (now : State) → i ≡ 128 → IsOnward s items before now i → (start : State) (k : ℕ) → IsUnderWay s items start before k
      → IsFurther false s items 128 start now k
  ended-onward i now e f start k w = record { turns_made = i + k; way = f start k w; ends = ap (λ j. j + k) e }

  module _ (objects : HasNarrowObjects s) (ready : IsEvaluable s items) (law : RestsWhereItDepends) (d : BitSet) (is_d : d ≡ existing s (one_may_assign s (drivers items))) where
    -- drivers were visited in some order
    pub pass-onward : (xs : List Statement) (i : ℕ) (now next : State) → xs ≡ drivers items → IsOnward s items before now i → HasVisits s xs now next → IsOnward s items before next i
    pass-onward xs i now next e f h start k w =
        visits-way s items objects ready law start h.0 now next (i + k)
        (λ x m. subst (λ (ys : List Statement). IsAmong ys x) e (among_contains xs x (h.1 x (contains_among h.0 x m)))) (f start k w) h.2

    -- an unsettled bit is one of the driven ones
    among-driven : (start now : State) (k : ℕ) → IsUnderWay s items start now k → (u : Bit) → IsThere s u → IsTrue (is_in now.unsettled u) → is_in d u ≡ true
    among-driven start now k way u there h =
        let g = stage-assigned s items u (stage-driven s items k u (way.chains u there h)) in
        driven-in s items ready d is_d g.0 u g.1 there g.3

    -- nothing is left
    pub nothing-onward : (i : ℕ) (now : State) (some : Bool) → IsOnward s items before now i → IsTrue some ↔ OneIsUnsettled now.unsettled d → some ≡ false
        → (start : State) (k : ℕ) → IsUnderWay s items start before k → IsFurther true s items 128 start now k
    nothing-onward i now some f met none start k w =
        record {
          turns_made = i + k;
          way = f start k w;
          ends = λ u there h. absurd (true≢false (sym (met.1 (u, among-driven start now (i + k) (f start k w) u there h, h)) ∙ none));
        }

    module _ (i : ℕ) (now next : State) (f : IsOnward s items before now i) (turned : AreVisited s (drivers items) now next) where
      one-turn : (start : State) (k : ℕ) → IsUnderWay s items start before k → IsTurned s items objects ready law start now next (i + k)
      one-turn start k w = turned-once s items objects ready law start now next (i + k) (f start k w) turned

      one-more : (start : State) (k : ℕ) → IsUnderWay s items start next (suc (i + k)) → IsUnderWay s items start next (i + 1 + k)
      one-more start k h = let e : suc (i + k) ≡ i + 1 + k = omega arith in subst (λ (j : ℕ). IsUnderWay s items start next j) e h

      pub turn-onward : IsOnward s items before next (i + 1)
      turn-onward start k w = one-more start k (one-turn start k w).way

      -- the turn settled nothing
      pub last-onward : (was : BitSet) (more : Bool) → was ≡ and_in d now.unsettled → (more ≡ false → (n : Name) (k b : ℕ) → was n k b ≡ true → next.unsettled n k b ≡ true)
          → more ≡ false → (start : State) (k : ℕ) → IsUnderWay s items start before k → IsFurther true s items 128 start next k
      last-onward was more is_was has none start k w =
          record { turns_made = suc (i + k); way = t.way; ends = last }
        where
          t : IsTurned s items objects ready law start now next (i + k)
          t = one-turn start k w

          still : (u : Bit) → IsThere s u → IsTrue (is_in now.unsettled u) → IsTrue (is_in next.unsettled u)
          still u there h =
              has none u.of_name u.word u.place
              (subst (λ (z : BitSet). is_in z u ≡ true) (sym is_was)
              (and_from (is_in d u) (is_in now.unsettled u) (among-driven start now (i + k) (f start k w) u there h) h))

          last : IsLast s items next.unsettled
          last u there h = let o = t.rests u there h in (o.0, o.1, still o.0 o.1 o.2, o.3)

-- ---- 128 turns after 128 turns

module _ (s : Scope) (items : List Item) (start : State) where
  pub next-turns : (ended : Bool) (i : ℕ) (now : State) → ended ≡ false → IsFurther ended s items 128 start now (i * 128) → IsUnderWay s items start now ((i + 1) * 128)
  next-turns true i now e h = absurd (true≢false e)
  next-turns false i now e h =
      let same : h.turns_made ≡ (i + 1) * 128 = omega (arith, h.ends) in
      subst (λ (j : ℕ). IsUnderWay s items start now j) same h.way

  pub last-turn : (ended : Bool) (k : ℕ) (now : State) → ended ≡ true → IsFurther ended s items 128 start now k → (j : ℕ) × IsUnderWay s items start now j × IsLast s items now.unsettled
  last-turn false k now e h = absurd (false≢true e)
  last-turn true k now e h = (h.turns_made, h.way, h.ends)
