-- Idle cycles come one after the other, each determined by the one before: so each has one count and one state.
use Rattle.std.proofs.Common.{◌≡◌, ◌≢◌, ℕ, zero, suc, ◌<◌, ◌≤◌, ◌⊎◌, inl, inr, arith, subst, sym, refl, ap, ◌∙◌}
use Rattle.wb_values.specs.Value.{Valuation}
use Rattle.model_meaning.specs.Model.{Model}
use Rattle.model_meaning.specs.Instruction.{IsStarted, Steps}
use Rattle.refinement.specs.Map.{Setting}
use Rattle.refinement.specs.Run.{Run}
use Rattle.refinement.specs.Refinement.{state_at, inputs_at, StartsAt, IsCommandOf, EndsAt, IsIdle, HasState}
use Rattle.model_meaning.proofs.OneResult.{one_next_state}
use Rattle.wb_laws.specs.Runs.{IdleCycleHasOneCount, IdleCycleHasOneState}

-- Places one after the other.
module _ (P : Type 0) (Next : P → P → Type 0) where
  -- k steps lead from p to x
  pub Way : ℕ → P → P → Type 0
  Way zero p x = p ≡ x
  Way (suc k) p x = (y : P) × Next p y × Way k y x

  pub begun : (p : P) → Way zero p p
  unfolding Way
  begun p = refl

  pub further : (k : ℕ) (p x y : P) → Way k p x → Next x y → Way (suc k) p y
  unfolding Way
  further zero p x y w n = (y, subst (λ z. Next z y) (sym w) n, refl)
  further (suc k) p x y w n = (w.0, w.1, further k w.0 x y w.2 n)

-- Each is at a later cycle than the one before and determined by it.
module _ (P : Type 0) (Next : P → P → Type 0) (cycle : P → ℕ) (one : (p x y : P) → Next p x → Next p y → x ≡ y)
    (later : (p x : P) → Next p x → cycle p < cycle x) where
  not_before : (k : ℕ) (p x : P) → Way P Next k p x → cycle p ≤ cycle x
  unfolding Way
  not_before zero p x w = let e : cycle p ≡ cycle x = ap cycle w in omega (arith, e)
  not_before (suc k) p x w = let a : cycle p < cycle w.0 = later p w.0 w.1 in let b : cycle w.0 ≤ cycle x = not_before k w.0 x w.2 in omega (arith, a, b)

  strictly : (k : ℕ) (p x y : P) → p ≡ x → Way P Next (suc k) p y → cycle x ≡ cycle y → ⊥
  unfolding Way
  strictly k p x y e w same =
      let a : cycle p < cycle w.0 = later p w.0 w.1 in
      let b : cycle w.0 ≤ cycle y = not_before k w.0 y w.2 in
      let c : cycle p ≡ cycle x = ap cycle e in
      omega (arith, a, b, c, same)

  -- two ways from one place to one cycle end at one place
  pub same_place : (k l : ℕ) (p x y : P) → Way P Next k p x → Way P Next l p y → cycle x ≡ cycle y → x ≡ y
  unfolding Way
  same_place zero zero p x y v w same = sym v ∙ w
  same_place zero (suc l) p x y v w same = absurd (strictly l p x y v w same)
  same_place (suc k) zero p x y v w same = absurd (strictly k p y x w v (sym same))
  same_place (suc k) (suc l) p x y v w same =
      same_place k l w.0 x y (subst (λ z. Way P Next k z x) (one p v.0 w.0 v.1 w.1) v.2) w.2 same

-- only one instruction is that of a command
one_command : (m : Model) (q w : Valuation) (j k : ℕ) → IsStarted m q w j → IsStarted m q w k → j ≡ k
one_command m q w j k a b =
    let cases : (j ≡ k) ⊎ (k ≢ j) = grind arith in
    elim cases [
      | inl e ↦ e
      | inr n ↦ absurd (a.alone.no_other k b.alone.i b.alone.is_j n b.alone.decoded)
    ]

-- a command ends at one cycle
one_end : (s : Setting) (run : Run) (j t c d : ℕ) → EndsAt s run j t c → EndsAt s run j t d → c ≡ d
one_end s run j t c d a b =
    let cases : (c ≡ d) ⊎ ((c < d) ⊎ (d < c)) = grind arith in
    elim cases [
      | inl e ↦ e
      | inr (inl low) ↦ absurd (b.first c a.from low a.commits)
      | inr (inr low) ↦ absurd (a.first d b.from low b.commits)
    ]

module _ (s : Setting) (run : Run) (cycles : ℕ) where
  -- a cycle, and how many commands have ended before it
  record Count : Type 0 where
    count : ℕ
    at : ℕ

  -- the idle cycle that comes next
  NextCount : Count → Count → Type 0
  NextCount p x =
      (¬ StartsAt s run p.at × (x ≡ record { count = p.count; at = suc p.at }))
      ⊎ (StartsAt s run p.at × ((j : ℕ) × (c : ℕ) × IsCommandOf s run p.at j × EndsAt s run j p.at c
      × (x ≡ record { count = suc p.count; at = suc c })))

  one_count : (p x y : Count) → NextCount p x → NextCount p y → x ≡ y
  unfolding NextCount
  one_count p x y (inl a) (inl b) = a.1 ∙ sym b.1
  one_count p x y (inl a) (inr b) = absurd (a.0 b.0)
  one_count p x y (inr a) (inl b) = absurd (b.0 a.0)
  one_count p x y (inr a) (inr b) =
      let same : a.1.0 ≡ b.1.0 = one_command s.model (state_at s run p.at) (inputs_at s run p.at) a.1.0 b.1.0 a.1.2 b.1.2 in
      let end : a.1.1 ≡ b.1.1 =
      one_end s run b.1.0 p.at a.1.1 b.1.1 (subst (λ j. EndsAt s run j p.at a.1.1) same a.1.3) b.1.3 in
      a.1.4 ∙ (ap (λ c. record { count = suc p.count; at = suc c }) end ∙ sym b.1.4)

  later_count : (p x : Count) → NextCount p x → p.at < x.at
  unfolding NextCount
  later_count p x (inl a) = let e : x.at ≡ suc p.at = ap (λ z. z.at) a.1 in omega (arith, e)
  later_count p x (inr a) = let e : x.at ≡ suc a.1.1 = ap (λ z. z.at) a.1.4 in let f : p.at ≤ a.1.1 = a.1.3.from in omega (arith, e, f)

  start_count : Count
  start_count = record { count = 0; at = s.map.reset_cycles }

  -- the idle cycles from the one behind the reset on lead to each idle cycle
  counted : (n t : ℕ) → IsIdle s run cycles n t → (k : ℕ) × Way Count NextCount k start_count (record { count = n; at = t })
  unfolding NextCount start_count
  counted n t (IsIdle.after_reset h) = (0, begun Count NextCount start_count)
  counted n t (IsIdle.after_idle {n = m} {t = u} h low quiet) =
      let w = counted m u h in (
        suc w.0,
        further Count NextCount w.0 start_count (record { count = m; at = u }) (record { count = m; at = suc u }) w.1
            (inl (quiet, refl)),
      )
  counted n t (IsIdle.after_command {n = m} {t = u} j c h starts is_j end low) =
      let w = counted m u h in (
        suc w.0,
        further Count NextCount w.0 start_count (record { count = m; at = u }) (record { count = suc m; at = suc c }) w.1
            (inr (starts, (j, c, is_j, end, refl))),
      )

  -- a cycle, how many commands have ended before it, and the model's state
  record Place : Type 0 where
    count : ℕ
    state : Valuation
    at : ℕ

  NextPlace : Place → Place → Type 0
  NextPlace p x =
      (¬ StartsAt s run p.at × (x ≡ record { count = p.count; state = p.state; at = suc p.at }))
      ⊎ (StartsAt s run p.at × ((j : ℕ) × (c : ℕ) × (r : Valuation) × IsCommandOf s run p.at j × EndsAt s run j p.at c
      × Steps s.model p.state (inputs_at s run p.at) r × (x ≡ record { count = suc p.count; state = r; at = suc c })))

  one_place : (p x y : Place) → NextPlace p x → NextPlace p y → x ≡ y
  unfolding NextPlace
  one_place p x y (inl a) (inl b) = a.1 ∙ sym b.1
  one_place p x y (inl a) (inr b) = absurd (a.0 b.0)
  one_place p x y (inr a) (inl b) = absurd (b.0 a.0)
  one_place p x y (inr a) (inr b) =
      let same : a.1.0 ≡ b.1.0 = one_command s.model (state_at s run p.at) (inputs_at s run p.at) a.1.0 b.1.0 a.1.3 b.1.3 in
      let end : a.1.1 ≡ b.1.1 =
      one_end s run b.1.0 p.at a.1.1 b.1.1 (subst (λ j. EndsAt s run j p.at a.1.1) same a.1.4) b.1.4 in
      let becomes : a.1.2 ≡ b.1.2 = one_next_state s.model p.state (inputs_at s run p.at) a.1.2 b.1.2 a.1.5 b.1.5 in
      a.1.6
      ∙ (ap (λ c. record { count = suc p.count; state = a.1.2; at = suc c }) end
      ∙ (ap (λ r. record { count = suc p.count; state = r; at = suc b.1.1 }) becomes ∙ sym b.1.6))

  later_place : (p x : Place) → NextPlace p x → p.at < x.at
  unfolding NextPlace
  later_place p x (inl a) = let e : x.at ≡ suc p.at = ap (λ z. z.at) a.1 in omega (arith, e)
  later_place p x (inr a) = let e : x.at ≡ suc a.1.1 = ap (λ z. z.at) a.1.6 in let f : p.at ≤ a.1.1 = a.1.4.from in omega (arith, e, f)

  start_place : Place
  start_place = record { count = 0; state = state_at s run s.map.reset_cycles; at = s.map.reset_cycles }

  placed : (n t : ℕ) (q : Valuation) → HasState s run cycles n q t
      → (k : ℕ) × Way Place NextPlace k start_place (record { count = n; state = q; at = t })
  unfolding NextPlace start_place
  placed n t q (HasState.after_reset h) = (0, begun Place NextPlace start_place)
  placed n t q (HasState.after_idle {n = m} {t = u} {q = p} h low quiet) =
      let w = placed m u p h in (
        suc w.0,
        further Place NextPlace w.0 start_place (record { count = m; state = p; at = u })
            (record { count = m; state = p; at = suc u }) w.1 (inl (quiet, refl)),
      )
  placed n t q (HasState.after_command {n = m} {t = u} {q = p} j c r h starts is_j end low does) =
      let w = placed m u p h in (
        suc w.0,
        further Place NextPlace w.0 start_place (record { count = m; state = p; at = u })
            (record { count = suc m; state = r; at = suc c }) w.1 (inr (starts, (j, c, r, is_j, end, does, refl))),
      )

  same_count : (n m t : ℕ) → IsIdle s run cycles n t → IsIdle s run cycles m t → n ≡ m
  same_count n m t a b =
      let v = counted n t a in
      let w = counted m t b in
      ap (λ p. p.count) (same_place Count NextCount (λ p. p.at) one_count later_count v.0 w.0 start_count (record { count = n; at = t }) (record { count = m; at = t }) v.1 w.1 refl)

  same_state : (n m t : ℕ) (q r : Valuation) → HasState s run cycles n q t → HasState s run cycles m r t → (n ≡ m) × (q ≡ r)
  same_state n m t q r a b =
      let v = placed n t q a in
      let w = placed m t r b in
      let same = same_place Place NextPlace (λ p. p.at) one_place later_place v.0 w.0 start_place (record { count = n; state = q; at = t })
      (record { count = m; state = r; at = t }) v.1 w.1 refl in
      (ap (λ p. p.count) same, ap (λ p. p.state) same)

pub idle_count : IdleCycleHasOneCount
idle_count s run cycles n m t a b = same_count s run cycles n m t a b

pub idle_state : IdleCycleHasOneState
idle_state s run cycles n m t q r a b = same_state s run cycles n m t q r a b
