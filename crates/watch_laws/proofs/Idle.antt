-- Idle cycles in runs cut to several lengths, and that a command which began before an idle cycle has ended before it.
use Rattle.std.proofs.Common.{◌≡◌, ◌≢◌, ℕ, zero, suc, ◌+◌, ◌<◌, ◌≤◌, ◌⊎◌, inl, inr, arith, subst, sym, refl, ap, ◌∙◌}
use Rattle.wb_values.specs.Value.{Valuation}
use Rattle.model_meaning.specs.Model.{Model}
use Rattle.model_meaning.specs.Instruction.{IsStarted}
use Rattle.refinement.specs.Map.{Setting}
use Rattle.refinement.specs.Run.{Run}
use Rattle.refinement.specs.Refinement.{StartsAt, CommitsAt, IsCommandOf, EndsAt, IsIdle, HasState}

pub compared : (m n : ℕ) → (m < n) ⊎ ((n < m) ⊎ (m ≡ n))
compared m n = grind arith

-- only one instruction is that of a command
pub one_command : (m : Model) (q w : Valuation) (j k : ℕ) → IsStarted m q w j → IsStarted m q w k → j ≡ k
one_command m q w j k a b =
    let cases : (j ≡ k) ⊎ (k ≢ j) = grind arith in
    elim cases [
      | inl e ↦ e
      | inr n ↦ absurd (a.alone.no_other k b.alone.i b.alone.is_j n b.alone.decoded)
    ]

module _ (s : Setting) (run : Run) where
  -- ---- idle cycles

  pub after_reset : (cycles n t : ℕ) → IsIdle s run cycles n t → s.map.reset_cycles ≤ t
  after_reset cycles n t (IsIdle.after_reset h) = omega arith
  after_reset cycles n t (IsIdle.after_idle {n = m} {t = u} h low quiet) =
      let l : s.map.reset_cycles ≤ u = after_reset cycles m u h in omega (arith, l)
  after_reset cycles n t (IsIdle.after_command {n = m} {t = u} j c h starts is end low) =
      let l : s.map.reset_cycles ≤ u = after_reset cycles m u h in
      let f : u ≤ c = end.from in
      omega (arith, l, f)

  pub idle_within : (cycles n t : ℕ) → IsIdle s run cycles n t → t ≤ cycles
  idle_within cycles n t (IsIdle.after_reset h) = h
  idle_within cycles n t (IsIdle.after_idle h low quiet) = omega (arith, low)
  idle_within cycles n t (IsIdle.after_command j c h starts is end low) = omega (arith, low)

  -- what is idle in a run is idle in each cut of it that is long enough
  pub cut : (cycles p n t : ℕ) → t ≤ p → IsIdle s run cycles n t → IsIdle s run p n t
  cut cycles p n t le (IsIdle.after_reset h) = IsIdle.after_reset le
  cut cycles p n t le (IsIdle.after_idle {n = m} {t = u} h low quiet) =
      IsIdle.after_idle (cut cycles p m u (omega (arith, le)) h) (omega (arith, le)) quiet
  cut cycles p n t le (IsIdle.after_command {n = m} {t = u} j c h starts is end low) =
      let f : u ≤ c = end.from in
      IsIdle.after_command j c (cut cycles p m u (omega (arith, le, f)) h) starts is end (omega (arith, le))

  -- A command that began at b has ended before u.
  pub record HasEndedBefore (b u : ℕ) : Type 0 where
    pub j : ℕ
    pub last : ℕ
    pub is_command : IsCommandOf s run b j
    pub ends : EndsAt s run j b last
    pub before : last < u

  later : (b u v : ℕ) → u ≤ v → HasEndedBefore b u → HasEndedBefore b v
  later b u v le x =
      let l : x.last < u = x.before in
      record { j = x.j; last = x.last; is_command = x.is_command; ends = x.ends; before = omega (arith, l, le) }

  -- it is one command: what ended before its end did not end it
  pub not_inside : (t b j c : ℕ) → IsCommandOf s run t j → EndsAt s run j t c → b ≤ c → HasEndedBefore t b → ⊥
  not_inside t b j c is end le x =
      let same : x.j ≡ j = one_command s.model _ _ x.j j x.is_command is in
      let l : x.last < b = x.before in
      end.first x.last x.ends.from (omega (arith, l, le)) (subst (λ i. CommitsAt s run i x.last) same x.ends.commits)

  -- A start at an idle cycle before an idle one is that of a command that has ended before it.
  ended_by : (limit c d n m u b : ℕ) → u < limit → IsIdle s run c n u → IsIdle s run d m b → b < u → StartsAt s run b → HasEndedBefore b u
  ended_by zero c d n m u b small h g less starts = absurd (omega (arith, small))
  ended_by (suc limit) c d n m u b small (IsIdle.after_reset h) g less starts =
      let l : s.map.reset_cycles ≤ b = after_reset d m b g in absurd (omega (arith, l, less))
  ended_by (suc limit) c d n m u b small (IsIdle.after_idle {n = k} {t = t} h low quiet) g less starts = elim (compared b t) [
    | inl before ↦ later b t (suc t) (omega arith) (ended_by limit c d k m t b (omega (arith, small)) h g before starts)
    | inr (inl after) ↦ absurd (omega (arith, less, after))
    | inr (inr same) ↦ absurd (quiet (subst (λ x. StartsAt s run x) same starts))
  ]
  ended_by (suc limit) c d n m u b small (IsIdle.after_command {n = k} {t = t} j last h begins is end low) g less starts = elim (compared b t) [
    | inl before ↦
        let f : t ≤ last = end.from in
        later b t (suc last) (omega (arith, f)) (ended_by limit c d k m t b (omega (arith, small, f)) h g before starts)
    | inr (inl after) ↦
        absurd (not_inside t b j last is end (omega (arith, less)) (ended_by limit d c m k b t (omega (arith, small, less)) g h after begins))
    | inr (inr same) ↦
        subst (λ x. HasEndedBefore x (suc last)) (sym same) (record { j = j; last = last; is_command = is; ends = end; before = omega arith })
  ]

  pub ended_before : (c d n m u b : ℕ) → IsIdle s run c n u → IsIdle s run d m b → b < u → StartsAt s run b → HasEndedBefore b u
  ended_before c d n m u b h g less starts = ended_by (suc u) c d n m u b (omega arith) h g less starts

  -- no cycle inside a command is idle
  pub not_idle : (c d n m u b j : ℕ) → IsIdle s run c n u → IsIdle s run d m b → b < u → StartsAt s run b → IsCommandOf s run b j
      → ((x : ℕ) → b ≤ x → x < u → ¬ CommitsAt s run j x) → ⊥
  not_idle c d n m u b j h g less starts is open_to =
      let x = ended_before c d n m u b h g less starts in
      let same : x.j ≡ j = one_command s.model _ _ x.j j x.is_command is in
      open_to x.last x.ends.from x.before (subst (λ i. CommitsAt s run i x.last) same x.ends.commits)

  -- ---- idle cycles with the model's state

  pub idle_of : (cycles n t : ℕ) (q : Valuation) → HasState s run cycles n q t → IsIdle s run cycles n t
  idle_of cycles n t q (HasState.after_reset h) = IsIdle.after_reset h
  idle_of cycles n t q (HasState.after_idle {n = m} {t = u} {q = p} h low quiet) = IsIdle.after_idle (idle_of cycles m u p h) low quiet
  idle_of cycles n t q (HasState.after_command {n = m} {t = u} {q = p} j c r h starts is end low does) =
      IsIdle.after_command j c (idle_of cycles m u p h) starts is end low

  pub state_cut : (cycles p n t : ℕ) (q : Valuation) → t ≤ p → HasState s run cycles n q t → HasState s run p n q t
  state_cut cycles p n t q le (HasState.after_reset h) = HasState.after_reset le
  state_cut cycles p n t q le (HasState.after_idle {n = m} {t = u} {q = x} h low quiet) =
      HasState.after_idle (state_cut cycles p m u x (omega (arith, le)) h) (omega (arith, le)) quiet
  state_cut cycles p n t q le (HasState.after_command {n = m} {t = u} {q = x} j c r h starts is end low does) =
      let f : u ≤ c = end.from in
      HasState.after_command j c r (state_cut cycles p m u x (omega (arith, le, f)) h) starts is end (omega (arith, le)) does
