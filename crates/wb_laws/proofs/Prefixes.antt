-- What a run's refinement says of its first cycles, and of cycles under reset.
use Rattle.std.proofs.Common.{ℕ, zero, suc, ◌+◌, ◌<◌, ◌≤◌, ◌⊎◌, inl, inr, arith}
use Rattle.wb_values.specs.Value.{Valuation}
use Rattle.refinement.specs.Map.{Setting}
use Rattle.refinement.specs.Run.{Run}
use Rattle.refinement.specs.Refinement.{EndsAt, HasState, CommitsAt}
use Rattle.wb_laws.specs.Runs.{RunShorterThanTheResetRefines, PrefixRefines}

reset_within : (s : Setting) (run : Run) (cycles n t : ℕ) (q : Valuation) → HasState s run cycles n q t → s.map.reset_cycles ≤ cycles
reset_within s run cycles n t q (HasState.after_reset h) = h
reset_within s run cycles n t q (HasState.after_idle {n = k} {t = u} {q = p} h low quiet) = reset_within s run cycles k u p h
reset_within s run cycles n t q (HasState.after_command {n = k} {t = u} {q = p} j c r h starts is_j end low does) =
    reset_within s run cycles k u p h

pub under_reset : RunShorterThanTheResetRefines
under_reset s run cycles short = record {
  initial = λ h. absurd (never h);
  command = λ n t q h low starts. absurd (never (reset_within s run cycles n t q h));
  ended = λ n t j c q e h starts is_j entry end low. absurd (never (reset_within s run cycles n t q h));
  open_command = λ n t j q e h low starts is_j entry none. absurd (never (reset_within s run cycles n t q h));
  state = λ n t q h low. absurd (never (reset_within s run cycles n t q h));
}
  where
    never : s.map.reset_cycles ≤ cycles → ⊥
    never h = omega (arith, h, short)

-- what is idle in the first cycles is idle in the whole run, with the same state
longer : (s : Setting) (run : Run) (p cycles : ℕ) → p ≤ cycles → (n t : ℕ) (q : Valuation) → HasState s run p n q t
    → HasState s run cycles n q t
longer s run p cycles le n t q (HasState.after_reset h) = HasState.after_reset (omega (arith, h, le))
longer s run p cycles le n t q (HasState.after_idle {n = k} {t = u} {q = x} h low quiet) =
    HasState.after_idle (longer s run p cycles le k u x h) (omega (arith, low, le)) quiet
longer s run p cycles le n t q (HasState.after_command {n = k} {t = u} {q = x} j c r h starts is_j end low does) =
    HasState.after_command j c r (longer s run p cycles le k u x h) starts is_j end (omega (arith, low, le)) does

-- Where each end up to the last cycle comes before the bound, and no commit comes below p, a bound at most p is never reached.
no_commit : (s : Setting) (run : Run) (j t p b cycles : ℕ) → t + b ≤ p
    → ((c : ℕ) → EndsAt s run j t c → c < cycles → c < t + b)
    → ((u : ℕ) → t ≤ u → u < p → ¬ CommitsAt s run j u)
    → (limit u : ℕ) → u < limit → t ≤ u → u < cycles → ¬ CommitsAt s run j u
no_commit s run j t p b cycles past ends none zero u below from low commits = omega (arith, below)
no_commit s run j t p b cycles past ends none (suc limit) u below from low commits =
    let early : u < t + b =
    ends u
    (record {
      from = from;
      commits = commits;
      first = λ x after before. no_commit s run j t p b cycles past ends none limit x (omega (arith, below, before)) after
          (omega (arith, before, low));
    })
    low in
    none u from (omega (arith, early, past)) commits

pub prefix : PrefixRefines
prefix s run cycles p le r = record {
  initial = λ h. r.initial (omega (arith, h, le));
  command = λ n t q h low starts. r.command n t q (longer s run p cycles le n t q h) (omega (arith, low, le)) starts;
  ended = λ n t j c q e h starts is_j entry end low.
      r.ended n t j c q e (longer s run p cycles le n t q h) starts is_j entry end (omega (arith, low, le));
  open_command = λ n t j q e h low starts is_j entry none.
      let cases : (p < t + e.bound) ⊎ (t + e.bound ≤ p) = grind arith in
      elim cases [
        | inl small ↦ small
        | inr past ↦
            let whole : cycles < t + e.bound =
            r.open_command n t j q e (longer s run p cycles le n t q h) (omega (arith, low, le)) starts is_j entry
            (λ u from below. no_commit s run j t p e.bound cycles past
            (λ c end early. r.ended n t j c q e (longer s run p cycles le n t q h) starts is_j entry end early) none
            (suc u) u (omega arith) from below) in
            omega (arith, whole, le)
      ];
  state = λ n t q h low. r.state n t q (longer s run p cycles le n t q h) (omega (arith, low, le));
}
