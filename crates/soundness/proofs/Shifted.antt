-- A run seen from a later cycle on.
use Rattle.std.proofs.Common.{◌≡◌, ℕ, zero, suc, ◌+◌, ◌-◌, ◌≤◌, arith}
use Rattle.verilog_meaning.specs.Next.{AreRegisters}
use Rattle.refinement.specs.Map.{Setting, design_of}
use Rattle.refinement.specs.Run.{Run, IsRun}

-- a + t, computing on t
abbrev pub later : ℕ → ℕ → ℕ
later a zero = a
later a (suc t) = suc (later a t)

pub later_sum : (a t : ℕ) → later a t ≡ a + t
later_sum a zero = omega arith
later_sum a (suc t) = omega (arith, later_sum a t)

pub later_from : (a u : ℕ) → a ≤ u → (t : ℕ) × (later a t ≡ u)
later_from a u h = (u - a, omega (arith, later_sum a (u - a)))

abbrev pub shifted : ℕ → Run → Run
shifted a run = record {
  registers = λ t. run.registers (later a t);
  inputs = λ t. run.inputs (later a t);
  valuations = λ t. run.valuations (later a t);
}

registers_at : (s : Setting) (run : Run) (n : ℕ) → IsRun s run n → (a : ℕ) → a ≤ n → AreRegisters (design_of s) (run.registers a)
registers_at s run n r zero h = r.first
registers_at s run n r (suc a) h = (r.next a h).registers

pub IsRun-shifted : (s : Setting) (run : Run) (n : ℕ) → IsRun s run n → (a c : ℕ) → a + c ≤ n → IsRun s (shifted a run) c
IsRun-shifted s run n r a c h = record {
  first = registers_at s run n r a (omega arith);
  inputs = λ t u. r.inputs (later a t) (omega (arith, later_sum a t));
  settled = λ t u. r.settled (later a t) (omega (arith, later_sum a t));
  next = λ t u. r.next (later a t) (omega (arith, later_sum a t));
}

pub IsRun-shorter : (s : Setting) (run : Run) (n : ℕ) → IsRun s run n → (c : ℕ) → c ≤ n → IsRun s run c
IsRun-shorter s run n r c h = record {
  first = r.first;
  inputs = λ t u. r.inputs t (omega arith);
  settled = λ t u. r.settled t (omega arith);
  next = λ t u. r.next t (omega arith);
}
