use Rattle.std.proofs.Common.{◌≡◌, ℕ, ◌%◌}
use Rattle.std.specs.Prelude.{◌&&◌, nat_lt}
use Rattle.verilog_meaning.specs.Register.{is_set}
use Rattle.v_depend.proofs.copy.repeated.Given as goal

abbrev pub invariant-loop-place : goal.invariant-loop-place
invariant-loop-place l = (j : ℕ) → is_set l.all j ≡ (nat_lt j l.place && is_set l.mask (j % l.width))
