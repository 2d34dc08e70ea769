use Rattle.std.proofs.Common.{◌≡◌, ◌++◌, drop}
use Rattle.v_place.specs.View.{symbols_of, expected_of}
use Rattle.v_place.proofs.stack.enter_all.Given as goal

abbrev pub invariant-loop-place : goal.invariant-loop-place
invariant-loop-place l = expected_of l.stack.items ≡ symbols_of (drop l.place l.symbols) ++ expected_of l.fn.stack.items
