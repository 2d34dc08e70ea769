use Rattle.std.proofs.Common.{◌≡◌, true}
use Rattle.v_paths.specs.Cases.{has_number, all_below}
use Rattle.v_paths.proofs.full.has_all_below.Given as goal

abbrev pub invariant-loop-value : goal.invariant-loop-value
invariant-loop-value l = all_below (has_number l.values) l.value ≡ true
