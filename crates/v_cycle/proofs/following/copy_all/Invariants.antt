use Rattle.std.proofs.Common.{◌≡◌, take, drop, map}
use Rattle.wb_terms.specs.Environment.{as_value}
use Rattle.v_cycle.proofs.following.copy_all.Given as goal

abbrev pub invariant-loop-k : goal.invariant-loop-k
invariant-loop-k l = record {
  set : take l.k (map as_value l.values) ≡ take l.k (map as_value l.others);
  left : drop l.k (map as_value l.values) ≡ drop l.k (map as_value l.initial.values);
}
