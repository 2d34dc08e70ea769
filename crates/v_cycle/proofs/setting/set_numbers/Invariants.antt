use Rattle.std.proofs.Common.{◌≡◌, ◌+◌, ◌++◌, length, take, map}
use Rattle.wb_values.specs.Value.{number}
use Rattle.wb_terms.specs.Environment.{as_value}
use Rattle.v_cycle.proofs.setting.set_numbers.Given as goal

abbrev pub invariant-loop-k : goal.invariant-loop-k
invariant-loop-k l = record {
  set : take (l.first + l.k) (map as_value l.values) ≡ take l.first (map as_value l.initial.values) ++ map number (take l.k l.numbers);
  long : length l.values ≡ length l.initial.values;
}
