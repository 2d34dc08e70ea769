use Rattle.std.proofs.Common.{◌≡◌, List, take, drop, map}
use Rattle.wb_values.specs.Value.{Value}
use Rattle.wb_terms.specs.Environment.{as_value}
use Rattle.v_cycle.specs.Changing.{IsListed}
use Rattle.v_cycle.specs.Next.{values_of_terms}
use Rattle.v_cycle.proofs.setting.set_next.Given as goal

abbrev pub invariant-loop-k : goal.invariant-loop-k
invariant-loop-k l = record {
  set : take l.k (map as_value l.values) ≡ values_of_terms l.terms l.env (take l.k l.next);
  left : drop l.k (map as_value l.values) ≡ drop l.k (map as_value l.initial.values);
  listed : (xs : List Value) → IsListed l.initial.changes xs (map as_value l.initial.values) → IsListed l.changes xs (map as_value l.values);
}
