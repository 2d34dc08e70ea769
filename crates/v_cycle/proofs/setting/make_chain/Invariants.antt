use Rattle.std.proofs.Common.{◌≡◌, List, map, vec_len}
use Rattle.wb_values.specs.Value.{Value}
use Rattle.wb_terms.specs.Environment.{as_value}
use Rattle.v_cycle.specs.Changing.{changed_at, IsListed}
use Rattle.v_cycle.proofs.setting.make_chain.Given as goal

abbrev pub invariant-loop-stored : goal.invariant-loop-stored
invariant-loop-stored l = record {
  made : changed_at (map as_value l.values) l.register l.changes.chain.items
      ≡ changed_at (map as_value l.initial.values) l.register l.initial.changes.chain.items;
  listed : (xs : List Value) → IsListed l.initial.changes xs (map as_value l.initial.values) → IsListed l.changes xs (map as_value l.values);
}

abbrev pub decreases-loop-stored : goal.decreases-loop-stored
decreases-loop-stored l = vec_len l.changes.chain
