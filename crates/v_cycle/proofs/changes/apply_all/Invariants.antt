use Rattle.std.proofs.Common.{◌≡◌, drop, map}
use Rattle.wb_terms.specs.Environment.{as_value}
use Rattle.v_cycle.specs.Changing.{changed_by}
use Rattle.v_cycle.proofs.changes.apply_all.Given as goal

abbrev pub invariant-loop-change : goal.invariant-loop-change
invariant-loop-change l = changed_by (map as_value l.values) (drop l.change-index l.list) ≡ changed_by (map as_value l.initial.values) l.list
