use Rattle.std.proofs.Common.{◌≡◌, drop}
use Rattle.v_masks.specs.Masks.{masked}
use Rattle.v_depend.specs.Tables.{all_changed}
use Rattle.v_depend.proofs.change.change_all.Given as goal

abbrev pub invariant-loop-one : goal.invariant-loop-one
invariant-loop-one l = all_changed l.changes (masked l.initial.table) ≡ all_changed (drop l.one-index l.changes) (masked l.table)
