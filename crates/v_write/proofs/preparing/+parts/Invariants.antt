use Rattle.std.proofs.Common.{drop}
use Rattle.v_value.specs.Scope.{scope_at}
use Rattle.v_lower.specs.Table.{images_at}
use Rattle.v_lower.specs.Lowered.{HasImages}
use Rattle.v_write.specs.Sound.{AreSoundTargets, target_list}
use Rattle.v_write.specs.Selecting.{ArePreparing}
use Rattle.v_write.proofs.preparing.+parts.Given as goal

abbrev pub invariant-add_all_parts-loop-target : goal.invariant-add_all_parts-loop-target
invariant-add_all_parts-loop-target l = record {
  so_far : ArePreparing (scope_at l.scope) (images_at l.table) l.initial.terms l.initial.parts.items (target_list l.targets) l.terms l.parts.items (target_list (drop l.target-index l.targets));
  known : HasImages (scope_at l.scope) (images_at l.table) l.terms;
  sound : AreSoundTargets (scope_at l.scope) (target_list (drop l.target-index l.targets));
}
