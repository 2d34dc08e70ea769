use Rattle.std.proofs.Common.{◌≡◌, map, drop}
use Rattle.v_syntax.specs.Tree.{target_of}
use Rattle.v_renamed.specs.NewNames.{new_name}
use Rattle.v_renamed.specs.Copies.{all_renamed}
use Rattle.v_renamed.proofs.Outputs.{after}
use Rattle.v_renamed.proofs.output.+output.Given as goal

abbrev pub invariant-copy_all_as_targets-loop-part : goal.invariant-copy_all_as_targets-loop-part
invariant-copy_all_as_targets-loop-part l =
    after (map target_of l.targets.items) (all_renamed (new_name l.names) (drop l.part-index l.parts)) ≡ all_renamed (new_name l.names) l.parts
