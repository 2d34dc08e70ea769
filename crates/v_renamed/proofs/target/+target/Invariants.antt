use Rattle.std.proofs.Common.{◌≡◌, ◌++◌, map, drop}
use Rattle.v_renamed.specs.NewNames.{new_name}
use Rattle.v_syntax.specs.Tree.{target_of}
use Rattle.v_renamed.specs.Copies.{target_under}
use Rattle.v_renamed.proofs.target.+target.Given as goal

abbrev pub invariant-copy_targets-loop-target : goal.invariant-copy_targets-loop-target
invariant-copy_targets-loop-target l =
    map target_of l.copies.items ++ map (target_under (new_name l.names)) (drop l.target-index l.targets) ≡ map (target_under (new_name l.names)) l.targets
