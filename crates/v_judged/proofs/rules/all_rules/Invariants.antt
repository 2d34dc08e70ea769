use Rattle.std.proofs.Common.{◌≡◌, drop}
use Rattle.verilog_trees.specs.Syntax.{Source}
use Rattle.v_instances.specs.Interface.{AreInterfacesOf}
use Rattle.v_judged.specs.Rules.{rules_after, all_rules}
use Rattle.v_judged.specs.Spots.{spots_in}
use Rattle.v_judged.proofs.rules.all_rules.Given as goal

abbrev pub invariant-loop-one : goal.invariant-loop-one
invariant-loop-one l =
    (source : Source) → AreInterfacesOf l.interfaces source → all_rules source (spots_in l.scopes) ≡ rules_after source l.found (spots_in (drop l.one-index l.scopes))
