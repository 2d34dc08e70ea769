use Rattle.verilog_trees.specs.Syntax.{Source}
use Rattle.v_hier.specs.Instances.{AreModulesOf}
use Rattle.v_named.proofs.Walks.{IsAsked}
use Rattle.v_named.proofs.judged.kind_among.Given as goal

abbrev pub invariant-loop-within : goal.invariant-loop-within
invariant-loop-within l =
    (source : Source) → AreModulesOf l.names source
    → IsAsked source l.fn.modules.items l.shared l.within-iterator.rest.items l.twice
