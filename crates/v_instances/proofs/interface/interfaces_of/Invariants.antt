use Rattle.std.proofs.Common.{drop, map}
use Rattle.v_syntax.specs.Source.{module_of}
use Rattle.v_instances.specs.Interface.{AreSoFar}
use Rattle.v_instances.proofs.interface.interfaces_of.Given as goal

abbrev pub invariant-loop-within : goal.invariant-loop-within
invariant-loop-within l = AreSoFar l.interfaces (map module_of l.tree.modules.items) (map module_of (drop l.within-index l.tree.modules.items))
