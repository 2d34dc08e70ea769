use Rattle.std.proofs.Common.{map, drop, None}
use Rattle.ila_file.specs.View.{definition_view}
use Rattle.ila_build.specs.Standing.{AreIn, IsGrown}
use Rattle.ila_build.specs.Knowing.{defined_names}
use Rattle.ila_build.specs.Sizes.{sizes_of}
use Rattle.ila_build.proofs.Definitions.{AreReached}
use Rattle.ila_build.proofs.LeavingLemmas.{IsLeaving}
use Rattle.ila_build.proofs.defining.put_definitions.Given as goal

abbrev pub invariant-loop-definition : goal.invariant-loop-definition
invariant-loop-definition l =
    IsGrown l.fn.terms l.terms × AreIn l.terms l.known None
    × IsLeaving l.fn.terms l.fn.known l.terms l.known (defined_names (map definition_view (drop l.definition-index l.definitions))) (sizes_of (map definition_view (drop l.definition-index l.definitions))) (defined_names (map definition_view l.definitions)) (sizes_of (map definition_view l.definitions))
    × AreReached l.fn.terms l.fn.known l.terms l.known (map definition_view (drop l.definition-index l.definitions)) (map definition_view l.definitions)
