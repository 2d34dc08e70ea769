use Rattle.std.proofs.Common.{◌≡◌, drop}
use Rattle.std.specs.List.{list_any}
use Rattle.verilog_trees.specs.Syntax.{Source}
use Rattle.v_instances.specs.Interface.{AreInterfacesOf}
use Rattle.v_judged.specs.Rules.{has_bad_ports}
use Rattle.v_judged.specs.Spots.{spots_in}
use Rattle.v_judged.proofs.rules.any_bad_ports.Given as goal

abbrev pub invariant-loop-one : goal.invariant-loop-one
invariant-loop-one l =
    (source : Source) → AreInterfacesOf l.interfaces source
    → list_any (has_bad_ports source) (spots_in l.scopes) ≡ list_any (has_bad_ports source) (spots_in (drop l.one-index l.scopes))
