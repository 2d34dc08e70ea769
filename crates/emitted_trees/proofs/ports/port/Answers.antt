use Rattle.std.proofs.Common.{ap, map, None, false, ◌≡◌, List}
use Rattle.wb_values.specs.Value.{Name}
use Rattle.verilog_trees.specs.Syntax.{Range, PortDeclaration}
use Rattle.std.proofs.Common.{Option}
use Rattle.v_syntax.specs.Source.{direction_of}
use Rattle.emitted_names.proofs.Turns.{ap2, one_pushed}
use Rattle.emitted_trees.proofs.ports.port.Goals as goal

pub returns : goal.returns
returns c =
    ap2 (λ (r : Option Range) (ns : List Name). record { direction = direction_of c.args.direction; kind = None; signed = false; range = r; names = ns }) c.in_ok-range.ensures
    (ap (map (λ n. n.now)) (one_pushed _ _ _ c.new-names.ensures.items c.in_ok-push.ensures.items))
