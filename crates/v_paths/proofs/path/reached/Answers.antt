use Rattle.std.proofs.Common.{◌∙◌, ap}
use Rattle.v_syntax.specs.Tree.{target_of}
use Rattle.v_value.specs.Scope.{scope_at}
use Rattle.verilog_designs.specs.Reads.{or_in, surely_reaches}
use Rattle.v_flow.specs.Spans.{bits_in, existing}
use Rattle.v_paths.proofs.path.reached.Goals as goal

pub returns : goal.returns
returns c =
    let s = scope_at c.args.scope.now in
    c.in_ok-add_surely_reached.ensures ∙ ap (λ ys. or_in (bits_in ys) (existing s (surely_reaches s (target_of c.args.target.now)))) c.new-sure.ensures.items
