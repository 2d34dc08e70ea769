use Rattle.std.proofs.Common.{◌∙◌, ap}
use Rattle.verilog_meaning.specs.Expression.{Bits}
use Rattle.v_syntax.specs.Tree.{selects_of}
use Rattle.v_value.specs.Scope.{scope_at}
use Rattle.v_settle.proofs.Widths.{part-width}
use Rattle.v_settle.proofs.width.place_width.Goals as goal

pub returns : goal.returns
returns c =
    ap (λ (b : Bits). b.count) c.part_span-span.ensures
    ∙ part-width (scope_at c.args.scope.now) (scope_at c.args.scope.now c.args.name.now) (selects_of c.args.selects.now)
