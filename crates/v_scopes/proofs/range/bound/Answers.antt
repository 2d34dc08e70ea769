use Rattle.std.proofs.Common.{ap, ◌∙◌}
use Rattle.verilog_designs.specs.Known.{as_bound}
use Rattle.v_scopes.specs.Bounds.{bound_at}
use Rattle.v_scopes.proofs.range.bound.Goals as goal

pub returns : goal.returns
unfolding bound_at
returns c = c.bound_from.ensures ∙ ap as_bound c.constant_number.ensures
