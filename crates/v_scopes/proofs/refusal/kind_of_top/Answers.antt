use Rattle.std.proofs.Common.{ap, ◌∙◌}
use Rattle.v_syntax.specs.Source.{source_of}
use Rattle.v_scopes.specs.Refusals.{top_kind}
use Rattle.v_scopes.proofs.refusal.kind_of_top.Goals as goal

pub returns : goal.returns
returns c = c.in_ok-kind.ensures ∙ ap (top_kind (source_of c.args.tree.now) c.args.clock.now) c.top_of.ensures
