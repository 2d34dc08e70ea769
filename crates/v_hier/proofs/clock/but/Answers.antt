use Rattle.std.proofs.Common.{ap, cond, not}
use Rattle.v_hier.specs.Tables.{has_name}
use Rattle.v_hier.proofs.clock.but.Goals as goal

pub returns : goal.returns
returns c = λ q. ap (λ b. cond b (has_name c.no_names-before.result q) (not (has_name c.args.names.now q))) (c.no_names-parameters.ensures q)
