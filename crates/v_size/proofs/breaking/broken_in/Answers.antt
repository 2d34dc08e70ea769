use Rattle.std.proofs.Common.{ap}
use Rattle.v_size.specs.declared.rule.Judged.{Judged}
use Rattle.v_size.specs.Judged.{judged_at}
use Rattle.v_size.proofs.breaking.broken_in.Goals as goal

pub returns : goal.returns
unfolding judged_at
returns c = ap (λ (j : Judged). j.broken) c.judge-judged.ensures
