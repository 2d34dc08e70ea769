use Rattle.std.proofs.Common.{ap}
use Rattle.v_size.specs.declared.rule.Judged.{Judged}
use Rattle.v_size.specs.Judged.{judged_at, sized_at}
use Rattle.v_size.proofs.breaking.judged_in.Goals as goal

pub returns-clause-broken : goal.returns-clause-broken
unfolding judged_at
returns-clause-broken c = ap (λ (j : Judged). j.broken) c.judge-judged.ensures

pub returns-clause-width : goal.returns-clause-width
unfolding judged_at sized_at
returns-clause-width c = ap (λ (j : Judged). j.width) c.judge-judged.ensures
