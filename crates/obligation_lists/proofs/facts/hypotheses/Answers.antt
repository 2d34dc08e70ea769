use Rattle.std.proofs.Common.{◌++◌, map, subst, sym, ap, ◌∙◌}
use Rattle.obligation_lists.specs.Claims.{fact_of, hypotheses_of}
use Rattle.obligation_lists.specs.Within.{Each, IsFactOf}
use Rattle.obligation_lists.proofs.facts.hypotheses.Goals as goal

pub returns-clause-listed : goal.returns-clause-listed
returns-clause-listed c =
    λ m p h. c.in_ok-add_hypotheses.ensures.listed m p h ∙ ap (λ fs. map fact_of fs ++ hypotheses_of p c.args.hypotheses) c.new-facts.ensures.items

pub returns-clause-within : goal.returns-clause-within
returns-clause-within c =
    λ m last h. c.in_ok-add_hypotheses.ensures.within m last h (subst (Each (IsFactOf m c.args.counts last)) (sym c.new-facts.ensures.items) tt)
