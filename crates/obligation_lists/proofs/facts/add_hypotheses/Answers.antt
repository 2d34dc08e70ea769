use Rattle.std.proofs.Common.{subst, sym}
use Rattle.obligation_lists.specs.declared.claims.Hypotheses.{Hypotheses}
use Rattle.obligation_lists.specs.Claims.{hypotheses_of}
use Rattle.obligation_lists.specs.Within.{AreHypothesesOf}
use Rattle.obligation_lists.specs.Growth.{AddsFacts}
use Rattle.obligation_lists.proofs.facts.add_hypotheses.Goals as goal

pub returns-in_ok-add_reset-in-Reset : goal.returns-in_ok-add_reset-in-Reset
returns-in_ok-add_reset-in-Reset c =
    subst (λ (h : Hypotheses). AddsFacts c.args.counts c.args.facts.now.items c.add_reset.new.facts.items (λ p. hypotheses_of p h) (λ m last. AreHypothesesOf m c.args.counts last h))
    (sym c.in-Reset.is) c.in_ok-add_reset-in-Reset.ensures

pub returns-in_ok-add_idle-in-Idle : goal.returns-in_ok-add_idle-in-Idle
returns-in_ok-add_idle-in-Idle c =
    subst (λ (h : Hypotheses). AddsFacts c.args.counts c.args.facts.now.items c.add_idle.new.facts.items (λ p. hypotheses_of p h) (λ m last. AreHypothesesOf m c.args.counts last h))
    (sym c.in-Idle.is) c.in_ok-add_idle-in-Idle.ensures

pub returns-in_ok-add_started-in-Started : goal.returns-in_ok-add_started-in-Started
returns-in_ok-add_started-in-Started c =
    subst (λ (h : Hypotheses). AddsFacts c.args.counts c.args.facts.now.items c.add_started.new.facts.items (λ p. hypotheses_of p h) (λ m last. AreHypothesesOf m c.args.counts last h))
    (sym c.in-Started.is) c.in_ok-add_started-in-Started.ensures

pub returns-in_ok-add_started_by-in-StartedBy : goal.returns-in_ok-add_started_by-in-StartedBy
returns-in_ok-add_started_by-in-StartedBy c =
    subst (λ (h : Hypotheses). AddsFacts c.args.counts c.args.facts.now.items c.add_started_by.new.facts.items (λ p. hypotheses_of p h) (λ m last. AreHypothesesOf m c.args.counts last h))
    (sym c.in-StartedBy.is) c.in_ok-add_started_by-in-StartedBy.ensures

pub returns-in_ok-add_not_ended-in-NotEnded : goal.returns-in_ok-add_not_ended-in-NotEnded
returns-in_ok-add_not_ended-in-NotEnded c =
    subst (λ (h : Hypotheses). AddsFacts c.args.counts c.args.facts.now.items c.add_not_ended.new.facts.items (λ p. hypotheses_of p h) (λ m last. AreHypothesesOf m c.args.counts last h))
    (sym c.in-NotEnded.is) c.in_ok-add_not_ended-in-NotEnded.ensures

pub returns-in_ok-add_ended_at-in-EndedAt : goal.returns-in_ok-add_ended_at-in-EndedAt
returns-in_ok-add_ended_at-in-EndedAt c =
    subst (λ (h : Hypotheses). AddsFacts c.args.counts c.args.facts.now.items c.add_ended_at.new.facts.items (λ p. hypotheses_of p h) (λ m last. AreHypothesesOf m c.args.counts last h))
    (sym c.in-EndedAt.is) c.in_ok-add_ended_at-in-EndedAt.ensures
