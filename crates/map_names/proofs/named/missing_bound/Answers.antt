use Rattle.std.proofs.Common.{◌∙◌, map, ap}
use Rattle.std.specs.Prelude.{codes}
use Rattle.ila_file.specs.Places.{spot_view}
use Rattle.map_file.specs.View.{entry_view}
use Rattle.map_names.specs.Texts.{texts}
use Rattle.map_names.proofs.Outside.{place_told, rule_told}
use Rattle.map_names.proofs.named.missing_bound.Goals as goal

pub returns-clause-place : goal.returns-clause-place
returns-clause-place c =
    place_told spot_view c.spot_under.result _ (codes "instructions") _ _ _ _ c.spot_under.ensures c.in_ok-found.ensures
    (ap texts c.deref-2.ensures.value ∙ c.in_ok-called.ensures ∙ ap (λ es. map (λ i. i.called) (map entry_view es)) c.deref.ensures.value)
    (ap texts c.deref-3.ensures.value ∙ c.in_ok-known.ensures)

pub returns-clause-rule : goal.returns-clause-rule
returns-clause-rule c = λ s.
    rule_told spot_view c.spot_under.result _ (codes "instructions") _ _ _ _ c.spot_under.ensures c.in_ok-found.ensures
    (ap texts c.deref-2.ensures.value ∙ c.in_ok-called.ensures ∙ ap (λ es. map (λ i. i.called) (map entry_view es)) c.deref.ensures.value)
    (ap texts c.deref-3.ensures.value ∙ c.in_ok-known.ensures)
