use Rattle.std.proofs.Common.{◌∙◌, map, ap}
use Rattle.std.specs.Prelude.{codes}
use Rattle.ila_file.specs.Places.{spot_view}
use Rattle.map_file.specs.View.{mapped_view}
use Rattle.map_rules.specs.Case.{entry_names}
use Rattle.map_names.specs.Texts.{texts}
use Rattle.map_names.proofs.Outside.{place_told, rule_told}
use Rattle.map_names.proofs.mapped.unknown_state.Goals as goal

pub returns-clause-place : goal.returns-clause-place
returns-clause-place c =
    place_told spot_view c.spot_under.result _ (codes "states") _ _ _ _ c.spot_under.ensures c.in_ok-found.ensures
    (ap texts c.deref-2.ensures.value ∙ c.in_ok-states.ensures)
    (ap texts c.deref-3.ensures.value ∙ c.in_ok-mapped.ensures ∙ ap (λ es. entry_names (map mapped_view es)) c.deref.ensures.value)

pub returns-clause-rule : goal.returns-clause-rule
returns-clause-rule c = λ s.
    rule_told spot_view c.spot_under.result _ (codes "states") _ _ _ _ c.spot_under.ensures c.in_ok-found.ensures
    (ap texts c.deref-2.ensures.value ∙ c.in_ok-states.ensures)
    (ap texts c.deref-3.ensures.value ∙ c.in_ok-mapped.ensures ∙ ap (λ es. entry_names (map mapped_view es)) c.deref.ensures.value)
