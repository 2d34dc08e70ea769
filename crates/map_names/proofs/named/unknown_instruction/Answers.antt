use Rattle.std.proofs.Common.{◌∙◌, [], map, ap}
use Rattle.ila_file.specs.Places.{spot_view}
use Rattle.map_file.specs.View.{entry_view}
use Rattle.map_names.specs.Places.{first_unknown}
use Rattle.map_names.specs.Texts.{texts}
use Rattle.map_names.proofs.Outside.{entry_told}
use Rattle.map_names.proofs.named.unknown_instruction.Goals as goal

pub returns-clause-place : goal.returns-clause-place
returns-clause-place c =
    c.in_ok-found.ensures
    ∙ (λ j. first_unknown ((ap texts c.deref-2.ensures.value ∙ c.in_ok-known.ensures) j) [] 0
    ((ap texts c.deref-3.ensures.value ∙ c.in_ok-called.ensures ∙ ap (λ es. map (λ i. i.called) (map entry_view es)) c.deref.ensures.value) j))

pub returns-clause-rule : goal.returns-clause-rule
returns-clause-rule c = λ s.
    entry_told spot_view _ _ _ _ _ c.in_ok-found.ensures (ap texts c.deref-2.ensures.value ∙ c.in_ok-known.ensures)
    (ap texts c.deref-3.ensures.value ∙ c.in_ok-called.ensures ∙ ap (λ es. map (λ i. i.called) (map entry_view es)) c.deref.ensures.value)
