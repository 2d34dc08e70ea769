use Rattle.std.proofs.Common.{◌≡◌, drop}
use Rattle.v_value.specs.Scope.{scope_at}
use Rattle.v_value.specs.Links.{links_signed, choices_signed}
use Rattle.v_value.proofs.sign.+sign.Given as goal

abbrev pub invariant-linked_sign-loop-link : goal.invariant-linked_sign-loop-link
invariant-linked_sign-loop-link l =
    links_signed (scope_at l.scope) l.links ≡ links_signed (scope_at l.scope) (drop l.link-index l.links)

abbrev pub invariant-chosen_sign-loop-choice : goal.invariant-chosen_sign-loop-choice
invariant-chosen_sign-loop-choice l =
    choices_signed (scope_at l.scope) l.choices ≡ choices_signed (scope_at l.scope) (drop l.choice-index l.choices)
