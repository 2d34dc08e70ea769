use Rattle.std.proofs.Common.{◌≡◌, drop}
use Rattle.v_value.specs.Scope.{scope_at}
use Rattle.v_narrow.specs.Test.{parts_test, links_test, tests_test, choices_test}
use Rattle.v_narrow.proofs.expression.+narrow.Given as goal

abbrev pub invariant-choices_narrow-loop-choice : goal.invariant-choices_narrow-loop-choice
invariant-choices_narrow-loop-choice l =
    choices_test l.checked.objects (scope_at l.checked.scope.now) l.choices ≡ choices_test l.checked.objects (scope_at l.checked.scope.now) (drop l.choice-index l.choices)

abbrev pub invariant-links_narrow-loop-link : goal.invariant-links_narrow-loop-link
invariant-links_narrow-loop-link l = links_test l.checked.objects (scope_at l.checked.scope.now) l.links ≡ links_test l.checked.objects (scope_at l.checked.scope.now) (drop l.link-index l.links)

abbrev pub invariant-parts_narrow-loop-part : goal.invariant-parts_narrow-loop-part
invariant-parts_narrow-loop-part l = parts_test l.checked.objects (scope_at l.checked.scope.now) l.parts ≡ parts_test l.checked.objects (scope_at l.checked.scope.now) (drop l.part-index l.parts)

abbrev pub invariant-tests_narrow-loop-link : goal.invariant-tests_narrow-loop-link
invariant-tests_narrow-loop-link l = tests_test l.checked.objects (scope_at l.checked.scope.now) l.links ≡ tests_test l.checked.objects (scope_at l.checked.scope.now) (drop l.link-index l.links)
