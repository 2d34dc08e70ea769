use Rattle.std.proofs.Common.{◌≡◌, drop}
use Rattle.v_value.specs.Scope.{scope_at}
use Rattle.v_size.specs.Judged.{links_judged, tests_judged, choices_judged, parts_judged, no_parts}
use Rattle.v_size.proofs.judged.+judged.Given as goal

abbrev pub invariant-links_judged-loop-link : goal.invariant-links_judged-loop-link
invariant-links_judged-loop-link l = links_judged (scope_at l.names.scope.now) l.place l.fn.first l.links ≡ links_judged (scope_at l.names.scope.now) l.place l.left (drop l.link-index l.links)

abbrev pub invariant-tests_judged-loop-link : goal.invariant-tests_judged-loop-link
invariant-tests_judged-loop-link l = tests_judged (scope_at l.names.scope.now) l.place l.fn.first l.links ≡ tests_judged (scope_at l.names.scope.now) l.place l.left (drop l.link-index l.links)

abbrev pub invariant-choices_judged-loop-choice : goal.invariant-choices_judged-loop-choice
invariant-choices_judged-loop-choice l = choices_judged (scope_at l.names.scope.now) l.place l.fn.last l.choices ≡ choices_judged (scope_at l.names.scope.now) l.place l.all (drop l.choice-index l.choices)

abbrev pub invariant-parts_judged-loop-part : goal.invariant-parts_judged-loop-part
invariant-parts_judged-loop-part l = parts_judged (scope_at l.names.scope.now) l.place no_parts l.parts ≡ parts_judged (scope_at l.names.scope.now) l.place l.all (drop l.part-index l.parts)
