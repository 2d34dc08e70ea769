use Rattle.std.proofs.Common.{◌≡◌, drop}
use Rattle.v_hier.specs.Reading.{knows, parts_known, links_known, tests_known, choices_known}
use Rattle.v_hier.proofs.expression.+expression.Given as goal

abbrev pub invariant-are_choices_known-loop-choice : goal.invariant-are_choices_known-loop-choice
invariant-are_choices_known-loop-choice l = choices_known (knows l.names) l.choices ≡ choices_known (knows l.names) (drop l.choice-index l.choices)

abbrev pub invariant-are_links_known-loop-link : goal.invariant-are_links_known-loop-link
invariant-are_links_known-loop-link l = links_known (knows l.names) l.links ≡ links_known (knows l.names) (drop l.link-index l.links)

abbrev pub invariant-are_parts_known-loop-part : goal.invariant-are_parts_known-loop-part
invariant-are_parts_known-loop-part l = parts_known (knows l.names) l.parts ≡ parts_known (knows l.names) (drop l.part-index l.parts)

abbrev pub invariant-are_tests_known-loop-link : goal.invariant-are_tests_known-loop-link
invariant-are_tests_known-loop-link l = tests_known (knows l.names) l.links ≡ tests_known (knows l.names) (drop l.link-index l.links)
