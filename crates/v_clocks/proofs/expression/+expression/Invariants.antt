use Rattle.std.proofs.Common.{◌≡◌, drop}
use Rattle.v_hier.specs.Tables.{has_name}
use Rattle.v_clocks.specs.Uses.{none_of}
use Rattle.v_hier.specs.Reading.{parts_known, links_known, tests_known, choices_known}
use Rattle.v_clocks.proofs.expression.+expression.Given as goal

abbrev pub invariant-are_choices_free-loop-choice : goal.invariant-are_choices_free-loop-choice
invariant-are_choices_free-loop-choice l = choices_known (none_of (has_name l.clocks)) l.choices ≡ choices_known (none_of (has_name l.clocks)) (drop l.choice-index l.choices)

abbrev pub invariant-are_links_free-loop-link : goal.invariant-are_links_free-loop-link
invariant-are_links_free-loop-link l = links_known (none_of (has_name l.clocks)) l.links ≡ links_known (none_of (has_name l.clocks)) (drop l.link-index l.links)

abbrev pub invariant-are_parts_free-loop-part : goal.invariant-are_parts_free-loop-part
invariant-are_parts_free-loop-part l = parts_known (none_of (has_name l.clocks)) l.parts ≡ parts_known (none_of (has_name l.clocks)) (drop l.part-index l.parts)

abbrev pub invariant-are_tests_free-loop-link : goal.invariant-are_tests_free-loop-link
invariant-are_tests_free-loop-link l = tests_known (none_of (has_name l.clocks)) l.links ≡ tests_known (none_of (has_name l.clocks)) (drop l.link-index l.links)
