use Rattle.std.proofs.Common.{true, false}
use Rattle.v_print.specs.Links.{links_before, tests_before}
use Rattle.v_print.proofs.Arms.{parts_front, choices_front}
use Rattle.v_print.proofs.Loops.{IsLoop}
use Rattle.v_print.proofs.expression.+expression.Given as goal

abbrev pub invariant-write_choices-loop-choice : goal.invariant-write_choices-loop-choice
invariant-write_choices-loop-choice l = IsLoop choices_front l.choices l.choice-index true l.initial.out l.out (choices_front true l.choices)

abbrev pub invariant-write_links-loop-link : goal.invariant-write_links-loop-link
invariant-write_links-loop-link l = IsLoop links_before l.links l.link-index l.level l.initial.out l.out (links_before l.fn.first l.links)

abbrev pub invariant-write_parts-loop-part : goal.invariant-write_parts-loop-part
invariant-write_parts-loop-part l = IsLoop parts_front l.parts l.part-index l.started l.initial.out l.out (parts_front false l.parts)

abbrev pub invariant-write_tests-loop-link : goal.invariant-write_tests-loop-link
invariant-write_tests-loop-link l = IsLoop tests_before l.links l.link-index l.level l.initial.out l.out (tests_before l.fn.first l.links)
