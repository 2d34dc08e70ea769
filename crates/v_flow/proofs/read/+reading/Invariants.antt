use Rattle.std.proofs.Common.{◌≡◌, drop}
use Rattle.verilog_designs.specs.Reads.{or_in}
use Rattle.v_value.specs.Scope.{scope_at}
use Rattle.v_value.specs.Narrow.{AreNarrow}
use Rattle.v_value.specs.Links.{AreLinksNarrow, AreTestsNarrow, AreChoicesNarrow}
use Rattle.v_syntax.specs.Tree.{expressions_of}
use Rattle.v_flow.specs.Spans.{bits_in}
use Rattle.v_flow.specs.Flow.{parts_read, links_read, tests_read, choices_read}
use Rattle.v_flow.proofs.read.+reading.Given as goal

abbrev pub invariant-add_choices-loop-choice : goal.invariant-add_choices-loop-choice
invariant-add_choices-loop-choice l = record {
  same : or_in (bits_in l.initial.found.items) (choices_read (scope_at l.scope) l.choices)
      ≡ or_in (bits_in l.found.items) (choices_read (scope_at l.scope) (drop l.choice-index l.choices));
  narrow : AreChoicesNarrow (scope_at l.scope) (drop l.choice-index l.choices);
}

abbrev pub invariant-add_links-loop-link : goal.invariant-add_links-loop-link
invariant-add_links-loop-link l = record {
  same : or_in (bits_in l.initial.found.items) (links_read (scope_at l.scope) l.links)
      ≡ or_in (bits_in l.found.items) (links_read (scope_at l.scope) (drop l.link-index l.links));
  narrow : AreLinksNarrow (scope_at l.scope) (drop l.link-index l.links);
}

abbrev pub invariant-add_parts-loop-part : goal.invariant-add_parts-loop-part
invariant-add_parts-loop-part l = record {
  same : or_in (bits_in l.initial.found.items) (parts_read (scope_at l.scope) l.parts)
      ≡ or_in (bits_in l.found.items) (parts_read (scope_at l.scope) (drop l.part-index l.parts));
  narrow : AreNarrow (scope_at l.scope) (expressions_of (drop l.part-index l.parts));
}

abbrev pub invariant-add_tests-loop-link : goal.invariant-add_tests-loop-link
invariant-add_tests-loop-link l = record {
  same : or_in (bits_in l.initial.found.items) (tests_read (scope_at l.scope) l.links)
      ≡ or_in (bits_in l.found.items) (tests_read (scope_at l.scope) (drop l.link-index l.links));
  narrow : AreTestsNarrow (scope_at l.scope) (drop l.link-index l.links);
}
