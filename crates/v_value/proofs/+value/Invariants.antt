use Rattle.std.proofs.Common.{◌≡◌, ◌+◌, ◌*◌, ◌^◌, ◌<◌, ◌≤◌, drop}
use Rattle.v_value.specs.Scope.{scope_at, valuation_at}
use Rattle.v_syntax.specs.Tree.{expressions_of}
use Rattle.v_value.specs.Narrow.{AreNarrow}
use Rattle.v_value.specs.Links.{AreLinksNarrow, AreTestsNarrow, AreChoicesNarrow, links_width, choices_width}
use Rattle.v_value.specs.Evaluation.{links_value, AreLinksWithin, choices_value, AreChoicesWithin, parts_value, parts_width, tests_value, context_width}
use Rattle.verilog_meaning.specs.Expression.{widths_of}
use Rattle.v_value.proofs.+value.Given as goal

abbrev pub invariant-value::linked_value-loop-link : goal.invariant-value::linked_value-loop-link
invariant-value::linked_value-loop-link l = record {
  same : links_value (scope_at l.scope) (valuation_at l.values) l.width l.signed l.first l.links
      ≡ links_value (scope_at l.scope) (valuation_at l.values) l.width l.signed l.left (drop l.link-index l.links);
  narrow : AreLinksNarrow (scope_at l.scope) (drop l.link-index l.links);
  within : AreLinksWithin (scope_at l.scope) l.width (drop l.link-index l.links);
  fits : l.left < 2 ^ l.width;
}

abbrev pub invariant-value::chosen_value-loop-choice : goal.invariant-value::chosen_value-loop-choice
invariant-value::chosen_value-loop-choice l = record {
  same : choices_value (scope_at l.scope) (valuation_at l.values) l.choices l.width l.signed
      ≡ choices_value (scope_at l.scope) (valuation_at l.values) (drop l.choice-index l.choices) l.width l.signed;
  narrow : AreChoicesNarrow (scope_at l.scope) (drop l.choice-index l.choices);
  within : AreChoicesWithin (scope_at l.scope) l.width (drop l.choice-index l.choices);
}

abbrev pub invariant-value::joined-loop-part : goal.invariant-value::joined-loop-part
invariant-value::joined-loop-part l = record {
  width : parts_width (scope_at l.scope) l.parts ≡ l.width + parts_width (scope_at l.scope) (drop l.part-index l.parts);
  value : parts_value (scope_at l.scope) (valuation_at l.values) l.parts
      ≡ l.value * 2 ^ parts_width (scope_at l.scope) (drop l.part-index l.parts) + parts_value (scope_at l.scope) (valuation_at l.values) (drop l.part-index l.parts);
  fits : l.value < 2 ^ l.width;
  narrow : AreNarrow (scope_at l.scope) (expressions_of (drop l.part-index l.parts));
}

abbrev pub invariant-value::tests_value-loop-link : goal.invariant-value::tests_value-loop-link
invariant-value::tests_value-loop-link l = record {
  same : tests_value (scope_at l.scope) (valuation_at l.values) l.initial.left.width l.initial.left.signed l.initial.left.value l.links
      ≡ tests_value (scope_at l.scope) (valuation_at l.values) l.left.width l.left.signed l.left.value (drop l.link-index l.links);
  narrow : AreTestsNarrow (scope_at l.scope) (drop l.link-index l.links);
  some_bits : 1 ≤ l.left.width;
  at_most_128 : l.left.width ≤ 128;
  fits : l.left.value < 2 ^ context_width (scope_at l.scope) l.left.width (drop l.link-index l.links) l.width;
}

abbrev pub invariant-width::parts_width-loop-part : goal.invariant-width::parts_width-loop-part
invariant-width::parts_width-loop-part l = record {
  total : widths_of (scope_at l.scope) (expressions_of l.parts) ≡ l.width + widths_of (scope_at l.scope) (expressions_of (drop l.part-index l.parts));
  narrow : AreNarrow (scope_at l.scope) (expressions_of (drop l.part-index l.parts));
}

abbrev pub invariant-width::linked_width-loop-link : goal.invariant-width::linked_width-loop-link
invariant-width::linked_width-loop-link l = record {
  same : links_width (scope_at l.scope) l.initial.width l.links ≡ links_width (scope_at l.scope) l.width (drop l.link-index l.links);
  narrow : AreLinksNarrow (scope_at l.scope) (drop l.link-index l.links);
}

abbrev pub invariant-width::chosen_width-loop-choice : goal.invariant-width::chosen_width-loop-choice
invariant-width::chosen_width-loop-choice l = record {
  same : choices_width (scope_at l.scope) l.choices l.initial.width ≡ choices_width (scope_at l.scope) (drop l.choice-index l.choices) l.width;
  narrow : AreChoicesNarrow (scope_at l.scope) (drop l.choice-index l.choices);
}
