use Rattle.std.proofs.Common.{◌≡◌, ◌++◌, [], ◌∷◌, drop, map}
use Rattle.wb_values.specs.Value.{number}
use Rattle.reports.specs.Report.{member_texts, with_commas}
use Rattle.v_design.specs.Seen.{parts_of}
use Rattle.trace_texts.specs.Told.{input_entry}
use Rattle.trace_texts.specs.Texts.{rest_after}
use Rattle.trace_texts.proofs.text.append_inputs.Given as goal

abbrev pub invariant-loop-index : goal.invariant-loop-index
invariant-loop-index l =
    let entry = input_entry (parts_of l.fn.design) (map number l.fn.numbers) in
    l.out.items ++ rest_after l.index (member_texts (map entry (drop l.index l.fn.places)))
    ≡ (l.fn.out.items ++ 123 ∷ []) ++ with_commas (member_texts (map entry l.fn.places))
