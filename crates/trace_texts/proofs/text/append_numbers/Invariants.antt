use Rattle.std.proofs.Common.{◌≡◌, ◌++◌, [], ◌∷◌, drop}
use Rattle.reports.specs.Report.{number_texts, with_commas}
use Rattle.trace_texts.specs.Texts.{rest_after}
use Rattle.trace_texts.proofs.text.append_numbers.Given as goal

abbrev pub invariant-loop-index : goal.invariant-loop-index
invariant-loop-index l =
    l.out.items ++ rest_after l.index (number_texts (drop l.index l.fn.numbers)) ≡ (l.fn.out.items ++ 91 ∷ []) ++ with_commas (number_texts l.fn.numbers)
