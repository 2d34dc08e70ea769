use Rattle.std.proofs.Common.{◌≡◌, ◌++◌, [], ◌∷◌, drop}
use Rattle.reports.specs.Report.{with_commas}
use Rattle.v_design.specs.Seen.{parts_of}
use Rattle.trace_texts.specs.Texts.{rest_after}
use Rattle.trace_texts.proofs.Cycles.{cycle_texts}
use Rattle.trace_texts.proofs.text.append_cycles.Given as goal

abbrev pub invariant-loop-index : goal.invariant-loop-index
invariant-loop-index l =
    l.out.items ++ rest_after l.index (cycle_texts (parts_of l.fn.design) l.fn.places (drop l.index l.fn.inputs))
    ≡ (l.fn.out.items ++ 91 ∷ []) ++ with_commas (cycle_texts (parts_of l.fn.design) l.fn.places l.fn.inputs)
