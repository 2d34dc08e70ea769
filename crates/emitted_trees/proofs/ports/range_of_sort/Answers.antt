use Rattle.std.proofs.Common.{◌∙◌, ap, sym, Some}
use Rattle.wb_terms.specs.Sort.{as_sort}
use Rattle.emitted_modules.specs.Rtl as rtl
use Rattle.emitted_trees.proofs.ports.range_of_sort.Goals as goal

pub returns-in_ok-range-in-Word : goal.returns-in_ok-range-in-Word
returns-in_ok-range-in-Word c = ap Some c.in_ok-range-in-Word.ensures ∙ sym (ap (λ s. rtl.range_of_sort (as_sort s)) c.in-Word.is)

pub returns-in_ok-range-in-Memory : goal.returns-in_ok-range-in-Memory
returns-in_ok-range-in-Memory c = ap Some c.in_ok-range-in-Memory.ensures ∙ sym (ap (λ s. rtl.range_of_sort (as_sort s)) c.in-Memory.is)
