use Rattle.std.proofs.Common.{◌≡◌, ◌∙◌, ◌≤◌, Some, IsTrue, ap, sym, arith}
use Rattle.model_meaning.specs.Term.{is_sort}
use Rattle.wb_terms.specs.declared.sorts.Sort.{Sort}
use Rattle.wb_terms.specs.Sort.{as_sort}
use Rattle.ob_mem.proofs.Imaging.{memory_bounds}
use Rattle.ob_mem.proofs.images.put_image.Goals as goal

pub put_memory-requires-clause-some : goal.put_memory-requires-clause-some
put_memory-requires-clause-some c = (memory_bounds c.in-Memory.address_width c.in-Memory.field-1 (ap (λ (s : Sort). is_sort (as_sort s)) (sym c.in-Memory.is) ∙ c.sort.ensures.in_range)).0

pub put_memory-requires-clause-narrow : goal.put_memory-requires-clause-narrow
put_memory-requires-clause-narrow c = (memory_bounds c.in-Memory.address_width c.in-Memory.field-1 (ap (λ (s : Sort). is_sort (as_sort s)) (sym c.in-Memory.is) ∙ c.sort.ensures.in_range)).1
