use Rattle.std.proofs.Common.{◌∙◌, IsTrue, Some, ap, sym, subst}
use Rattle.model_meaning.specs.Term.{is_sort}
use Rattle.wb_terms.specs.Sort.{as_sort}
use Rattle.emitted_modules.specs.Rtl as rtl
use Rattle.emitted_trees.proofs.Leaves.{few_address_bits}
use Rattle.emitted_trees.proofs.ports.addresses_of_sort.Goals as goal

pub addresses-requires : goal.addresses-requires
addresses-requires c = few_address_bits c.in-Memory.address_width c.in-Memory.field-1 (subst (λ s. IsTrue (is_sort (as_sort s))) c.in-Memory.is c.requires)

pub returns-in_ok-range-in-Memory : goal.returns-in_ok-range-in-Memory
returns-in_ok-range-in-Memory c = ap Some c.in_ok-range-in-Memory.ensures ∙ sym (ap (λ s. rtl.addresses_of_sort (as_sort s)) c.in-Memory.is)
