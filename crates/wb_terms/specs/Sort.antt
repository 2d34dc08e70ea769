-- What a sort of the code stands for.
use Rattle.wb_values.specs.Value as meaning
use Rattle.wb_terms.specs.declared.sorts.Sort.{Sort}
use Rattle.wb_terms.specs.declared.sorts.Sort.TheVariants.{Truth, Word, Memory}

abbrev pub as_sort : Sort → meaning.Sort
as_sort Truth = meaning.truth
as_sort (Word w) = meaning.word w
as_sort (Memory a d) = meaning.memory a d
