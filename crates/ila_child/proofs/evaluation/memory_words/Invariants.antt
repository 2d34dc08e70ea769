use Rattle.std.proofs.Common.{◌≡◌, ◌<◌, take}
use Rattle.wb_values.specs.Value.{as_words}
use Rattle.model_meaning.specs.Term.{sort_of}
use Rattle.wb_terms.specs.Graph.{tree}
use Rattle.wb_terms.specs.Environment.{HasSortOf, value_of}
use Rattle.ila_child.proofs.evaluation.memory_words.Given as goal

abbrev pub invariant-loop-address : goal.invariant-loop-address
invariant-loop-address l = record {
  values : l.values.items ≡ take l.address (as_words (value_of l.terms l.env l.id.0));
  sorted : 0 < l.address → HasSortOf (value_of l.terms l.env l.id.0) (sort_of (tree l.terms l.id.0));
}
