use Rattle.std.proofs.Common.{◌≡◌, ◌<◌, length, take}
use Rattle.wb_values.specs.Value.{as_words}
use Rattle.model_meaning.specs.Term.{sort_of}
use Rattle.wb_terms.specs.Graph.{tree}
use Rattle.wb_terms.specs.Environment.{HasSortOf, value_of}
use Rattle.v_cycle.proofs.setting.set_words.Given as goal

abbrev pub invariant-loop-address : goal.invariant-loop-address
invariant-loop-address l = record {
  set : take l.address l.list ≡ take l.address (as_words (value_of l.terms l.env l.id.0));
  long : length l.list ≡ length l.initial.list;
  sorted : 0 < l.address → HasSortOf (value_of l.terms l.env l.id.0) (sort_of (tree l.terms l.id.0));
}
