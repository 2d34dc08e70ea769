use Rattle.std.proofs.Common.{◌≡◌, ◌+◌, ◌++◌, map, length, drop}
use Rattle.std.specs.String.{string_bytes}
use Rattle.wb_terms.specs.Entries.{name_of}
use Rattle.wb_terms.specs.Renamed.{renamed}
use Rattle.wb_terms.proofs.store.Declared.renamed.Given as goal

abbrev pub invariant-loop-name : goal.invariant-loop-name
invariant-loop-name l = record {
  count : length l.news.items + length l.name-iterator.rest.items ≡ length l.olds;
  table : map name_of l.news.items ++ renamed (map string_bytes l.name-iterator.rest.items) (drop (length l.news.items) (map name_of l.olds))
      ≡ renamed (map string_bytes l.fn.names.items) (map name_of l.olds);
}
