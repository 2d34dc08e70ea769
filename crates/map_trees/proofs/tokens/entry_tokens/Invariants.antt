use Rattle.std.proofs.Common.{take}
use Rattle.std.specs.List.{AllZip}
use Rattle.map_file.specs.View.{mapped_view}
use Rattle.map_trees.specs.Tokens.{IsInputEntry}
use Rattle.map_trees.proofs.tokens.entry_tokens.Given as goal

abbrev pub invariant-loop-entry : goal.invariant-loop-entry
invariant-loop-entry l = AllZip (λ x e. IsInputEntry x (mapped_view e)) l.list.items (take l.entry-index l.entries)
