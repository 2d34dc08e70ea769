use Rattle.std.proofs.Common.{take}
use Rattle.std.specs.List.{AllZip}
use Rattle.map_file.specs.View.{entry_view}
use Rattle.map_trees.specs.Tokens.{IsInstructionEntry}
use Rattle.map_trees.proofs.tokens.instruction_tokens.Given as goal

abbrev pub invariant-loop-entry : goal.invariant-loop-entry
invariant-loop-entry l = AllZip (λ x e. IsInstructionEntry x (entry_view e)) l.list.items (take l.entry-index l.entries)
