use Rattle.std.proofs.Common.{take}
use Rattle.std.specs.List.{AllZip}
use Rattle.std.specs.String.{string_bytes}
use Rattle.map_trees.specs.Tokens.{IsTokens}
use Rattle.map_trees.proofs.tokens.all_tokens.Given as goal

abbrev pub invariant-loop-text : goal.invariant-loop-text
invariant-loop-text l = AllZip (λ x s. IsTokens x (string_bytes s)) l.list.items (take l.text-index l.texts)
