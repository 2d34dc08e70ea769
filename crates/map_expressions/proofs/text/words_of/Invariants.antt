use Rattle.std.proofs.Common.{◌≡◌, ◌++◌, map, drop}
use Rattle.v_dotted.specs.Dotted.{owned_tokens_of}
use Rattle.map_expressions.specs.Reading.{words_of}
use Rattle.map_expressions.proofs.text.words_of.Given as goal

abbrev pub invariant-loop-token : goal.invariant-loop-token
invariant-loop-token l = (map (λ n. n.now) l.names.items ++ words_of (owned_tokens_of (drop l.token-index l.tokens))) ≡ words_of (owned_tokens_of l.tokens)
