use Rattle.std.proofs.Common.{◌≡◌, ◌≤◌, Some, length}
use Rattle.std.specs.String.{string_bytes}
use Rattle.verilog_text.specs.Grammar.{dotted_from}
use Rattle.v_token.specs.View.{tokens_of}
use Rattle.v_dotted.proofs.dotted.dotted_name.Given as goal

abbrev pub invariant-loop-text : goal.invariant-loop-text
invariant-loop-text l =
    (dotted_from (Some l.first) (tokens_of l.tokens) ≡ dotted_from (Some (string_bytes l.text)) (tokens_of l.rest)) × (length (tokens_of l.rest) ≤ length (tokens_of l.tokens))

abbrev pub decreases-loop-text : goal.decreases-loop-text
decreases-loop-text l = length (tokens_of l.rest)
