use Rattle.std.proofs.Common.{◌≡◌, map, length}
use Rattle.verilog_text.specs.Token.{colon}
use Rattle.v_token.specs.View.{tokens_of}
use Rattle.v_syntax.specs.Tree.{tree_of}
use Rattle.v_expr.specs.Repeat.{repeated}
use Rattle.v_expr.specs.Reading.{after_mark}
use Rattle.v_expr.specs.Whole.{whole_at}
use Rattle.v_expr.proofs.Repeat.{with_front}
use Rattle.v_body.specs.Words.{behind_comma, listed_at}
use Rattle.v_expr.specs.Flat.{IsFlat, Each}
use Rattle.v_body.proofs.part.values.Given as goal

abbrev pub invariant-loop-after : goal.invariant-loop-after
invariant-loop-after l = (with_front (map tree_of l.values.items) (repeated (after_mark colon) (behind_comma whole_at) (tokens_of l.rest)) ≡ listed_at colon whole_at (tokens_of l.tokens)) × Each IsFlat l.values.items

abbrev pub decreases-loop-after : goal.decreases-loop-after
decreases-loop-after l = length (tokens_of l.rest)
