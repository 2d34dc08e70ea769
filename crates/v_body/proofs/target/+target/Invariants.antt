use Rattle.std.proofs.Common.{◌≡◌, ◌+◌, ◌*◌, map, length}
use Rattle.verilog_text.specs.Token.{right_brace}
use Rattle.v_token.specs.View.{tokens_of}
use Rattle.v_syntax.specs.Tree.{target_of}
use Rattle.v_expr.specs.Repeat.{repeated}
use Rattle.v_expr.specs.Reading.{after_mark}
use Rattle.v_expr.proofs.Repeat.{with_front}
use Rattle.v_body.specs.Words.{behind_comma, listed_at}
use Rattle.v_body.specs.Targets.{target_in}
use Rattle.v_expr.specs.Flat.{Each}
use Rattle.v_body.specs.Flat.{IsFlatTarget}
use Rattle.v_body.proofs.target.+target.Given as goal

abbrev pub decreases-nested : goal.decreases-nested
decreases-nested l = 4 * l.levels

abbrev pub decreases-next : goal.decreases-next
decreases-next l = 4 * l.levels + 1

abbrev pub decreases-parts : goal.decreases-parts
decreases-parts l = 4 * l.levels + 2

abbrev pub decreases-outer : goal.decreases-outer
decreases-outer l = 4 * l.levels + 3

abbrev pub invariant-parts-loop-after : goal.invariant-parts-loop-after
invariant-parts-loop-after l =
    (with_front (map target_of l.targets.items) (repeated (after_mark right_brace) (behind_comma (target_in l.levels)) (tokens_of l.rest)) ≡ listed_at right_brace (target_in l.levels) (tokens_of l.tokens))
    × Each IsFlatTarget l.targets.items

abbrev pub decreases-parts-loop-after : goal.decreases-parts-loop-after
decreases-parts-loop-after l = length (tokens_of l.rest)
